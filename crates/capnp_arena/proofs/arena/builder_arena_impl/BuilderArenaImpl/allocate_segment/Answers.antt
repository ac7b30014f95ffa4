use Rattle.std.proofs.Common.{◌≤◌, IsTrue, length, inr, refl, ◌∙◌, arith}
use Rattle.std.proofs.lemmas.Bool.{false≢true}
use Rattle.std.proofs.lemmas.Result.{err_from_is_err_and, IfOk-equal}
use Rattle.capnp_arena.specs.Kept.{arena_rows}
use Rattle.capnp_arena.specs.Row.{capacity_at, shown}
use Rattle.capnp_arena.proofs.KeptLemmas.{kept_few}
use Rattle.capnp_arena.proofs.PutLemmas.{put_below, put_made, put_named, put_room, put_same, refused_by}
use Rattle.capnp_arena.proofs.RowsLemmas.{length_shown}
use Rattle.capnp_arena.proofs.arena.builder_arena_impl.BuilderArenaImpl.allocate_segment.Goals as goal

pub push_segment-requires-clause-few : goal.push_segment-requires-clause-few
push_segment-requires-clause-few g c =
    let seg = g.A.Segment.Segment in
    let f = g.A.Allocator.first_in_arena in
    let b = c.args.self.now in
    omega (arith, length_shown seg (arena_rows seg f b.listed b.apart), c.len.ensures, c.if-len-ge-MAX_SEGMENTS.false)

pub returns-clause-made : goal.returns-clause-made
returns-clause-made g c =
    let seg = g.A.Segment.Segment in
    let f = g.A.Allocator.first_in_arena in
    let b = c.args.self.now in
    put_made seg c.push_segment.result (arena_rows seg f b.listed b.apart) (arena_rows seg f c.push_segment.new.self.listed c.push_segment.new.self.apart) _ c.push_segment.ensures.put

pub returns-clause-least : goal.returns-clause-least
returns-clause-least g c =
    let seg = g.A.Segment.Segment in
    let f = g.A.Allocator.first_in_arena in
    let b = c.args.self.now in
    put_room seg (λ n. c.args.min ≤ n) c.push_segment.result (arena_rows seg f b.listed b.apart) (arena_rows seg f c.push_segment.new.self.listed c.push_segment.new.self.apart) _ c.in_ok-segment.ensures.fresh.1 c.push_segment.ensures.put

pub returns-clause-size : goal.returns-clause-size
returns-clause-size g c =
    let seg = g.A.Segment.Segment in
    let f = g.A.Allocator.first_in_arena in
    let b = c.args.self.now in
    put_room seg (λ n. IsTrue (g.A.Allocator.offers b.allocator c.args.min n)) c.push_segment.result (arena_rows seg f b.listed b.apart) (arena_rows seg f c.push_segment.new.self.listed c.push_segment.new.self.apart) _ c.in_ok-segment.ensures.size c.push_segment.ensures.put

pub returns-clause-granted : goal.returns-clause-granted
returns-clause-granted g c =
    let seg = g.A.Segment.Segment in
    let f = g.A.Allocator.first_in_arena in
    let b = c.args.self.now in
    IfOk-equal c.push_segment.result _ _ _ c.push_segment.ensures.counted.granted c.in_ok-segment.ensures.counted

pub returns-clause-room : goal.returns-clause-room
returns-clause-room g c =
    let seg = g.A.Segment.Segment in
    let f = g.A.Allocator.first_in_arena in
    let b = c.args.self.now in
    put_below seg c.push_segment.result (arena_rows seg f b.listed b.apart) (arena_rows seg f c.push_segment.new.self.listed c.push_segment.new.self.apart) _ c.push_segment.ensures.put c.push_segment.ensures.refused

pub returns-clause-many : goal.returns-clause-many
returns-clause-many g c many =
    let seg = g.A.Segment.Segment in
    let f = g.A.Allocator.first_in_arena in
    let b = c.args.self.now in
    absurd (omega (arith, many, length_shown seg (arena_rows seg f b.listed b.apart), c.len.ensures, c.if-len-ge-MAX_SEGMENTS.false))

pub returns-clause-large : goal.returns-clause-large
returns-clause-large g c few more = absurd (omega (arith, more, c.in_ok-segment.ensures.fresh.1, c.in_ok-segment.ensures.fresh.2))

pub returns-clause-first : goal.returns-clause-first
returns-clause-first g c none first sure = c.push_segment.ensures.first none first

pub returns-clause-named : goal.returns-clause-named
returns-clause-named g c =
    let seg = g.A.Segment.Segment in
    let f = g.A.Allocator.first_in_arena in
    let b = c.args.self.now in
    put_named c.push_segment.result (length (shown seg (arena_rows seg f b.listed b.apart))) c.args.min (g.A.Allocator.refusals c.push_segment.new.self.allocator) (omega (arith, length_shown seg (arena_rows seg f b.listed b.apart), c.len.ensures, c.if-len-ge-MAX_SEGMENTS.false)) (omega (arith, c.in_ok-segment.ensures.fresh.1, c.in_ok-segment.ensures.fresh.2)) c.in_ok-segment.ensures.counted c.push_segment.ensures.counted.named c.push_segment.ensures.counted.counted

pub returns-clause-refused : goal.returns-clause-refused
returns-clause-refused g c =
    let seg = g.A.Segment.Segment in
    let f = g.A.Allocator.first_in_arena in
    let b = c.args.self.now in
    put_same seg (shown seg) c.push_segment.result (arena_rows seg f b.listed b.apart) (arena_rows seg f c.push_segment.new.self.listed c.push_segment.new.self.apart) c.push_segment.ensures.refused

pub returns-clause-refused_room : goal.returns-clause-refused_room
returns-clause-refused_room g c =
    let seg = g.A.Segment.Segment in
    let f = g.A.Allocator.first_in_arena in
    let b = c.args.self.now in
    put_same seg (capacity_at seg) c.push_segment.result (arena_rows seg f b.listed b.apart) (arena_rows seg f c.push_segment.new.self.listed c.push_segment.new.self.apart) c.push_segment.ensures.refused

pub returns-clause-offers : goal.returns-clause-offers
returns-clause-offers g c = c.push_segment.ensures.counted.offers ∙ c.allocate_segment.ensures.offers

pub returns-in_err-segment-clause-made : goal.returns-in_err-segment-clause-made
returns-in_err-segment-clause-made g c = let p = err_from_is_err_and c.from_residual.result c.from_residual.ensures.1 in rw p.1 tt

pub returns-in_err-segment-clause-least : goal.returns-in_err-segment-clause-least
returns-in_err-segment-clause-least g c = let p = err_from_is_err_and c.from_residual.result c.from_residual.ensures.1 in rw p.1 tt

pub returns-in_err-segment-clause-size : goal.returns-in_err-segment-clause-size
returns-in_err-segment-clause-size g c = let p = err_from_is_err_and c.from_residual.result c.from_residual.ensures.1 in rw p.1 tt

pub returns-in_err-segment-clause-granted : goal.returns-in_err-segment-clause-granted
returns-in_err-segment-clause-granted g c = let p = err_from_is_err_and c.from_residual.result c.from_residual.ensures.1 in rw p.1 tt

pub returns-in_err-segment-clause-room : goal.returns-in_err-segment-clause-room
returns-in_err-segment-clause-room g c k below = refl

pub returns-in_err-segment-clause-many : goal.returns-in_err-segment-clause-many
returns-in_err-segment-clause-many g c many =
    let seg = g.A.Segment.Segment in
    let f = g.A.Allocator.first_in_arena in
    let b = c.args.self.now in
    absurd (omega (arith, many, length_shown seg (arena_rows seg f b.listed b.apart), c.len.ensures, c.if-len-ge-MAX_SEGMENTS.false))

pub returns-in_err-segment-clause-large : goal.returns-in_err-segment-clause-large
returns-in_err-segment-clause-large g c few more = let p = err_from_is_err_and c.from_residual.result c.from_residual.ensures.1 in let is = (c.in_err-segment.ensures.too_large more).0 in rw (p.1, p.2) cc

pub returns-in_err-segment-clause-first : goal.returns-in_err-segment-clause-first
returns-in_err-segment-clause-first g c none first sure = absurd (false≢true (c.in_err-segment.ensures.sure sure))

pub returns-in_err-segment-clause-named : goal.returns-in_err-segment-clause-named
returns-in_err-segment-clause-named g c =
    let seg = g.A.Segment.Segment in
    let f = g.A.Allocator.first_in_arena in
    let b = c.args.self.now in
    let p = err_from_is_err_and c.from_residual.result c.from_residual.ensures.1 in rw (p.1, p.2) (refused_by (length (shown seg (arena_rows seg f b.listed b.apart))) c.args.min (omega (arith, length_shown seg (arena_rows seg f b.listed b.apart), c.len.ensures, c.if-len-ge-MAX_SEGMENTS.false)) c.in_err-segment.ensures.too_large c.in_err-segment.ensures.refused)

pub returns-in_err-segment-clause-refused : goal.returns-in_err-segment-clause-refused
returns-in_err-segment-clause-refused g c = let p = err_from_is_err_and c.from_residual.result c.from_residual.ensures.1 in rw p.1 refl

pub returns-in_err-segment-clause-refused_room : goal.returns-in_err-segment-clause-refused_room
returns-in_err-segment-clause-refused_room g c = let p = err_from_is_err_and c.from_residual.result c.from_residual.ensures.1 in rw p.1 refl

pub returns-in_err-segment-clause-offers : goal.returns-in_err-segment-clause-offers
returns-in_err-segment-clause-offers g c = c.allocate_segment.ensures.offers

pub returns-then-len-ge-MAX_SEGMENTS-clause-made : goal.returns-then-len-ge-MAX_SEGMENTS-clause-made
returns-then-len-ge-MAX_SEGMENTS-clause-made g c = tt

pub returns-then-len-ge-MAX_SEGMENTS-clause-least : goal.returns-then-len-ge-MAX_SEGMENTS-clause-least
returns-then-len-ge-MAX_SEGMENTS-clause-least g c = tt

pub returns-then-len-ge-MAX_SEGMENTS-clause-size : goal.returns-then-len-ge-MAX_SEGMENTS-clause-size
returns-then-len-ge-MAX_SEGMENTS-clause-size g c = tt

pub returns-then-len-ge-MAX_SEGMENTS-clause-granted : goal.returns-then-len-ge-MAX_SEGMENTS-clause-granted
returns-then-len-ge-MAX_SEGMENTS-clause-granted g c = tt

pub returns-then-len-ge-MAX_SEGMENTS-clause-room : goal.returns-then-len-ge-MAX_SEGMENTS-clause-room
returns-then-len-ge-MAX_SEGMENTS-clause-room g c k below = refl

pub returns-then-len-ge-MAX_SEGMENTS-clause-many : goal.returns-then-len-ge-MAX_SEGMENTS-clause-many
returns-then-len-ge-MAX_SEGMENTS-clause-many g c many = refl

pub returns-then-len-ge-MAX_SEGMENTS-clause-large : goal.returns-then-len-ge-MAX_SEGMENTS-clause-large
returns-then-len-ge-MAX_SEGMENTS-clause-large g c few more =
    let seg = g.A.Segment.Segment in
    let f = g.A.Allocator.first_in_arena in
    let b = c.args.self.now in
    absurd (omega (arith, few, length_shown seg (arena_rows seg f b.listed b.apart), c.len.ensures, c.if-len-ge-MAX_SEGMENTS.true))

pub returns-then-len-ge-MAX_SEGMENTS-clause-first : goal.returns-then-len-ge-MAX_SEGMENTS-clause-first
returns-then-len-ge-MAX_SEGMENTS-clause-first g c none _ _ =
    let seg = g.A.Segment.Segment in
    let f = g.A.Allocator.first_in_arena in
    let b = c.args.self.now in
    absurd (omega (arith, none, length_shown seg (arena_rows seg f b.listed b.apart), c.len.ensures, c.if-len-ge-MAX_SEGMENTS.true))

pub returns-then-len-ge-MAX_SEGMENTS-clause-named : goal.returns-then-len-ge-MAX_SEGMENTS-clause-named
returns-then-len-ge-MAX_SEGMENTS-clause-named g c =
    let seg = g.A.Segment.Segment in
    let f = g.A.Allocator.first_in_arena in
    let b = c.args.self.now in
    inr (inr (refl, omega (arith, length_shown seg (arena_rows seg f b.listed b.apart), c.len.ensures, c.if-len-ge-MAX_SEGMENTS.true, kept_few seg f b.listed b.apart), refl))

pub returns-then-len-ge-MAX_SEGMENTS-clause-refused : goal.returns-then-len-ge-MAX_SEGMENTS-clause-refused
returns-then-len-ge-MAX_SEGMENTS-clause-refused g c = refl

pub returns-then-len-ge-MAX_SEGMENTS-clause-refused_room : goal.returns-then-len-ge-MAX_SEGMENTS-clause-refused_room
returns-then-len-ge-MAX_SEGMENTS-clause-refused_room g c = refl

pub returns-then-len-ge-MAX_SEGMENTS-clause-offers : goal.returns-then-len-ge-MAX_SEGMENTS-clause-offers
returns-then-len-ge-MAX_SEGMENTS-clause-offers g c = refl
