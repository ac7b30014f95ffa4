use Rattle.std.proofs.Common.{◌+◌, ◌<◌, ◌≤◌, length, refl, sym, ap, ◌∙◌, subst, arith}
use Rattle.capnp_format.specs.Bytes.{message, words_of}
use Rattle.capnp_format.specs.Segments.{segment, words_at}
use Rattle.capnp_format.proofs.WordsOf.{words}
use Rattle.capnp_arena_traits.specs.View.{View, view_of}
use Rattle.capnp_arena_traits.specs.Written.{with_copied, with_words}
use Rattle.capnp_arena_traits.proofs.WordsLent.{lent_written, words_lent}
use Rattle.capnp_arena.specs.Kept.{apart_with_bytes, arena_rows, listed_with_bytes}
use Rattle.capnp_arena.specs.RoomLemmas.{same_room}
use Rattle.capnp_arena.specs.Row.{capacity_at, shown}
use Rattle.capnp_arena.specs.WithBytesLemmas.{kept_capacity, kept_shown}
use Rattle.capnp_arena.proofs.KeptLemmas.{of_apart, of_listed, written_apart, written_listed}
use Rattle.capnp_arena.proofs.RowLemmas.{moved_over}
use Rattle.capnp_arena.proofs.RowsLemmas.{row_there}
use Rattle.capnp_arena.proofs.arena.builder_arena_impl.BuilderArenaImplBuilderArena.move_words.Goals as goal

-- Words of one segment are moved through its bytes.
pub move_words-requires-clause-there : goal.move_words-requires-clause-there
move_words-requires-clause-there g c =
    let seg = g.A.Segment.Segment in
    let b = c.args.self.now in
    let B = shown seg (arena_rows seg g.A.Allocator.first_in_arena b.listed b.apart) in
    omega (arith, words_lent (message B) B c.args.to.segment c.segment_mut-bytes.result.now refl c.segment_mut-bytes.ensures.bytes, subst (λ k. c.args.from.at + c.args.n ≤ length (segment (message B) k)) c.if-from-to.true c.requires.there)

pub move_words-requires-clause-room : goal.move_words-requires-clause-room
move_words-requires-clause-room g c =
    let seg = g.A.Segment.Segment in
    let b = c.args.self.now in
    let B = shown seg (arena_rows seg g.A.Allocator.first_in_arena b.listed b.apart) in
    omega (arith, words_lent (message B) B c.args.to.segment c.segment_mut-bytes.result.now refl c.segment_mut-bytes.ensures.bytes, c.requires.inside)

pub returns-then-from-to : goal.returns-then-from-to
returns-then-from-to g c =
    let seg = g.A.Segment.Segment in
    let f = g.A.Allocator.first_in_arena in
    let b = c.args.self.now in
    let id = c.args.to.segment in
    let bs = c.segment_mut-bytes.result.now in
    let there = c.segment_mut-bytes.ensures.bytes in
    let ws = c.move_words.new.bytes in
    let rows = arena_rows seg f b.listed b.apart in
    let new_rows = arena_rows seg f (listed_with_bytes seg f b.listed id ws) (apart_with_bytes seg f b.apart id ws) in
    let refusals = g.A.Allocator.refusals b.allocator in
    let offers = g.A.Allocator.offers b.allocator in
    let old : View = view_of (message (shown seg rows)) (capacity_at seg rows) refusals offers in
    let new : View = view_of (message (shown seg new_rows)) (capacity_at seg new_rows) refusals offers in
    let many = words_lent (message (shown seg rows)) (shown seg rows) id bs refl there in
    let inside = subst (λ k. c.args.from.at + c.args.n ≤ length (segment (message (shown seg rows)) k)) c.if-from-to.true c.requires.there in
    lent_written old new (shown seg rows) (shown seg new_rows) id bs ws (λ xs. with_copied xs c.args.to.at xs c.args.from.at c.args.n)
    (same_room _ _ _ refusals offers (kept_capacity seg f b.listed b.apart id ws)) refl refl there (kept_shown seg f b.listed b.apart id bs ws there c.move_words.auto.bytes)
    (c.move_words.ensures ∙ moved_over (words_of bs) c.args.from.at c.args.to.at c.args.n (omega (arith, words bs, many, inside)))
    ∙ ap (λ k. record old { words = with_words old.words id c.args.to.at (words_at old.words k c.args.from.at c.args.n) }) (sym c.if-from-to.true)

pub copy_across-requires-clause-rows : goal.copy_across-requires-clause-rows
copy_across-requires-clause-rows g c =
    let seg = g.A.Segment.Segment in
    let f = g.A.Allocator.first_in_arena in
    let b = c.args.self.now in
    (of_apart seg (λ rows. c.args.from.segment < length rows) f b.listed b.apart (sym c.keeps_first_in_arena.ensures ∙ c.if-keeps_first_in_arena.true) (row_there seg (arena_rows seg f b.listed b.apart) c.args.from.segment c.args.from.at (omega (arith, c.requires.there, c.if-n-eq0.false))), of_apart seg (λ rows. c.args.to.segment < length rows) f b.listed b.apart (sym c.keeps_first_in_arena.ensures ∙ c.if-keeps_first_in_arena.true) (row_there seg (arena_rows seg f b.listed b.apart) c.args.to.segment c.args.to.at (omega (arith, c.requires.inside, c.if-n-eq0.false))))

pub copy_across-requires-clause-apart : goal.copy_across-requires-clause-apart
copy_across-requires-clause-apart g c =
    c.if-from-to.false

pub copy_across-requires-clause-there : goal.copy_across-requires-clause-there
copy_across-requires-clause-there g c =
    let seg = g.A.Segment.Segment in
    let f = g.A.Allocator.first_in_arena in
    let b = c.args.self.now in
    of_apart seg (λ rows. c.args.from.at + c.args.n ≤ length (segment (message (shown seg rows)) c.args.from.segment)) f b.listed b.apart (sym c.keeps_first_in_arena.ensures ∙ c.if-keeps_first_in_arena.true) c.requires.there

pub copy_across-requires-clause-inside : goal.copy_across-requires-clause-inside
copy_across-requires-clause-inside g c =
    let seg = g.A.Segment.Segment in
    let f = g.A.Allocator.first_in_arena in
    let b = c.args.self.now in
    of_apart seg (λ rows. c.args.to.at + c.args.n ≤ length (segment (message (shown seg rows)) c.args.to.segment)) f b.listed b.apart (sym c.keeps_first_in_arena.ensures ∙ c.if-keeps_first_in_arena.true) c.requires.inside

pub returns-then-keeps_first_in_arena : goal.returns-then-keeps_first_in_arena
returns-then-keeps_first_in_arena g c =
    let seg = g.A.Segment.Segment in
    let f = g.A.Allocator.first_in_arena in
    let b = c.args.self.now in
    written_apart seg (λ S. with_words S c.args.to.segment c.args.to.at (words_at S c.args.from.segment c.args.from.at c.args.n)) f b.listed b.apart c.copy_across.new.self (sym c.keeps_first_in_arena.ensures ∙ c.if-keeps_first_in_arena.true) c.copy_across.ensures.words c.copy_across.ensures.room

pub copy_across-requires-else-keeps_first_in_arena-clause-rows : goal.copy_across-requires-else-keeps_first_in_arena-clause-rows
copy_across-requires-else-keeps_first_in_arena-clause-rows g c =
    let seg = g.A.Segment.Segment in
    let f = g.A.Allocator.first_in_arena in
    let b = c.args.self.now in
    (of_listed seg (λ rows. c.args.from.segment < length rows) f b.listed b.apart (sym c.keeps_first_in_arena.ensures ∙ c.if-keeps_first_in_arena.false) (row_there seg (arena_rows seg f b.listed b.apart) c.args.from.segment c.args.from.at (omega (arith, c.requires.there, c.if-n-eq0.false))), of_listed seg (λ rows. c.args.to.segment < length rows) f b.listed b.apart (sym c.keeps_first_in_arena.ensures ∙ c.if-keeps_first_in_arena.false) (row_there seg (arena_rows seg f b.listed b.apart) c.args.to.segment c.args.to.at (omega (arith, c.requires.inside, c.if-n-eq0.false))))

pub copy_across-requires-else-keeps_first_in_arena-clause-apart : goal.copy_across-requires-else-keeps_first_in_arena-clause-apart
copy_across-requires-else-keeps_first_in_arena-clause-apart g c =
    c.if-from-to.false

pub copy_across-requires-else-keeps_first_in_arena-clause-there : goal.copy_across-requires-else-keeps_first_in_arena-clause-there
copy_across-requires-else-keeps_first_in_arena-clause-there g c =
    let seg = g.A.Segment.Segment in
    let f = g.A.Allocator.first_in_arena in
    let b = c.args.self.now in
    of_listed seg (λ rows. c.args.from.at + c.args.n ≤ length (segment (message (shown seg rows)) c.args.from.segment)) f b.listed b.apart (sym c.keeps_first_in_arena.ensures ∙ c.if-keeps_first_in_arena.false) c.requires.there

pub copy_across-requires-else-keeps_first_in_arena-clause-inside : goal.copy_across-requires-else-keeps_first_in_arena-clause-inside
copy_across-requires-else-keeps_first_in_arena-clause-inside g c =
    let seg = g.A.Segment.Segment in
    let f = g.A.Allocator.first_in_arena in
    let b = c.args.self.now in
    of_listed seg (λ rows. c.args.to.at + c.args.n ≤ length (segment (message (shown seg rows)) c.args.to.segment)) f b.listed b.apart (sym c.keeps_first_in_arena.ensures ∙ c.if-keeps_first_in_arena.false) c.requires.inside

pub returns-else-keeps_first_in_arena : goal.returns-else-keeps_first_in_arena
returns-else-keeps_first_in_arena g c =
    let seg = g.A.Segment.Segment in
    let f = g.A.Allocator.first_in_arena in
    let b = c.args.self.now in
    written_listed seg (λ S. with_words S c.args.to.segment c.args.to.at (words_at S c.args.from.segment c.args.from.at c.args.n)) f b.listed c.copy_across-else-keeps_first_in_arena.new.self b.apart (sym c.keeps_first_in_arena.ensures ∙ c.if-keeps_first_in_arena.false) c.copy_across-else-keeps_first_in_arena.ensures.words c.copy_across-else-keeps_first_in_arena.ensures.room
