use Rattle.std.proofs.Common.{length, sym, ap, ◌∙◌, arith, ◌+◌, ◌<◌, ◌≤◌, replicate}
use Rattle.capnp_format.specs.Bytes.{message}
use Rattle.capnp_format.specs.Segments.{segment}
use Rattle.capnp_arena.specs.Kept.{arena_rows}
use Rattle.capnp_arena.specs.Row.{shown, capacity_at}
use Rattle.capnp_arena.specs.RoomLemmas.{rows_small}
use Rattle.capnp_arena.proofs.KeptLemmas.{kept_apart, kept_listed, of_apart, of_listed, written_apart, written_listed}
use Rattle.capnp_arena_traits.specs.Written.{extended}
use Rattle.capnp_arena.proofs.RowsLemmas.{length_shown}
use Rattle.capnp_arena.proofs.arena.builder_arena_impl.BuilderArenaImpl.allocate_fitting.Goals as goal

pub returns-then-keeps_first_in_arena-clause-small : goal.returns-then-keeps_first_in_arena-clause-small
returns-then-keeps_first_in_arena-clause-small g c =
    let seg = g.A.Segment.Segment in
    let b = c.args.self.now in
    let f = g.A.Allocator.first_in_arena in
    let same = ap (λ rows. length (segment (message (shown seg rows)) c.args.id)) (kept_apart seg f b.listed b.apart (sym c.keeps_first_in_arena.ensures ∙ c.if-keeps_first_in_arena.true)) in
    omega (arith, same, c.allocate_fitting.ensures.at, c.requires.fits, rows_small seg (arena_rows seg f b.listed b.apart) c.args.id)

pub returns-else-keeps_first_in_arena-clause-small : goal.returns-else-keeps_first_in_arena-clause-small
returns-else-keeps_first_in_arena-clause-small g c =
    let seg = g.A.Segment.Segment in
    let b = c.args.self.now in
    let f = g.A.Allocator.first_in_arena in
    let same = ap (λ rows. length (segment (message (shown seg rows)) c.args.id)) (kept_listed seg f b.listed b.apart (sym c.keeps_first_in_arena.ensures ∙ c.if-keeps_first_in_arena.false)) in
    omega (arith, same, c.allocate_fitting-else-keeps_first_in_arena.ensures.at, c.requires.fits, rows_small seg (arena_rows seg f b.listed b.apart) c.args.id)

pub allocate_fitting-requires-clause-there : goal.allocate_fitting-requires-clause-there
allocate_fitting-requires-clause-there g c =
    let seg = g.A.Segment.Segment in
    let f = g.A.Allocator.first_in_arena in
    let b = c.args.self.now in
    of_apart seg (λ rows. c.args.id < length rows) f b.listed b.apart (sym c.keeps_first_in_arena.ensures ∙ c.if-keeps_first_in_arena.true) (omega (arith, c.requires.there, length_shown seg (arena_rows seg f b.listed b.apart)))

pub allocate_fitting-requires-clause-fits : goal.allocate_fitting-requires-clause-fits
allocate_fitting-requires-clause-fits g c =
    let seg = g.A.Segment.Segment in
    let f = g.A.Allocator.first_in_arena in
    let b = c.args.self.now in
    of_apart seg (λ rows. length (segment (message (shown seg rows)) c.args.id) + c.args.amount ≤ capacity_at seg rows c.args.id) f b.listed b.apart (sym c.keeps_first_in_arena.ensures ∙ c.if-keeps_first_in_arena.true) c.requires.fits

pub returns-then-keeps_first_in_arena-clause-at : goal.returns-then-keeps_first_in_arena-clause-at
returns-then-keeps_first_in_arena-clause-at g c =
    let seg = g.A.Segment.Segment in
    let f = g.A.Allocator.first_in_arena in
    let b = c.args.self.now in
    c.allocate_fitting.ensures.at ∙ sym (ap (λ rows. length (segment (message (shown seg rows)) c.args.id)) (kept_apart seg f b.listed b.apart (sym c.keeps_first_in_arena.ensures ∙ c.if-keeps_first_in_arena.true)))

pub returns-then-keeps_first_in_arena-clause-taken : goal.returns-then-keeps_first_in_arena-clause-taken
returns-then-keeps_first_in_arena-clause-taken g c =
    let seg = g.A.Segment.Segment in
    let f = g.A.Allocator.first_in_arena in
    let b = c.args.self.now in
    let h = c.allocate_fitting.ensures.taken in
    written_apart seg (λ S. extended S c.args.id (replicate c.args.amount 0)) f b.listed b.apart c.allocate_fitting.new.self (sym c.keeps_first_in_arena.ensures ∙ c.if-keeps_first_in_arena.true) h.words h.room

pub allocate_fitting-requires-else-keeps_first_in_arena-clause-there : goal.allocate_fitting-requires-else-keeps_first_in_arena-clause-there
allocate_fitting-requires-else-keeps_first_in_arena-clause-there g c =
    let seg = g.A.Segment.Segment in
    let f = g.A.Allocator.first_in_arena in
    let b = c.args.self.now in
    of_listed seg (λ rows. c.args.id < length rows) f b.listed b.apart (sym c.keeps_first_in_arena.ensures ∙ c.if-keeps_first_in_arena.false) (omega (arith, c.requires.there, length_shown seg (arena_rows seg f b.listed b.apart)))

pub allocate_fitting-requires-else-keeps_first_in_arena-clause-fits : goal.allocate_fitting-requires-else-keeps_first_in_arena-clause-fits
allocate_fitting-requires-else-keeps_first_in_arena-clause-fits g c =
    let seg = g.A.Segment.Segment in
    let f = g.A.Allocator.first_in_arena in
    let b = c.args.self.now in
    of_listed seg (λ rows. length (segment (message (shown seg rows)) c.args.id) + c.args.amount ≤ capacity_at seg rows c.args.id) f b.listed b.apart (sym c.keeps_first_in_arena.ensures ∙ c.if-keeps_first_in_arena.false) c.requires.fits

pub returns-else-keeps_first_in_arena-clause-at : goal.returns-else-keeps_first_in_arena-clause-at
returns-else-keeps_first_in_arena-clause-at g c =
    let seg = g.A.Segment.Segment in
    let f = g.A.Allocator.first_in_arena in
    let b = c.args.self.now in
    c.allocate_fitting-else-keeps_first_in_arena.ensures.at ∙ sym (ap (λ rows. length (segment (message (shown seg rows)) c.args.id)) (kept_listed seg f b.listed b.apart (sym c.keeps_first_in_arena.ensures ∙ c.if-keeps_first_in_arena.false)))

pub returns-else-keeps_first_in_arena-clause-taken : goal.returns-else-keeps_first_in_arena-clause-taken
returns-else-keeps_first_in_arena-clause-taken g c =
    let seg = g.A.Segment.Segment in
    let f = g.A.Allocator.first_in_arena in
    let b = c.args.self.now in
    let h = c.allocate_fitting-else-keeps_first_in_arena.ensures.taken in
    written_listed seg (λ S. extended S c.args.id (replicate c.args.amount 0)) f b.listed c.allocate_fitting-else-keeps_first_in_arena.new.self b.apart (sym c.keeps_first_in_arena.ensures ∙ c.if-keeps_first_in_arena.false) h.words h.room
