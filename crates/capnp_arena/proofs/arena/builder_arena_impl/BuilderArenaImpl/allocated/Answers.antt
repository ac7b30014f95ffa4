use Rattle.std.proofs.Common.{◌≡◌, arith, length, ap, sym, subst, ◌∙◌}
use Rattle.std.specs.Prelude.{IfSome, slice_get, Some}
use Rattle.capnp_arena.specs.Kept.{arena_rows}
use Rattle.capnp_arena.specs.Row.{shown}
use Rattle.capnp_arena.proofs.RowsLemmas.{length_shown}
use Rattle.capnp_arena.proofs.KeptLemmas.{kept_apart, kept_listed}
use Rattle.capnp_arena.proofs.arena.builder_arena_impl.BuilderArenaImpl.allocated.Goals as goal

pub returns-then-keeps_first_in_arena-clause-bytes : goal.returns-then-keeps_first_in_arena-clause-bytes
returns-then-keeps_first_in_arena-clause-bytes g c =
    let seg = g.A.Segment.Segment in
    let b = c.args.self.now in
    subst (λ rows. IfSome c.allocated.result (λ s. slice_get (shown seg rows) c.args.id ≡ Some s.now)) (sym (kept_apart seg g.A.Allocator.first_in_arena b.listed b.apart (sym c.keeps_first_in_arena.ensures ∙ c.if-keeps_first_in_arena.true))) c.allocated.ensures.bytes

pub returns-else-keeps_first_in_arena-clause-bytes : goal.returns-else-keeps_first_in_arena-clause-bytes
returns-else-keeps_first_in_arena-clause-bytes g c =
    let seg = g.A.Segment.Segment in
    let b = c.args.self.now in
    subst (λ rows. IfSome c.allocated-else-keeps_first_in_arena.result (λ s. slice_get (shown seg rows) c.args.id ≡ Some s.now)) (sym (kept_listed seg g.A.Allocator.first_in_arena b.listed b.apart (sym c.keeps_first_in_arena.ensures ∙ c.if-keeps_first_in_arena.false))) c.allocated-else-keeps_first_in_arena.ensures.bytes

pub returns-then-keeps_first_in_arena-clause-there : goal.returns-then-keeps_first_in_arena-clause-there
returns-then-keeps_first_in_arena-clause-there g c =
    let seg = g.A.Segment.Segment in
    let b = c.args.self.now in
    let kept = ap length (kept_apart seg g.A.Allocator.first_in_arena b.listed b.apart (sym c.keeps_first_in_arena.ensures ∙ c.if-keeps_first_in_arena.true)) in
    let many = length_shown seg (arena_rows seg g.A.Allocator.first_in_arena b.listed b.apart) in
    (λ some. omega (arith, c.allocated.ensures.there.0 some, kept, many), λ less. c.allocated.ensures.there.1 (omega (arith, less, kept, many)))

pub returns-else-keeps_first_in_arena-clause-there : goal.returns-else-keeps_first_in_arena-clause-there
returns-else-keeps_first_in_arena-clause-there g c =
    let seg = g.A.Segment.Segment in
    let b = c.args.self.now in
    let kept = ap length (kept_listed seg g.A.Allocator.first_in_arena b.listed b.apart (sym c.keeps_first_in_arena.ensures ∙ c.if-keeps_first_in_arena.false)) in
    let many = length_shown seg (arena_rows seg g.A.Allocator.first_in_arena b.listed b.apart) in
    (λ some. omega (arith, c.allocated-else-keeps_first_in_arena.ensures.there.0 some, kept, many), λ less. c.allocated-else-keeps_first_in_arena.ensures.there.1 (omega (arith, less, kept, many)))
