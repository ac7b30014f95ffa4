use Rattle.std.proofs.Common.{◌≡◌, sym, subst, ◌∙◌, length}
use Rattle.std.specs.Prelude.{IfOk, IsOk, IsTrue, ◌↔◌}
use Rattle.capnp_arena.specs.Output.{output_bytes, is_single}
use Rattle.capnp_arena.specs.Row.{shown}
use Rattle.capnp_arena.specs.Rows.{all}
use Rattle.capnp_arena.proofs.KeptLemmas.{kept_apart, kept_listed}
use Rattle.capnp_arena.proofs.RowsLemmas.{length_shown}
use Rattle.capnp_arena.proofs.arena.builder_arena_impl.BuilderArenaImpl.get_segments_for_output.Goals as goal

pub returns-then-keeps_first_in_arena-clause-bytes : goal.returns-then-keeps_first_in_arena-clause-bytes
returns-then-keeps_first_in_arena-clause-bytes g c =
    let seg = g.A.Segment.Segment in
    let b = c.args.self.now in
    let same = kept_apart seg g.A.Allocator.first_in_arena b.listed b.apart (sym c.keeps_first_in_arena.ensures ∙ c.if-keeps_first_in_arena.true) in
    subst (λ rows. IfOk c.output_of_rows.result (λ o. output_bytes o ≡ shown seg rows)) (sym same) c.output_of_rows.ensures.bytes

pub returns-then-keeps_first_in_arena-clause-single : goal.returns-then-keeps_first_in_arena-clause-single
returns-then-keeps_first_in_arena-clause-single g c =
    let seg = g.A.Segment.Segment in
    let b = c.args.self.now in
    let same = kept_apart seg g.A.Allocator.first_in_arena b.listed b.apart (sym c.keeps_first_in_arena.ensures ∙ c.if-keeps_first_in_arena.true) in
    subst (λ rows. IfOk c.output_of_rows.result (λ o. IsTrue (is_single o) ↔ (length (shown seg rows) ≡ 1))) (sym same)
    (subst (λ n. IfOk c.output_of_rows.result (λ o. IsTrue (is_single o) ↔ (n ≡ 1))) (sym (length_shown seg (all seg b.apart))) c.output_of_rows.ensures.single)

pub returns-then-keeps_first_in_arena-clause-one : goal.returns-then-keeps_first_in_arena-clause-one
returns-then-keeps_first_in_arena-clause-one g c =
    let seg = g.A.Segment.Segment in
    let b = c.args.self.now in
    let same = kept_apart seg g.A.Allocator.first_in_arena b.listed b.apart (sym c.keeps_first_in_arena.ensures ∙ c.if-keeps_first_in_arena.true) in
    subst (λ rows. length (shown seg rows) ≡ 1 → IsOk c.output_of_rows.result) (sym same) (λ e. c.output_of_rows.ensures.one (sym (length_shown seg (all seg b.apart)) ∙ e))

pub returns-else-keeps_first_in_arena-clause-bytes : goal.returns-else-keeps_first_in_arena-clause-bytes
returns-else-keeps_first_in_arena-clause-bytes g c =
    let seg = g.A.Segment.Segment in
    let b = c.args.self.now in
    let same = kept_listed seg g.A.Allocator.first_in_arena b.listed b.apart (sym c.keeps_first_in_arena.ensures ∙ c.if-keeps_first_in_arena.false) in
    subst (λ rows. IfOk c.output_of_list.result (λ o. output_bytes o ≡ shown seg rows)) (sym same) c.output_of_list.ensures.bytes

pub returns-else-keeps_first_in_arena-clause-single : goal.returns-else-keeps_first_in_arena-clause-single
returns-else-keeps_first_in_arena-clause-single g c =
    let seg = g.A.Segment.Segment in
    let b = c.args.self.now in
    let same = kept_listed seg g.A.Allocator.first_in_arena b.listed b.apart (sym c.keeps_first_in_arena.ensures ∙ c.if-keeps_first_in_arena.false) in
    subst (λ rows. IfOk c.output_of_list.result (λ o. IsTrue (is_single o) ↔ (length (shown seg rows) ≡ 1))) (sym same)
    (subst (λ n. IfOk c.output_of_list.result (λ o. IsTrue (is_single o) ↔ (n ≡ 1))) (sym (length_shown seg b.listed.rows.items)) c.output_of_list.ensures.single)

pub returns-else-keeps_first_in_arena-clause-one : goal.returns-else-keeps_first_in_arena-clause-one
returns-else-keeps_first_in_arena-clause-one g c =
    let seg = g.A.Segment.Segment in
    let b = c.args.self.now in
    let same = kept_listed seg g.A.Allocator.first_in_arena b.listed b.apart (sym c.keeps_first_in_arena.ensures ∙ c.if-keeps_first_in_arena.false) in
    subst (λ rows. length (shown seg rows) ≡ 1 → IsOk c.output_of_list.result) (sym same) (λ e. c.output_of_list.ensures.one (sym (length_shown seg b.listed.rows.items) ∙ e))
