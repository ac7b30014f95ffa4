use Rattle.std.proofs.Common.{◌≡◌, ◌<◌, ◌≤◌, ◌++◌, ◌∷◌, [], length, map, take, ap, sym, ◌∙◌, arith, ℕ, List, true}
use Rattle.std.proofs.lemmas.List.{map-append, append_assoc}
use Rattle.std.specs.Borrow.{Bor}
use Rattle.std.specs.Result.{is_ok}
use Rattle.capnp_arena.specs.Row.{shown}
use Rattle.capnp_arena_traits.proofs.MessageLemmas.{take_whole}
use Rattle.capnp_arena.proofs.RowsLemmas.{shown_more, length_shown}
use Rattle.capnp_arena.proofs.arena.builder_arena_impl.push_allocated.Goals as goal

pub loop-row-preserved : goal.loop-row-preserved
loop-row-preserved g c =
    let rows = c.args.rows.now in
    let before = map (λ (s : Bor (List ℕ)). s.now) c.args.segments.now.items in
    let ok : is_ok c.push.result ≡ true = c.if-is_err.ensures.negation in
    let pushed : c.push.new.self.items ≡ c.loop-row.segments.items ++ c.allocated.result ∷ [] = rw ok at c.push.ensures.items in
    let there : c.loop-row.row-index < length rows = omega arith in
    ap (map (λ (s : Bor (List ℕ)). s.now)) pushed
    ∙ map-append (λ (s : Bor (List ℕ)). s.now) c.loop-row.segments.items (c.allocated.result ∷ [])
    ∙ ap (λ (B : List (List ℕ)). B ++ c.allocated.result.now ∷ []) c.loop-row.invariant
    ∙ append_assoc before (take c.loop-row.row-index (shown g.S.Segment rows)) (c.allocated.result.now ∷ [])
    ∙ ap (λ (bytes : List ℕ). before ++ (take c.loop-row.row-index (shown g.S.Segment rows) ++ bytes ∷ [])) c.allocated.ensures
    ∙ ap (λ (B : List (List ℕ)). before ++ B) (sym (shown_more g.S.Segment rows c.loop-row.row-index there c.row-item.is))

pub returns-clause-bytes : goal.returns-clause-bytes
returns-clause-bytes g c =
    let B = shown g.S.Segment c.args.rows.now in
    let all : length B ≤ c.loop-row.row-index = omega (arith, length_shown g.S.Segment c.args.rows.now) in
    c.loop-row.invariant ∙ ap (λ (C : List (List ℕ)). map (λ (s : Bor (List ℕ)). s.now) c.args.segments.now.items ++ C) (take_whole c.loop-row.row-index B all)
