use Rattle.std.proofs.Common.{◌≡◌, ◌<◌, ◌^◌, ℕ, List, [], ◌∷◌, ◌++◌, length, rules, ap, ap₂, ◌∙◌, IsNone}
use Rattle.std.specs.Int.{to_le_bytes, w32}
use Rattle.capnp_framing.proofs.BareLemmas.{only_ends, only_told}
use Rattle.capnp_framing.proofs.framing.segment.set_single_segment.Goals as goal

pub returns : goal.returns
returns g c =
    let kept : IsNone c.keep.result = search rules in
    let four : c.as_slice.result.now ≡ to_le_bytes w32 c.args.words = search rules in
    let table : c.append_bytes.new.list.items ≡ to_le_bytes w32 c.args.words =
    c.in_ok-append_bytes.ensures.put ∙ ap₂ (λ (xs ys : List ℕ). xs ++ ys) c.clear.ensures.items four in
    let ends : c.keep.new.list.items ≡ c.args.words ∷ [] =
    (c.keep.ensures.kept kept).0 ∙ ap (λ (xs : List ℕ). xs ++ c.args.words ∷ []) c.clear-2.ensures.items in
    let small : c.args.words < 2 ^ 32 = search rules in
    let told = only_told c.args.words _ small table in
    record { long = ap length table; told = told; ends = only_ends c.args.words _ _ told ends; memory = record { kept = search rules; refused = tt; counted = tt } }
