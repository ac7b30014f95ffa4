-- Single intervals.
use Rattle.std.proofs.Common.{Result, Ok, Err, OnOk, ◌≡◌, ℕ, pos, ap, sym, ◌∙◌, arith}
use Rattle.capnp_format.specs.Word.{offset_bits, offset_field, signed}
use Rattle.capnp_format.proofs.Fields.{offset_field-signed}

pub zero_offset : (x : ℕ) → signed (offset_bits x) ≡ pos 0 → offset_bits x ≡ 0
zero_offset x e = sym (offset_field-signed (offset_bits x) (omega arith)) ∙ ap offset_field e

-- What holds of an outcome if two facts about it are known.
pub on_both_so : {A E : Type 0} (r : Result A E) (P Q T : Type 0) → OnOk r P → OnOk r Q → (P → Q → T) → OnOk r T
on_both_so (Ok x) P Q T h k f = f h k
on_both_so (Err e) P Q T h k f = tt
