-- The content of a segment of memory for copies once its ready bytes are replaced. These lemmas are
-- among the definitions because a trait's law may cite nothing else.
use Rattle.std.specs.Prelude.{ℕ, List, ◌+◌, ◌-◌, ◌++◌, ◌≡◌, length, take, drop, replicate}
use Rattle.std.proofs.Common.{arith, ap, sym, ◌∙◌}
use Rattle.std.proofs.lemmas.List.{length-append, length-replicate}
use Rattle.std.proofs.lemmas.Grind.{common_steps}
use Rattle.capnp_messages.specs.declared.messages.copy_memory.CopySegment.{CopySegment}
use Rattle.capnp_messages.specs.CopyMemory.{copy_content, with_copy_bytes}

refilled : (n : ℕ) (w old : List ℕ) → length w ≡ length old → n ≡ length old →
    take n (w ++ drop (length w) old) ≡ w
refilled n w old same len = grind (arith, common_steps)

pub with_copy_bytes-holds : (s : CopySegment) (w : List ℕ) → length w ≡ length s.bytes.items →
    (with_copy_bytes s w).bytes.items ≡ w
with_copy_bytes-holds s w same = refilled s.bytes.len w s.bytes.items same s.bytes.ok.0

longer : (n : ℕ) (xs : List ℕ) → length (xs ++ replicate n 0) ≡ length xs + n
longer n xs = length-append xs (replicate n 0) ∙ ap (λ k. length xs + k) (length-replicate n 0)

pub with_copy_bytes-as_long : (s : CopySegment) (w : List ℕ) → length w ≡ length s.bytes.items →
    length (copy_content (with_copy_bytes s w)) ≡ length (copy_content s)
with_copy_bytes-as_long s w same =
    longer s.unready (with_copy_bytes s w).bytes.items
    ∙ ap (λ k. k + s.unready) (ap length (with_copy_bytes-holds s w same) ∙ same)
    ∙ sym (longer s.unready s.bytes.items)

pub copy_zeros_behind : (s : CopySegment) →
    copy_content s ≡ s.bytes.items ++ replicate (length (copy_content s) - length s.bytes.items) 0
copy_zeros_behind s =
    let left : s.unready ≡ length (copy_content s) - length s.bytes.items =
    omega (arith, longer s.unready s.bytes.items) in
    ap (λ n. s.bytes.items ++ replicate n 0) left
