-- An object whose children are its last words, the pointer of a struct, and what is left if nothing
-- is copied.
use Rattle.std.proofs.Common.{◌≡◌, ℕ, ◌+◌, ◌-◌, List, [], ◌++◌, length, set, drop, replicate, refl, sym, ap, ap₂, ◌∙◌, arith, append_assoc, append-nil, length-append, take_at}
use Rattle.std.proofs.lemmas.List.{length-replicate, set-get_or, drop_all}
use Rattle.capnp_format.specs.Segments.{Segments, segment, word_at}
use Rattle.capnp_format.specs.Tree.{Null, Trees, count}
use Rattle.capnp_format.specs.Canonical.{pointers, bodies}
use Rattle.capnp_arena_traits.specs.Written.{with_segment}
use Rattle.capnp_copies.specs.Copied.{with_children}
use Rattle.capnp_copies.proofs.Copied.{copied}
use Rattle.capnp_copies.proofs.SegmentsWritten.{not_written}

-- An object whose children are its last words.
pub object_children : (front : List ℕ) (q : ℕ) (ts : Trees) → count ts ≡ q → with_children (front ++ replicate q 0) (length front) ts ≡ front ++ (pointers 0 ts ++ bodies ts)
object_children front q ts n =
    let Z : List ℕ = replicate q 0 in
    let W = front ++ Z in
    let long : length W ≡ length front + q = omega (arith, length-append front Z, length-replicate {A = ℕ} q 0) in
    let none : length W - (length front + count ts) ≡ 0 = omega arith in
    let shape : front ++ pointers 0 ts ++ [] ++ bodies ts ≡ front ++ (pointers 0 ts ++ bodies ts) = simp (append_assoc, append-nil) in
    ap₂ (λ xs i. xs ++ pointers i ts ++ drop (length front + count ts) W ++ bodies ts) (take_at front Z (length front) refl) none
    ∙ ap (λ xs. front ++ pointers 0 ts ++ xs ++ bodies ts) (drop_all (length front + count ts) W (omega arith)) ∙ shape

pub null_written : (M : Segments) (s at : ℕ) → word_at M s at ≡ 0 → M ≡ with_segment M s (copied (segment M s) at Null)
null_written M s at z =
    not_written M s ∙ ap (with_segment M s) (sym (set-get_or (segment M s) at 0) ∙ ap (set (segment M s) at) z ∙ ap (λ ws. set ws at 0) (sym (append-nil (segment M s))))
