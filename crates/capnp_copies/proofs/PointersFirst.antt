-- A pointer that is written before its object, in the same segment: the result is the same as when
-- it is written last.
use Rattle.std.proofs.Common.{◌≡◌, ℕ, ◌<◌, ◌≤◌, List, ◌++◌, length, get_or, set, take, refl, sym, ap, ap₂, ◌∙◌, arith, length-append, set-set}
use Rattle.std.proofs.lemmas.List.{length-set, set-append_left, set-get_or, get_or_append_left, get_or-set_same, get_or-take}
use Rattle.capnp_format.specs.Segments.{Segments, segment, word_at, IsPlace}
use Rattle.capnp_format.specs.Tree.{Tree}
use Rattle.capnp_format.specs.Canonical.{body, pointer, offset_to}
use Rattle.capnp_arena_traits.specs.Written.{with_segment, with_word, extended}
use Rattle.capnp_arena_traits.proofs.WordsOver.{segment_here}
use Rattle.capnp_allocation.proofs.NearMade.{long_as}
use Rattle.capnp_copies.proofs.Copied.{copied}
use Rattle.capnp_copies.proofs.Copying.{there}
use Rattle.capnp_copies.proofs.SegmentsWritten.{not_written, then_written}

-- The place is still one.
pub place_kept : (S : Segments) (s p x : ℕ) → IsPlace S s p → IsPlace (with_word S s p x) s p
place_kept S s p x l = omega (arith, long_as S s p x, l)

-- Words in the first of four parts.
pub in_first : (A B C D : List ℕ) (i : ℕ) → i < length A → get_or (A ++ B ++ C ++ D) i 0 ≡ get_or A i 0
in_first A B C D i l =
    get_or_append_left (A ++ B ++ C) D 0 i (omega (arith, length-append (A ++ B) C, length-append A B))
    ∙ get_or_append_left (A ++ B) C 0 i (omega (arith, length-append A B)) ∙ get_or_append_left A B 0 i l

-- The pointer stays the same if more words were added after those of the segment, and only words
-- after it were written then.
pub pointer_stays : (S : Segments) (s p x h : ℕ) (ws : List ℕ) → IsPlace S s p → p < h → h ≤ length (segment (extended (with_word S s p x) s ws) s) → get_or (take h (segment (extended (with_word S s p x) s ws) s)) p 0 ≡ x
pointer_stays S s p x h ws l less inside =
    let W : List ℕ = segment S s in
    let P : Segments = with_word S s p x in
    let is : segment P s ≡ set W p x = segment_here S s (set W p x) (there S s p l) in
    let all : segment (extended P s ws) s ≡ set W p x ++ ws = segment_here P s (segment P s ++ ws) (there P s p (place_kept S s p x l)) ∙ ap (λ xs. xs ++ ws) is in
    get_or-take h (segment (extended P s ws) s) p 0 less ∙ ap (λ xs. get_or xs p 0) all ∙ get_or_append_left (set W p x) ws 0 p (omega (arith, length-set W p x, l)) ∙ get_or-set_same W p x 0 l

-- If the pointer is written first and once more at the end, the whole is the same as when it is
-- written last only.
pub pointer_first : {N : Segments} {x : ℕ} (S : Segments) (s p : ℕ) (t : Tree) → IsPlace S s p → word_at N s p ≡ x → with_word N s p x ≡ with_segment (with_word S s p x) s (copied (segment (with_word S s p x) s) p t) → N ≡ with_segment S s (copied (segment S s) p t)
pointer_first {N} {x} S s p t l is made =
    let W : List ℕ = segment S s in
    let same : with_word N s p x ≡ N = ap (λ y. with_word N s p y) (sym is) ∙ ap (with_segment N s) (set-get_or (segment N s) p 0) ∙ sym (not_written N s) in
    let k : ℕ = length W in
    let shape : copied (set W p x) p t ≡ copied W p t =
    ap₂ (λ xs i. set xs p (pointer t (offset_to p i))) (sym (set-append_left W (body t) p x l)) (length-set W p x) ∙ set-set (W ++ body t) p x (pointer t (offset_to p k)) in
    sym same ∙ then_written S s (set W p x) (λ xs. copied xs p t) (there S s p l, refl) made ∙ ap (with_segment S s) shape
