-- Objects made in the segment of their pointer.
use Rattle.std.proofs.Common.{◌≡◌, ℕ, zero, suc, ◌+◌, ◌*◌, ◌<◌, List, [], ◌∷◌, ◌++◌, length, set, replicate, refl, ap, ap₂, ◌∙◌, arith}
use Rattle.std.proofs.lemmas.List.{set-append_left, length-set}
use Rattle.std.proofs.Math.Seq.{set-append_seam}
use Rattle.capnp_format.specs.Segments.{Segments, segment, IsPlace}
use Rattle.capnp_format.specs.Word.{struct_word, list_word}
use Rattle.capnp_words.specs.declared.wire_pointer.StructSize.{StructSize}
use Rattle.capnp_arena_traits.specs.View.{View}
use Rattle.capnp_arena_traits.specs.Written.{with_word, extended}
use Rattle.capnp_allocation.specs.Made.{words_of_zero, list_words}
use Rattle.capnp_allocation.specs.Near.{HasOwnRoom, offset_to_end, with_object}

-- Segment id has room for a struct with at least one word; or for a list of n structs.
abbrev pub HasStructRoom : View → ℕ → StructSize → Type 0
HasStructRoom v id size =
    (0 < size.data_words + size.pointers) × HasOwnRoom v id (size.data_words + size.pointers)

abbrev pub HasStructsRoom : View → ℕ → ℕ → StructSize → Type 0
HasStructsRoom v id n size = HasOwnRoom v id (1 + n * (size.data_words + size.pointers))

-- A struct, a list of n elements that aren't structs, and a list of n structs, all zero, each with
-- its pointer.
abbrev pub with_struct : Segments → ℕ → ℕ → StructSize → Segments
with_struct S id p size =
    with_object S id p (struct_word (offset_to_end S id p) size.data_words size.pointers)
    (words_of_zero (size.data_words + size.pointers))

abbrev pub with_list : Segments → ℕ → ℕ → ℕ → ℕ → Segments
with_list S id p size n =
    with_object S id p (list_word (offset_to_end S id p) size n) (words_of_zero (list_words size n))

abbrev pub with_struct_list : Segments → ℕ → ℕ → ℕ → StructSize → Segments
with_struct_list S id p n size =
    with_object S id p (list_word (offset_to_end S id p) 7 (n * (size.data_words + size.pointers)))
    (struct_word n size.data_words size.pointers
    ∷ words_of_zero (n * (size.data_words + size.pointers)))

-- Writing a word of a segment before or after more words are added at its end is the same.
pub object_put : (S : Segments) (s p x : ℕ) (ws : List ℕ) → IsPlace S s p → with_word (extended S s ws) s p x ≡ with_object S s p x ws
object_put [] s p x ws l = refl
object_put (t ∷ S) zero p x ws l = ap (λ ys. ys ∷ S) (set-append_left t ws p x l)
object_put (t ∷ S) (suc s) p x ws l = ap (λ T. t ∷ T) (object_put S s p x ws l)

-- The first of the words that were allocated is written.
pub first_put : {b : ℕ} (S : Segments) (s n x : ℕ) → b ≡ length (segment S s) → with_word (extended S s (replicate (1 + n) 0)) s b x ≡ extended S s (x ∷ replicate n 0)
first_put [] s n x e = refl
first_put {b} (t ∷ S) zero n x e =
    let more : replicate (1 + n) 0 ≡ 0 ∷ replicate n 0 = ap (λ i. replicate i 0) (let f : 1 + n ≡ suc n = omega arith in f) in
    ap (λ ys. ys ∷ S) (ap₂ (λ i xs. set (t ++ xs) i x) e more ∙ set-append_seam t 0 (replicate n 0) x)
first_put (t ∷ S) (suc s) n x e = ap (λ T. t ∷ T) (first_put S s n x e)

-- Writing a word leaves the length of the segment unchanged.
pub long_as : (S : Segments) (s p x : ℕ) → length (segment (with_word S s p x) s) ≡ length (segment S s)
long_as [] s p x = refl
long_as (t ∷ S) zero p x = length-set t p x
long_as (t ∷ S) (suc s) p x = long_as S s p x
