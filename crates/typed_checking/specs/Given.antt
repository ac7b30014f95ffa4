-- What a pointer may lead to if some members of unions are known to be set.
use Rattle.std.specs.Prelude.{◌≡◌, ℕ, zero, suc, ◌+◌, ◌*◌, ◌/◌, true, false, nat_eq, if◌then◌else◌, List, [], ◌∷◌, length, slice_index, Option, Some, None, ⊤}
use Rattle.capnp_format.specs.Fields.{field_in}
use Rattle.typed_conforming.specs.declared.schema.Kind.{Kind}
use Rattle.typed_conforming.specs.declared.schema.Kind.TheVariants.{Any}
use Rattle.capnp_words.specs.declared.wire_pointer.ElementSize.{ElementSize}
use Rattle.typed_conforming.specs.Tables.{elements_wanted, kind_word, names_test, word_kind}
use Rattle.typed_checking.specs.declared.schema.Member.{Member}

-- All of these members are set in a struct with the data words ws.
abbrev pub AreSet : List Member → List ℕ → Type 0
AreSet [] ws = ⊤
AreSet (m ∷ []) ws = field_in ws (16 * m.0) 16 ≡ m.1
AreSet (m ∷ n ∷ ms) ws = (field_in ws (16 * m.0) 16 ≡ m.1) × AreSet (n ∷ ms) ws

-- The number that the tag at o, counted in 16 bits, has if these members are set; None if they
-- don't say.
abbrev pub given_number : List Member → ℕ → Option ℕ
given_number [] o = None
given_number (m ∷ ms) o = if nat_eq m.0 o then Some m.1 else given_number ms o

-- The kind that the kind word w says if these members are set; None if that depends on another tag.
-- Tests are followed as in tested_kind.
abbrev pub given_kind : List ℕ → List Member → ℕ → ℕ → ℕ → Option Kind
given_kind T ms zero p w = Some (word_kind w)
given_kind T ms (suc n) p w =
    elim (names_test p w) [
      | false ↦ Some (word_kind w)
      | true ↦
          elim (given_number ms (slice_index T (w / 16))) [
            | None ↦ None
            | Some number ↦
                elim (nat_eq number (slice_index T (w / 16 + 1))) [
                  | true ↦ given_kind T ms n (suc (w / 16)) (slice_index T (w / 16 + 2))
                  | false ↦ given_kind T ms n (suc (w / 16)) (slice_index T (w / 16 + 3))
                ]
          ]
    ]

-- What pointer i of a struct with this row may lead to if these members are set; None if that
-- depends on another tag.
abbrev pub kind_if_set : List ℕ → ℕ → List Member → ℕ → Option Kind
kind_if_set [] row ms i = Some Any
kind_if_set (w ∷ T) row ms i =
    given_kind (w ∷ T) ms (length (w ∷ T)) 0 (kind_word (w ∷ T) row i)

-- The size that the elements of a list of this kind have to have, if it is known to be one.
abbrev pub given_elements : Option Kind → Option ElementSize
given_elements None = None
given_elements (Some k) = elements_wanted k
