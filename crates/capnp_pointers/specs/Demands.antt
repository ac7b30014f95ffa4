-- What an object claims and charges, and the demands that every object must meet, by the word that
-- describes it and by what the object is read for: its value, or only its size.
use Rattle.std.specs.Prelude.{◌≡◌, ℕ, ◌+◌, ◌*◌, ◌<◌, ◌≤◌, if◌then◌else◌, nat_eq}
use Rattle.capnp_format.specs.Word.{kind, offset_bits, data_words, pointer_count, element_size, list_count}
use Rattle.capnp_format.specs.Numbers.{words_for}
use Rattle.capnp_format.specs.Segments.{Segments, word_at, Target}
use Rattle.capnp_format.specs.Means.{Claims, count_cost}
use Rattle.capnp_pointers.specs.declared.object.Purpose.{Purpose}
use Rattle.capnp_pointers.specs.declared.object.Purpose.TheVariants.{Value, Size}

-- The number of words that an object claims, by the word that describes it: a struct's two
-- sections; a list of structs, with its tag; a list of pointers; a list of numbers.
abbrev pub claimed_words : ℕ → ℕ
claimed_words w =
    if nat_eq (kind w) 0 then data_words w + pointer_count w
    else if nat_eq (element_size w) 7 then list_count w + 1 else if nat_eq (element_size w) 6 then
    list_count w else words_for (element_size w) (list_count w)

-- The word describes a list of structs.
abbrev pub IsStructList : ℕ → Type 0
IsStructList w = (kind w ≡ 1) × (element_size w ≡ 7)

-- The first word of an object, which is the tag in a list of structs.
abbrev pub tag : Segments → Target → ℕ
tag S a = word_at S a.segment a.start

-- The number of words that the elements of a list of structs with the tag g take.
abbrev pub element_words : ℕ → ℕ
element_words g = offset_bits g * (data_words g + pointer_count g)

-- What n elements charge in addition if their width is 0; nothing when only the size is wanted.
abbrev pub count_charge : Purpose → ℕ → ℕ → ℕ
count_charge Value width n = count_cost width n
count_charge Size width n = 0

-- What is charged for elements without bits; nothing when only the size is wanted.
abbrev pub amplified_charge : Purpose → Segments → Target → ℕ
amplified_charge Size S a = 0
amplified_charge Value S a =
    if nat_eq (kind a.word) 0 then 0
    else if nat_eq (element_size a.word) 7 then
    count_cost (data_words (tag S a) + pointer_count (tag S a)) (offset_bits (tag S a))
    else count_cost (element_size a.word) (list_count a.word)

-- What reading an object charges, without its children: its landing pads, what it claims, and its
-- elements without bits.
abbrev pub own_charge : Purpose → Segments → Target → ℕ
own_charge purpose S a = a.pads + claimed_words a.word + amplified_charge purpose S a

-- The word describes a list of void.
abbrev pub IsVoidList : ℕ → Type 0
IsVoidList w = (kind w ≡ 1) × (element_size w ≡ 0)

-- The words that an object claims are inside its segment. When only the size is wanted, a list of
-- void may be anywhere.
abbrev pub IsInSegment : Purpose → Segments → Target → Type 0
IsInSegment Value S a = Claims S a (claimed_words a.word)
IsInSegment Size S a = (IsVoidList a.word → ⊥) → Claims S a (claimed_words a.word)

-- The object at the target a meets all demands except those on children, with n levels left.
pub record Meets (purpose : Purpose) (S : Segments) (n : ℕ) (a : Target) : Type 0 where
  pub levels : 0 < n
  pub is_object : kind a.word < 2
  pub claims : IsInSegment purpose S a
  pub tagged : IsStructList a.word → (kind (tag S a) ≡ 0) × (element_words (tag S a) ≤ list_count a.word)
