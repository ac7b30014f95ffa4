-- The size of a value, as a function of the place and the limiter. It reads the objects of the value
-- in order, and adds up their words and capabilities.
use Rattle.std.specs.Prelude.{ℕ, zero, suc, ◌+◌, ◌*◌, ◌-◌, ◌^◌, ◌<◌, nat_lt}
use Rattle.capnp_words.specs.declared.error.ErrorKind.TheVariants.{MessageTooLarge}
use Rattle.capnp_format.specs.Numbers.{words_for}
use Rattle.capnp_pointers.specs.declared.object.Purpose.TheVariants.{Size}
use Rattle.capnp_pointers.specs.Enter.{Shape, nothing, capability, struct, flat, pointers, structs, read}
use Rattle.capnp_pointers.specs.Metered.{Metered, answer, ◌>>>◌, demand}
use Rattle.capnp_pointers.specs.Reading.{Reading, place_past}
use Rattle.capnp_pointers.specs.declared.pointers.sizes.MessageSize.{MessageSize}

-- These numbers of words and capabilities fit the fields of a size.
abbrev pub FitSize : ℕ → ℕ → Type 0
FitSize words caps = (words < 2 ^ 64) × (caps < 2 ^ 32)

-- A size of this number of words, without capabilities.
abbrev pub only_words : ℕ → MessageSize
only_words words = record { word_count = words; cap_count = 0 }

-- Adds the size y to z. The number of words has to fit 64 bits, and that of capabilities 32 bits.
abbrev pub add_size : MessageSize → MessageSize → Metered MessageSize
add_size y z =
    demand (nat_lt (z.word_count + y.word_count) (2 ^ 64)) (MessageTooLarge (2 ^ 64 - 1)) >>> λ _.
    demand (nat_lt (z.cap_count + y.cap_count) (2 ^ 32)) (MessageTooLarge (2 ^ 64 - 1)) >>> λ _.
    answer
    (record { word_count = z.word_count + y.word_count; cap_count = z.cap_count + y.cap_count })

-- The size of an object without its children. Its words are those that it claims; those of a list of
-- structs are its tag and its elements.
abbrev pub shape_size : Shape → MessageSize
shape_size nothing = only_words 0
shape_size (capability i) = record { word_count = 0; cap_count = 1 }
shape_size (struct s p d q) = only_words (d + q)
shape_size (flat s p size n) = only_words (words_for size n)
shape_size (pointers s p n) = only_words n
shape_size (structs s p d q n) = only_words (1 + n * (d + q))

-- Calls f for i consecutive pointers, from the place r on: first with x, then with the result of
-- the call before.
abbrev pub fold_pointers : {X : Type 0} → (Reading → X → Metered X) → ℕ → Reading → X → Metered X
fold_pointers f zero r x = answer x
fold_pointers f (suc i) r x = f r x >>> fold_pointers f i (place_past r 1)

-- The same for the pointers of n consecutive elements of d data words and q pointers, from r on.
abbrev pub fold_elements :
    {X : Type 0} → (Reading → X → Metered X) → ℕ → ℕ → ℕ → Reading → X → Metered X
fold_elements f d q zero r x = answer x
fold_elements f d q (suc n) r x =
    fold_pointers f q (place_past r d) x >>> fold_elements f d q n (place_past r (d + q))

-- The same for the pointers of an object. They are read with the levels of r.
abbrev pub fold_children :
    {X : Type 0} → (Reading → X → Metered X) → Reading → Shape → X → Metered X
fold_children f r (struct s p d q) = fold_pointers f q (record r { segment = s; at = p + d })
fold_children f r (pointers s p i) = fold_pointers f i (record r { segment = s; at = p })
fold_children f r (structs s p d q i) = fold_elements f d q i (record r { segment = s; at = p })
fold_children f r o = answer

-- Adds the size of the value at r to z. The value is read with n levels; without a level, only a
-- null pointer has a size.
unfoldable pub measure_within : ℕ → Reading → MessageSize → Metered MessageSize
measure_within zero r z = read Size (record r { levels = zero }) >>> λ o. answer z
measure_within (suc n) r z =
    read Size (record r { levels = suc n }) >>> λ o. add_size (shape_size o) z >>>
    fold_children (measure_within n) (record r { levels = n }) o

-- The same with the levels of r; then for i consecutive pointers from r on, and for the pointers of
-- n consecutive elements of d data words and q pointers.
abbrev pub measure : Reading → MessageSize → Metered MessageSize
measure r = measure_within r.levels r

abbrev pub measure_pointers : ℕ → Reading → MessageSize → Metered MessageSize
measure_pointers i r = fold_pointers (measure_within r.levels) i r

abbrev pub measure_elements : ℕ → ℕ → ℕ → Reading → MessageSize → Metered MessageSize
measure_elements d q n r = fold_elements (measure_within r.levels) d q n r
