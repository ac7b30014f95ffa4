-- The functions that read a whole value, an object of an expected kind, and the type of a pointer.
use Rattle.std.specs.Prelude.{ℕ, zero, suc, ◌+◌, if◌then◌else◌, nat_eq}
use Rattle.capnp_words.specs.declared.error.ErrorKind.TheVariants.{CannotCreateACanonicalMessageWithACapability}
use Rattle.capnp_words.specs.declared.error.ErrorKind.TheVariants.{UnknownPointerType}
use Rattle.capnp_words.specs.declared.wire_pointer.PointerType.{PointerType}
use Rattle.capnp_words.specs.declared.wire_pointer.PointerType.TheVariants.{Null as NullType}
use Rattle.capnp_format.specs.Numbers.{words_for, unpacked}
use Rattle.capnp_format.specs.Segments.{Target}
use Rattle.capnp_format.specs.Tree.{Tree, Null, Capability, Struct, Flat, Pointers, Structs, Trees}
use Rattle.capnp_format.specs.Tree.{no_trees, tree, Elements, no_elements, element}
use Rattle.capnp_pointers.specs.declared.object.Purpose.TheVariants.{Value}
use Rattle.capnp_pointers.specs.Enter.{Shape, nothing, capability, struct, flat, pointers, structs}
use Rattle.capnp_pointers.specs.Enter.{follow, enter, read}
use Rattle.capnp_pointers.specs.Expected.{Expectation}
use Rattle.capnp_pointers.specs.Metered.{Metered, outcome, answer, refuse, ◌>>>◌, refuse_if}
use Rattle.capnp_pointers.specs.Reading.{Reading, word_of, place_past, words_from}
use Rattle.capnp_pointers.specs.Types.{type_of}
use Rattle.capnp_pointers.specs.Wanted.{Form, canonical, of_default}

-- Refuses a capability in a form that has none.
abbrev pub permit : Form → Shape → Metered Shape
permit canonical (capability i) = refuse CannotCreateACanonicalMessageWithACapability
permit of_default (capability i) = refuse UnknownPointerType
permit form o = answer o

-- Reads the values of i consecutive pointers, from the place r on. f reads one.
abbrev pub read_values : (Reading → Metered Tree) → ℕ → Reading → Metered Trees
read_values f zero r = answer no_trees
read_values f (suc i) r =
    f r >>> λ t. read_values f i (place_past r 1) >>> λ ts.
    answer (tree t ts)

-- Reads n elements of d data words and q pointers, from the place r on. f reads the value of one
-- pointer.
abbrev pub read_element_values : (Reading → Metered Tree) → ℕ → ℕ → ℕ → Reading → Metered Elements
read_element_values f d q zero r = answer no_elements
read_element_values f d q (suc n) r =
    read_values f q (place_past r d) >>> λ ts.
    read_element_values f d q n (place_past r (d + q)) >>> λ es.
    answer (element (words_from r d) ts es)

-- Reads the value of an object. f reads the value of one pointer, and `at` makes a place of a
-- segment and a position.
abbrev pub object_value : (Reading → Metered Tree) → (ℕ → ℕ → Reading) → Shape → Metered Tree
object_value f at nothing = answer Null
object_value f at (capability i) = answer (Capability i)
object_value f at (struct s p d q) =
    read_values f q (at s (p + d)) >>> λ ts. answer (Struct (words_from (at s p) d) ts)
object_value f at (flat s p size n) =
    answer (Flat size (unpacked size n (words_from (at s p) (words_for size n))))
object_value f at (pointers s p n) = read_values f n (at s p) >>> λ ts. answer (Pointers ts)
object_value f at (structs s p d q n) =
    read_element_values f d q n (at s p) >>> λ es. answer (Structs d q es)

-- Reads the value at a place within n levels. Without a level, it is null or a capability.
unfoldable pub value_within : Form → ℕ → Reading → Metered Tree
value_within form zero r =
    read Value (record r { levels = zero }) >>> permit form >>>
    object_value (λ s. answer Null) (λ s p. r)
value_within form (suc n) r =
    read Value (record r { levels = suc n }) >>> permit form >>>
    object_value (value_within form n) (λ s p. record r { levels = n; segment = s; at = p })

-- Reads the value at a place within its levels.
abbrev pub value : Form → Reading → Metered Tree
value form r = value_within form r.levels r

-- Enters the object at the target a, for a call that expects one of some kind.
abbrev pub enter_expected : Expectation → Reading → Target → Metered Shape
enter_expected expected r a =
    refuse_if (expected.another_kind a.word) >>> λ _.
    enter Value r a >>> λ o.
    refuse_if (expected.misfit r.segments a) >>> λ _.
    answer o

-- Reads the object at a place, for a call that expects one of some kind. The object is entered with
-- one level, because the level is checked separately.
abbrev pub expect : Expectation → Reading → Metered Shape
expect expected r =
    if nat_eq (word_of r) 0 then answer nothing else (
    refuse_if (expected.too_deep r.levels) >>> λ _.
    follow r >>> λ a. enter_expected expected (record r { levels = 1 }) a)

-- Reads the type of the pointer at a place.
abbrev pub pointer_type : Reading → Metered PointerType
pointer_type r =
    if nat_eq (word_of r) 0 then answer NullType else (follow r >>> λ a. outcome (type_of a.word))
