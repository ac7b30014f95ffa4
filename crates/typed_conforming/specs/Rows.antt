-- The elements of an object that may have pointers.
use Rattle.std.specs.Prelude.{◌≡◌}
use Rattle.capnp_pointers.specs.declared.object.Object.{Object}
use Rattle.capnp_pointers.specs.declared.object.Object.TheVariants.{Struct, Pointers, Structs}
use Rattle.typed_conforming.specs.declared.conforms.ObjectElements.{ObjectElements}

-- These are the elements of an object: a struct is one, and a pointer of a list is one without
-- data.
abbrev pub AreElementsOf : Object → ObjectElements → Type 0
AreElementsOf (Struct start size) rows =
    (rows.start ≡ start) × (rows.data_words ≡ size.data_words) × (rows.pointers ≡ size.pointers) ×
    (rows.count ≡ 1)
AreElementsOf (Pointers start count) rows =
    (rows.start ≡ start) × (rows.data_words ≡ 0) × (rows.pointers ≡ 1) × (rows.count ≡ count)
AreElementsOf (Structs start size count) rows =
    (rows.start ≡ start) × (rows.data_words ≡ size.data_words) × (rows.pointers ≡ size.pointers) ×
    (rows.count ≡ count)
AreElementsOf object rows = ⊥
