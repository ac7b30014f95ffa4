-- What the objects of a value are, without their places.
use Rattle.std.specs.Prelude.{ℕ, List, [], ◌∷◌, ◌++◌, length}
use Rattle.capnp_format.specs.Tree.{Tree, Null, Capability, Struct, Flat, Pointers, Structs, Trees, no_trees, tree, Elements, no_elements, element, count, element_count}
use Rattle.capnp_walks.specs.Listing.{capability_kind, struct_kind}
use Rattle.capnp_walks.specs.declared.walks.listing.WalkedObject.{WalkedObject}

-- The kind of an object; the number of elements of a list; the index of a capability; the data words
-- and the pointers of a struct, or of each element of a list of structs.
pub record Figures : Type 0 where
  pub kind : ℕ
  pub elements : ℕ
  pub index : ℕ
  pub data_words : ℕ
  pub pointers : ℕ

-- The figures of an entry's object.
abbrev pub figures : WalkedObject → Figures
figures o =
    record {
      kind = o.kind;
      elements = o.count;
      index = o.capability;
      data_words = o.data_words;
      pointers = o.pointers;
    }

-- What the objects of a value are, each before its children, and the children in order. Null isn't
-- an object, nor is an element of a list of structs.
abbrev mutual
  pub objects_of : Tree → List Figures
  objects_of Null = []
  objects_of (Capability i) =
      record { kind = capability_kind; elements = 0; index = i; data_words = 0; pointers = 0 } ∷ []
  objects_of (Struct ws ts) =
      record {
        kind = struct_kind;
        elements = 0;
        index = 0;
        data_words = length ws;
        pointers = count ts;
      } ∷ objects_of_all ts
  objects_of (Flat size ns) =
      record { kind = size; elements = length ns; index = 0; data_words = 0; pointers = 0 } ∷ []
  objects_of (Pointers ts) =
      record { kind = 6; elements = count ts; index = 0; data_words = 0; pointers = 0 } ∷
      objects_of_all ts
  objects_of (Structs d q es) =
      record { kind = 7; elements = element_count es; index = 0; data_words = d; pointers = q } ∷
      objects_of_elements es

  -- Those of all children in order.
  pub objects_of_all : Trees → List Figures
  objects_of_all no_trees = []
  objects_of_all (tree t ts) = objects_of t ++ objects_of_all ts

  -- Those of the children of all elements in order.
  pub objects_of_elements : Elements → List Figures
  objects_of_elements no_elements = []
  objects_of_elements (element ws ts es) = objects_of_all ts ++ objects_of_elements es
