-- The entries of a list of objects, and what collects them.
use Rattle.std.specs.Prelude.{ℕ, ◌+◌, ◌-◌, ◌^◌, List, [], ◌∷◌, ◌++◌, Option, Some, None, length, slice_set}
use Rattle.capnp_pointers.specs.Enter.{Shape, nothing, capability, struct, flat, pointers, structs}
use Rattle.capnp_pointers.specs.Extents.{capped}
use Rattle.capnp_walks.specs.declared.walks.listing.WalkedObject.{WalkedObject}

-- The numbers of the kinds of objects that aren't lists; a list has the number of its element size
-- ("Lists").
abbrev pub struct_kind : ℕ
struct_kind = 8

abbrev pub capability_kind : ℕ
capability_kind = 9

-- The parent of the object that the root pointer leads to.
abbrev pub no_parent : ℕ
no_parent = 2 ^ 64 - 1

-- The entry of a capability with this index, whose pointer is at position p of segment s, in the
-- object with the index `parent`.
abbrev pub capability_entry : (parent s p index : ℕ) → WalkedObject
capability_entry parent s p i =
    record {
      parent = parent;
      pointer_segment = s;
      segment = 0;
      pointer_word = p;
      word = 0;
      kind = capability_kind;
      count = 0;
      capability = i;
      data_words = 0;
      pointers = 0;
    }

-- The entry of an object of this shape, whose pointer is at position p of segment s. Null has none.
abbrev pub walked_object : (parent s p : ℕ) → Shape → Option WalkedObject
walked_object parent s p nothing = None
walked_object parent s p (capability i) = Some (capability_entry parent s p i)
walked_object parent s p (struct t at d q) =
    Some
    (record (capability_entry parent s p 0) {
      segment = t;
      word = at;
      kind = struct_kind;
      data_words = d;
      pointers = q;
    })
walked_object parent s p (flat t at size n) =
    Some
    (record (capability_entry parent s p 0) { segment = t; word = at; kind = size; count = n })
walked_object parent s p (pointers t at n) =
    Some (record (capability_entry parent s p 0) { segment = t; word = at; kind = 6; count = n })
walked_object parent s p (structs t at d q n) =
    Some
    (record (capability_entry parent s p 0) {
      segment = t;
      word = at;
      kind = 7;
      count = n;
      data_words = d;
      pointers = q;
    })

-- What collects entries in an X: how it adds one, and which index the next one gets.
pub record Collector (X : Type 0) : Type 0 where
  pub collect : WalkedObject → X → X
  pub next : X → ℕ

-- Adds the entry, if there is one.
abbrev pub collected : {X : Type 0} → Collector X → Option WalkedObject → X → X
collected c None x = x
collected c (Some o) x = c.collect o x

-- Adds the entry of an object of this shape, whose pointer is at position p of segment s.
abbrev pub noted : {X : Type 0} → Collector X → (parent s p : ℕ) → Shape → X → X
noted c parent s p o = collected c (walked_object parent s p o)

-- Collects entries in a list.
abbrev pub into_list : Collector (List WalkedObject)
into_list =
    record { collect = λ o xs. xs ++ o ∷ []; next = λ xs. capped (length xs) }

-- Collects entries in an array, and counts them. An entry that has no room is only counted.
abbrev pub into_array : Collector (List WalkedObject × ℕ)
into_array =
    record {
      collect = λ o x. (slice_set x.0 x.1 o, capped (x.1 + 1));
      next = λ x. x.1;
    }
