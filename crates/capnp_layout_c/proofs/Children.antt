-- A pointer of a struct that was found means a child of its value.
use Rattle.std.proofs.Common.{ℕ, ◌+◌, ◌<◌, List, arith}
use Rattle.std.specs.Borrow.{Bor}
use Rattle.capnp_format.specs.Path.{Child, next}
use Rattle.capnp_format.specs.Tree.{Tree, Null, Capability, Struct, Flat, Pointers, Structs, count}
use Rattle.capnp_pointers.specs.Outcomes.{MeansThere}
use Rattle.capnp_readers.specs.Values.{tree_cost}
use Rattle.capnp_readers.proofs.Values.{tree_means}
use Rattle.capnp_layout_c.specs.Found.{IsFoundStruct}
use Rattle.capnp_layout_c.specs.Lent.{lent, lent_pointer}
use Rattle.capnp_layout_c.specs.declared.found.FoundStruct.{FoundStruct}

pub child_there : (list : List (Bor (List ℕ))) (s : FoundStruct) (t : Tree) (k i : ℕ) → IsFoundStruct (lent list) s t k → i < s.pointers →
    (c : ℕ) × MeansThere (lent_pointer list s.segment (s.pointers_at + i) s.nesting) (next t (Child i)) c
child_there list s Null k i found less = absurd (omega (arith, less, found.pointers_are))
child_there list s (Struct ws ts) k i found less =
    let r = lent_pointer list s.segment s.pointers_at s.nesting in
    let inside : i < count ts = omega (arith, less, found.pointers_are) in
    (tree_cost r ts k found.children_are i, tree_means ts r k i inside found.children_are)
child_there list s (Capability j) k i found less = absurd found.is_struct
child_there list s (Flat size ns) k i found less = absurd found.is_struct
child_there list s (Pointers ts) k i found less = absurd found.is_struct
child_there list s (Structs d q es) k i found less = absurd found.is_struct
