use Rattle.std.proofs.Common.{◌+◌, ◌-◌, ◌*◌}
use Rattle.capnp_pointers.specs.Source.{levels}
use Rattle.capnp_pointers.specs.Pointers.{reading}
use Rattle.capnp_copies.specs.Changes.{copy_call_to, CopiesChildren, CopiesRows}
use Rattle.capnp_copies.specs.Originals.{children_original, elements_original}
use Rattle.capnp_copies.proofs.ObjectsMade.{TakesForCopy}
use Rattle.capnp_copies.proofs.copy.+copies.Given as goal

abbrev pub decreases-copy_object : goal.decreases-copy_object
decreases-copy_object g l = 8 * levels l.from.nesting_limit

abbrev pub decreases-children::copy_children : goal.decreases-children::copy_children
decreases-children::copy_children g l = 8 * levels l.from.nesting_limit + 4

abbrev pub decreases-children::copy_children_out_of_line : goal.decreases-children::copy_children_out_of_line
decreases-children::copy_children_out_of_line g l = 8 * levels l.from.nesting_limit + 3

abbrev pub decreases-children::copy_children_inline : goal.decreases-children::copy_children_inline
decreases-children::copy_children_inline g l = 8 * levels l.from.nesting_limit + 2

abbrev pub decreases-children::copy_child : goal.decreases-children::copy_child
decreases-children::copy_child g l = 8 * levels l.from.nesting_limit + 1

abbrev pub decreases-children::copy_near_struct : goal.decreases-children::copy_near_struct
decreases-children::copy_near_struct g l = 8 * levels l.from.nesting_limit

abbrev pub decreases-elements::copy_elements : goal.decreases-elements::copy_elements
decreases-elements::copy_elements g l = 8 * levels l.from.nesting_limit + 4

abbrev pub decreases-lists::copy_pointer_list : goal.decreases-lists::copy_pointer_list
decreases-lists::copy_pointer_list g l = 8 * levels l.from.nesting_limit + 5

abbrev pub decreases-lists::copy_struct_list : goal.decreases-lists::copy_struct_list
decreases-lists::copy_struct_list g l = 8 * levels l.from.nesting_limit + 5

abbrev pub decreases-structs::copy_struct : goal.decreases-structs::copy_struct
decreases-structs::copy_struct g l = 8 * levels l.from.nesting_limit + 5

abbrev pub invariant-children::copy_children_inline-loop-i : goal.invariant-children::copy_children_inline-loop-i
invariant-children::copy_children_inline-loop-i g l =
    CopiesChildren (reading g.B.ReaderArena l.from) l.i (copy_call_to l.to (g.A.BuilderArena.view l.fn.arena) (g.A.BuilderArena.view l.arena) l.fn.lim l.lim)
    × TakesForCopy (children_original (reading g.B.ReaderArena l.from) l.i) (copy_call_to l.to (g.A.BuilderArena.view l.fn.arena) (g.A.BuilderArena.view l.arena) l.fn.lim l.lim)

abbrev pub invariant-elements::copy_elements-loop-i : goal.invariant-elements::copy_elements-loop-i
invariant-elements::copy_elements-loop-i g l =
    CopiesRows (reading g.B.ReaderArena l.from) l.sizes l.i (l.sizes.count - l.i) (copy_call_to l.to (g.A.BuilderArena.view l.fn.arena) (g.A.BuilderArena.view l.arena) l.fn.lim l.lim)
    × TakesForCopy (elements_original (reading g.B.ReaderArena l.from) l.sizes l.i) (copy_call_to l.to (g.A.BuilderArena.view l.fn.arena) (g.A.BuilderArena.view l.arena) l.fn.lim l.lim)
