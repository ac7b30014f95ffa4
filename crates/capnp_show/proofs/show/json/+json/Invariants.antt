use Rattle.std.proofs.Common.{◌≡◌, ℕ, ◌+◌, ◌-◌, ◌*◌}
use Rattle.capnp_pointers.specs.Reading.{Reading, place_past}
use Rattle.capnp_pointers.specs.Pointers.{reading}
use Rattle.capnp_show.specs.Shown.{IsPlain, add, array_begin, array_within, show_each, show_elements, show_within, shown_json}
use Rattle.capnp_show.proofs.show.json.+json.Given as goal

abbrev pub decreases-write_pointed_value : goal.decreases-write_pointed_value
decreases-write_pointed_value g l = 7 * l.depth + 6

abbrev pub decreases-write_null_or_object : goal.decreases-write_null_or_object
decreases-write_null_or_object g l = 7 * l.depth + 5

abbrev pub decreases-write_object : goal.decreases-write_object
decreases-write_object g l = 7 * l.depth + 4

abbrev pub decreases-write_struct_list : goal.decreases-write_struct_list
decreases-write_struct_list g l = 7 * l.depth + 3

abbrev pub decreases-write_struct_elements : goal.decreases-write_struct_elements
decreases-write_struct_elements g l = 7 * l.depth + 2

abbrev pub decreases-write_sections : goal.decreases-write_sections
decreases-write_sections g l = 7 * l.depth + 1

abbrev pub decreases-write_pointer_array : goal.decreases-write_pointer_array
decreases-write_pointer_array g l = 7 * l.depth

abbrev pub invariant-write_pointer_array-loop-i : goal.invariant-write_pointer_array-loop-i
invariant-write_pointer_array-loop-i g l =
    let r : Reading = reading g.A.ReaderArena l.first in
    IsPlain l.fn.json → IsPlain l.json
    × ((k : ℕ) → l.i + k ≡ l.count → show_each (show_within (l.depth - 1)) 0 l.count r (add (array_begin l.are_elements) (shown_json l.fn.json)) ≡ show_each (show_within (l.depth - 1)) l.i k (place_past r l.i) (shown_json l.json))

abbrev pub invariant-write_struct_elements-loop-i : goal.invariant-write_struct_elements-loop-i
invariant-write_struct_elements-loop-i g l =
    let r : Reading = reading g.A.ReaderArena l.first in
    let d : ℕ = l.size.data_words in
    let q : ℕ = l.size.pointers in
    IsPlain l.fn.json → IsPlain l.json
    × ((k : ℕ) → l.i + k ≡ l.count → show_elements (array_within l.depth) d q 0 l.count r (shown_json l.fn.json) ≡ show_elements (array_within l.depth) d q l.i k (place_past r (l.i * (d + q))) (shown_json l.json))
