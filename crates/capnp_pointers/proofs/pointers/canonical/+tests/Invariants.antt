use Rattle.std.proofs.Common.{◌≡◌, ℕ, ◌+◌, ◌*◌, ◌||◌, ◌<◌, nat_eq}
use Rattle.capnp_format.specs.Segments.{HasSmallWords}
use Rattle.capnp_pointers.specs.Reading.{Reading, place_past}
use Rattle.capnp_pointers.specs.Source.{levels}
use Rattle.capnp_pointers.specs.Pointers.{reading_on}
use Rattle.capnp_pointers.specs.Testing.{elements_tested, some_used, test_values, test_within}
use Rattle.capnp_pointers.proofs.pointers.canonical.+tests.Given as goal

abbrev pub decreases-test_struct : goal.decreases-test_struct
decreases-test_struct g l = 6 * levels l.nesting_limit

abbrev pub decreases-test_list : goal.decreases-test_list
decreases-test_list g l = 6 * levels l.nesting_limit

abbrev pub decreases-test_place : goal.decreases-test_place
decreases-test_place g l = 6 * levels l.nesting_limit + 1

abbrev pub decreases-test_children : goal.decreases-test_children
decreases-test_children g l = 6 * levels l.nesting_limit + 2

abbrev pub decreases-test_sections : goal.decreases-test_sections
decreases-test_sections g l = 6 * levels l.nesting_limit + 4

abbrev pub decreases-test_element_pointers : goal.decreases-test_element_pointers
decreases-test_element_pointers g l = 6 * levels l.nesting_limit + 3

abbrev pub decreases-test_elements : goal.decreases-test_elements
decreases-test_elements g l = 6 * levels l.nesting_limit + 4

abbrev pub decreases-test_struct_list : goal.decreases-test_struct_list
decreases-test_struct_list g l = 6 * levels l.nesting_limit + 5

abbrev pub invariant-test_children-loop-i : goal.invariant-test_children-loop-i
invariant-test_children-loop-i g l =
    let r : Reading = reading_on g.A.ReaderArena l.fn.from l.at l.nesting_limit in
    (0 < l.i → HasSmallWords r.segments r.segment) ×
    ((k : ℕ) → l.i + k ≡ l.fn.count → test_values l.fn.count r l.fn.first l.fn.test.lim ≡ test_values k (place_past r l.i) l.head l.test.lim)

-- What is left of the elements, and whether those that are left need their sections, too.
abbrev pub invariant-test_elements-loop-i : goal.invariant-test_elements-loop-i
invariant-test_elements-loop-i g l =
    let r : Reading = reading_on g.A.ReaderArena l.fn.from l.start l.nesting_limit in
    let d : ℕ = l.fn.size.data_words in
    let q : ℕ = l.fn.size.pointers in
    let w : ℕ = d + q in
    let f = test_within (levels l.nesting_limit) in
    (k : ℕ) → l.i + k ≡ l.fn.count → (elements_tested f d q l.fn.count r (l.start + l.fn.count * w) l.fn.test.lim ≡ elements_tested f d q k (place_past r (l.i * w)) l.head l.test.lim) ×
    ((nat_eq d 0 || some_used r d w l.fn.count) ≡ l.is_data_used || some_used (place_past r (l.i * w)) d w k) × ((nat_eq q 0 || some_used (place_past r d) q w l.fn.count) ≡ l.are_pointers_used || some_used (place_past (place_past r (l.i * w)) d) q w k)
