use Rattle.std.proofs.Common.{◌≡◌, ℕ, ◌+◌, ◌*◌}
use Rattle.capnp_pointers.specs.Reading.{Reading, place_past}
use Rattle.capnp_pointers.specs.Measure.{measure_pointers, measure_elements}
use Rattle.capnp_pointers.specs.Source.{levels}
use Rattle.capnp_pointers.specs.Pointers.{reading, reading_on}
use Rattle.capnp_pointers.proofs.pointers.sizes.+sizes.Given as goal

abbrev pub decreases-add_pointers : goal.decreases-add_pointers
decreases-add_pointers g l = 6 * levels l.nesting_limit + 4

abbrev pub decreases-add_element_pointers : goal.decreases-add_element_pointers
decreases-add_element_pointers g l = 6 * levels l.nesting_limit + 3

abbrev pub decreases-add_pointer : goal.decreases-add_pointer
decreases-add_pointer g l = 6 * levels l.nesting_limit + 2

abbrev pub decreases-add_struct : goal.decreases-add_struct
decreases-add_struct g l = 6 * levels l.nesting_limit + 1

abbrev pub decreases-add_object : goal.decreases-add_object
decreases-add_object g l = 6 * levels l.nesting_limit + 1

abbrev pub decreases-add_elements : goal.decreases-add_elements
decreases-add_elements g l = 6 * levels l.from.now.nesting_limit + 4

abbrev pub invariant-add_element_pointers-loop-i : goal.invariant-add_element_pointers-loop-i
invariant-add_element_pointers-loop-i g l =
    let r : Reading = reading_on g.A.ReaderArena l.from l.at l.nesting_limit in
    (k : ℕ) → l.i + k ≡ l.count → measure_pointers l.count r l.fn.walk.sums.size l.fn.walk.lim ≡ measure_pointers k (place_past r l.i) l.walk.sums.size l.walk.lim

abbrev pub invariant-add_elements-loop-i : goal.invariant-add_elements-loop-i
invariant-add_elements-loop-i g l =
    let r : Reading = reading g.A.ReaderArena l.from in
    let d : ℕ = l.data_words in
    let q : ℕ = l.pointers in
    (k : ℕ) → l.i + k ≡ l.count → measure_elements d q l.count r l.fn.walk.sums.size l.fn.walk.lim ≡ measure_elements d q k (place_past r (l.i * (d + q))) l.walk.sums.size l.walk.lim
