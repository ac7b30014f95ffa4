use Rattle.std.proofs.Common.{◌≡◌, ℕ, ◌+◌, ◌*◌}
use Rattle.capnp_pointers.specs.Reading.{Reading, place_past}
use Rattle.capnp_pointers.specs.Source.{levels}
use Rattle.capnp_pointers.specs.Pointers.{reading, reading_on}
use Rattle.capnp_pointers.specs.Validation.{validate_elements, validate_pointers}
use Rattle.capnp_pointers.proofs.pointers.validate.+validation.Given as goal

abbrev pub decreases-validate_struct : goal.decreases-validate_struct
decreases-validate_struct g l = 6 * levels l.nesting_limit

abbrev pub decreases-validate_object : goal.decreases-validate_object
decreases-validate_object g l = 6 * levels l.nesting_limit

abbrev pub decreases-validate_pointer : goal.decreases-validate_pointer
decreases-validate_pointer g l = 6 * levels l.nesting_limit + 1

abbrev pub decreases-validate_pointers : goal.decreases-validate_pointers
decreases-validate_pointers g l = 6 * levels l.nesting_limit + 2

abbrev pub decreases-validate_elements : goal.decreases-validate_elements
decreases-validate_elements g l = 6 * levels l.from.now.nesting_limit + 3

abbrev pub invariant-validate_pointers-loop-i : goal.invariant-validate_pointers-loop-i
invariant-validate_pointers-loop-i g l =
    let r : Reading = reading_on g.A.ReaderArena l.from l.at l.nesting_limit in
    (k : ℕ) → l.i + k ≡ l.count → validate_pointers l.count r l.fn.walk.tally l.fn.walk.lim ≡ validate_pointers k (place_past r l.i) l.walk.tally l.walk.lim

abbrev pub invariant-validate_elements-loop-i : goal.invariant-validate_elements-loop-i
invariant-validate_elements-loop-i g l =
    let r : Reading = reading g.A.ReaderArena l.from in
    let d : ℕ = l.data_words in
    let q : ℕ = l.pointers in
    (k : ℕ) → l.i + k ≡ l.count → validate_elements d q l.count r l.fn.walk.tally l.fn.walk.lim ≡ validate_elements d q k (place_past r (l.i * (d + q))) l.walk.tally l.walk.lim
