use Rattle.std.proofs.Common.{◌≡◌, ℕ, ◌+◌, ◌*◌}
use Rattle.capnp_pointers.specs.Reading.{Reading, place_past}
use Rattle.capnp_pointers.specs.Source.{levels}
use Rattle.capnp_pointers.specs.Pointers.{reading, reading_on}
use Rattle.capnp_refusals.specs.Search.{search_elements, search_pointers}
use Rattle.capnp_refusals.proofs.refusals.search.+search.Given as goal

abbrev pub decreases-search_object : goal.decreases-search_object
decreases-search_object g l = 6 * levels l.nesting_limit

abbrev pub decreases-search_pointers : goal.decreases-search_pointers
decreases-search_pointers g l = 6 * levels l.nesting_limit + 1

abbrev pub decreases-search_elements : goal.decreases-search_elements
decreases-search_elements g l = 6 * levels l.from.now.nesting_limit + 2

abbrev pub invariant-search_pointers-loop-i : goal.invariant-search_pointers-loop-i
invariant-search_pointers-loop-i g l =
    let r : Reading = reading_on g.A.ReaderArena l.from l.at l.nesting_limit in
    (k : ℕ) → l.i + k ≡ l.count → search_pointers l.demands l.count r l.fn.lim ≡ search_pointers l.demands k (place_past r l.i) l.lim

abbrev pub invariant-search_elements-loop-i : goal.invariant-search_elements-loop-i
invariant-search_elements-loop-i g l =
    let r : Reading = reading g.A.ReaderArena l.from in
    let d : ℕ = l.data_words in
    let q : ℕ = l.pointers in
    (k : ℕ) → l.i + k ≡ l.count → search_elements l.demands d q l.count r l.fn.lim ≡ search_elements l.demands d q k (place_past r (l.i * (d + q))) l.lim
