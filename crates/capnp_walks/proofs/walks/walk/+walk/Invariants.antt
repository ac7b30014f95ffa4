use Rattle.std.proofs.Common.{◌≡◌, ℕ, ◌+◌, ◌*◌}
use Rattle.capnp_pointers.specs.Reading.{Reading, place_past}
use Rattle.capnp_pointers.specs.Source.{levels}
use Rattle.capnp_pointers.specs.Pointers.{reading, reading_on}
use Rattle.capnp_walks.specs.Listing.{into_array}
use Rattle.capnp_walks.specs.Walks.{walk_elements, walk_pointers}
use Rattle.capnp_walks.proofs.walks.walk.+walk.Given as goal

abbrev pub decreases-walk_object : goal.decreases-walk_object
decreases-walk_object g l = 6 * levels l.nesting_limit

abbrev pub decreases-walk_pointers : goal.decreases-walk_pointers
decreases-walk_pointers g l = 6 * levels l.from.now.nesting_limit + 1

abbrev pub decreases-walk_elements : goal.decreases-walk_elements
decreases-walk_elements g l = 6 * levels l.from.now.nesting_limit + 2

abbrev pub invariant-walk_pointers-loop-i : goal.invariant-walk_pointers-loop-i
invariant-walk_pointers-loop-i g l =
    let r : Reading = reading_on g.A.ReaderArena l.from l.at l.from.nesting_limit in
    (k : ℕ) → l.i + k ≡ l.pointers → walk_pointers into_array l.parent l.pointers r (l.fn.objects, l.fn.count) l.fn.lim ≡ walk_pointers into_array l.parent k (place_past r l.i) (l.objects, l.count) l.lim

abbrev pub invariant-walk_elements-loop-i : goal.invariant-walk_elements-loop-i
invariant-walk_elements-loop-i g l =
    let r : Reading = reading g.A.ReaderArena l.from in
    let d : ℕ = l.data_words in
    let q : ℕ = l.pointers in
    (k : ℕ) → l.i + k ≡ l.elements → walk_elements into_array l.parent d q l.elements r (l.fn.objects, l.fn.count) l.fn.lim ≡ walk_elements into_array l.parent d q k (place_past r (l.i * (d + q))) (l.objects, l.count) l.lim
