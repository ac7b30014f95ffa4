use Rattle.std.proofs.Common.{◌≡◌, ℕ, ◌+◌, ◌*◌}
use Rattle.capnp_arena_traits.specs.Allocations.{max_segment_words}
use Rattle.capnp_pointers.specs.Reading.{Reading, place_past}
use Rattle.capnp_pointers.specs.Source.{levels}
use Rattle.capnp_pointers.specs.Pointers.{reading, reading_on}
use Rattle.capnp_messages.specs.MadeWords.{made_elements, made_pointers}
use Rattle.capnp_messages.proofs.messages.copy_size.+copy_size.Given as goal

abbrev pub decreases-add_value : goal.decreases-add_value
decreases-add_value g l = 6 * levels l.nesting_limit

abbrev pub decreases-add_pointers : goal.decreases-add_pointers
decreases-add_pointers g l = 6 * levels l.nesting_limit + 1

abbrev pub decreases-add_elements : goal.decreases-add_elements
decreases-add_elements g l = 6 * levels l.from.now.nesting_limit + 2

abbrev pub invariant-add_pointers-loop-i : goal.invariant-add_pointers-loop-i
invariant-add_pointers-loop-i g l =
    let r : Reading = reading_on g.A.ReaderArena l.from l.at l.nesting_limit in
    (k : ℕ) → l.i + k ≡ l.count → made_pointers max_segment_words l.count r l.words l.fn.lim ≡ made_pointers max_segment_words k (place_past r l.i) l.sum l.lim

abbrev pub invariant-add_elements-loop-i : goal.invariant-add_elements-loop-i
invariant-add_elements-loop-i g l =
    let r : Reading = reading g.A.ReaderArena l.from in
    let d : ℕ = l.fn.size.data_words in
    let q : ℕ = l.fn.size.pointers in
    (k : ℕ) → l.i + k ≡ l.count → made_elements max_segment_words d q l.count r l.words l.fn.lim ≡ made_elements max_segment_words d q k (place_past r (l.i * (d + q))) l.sum l.lim
