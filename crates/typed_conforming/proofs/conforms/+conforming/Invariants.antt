use Rattle.std.proofs.Common.{◌≡◌, ℕ, ◌+◌, ◌*◌}
use Rattle.capnp_pointers.specs.Reading.{Reading, place_past, words_from}
use Rattle.capnp_pointers.specs.Source.{levels}
use Rattle.capnp_pointers.specs.Pointers.{reading, reading_on}
use Rattle.typed_conforming.specs.Walk.{check_elements, check_pointers, check_within, schema_pointer}
use Rattle.typed_conforming.specs.declared.conforms.SchemaPointer.{SchemaPointer}
use Rattle.typed_conforming.proofs.conforms.+conforming.Given as goal

abbrev pub decreases-check_object : goal.decreases-check_object
decreases-check_object g l = 6 * levels l.from.now.nesting_limit

abbrev pub decreases-check_pointer : goal.decreases-check_pointer
decreases-check_pointer g l = 6 * levels l.from.now.nesting_limit + 1

abbrev pub decreases-check_pointers : goal.decreases-check_pointers
decreases-check_pointers g l = 6 * levels l.from.now.nesting_limit + 2

abbrev pub decreases-check_elements : goal.decreases-check_elements
decreases-check_elements g l = 6 * levels l.from.now.nesting_limit + 3

abbrev pub invariant-check_pointers-loop-i : goal.invariant-check_pointers-loop-i
invariant-check_pointers-loop-i g l =
    let r : Reading = reading_on g.A.ReaderArena l.from l.at l.from.nesting_limit in
    let ps : ℕ → SchemaPointer = schema_pointer l.row.table.now l.row.row (words_from r l.data_words) in
    let first : Reading = place_past r l.data_words in
    (k : ℕ) → l.i + k ≡ l.pointers →
    check_pointers (check_within l.row.table.now r.levels) ps 0 l.pointers first l.fn.walk.lim
    ≡ check_pointers (check_within l.row.table.now r.levels) ps l.i k (place_past first l.i) l.walk.lim

abbrev pub invariant-check_elements-loop-i : goal.invariant-check_elements-loop-i
invariant-check_elements-loop-i g l =
    let r : Reading = reading g.A.ReaderArena l.from in
    let d : ℕ = l.data_words in
    let q : ℕ = l.pointers in
    (k : ℕ) → l.i + k ≡ l.count →
    check_elements (check_within l.row.table.now r.levels) (schema_pointer l.row.table.now l.row.row) d q l.count r l.fn.walk.lim
    ≡ check_elements (check_within l.row.table.now r.levels) (schema_pointer l.row.table.now l.row.row) d q k (place_past r (l.i * (d + q))) l.walk.lim
