use Rattle.std.proofs.Common.{◌≡◌, ap, w32, rules}
use Rattle.std.proofs.lemmas.Grind.{common_steps}
use Rattle.std.proofs.lemmas.Int.{to_z-of_z}
use Rattle.capnp_readers.proofs.ListValues.{pointer_element_means}
use Rattle.std.proofs.Common.{arith}
use Rattle.capnp_pointers.specs.Reading.{place_past, source_start}
use Rattle.capnp_readers.specs.Values.{first_element, pointer_cost}
use Rattle.capnp_readers.specs.Sections.{pointers_offset}
use Rattle.capnp_readers.proofs.Sections.{held_words, pointers_within, elements}
use Rattle.capnp_readers.proofs.readers.list_reader.ListReader.get_pointer_element.Goals as goal

pub overflow_add-behind : goal.overflow_add-behind
overflow_add-behind g c =
    let self = c.args.self in
    let is = c.in-InlineComposite.is in
    let within = rw is at (pointers_within self.element_size self.struct_size self.count c.args.index c.requires.pointers c.requires.range) in
    let room = rw is at self.inside in
    let small = held_words (source_start g.A.ReaderArena self.source).segments self.start self.held in
    rw (c.total.ensures, c.from.ensures) (omega (arith, small, room, within))

pub returns-clause-means : goal.returns-clause-means
returns-clause-means g c = λ t is has.
    let x = first_element g.A.ReaderArena c.args.self in
    let level = to_z-of_z w32 c.args.self.nesting_limit (search rules) in
    let at : c.match-self.behind ≡ pointers_offset c.args.self.element_size c.args.self.struct_size c.args.index = first_of (search rules, grind (arith, common_steps, elements)) in
    rw level (pointer_element_means g.A.ReaderArena c.args.self c.args.index (place_past x c.match-self.behind) c.requires.range c.requires.pointers (ap (place_past x) at) t is has)

pub returns-clause-value : goal.returns-clause-value
returns-clause-value g c = λ t is has. record { cost = pointer_cost g.A.ReaderArena is c.args.index; means = returns-clause-means g c t is has }
