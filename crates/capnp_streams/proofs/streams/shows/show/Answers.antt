use Rattle.std.proofs.Common.{ap, ◌∙◌, rules}
use Rattle.std.proofs.lemmas.Int.{to_z-of_z}
use mir.Syntax.{w32}
use Rattle.capnp_pointers.specs.Source.{levels}
use Rattle.capnp_streams.proofs.ShowLemmas.{shown_by}
use Rattle.capnp_streams.proofs.streams.shows.show.Goals as goal

pub returns-in-Ok-clause-shown : goal.returns-in-Ok-clause-shown
returns-in-Ok-clause-shown g c =
    let (text, is, written) = c.in-Ok.ensures.shown in
    let limit = to_z-of_z w32 c.args.task.depth (search rules) in
    (text, shown_by c.args.task _ _ _ _ text (c.levels_left.ensures ∙ ap levels limit) c.indexes-path.ensures is, written)
