use Rattle.std.proofs.Common.{◌+◌, ◌<◌, ◌^◌, ap, ◌∙◌, arith}
use Rattle.capnp_pointers.specs.Reading.{place_past}
use Rattle.capnp_messages.proofs.PathLemmas.{inside_at}
use Rattle.capnp_messages.proofs.messages.pointer_run.pointer_within.Goals as goal

pub returns : goal.returns
returns g c =
    let first = inside_at g.A.ReaderArena c.args.from c.inside.result c.args.start c.inside.ensures.source c.inside.ensures.place c.inside.ensures.levels in
    let fits : c.args.start.at + c.args.words < 2 ^ 32 = omega (arith, c.requires.inside, c.requires.held.1, c.requires.held.2) in
    c.past.ensures (rw c.inside.ensures.place fits) ∙ ap (λ r. place_past r c.args.words) first
