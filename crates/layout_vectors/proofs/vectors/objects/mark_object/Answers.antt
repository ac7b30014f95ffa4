use Rattle.std.proofs.Common.{rules}
use Rattle.capnp_format.specs.Bytes.{message}
use Rattle.capnp_format.specs.Segments.{Segments, Target}
use Rattle.layout_vectors.specs.Landings.{target_at}
use Rattle.layout_vectors.specs.Walks.{Walk, walk}
use Rattle.layout_vectors.proofs.Steps.{capability_taken, takes_by}
use Rattle.layout_vectors.proofs.vectors.objects.mark_object.Goals as goal

pub returns-in-Other : goal.returns-in-Other
returns-in-Other g c =
    let S : Segments = message (g.A.ReaderArena.segments c.args.arena.now) in
    let a : Target = target_at c.args.landing in
    let w : Walk = walk c.args.marks.now c.args.pending.now in
    takes_by c.is_capability.result (λ yes. capability_taken S a w (c.is_capability.ensures.0 yes)) (search rules)
