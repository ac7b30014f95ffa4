use Rattle.std.proofs.Common.{◌≡◌, drop}
use Rattle.capnp_pointers.specs.Pointers.{reading}
use Rattle.capnp_messages.specs.Parts.{follow_path, to_pointer}
use Rattle.capnp_messages.specs.PathEnds.{end_read}
use Rattle.capnp_messages.proofs.messages.path.follow_path.Given as goal

abbrev pub invariant-loop-index : goal.invariant-loop-index
invariant-loop-index g l =
    follow_path (to_pointer (reading g.A.ReaderArena l.initial.from)) l.path l.initial.lim
    ≡ follow_path (end_read g.A.ReaderArena l.end) (drop l.index-index l.path) l.lim
