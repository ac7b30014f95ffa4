use Rattle.std.proofs.lemmas.Result.{IfOk-weaker}
use Rattle.capnp_pointers.specs.Pointers.{reading}
use Rattle.capnp_pointers.specs.Wanted.{canonical}
use Rattle.capnp_pointers.proofs.WholeValue.ValueAsStated.{reads_is}
use Rattle.capnp_messages.proofs.messages.canonical_copy.canonicalize_pointer.Goals as goal

pub returns-clause-copied : goal.returns-clause-copied
returns-clause-copied g c =
    IfOk-weaker c.canonicalize_reached.result _ _ (λ made (t, reads, holds). (t, reads_is canonical (reading g.B.ReaderArena c.args.from) c.args.lim.now c.canonicalize_reached.new.lim t reads, holds)) c.canonicalize_reached.ensures.copied

pub returns-clause-tries : goal.returns-clause-tries
returns-clause-tries g c = c.canonicalize_reached.ensures.tries

pub returns-clause-refused : goal.returns-clause-refused
returns-clause-refused g c = c.canonicalize_reached.ensures.refused
