use Rattle.capnp_messages.proofs.CanonLemmas.{or_memory}
use Rattle.callers.proofs.CopiedAt.{copied_at, heap_refused_at, no_memory_at, room_at, tries_as_asked}
use Rattle.callers.proofs.copies.make_heap_copy_at.Goals as goal

pub returns-in-Err-clause-exactly_where : goal.returns-in-Err-clause-exactly_where
returns-in-Err-clause-exactly_where g c = λ t cost means free covers fits.
    no_memory_at c.args.lim.now c.pointer_at.ensures t cost means free covers fits (or_memory c.in-Err.ensures.refused)

pub returns-in-Err-clause-refused : goal.returns-in-Err-clause-refused
returns-in-Err-clause-refused g c = heap_refused_at c.args.lim.now c.in-Err.kind c.pointer_at.ensures (or_memory c.in-Err.ensures.refused)

pub returns-in-Ok-clause-exactly_what : goal.returns-in-Ok-clause-exactly_what
returns-in-Ok-clause-exactly_what g c = copied_at c.pointer_at.ensures c.in-Ok.ensures.copied

pub returns-in-Ok-clause-asked : goal.returns-in-Ok-clause-asked
returns-in-Ok-clause-asked g c =
    room_at c.args.lim.now c.canonicalize_pointer.new.lim _ c.pointer_at.ensures c.in-Ok.ensures.copied (tries_as_asked _ c.new-heap.ensures.words c.new-heap.ensures.refused c.in-Ok.ensures.tries)
