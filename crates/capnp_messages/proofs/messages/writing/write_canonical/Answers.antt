use Rattle.std.proofs.Common.{◌≡◌, ◌⊎◌, Ok, refl, subst}
use Rattle.std.proofs.lemmas.Result.{IfErr-weaker}
use Rattle.capnp_words.specs.declared.error.ErrorKind.{ErrorKind}
use Rattle.capnp_words.specs.declared.error.ErrorKind.TheVariants.{AllocationFailed}
use Rattle.capnp_arena_traits.specs.Allocations.{max_segment_words}
use Rattle.capnp_framing.specs.Writing.{Prints}
use Rattle.capnp_pointers.specs.Pointers.{reading}
use Rattle.capnp_pointers.specs.Values.{value}
use Rattle.capnp_pointers.specs.Wanted.{canonical}
use Rattle.capnp_messages.specs.Copies.{RefusesCopy}
use Rattle.capnp_messages.specs.Parts.{to_pointer}
use Rattle.capnp_messages.proofs.CanonLemmas.{or_memory}
use Rattle.capnp_messages.proofs.CanonicalFrameLemmas.{frame_failed, frame_written, no_layout}
use Rattle.capnp_messages.proofs.messages.writing.write_canonical.Goals as goal

pub returns-in-Ok-clause-written : goal.returns-in-Ok-clause-written
returns-in-Ok-clause-written g c =
    frame_written (λ t. value canonical (reading g.B.ReaderArena c.args.from) c.args.lim.now ≡ (Ok t, c.canonicalize_pointer.new.lim)) _ c.write_copy.result (Prints g.W.Output c.args.output.now c.write_copy.new.output) c.in-Ok.ensures.copied c.write_copy.ensures.written

pub returns-in-Ok-clause-charged : goal.returns-in-Ok-clause-charged
returns-in-Ok-clause-charged g c =
    IfErr-weaker c.write_copy.result _ _ (λ e failed. λ f same. (c.in-Ok.ensures.copied.0, c.in-Ok.ensures.copied.1)) c.write_copy.ensures.refused

pub returns-clause-layout : goal.returns-clause-layout
returns-clause-layout g c = λ k same.
    let named : c.in-Err.kind ≡ k = cc in
    let why = subst (λ (x : ErrorKind). (x ≡ AllocationFailed) ⊎ RefusesCopy (Ok (to_pointer (reading g.B.ReaderArena c.args.from)), c.args.lim.now) max_segment_words x) named (or_memory c.in-Err.ensures.refused) in
    (why, (refl, refl))

pub returns-in-Ok-clause-works : goal.returns-in-Ok-clause-works
returns-in-Ok-clause-works g c = c.write_copy.ensures.works

pub returns-in-Ok-clause-layout : goal.returns-in-Ok-clause-layout
returns-in-Ok-clause-layout g c = no_layout _ _ c.write_copy.result c.write_copy.ensures.refused

pub returns-in-Ok-clause-unread : goal.returns-in-Ok-clause-unread
returns-in-Ok-clause-unread g c = no_layout _ _ c.write_copy.result c.write_copy.ensures.refused

pub returns-in-Ok-clause-frame : goal.returns-in-Ok-clause-frame
returns-in-Ok-clause-frame g c = frame_failed _ c.write_copy.result c.write_copy.ensures.refused

pub returns-clause-unread : goal.returns-clause-unread
returns-clause-unread g c = λ k same. c.in-Err.ensures.unread
