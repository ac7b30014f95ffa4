use Rattle.std.proofs.Common.{◌≡◌, ◌∙◌, refl, sym}
use Rattle.capnp_framing.proofs.ReadingLemmas.{frames_as_long}
use Rattle.capnp_canonical.proofs.CallLemmas.{frame_granted}
use Rattle.capnp_canonical.proofs.StoringLemmas.{answer_is, done_of, none_of, refused_of}
use Rattle.capnp_canonical.proofs.capnp_canonical_frame_size.Goals as goal

pub returns-clause-done : goal.returns-clause-done
returns-clause-done c = λ zero.
    let (S, begins, is) = done_of _ c.store.ensures c.frame_size-size.ensures.size zero in
    (S, begins.front, begins.behind, begins.is, begins.framed, begins.short, is ∙ sym (frames_as_long S begins.front begins.framed))

pub returns-clause-refused : goal.returns-clause-refused
returns-clause-refused c = λ some.
    (none_of c.store.ensures some, refused_of c.store.ensures c.frame_size-size.ensures.refused some)

pub returns-clause-granted : goal.returns-clause-granted
returns-clause-granted c = λ can.
    answer_is (λ n. n ≡ 0) c.store.ensures c.frame_size-size.ensures.refused refl (λ r refused. absurd (frame_granted refused can))
