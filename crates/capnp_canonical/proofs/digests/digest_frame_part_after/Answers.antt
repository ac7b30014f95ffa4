use Rattle.capnp_canonical.proofs.CallLemmas.{frame_granted, of_framed}
use Rattle.capnp_canonical.proofs.digests.digest_frame_part_after.Goals as goal

pub returns-in_err-segments-clause-lent : goal.returns-in_err-segments-clause-lent
returns-in_err-segments-clause-lent c = λ small. absurd (frame_granted c.in_err-segments.ensures.refused small)

pub returns-clause-lent : goal.returns-clause-lent
returns-clause-lent c = λ small. c.lend_part_words.ensures.lent (of_framed c.in_ok-segments.ensures.begins small)
