use Rattle.std.proofs.Common.{ap, refl, inl, inr, arith, rules}
use Rattle.capnp_framing.specs.declared.framing.frame_error.FrameError.TheVariants.{NoSegments, TooManySegments}
use Rattle.capnp_layout.specs.Commands.{beyond_limits, wrong_number}
use Rattle.capnp_layout.proofs.tool.framed.checked_segment_count.Goals as goal

pub returns-then-not-is_small-clause-refused : goal.returns-then-not-is_small-clause-refused
returns-then-not-is_small-clause-refused c = beyond_limits refl (search rules)

pub returns-then-count-eq0-clause-refused : goal.returns-then-count-eq0-clause-refused
returns-then-count-eq0-clause-refused c = wrong_number NoSegments refl (inl (refl, omega (arith, c.len-count.ensures)))

pub returns-then-count-gt-MAX_SEGMENTS-clause-refused : goal.returns-then-count-gt-MAX_SEGMENTS-clause-refused
returns-then-count-gt-MAX_SEGMENTS-clause-refused c = wrong_number (TooManySegments c.len-count.result) refl (inr (ap TooManySegments c.len-count.ensures, omega (arith, c.len-count.ensures)))
