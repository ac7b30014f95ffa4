-- The names of refusals of frames, and their texts.
use Rattle.std.specs.Prelude.{ℕ, List, codes, ◌++◌}
use Rattle.std.specs.Fmt.{decimal}
use Rattle.capnp_framing.specs.declared.framing.frame_error.FrameError.{FrameError}
use Rattle.capnp_framing.specs.declared.framing.frame_error.FrameError.TheVariants.{NoSegments}
use Rattle.capnp_framing.specs.declared.framing.frame_error.FrameError.TheVariants.{TooManySegments}
use Rattle.capnp_framing.specs.declared.framing.frame_error.FrameError.TheVariants.{MessageTooLong}
use Rattle.capnp_framing.specs.declared.framing.frame_error.FrameError.TheVariants.{Truncated}
use Rattle.capnp_framing.specs.declared.framing.frame_error.FrameError.TheVariants.{ReadFailed}
use Rattle.capnp_framing.specs.declared.framing.frame_error.FrameError.TheVariants.{WriteFailed}
use Rattle.capnp_framing.specs.declared.framing.frame_error.FrameError.TheVariants.{AllocationFailed}

-- The name of a refusal.
abbrev pub frame_error_name : FrameError → List ℕ
frame_error_name NoSegments = codes "NoSegments"
frame_error_name (TooManySegments _) = codes "TooManySegments"
frame_error_name (MessageTooLong _) = codes "MessageTooLong"
frame_error_name Truncated = codes "Truncated"
frame_error_name ReadFailed = codes "ReadFailed"
frame_error_name WriteFailed = codes "WriteFailed"
frame_error_name AllocationFailed = codes "AllocationFailed"

-- The text that `{}` writes.
abbrev pub frame_error_text : FrameError → List ℕ
frame_error_text (TooManySegments n) = codes "TooManySegments(" ++ decimal n ++ codes ")"
frame_error_text (MessageTooLong n) = codes "MessageTooLong(" ++ decimal n ++ codes ")"
frame_error_text e = frame_error_name e
