-- What a run says about a packed input ("Packing").
use Rattle.std.specs.Prelude.{◌≡◌, List, ℕ, Option, IfSome}
use Rattle.std.specs.Io.KnownBytes.{IsAtEnd, Keeps}
use Rattle.std.specs.Option.{option_map}
use Rattle.capnp_framing.specs.declared.framing.frame_error.FrameError.TheVariants.{Truncated}
use Rattle.capnp_packing.specs.Packing.{IsWhole, unpacked_bytes}
use Rattle.capnp_packing.specs.declared.packing.place.Place.TheVariants.{Tag}
use Rattle.capnp_streams.specs.Streams.{Stage}
use Rattle.capnp_streams.specs.declared.streams.stream_error.StreamError.{StreamError}
use Rattle.capnp_streams.specs.declared.streams.stream_error.StreamError.TheVariants.{Frame}

-- The bytes that a packed input unpacks to, if they are known, even if it is cut short.
abbrev pub unpacked_known_input : Option (List ℕ) → Option (List ℕ)
unpacked_known_input packed = option_map (unpacked_bytes Tag) packed

-- The stage of a packed input, with these bytes.
abbrev pub unpacked_stage : Stage → Stage
unpacked_stage stage = record stage { input = unpacked_known_input stage.input }

-- After all messages of a packed input it is cut short, within a word or before a number, where no
-- frame has begun; nothing more is written.
abbrev pub IsCutAfter : Option (List ℕ) → Stage → Option (List ℕ) → StreamError → Type 0
IsCutAfter packed old output fault =
    (fault ≡ Frame Truncated) × IfSome packed (λ bytes. IsWhole Tag bytes → ⊥)
    × IsAtEnd old.input × Keeps old.output output
