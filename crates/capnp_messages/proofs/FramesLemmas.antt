-- A frame has some bytes.
use Rattle.std.proofs.Common.{◌≡◌, ◌<◌, ◌-◌, ℕ, List, [], ◌++◌, length, refl, ap, arith, length-append}
use Rattle.std.specs.Int.{to_le_bytes, w32}
use Rattle.capnp_format.specs.Segments.{Segments}
use Rattle.capnp_framing.specs.Flat.{BeginsWithFrame}
use Rattle.capnp_framing.specs.Frames.{IsFrameOf, contents, lengths}

pub frame_some : (S : Segments) (bytes : List ℕ) → IsFrameOf S bytes → 0 < length bytes
frame_some S bytes f =
    let number : List ℕ = to_le_bytes w32 (length S - 1) in
    let four : length number ≡ 4 = refl in
    omega (arith, four, ap length f.is, length-append number (lengths S ++ (f.padding ++ contents S)))

-- an input without bytes doesn't begin with a frame
pub no_bytes_begin : (most : ℕ) (S : Segments) → BeginsWithFrame [] most S → ⊥
no_bytes_begin most S begins =
    let some : 0 < length begins.front = frame_some S begins.front begins.framed in
    omega (arith, some, ap length begins.is, length-append begins.front begins.behind)
