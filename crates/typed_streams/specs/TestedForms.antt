-- What is tested of an input in each form.
use Rattle.std.specs.Prelude.{List, [], ℕ, Option, Some, IfSome}
use Rattle.capnp_packing.specs.Packing.{IsWhole}
use Rattle.capnp_packing.specs.declared.packing.place.Place.TheVariants.{Tag}
use Rattle.capnp_streams.specs.Packed.{unpacked_stage}
use Rattle.capnp_streams.specs.Streams.{Stage}
use Rattle.capnp_streams.specs.declared.streams.input_form.InputForm.{InputForm}
use Rattle.capnp_streams.specs.declared.streams.input_form.InputForm.TheVariants.{Frames, PackedFrames, RawWords}
use Rattle.typed_streams.specs.Conforming.{AreRawWordsTested, AreTested, Wanted}
use Rattle.typed_streams.specs.declared.conforming.TestedMessages.{TestedMessages}

-- All messages of an input, which was read in this form, conform, and the output has `output` now.
abbrev pub AreTestedAs : InputForm → Wanted → Stage → Option (List ℕ) → TestedMessages → Type 0
AreTestedAs Frames w from output tested =
    AreTested w from (record { input = Some []; output = output }) tested.messages tested.bytes
AreTestedAs PackedFrames w from output tested =
    AreTested w (unpacked_stage from) (record { input = Some []; output = output }) tested.messages
    tested.bytes
    × IfSome from.input (IsWhole Tag)
AreTestedAs RawWords w from output tested =
    (left : Option (List ℕ)) × AreRawWordsTested w from (record { input = left; output = output })
