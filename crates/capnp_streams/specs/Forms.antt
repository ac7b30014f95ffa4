-- How a task reads its input, and what is answered to an input in each form.
use Rattle.std.specs.Prelude.{◌≡◌, Bool, List, [], ℕ, Option, Some, IfSome}
use Rattle.capnp_arena.specs.declared.arena.reader_arena_impl.ReaderOptions.{ReaderOptions}
use Rattle.capnp_packing.specs.Packing.{IsWhole}
use Rattle.capnp_packing.specs.declared.packing.place.Place.TheVariants.{Tag}
use Rattle.capnp_streams.specs.Diffs.{AreAllCompared, AreFlatCompared, DiffStage, IsPackedCompared}
use Rattle.capnp_streams.specs.Flat.{IsFlatDone}
use Rattle.capnp_streams.specs.declared.streams.task.Job.{Job}
use Rattle.capnp_streams.specs.Packed.{unpacked_stage}
use Rattle.capnp_streams.specs.Streams.{AreDone, Stage}
use Rattle.capnp_streams.specs.declared.streams.diffs.Compared.{Compared}
use Rattle.capnp_streams.specs.declared.streams.input_form.InputForm.{InputForm}
use Rattle.capnp_streams.specs.declared.streams.input_form.InputForm.TheVariants.{Frames, PackedFrames, RawWords}
use Rattle.capnp_streams.specs.declared.streams.runs.Summary.{Summary}

-- The whole input, which was read in this form, is answered, and the output has `output` now.
abbrev pub IsAnsweredAs : InputForm → Job → Stage → Option (List ℕ) → Summary → Type 0
IsAnsweredAs Frames job from output summary =
    AreDone job from (record { input = Some []; output = output }) summary
IsAnsweredAs PackedFrames job from output summary =
    AreDone job (unpacked_stage from) (record { input = Some []; output = output }) summary
    × IfSome from.input (IsWhole Tag)
IsAnsweredAs RawWords job from output summary =
    (left : Option (List ℕ))
    × IsFlatDone job from (record { input = left; output = output }) summary.holds

-- Two inputs, which were read in this form, are compared, and the output has `output` now.
abbrev pub IsComparedAs : InputForm → ReaderOptions → DiffStage → Option (List ℕ) → Bool → Type 0
IsComparedAs Frames limits from output is_same =
    (compared : Compared) × AreAllCompared limits from output compared
    × (is_same ≡ compared.is_same)
IsComparedAs PackedFrames limits from output is_same = IsPackedCompared limits from output is_same
IsComparedAs RawWords limits from output is_same =
    (left : Option (List ℕ)) × (right : Option (List ℕ))
    × AreFlatCompared limits from (record { left = left; right = right; output = output }) is_same
