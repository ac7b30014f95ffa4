use Rattle.std.proofs.Common.{◌≡◌, ◌⊎◌, inl, inr, ◌≤◌, ℕ, List, [], Bool, true, false, ◌&&◌, Option, None, Some, Result, Ok, Err, IfErr, IfOk, IfSome, ap, subst}
use Rattle.std.specs.Io.KnownBytes.{Consumes, IsAtEnd}
use Rattle.std.specs.Option.{option_map}
use Rattle.capnp_format.specs.Segments.{Segments}
use Rattle.capnp_arena.specs.declared.arena.reader_arena_impl.ReaderOptions.{ReaderOptions}
use Rattle.capnp_arena.specs.declared.arena.reader_segments.ReaderSegments as segments
use Rattle.capnp_framing.specs.Flat.{BeginsWithFrame}
use Rattle.capnp_framing.specs.Frames.{IsFrameOf}
use Rattle.capnp_framing.specs.Limits.{most_words}
use Rattle.capnp_framing.specs.Reading.{NoFrame, NoFrameRead, total}
use Rattle.capnp_framing.specs.declared.devices.Input as input
use Rattle.capnp_framing.specs.declared.framing.frame_error.FrameError.{FrameError}
use Rattle.capnp_framing.specs.declared.framing.frame_error.FrameError.TheVariants.{AllocationFailed, ReadFailed, Truncated}
use Rattle.capnp_packing.specs.Packing.{unpacked_bytes}
use Rattle.capnp_packing.specs.declared.packing.place.Place.TheVariants.{Tag}
use Rattle.typed_messages.specs.Reading.{EndsBefore, HasLimits, IsMessageRead, words_of_message}
use Rattle.typed_messages.specs.declared.message.MessageReader.{MessageReader}
use Rattle.typed_messages.proofs.serialize_packed.read_message.Goals as goal

-- An input hasn't failed if nothing was read of it.
unread : (told failed : Bool) → told ≡ false → (told && failed) ≡ false
unread told failed is = ap (λ t. t && failed) is

has_failed : (told failed : Bool) → (told && failed) ≡ true → failed ≡ true
has_failed true failed both = both
has_failed false failed both = absurd (cc)

-- The bytes that are there begin with what is read of them.
begins : (from to : Option (List ℕ)) (bytes taken : List ℕ) (W : Segments) (most : ℕ) → from ≡ Some bytes → Consumes from to taken → IsFrameOf W taken → total W ≤ most → BeginsWithFrame bytes most W
begins from None bytes taken W most is consumed framed short = absurd (subst (λ f. Consumes f None taken) is consumed)
begins from (Some behind) bytes taken W most is consumed framed short = record {
  front = taken;
  behind = behind;
  is = subst (λ f. Consumes f (Some behind) taken) is consumed;
  framed = framed;
  short = short;
}

module _ {U S : Type 0} (g : input.Ghosts U) (s : segments.Ghosts S) (from to : U) (options : ReaderOptions) where
  -- The message is in a frame at the front of the unpacked bytes.
  read_there : (packed : Option (List ℕ)) (r : Result (MessageReader S s) FrameError) → g.remaining from ≡ option_map (unpacked_bytes Tag) packed → IfOk r (IsMessageRead g s from to options) →
      IfOk r (λ m. IfSome packed (λ bytes. BeginsWithFrame (unpacked_bytes Tag bytes) (most_words options) (words_of_message s m)))
  read_there packed (Err e) is read = tt
  read_there None (Ok m) is read = tt
  read_there (Some bytes) (Ok m) is read = begins (g.remaining from) (g.remaining to) (unpacked_bytes Tag bytes) read.frame.bytes (words_of_message s m) (most_words options) is read.frame.consumed read.frame.framed read.short

  has_limits : (r : Result (MessageReader S s) FrameError) → IfOk r (IsMessageRead g s from to options) → IfOk r (λ m. HasLimits s m options)
  has_limits (Ok m) read = read.limits
  has_limits (Err e) read = tt

module _ {U R : Type 0} (g : input.Ghosts U) (h : input.Ghosts R) (from to : U) (most : ℕ) where
  -- Why there is no message, by the packed bytes.
  abbrev Why : Option (List ℕ) → FrameError → Type 0
  Why packed e =
      (e ≡ AllocationFailed)
      ⊎ ((e ≡ ReadFailed) × ((device : R) × (h.has_failed device ≡ true)))
      ⊎ IfSome packed (λ bytes.
      ((e ≡ Truncated) × (unpacked_bytes Tag bytes ≡ [])) ⊎ NoFrame (unpacked_bytes Tag bytes) most e)

  is_refused : (packed : Option (List ℕ)) (e : FrameError) → g.remaining from ≡ option_map (unpacked_bytes Tag) packed → (g.has_failed to ≡ true → (device : R) × (h.has_failed device ≡ true)) → EndsBefore g from to e ⊎ NoFrameRead g from to most e → Why packed e
  is_refused None e is failed refused = inr (inr tt)
  is_refused (Some bytes) e is failed (inl ends) = inr (inr (inl (ends.named, subst IsAtEnd is ends.started)))
  is_refused (Some bytes) e is failed (inr none) = elim none.why [
    | inl memory ↦ inl memory
    | inr (inl device) ↦ inr (inl (device.0, failed device.1))
    | inr (inr there) ↦ inr (inr (inr (subst (λ f. IfSome f (λ bs. NoFrame bs most e)) is there)))
  ]

  all_refused : {X : Type 0} (packed : Option (List ℕ)) (r : Result X FrameError) → g.remaining from ≡ option_map (unpacked_bytes Tag) packed → (g.has_failed to ≡ true → (device : R) × (h.has_failed device ≡ true)) → IfErr r (λ e. EndsBefore g from to e ⊎ NoFrameRead g from to most e) → IfErr r (Why packed)
  all_refused packed (Ok x) is failed refused = tt
  all_refused packed (Err e) is failed refused = is_refused packed e is failed refused

pub read_message-requires : goal.read_message-requires
read_message-requires g c = unread c.new-input.result.told (g.R.Input.has_failed c.new-input.result.packed.input) c.new-input.ensures.works

pub returns : goal.returns
returns g c =
    let after = c.read_message.new.input in
    record {
      read = read_there _ _ c.new-input.result after c.args.options (g.R.Input.remaining c.args.packed) c.read_message.result c.new-input.ensures.remaining c.read_message.ensures.read;
      limits = has_limits _ _ c.new-input.result after c.args.options c.read_message.result c.read_message.ensures.read;
      refused = all_refused _ g.R.Input c.new-input.result after _ (g.R.Input.remaining c.args.packed) c.read_message.result c.new-input.ensures.remaining (λ both. (after.packed.input, has_failed after.told (g.R.Input.has_failed after.packed.input) both)) c.read_message.ensures.refused;
    }
