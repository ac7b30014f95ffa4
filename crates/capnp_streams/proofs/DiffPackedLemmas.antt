-- What a run over the bytes of two packed inputs states about the packed bytes.
use Rattle.std.proofs.Common.{◌≡◌, inl, inr, ℕ, List, Bool, true, false, Option, Some, None, IfSome, refl, ap₂, subst}
use Rattle.capnp_framing.specs.Wholeness.{KeepsWhole}
use Rattle.capnp_framing.proofs.WholenessLemmas.{keeps_whole_both}
use Rattle.capnp_packing.specs.Packing.{IsWhole, is_tag, place_at_end, whole_behind}
use Rattle.capnp_packing.specs.declared.packing.place.Place.{Place}
use Rattle.capnp_packing.specs.declared.packing.place.Place.TheVariants.{Tag, Kept, Zeros, Whole, Count, Raw}
use Rattle.capnp_framing.specs.declared.devices.Input.{Ghosts}
use Rattle.capnp_streams.specs.Diffs.{DiffStage, EndsNotWhole, IsCutOrFailed, IsDiffCut, IsNotWhole, unpacked_stages}
use Rattle.capnp_streams.specs.declared.streams.diffs.Compared.{Compared}
use Rattle.capnp_streams.specs.declared.streams.diffs.DiffFault.{DiffFault}
use Rattle.capnp_streams.specs.declared.streams.diffs.DiffFault.TheVariants.{Refused, TooLong, AllocationFailed, WriteFailed}
use Rattle.capnp_streams.specs.declared.streams.diffs.Side.TheVariants.{Left, Right}
use Rattle.capnp_streams.specs.declared.streams.stream_error.StreamError.{StreamError}
use Rattle.capnp_streams.proofs.PackedLemmas.{are_cut}
use Rattle.capnp_streams.specs.Packed.{unpacked_known_input}

-- the bytes that two packed inputs unpack to
pub stages_unpacked : (P : DiffStage → Type 0) (left right output left' right' : Option (List ℕ)) →
    left' ≡ unpacked_known_input left → right' ≡ unpacked_known_input right →
    P (record { left = left'; right = right'; output = output }) → P (unpacked_stages (record { left = left; right = right; output = output }))
stages_unpacked P left right output left' right' one other =
    subst P (ap₂ (λ (a b : Option (List ℕ)). let s : DiffStage = record { left = a; right = b; output = output } in s) one other)

tag_so : (place : Place) → is_tag place ≡ true → place ≡ Tag
tag_so Tag is = refl
tag_so (Kept bits left) is = absurd (cc)
tag_so Zeros is = absurd (cc)
tag_so (Whole left) is = absurd (cc)
tag_so Count is = absurd (cc)
tag_so (Raw left) is = absurd (cc)

-- packed bytes are whole if it is known at their end
pub are_whole : (packed : Option (List ℕ)) (before behind : Option Bool) → before ≡ whole_behind Tag packed → KeepsWhole before behind → KeepsWhole behind (Some true) →
    IfSome packed (IsWhole Tag)
are_whole None before behind is kept last = tt
are_whole (Some bytes) before behind is kept last =
    let both = keeps_whole_both before behind (Some true) kept last in
    let same : Some true ≡ Some (is_tag (place_at_end Tag bytes)) = subst (λ (o : Option Bool). KeepsWhole o (Some true)) is both in
    let tag : is_tag (place_at_end Tag bytes) ≡ true = cc in
    tag_so (place_at_end Tag bytes) tag

-- an input that isn't whole is cut short, or reading it failed
not_whole : {D : Type 0} (g : Ghosts D) (packed : D) (before behind : Option Bool) (fault : StreamError) → before ≡ whole_behind Tag (g.remaining packed) → KeepsWhole before behind →
    EndsNotWhole g behind fault → IsCutOrFailed g packed fault
not_whole g packed before behind fault is kept (inl (named, last)) =
    let both = keeps_whole_both before behind (Some false) kept last in
    inl (named, are_cut (g.remaining packed) (subst (λ (o : Option Bool). KeepsWhole o (Some false)) is both))
not_whole g packed before behind fault is kept (inr failed) = inr failed

pub ends_cut : {L R : Type 0} (f : Ghosts L) (g : Ghosts R) (left : L) (right : R) (compared : Compared) (bl al br ar : Option Bool) (fault : DiffFault) →
    bl ≡ whole_behind Tag (f.remaining left) → KeepsWhole bl al → br ≡ whole_behind Tag (g.remaining right) → KeepsWhole br ar →
    IsNotWhole f g compared al ar fault → IsDiffCut f g left right compared fault
ends_cut f g left right compared bl al br ar (Refused Left stop) one first other second (longer, after, ends) = (longer, after, not_whole f left bl al stop.fault one first ends)
ends_cut f g left right compared bl al br ar (Refused Right stop) one first other second (longer, after, ends) = (longer, after, not_whole g right br ar stop.fault other second ends)
ends_cut f g left right compared bl al br ar (TooLong n) one first other second ends = absurd ends
ends_cut f g left right compared bl al br ar AllocationFailed one first other second ends = absurd ends
ends_cut f g left right compared bl al br ar WriteFailed one first other second ends = absurd ends
