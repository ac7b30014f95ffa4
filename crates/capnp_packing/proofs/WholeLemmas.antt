-- Packed bytes are as whole as before, after any of them are consumed.
use Rattle.std.proofs.Common.{[], ◌≡◌, ◌↔◌, ◌∙◌, ℕ, List, Bool, true, false, Option, Some, None, IsTrue, ap, refl, sym}
use Rattle.std.specs.Io.KnownBytes.{Consumes, IsAtEnd, Keeps}
use Rattle.capnp_framing.specs.Wholeness.{KeepsWhole}
use Rattle.capnp_packing.specs.Packing.{KeepsEnd, is_tag, place_at_end, whole_behind}
use Rattle.capnp_packing.specs.declared.packing.place.Place.{Place}
use Rattle.capnp_packing.specs.declared.packing.place.Place.TheVariants.{Tag, Kept, Zeros, Whole, Count, Raw}

pub end_kept : (place : Place) (known : Option (List ℕ)) → KeepsEnd place known place known
end_kept place None = tt
end_kept place (Some packed) = refl

-- a test of a place
tag_tested : (whole : Bool) (place : Place) → IsTrue whole ↔ (place ≡ Tag) → whole ≡ is_tag place
tag_tested true place same = ap is_tag (sym (same.0 refl))
tag_tested false Tag same = same.1 refl
tag_tested false (Kept bits left) same = refl
tag_tested false Zeros same = refl
tag_tested false (Whole left) same = refl
tag_tested false Count same = refl
tag_tested false (Raw left) same = refl

-- if they have ended, the place says whether they are whole
pub whole_at_end : (place next : Place) (old new : Option (List ℕ)) (whole : Bool) → KeepsEnd place old next new → IsAtEnd new →
    IsTrue whole ↔ (next ≡ Tag) → KeepsWhole (whole_behind place old) (Some whole)
unfolding place_at_end
whole_at_end place next None new whole kept end same = tt
whole_at_end place next (Some packed) None whole kept end same = absurd kept
whole_at_end place next (Some packed) (Some rest) whole kept end same =
    let there : next ≡ place_at_end place packed = sym (ap (place_at_end next) end) ∙ kept in
    ap (λ (b : Bool). Some b) (tag_tested whole next same) ∙ ap (λ (p : Place). Some (is_tag p)) there

-- if an input stays, no bytes of it are consumed
pub none_taken : (old new : Option (List ℕ)) → Keeps old new → Consumes old new []
none_taken None new kept = tt
none_taken (Some bytes) None kept = absurd kept
none_taken (Some bytes) (Some rest) kept = sym kept
