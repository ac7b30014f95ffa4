-- An input that is one message without a frame conforms, or doesn't.
use Rattle.std.proofs.Common.{◌≡◌, ◌⊎◌, inl, inr, ℕ, List, [], ◌∷◌, Bool, Option, Some, None, IsSomeAnd, refl, sym, subst}
use Rattle.std.specs.Io.KnownBytes.{Consumes, IsAtEnd}
use Rattle.capnp_format.specs.Bytes.{message}
use Rattle.capnp_framing.proofs.BareLemmas.{all_so, bare_words_are_read}
use Rattle.capnp_framing.specs.Bare.{AreBareWords}
use Rattle.capnp_framing.specs.Limits.{most_words}
use Rattle.capnp_framing.specs.declared.framing.frame_error.FrameError.TheVariants.{WriteFailed}
use Rattle.typed_conforming.specs.declared.schema.Misfit.{Misfit as FirstMisfit}
use Rattle.typed_streams.specs.Conforming.{AreConformingWords, IsConforming, IsMisfitOf, IsNoMisfit, StopsRawTest, Wanted}
use Rattle.typed_streams.specs.declared.conforming.ConformingFault.{ConformingFault}
use Rattle.typed_streams.specs.declared.conforming.ConformingFault.TheVariants.{Frame, Misfit, TooManyMessages}

-- the message of raw words that were read doesn't conform
pub raw_blamed : {w : Wanted} (from to : Option (List ℕ)) (segments : List (List ℕ)) (bytes : List ℕ) (failed : Bool) (x : FirstMisfit) →
    AreBareWords bytes (most_words w.limits) → Consumes from to bytes → IsAtEnd to → segments ≡ bytes ∷ [] →
    (IsConforming w (message segments) → ⊥) → IsMisfitOf w (message segments) x → StopsRawTest w from failed (Misfit x)
raw_blamed {w} from to segments bytes failed x bare consumed end only differs blamed = (
  bytes,
  all_so from to bytes (λ all. all ≡ bytes) consumed end refl,
  bare,
  subst (λ (B : List (List ℕ)). IsConforming w (message B) → ⊥) only differs,
  subst (λ (B : List (List ℕ)). IsMisfitOf w (message B) x) only blamed,
)

-- a message that conforms is refused only for memory or a device
conforming_so : (w : Wanted) (bytes : List ℕ) (failed : Bool) (fault : ConformingFault) → AreConformingWords w bytes →
    StopsRawTest w (Some bytes) failed fault → IsNoMisfit fault
conforming_so w bytes failed (Frame e) can (inl memory) = inl memory
conforming_so w bytes failed (Frame e) can (inr (inl (named, device))) = inr (inl named)
conforming_so w bytes failed (Frame e) (bare, conforms) (inr (inr none)) =
    absurd (bare_words_are_read bytes (most_words w.limits) e bare none)
conforming_so w bytes failed (Misfit x) (bare, conforms) (all, same, are, differs, blamed) =
    absurd (differs (subst (λ (bs : List ℕ). IsConforming w (message (bs ∷ []))) same conforms))
conforming_so w bytes failed TooManyMessages can stops = absurd stops

pub raw_conforming : {P Q : Type 0} (w : Wanted) (input : Option (List ℕ)) (failed : Bool) (fault : ConformingFault) →
    ((fault ≡ Frame WriteFailed) × P) ⊎ (StopsRawTest w input failed fault × Q) →
    IsSomeAnd input (AreConformingWords w) → IsNoMisfit fault
raw_conforming w input failed fault (inl (named, device)) = λ can. subst IsNoMisfit (sym named) (inr (inr refl))
raw_conforming w None failed fault (inr (stops, kept)) = λ can. absurd can
raw_conforming w (Some bytes) failed fault (inr (stops, kept)) = λ can. conforming_so w bytes failed fault can stops
