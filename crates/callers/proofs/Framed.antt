-- A frame in memory is read as its message.
use Rattle.std.proofs.Common.{◌≡◌, ℕ, ◌*◌, ◌^◌, ◌<◌, ◌≤◌, List, [], ◌∷◌, All, length, Option, Some, Result, Ok, Err, IfOk, IfErr, IsOkAnd, sym, subst, ◌∙◌, arith}
use Rattle.std.proofs.lemmas.List.{append-nil}
use Rattle.std.proofs.lemmas.List.Elements.{All-head, All-tail}
use Rattle.capnp_format.specs.Segments.{Segments}
use Rattle.capnp_format.specs.Means.{Means}
use Rattle.capnp_framing.specs.Flat.{BeginsWithFrame}
use Rattle.capnp_framing.specs.Frames.{CanBeFramed, IsFrameOf, frame}
use Rattle.capnp_framing.specs.Reading.{NoFrame, max_length, total}
use Rattle.capnp_framing.specs.declared.framing.frame_error.FrameError.{FrameError}
use Rattle.capnp_framing.proofs.FrameLemmas.{one_frame_begins, written_is_frame}
use Rattle.capnp_framing.proofs.ReadingLemmas.{frame_is_read}
use Rattle.callers.specs.Meaning.{MeansTheSame}

-- the greatest budget of words
abbrev greatest_budget : ℕ
greatest_budget = 18446744073709551615

total_most : (S : Segments) → All (λ (ws : List ℕ). length ws < 2 ^ 32) S → total S ≤ max_length * length S
total_most [] short = omega arith
total_most (ws ∷ S) short =
    omega (arith, All-head (λ (xs : List ℕ). length xs < 2 ^ 32) ws S short, total_most S (All-tail (λ (xs : List ℕ). length xs < 2 ^ 32) ws S short))

total_small : (S : Segments) → CanBeFramed S → total S ≤ greatest_budget
total_small S h = omega (arith, total_most S h.short, h.few)

pub is_that_message : (S R : Segments) (bytes : List ℕ) → IsFrameOf S bytes → BeginsWithFrame bytes greatest_budget R → R ≡ S
is_that_message S R bytes framed begins =
    sym (one_frame_begins S R bytes begins.front [] begins.behind framed begins.framed (append-nil bytes ∙ begins.is)).0

pub is_no_fault : (S : Segments) (bytes : List ℕ) (e : FrameError) → IsFrameOf S bytes → NoFrame bytes greatest_budget e → ⊥
is_no_fault S bytes e framed none =
    frame_is_read S bytes [] greatest_budget e framed (total_small S framed.message) (subst (λ (xs : List ℕ). NoFrame xs greatest_budget e) (sym (append-nil bytes)) none)

-- bytes that are an output's whole content are those that were written there
pub is_frame : (S : Segments) (bytes : List ℕ) (contents : Option (List ℕ)) → CanBeFramed S → contents ≡ Some (frame S) → Some bytes ≡ contents → IsFrameOf S bytes
is_frame S bytes contents can written all =
    let same : frame S ≡ bytes = cc in
    subst (λ (xs : List ℕ). IsFrameOf S xs) same (written_is_frame S can)

-- what is read as a message means the same as the message
pub means_there : {A E : Type 0} (r : Result A E) (read : A → Segments) (S : Segments) → IsOkAnd r (λ f. read f ≡ S) → IfOk r (λ f. MeansTheSame S (read f))
means_there (Ok f) read S same = λ n s p c t means. subst (λ (R : Segments). Means R n s p t c) (sym same) means
means_there (Err e) read S none = tt

-- what succeeds isn't refused
pub none_refused : {A E : Type 0} (r : Result A E) (P : A → Type 0) (Q : E → Type 0) → IsOkAnd r P → IfErr r Q
none_refused (Ok f) P Q is = tt
none_refused (Err e) P Q none = absurd none
