-- What writing a canonical frame states, by what its copy states, and what a limiter has left after
-- a copy.
use Rattle.std.proofs.Common.{◌≡◌, ℕ, Bool, true, false, List, [], ◌∷◌, Option, Some, None, Result, Ok, Err, OnOk, IfErr, sym, ap, ◌∙◌, subst, arith}
use Rattle.capnp_words.specs.Meter.{Meter, Affords, FitsIn, less, raised, unused}
use Rattle.capnp_format.specs.Segments.{Segments}
use Rattle.capnp_format.specs.Tree.{Tree}
use Rattle.capnp_format.specs.Canonical.{encoding, trim}
use Rattle.capnp_words.specs.declared.error.ErrorKind.{ErrorKind}
use Rattle.capnp_framing.specs.Frames.{frame}
use Rattle.capnp_framing.specs.declared.framing.frame_error.FrameError.{FrameError}
use Rattle.capnp_framing.specs.declared.framing.frame_error.FrameError.TheVariants.{WriteFailed}
use Rattle.capnp_pointers.specs.Outcomes.{ReadsAll}
use Rattle.capnp_pointers.specs.Reading.{place_past}
use Rattle.capnp_pointers.specs.Spending.{after_charge, pointers_in, pointers_in_all}
use Rattle.capnp_pointers.specs.Wanted.{canonical}
use Rattle.capnp_messages.specs.CanonicalErrors.{IsLeftOf}
use Rattle.capnp_messages.specs.EndValues.{EndReads}
use Rattle.capnp_messages.specs.Parts.{PathEnd, to_element, to_pointer}
use Rattle.capnp_messages.specs.declared.messages.canonical_error.CanonicalError.{CanonicalError}
use Rattle.capnp_messages.specs.declared.messages.canonical_error.CanonicalError.TheVariants.{Frame, Layout}

-- the frame of the words that were made is that of the canonical words
pub frame_written : {X E : Type 0} (Q : Tree → Type 0) (words : Segments) (o : Result X E) (P : List ℕ → Type 0) → (t : Tree) × Q t × (words ≡ encoding (trim t) ∷ []) → OnOk o (P (frame words)) →
    OnOk o ((t : Tree) × Q t × P (frame (encoding (trim t) ∷ [])))
frame_written Q words (Ok x) P (t, read, is_made) printed = (t, read, subst (λ (S : Segments). P (frame S)) is_made printed)
frame_written Q words (Err k) P copied printed = tt

-- a frame that isn't written is refused with WriteFailed, and not with the error of a copy
pub no_layout : {A : Type 0} (P : Type 0) (Q : ErrorKind → Type 0) (o : Result A CanonicalError) → IfErr o (λ e. (e ≡ Frame WriteFailed) × P) →
    IfErr o (λ e. (k : ErrorKind) → e ≡ Layout k → Q k)
no_layout P Q (Ok x) failed = tt
no_layout P Q (Err e) failed = λ k same. absurd (let wrong : Frame WriteFailed ≡ Layout k = sym failed.0 ∙ same in cc)

pub frame_failed : {A : Type 0} (P : Type 0) (o : Result A CanonicalError) → IfErr o (λ e. (e ≡ Frame WriteFailed) × P) →
    IfErr o (λ e. (f : FrameError) → e ≡ Frame f → (f ≡ WriteFailed) × P)
frame_failed P (Ok x) failed = tt
frame_failed P (Err e) failed = λ f same. (let is : Frame f ≡ Frame WriteFailed = sym same ∙ failed.0 in cc, failed.1)

none_raised : (f : ℕ) → raised f 0 ≡ f
none_raised f = omega arith

raised_together : (f i : ℕ) → raised f (raised 0 i) ≡ raised f i
raised_together f i = omega arith

less_left : (l : Option ℕ) (n : ℕ) → FitsIn l n → IsLeftOf (less l n) l
less_left None n fits = tt
less_left (Some left) n fits = omega arith

same_left : (l : Option ℕ) → IsLeftOf l l
same_left None = tt
same_left (Some left) = omega arith

-- a copy leaves at most as much of a limit as before
left_within : (charging : Bool) (l : Option ℕ) (n p : ℕ) → Affords charging (unused l) n → IsLeftOf (after_charge charging (unused l) n p).left l
left_within true l n p covers = less_left l n covers
left_within false l n p covers = same_left l

pub copy_left : (e : PathEnd) (l : Option ℕ) (own : Meter) (t : Tree) → EndReads e (unused l) own t → IsLeftOf own.left l
copy_left (to_pointer r) l own t reads =
    subst (λ (m : Meter). IsLeftOf m.left l) (sym reads.spent) (left_within r.charging l reads.cost (pointers_in t) reads.covers)
copy_left (to_element r d q) l own t (there, (ts, is, counts, reads)) =
    subst (λ (m : Meter). IsLeftOf m.left l) (sym reads.spent) (left_within r.charging l reads.cost (pointers_in_all ts) reads.covers)

covered : (charging : Bool) (old : Meter) (n : ℕ) → Affords charging (unused old.left) n → Affords charging old n
covered true old n covers = covers
covered false old n covers = tt

-- if `own` starts with what `old` has left, and `new` gets what `own` has left and counts its
-- pointers, `new` has spent from `old` what `own` has spent
settled_after : (charging : Bool) (old own new : Meter) (n p : ℕ) → own ≡ after_charge charging (unused old.left) n p → new.left ≡ own.left → new.followed ≡ raised old.followed own.followed → new ≡ after_charge charging old n p
settled_after true old own new n p spent left counted =
    let words = left ∙ ap (λ (m : Meter). m.left) spent in
    let pointers = counted ∙ ap (λ (m : Meter). raised old.followed m.followed) spent ∙ raised_together old.followed p in
    ap (λ (l : Option ℕ). record { left = l; followed = new.followed }) words ∙ ap (λ f. record { left = less old.left n; followed = f }) pointers
settled_after false old own new n p spent left counted =
    let words = left ∙ ap (λ (m : Meter). m.left) spent in
    let pointers = counted ∙ ap (λ (m : Meter). raised old.followed m.followed) spent ∙ none_raised old.followed in
    ap (λ (l : Option ℕ). record { left = l; followed = new.followed }) words ∙ ap (λ f. record { left = old.left; followed = f }) pointers

-- what is read by `own` is read by `old`
settled : (e : PathEnd) (old own new : Meter) (t : Tree) → new.left ≡ own.left → new.followed ≡ raised old.followed own.followed → EndReads e (unused old.left) own t → EndReads e old new t
settled (to_pointer r) old own new t rest counted reads = record {
  cost = reads.cost;
  means = reads.means;
  takes = reads.takes;
  covers = covered r.charging old reads.cost reads.covers;
  spent = settled_after r.charging old own new reads.cost (pointers_in t) reads.spent rest counted;
}
settled (to_element r d q) old own new t rest counted (there, (ts, is, counts, reads)) =
    let all : ReadsAll canonical (place_past r d) old new ts = record {
      cost = reads.cost;
      means = reads.means;
      takes = reads.takes;
      covers = covered r.charging old reads.cost reads.covers;
      spent = settled_after r.charging old own new reads.cost (pointers_in_all ts) reads.spent rest counted;
    } in
    (there, (ts, is, counts, all))

pub copy_settled : (e : PathEnd) (old own new : Meter) {left : Option ℕ} {words now : Segments} → left ≡ old.left → new.left ≡ own.left → new.followed ≡ raised old.followed own.followed → now ≡ words → (t : Tree) × EndReads e (unused left) own t × (words ≡ encoding (trim t) ∷ []) → (t : Tree) × EndReads e old new t × (now ≡ encoding (trim t) ∷ [])
copy_settled e old own new begun rest counted same (t, read, is_made) =
    (t, settled e old own new t rest counted (subst (λ (l : Option ℕ). EndReads e (unused l) own t) begun read), same ∙ is_made)
