-- What a place holds after a value was copied to it, if it was null or was cleared first.
use Rattle.std.proofs.Common.{◌≡◌, inl, inr, ℕ, ◌+◌, ◌<◌, zero, suc, length, refl, ◌∙◌, Result, Ok, Err, IfOk, IfErr, OnOk, OnErr, [], ◌∷◌, ap, sym, subst, arith}
use Rattle.capnp_words.specs.declared.error.ErrorKind.{ErrorKind}
use Rattle.capnp_words.specs.Meter.{Meter}
use Rattle.capnp_format.specs.Canonical.{encoding}
use Rattle.capnp_format.specs.Segments.{Segments, segment, word_at, Grows, IsPlace}
use Rattle.capnp_format.specs.Tree.{Tree, Null}
use Rattle.capnp_format.proofs.Levels.{one_value}
use Rattle.capnp_arena_traits.specs.View.{View, KeepsLimits}
use Rattle.capnp_allocation.specs.Memory.{RefusesWords}
use Rattle.capnp_allocation.specs.Stored.{IsReplaced, Puts}
use Rattle.capnp_allocation.specs.Zeroed.{IsPruned}
use Rattle.capnp_in_place.proofs.Room.PlacesStay.{replaced_grows}
use Rattle.capnp_allocation.proofs.FillingMade.{null_stored}
use Rattle.capnp_allocation.proofs.Memory.{keeps_both, keeps_written, keeps_then_spends}
use Rattle.capnp_allocation.proofs.Replaced.{replaced_again}
use Rattle.capnp_allocation.proofs.Taken.{ends_after}
use Rattle.capnp_pointers.specs.Reading.{Reading}
use Rattle.capnp_pointers.specs.Wanted.{Form}
use Rattle.capnp_copies.specs.Changes.{CopyCall, MakesCopy, StopsCopy}
use Rattle.capnp_copies.specs.Rooms.{CanBeCopied}
use Rattle.capnp_copies.specs.Forms.{kept}
use Rattle.capnp_copies.specs.Originals.{Original, value_original}
use Rattle.capnp_builders.specs.Kept.{PutsCopy, LeavesCleared, FillsSegment, FillsMessage}
use Rattle.capnp_copies.proofs.Copying.{fresh_made}
use Rattle.capnp_copies.proofs.Originals.{lacks_before}
use Rattle.capnp_format.proofs.Slices.{only_segment}

-- a null pointer stores only Null
pub null_replaced : (S R : Segments) (s p : ℕ) (t : Tree) → IsPlace S s p → word_at S s p ≡ 0 → IsReplaced S R s p Null t → Puts S R s p t
null_replaced S R s p t place null made = λ u stored.
    (let none = null_stored S s p place null in
    let same : u ≡ Null = (one_value S stored.means.0 none.means.0 s p u Null stored.means.1 none.means.1 stored.means.2 none.means.2).0 in
    subst (λ v. IsReplaced S R s p v t) (sym same) made)

-- if a segment's only word was null, its words are those of the copy
pub fresh_copied : {X : Type 0} (o : Result X ErrorKind) (r : Reading) (c : CopyCall) → IsPlace c.old.words c.segment c.at → segment c.old.words c.segment ≡ 0 ∷ [] → IfOk o (λ _. MakesCopy (value_original r) c) → IfOk o (λ _. FillsSegment r c)
fresh_copied (Ok x) r c place one made = (made.value, made.is_read, λ fits. fresh_made c.old.words c.segment c.at (kept c.form made.value) (place, one) (made.stands fits))
fresh_copied (Err k) r c place one made = tt

first_segment : (s p : ℕ) → IsPlace ((0 ∷ []) ∷ []) s p → s ≡ 0
first_segment zero p place = refl
first_segment (suc s) p place = absurd (omega (arith, place))

-- if a message's only word was null, and it still has one segment, its words are those of the copy
pub alone_copied : {X : Type 0} (o : Result X ErrorKind) (r : Reading) (c : CopyCall) → IsPlace c.old.words c.segment c.at → c.old.words ≡ (0 ∷ []) ∷ [] → IfOk o (λ _. MakesCopy (value_original r) c) → IfOk o (λ _. FillsMessage r c)
alone_copied (Ok x) r c place fresh copied =
    let first : c.segment ≡ 0 = first_segment c.segment c.at (subst (λ (S : Segments). IsPlace S c.segment c.at) fresh place) in
    let only : segment c.old.words c.segment ≡ 0 ∷ [] = ap (λ i. segment c.old.words i) first ∙ ap (λ (S : Segments). segment S 0) fresh in
    let made = fresh_copied (Ok x) r c place only copied in
    (made.0, made.1, λ one. only_segment c.new.words (encoding (kept c.form made.0)) one (subst (λ i. segment c.new.words i ≡ encoding (kept c.form made.0)) first (made.2 (inr one))))
alone_copied (Err k) r c place fresh copied = tt

-- what follows from a success
pub on_ok : {X E : Type 0} (result : Result X E) (P Q : Type 0) → IfOk result (λ _. P) → (P → Q) → OnOk result Q
on_ok (Ok x) P Q h f = f h
on_ok (Err k) P Q h f = tt

pub on_err : {X E : Type 0} (result : Result X E) (P : E → Type 0) (Q : Type 0) → IfErr result P → ((k : E) → P k → Q) → OnErr result Q
on_err (Ok x) P Q h f = tt
on_err (Err k) P Q h f = f k h

-- no segment becomes shorter, whether the copy is made or refused
pub copy_grows : {X : Type 0} (result : Result X ErrorKind) (o : Original Tree) (c : CopyCall) → IfOk result (λ _. MakesCopy o c) → IfErr result (StopsCopy o c Null) → Grows c.old.words c.new.words
copy_grows (Ok x) o c copied refused = replaced_grows copied.made
copy_grows (Err k) o c copied refused = replaced_grows refused.left

-- what is refused after the place is cleared was refused before

pub words_refused_later : (a b c : View) (n : ℕ) (k : ErrorKind) → KeepsLimits a b → RefusesWords b c n k → RefusesWords a c n k
words_refused_later a b c n k limits x = subst (λ (v : View). RefusesWords v c n k) limits x

pub exceeds_before : (n : ℕ) (a b : View) (s : ℕ) → KeepsLimits a b → IsPruned a.words b.words → b.room s < length (segment b.words s) + n → a.room s < length (segment a.words s) + n
exceeds_before n a b s limits pruned beyond = omega (arith, beyond, ap (λ (v : View). v.room s) limits, pruned.words s)

pub can_later : {V : Type 0} (o : Original V) (form : Form) (m : Meter) (a b : View) (s : ℕ) → KeepsLimits a b → IsPruned a.words b.words → CanBeCopied o form m a s → CanBeCopied o form m b s
can_later o form m a b s limits pruned can = record { small = can.small; value = can.value; after = can.after; is_read = can.is_read; room = ends_after a b s _ limits pruned can.room }

-- a copy to a place that was cleared first, or is null

pub put_copied : {o : Original Tree} (c : CopyCall) (mid : View) → KeepsLimits c.old mid → IsPruned c.old.words mid.words → Puts c.old.words mid.words c.segment c.at Null → MakesCopy o (record c { old = mid }) → PutsCopy o c
put_copied c mid limits only null made = record {
  value = made.value;
  is_read = made.is_read;
  put = λ u stored. replaced_again c.old.words mid.words c.new.words c.segment c.at u Null (kept c.form made.value) (null u stored) made.made;
  memory = keeps_both c.old mid c.new (omega (arith, only.segments)) (keeps_written c.old mid _ limits) made.memory;
  cleared = mid;
  zeroed = only;
  limits = limits;
  null = null;
  stands = made.stands;
}

pub put_stopped : {o : Original Tree} {k : ErrorKind} (c : CopyCall) (mid : View) → KeepsLimits c.old mid → IsPruned c.old.words mid.words → Puts c.old.words mid.words c.segment c.at Null → StopsCopy o (record c { old = mid }) Null k → LeavesCleared o c k
put_stopped {o = o} {k = k} c mid limits only null stop = record {
  why = elim stop.why [
    | inl x ↦ inl (
      lacks_before o (record c { old = mid }) c.old k (λ n all found. (words_refused_later c.old mid c.new n k limits found.0, exceeds_before all c.old mid c.segment limits only found.1)) x.0,
      λ any m m' t read. exceeds_before _ c.old mid c.segment limits only (x.1 any m m' t read),
    )
    | inr x ↦ inr x
  ];
  cleared = λ u stored. replaced_again c.old.words mid.words c.new.words c.segment c.at u Null Null (null u stored) stop.left;
  memory = keeps_then_spends c.old mid c.new k (omega (arith, only.segments)) (keeps_written c.old mid _ limits) stop.memory;
}
