-- An object made in place of another value, which is zeroed first.
use Rattle.std.proofs.Common.{◌≡◌, ℕ, Result, Ok, Err, OnOk, OnErr, IfOk, refl, sym, subst, arith}
use Rattle.capnp_words.specs.declared.error.ErrorKind.{ErrorKind}
use Rattle.capnp_format.specs.Segments.{Segments}
use Rattle.capnp_format.specs.Tree.{Tree, Null}
use Rattle.capnp_arena_traits.specs.View.{View, KeepsLimits}
use Rattle.capnp_allocation.specs.Makes.{Allocates, CallAt, MakesObject, ObjectStartsAt, call_at}
use Rattle.capnp_format.specs.Path.{extent}
use Rattle.capnp_allocation.specs.Stored.{IsReplaced, Puts}
use Rattle.capnp_allocation.specs.Zeroed.{IsApart, IsPruned, IsZeroed, Zeroes}
use Rattle.capnp_arena_traits.specs.declared.arena.WordPlace.{WordPlace}
use Rattle.capnp_in_place.specs.Initialized.{GivesObject}
use Rattle.capnp_allocation.proofs.Outcomes.{on_made_so}
use Rattle.capnp_allocation.proofs.Memory.{keeps_both, keeps_written, refused_after, room_left}
use Rattle.capnp_in_place.proofs.Room.OldWordsStayZero.{old_zeroed}
use Rattle.capnp_allocation.proofs.Placed.{zeroed_replaced}
use Rattle.capnp_allocation.proofs.Replaced.{replaced_again}
use Rattle.capnp_allocation.proofs.Taken.{leads_behind, stands_after, takes_after}

-- Words are zeroed, and then n words are allocated.
allocates_after : {A : Type 0} (result : Result A ErrorKind) (old mid new : View) (id at n : ℕ) → KeepsLimits old mid → IsPruned old.words mid.words → Allocates result (call_at id at mid new) n → Allocates result (call_at id at old new) n
allocates_after (Ok x) old mid new id at n limits pruned made = record {
  fits = λ room. refl;
  granted = keeps_both old mid new (omega (arith, pruned.segments)) (keeps_written old mid mid.words limits) made.granted;
  taken = takes_after old mid new id n limits pruned made.taken;
  named = tt;
}
allocates_after (Err k) old mid new id at n limits pruned made = record {
  fits = λ room. made.fits (room_left old mid id n limits pruned room);
  granted = tt;
  taken = tt;
  named = refused_after old mid new n k limits pruned made.named;
}

-- An object made after some words were zeroed starts where it would start without that.
pub starts_after_zeros : (result : Result WordPlace ErrorKind) (old mid new : View) (id at n : ℕ) → KeepsLimits old mid → IsPruned old.words mid.words → IfOk result (ObjectStartsAt (call_at id at mid new) n) → IfOk result (ObjectStartsAt (call_at id at old new) n)
starts_after_zeros (Ok h) old mid new id at n limits pruned start = record { leads = start.leads; inside = start.inside; behind = stands_after old mid id n h limits pruned start.behind }
starts_after_zeros (Err k) old mid new id at n limits pruned start = tt

-- The old value is zeroed, and then the object is made in place of null.
pub makes_after_zeros : (result : Result WordPlace ErrorKind) (old mid new : View) (id at n : ℕ) (t : Tree) → ((u : Tree) → IsApart old.words id at u → IsZeroed old.words mid.words (extent old.words id at u)) → KeepsLimits old mid → IsPruned old.words mid.words →
    OnOk result (IsReplaced mid.words new.words id at Null t) → IfOk result (ObjectStartsAt (call_at id at mid new) n) → Allocates result (call_at id at mid new) n → OnErr result (new.words ≡ mid.words) → MakesObject result (call_at id at old new) t n
makes_after_zeros (Ok h) old mid new id at n t zeroed limits pruned made start memory same = record {
  made = λ u stored. replaced_again old.words mid.words new.words id at u Null t (zeroed_replaced old.words mid.words id at u zeroed stored) made;
  behind = leads_behind old new id at n h start.leads (stands_after old mid id n h limits pruned start.behind);
  zeroed = old_zeroed old.words mid.words new.words id at t zeroed made;
  memory = allocates_after (Ok h) old mid new id at n limits pruned memory;
  refused = tt;
  only = tt;
}
makes_after_zeros (Err k) old mid new id at n t zeroed limits pruned made start memory same = record {
  made = tt;
  behind = tt;
  zeroed = tt;
  memory = allocates_after (Err k) old mid new id at n limits pruned memory;
  refused = subst (λ (R : Segments). Puts old.words R id at Null) (sym same) (λ u stored. zeroed_replaced old.words mid.words id at u zeroed stored);
  only = subst (IsPruned old.words) (sym same) pruned;
}

-- The same, in the record that the call states of its result.
pub gives_after_zeros : (result : Result WordPlace ErrorKind) (old mid new : View) (id at n : ℕ) (t : Tree) → Zeroes old mid (IsApart old.words id at) (extent old.words id at) →
    OnOk result (IsReplaced mid.words new.words id at Null t) → IfOk result (ObjectStartsAt (call_at id at mid new) n) → Allocates result (call_at id at mid new) n → OnErr result (new.words ≡ mid.words) → GivesObject result (call_at id at old new) t n
gives_after_zeros result old mid new id at n t z made start memory same = record {
  object = makes_after_zeros result old mid new id at n t z.zeroed z.limits z.pruned made start memory same;
  once_zeroed = on_made_so result _ _ made (λ m. (mid.words, z.pruned, m));
  start = starts_after_zeros result old mid new id at n z.limits z.pruned start;
}

-- What a call makes doesn't depend on the value that it returns; and a refusal doesn't either.
pub made_as : {A B : Type 0} (x : A) (y : B) (c : CallAt) (t : Tree) (n : ℕ) → MakesObject (Ok x) c t n → MakesObject (Ok y) c t n
made_as x y c t n m = record {
  made = m.made;
  behind = m.behind;
  zeroed = m.zeroed;
  memory = record { fits = λ room. refl; granted = m.memory.granted; taken = m.memory.taken; named = tt };
  refused = tt;
  only = tt;
}

pub refused_as : {A B : Type 0} (k : ErrorKind) (c : CallAt) (t : Tree) (n : ℕ) → MakesObject {A = A} (Err k) c t n → MakesObject {A = B} (Err k) c t n
refused_as k c t n m = record {
  made = tt;
  behind = tt;
  zeroed = tt;
  memory = record { fits = m.memory.fits; granted = tt; taken = tt; named = m.memory.named };
  refused = m.refused;
  only = m.only;
}
