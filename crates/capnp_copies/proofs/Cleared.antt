-- A copy that was refused halfway, once its place is cleared.
use Rattle.capnp_words.specs.declared.error.ErrorKind.{ErrorKind}
use Rattle.capnp_words.specs.Meter.{Meter}
use Rattle.std.proofs.Common.{◌≡◌, inl, inr, ℕ, Result, Ok, Err, IfOk, IfErr, OnErr, refl, sym, ap, subst, arith}
use Rattle.std.specs.Prelude.{⊤}
use Rattle.capnp_format.specs.Segments.{IsPlace}
use Rattle.capnp_format.specs.Tree.{Tree, Null}
use Rattle.capnp_arena_traits.specs.View.{View, KeepsLimits}
use Rattle.capnp_allocation.specs.Stored.{Puts}
use Rattle.capnp_allocation.specs.Zeroed.{IsPruned}
use Rattle.capnp_allocation.proofs.FillingChains.{filled_grows}
use Rattle.capnp_allocation.proofs.Memory.{spends_then_limits, words_refused_before}
use Rattle.capnp_allocation.proofs.Replaced.{replaced_again}
use Rattle.capnp_pointers.specs.Reading.{Reading}
use Rattle.capnp_pointers.specs.Refusals.{Stopped}
use Rattle.capnp_pointers.proofs.WholeValue.UnreadableIfRefused.{unreadable}
use Rattle.capnp_pointers.specs.Wanted.{Form}
use Rattle.capnp_pointers.specs.declared.object.Purpose.TheVariants.{Value}
use Rattle.capnp_copies.specs.Changes.{CopyCall, copy_call, MakesCopy, StopsCopy, StopsAtChildren}
use Rattle.capnp_copies.specs.Growth.{CopiesOrLeaves, MakesAtMost, TakesAtMost}
use Rattle.capnp_copies.specs.Rooms.{CopiesOrClears, ClearsRefused}
use Rattle.capnp_copies.proofs.Copying.{StopsHalfway}
use Rattle.capnp_copies.specs.Originals.{Original, value_original}
use Rattle.capnp_copies.proofs.Growth.{none_itself, none_pruned, made_within}
use Rattle.capnp_copies.proofs.Originals.{lacks_after, refused_rightly}
use Rattle.capnp_allocation.specs.Makes.{call_at}

pub cleared : {o : Original Tree} {b : Form} {s p : ℕ} {old mid new : View} {m m' : Meter} {k : ErrorKind} → StopsHalfway o (copy_call b (call_at s p old mid) m m') k → KeepsLimits mid new → IsPruned mid.words new.words → Puts mid.words new.words s p Null →
    StopsCopy o (copy_call b (call_at s p old new) m m') Null k
cleared {o} {b} {s} {p} {old} {mid} {new} {m} {m'} {k} (t, stop) limits only puts = record {
  why = elim stop.why [
    | inl x ↦ inl (lacks_after o (copy_call b (call_at s p old mid) m m') new k (λ n refused. words_refused_before old mid new n k refused limits only) x.0, x.1)
    | inr x ↦ inr x
  ];
  left = replaced_again old.words mid.words new.words s p Null t Null stop.left (puts t stop.left.stored);
  memory = spends_then_limits old mid new k stop.memory limits;
}

-- The place is still there after a copy that was refused.
pub place_left : (o : Original Tree) (c : CopyCall) (copied : Result ⊤ ErrorKind) → IsPlace c.old.words c.segment c.at → IfErr copied (StopsHalfway o c) → OnErr copied (IsPlace c.new.words c.segment c.at)
place_left o c (Ok x) place stop = tt
place_left o c (Err k) place (t, stop) = omega (arith, place, stop.left.words c.segment)

-- The place is still there after a copy of children that was refused.
pub place_past : (r : Reading) (n s p : ℕ) (c : CopyCall) (copied : Result ⊤ ErrorKind) → IsPlace c.old.words s p → IfErr copied (StopsAtChildren r n c) → OnErr copied (IsPlace c.new.words s p)
place_past r n s p c (Ok x) place stop = tt
place_past r n s p c (Err k) place stop = let grows = filled_grows c.old.words c.new.words c.segment c.at stop.left stop.made in omega (arith, place, grows.words s)

-- If reading it stops with the limiter m, no value of it can be read with m.
abbrev pub StopsOrReads : Original Tree → Form → Meter → Meter → Type 0
StopsOrReads o form m m' = (k : ErrorKind) (i : Meter) (t : Tree) → o.stops form (λ r x y. Stopped Value form r x y k) m m' → o.reads form m i t → ⊥

pub value_apart : (r : Reading) (form : Form) (m m' : Meter) → StopsOrReads (value_original r) form m m'
value_apart r form m m' k i t refused read = (unreadable refused).only t read.cost read.means read.takes read.covers

-- A copy that is refused and leaves null.
pub refused_clear : {o : Original Tree} {c : CopyCall} {k : ErrorKind} → StopsOrReads o c.form c.before c.after → StopsCopy o c Null k → o.takes_until c.form c.before c.after (MakesAtMost c.segment c.old c.new) →
    ((j : ErrorKind) → o.exceeds c.form j → (k ≡ j) × (c.after ≡ c.before)) → CopiesOrClears (Err k) o c
refused_clear {k = k} apart stop taken large = record {
  copied = tt;
  fits = λ can. absurd (refused_rightly (apart k) stop can);
  refused = stop;
  taken = taken;
  large = λ j h. let x = large j h in (ap Err x.0, x.1);
}

-- A copy of something that isn't larger than an object can be, which leaves null if it is refused.
pub ends_clear : {o : Original Tree} {c : CopyCall} (result : Result ⊤ ErrorKind) → StopsOrReads o c.form c.before c.after → ((k : ErrorKind) → o.exceeds c.form k → ⊥) → IfOk result (λ _. MakesCopy o c) → IfErr result (StopsCopy o c Null) → TakesAtMost result o c → CopiesOrClears result o c
ends_clear (Ok x) apart small copied refused taken = record { copied = copied; fits = λ can. refl; refused = tt; taken = taken; large = λ k h. absurd (small k h) }
ends_clear (Err k) apart small copied refused taken = refused_clear apart refused taken (λ j h. absurd (small j h))

-- A copy that leaves some value if it is refused, once that value is cleared.
pub copies_or_clears : {o : Original Tree} {b : Form} {s p : ℕ} {old mid new : View} {m m' : Meter} (copied : Result ⊤ ErrorKind) {result : Result ⊤ ErrorKind} → StopsOrReads o b m m' → ((k : ErrorKind) → o.exceeds b k → ⊥) →
    ((P Q : ℕ → ℕ → Type 0) → ((i j : ℕ) → P i j → Q i j) → o.takes_until b m m' P → o.takes_until b m m' Q) → CopiesOrLeaves copied o (copy_call b (call_at s p old mid) m m') → result ≡ copied → ClearsRefused copied (call_at s p mid new) →
    CopiesOrClears result o (copy_call b (call_at s p old new) m m')
copies_or_clears {o} {b} {s} {p} {old} {mid} {new} {m} {m'} (Ok x) apart small more left same clears =
    let call : View → CopyCall = λ v. copy_call b (call_at s p old v) m m' in
    subst (λ r. CopiesOrClears r o (call new)) (sym same)
    (ends_clear (Ok x) apart small (subst (λ v. MakesCopy o (call v)) (sym clears.kept) left.copied) tt (subst (λ v. o.takes b m m' (MakesAtMost s old v)) (sym clears.kept) left.taken))
copies_or_clears {o} {b} {s} {p} {old} {mid} {new} {m} {m'} (Err k) apart small more left same clears =
    subst (λ r. CopiesOrClears r o (copy_call b (call_at s p old new) m m')) (sym same)
    (ends_clear (Err k) apart small tt (cleared left.refused clears.limits clears.only clears.null)
    (more (MakesAtMost s old mid) (MakesAtMost s old new) (λ i j made. made_within (none_itself old) (none_pruned mid new clears.limits clears.only) made) left.taken))
