-- Consecutive pointers are copied to a message of any number of segments: none yet, one more child,
-- and a child that stops the copy.
use Rattle.std.proofs.Common.{◌≡◌, inl, inr, ℕ, ◌+◌, ◌<◌, ◌^◌, length, refl, sym, ap, ◌∙◌, subst, arith}
use Rattle.capnp_words.specs.declared.error.ErrorKind.{ErrorKind}
use Rattle.capnp_words.specs.Meter.{Meter}
use Rattle.capnp_format.specs.Segments.{Grows, segment, word_at, IsPlace}
use Rattle.capnp_format.specs.Tree.{Tree, Null, Trees, no_trees, count}
use Rattle.capnp_format.proofs.Children.{with_last, count-with_last}
use Rattle.capnp_arena_traits.specs.View.{View}
use Rattle.capnp_arena_traits.specs.Written.{with_segment}
use Rattle.capnp_allocation.specs.Filled.{AreFilled}
use Rattle.capnp_allocation.specs.Stored.{IsReplaced}
use Rattle.capnp_allocation.proofs.FillingChains.{filled_grows, filled_ahead, filled_more}
use Rattle.capnp_allocation.proofs.Memory.{keeps_itself, keeps_both, keeps_then_spends}
use Rattle.capnp_pointers.specs.Outcomes.{Reads}
use Rattle.capnp_pointers.specs.Refusals.{Refused}
use Rattle.capnp_pointers.specs.Reading.{Reading, place_past}
use Rattle.capnp_pointers.specs.Wanted.{Form}
use Rattle.capnp_pointers.proofs.WholeValue.ChildrenRead.{read_none, read_more}
use Rattle.capnp_copies.specs.Copied.{with_children}
use Rattle.capnp_copies.specs.Changes.{copy_call, MakesCopy, CopiesChildren, StopsAtChildren}
use Rattle.capnp_copies.specs.Originals.{value_original, children_original}
use Rattle.capnp_copies.specs.Forms.{kept, kept_each}
use Rattle.capnp_copies.proofs.ChildrenCopied.{no_children}
use Rattle.capnp_copies.proofs.SegmentsWritten.{not_written}
use Rattle.capnp_copies.proofs.TightChildren.{child_tight}
use Rattle.capnp_copies.proofs.Originals.{refuses_children}
use Rattle.capnp_copies.proofs.Copying.{StopsHalfway, there}
use Rattle.capnp_copies.proofs.NoRoom.{child_comes}
use Rattle.capnp_copies.proofs.ObjectsMade.{TakesForCopy}
use Rattle.capnp_copies.proofs.TooLarge.{child_too_large}
use Rattle.capnp_copies.proofs.KeptChildren.{kept_none, kept_each-count, kept_each-with_last}
use Rattle.capnp_allocation.specs.Makes.{call_at}

pub no_child : (r : Reading) (b : Form) (s p : ℕ) (v : View) (m : Meter) → CopiesChildren r 0 (copy_call b (call_at s p v v) m m)
no_child r b s p v m = record {
  children = no_trees;
  counts = refl;
  are_read = read_none b r m;
  made = subst (AreFilled v.words v.words s p) (sym (kept_none b)) refl;
  memory = keeps_itself v;
  stands = λ fits. not_written v.words s ∙ ap (with_segment v.words s) (sym (ap (with_children (segment v.words s) p) (kept_none b) ∙ no_children (segment v.words s) p));
}

-- No segment gets shorter while the first children are copied.
pub children_grow : {r : Reading} {b : Form} {s p i : ℕ} {old mid : View} {m m' : Meter} → CopiesChildren r i (copy_call b (call_at s p old mid) m m') → Grows old.words mid.words
children_grow {b = b} {s = s} {p = p} {old = old} {mid = mid} first = filled_grows old.words mid.words s p (kept_each b first.children) first.made

-- The pointer after them is unchanged.
pub child_ahead : {r : Reading} {b : Form} {s p i : ℕ} {old mid : View} {m m' : Meter} → CopiesChildren r i (copy_call b (call_at s p old mid) m m') → p + i < length (segment old.words s) → word_at mid.words s (p + i) ≡ word_at old.words s (p + i)
child_ahead {b = b} {s = s} {p = p} {i = i} {old = old} {mid = mid} first place =
    filled_ahead old.words mid.words s p (kept_each b first.children) (p + i) first.made (omega (arith, kept_each-count b first.children, first.counts)) place

one_filled : {r : Reading} {b : Form} {s p i : ℕ} {old mid : View} {m m' : Meter} (new : View) (t : Tree) (first : CopiesChildren r i (copy_call b (call_at s p old mid) m m')) → IsReplaced mid.words new.words s (p + i) Null t → AreFilled old.words new.words s p (with_last (kept_each b first.children) t)
one_filled {b = b} {s = s} {p = p} {old = old} {mid = mid} new t first made =
    filled_more old.words mid.words new.words s p (kept_each b first.children) t first.made
    (subst (λ j. IsReplaced mid.words new.words s (p + j) Null t) (sym (kept_each-count b first.children ∙ first.counts)) made)

pub child_copied : {r : Reading} {b : Form} {s p i : ℕ} {old mid new : View} {m m' m'' : Meter} → IsPlace old.words s (p + i) → length (segment mid.words s) < 2 ^ 29 → CopiesChildren r i (copy_call b (call_at s p old mid) m m') → MakesCopy (value_original (place_past r i)) (copy_call b (call_at s (p + i) mid new) m' m'') → CopiesChildren r (i + 1) (copy_call b (call_at s p old new) m m'')
child_copied {r} {b} {s} {p} {i} {old} {mid} {new} {m} {m'} {m''} place few first next =
    let ts : Trees = first.children in
    let u : Tree = next.value in
    let here : Reads b (place_past r (count ts)) m' m'' u = rw first.counts next.is_read in
    record {
      children = with_last ts u;
      counts = count-with_last ts u ∙ omega (arith, first.counts);
      are_read = read_more first.are_read here;
      made = subst (AreFilled old.words new.words s p) (sym (kept_each-with_last b ts u)) (one_filled new (kept b u) first next.made);
      memory = keeps_both old mid new (children_grow first).segments first.memory next.memory;
      stands = child_tight b place few (children_grow first).segments next.made.segments first next;
    }

pub child_stops : {r : Reading} {b : Form} {s p i n : ℕ} {old mid new : View} {m m' m'' : Meter} {k : ErrorKind} → IsPlace old.words s (p + i) → i < n → CopiesChildren r i (copy_call b (call_at s p old mid) m m') → TakesForCopy (children_original r i) (copy_call b (call_at s p old mid) m m') → StopsHalfway (value_original (place_past r i)) (copy_call b (call_at s (p + i) mid new) m' m'') k →
    StopsAtChildren r n (copy_call b (call_at s p old new) m m'') k
child_stops {r} {b} {s} {p} {i} {n} {old} {mid} {new} {m} {m'} {m''} {k} place less first taken (t, stop) =
    let ts : Trees = first.children in
    let fewer : count ts < n = omega (arith, first.counts) in
    record {
      why = refuses_children r n (copy_call b (call_at s p old new) m m'') k (elim stop.why [
        | inl x ↦ inl (child_comes new (there old.words s (p + i) place) less first.memory taken x.0, child_too_large b place less first x.1)
        | inr y ↦ elim y [ inl x ↦ inr (record { first = ts; fewer = fewer; mid = m'; are_read = first.are_read; stops = (let h : Refused b (place_past r (count ts)) m' m'' k = rw first.counts x in h) }) | inr none ↦ absurd none ]
      ]);
      left = with_last (kept_each b ts) t;
      few = omega (arith, count-with_last (kept_each b ts) t, kept_each-count b ts, first.counts);
      made = one_filled new t first stop.left;
      memory = keeps_then_spends old mid new k (children_grow first).segments first.memory stop.memory;
    }
