-- The copy of consecutive pointers, each of which is copied or stays null: one more, and the one
-- that is refused.
use Rattle.std.proofs.Common.{inl, inr, ℕ, ◌+◌, ◌<◌, length, sym, ◌∙◌, subst, arith}
use Rattle.capnp_words.specs.declared.error.ErrorKind.{ErrorKind}
use Rattle.capnp_words.specs.Meter.{Meter}
use Rattle.capnp_format.specs.Segments.{segment, IsPlace}
use Rattle.capnp_format.specs.Tree.{Null, count}
use Rattle.capnp_arena_traits.specs.View.{View}
use Rattle.capnp_allocation.specs.Stored.{IsReplaced}
use Rattle.capnp_allocation.proofs.Memory.{keeps_then_spends, words_refused_after}
use Rattle.capnp_pointers.specs.Refusals.{Refused, StopsWithin}
use Rattle.capnp_pointers.specs.Reading.{Reading, place_past}
use Rattle.capnp_pointers.specs.Wanted.{plain}
use Rattle.capnp_pointers.proofs.WholeValue.ChildrenRead.{read_stop}
use Rattle.capnp_pointers.proofs.WholeValue.UnreadableIfRefused.{unreadable}
use Rattle.capnp_copies.specs.Changes.{copy_call, CopiesChildren, StopsCopy, CopiesFirst}
use Rattle.capnp_copies.proofs.NoRoom.{WantsWords}
use Rattle.capnp_copies.specs.Rooms.{CanBeCopied}
use Rattle.capnp_copies.specs.Originals.{value_original, children_original}
use Rattle.capnp_copies.proofs.FilledChildren.{children_grow}
use Rattle.capnp_copies.proofs.Originals.{children_large}
use Rattle.capnp_copies.specs.Costs.{spent_until}
use Rattle.capnp_copies.proofs.Copying.{there}
use Rattle.capnp_copies.proofs.ObjectsMade.{TakesForCopy, full_before}
use Rattle.capnp_copies.proofs.RoomLemmas.{same_cost}
use Rattle.capnp_copies.proofs.TooLarge.{child_too_large}
use Rattle.capnp_allocation.specs.Makes.{call_at}

pub each_stops : {r : Reading} {s p i n : ℕ} {old mid new : View} {m m' m'' : Meter} {k : ErrorKind} → IsPlace old.words s (p + i) → i < n → CopiesChildren r i (copy_call plain (call_at s p old mid) m m') → TakesForCopy (children_original r i) (copy_call plain (call_at s p old mid) m m') → StopsCopy (value_original (place_past r i)) (copy_call plain (call_at s (p + i) mid new) m' m'') Null k →
    CopiesFirst r n (copy_call plain (call_at s p old new) m m'') k
each_stops {r} {s} {p} {i} {n} {old} {mid} {new} {m} {m'} {m''} {k} place less first (us, counts, read, made) stop = record {
  first = first.children;
  fewer = omega (arith, first.counts);
  between = m';
  are_read = first.are_read;
  filled = mid.words;
  made = first.made;
  cleared = subst (λ j. IsReplaced mid.words new.words s (p + j) Null Null) (sym first.counts) stop.left;
  why = elim stop.why [
    | inl x ↦ inl (
      elim x.0 [
        | inl none ↦ absurd none.2
        | inr (w, stops, (refused, full)) ↦
            (let here : (one : StopsWithin plain (WantsWords plain w) (place_past r (count first.children)) m' m'') × (mid.room s < length (segment mid.words s) + ((spent_until one).words + w)) = rw first.counts (stops, full) in
            let cost = same_cost r first.children us first.are_read.cost read.cost (first.counts ∙ sym counts) first.are_read.means read.means in
            (w, here.0, (words_refused_after old mid new w k first.memory refused, omega (arith, cost, full_before old mid ((spent_until here.0).words + w) (there old.words s (p + i) place) made here.1))))
      ],
      children_large plain r n (length (segment old.words s)) (old.room s) (child_too_large plain place less first x.1),
    )
    | inr y ↦ elim y [ inl x ↦ inr (subst (λ j. Refused plain (place_past r j) m' m'' k) (sym first.counts) x) | inr none ↦ absurd none ]
  ];
  memory = keeps_then_spends old mid new k (children_grow first).segments first.memory stop.memory;
}

-- pointers aren't refused if they can be read, and there is room for what is kept of them
pub each_refused_rightly : {r : Reading} {s p i : ℕ} {old new : View} {m m' : Meter} {k : ErrorKind} → CopiesFirst r i (copy_call plain (call_at s p old new) m m') k → CanBeCopied (children_original r i) plain m old s → ⊥
each_refused_rightly {m = m} stop can = elim stop.why [
  | inl x ↦ (let beyond = x.1 plain m can.after can.value can.is_read in omega (arith, beyond, can.room))
  | inr refused ↦ (let all = can.is_read.1 in (read_stop _ stop.are_read stop.fewer (unreadable refused)).only can.value all.cost can.is_read.0 all.means all.takes all.covers)
]
