-- Where a pointer means a value whose canonical words fit a segment, it can be copied there; and what a copy of it leaves there.
use Rattle.std.proofs.Common.{◌≡◌, ◌↔◌, inl, inr, true, ℕ, ◌+◌, ◌≤◌, [], ◌∷◌, length, refl, sym, ap, subst, arith}
use Rattle.capnp_words.specs.declared.error.ErrorKind.{ErrorKind}
use Rattle.capnp_words.specs.Meter.{Meter, FitsIn}
use Rattle.capnp_format.specs.Forest.{IsForest}
use Rattle.capnp_format.specs.Segments.{Segments, segment}
use Rattle.capnp_format.specs.Canonical.{HasNoCapabilities, encoding, trim, word_count}
use Rattle.capnp_format.specs.Means.{Means}
use Rattle.capnp_format.specs.Tree.{Tree, Null}
use Rattle.capnp_arena_traits.specs.View.{View}
use Rattle.capnp_allocation.specs.Makes.{call_at}
use Rattle.capnp_allocation.proofs.Replaced.{forest_updated}
use Rattle.capnp_pointers.specs.Outcomes.{Reads}
use Rattle.capnp_pointers.specs.Reading.{Reading}
use Rattle.capnp_pointers.specs.Spending.{Paid, pointers_in, after_charge as left_after}
use Rattle.capnp_pointers.specs.Wanted.{canonical}
use Rattle.capnp_copies.specs.Changes.{MakesCopy, RefusesToCopy, copy_call}
use Rattle.capnp_copies.specs.Originals.{value_original}
use Rattle.capnp_copies.specs.Rooms.{CanBeCopied}
use Rattle.capnp_copies.proofs.Copying.{fresh_made}
use Rattle.capnp_builders.specs.Kept.{LeavesCleared}
use Rattle.capnp_messages.proofs.CanonLemmas.{kept_room, root_there, spread_copy}
use Rattle.callers.specs.Truly.{read_at}
use Rattle.callers.proofs.AgreedLemmas.{fresh_forest}
use Rattle.callers.proofs.Evenness.{canonical_long}
use Rattle.callers.proofs.InRoom.{IsFreshRoot, at_first}
use Rattle.capnp_format.proofs.Slices.{only_segment}

pub fits_here : {S : Segments} {n i j : ℕ} {r : Reading} {m : Meter} (v w : View) (id : ℕ) → r ≡ read_at S n i j → w ≡ v → id ≡ 0 →
    v.words ≡ (0 ∷ []) ∷ [] → (t : Tree) (c : ℕ) → Means S n i j t c → HasNoCapabilities t → FitsIn m.left c → 1 + word_count (trim t) ≤ v.room 0 →
    CanBeCopied (value_original r) canonical m w id
fits_here {S} {n} {i} {j} {r} {m} v w id at same first is t c means free covers fits =
    let room : length (segment v.words 0) + word_count (trim t) ≤ v.room 0 =
    subst (λ (W : Segments). length (segment W 0) + word_count (trim t) ≤ v.room 0) (sym is) fits in
    let here : CanBeCopied (value_original (read_at S n i j)) canonical m v 0 =
    record {
      small = λ k no. no;
      value = t;
      after = left_after true m c (pointers_in t);
      is_read = record { cost = c; means = means; takes = λ _. free; covers = covers; spent = refl };
      room = room;
    } in
    subst (λ (x : View). CanBeCopied (value_original r) canonical m x id) (sym same)
    (subst (λ (k : ℕ). CanBeCopied (value_original r) canonical m v k) (sym first)
    (subst (λ (x : Reading). CanBeCopied (value_original x) canonical m v 0) (sym at) here))

-- a copy to the root of a fresh message is all of the message exactly if it fits its segment, and means the value in any case
made_first : (r : Reading) (m after : Meter) (v made : View) → v.words ≡ (0 ∷ []) ∷ [] → length (segment made.words 0) ≤ made.room 0 →
    (makes : MakesCopy (value_original r) (copy_call canonical (call_at 0 0 v made) m after)) →
    (1 + word_count (trim makes.value) ≤ v.room 0 ↔ (made.words ≡ encoding (trim makes.value) ∷ [])) × IsForest made.words (trim makes.value)
made_first r m after v made fresh within makes =
    let t : Tree = makes.value in
    let read : Reads canonical r m after t = makes.is_read in
    let long = canonical_long r.segments r.levels r.segment r.at t read.cost read.means in
    let room = kept_room v made fresh makes.memory in
    let alone = ap (λ (M : Segments). segment M 0) fresh in
    let forest : IsForest v.words Null = subst (λ (S : Segments). IsForest S Null) (sym fresh) fresh_forest in (
      (
        λ fits. elim (spread_copy r v made m after fresh makes) [
          | inl one ↦ only_segment made.words (encoding (trim t)) one (fresh_made v.words 0 0 (trim t) (root_there v.words fresh, alone) (makes.stands (inr one)))
          | inr more ↦ absurd (let beyond = more t read.cost read.means in omega (arith, beyond, fits))
        ],
        λ is. (let same = ap (λ (M : Segments). length (segment M 0)) is in omega (arith, same, within, room, long)),
      ),
      forest_updated v.words made.words Null [] 0 0 Null (trim t) forest refl makes.made,
    )

pub made_here : {S : Segments} {n i j : ℕ} {r : Reading} {m after : Meter} {v w : View} {s p : ℕ} (made : View) → r ≡ read_at S n i j →
    IsFreshRoot v w s p → length (segment made.words 0) ≤ made.room 0 →
    MakesCopy (value_original r) (copy_call canonical (call_at s p w made) m after) →
    (t : Tree) × (c : ℕ) × Means S n i j t c × HasNoCapabilities t × Paid true m after c (pointers_in t) ×
    (1 + word_count (trim t) ≤ v.room 0 ↔ (made.words ≡ encoding (trim t) ∷ [])) × IsForest made.words (trim t)
made_here {S} {n} {i} {j} {r} {m} {after} {v} made at root within makes =
    let first = at_first (λ x s p. MakesCopy (value_original r) (copy_call canonical (call_at s p x made) m after)) root makes in
    let here : MakesCopy (value_original (read_at S n i j)) (copy_call canonical (call_at 0 0 v made) m after) =
    subst (λ (x : Reading). MakesCopy (value_original x) (copy_call canonical (call_at 0 0 v made) m after)) at first in
    let read : Reads canonical (read_at S n i j) m after here.value = here.is_read in
    let (whole, means) = made_first (read_at S n i j) m after v made root.fresh within here in
    (here.value, read.cost, read.means, read.takes (λ e. absurd (cc e)), record { covers = read.covers; spent = read.spent }, whole, means)

-- and is refused truly
pub refused_here : {S : Segments} {n i j : ℕ} {r : Reading} {m after : Meter} {v w : View} {s p : ℕ} (new : View) (k : ErrorKind) → r ≡ read_at S n i j →
    IsFreshRoot v w s p → LeavesCleared (value_original r) (copy_call canonical (call_at s p w new) m after) k →
    RefusesToCopy (value_original (read_at S n i j)) (copy_call canonical (call_at 0 0 v new) m after) k
refused_here {r = r} {m = m} {after = after} {v = v} new k at root leaves =
    let here : LeavesCleared (value_original r) (copy_call canonical (call_at 0 0 v new) m after) k =
    at_first (λ x s p. LeavesCleared (value_original r) (copy_call canonical (call_at s p x new) m after) k) root leaves in
    subst (λ (x : Reading). RefusesToCopy (value_original x) (copy_call canonical (call_at 0 0 v new) m after) k) at here.why
