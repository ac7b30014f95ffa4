-- If a message has a canonical copy whose words fit a segment, it can be copied there; and what a
-- copy leaves there.
use Rattle.std.proofs.Common.{◌≡◌, ◌↔◌, inl, inr, true, ℕ, zero, suc, ◌+◌, ◌≤◌, [], ◌∷◌, length, refl, sym, ap, subst, arith, Result, Ok, Err, IfErr, OnErr, OnOk, IfOk}
use Rattle.std.proofs.lemmas.Grind.{common_steps}
use Rattle.capnp_words.specs.declared.error.ErrorKind.{ErrorKind}
use Rattle.capnp_words.specs.Meter.{Meter, unused}
use Rattle.capnp_format.specs.Forest.{IsForest}
use Rattle.capnp_format.specs.Segments.{Segments, segment, word_at}
use Rattle.capnp_format.specs.Canonical.{encoding, trim, word_count}
use Rattle.capnp_format.specs.Tree.{Tree, Null}
use Rattle.capnp_arena_traits.specs.View.{View}
use Rattle.capnp_arena.specs.declared.arena.reader_arena_impl.ReaderOptions.{ReaderOptions}
use Rattle.capnp_allocation.specs.Stored.{Puts}
use Rattle.capnp_allocation.proofs.FillingMade.{null_stored}
use Rattle.capnp_pointers.specs.Outcomes.{Reads}
use Rattle.capnp_pointers.specs.Reading.{Reading}
use Rattle.capnp_pointers.specs.Spending.{pointers_in, after_charge as left_after}
use Rattle.capnp_pointers.specs.Wanted.{canonical}
use Rattle.capnp_copies.specs.Changes.{MakesCopy, copy_call}
use Rattle.capnp_copies.specs.Originals.{value_original}
use Rattle.capnp_copies.specs.Rooms.{CanBeCopied}
use Rattle.capnp_builders.specs.Kept.{LeavesCleared}
use Rattle.capnp_messages.proofs.CanonLemmas.{covers_rest, kept_room, made_copy, refused_copy, root_null, root_there, spread_copy}
use Rattle.capnp_messages.specs.Copies.{RefusesCopyAnywhere}
use Rattle.capnp_messages.specs.Messages.{IsValueOf, RefusesAt, left_of, root_within}
use Rattle.capnp_messages.specs.Parts.{to_pointer}
use Rattle.capnp_messages.specs.Roots.{CoversRoot}
use Rattle.capnp_messages.proofs.MessageLemmas.{AtRoot, value_of}
use Rattle.capnp_allocation.specs.Makes.{call_at}
use Rattle.callers.proofs.AgreedLemmas.{fresh_forest}
use Rattle.callers.proofs.Evenness.{canonical_long}
use Rattle.callers.proofs.Fields.{root_put}

pub fits_there : {S : Segments} {limits : ReaderOptions} {r : Reading} {m : Meter} (v : View) → AtRoot S limits r m →
    v.words ≡ (0 ∷ []) ∷ [] → (t : Tree) → IsValueOf S limits t → 1 + word_count (trim t) ≤ v.room 0 →
    CanBeCopied (value_original r) canonical m v 0
fits_there {S} {limits} {r} {m} v at is t value fits =
    let room : length (segment v.words 0) + word_count (trim t) ≤ v.room 0 =
    subst (λ (W : Segments). length (segment W 0) + word_count (trim t) ≤ v.room 0) (sym is) fits in
    let here : CanBeCopied (value_original (root_within S limits)) canonical (unused (left_of limits)) v 0 =
    record {
      small = λ k no. no;
      value = t;
      after = left_after true (unused (left_of limits)) value.cost (pointers_in t);
      is_read =
          record {
            cost = value.cost;
            means = value.means;
            takes = λ _. value.free;
            covers = covers_rest limits.traversal_limit_in_words value.cost value.covered;
            spent = refl;
          };
      room = room;
    } in
    subst (λ (x : Reading). CanBeCopied (value_original x) canonical m v 0) (sym at.place)
    (subst (λ (y : Meter). CanBeCopied (value_original (root_within S limits)) canonical y v 0) (sym at.left) here)

-- the same with other names for the segment and its content
pub fits_at : {S : Segments} {limits : ReaderOptions} {r : Reading} {m : Meter} (v w : View) (id : ℕ) → AtRoot S limits r m →
    w ≡ v → id ≡ 0 → v.words ≡ (0 ∷ []) ∷ [] → (t : Tree) → IsValueOf S limits t → 1 + word_count (trim t) ≤ v.room 0 →
    CanBeCopied (value_original r) canonical m w id
fits_at {S} {limits} {r} {m} v w id at same first is t value fits =
    subst (λ (x : View). CanBeCopied (value_original r) canonical m x id) (sym same)
    (subst (λ (i : ℕ). CanBeCopied (value_original r) canonical m v i) (sym first) (fits_there v at is t value fits))

-- A builder of the root of a fresh message v: its place (s, p), and w, which is its message.
pub record IsFreshRoot (v w : View) (s p : ℕ) : Type 0 where
  pub same : w ≡ v
  pub segment : s ≡ 0
  pub at : p ≡ 0
  pub fresh : v.words ≡ (0 ∷ []) ∷ []

-- what holds at that place holds at the first one
pub at_first : {v w : View} {s p : ℕ} (P : View → ℕ → ℕ → Type 0) → IsFreshRoot v w s p → P w s p → P v 0 0
at_first {v} {w} {s} {p} P root is = subst (λ x. P x 0 0) root.same (subst (λ i. P w 0 i) root.at (subst (λ i. P w i p) root.segment is))

-- the word of that place is null
pub null_root : {v w : View} {s p : ℕ} → IsFreshRoot v w s p → word_at w.words s p ≡ 0
null_root {v} {w} {s} {p} root =
    subst (λ (x : View). word_at x.words s p ≡ 0) (sym root.same)
    (subst (λ i. word_at v.words s i ≡ 0) (sym root.at) (subst (λ i. word_at v.words i 0 ≡ 0) (sym root.segment) (root_null v.words root.fresh)))

-- what is made there is the copy of the value; it is the whole message exactly if it fits
pub made_there : {S : Segments} {limits : ReaderOptions} {r : Reading} {m after : Meter} {v w : View} {s p : ℕ} (made : View) → AtRoot S limits r m →
    IsFreshRoot v w s p → length (segment made.words 0) ≤ made.room 0 →
    MakesCopy (value_original r) (copy_call canonical (call_at s p w made) m after) →
    (t : Tree) × IsValueOf S limits t × (1 + word_count (trim t) ≤ v.room 0 ↔ (made.words ≡ encoding (trim t) ∷ []))
made_there {S} {limits} {r} {m} {after} {v} made at root within makes =
    let here : MakesCopy (value_original r) (copy_call canonical (call_at 0 0 v made) m after) =
    at_first (λ x s p. MakesCopy (value_original r) (copy_call canonical (call_at s p x made) m after)) root makes in
    let copy = made_copy r (left_of limits) v made m after root.fresh at.left here in
    let read = subst (λ (x : Meter). Reads canonical r x after copy.0) (sym at.left) copy.1 in
    let long = canonical_long r.segments r.levels r.segment r.at copy.0 copy.1.cost copy.1.means in
    let room = kept_room v made root.fresh here.memory in (
      copy.0,
      value_of at read,
      (
        λ fits. elim (spread_copy r v made m after root.fresh here) [
          | inl alone ↦ copy.2 alone
          | inr more ↦ absurd (let beyond = more copy.0 copy.1.cost copy.1.means in omega (arith, beyond, fits))
        ],
        λ is. (let same = ap (λ (M : Segments). length (segment M 0)) is in omega (arith, same, within, room, long)),
      ),
    )

-- and no request is refused then
pub unasked_there : {r : Reading} {m after : Meter} {v w : View} {s p : ℕ} (made : View) → IsFreshRoot v w s p →
    MakesCopy (value_original r) (copy_call canonical (call_at s p w made) m after) → made.refusals ≡ v.refusals
unasked_there {r} {m} {after} {v} made root makes =
    let here : MakesCopy (value_original r) (copy_call canonical (call_at 0 0 v made) m after) =
    at_first (λ x s p. MakesCopy (value_original r) (copy_call canonical (call_at s p x made) m after)) root makes in
    ap (λ (x : View). x.refusals) here.memory.0

-- if a message stores only null, all its words are zero
zeros : (S : Segments) → IsForest S Null → (s p : ℕ) → word_at S s p ≡ 0
zeros S forest zero zero = forest.means.2.0
zeros S forest zero (suc p) = forest.zero_elsewhere 0 (suc p) (grind (arith, common_steps))
zeros S forest (suc s) p = forest.zero_elsewhere (suc s) p (grind (arith, common_steps))

-- a copy that is refused leaves only zeros
pub zeros_there : {v w : View} {s p : ℕ} (new : View) → IsFreshRoot v w s p → Puts w.words new.words s p Null → (u q : ℕ) → word_at new.words u q ≡ 0
zeros_there {v} new root puts =
    let forest : IsForest v.words Null = subst (λ (S : Segments). IsForest S Null) (sym root.fresh) fresh_forest in
    zeros new.words (root_put v.words new.words Null Null forest (at_first (λ x s p. Puts x.words new.words s p Null) root puts))

-- and its refusal is true of the message that was read
pub refused_there : {S : Segments} {limits : ReaderOptions} {r : Reading} {m after : Meter} {v w : View} {s p : ℕ} (new : View) (k : ErrorKind) → AtRoot S limits r m →
    IsFreshRoot v w s p → LeavesCleared (value_original r) (copy_call canonical (call_at s p w new) m after) k →
    RefusesAt S limits k (RefusesCopyAnywhere (to_pointer (root_within S limits)) (left_of limits) (v.room 0) k)
refused_there {S} {limits} {r} {m} {after} {v} new k at root leaves =
    let here : LeavesCleared (value_original r) (copy_call canonical (call_at 0 0 v new) m after) k =
    at_first (λ x s p. LeavesCleared (value_original r) (copy_call canonical (call_at s p x new) m after) k) root leaves in
    let null = null_stored v.words 0 0 (root_there v.words root.fresh) (root_null v.words root.fresh) in
    let why = refused_copy r (left_of limits) v new m after k root.fresh at.left (record { why = here.why; left = here.cleared Null null; memory = here.memory }) in
    inr (at.covers, subst (λ (x : Reading). RefusesCopyAnywhere (to_pointer x) (left_of limits) (v.room 0) k) at.place why)

-- a message whose root the limit doesn't cover has no value
pub never_unread : {S T : Segments} {limits : ReaderOptions} {before : Meter} {t : Tree} → T ≡ S → before ≡ unused limits.traversal_limit_in_words →
    (CoversRoot T before.left → ⊥) → IsValueOf S limits t → ⊥
never_unread {S} {T} {limits} {before} same begun none value =
    none (subst (λ (m : Meter). CoversRoot T m.left) (sym begun) (subst (λ (X : Segments). CoversRoot X limits.traversal_limit_in_words) (sym same) value.root))

-- what holds for each refusal holds for a refusal
pub on_err : {A E : Type 0} (P : Type 0) (r : Result A E) → IfErr r (λ _. P) → OnErr r P
on_err P (Ok x) is = tt
on_err P (Err e) is = is

pub on_ok : {A E : Type 0} (P : Type 0) (r : Result A E) → IfOk r (λ _. P) → OnOk r P
on_ok P (Ok x) is = is
on_ok P (Err e) is = tt
