-- A copy into the arena that an export makes.
use Rattle.std.proofs.Common.{◌≡◌, ℕ, ◌<◌, ◌+◌, [], ◌∷◌, length, ap, sym, ◌∙◌, subst}
use Rattle.std.specs.Prelude.{Bool, List, IfErr, IfOk, IsOk, Result, Ok, Err}
use Rattle.capnp_words.specs.Meter.{Meter}
use Rattle.capnp_words.specs.declared.error.ErrorKind.{ErrorKind}
use Rattle.capnp_format.specs.Canonical.{encoding, trim}
use Rattle.capnp_format.specs.Path.{tree_at}
use Rattle.capnp_format.specs.Segments.{Grows, Segments}
use Rattle.capnp_format.specs.Tree.{Tree, Null}
use Rattle.capnp_format.proofs.Levels.{one_value}
use Rattle.capnp_arena_traits.specs.View.{View}
use Rattle.capnp_pointers.specs.Reading.{Reading}
use Rattle.capnp_allocation.specs.Stored.{Puts}
use Rattle.capnp_pointers.specs.Wanted.{Form, canonical}
use Rattle.capnp_readers.specs.Values.{HasValue}
use Rattle.capnp_readers.specs.declared.readers.struct_reader.StructPlace.{StructPlace}
use Rattle.capnp_copies.specs.Changes.{CopyCall, copy_call}
use Rattle.capnp_copies.specs.Forms.{kept}
use Rattle.capnp_copies.specs.Growth.{TakesAtMost}
use Rattle.capnp_copies.specs.Originals.{value_original}
use Rattle.capnp_copies.specs.Rooms.{CanBeCopied}
use Rattle.capnp_builders.specs.Held.{MakesChild, call_in}
use Rattle.capnp_builders.specs.Kept.{FillsMessage, LeavesCleared, PutsCopy}
use Rattle.capnp_builders.proofs.HeldStructs.{child_replaced, child_set, child_stored}
use Rattle.typed_building.specs.There.{call_on}
use Rattle.capnp_layout_c.specs.BuildingNumbers.{number_of_result}
use Rattle.capnp_layout_c.specs.Buffers.{Done, Gives, buffer, placed_struct, words_in}
use Rattle.capnp_layout_c.specs.Copies.{CopiesAt}
use Rattle.capnp_layout_c.specs.declared.building.places.StructAt.{StructAt}
use Rattle.capnp_layout_c.proofs.BuildingCalls.{Arena, Tie, after, before, gives_what, view}

-- A copy keeps what is offered.
pub copy_keeps : (r : Result Done ErrorKind) (x : Reading) (c : CopyCall) →
    IfOk r (λ _. PutsCopy (value_original x) c) → IfErr r (LeavesCleared (value_original x) c) → c.new.offers ≡ c.old.offers
copy_keeps (Ok v) x c h k = let f : View → ℕ → ℕ → Bool = λ v. v.offers in ap f h.memory.0
copy_keeps (Err e) x c h k = let f : View → ℕ → ℕ → Bool = λ v. v.offers in ap f k.memory.0

-- The value that a pointer means is the one that was read.
same_value : (x : Reading) (form : Form) (t v : Tree) (m k : Meter) → HasValue x t → (value_original x).reads form m k v → v ≡ t
same_value x form t v m k has read =
    (one_value x.segments x.levels x.levels x.segment x.at v t read.cost has.cost read.means has.means).0

-- A canonical copy puts the trimmed value, or null after a refusal.
pub trimmed_child : {X : Type 0} (r : Result X ErrorKind) (x : Reading) (old new : View) (m k : Meter) (place : StructPlace) (i : ℕ) (t : Tree) →
    i < place.pointers → HasValue x t →
    IfOk r (λ _. PutsCopy (value_original x) (copy_call canonical (call_on place i old new) m k)) →
    IfErr r (LeavesCleared (value_original x) (copy_call canonical (call_on place i old new) m k)) →
    MakesChild r (call_in place old.words new.words) i (trim t)
trimmed_child (Ok v) x old new m k place i t inside has copied refused =
    let puts : Puts old.words new.words place.segment (place.pointers_at + i) (trim t) =
    subst (λ u. Puts old.words new.words place.segment (place.pointers_at + i) (trim u))
    (same_value x canonical t copied.value m k has copied.is_read) copied.put in
    record {
      sets = λ y ws ts h. child_set old.words new.words y place ws ts i (trim t) inside (puts (tree_at ts i) (child_stored old.words y place ws ts i inside h)) h;
      replaces = λ y ws ts h. child_replaced old.words new.words y place ws ts i (trim t) inside (puts (tree_at ts i) (child_stored old.words y place ws ts i inside h)) h;
      refused = λ y ws ts h. tt;
      emptied = λ y ws ts h. tt;
    }
trimmed_child (Err e) x old new m k place i t inside has copied refused =
    record {
      sets = λ y ws ts h. tt;
      replaces = λ y ws ts h. tt;
      refused = λ y ws ts h. child_set old.words new.words y place ws ts i Null inside (refused.cleared (tree_at ts i) (child_stored old.words y place ws ts i inside h)) h;
      emptied = λ y ws ts h. child_replaced old.words new.words y place ws ts i Null inside (refused.cleared (tree_at ts i) (child_stored old.words y place ws ts i inside h)) h;
    }

-- What a copy at a place does, for the value of a pointer.
abbrev Does : Form → View → View → ℕ → Meter → Result Done ErrorKind → StructPlace → Reading → Meter → Type 0
Does form v w i k r place x m =
    let c = copy_call form (call_on place i v w) m k in
    IfOk r (λ _. PutsCopy (value_original x) c)
    × (CanBeCopied (value_original x) form m v place.segment → IsOk r)
    × IfErr r (LeavesCleared (value_original x) c)
    × TakesAtMost r (value_original x) c
    × ((t : Tree) → HasValue x t → MakesChild r (call_in place v.words w.words) i (kept form t))

copies_at : (form : Form) (v w : View) (i : ℕ) (k : Meter) (r : Result Done ErrorKind) (place : StructPlace) (q : StructAt) (x y : Reading) (m n : Meter) →
    place ≡ placed_struct q → x ≡ y → m ≡ n → Does form v w i k r place x m → Grows v.words w.words → CopiesAt form y n k q i r v w
copies_at form v w i k r place q x y m n is same met does grows =
    let h : Does form v w i k r (placed_struct q) y n =
    subst (λ (p : StructPlace). Does form v w i k r p y n) is (subst (λ (z : Reading). Does form v w i k r place z n) same (subst (λ (z : Meter). Does form v w i k r place x z) met does)) in
    record { copied = h.0; fits = h.1; refused = h.2; taken = h.3; child = h.4; grows = grows }

module _ {a b : Arena} {old x : List ℕ} {from used : ℕ} (tie : Tie a b old x from used) where
  -- What is copied into the arena is copied into the buffer.
  pub gives_copied : (form : Form) (i : ℕ) (k : Meter) (r : Result Done ErrorKind) (number : ℕ) (place : StructPlace) (q : StructAt) (y z : Reading) (m n : Meter) →
      place ≡ placed_struct q → y ≡ z → m ≡ n → number ≡ number_of_result r →
      IfOk r (λ _. PutsCopy (value_original y) (copy_call form (call_on place i (view a) (view b)) m k)) →
      (CanBeCopied (value_original y) form m (view a) place.segment → IsOk r) →
      IfErr r (LeavesCleared (value_original y) (copy_call form (call_on place i (view a) (view b)) m k)) →
      TakesAtMost r (value_original y) (copy_call form (call_on place i (view a) (view b)) m k) →
      ((t : Tree) → HasValue y t → MakesChild r (call_in place (view a).words (view b).words) i (kept form t)) →
      Grows (view a).words (view b).words →
      Gives Done number (buffer old from x used) (CopiesAt form z n k q i)
  gives_copied form i k r number place q y z m n is same met e copied fits refused taken child grows =
      gives_what tie r number (CopiesAt form z n k q i)
      (copy_keeps r y (copy_call form (call_on place i (view a) (view b)) m k) copied refused) e
      (copies_at form (view a) (view b) i k r place q y z m n is same met (copied, fits, refused, taken, child) grows)

  -- A canonical copy into the arena of a message that was just started fills the buffer's message.
  pub fills_alone : (i : ℕ) (k : Meter) (r : Result Done ErrorKind) (place : StructPlace) (y z : Reading) (m : Meter) (t : Tree) →
      y ≡ z → HasValue z t → words_in old from ≡ (0 ∷ []) ∷ [] →
      IfOk r (λ _. PutsCopy (value_original y) (copy_call canonical (call_on place i (view a) (view b)) m k)) →
      IfErr r (LeavesCleared (value_original y) (copy_call canonical (call_on place i (view a) (view b)) m k)) →
      ((view a).words ≡ (0 ∷ []) ∷ [] → FillsMessage y (copy_call canonical (call_on place i (view a) (view b)) m k)) →
      words_in x used ≡ encoding (trim t) ∷ []
  fills_alone i k r place y z m t same has fresh copied refused fills =
      let e = copy_keeps r y (copy_call canonical (call_on place i (view a) (view b)) m k) copied refused in
      let words : View → Segments = λ w. w.words in
      let old_is : (view a).words ≡ words_in old from = ap words (before tie) in
      let new_is : (view b).words ≡ words_in x used = ap words (after tie e) in
      let (v, read, filled) = fills (old_is ∙ fresh) in
      let has' : HasValue y t = subst (λ (w : Reading). HasValue w t) (sym same) has in
      sym new_is ∙ filled (ap (λ (S : Segments). length S) new_is) ∙ ap (λ u. encoding (trim u) ∷ []) (same_value y canonical t v m k has' read)
