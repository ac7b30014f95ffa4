-- How many words a list of structs takes that is made of another list.
use Rattle.std.proofs.Common.{Err, IfErr, IsOk, None, Ok, OnErr, Option, Result, Some, ap, ap₂, arith, inl, inr, length, refl, subst, sym, ℕ, ◌*◌, ◌+◌, ◌-◌, ◌∙◌, ◌≡◌, ◌≤◌}
use Rattle.capnp_words.specs.declared.error.ErrorKind.{ErrorKind}
use Rattle.capnp_arena_traits.specs.View.{View}
use Rattle.capnp_format.specs.Segments.{Segments, segment}
use Rattle.capnp_format.specs.Tree.{Tree}
use Rattle.capnp_format.specs.Forest.{target}
use Rattle.capnp_words.specs.Sizes.{size_number}
use Rattle.capnp_words.specs.declared.wire_pointer.StructSize.{StructSize}
use Rattle.capnp_in_place.specs.declared.existing.ExistingList.{ExistingList}
use Rattle.capnp_allocation.specs.Memory.{HasRoom, RefusesWords, SpendsMemory, start_of}
use Rattle.capnp_allocation.specs.Made.{structs_words}
use Rattle.capnp_allocation.specs.Makes.{call_at}
use Rattle.capnp_arena_traits.specs.declared.arena.WordPlace.{WordPlace}
use Rattle.capnp_in_place.specs.declared.remaking.ElementRows.{ElementRows}
use Rattle.capnp_in_place.specs.Moved.{moves_into, near_pointers}
use Rattle.capnp_in_place.specs.Rooms.{GrowsByAtMost, HasRoomAndPads, HasRoomFor, RefusesGrowth, RefusesToBecome, direct_pointers, widened_words}
use Rattle.capnp_in_place.specs.RowsRemade.{IsList, MakesListAnew, MakesListOfStructs, RemakesRows, StoresRows, as_structs, element_moves}
use Rattle.capnp_in_place.proofs.WiderObjects.AnyRows.{are_rows}
use Rattle.capnp_in_place.proofs.WiderObjects.WhichList.{err_both, if_err_both, same_tree}
use Rattle.capnp_in_place.proofs.MovedPointers.RoomForPads.{near_few, near_same_rows}
use Rattle.capnp_in_place.proofs.Room.GrowthRefused.{growth_named}
use Rattle.capnp_in_place.proofs.WiderObjects.StructBySteps.{nothing_grown}
use Rattle.capnp_in_place.proofs.WiderObjects.NumberListBySteps.{numbers_are}
use Rattle.capnp_in_place.proofs.WiderObjects.RowsWidened.{AreRows}
use Rattle.capnp_in_place.proofs.WiderObjects.RowsCopied.{rows_words}

-- The pads that are needed don't depend on where the rows go.
near_of_rows : {S : Segments} {s p : ℕ} {t u : Tree} {rows : ElementRows} {words tag : ℕ} {size : StructSize} (to : WordPlace) → AreRows S s p t rows words tag size u →
    near_pointers S (moves_into (start_of (target S s p)) (start_of (target S s p)) t u) ≡ near_pointers S (element_moves rows to size)
near_of_rows {S = S} {s = s} {p = p} {rows = rows} {tag = tag} {size = size} to r =
    let a : WordPlace = start_of (target S s p) in
    let z = size.data_words + size.pointers in
    let from = rows.at + rows.tag + rows.size.data_words in
    let w = rows.size.data_words + rows.size.pointers in
    let k = rows.size.pointers in
    let n = rows.count in
    ap (near_pointers S) (r.moves a) ∙ near_same_rows S S rows.segment from w a.segment (a.at + tag + size.data_words) z to.segment (to.at + size.data_words) z k n (from + n * w + k) (omega arith) (λ y l. refl)

-- The room for what rows become, and the memory that is refused for it.
rows_fit : (v : View) {s p : ℕ} {t u : Tree} {rows : ElementRows} {words tag : ℕ} {size : StructSize} (to : WordPlace) → AreRows v.words s p t rows words tag size u → HasRoomFor v s p t u →
    HasRoomAndPads v s (rows_words tag rows.count size) rows.segment (near_pointers v.words (element_moves rows to size))
rows_fit v {s = s} {p = p} {u = u} {rows = rows} {size = size} to r fits =
    let n : ℕ = near_pointers v.words (element_moves rows to size) in
    subst (λ m. HasRoomAndPads v s m rows.segment n) r.wide (subst (λ k. HasRoomAndPads v s (widened_words u) k n) (sym r.in_segment) (subst (λ i. HasRoomAndPads v s (widened_words u) (target v.words s p).segment i) (near_of_rows to r) fits))

rows_refused : (a b : View) (s p : ℕ) (rows : ElementRows) (size : StructSize) (k : ErrorKind) → SpendsMemory a b k → RefusesGrowth a b (structs_words rows.count size) (rows.count * rows.size.pointers) k →
    RefusesToBecome (StoresRows a.words s p rows) (λ t. Ok (as_structs size t)) a b k
rows_refused a b s p rows size k memory full = record {
  name = growth_named a b _ _ k full;
  memory = memory;
  full = λ t u x e. (let r = are_rows a.words s p t rows size x in
      let words = sym r.wide ∙ ap widened_words (same_tree (as_structs size t) u e) in
      subst (λ n. RefusesGrowth a b n (direct_pointers t) k) words (subst (λ n. RefusesGrowth a b (structs_words rows.count size) n k) (sym r.pointers) full));
}

-- The clauses of a call that makes rows structs hold of the list that the rows are.
pub rows_make : (v w : View) (s p : ℕ) (rows : ElementRows) (size : StructSize) (r : Result ExistingList ErrorKind) → RemakesRows r rows size (call_at s p v w) → IfErr r (RefusesGrowth v w (structs_words rows.count size) (rows.count * rows.size.pointers)) →
    ((to : WordPlace) → HasRoomAndPads v s (structs_words rows.count size) rows.segment (near_pointers v.words (element_moves rows to size)) → IsOk r) → MakesListOfStructs r (StoresRows v.words s p rows) size (call_at s p v w)
rows_make v w s p rows size r m full fits = record {
  made = m.made;
  named = if_err_both r _ _ _ m.made.memory full (λ k memory why. inr (rows_refused v w s p rows size k memory why));
  fits = λ t x room. (let to : WordPlace = record { segment = 0; at = 0 } in fits to (rows_fit v to (are_rows v.words s p t rows size x) room));
  few = λ t x. (let are = are_rows v.words s p t rows size x in subst (λ m. GrowsByAtMost v.words w.words m) (sym (ap₂ (λ x y. x + 1 + 2 * y) are.wide are.pointers)) m.few);
}

-- Numbers have no pointers.
numbers_refused : (a b : View) (s p : ℕ) (l : ExistingList) (size : StructSize) (k : ErrorKind) → 2 ≤ size_number l.size → size_number l.size ≤ 5 → SpendsMemory a b k → RefusesWords a b (structs_words l.count size) k → b.words ≡ a.words →
    RefusesToBecome (IsList a.words s p l) (λ t. Ok (as_structs size t)) a b k
numbers_refused a b s p l size k two five memory full same = record {
  name = growth_named a b (structs_words l.count size) 0 k (inl (full, same));
  memory = memory;
  full = λ t u i e. (let words = sym (numbers_are a.words s p l size t two five i).wide ∙ ap widened_words (same_tree (as_structs size t) u e) in inl (subst (λ m. RefusesWords a b m k) words full, same));
}

numbers_fit : (v : View) (s p m : ℕ) (t u : Tree) → (widened_words u ≡ m) × (direct_pointers t ≡ 0) → HasRoomFor v s p t u → HasRoom v s m
numbers_fit v s p m t u (e, none) fits =
    let a : WordPlace = start_of (target v.words s p) in
    let few = near_few v.words a a t u in
    subst (λ i. HasRoom v s i) (let f : widened_words u + 2 * (near_pointers v.words (moves_into a a t u) - (v.room a.segment - length (segment v.words a.segment))) ≡ m = omega (arith, e, none, few) in f) fits

-- The clauses of a call that makes numbers structs hold of the list of these numbers.
pub numbers_make : (v w : View) (s p : ℕ) (l : ExistingList) (size : StructSize) (r : Result ExistingList ErrorKind) → 2 ≤ size_number l.size → size_number l.size ≤ 5 → MakesListAnew r (IsList v.words s p l) size (call_at s p v w) → OnErr r (w.words ≡ v.words) →
    IfErr r (RefusesWords v w (structs_words l.count size)) → GrowsByAtMost v.words w.words (structs_words l.count size + 1) → (HasRoom v s (structs_words l.count size) → IsOk r) → MakesListOfStructs r (IsList v.words s p l) size (call_at s p v w)
numbers_make v w s p l size r two five made same full few fits = record {
  made = made;
  named = if_err_both r _ _ _ made.memory (err_both r _ _ same full) (λ k memory why. inr (numbers_refused v w s p l size k two five memory why.0 why.1));
  fits = λ t i room. fits (let r = numbers_are v.words s p l size t two five i in numbers_fit v s p _ t _ (r.wide, omega (arith, r.pointers)) room);
  few = λ t i. (let r = numbers_are v.words s p l size t two five i in omega (arith, few, r.wide, r.pointers));
}

-- A call that finds no such list is refused.
pub none_made : (v : View) (s p : ℕ) (Stands : Tree → Type 0) (size : StructSize) (k : ErrorKind) → SpendsMemory v v k → ((t : Tree) → Stands t → ⊥) → MakesListOfStructs (Err k) Stands size (call_at s p v v)
none_made v s p Stands size k spent none = record {
  made = record { remade = tt; anew = tt; granted = tt; memory = spent; refused = λ t i. nothing_grown v.words _ refl };
  named = inl (refl, none);
  fits = λ t i room. absurd (none t i);
  few = λ t i. absurd (none t i);
}

-- If a list is refused, it can't be made.
pub not_refused : (r : Result Tree ErrorKind) (k : ErrorKind) (u : Tree) → r ≡ Err k → r ≡ Ok u → ⊥
not_refused r k u e f = cc

-- What is found of a value.

pub null_found : (k : ErrorKind) → ◌≡◌ {A = Result (Option ExistingList) ErrorKind} (Err k) (Ok None) → ⊥
null_found k e = cc

pub found_none : (l : ExistingList) → ◌≡◌ {A = Result (Option ExistingList) ErrorKind} (Ok (Some l)) (Ok None) → ⊥
found_none l e = cc
