-- Any list whose elements are rows is made one of structs.
use Rattle.capnp_in_place.proofs.WiderObjects.RowListBySteps.{ListSteps, flat_rows, list_at, old_words, pointer_rows, pointers_are, pointers_become, struct_rows, structs_are, structs_become, void_are, void_become}
use Rattle.capnp_in_place.proofs.WiderObjects.RowsWidened.{AreRows}
use Rattle.capnp_in_place.proofs.WiderObjects.RowsCopied.{RowsCopied}
use Rattle.capnp_in_place.proofs.WiderObjects.Statements.{rewriting}
use Rattle.capnp_in_place.specs.RowsRemade.{BecomesList, RowsInside, StoresRows, as_structs, rows_in}
use Rattle.capnp_in_place.specs.declared.remaking.ElementRows.{ElementRows}
use Rattle.capnp_in_place.specs.declared.widening.Allocation.{Allocation}
use Rattle.capnp_format.specs.Forest.{target}
use Rattle.capnp_format.specs.Segments.{Segments, segment}
use Rattle.capnp_format.specs.Tree.{Capability, Elements, Flat, Null, Pointers, Struct, Structs, Tree, Trees}
use Rattle.capnp_allocation.specs.Stored.{IsStored}
use Rattle.capnp_words.specs.declared.wire_pointer.StructSize.{StructSize}
use Rattle.std.proofs.Common.{List, None, Some, ap, arith, length, subst, suc, zero, ℕ, ◌≡◌, ◌≤◌}

pub same_rows : (x y : ElementRows) → Some x ≡ Some y → x ≡ y
same_rows x y e = cc

pub no_rows : (x : ElementRows) → None ≡ Some x → ⊥
no_rows x e = cc

-- What holds of lists of structs, of pointers and of void holds of each list whose elements are
-- rows.
by_rows : (S : Segments) (id at : ℕ) (P : Tree → ElementRows → Type 0) → ((d k : ℕ) (es : Elements) → IsStored S id at (Structs d k es) → P (Structs d k es) (struct_rows S id at d k es)) →
    ((ts : Trees) → IsStored S id at (Pointers ts) → P (Pointers ts) (pointer_rows S id at ts)) → ((ns : List ℕ) → IsStored S id at (Flat 0 ns) → P (Flat 0 ns) (flat_rows S id at ns)) →
    (t : Tree) (old : ElementRows) → StoresRows S id at old t → P t old
by_rows S id at P structs pointers voids t old i = go t i.0 i.1
  where
    go : (u : Tree) → IsStored S id at u → rows_in (target S id at) u ≡ Some old → P u old
    go (Structs d k es) x e = subst (P (Structs d k es)) (same_rows (struct_rows S id at d k es) old e) (structs d k es x)
    go (Pointers ts) x e = subst (P (Pointers ts)) (same_rows (pointer_rows S id at ts) old e) (pointers ts x)
    go (Flat zero ns) x e = subst (P (Flat 0 ns)) (same_rows (flat_rows S id at ns) old e) (voids ns x)
    go (Flat (suc w) ns) x e = absurd (no_rows old e)
    go Null x e = absurd (no_rows old e)
    go (Capability i) x e = absurd (no_rows old e)
    go (Struct ws ts) x e = absurd (no_rows old e)

pub are_rows : (S : Segments) (id at : ℕ) (t : Tree) (old : ElementRows) (size : StructSize) → StoresRows S id at old t → AreRows S id at t old (old_words old) 1 size (as_structs size t)
are_rows S id at t old size =
    by_rows S id at (λ u o. AreRows S id at u o (old_words o) 1 size (as_structs size u)) (λ d k es. structs_are S id at d k es size) (λ ts. pointers_are S id at ts size) (λ ns. void_are S id at ns size) t old

pub rows_become : {S T D P R Z Q : Segments} {id at : ℕ} (t : Tree) (old : ElementRows) (size : StructSize) (h : Allocation) → StoresRows S id at old t → ListSteps S T D P R Z Q id at old (old_words old) size h →
    RowsCopied S D old 1 size h → old.size.data_words ≤ size.data_words → BecomesList (rewriting id at S Q) (list_at h size old.count) t (as_structs size t)
rows_become {S = S} {T = T} {D = D} {P = P} {R = R} {Z = Z} {Q = Q} {id = id} {at = at} t old size h =
    by_rows S id at
    (λ u o. ListSteps S T D P R Z Q id at o (old_words o) size h → RowsCopied S D o 1 size h → o.size.data_words ≤ size.data_words → BecomesList (rewriting id at S Q) (list_at h size o.count) u (as_structs size u))
    (λ d k es x s c wide. structs_become d k es size h x wide s c) (λ ts x s c wide. pointers_become ts size h x s c) (λ ns x s c wide. void_become ns size h x s c) t old

-- The rows of a stored list are inside their segment.
pub rows_inside : (S : Segments) (id at : ℕ) (t : Tree) (old : ElementRows) → StoresRows S id at old t → RowsInside S old
rows_inside S id at t old x =
    let r = are_rows S id at t old old.size x in
    omega (arith, r.object.fits, r.starts, ap (λ s. length (segment S s)) r.in_segment)
