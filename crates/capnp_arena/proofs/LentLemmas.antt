-- An arena's rows after one of them was lent to be written.
use Rattle.std.proofs.Common.{◌≡◌, ℕ, ◌-◌, ◌<◌, ◌≤◌, List, [], ◌∷◌, zero, suc, length, get_or, refl, sym, ap, ◌∙◌, arith, slice_get, Some, subst}
use Rattle.std.proofs.Math.Bridge.{le_prop}
use Rattle.std.specs.Global.{Vec}
use Rattle.std.specs.Vec.{with_item}
use Rattle.capnp_arena.specs.Bounds.{HasBounds, rooms, bounds}
use Rattle.capnp_arena.specs.LendingLemmas.{bounded_with_row}
use Rattle.capnp_arena.proofs.RangeLemmas.{bounded_once}
use Rattle.capnp_arena.specs.Row.{most_others, with_allocated, with_found, with_row}
use Rattle.capnp_arena.specs.LendingLemmas.{few_with_row}
use Rattle.capnp_arena_traits.specs.Allocations.{max_segments}
use Rattle.capnp_arena.specs.Rows.{with_bytes_apart}
use Rattle.capnp_arena.specs.Listed.{with_bytes_listed}
use Rattle.capnp_arena.specs.declared.arena.listed.Listed.{Listed}
use Rattle.capnp_arena.specs.declared.arena.rows.Rows.{Rows}
use Rattle.capnp_arena.specs.declared.arena.row.Row.{Row}
use Rattle.capnp_arena.specs.declared.arena.allocator.Segment.{Ghosts}

module _ {S : Type 0} (g : Ghosts S) where
  row_at : (rows : List (Row S g)) (i : ℕ) (d : Row S g) → i < length rows → slice_get rows i ≡ Some (get_or rows i d)
  row_at [] i d l = absurd (omega arith)
  row_at (r ∷ rows) zero d l = refl
  row_at (r ∷ rows) (suc i) d l = row_at rows i d (omega arith)

  lent_row : (rows : Vec (Row S g)) (i : ℕ) (r : Row S g) (ws : List ℕ) → i < length rows.items → r ≡ get_or rows.items i r → with_item rows i (with_allocated g r ws) ≡ with_row g rows i ws
  lent_row rows i r ws l e = ap (with_found g rows i ws) (ap Some e ∙ sym (row_at rows.items i r l))

  -- rows, if the first was lent
  pub lent_first : (b : Rows S g) (r : Row S g) (few : length b.others.items ≤ most_others b.there) (bounded : HasBounds g b.others.items) → (let B : Type 0 = Rows S g in
      ◌≡◌ {A = B} (record { first = r; there = b.there; others = b.others; few = few; bounded = bounded }) (record { first = r; there = b.there; others = b.others; few = b.few; bounded = b.bounded }))
  lent_first b r few bounded = λ i. record { first = r; there = b.there; others = b.others; few = le_prop few b.few i; bounded = bounded_once (rooms g b.others.items) (bounds g b.others.items) bounded b.bounded i }

  -- rows, if another was lent
  lent_at : (b : Rows S g) (k : ℕ) {r : Row S g} (ws : List ℕ) → k < length b.others.items → r ≡ get_or b.others.items k r → (few : length (with_item b.others k (with_allocated g r ws)).items ≤ most_others b.there) →
      (bounded : HasBounds g (with_item b.others k (with_allocated g r ws)).items) → (let B : Type 0 = Rows S g in
      ◌≡◌ {A = B} (record { first = b.first; there = b.there; others = with_item b.others k (with_allocated g r ws); few = few; bounded = bounded }) (with_bytes_apart g b (suc k) ws))
  lent_at b k {r} ws l e few bounded =
      let B : Type 0 = Rows S g in
      let lent : Vec (Row S g) = with_item b.others k (with_allocated g r ws) in
      subst (λ (v : Vec (Row S g)). (n : length v.items ≤ most_others b.there) (h : HasBounds g v.items) → ◌≡◌ {A = B} (record { first = b.first; there = b.there; others = lent; few = few; bounded = bounded })
      (record { first = b.first; there = b.there; others = v; few = n; bounded = h }))
      (lent_row b.others k r ws l e)
      (λ n h. λ i. record { first = b.first; there = b.there; others = lent; few = le_prop few n i; bounded = bounded_once (rooms g lent.items) (bounds g lent.items) bounded h i })
      (few_with_row g b.others k ws (most_others b.there) b.few) (bounded_with_row g b.others k ws b.bounded)

  pub lent_other : (b : Rows S g) (id : ℕ) {r : Row S g} (ws : List ℕ) → 0 < id → id - 1 < length b.others.items → r ≡ get_or b.others.items (id - 1) r →
      (few : length (with_item b.others (id - 1) (with_allocated g r ws)).items ≤ most_others b.there) → (bounded : HasBounds g (with_item b.others (id - 1) (with_allocated g r ws)).items) → (let B : Type 0 = Rows S g in
      ◌≡◌ {A = B} (record { first = b.first; there = b.there; others = with_item b.others (id - 1) (with_allocated g r ws); few = few; bounded = bounded }) (with_bytes_apart g b id ws))
  lent_other b zero ws some l e few bounded = absurd (omega arith)
  lent_other b (suc k) {r} ws some l e few bounded =
      let B : Type 0 = Rows S g in
      subst (λ (j : ℕ). j < length b.others.items → r ≡ get_or b.others.items j r → (n : length (with_item b.others j (with_allocated g r ws)).items ≤ most_others b.there) (h : HasBounds g (with_item b.others j (with_allocated g r ws)).items) →
      ◌≡◌ {A = B} (record { first = b.first; there = b.there; others = with_item b.others j (with_allocated g r ws); few = n; bounded = h }) (with_bytes_apart g b (suc k) ws))
      (let same : k ≡ suc k - 1 = omega arith in same)
      (λ l e n h. lent_at b k ws l e n h) l e few bounded

  -- rows in a list, if one was lent
  pub lent_in_list : (b : Listed S g) (k : ℕ) {r : Row S g} (ws : List ℕ) → k < length b.rows.items → r ≡ get_or b.rows.items k r → (few : length (with_item b.rows k (with_allocated g r ws)).items ≤ max_segments) →
      (bounded : HasBounds g (with_item b.rows k (with_allocated g r ws)).items) → (let B : Type 0 = Listed S g in
      ◌≡◌ {A = B} (record { rows = with_item b.rows k (with_allocated g r ws); few = few; bounded = bounded }) (with_bytes_listed g b k ws))
  lent_in_list b k {r} ws l e few bounded =
      let B : Type 0 = Listed S g in
      let lent : Vec (Row S g) = with_item b.rows k (with_allocated g r ws) in
      subst (λ (v : Vec (Row S g)). (n : length v.items ≤ max_segments) (h : HasBounds g v.items) → ◌≡◌ {A = B} (record { rows = lent; few = few; bounded = bounded }) (record { rows = v; few = n; bounded = h }))
      (lent_row b.rows k r ws l e)
      (λ n h. λ i. record { rows = lent; few = le_prop few n i; bounded = bounded_once (rooms g lent.items) (bounds g lent.items) bounded h i })
      (few_with_row g b.rows k ws max_segments b.few) (bounded_with_row g b.rows k ws b.bounded)
