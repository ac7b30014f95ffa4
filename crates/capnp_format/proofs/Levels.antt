-- A place means at most one value, at one cost. More levels keep it, and as many as its depth are
-- enough. `one_value` takes its arguments one by one, because it is the answer to a law, and other
-- crates cite it in this form.
use Rattle.std.proofs.Common.{◌≡◌, ℕ, pred, ◌≤◌, max, sym, ◌∙◌, arith}
use Rattle.std.proofs.lemmas.Option.{some_pair_parts}
use Rattle.capnp_format.specs.Segments.{Segments}
use Rattle.capnp_format.specs.Tree.{Tree, Null, Capability, Struct, Flat, Pointers, Structs, Trees, no_trees, tree, Elements, no_elements, element, depth, depth_all, depth_elements}
use Rattle.capnp_format.specs.Means.{Means, MeansAll, MeansElements}
use Rattle.capnp_format.proofs.Meant.{Meant, AllMeant, ElementsMeant}
use Rattle.capnp_format.proofs.Reading.{decode_finds}

-- m levels are as good as n, if m is at least the value's depth
mutual
  pub other_levels : {S : Segments} {n s p c : ℕ} (m : ℕ) (t : Tree) → depth t ≤ m → Meant S n s p t c → Means S m s p t c
  other_levels m Null le h = h.means
  other_levels m (Capability i) le h = h.means
  other_levels m (Struct ws ts) le h =
      let (a, k, _, o, claim, e, all, g) = h.means in
      (a, k, omega arith, o, claim, e, other_levels_all (pred m) ts (omega arith) (record { means = all }), g)
  other_levels m (Flat size ns) le h =
      let (a, _, small, o, claim, e, g) = h.means in
      (a, omega arith, small, o, claim, e, g)
  other_levels m (Pointers ts) le h =
      let (a, k, _, o, claim, all, g) = h.means in
      (a, k, omega arith, o, claim, other_levels_all (pred m) ts (omega arith) (record { means = all }), g)
  other_levels m (Structs d q es) le h =
      let (a, m', k, _, o, claim, tag, fits, all, g) = h.means in
      (a, m', k, omega arith, o, claim, tag, fits, other_levels_elements (pred m) es (omega arith) (record { means = all }), g)

  other_levels_all : {S : Segments} {n s p c : ℕ} (m : ℕ) (ts : Trees) → depth_all ts ≤ m → AllMeant S n s p ts c → MeansAll S m s p ts c
  other_levels_all m no_trees le h = h.means
  other_levels_all m (tree t ts) le h =
      let (k, l, one, rest, g) = h.means in
      (k, l, other_levels m t (omega arith) (record { means = one }), other_levels_all m ts (omega arith) (record { means = rest }), g)

  other_levels_elements : {S : Segments} {n s p d q c : ℕ} (m : ℕ) (es : Elements) → depth_elements es ≤ m → ElementsMeant S n s p d q es c → MeansElements S m s p d q es c
  other_levels_elements m no_elements le h = h.means
  other_levels_elements m (element ws ts es) le h =
      let (k, l, long, len, e, all, rest, g) = h.means in
      (k, l, long, len, e, other_levels_all m ts (omega arith) (record { means = all }), other_levels_elements m es (omega arith) (record { means = rest }), g)

-- the levels n are at least the value's depth
mutual
  pub depth_within : {S : Segments} {n s p c : ℕ} (t : Tree) → Meant S n s p t c → depth t ≤ n
  depth_within Null h = omega arith
  depth_within (Capability i) h = omega arith
  depth_within (Struct ws ts) h =
      let (a, k, some, o, claim, e, all, g) = h.means in
      omega (arith, depth_within_all ts (record { means = all }))
  depth_within (Flat size ns) h =
      let (a, some, small, o, claim, e, g) = h.means in
      omega arith
  depth_within (Pointers ts) h =
      let (a, k, some, o, claim, all, g) = h.means in
      omega (arith, depth_within_all ts (record { means = all }))
  depth_within (Structs d q es) h =
      let (a, m, k, some, o, claim, tag, fits, all, g) = h.means in
      omega (arith, depth_within_elements es (record { means = all }))

  depth_within_all : {S : Segments} {n s p c : ℕ} (ts : Trees) → AllMeant S n s p ts c → depth_all ts ≤ n
  depth_within_all no_trees h = omega arith
  depth_within_all (tree t ts) h =
      let (k, l, one, rest, g) = h.means in
      omega (arith, depth_within t (record { means = one }), depth_within_all ts (record { means = rest }))

  depth_within_elements : {S : Segments} {n s p d q c : ℕ} (es : Elements) → ElementsMeant S n s p d q es c → depth_elements es ≤ n
  depth_within_elements no_elements h = omega arith
  depth_within_elements (element ws ts es) h =
      let (k, l, long, len, e, all, rest, g) = h.means in
      omega (arith, depth_within_all ts (record { means = all }), depth_within_elements es (record { means = rest }))

-- at most one value and one cost, with any levels
pub one_value : (S : Segments) (n m s p : ℕ) (t u : Tree) (c e : ℕ) → Means S n s p t c → Means S m s p u e → (t ≡ u) × (c ≡ e)
one_value S n m s p t u c e h k =
    let left_within : depth t ≤ n = depth_within t (record { means = h }) in
    let right_within : depth u ≤ m = depth_within u (record { means = k }) in
    let left = decode_finds S (max n m) s p t (other_levels (max n m) t (omega (arith, left_within)) (record { means = h })) in
    let right = decode_finds S (max n m) s p u (other_levels (max n m) u (omega (arith, right_within)) (record { means = k })) in
    some_pair_parts t u c e (sym left ∙ right)
