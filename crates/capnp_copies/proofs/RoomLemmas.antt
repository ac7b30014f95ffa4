-- If part of it has no room, the whole is too large: the first parts of what a place means
-- determine it.
use Rattle.std.proofs.Common.{◌≡◌, ℕ, suc, ◌+◌, ◌<◌, ◌≤◌, ap, subst, arith}
use Rattle.capnp_format.specs.Tree.{Tree, Trees, no_trees, tree, count}
use Rattle.capnp_format.specs.Canonical.{word_count, word_count_all}
use Rattle.capnp_format.proofs.Levels.{one_value}
use Rattle.capnp_pointers.specs.Outcomes.{MeansThere}
use Rattle.capnp_pointers.specs.Reading.{Reading, place_past}
use Rattle.capnp_pointers.specs.Wanted.{Form}
use Rattle.capnp_copies.specs.Forms.{kept, kept_each}
use Rattle.capnp_copies.proofs.KeptChildren.{kept_none, kept_first}
use Rattle.capnp_pointers.proofs.WholeValue.Shorthands.{MeanThere}

-- Equally many pointers from the same place on have the same cost.
pub same_cost : (r : Reading) (ts us : Trees) (c e : ℕ) → count ts ≡ count us → MeanThere r ts c → MeanThere r us e → c ≡ e
same_cost r no_trees no_trees c e len h g = omega (arith, h, g)
same_cost r no_trees (tree u us) c e len h g = absurd (omega (arith, len))
same_cost r (tree t ts) no_trees c e len h g = absurd (omega (arith, len))
same_cost r (tree t ts) (tree u us) c e len (k, x, first, others, f) (j, y, one, rest, g) =
    omega (arith, (one_value r.segments r.levels r.levels r.segment r.at t u k j first one).1, same_cost (place_past r 1) ts us x y (omega (arith, len)) others rest, f, g)

-- The child after the first ones, in any longer list of children that the same place means.
pub next_words : (b : Form) (r : Reading) (ts us : Trees) → (k : ℕ) × MeanThere r ts k → (c : ℕ) × MeanThere r us c → count ts < count us →
    (u : Tree) × (e : ℕ) × MeansThere (place_past r (count ts)) u e × (word_count_all (kept_each b ts) + word_count (kept b u) ≤ word_count_all (kept_each b us))
next_words b r ts no_trees h g lt = absurd (omega arith)
next_words b r no_trees (tree u us) h (c, (a, x, one, rest, g)) lt =
    (u, a, subst (λ q. MeansThere (record r { at = q }) u a) (let e : r.at ≡ r.at + 0 = omega arith in e) one, omega (arith, ap word_count_all (kept_none b), ap word_count_all (kept_first b u us)))
next_words b r (tree t ts) (tree u us) (k, (x, y, first, others, f)) (c, (a, e, one, rest, g)) lt =
    let same = ap (λ v. word_count (kept b v)) (one_value r.segments r.levels r.levels r.segment r.at t u x a first one).0 in
    let z = next_words b (place_past r 1) ts us (y, others) (e, rest) (omega arith) in
    (z.0, z.1, subst (λ q. MeansThere (record r { at = q }) z.0 z.1) (let h : r.at + 1 + count ts ≡ r.at + suc (count ts) = omega arith in h) z.2, omega (arith, same, z.3, ap word_count_all (kept_first b t ts), ap word_count_all (kept_first b u us)))
