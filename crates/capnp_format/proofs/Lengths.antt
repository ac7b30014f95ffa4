-- The lengths of bodies.
use Rattle.std.proofs.Common.{◌≡◌, ℕ, suc, ◌+◌, ◌*◌, ◌++◌, length, refl, ap, arith, length-append}
use Rattle.capnp_format.specs.Numbers.{words_for}
use Rattle.capnp_format.specs.Tree.{Tree, Null, Capability, Struct, Flat, Pointers, Structs, Trees, no_trees, tree, Elements, no_elements, element, count, element_count}
use Rattle.capnp_format.specs.Canonical.{word_count, word_count_all, word_count_elements, pointers, rows, body, bodies, element_bodies}
use Rattle.capnp_format.specs.Value.{IsValue, AreValues, AreElements}
use Rattle.capnp_format.proofs.Digits.{length-digits}

pub length-pointers : (k : ℕ) (ts : Trees) → length (pointers k ts) ≡ count ts
length-pointers k no_trees = refl
length-pointers k (tree t ts) = ap suc (length-pointers (k + word_count t) ts)

pub length-rows : (d q k : ℕ) (es : Elements) → AreElements d q es → length (rows d q k es) ≡ element_count es * (d + q)
length-rows d q k no_elements h = omega arith
length-rows d q k (element ws ts es) h =
    omega (
      arith,
      length-append (ws ++ pointers (element_count es * (d + q) + k) ts) (rows d q (k + word_count_all ts) es),
      length-append ws (pointers (element_count es * (d + q) + k) ts),
      length-pointers (element_count es * (d + q) + k) ts,
      length-rows d q (k + word_count_all ts) es h.4,
    )

mutual
  pub length-body : (t : Tree) → IsValue t → length (body t) ≡ word_count t
  length-body Null h = refl
  length-body (Capability i) h = refl
  length-body (Struct ws ts) h =
      omega (arith, length-append (ws ++ pointers 0 ts) (bodies ts), length-append ws (pointers 0 ts), length-pointers 0 ts, length-bodies ts h.3)
  length-body (Flat size ns) h = length-digits _ (words_for size (length ns)) _
  length-body (Pointers ts) h = omega (arith, length-append (pointers 0 ts) (bodies ts), length-pointers 0 ts, length-bodies ts h.1)
  length-body (Structs d q es) h =
      omega (arith, length-append (rows d q 0 es) (element_bodies es), length-rows d q 0 es h.4, length-element_bodies d q es h.4)

  pub length-bodies : (ts : Trees) → AreValues ts → length (bodies ts) ≡ word_count_all ts
  length-bodies no_trees h = refl
  length-bodies (tree t ts) h = omega (arith, length-append (body t) (bodies ts), length-body t h.0, length-bodies ts h.1)

  pub length-element_bodies : (d q : ℕ) (es : Elements) → AreElements d q es → length (element_bodies es) ≡ word_count_elements es
  length-element_bodies d q no_elements h = refl
  length-element_bodies d q (element ws ts es) h = omega (arith, length-append (bodies ts) (element_bodies es), length-bodies ts h.3, length-element_bodies d q es h.4)
