-- What bounds the extent of a value that is read.
use Rattle.std.proofs.Common.{◌≡◌, ℕ, ◌+◌, ◌≤◌, Bool, true, Option, Some, Ok, subst, arith}
use Rattle.capnp_words.specs.Meter.{Affords, FitsIn, Meter}
use Rattle.capnp_format.specs.Canonical.{word_count}
use Rattle.capnp_format.specs.Tree.{Tree, Null, Capability, Struct, Flat, Pointers, Structs, Trees, no_trees, tree, Elements, no_elements, element, capabilities, capabilities_all, capabilities_elements, depth}
use Rattle.capnp_format.proofs.Bounds.{words_within_cost}
use Rattle.capnp_pointers.specs.Outcomes.{Reads}
use Rattle.capnp_pointers.specs.Reading.{Reading}
use Rattle.capnp_pointers.specs.Spending.{pointers_in, pointers_in_all, pointers_in_elements}
use Rattle.capnp_pointers.specs.Values.{value}
use Rattle.capnp_pointers.specs.Wanted.{plain}
use Rattle.capnp_pointers.proofs.Budget.PaidAndLeft.{pointers_within}
use Rattle.capnp_pointers.proofs.WholeValue.ValueAgrees.{Agree, value_agrees}
use Rattle.capnp_pointers.proofs.Validation.ExtentOfTheReading.{depth_within}

-- Each capability is one of the pointers that are followed.
mutual
  caps_in : (t : Tree) → capabilities t ≤ pointers_in t
  caps_in Null = omega arith
  caps_in (Capability i) = omega arith
  caps_in (Struct ws ts) = omega (arith, caps_in_all ts)
  caps_in (Flat size ns) = omega arith
  caps_in (Pointers ts) = omega (arith, caps_in_all ts)
  caps_in (Structs d q es) = omega (arith, caps_in_elements es)

  caps_in_all : (ts : Trees) → capabilities_all ts ≤ pointers_in_all ts
  caps_in_all no_trees = omega arith
  caps_in_all (tree t ts) = omega (arith, caps_in t, caps_in_all ts)

  caps_in_elements : (es : Elements) → capabilities_elements es ≤ pointers_in_elements es
  caps_in_elements no_elements = omega arith
  caps_in_elements (element ws ts es) = omega (arith, caps_in_all ts, caps_in_elements es)

pub within_limits : (r : Reading) (m m' : Meter) (t : Tree) (x : ℕ) → r.charging ≡ true → m.left ≡ Some x → value plain r m ≡ (Ok t, m') → (depth t ≤ r.levels) × (word_count t ≤ x) × (capabilities t ≤ x + 1)
within_limits r m m' t x charging budget e =
    let reads : Reads plain r m m' t = subst (Agree plain r m) e (value_agrees plain r m) in
    let covered : Affords true m reads.cost = subst (λ (b : Bool). Affords b m reads.cost) charging reads.covers in
    let fits : FitsIn (Some x) reads.cost = subst (λ (b : Option ℕ). FitsIn b reads.cost) budget covered in
    (depth_within r m m' t e, omega (arith, words_within_cost t (record { means = reads.means }), fits), omega (arith, caps_in t, pointers_within r.segments r.levels r.segment r.at t (reads.cost, reads.means), fits))
