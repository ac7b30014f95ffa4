-- Budgets, step by step. Lemmas on `Means` name all its arguments: it is defined by recursion on
-- the value, so the checker can't find any of them from a premise.
use Rattle.std.proofs.Common.{◌≡◌, ℕ, suc, pred, ◌+◌, ◌*◌, ◌<◌, ◌≤◌, Bool, true, false, Option, Some, None, refl, ap, ap₂, ◌∙◌, arith}
use Rattle.capnp_format.specs.Segments.{Segments, Target}
use Rattle.capnp_format.specs.Tree.{Tree, Null, Capability, Struct, Flat, Pointers, Structs, Trees, no_trees, tree, Elements, no_elements, element, count, element_count}
use Rattle.capnp_format.specs.Means.{Means, MeansAll, MeansElements}
use Rattle.capnp_words.specs.Meter.{Meter, FitsIn, less, raised, Affords}
use Rattle.capnp_pointers.specs.Spending.{after_charge, Paid, pointers_in, pointers_in_all, pointers_in_elements}
use Rattle.capnp_words.specs.declared.wire_pointer.StructSize.{StructSize}
use Rattle.capnp_pointers.specs.Demands.{own_charge}
use Rattle.capnp_pointers.specs.Outcomes.{Reads, ReadsAll, ReadsElements, Entered}
use Rattle.capnp_pointers.specs.Reading.{Reading}
use Rattle.capnp_words.specs.Sizes.{sized}
use Rattle.capnp_pointers.specs.Wanted.{Form}
use Rattle.capnp_pointers.specs.declared.object.Purpose.TheVariants.{Value}

pub less_less : (o : Option ℕ) (g h : ℕ) → less (less o g) h ≡ less o (g + h)
less_less None g h = refl
less_less (Some x) g h = ap Some (omega arith)

pub less_none : (o : Option ℕ) → less o 0 ≡ o
less_none None = refl
less_none (Some x) = ap Some (omega arith)

raised_raised : (f r k : ℕ) → raised (raised f r) k ≡ raised f (r + k)
raised_raised f r k = omega arith

pub after_after : (charging : Bool) (m : Meter) (g r h k : ℕ) → after_charge charging (after_charge charging m g r) h k ≡ after_charge charging m (g + h) (r + k)
after_after true m g r h k = ap₂ (λ o f. record { left = o; followed = f }) (less_less m.left g h) (raised_raised m.followed r k)
after_after false m g r h k = refl

pub after_none : (charging : Bool) (m : Meter) → after_charge charging m 0 0 ≡ m
after_none true m = ap₂ (λ o f. record { left = o; followed = f }) (less_none m.left) (omega arith)
after_none false m = refl

fits_both : (o : Option ℕ) (g h : ℕ) → FitsIn o g → FitsIn (less o g) h → FitsIn o (g + h)
fits_both None g h a b = tt
fits_both (Some x) g h a b = omega arith

fits_rest : (o : Option ℕ) (g h c : ℕ) → g + h ≤ c → FitsIn o c → FitsIn (less o g) h
fits_rest None g h c le a = tt
fits_rest (Some x) g h c le a = omega arith

-- if g words were granted and h more can be, the limiter m affords g + h
pub affords_both : {charging : Bool} {m m' : Meter} {g r : ℕ} (h : ℕ) → Paid charging m m' g r → Affords charging m' h → Affords charging m (g + h)
affords_both {charging = true} {m} {m'} {g} {r} h a b = fits_both m.left g h a.covers (let e : m'.left ≡ less m.left g = ap (λ y. y.left) a.spent in rw e at b)
affords_both {charging = false} h a b = tt

pub paid_both : {charging : Bool} {m m' m'' : Meter} {g r h k : ℕ} → Paid charging m m' g r → Paid charging m' m'' h k → Paid charging m m'' (g + h) (r + k)
paid_both {charging} {m} {m'} {m''} {g} {r} {h} {k} a b = record {
  covers = affords_both h a b.covers;
  spent = b.spent ∙ ap (λ x. after_charge charging x h k) a.spent ∙ after_after charging m g r h k;
}

-- a limiter that affords c words affords h of them after g were granted, if g + h is at most c
pub affords_rest : {charging : Bool} {m m' : Meter} {g r : ℕ} (h c : ℕ) → Paid charging m m' g r → g + h ≤ c → Affords charging m c → Affords charging m' h
affords_rest {charging = true} {m} {m'} {g} {r} h c a le whole = let e : m'.left ≡ less m.left g = ap (λ y. y.left) a.spent in rw e (fits_rest m.left g h c le whole)
affords_rest {charging = false} h c a le whole = tt

pub affords_none : (charging : Bool) (m : Meter) → Affords charging m 0
affords_none true m = go m.left
  where
    go : (o : Option ℕ) → FitsIn o 0
    go None = tt
    go (Some x) = omega arith
affords_none false m = tt

-- what a reading of the object a paid: a's own words, and one pointer
pub paid_own : {r : Reading} {m m' : Meter} {a : Target} → Entered Value r m m' a → Paid r.charging m m' (own_charge Value r.segments a) 1
paid_own o = record { covers = o.covers; spent = o.spent }

pub paid_one : {form : Form} {r : Reading} {m m' : Meter} {t : Tree} (x : Reads form r m m' t) → Paid r.charging m m' x.cost (pointers_in t)
paid_one x = record { covers = x.covers; spent = x.spent }

pub paid_all : {form : Form} {r : Reading} {m m' : Meter} {ts : Trees} (x : ReadsAll form r m m' ts) → Paid r.charging m m' x.cost (pointers_in_all ts)
paid_all x = record { covers = x.covers; spent = x.spent }

pub paid_elements : {form : Form} {r : Reading} {size : StructSize} {m m' : Meter} {es : Elements} (x : ReadsElements form r size m m' es) → Paid r.charging m m' x.cost (pointers_in_elements es)
paid_elements x = record { covers = x.covers; spent = x.spent }

-- the place with these segments, levels and position; whether reading is charged doesn't matter
abbrev place : Segments → ℕ → ℕ → ℕ → Reading
place S n s p = record { segments = S; charging = false; of_default = false; levels = n; segment = s; at = p }

-- each pointer except the first is a word that is paid for
mutual
  pub pointers_within : (S : Segments) (n s p : ℕ) (t : Tree) (x : (c : ℕ) × Means S n s p t c) → pointers_in t ≤ x.0 + 1
  pointers_within S n s p Null (c, h) = omega arith
  pointers_within S n s p (Capability i) (c, h) = omega arith
  pointers_within S n s p (Struct ws ts) (c, (a, k, some, o, claim, e, all, g)) = omega (arith, pointers_within_all (place S (pred n) a.segment _) ts k all)
  pointers_within S n s p (Flat size ns) (c, h) = omega arith
  pointers_within S n s p (Pointers ts) (c, (a, k, some, o, claim, all, g)) = omega (arith, pointers_within_all (place S (pred n) a.segment _) ts k all)
  pointers_within S n s p (Structs d q es) (c, (a, m, k, some, o, claim, tag, fits, all, g)) =
      let few : element_count es * q ≤ element_count es * (d + q) = grind arith in
      omega (arith, pointers_within_elements (place S (pred n) a.segment _) (sized d q) es k all, few)

  pub pointers_within_all : (r : Reading) (ts : Trees) (c : ℕ) → MeansAll r.segments r.levels r.segment r.at ts c → pointers_in_all ts ≤ c + count ts
  pointers_within_all r no_trees c h = omega arith
  pointers_within_all r (tree t ts) c (k, l, one, rest, g) =
      omega (arith, pointers_within r.segments r.levels r.segment r.at t (k, one), pointers_within_all (place r.segments r.levels r.segment _) ts l rest)

  pub pointers_within_elements : (r : Reading) (size : StructSize) (es : Elements) (c : ℕ) → MeansElements r.segments r.levels r.segment r.at size.data_words size.pointers es c →
      pointers_in_elements es ≤ c + element_count es * size.pointers
  pointers_within_elements r size no_elements c h = omega arith
  pointers_within_elements r size (element ws ts es) c (k, l, long, len, e, all, rest, g) = omega (
    arith,
    pointers_within_all (place r.segments r.levels r.segment _) ts k all,
    pointers_within_elements (place r.segments r.levels r.segment _) size es l rest,
  )

-- the pointers of j elements are among their words, and those of one more element are among those
-- of all
pub fewer_than_words : (j d q : ℕ) → j * q ≤ j * (d + q)
fewer_than_words j d q = grind arith

pub one_element_more : (j i q : ℕ) → j < i → j * q + q ≤ i * q
one_element_more j i q lt = let up : suc j * q ≤ i * q = grind arith in omega (arith, up)
