-- Children and words that are used, according to the words of the source; and the Nulls after them.
use Rattle.std.proofs.Common.{◌≡◌, ℕ, zero, suc, ◌+◌, ◌-◌, ◌<◌, ◌≤◌, max, true, nat_eq, List, [], ◌∷◌, length, get_or, take, refl, sym, ap, ap₂, ◌∙◌, subst, arith, eqb-true}
use Rattle.capnp_format.specs.Segments.{Segments, segment, word_at}
use Rattle.capnp_format.specs.Tree.{Tree, Null, Capability, Struct, Flat, Pointers, Structs, Trees, no_trees, tree, Elements, no_elements, element, count, capabilities_all}
use Rattle.capnp_format.specs.Means.{MeansAll}
use Rattle.capnp_format.specs.Canonical.{used_from, used_words, is_null, used_trees, take_trees, data_width, pointer_width, trim, trim_each, trim_elements, cut_to}
use Rattle.capnp_words.specs.Meter.{Meter}
use Rattle.capnp_format.proofs.Trimming.{used_from-rest, used_from-past, trim_each-take}
use Rattle.capnp_format.proofs.Appending.{append_trees, count-append, means_joined}
use Rattle.capnp_allocation.specs.Made.{nulls}
use Rattle.capnp_allocation.proofs.Placed.{count-nulls, nulls_mean}
use Rattle.capnp_copies.proofs.LeastWidths.{used_where_meant}
use Rattle.capnp_pointers.specs.Spending.{after_charge, pointers_in_all}
use Rattle.capnp_pointers.specs.Outcomes.{MeansThere, ReadsAll}
use Rattle.capnp_pointers.specs.Reading.{Reading, place_past, segment_read, words_from}
use Rattle.capnp_pointers.specs.Wanted.{canonical}
use Rattle.capnp_pointers.proofs.WholeValue.Shorthands.{MeanThere}
use Rattle.capnp_format.proofs.Slices.{word_in_part}

-- Nothing is used after the used words.
pub behind_used : (xs : List ℕ) (i : ℕ) → used_words xs ≤ i → get_or xs i 0 ≡ 0
behind_used [] i l = refl
behind_used (x ∷ xs) zero l = eqb-true x 0 (used_from-past (nat_eq x 0) (used_words xs) l).0
behind_used (x ∷ xs) (suc i) l = behind_used xs i (used_from-rest (nat_eq x 0) (used_words xs) i l)

pub null_behind : (r : Reading) (n i : ℕ) → used_words (words_from r n) ≤ i → i < n → word_at r.segments r.segment (r.at + i) ≡ 0
null_behind r n i u l = sym (word_in_part r.segments r.segment r.at n i l) ∙ behind_used (words_from r n) i u

-- The number of children that are used is that of the words used among their pointers.
pub used_children : {q : ℕ} (r : Reading) (ts : Trees) (c : ℕ) → r.at + q ≤ length (segment_read r) → count ts ≡ q → MeanThere r ts c → used_trees ts ≡ used_words (words_from r q)
used_children r ts c l len all = sym (used_where_meant r ts c (omega (arith, len)) all) ∙ ap (λ i. used_words (words_from r i)) len

-- Trimming the children first doesn't change a width.

is_null-trim : (t : Tree) → is_null (trim t) ≡ is_null t
is_null-trim Null = refl
is_null-trim (Capability i) = refl
is_null-trim (Struct ws ts) = refl
is_null-trim (Flat size ns) = refl
is_null-trim (Pointers ts) = refl
is_null-trim (Structs d q es) = refl

pub used_trees-trim : (ts : Trees) → used_trees (trim_each ts) ≡ used_trees ts
used_trees-trim no_trees = refl
used_trees-trim (tree t ts) = ap₂ used_from (is_null-trim t) (used_trees-trim ts)

data_width-trim : (es : Elements) → data_width (trim_elements es) ≡ data_width es
data_width-trim no_elements = refl
data_width-trim (element ws ts es) = ap (max (used_words ws)) (data_width-trim es)

pointer_width-trim : (es : Elements) → pointer_width (trim_elements es) ≡ pointer_width es
pointer_width-trim no_elements = refl
pointer_width-trim (element ws ts es) = ap₂ max (used_trees-trim ts) (pointer_width-trim es)

-- What is copied of a struct and of a list of structs, with widths from the words of the source.
pub trim-struct : (ws : List ℕ) (ts : Trees) → trim (Struct ws ts) ≡ Struct (take (used_words ws) ws) (trim_each (take_trees (used_trees ts) ts))
trim-struct ws ts =
    ap (λ n. Struct (take (used_words ws) ws) (take_trees n (trim_each ts))) (used_trees-trim ts) ∙ ap (Struct (take (used_words ws) ws)) (sym (trim_each-take (used_trees ts) ts))

pub trim-structs : (d q : ℕ) (es : Elements) → trim (Structs d q es) ≡ Structs (data_width es) (pointer_width es) (cut_to (data_width es) (pointer_width es) (trim_elements es))
trim-structs d q es = ap₂ (λ i j. Structs i j (cut_to i j (trim_elements es))) (data_width-trim es) (pointer_width-trim es)

pub take_trees-trim : (n : ℕ) (ts : Trees) → take_trees n (trim_each ts) ≡ trim_each (take_trees n ts)
take_trees-trim n ts = sym (trim_each-take n ts)

-- Nulls at the end.

null_costs : (r : Reading) (t : Tree) (c : ℕ) → is_null t ≡ true → MeansThere r t c → c ≡ 0
null_costs r Null c e h = h.1
null_costs r (Capability i) c e h = absurd (cc e)
null_costs r (Struct ws ts) c e h = absurd (cc e)
null_costs r (Flat size ns) c e h = absurd (cc e)
null_costs r (Pointers ts) c e h = absurd (cc e)
null_costs r (Structs d q es) c e h = absurd (cc e)

nulls_cost : (r : Reading) (ts : Trees) (c : ℕ) → used_trees ts ≤ 0 → MeanThere r ts c → c ≡ 0
nulls_cost r no_trees c l h = h
nulls_cost r (tree t ts) c l (k, m, one, rest, g) =
    let e = used_from-past (is_null t) (used_trees ts) l in
    omega (arith, null_costs r t k e.0 one, nulls_cost (place_past r 1) ts m (omega (arith, e.1)) rest)

-- Reading only the used children costs as much as reading all of them.
pub means_taken : (r : Reading) (ts : Trees) (c m : ℕ) → used_trees ts ≤ m → MeanThere r ts c → MeanThere r (take_trees m ts) c
means_taken r ts c zero l h = nulls_cost r ts c l h
means_taken r no_trees c (suc m) l h = h
means_taken r (tree t ts) c (suc m) l (a, b, one, rest, g) = (a, b, one, means_taken (place_past r 1) ts b m (used_from-rest (is_null t) (used_trees ts) m l) rest, g)

capabilities-nulls : (ts : Trees) (r : ℕ) → capabilities_all (append_trees ts (nulls r)) ≡ capabilities_all ts
capabilities-nulls no_trees zero = refl
capabilities-nulls no_trees (suc r) = omega (arith, capabilities-nulls no_trees r)
capabilities-nulls (tree t ts) r = omega (arith, capabilities-nulls ts r)

pointers_in-nulls : (ts : Trees) (r : ℕ) → pointers_in_all (append_trees ts (nulls r)) ≡ pointers_in_all ts
pointers_in-nulls no_trees zero = refl
pointers_in-nulls no_trees (suc r) = omega (arith, pointers_in-nulls no_trees r)
pointers_in-nulls (tree t ts) r = omega (arith, pointers_in-nulls ts r)

take_first : (ts us : Trees) → take_trees (count ts) (append_trees ts us) ≡ ts
take_first no_trees us = refl
take_first (tree t ts) us = ap (tree t) (take_first ts us)

-- q children: the first ones ts are read, at a cost of n words and k pointers, and the others are
-- Null.
pub record Filled (r : Reading) (q : ℕ) (m m' : Meter) (ts : Trees) (n k : ℕ) : Type 0 where
  pub all : Trees
  pub counts : count all ≡ q
  pub are_read : ReadsAll canonical r m m' all
  pub first : take_trees (count ts) all ≡ ts
  pub costs : are_read.cost ≡ n
  pub follows : pointers_in_all all ≡ k

pub fill_nulls : {r : Reading} {m m' : Meter} {ts : Trees} (q : ℕ) (read : ReadsAll canonical r m m' ts) → count ts ≤ q → ((i : ℕ) → count ts ≤ i → i < q → word_at r.segments r.segment (r.at + i) ≡ 0) → Filled r q m m' ts read.cost (pointers_in_all ts)
fill_nulls {r} {m} {m'} {ts} q read l z =
    let S : Segments = r.segments in
    let s : ℕ = r.segment in
    let p : ℕ = r.at in
    let rest = q - count ts in
    let none = nulls_mean S r.levels s (p + count ts) rest (λ j from below. ap (word_at S s) (let f : j ≡ p + (j - p) = omega (arith, from) in f) ∙ z (j - p) (omega (arith, from)) (omega (arith, from, below))) in
    record {
      all = append_trees ts (nulls rest);
      counts = omega (arith, count-append ts (nulls rest), count-nulls rest);
      are_read = record {
        cost = read.cost;
        means = subst (λ c. MeansAll S r.levels s p (append_trees ts (nulls rest)) c) (let f : read.cost + 0 ≡ read.cost = omega arith in f) (means_joined S r.levels s p ts (nulls rest) read.cost 0 read.means none);
        takes = λ t. capabilities-nulls ts rest ∙ read.takes t;
        covers = read.covers;
        spent = read.spent ∙ ap (after_charge r.charging m read.cost) (sym (pointers_in-nulls ts rest));
      };
      first = take_first ts (nulls rest);
      costs = refl;
      follows = pointers_in-nulls ts rest;
    }
