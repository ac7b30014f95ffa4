-- At a place that means a value, the walk for a size counts the words and capabilities of that
-- value, or is refused; and it isn't refused within enough levels, within the budget, and if the
-- sums fit.
use Rattle.std.proofs.Common.{◌≡◌, inl, inr, ℕ, suc, pred, ◌+◌, ◌-◌, ◌*◌, ◌^◌, ◌<◌, ◌≤◌, Bool, max, true, false, nat_eq, Result, Ok, Err, length, refl, sym, ap, ap₂, ◌∙◌, subst, arith, add-zero, eq-eqb}
use Rattle.std.proofs.lemmas.Bool.{ne_eqb}
use Rattle.capnp_words.specs.declared.error.ErrorKind.{ErrorKind}
use Rattle.capnp_words.specs.declared.error.ErrorKind.TheVariants.{MessageTooLarge}
use Rattle.capnp_words.specs.declared.wire_pointer.StructSize.{StructSize}
use Rattle.capnp_words.specs.Meter.{Meter, Affords}
use Rattle.capnp_format.specs.Word.{kind, data_words, element_size, list_count, capability_word}
use Rattle.capnp_format.specs.Numbers.{words_for}
use Rattle.capnp_format.specs.Segments.{Target}
use Rattle.capnp_format.specs.Tree.{Tree, Null, Capability, Struct, Flat, Pointers, Structs, Trees, no_trees, tree, Elements, no_elements, element, count, element_count, depth, depth_all, depth_elements, capabilities, capabilities_all, capabilities_elements}
use Rattle.capnp_format.specs.Means.{MeansElements}
use Rattle.capnp_format.specs.Canonical.{word_count, word_count_all, word_count_elements}
use Rattle.capnp_pointers.specs.declared.object.Purpose.TheVariants.{Size}
use Rattle.capnp_pointers.specs.Demands.{claimed_words, own_charge, tag, element_words, Meets}
use Rattle.capnp_pointers.specs.Enter.{Shape, read, shape}
use Rattle.capnp_pointers.specs.Faults.{LeadsTo, child_at}
use Rattle.capnp_pointers.specs.Metered.{Metered, onward}
use Rattle.capnp_pointers.specs.Outcomes.{Entered, MeansThere}
use Rattle.capnp_pointers.specs.Reading.{Reading, place_past}
use Rattle.capnp_words.specs.Sizes.{sized}
use Rattle.capnp_pointers.specs.Refusals.{CanBeRead}
use Rattle.capnp_pointers.specs.Spending.{Paid, after_charge, pointers_in, pointers_in_all, pointers_in_elements}
use Rattle.capnp_pointers.proofs.Budget.PaidAndLeft.{affords_rest, paid_both}
use Rattle.capnp_pointers.proofs.OneObject.ReadAsStated.{entering_is}
use Rattle.capnp_pointers.proofs.Decided.{within_or_not}
use Rattle.capnp_pointers.proofs.Following.FaultlessWhereMeant.{one_target}
use Rattle.capnp_pointers.proofs.Following.LeadsWhereFollowed.{entered_leads, leads_to, leads_there}
use Rattle.capnp_pointers.proofs.OneObject.ReadInOneWay.{Told, can_not, null_told, capability_told, object_told, refusal_told, told}
use Rattle.capnp_pointers.proofs.Sizes.WordsPaid.{paid_words}
use Rattle.capnp_pointers.proofs.OneObject.PartsMeant.{claim_struct, claim_list, claim_flat, charge_of_size}
use Rattle.capnp_pointers.proofs.WholeValue.UnreadableIfRefused.{affords_less}
use Rattle.capnp_pointers.proofs.WholeValue.Shorthands.{MeanThere, ElementsMean}
use Rattle.capnp_pointers.proofs.WholeValue.ObjectsRefused.{same_word}
use Rattle.capnp_pointers.proofs.WholeValue.WordsAdded.{paid_none}
use Rattle.capnp_pointers.specs.declared.pointers.sizes.MessageSize.{MessageSize}
use Rattle.capnp_pointers.specs.Measure.{FitSize, add_size, measure, measure_elements, measure_pointers, only_words, shape_size}
use Rattle.capnp_pointers.specs.ValueSize.{value_size}
use Rattle.capnp_pointers.proofs.Sizes.MeasuredBySteps.{added, capabilities_over, children, measure_err, null_added, object_is, words_over}

-- The place with n levels.
abbrev pub at_levels : Reading → ℕ → Reading
at_levels r n = record r { levels = n }

abbrev pub Fits : MessageSize → Type 0
Fits z = FitSize z.word_count z.cap_count

-- What there is to count at a place: words, capabilities, the cost of reading it, the pointers that
-- are followed, and the levels below the place.
pub record Extent : Type 0 where
  pub words : ℕ
  pub caps : ℕ
  pub cost : ℕ
  pub pointers : ℕ
  pub depth : ℕ

abbrev pub of_tree : Tree → ℕ → Extent
of_tree t c = record { words = word_count t; caps = capabilities t; cost = c; pointers = pointers_in t; depth = depth t }

abbrev pub of_trees : Trees → ℕ → Extent
of_trees ts c = record { words = word_count_all ts; caps = capabilities_all ts; cost = c; pointers = pointers_in_all ts; depth = depth_all ts }

abbrev pub of_elements : Elements → ℕ → Extent
of_elements es c = record { words = word_count_elements es; caps = capabilities_elements es; cost = c; pointers = pointers_in_elements es; depth = depth_elements es }

abbrev both : Extent → Extent → Extent
both a b = record { words = a.words + b.words; caps = a.caps + b.caps; cost = a.cost + b.cost; pointers = a.pointers + b.pointers; depth = max a.depth b.depth }

-- The walk adds e: from z and m to y and m', at no greater cost.
pub record AddsExtent (charging : Bool) (z y : MessageSize) (m m' : Meter) (e : Extent) : Type 0 where
  pub fits : Fits y
  pub words : y.word_count ≡ z.word_count + e.words
  pub caps : y.cap_count ≡ z.cap_count + e.caps
  pub cost : ℕ
  pub within : cost ≤ e.cost
  pub paid : Paid charging m m' cost e.pointers

-- The walk from the place r ends so or is refused; it isn't refused if the levels, the budget and the
-- size are large enough.
abbrev pub Counts : Reading → MessageSize → Meter → Extent → Result MessageSize ErrorKind × Meter → Type 0
Counts r z m e (Ok y, m') = AddsExtent r.charging z y m m' e
Counts r z m e (Err k, m') = e.depth < r.levels → Affords r.charging m e.cost → FitSize (z.word_count + e.words) (z.cap_count + e.caps) → ⊥

counts_none : (r : Reading) (z : MessageSize) (m : Meter) (c : ℕ) → Fits z → Counts r z m (of_trees no_trees c) (Ok z, m)
counts_none r z m c fits = record { fits = fits; words = sym (add-zero _); caps = sym (add-zero _); cost = 0; within = omega arith; paid = paid_none r m }

-- One walk after the other.
counts_both : (r : Reading) (z : MessageSize) (m : Meter) (a b : Extent) (f : MessageSize → Metered MessageSize) (o : Result MessageSize ErrorKind × Meter) → Counts r z m a o →
    ((y : MessageSize) (m1 : Meter) → Fits y → Counts r y m1 b (f y m1)) → Counts r z m (both a b) (onward f o)
counts_both r z m a b f (Err k, m1) first next = λ deep covers fits. first (omega (arith, deep)) (affords_less r.charging m a.cost (a.cost + b.cost) (omega arith) covers) (omega (arith, fits.0), omega (arith, fits.1))
counts_both r z m a b f (Ok y, m1) first next = go (f y m1) (next y m1 first.fits)
  where
    go : (o : Result MessageSize ErrorKind × Meter) → Counts r y m1 b o → Counts r z m (both a b) o
    go (Ok x, m2) second = record {
      fits = second.fits;
      words = omega (arith, first.words, second.words);
      caps = omega (arith, first.caps, second.caps);
      cost = first.cost + second.cost;
      within = omega (arith, first.within, second.within);
      paid = paid_both first.paid second.paid;
    }
    go (Err k, m2) second = λ deep covers fits. second (omega (arith, deep)) (affords_rest b.cost (a.cost + b.cost) first.paid (omega (arith, first.within)) covers) (omega (arith, fits.0, first.words), omega (arith, fits.1, first.caps))

-- A sum fits or doesn't.
abbrev plus : MessageSize → MessageSize → MessageSize
plus z y = record { word_count = z.word_count + y.word_count; cap_count = z.cap_count + y.cap_count }

by_sum : (P : Result MessageSize ErrorKind × Meter → Type 0) (f : MessageSize → Metered MessageSize) (y z : MessageSize) (m : Meter) → (Fits (plus z y) → P (f (plus z y) m)) → ((Fits (plus z y) → ⊥) → P (Err (MessageTooLarge (2 ^ 64 - 1)), m)) →
    P (onward f (add_size y z m))
by_sum P f y z m good bad = elim (within_or_not (2 ^ 64) (z.word_count + y.word_count)) [
  | inl over ↦ rw (words_over y z m (λ lt. omega (arith, over, lt))) (bad (λ fits. omega (arith, over, fits.0)))
  | inr less ↦ elim (within_or_not (2 ^ 32) (z.cap_count + y.cap_count)) [
    | inl over ↦ rw (capabilities_over y z m less (λ lt. omega (arith, over, lt))) (bad (λ fits. omega (arith, over, fits.1)))
    | inr few ↦ rw (added y z (plus z y) m refl refl (less, few)) (good (less, few))
  ]
]

-- The object a that the pointer at r leads to has w words of its own, and children of extent b.
record IsThere (r : Reading) (m : Meter) (a : Target) (e b : Extent) (w : ℕ) : Type 0 where
  leads : LeadsTo r a
  is_object : kind a.word < 2
  can : 0 < r.levels → Affords r.charging m e.cost → CanBeRead Size r m
  own : shape_size (shape r.segments a) ≡ only_words w
  words : e.words ≡ w + b.words
  caps : e.caps ≡ b.caps
  cost : a.pads + claimed_words a.word + b.cost ≤ e.cost
  pointers : e.pointers ≡ 1 + b.pointers
  depth : e.depth ≡ 1 + b.depth

object_counts : (r : Reading) (z : MessageSize) (m : Meter) (a : Target) (e b : Extent) (w : ℕ) → IsThere r m a e b w → Fits z →
    ((y : MessageSize) (m1 : Meter) → Fits y → Counts (at_levels r (pred r.levels)) y m1 b (children r (shape r.segments a) y m1)) → Counts r z m e (measure r z m)
object_counts r z m a e b w h fits next = go (read Size r m) refl (told r m)
  where
    fewer : e.depth < r.levels → b.depth < pred r.levels
    fewer deep = omega (arith, deep, h.depth)

    below : (m1 : Meter) → Entered Size r m m1 a → (o : Result MessageSize ErrorKind × Meter) → Counts (at_levels r (pred r.levels)) (plus z (only_words w)) m1 b o → Counts r z m e o
    below m1 o (Ok x, m2) rest = record {
      fits = rest.fits;
      words = omega (arith, rest.words, h.words);
      caps = omega (arith, rest.caps, h.caps);
      cost = a.pads + claimed_words a.word + rest.cost;
      within = omega (arith, rest.within, h.cost);
      paid = subst (Paid r.charging m m2 (a.pads + claimed_words a.word + rest.cost)) (sym h.pointers) (paid_both (paid_words o) rest.paid);
    }
    below m1 o (Err k, m2) rest = λ deep covers all. rest (fewer deep) (affords_rest b.cost e.cost (paid_words o) h.cost covers) (omega (arith, all.0, h.words), omega (arith, all.1, h.caps))

    entered : (m1 : Meter) → Entered Size r m m1 a → Counts r z m e (measure r z m)
    entered m1 o =
        let added : Counts r z m e (onward (children r (shape r.segments a)) (add_size (only_words w) z m1)) =
        by_sum (Counts r z m e) (children r (shape r.segments a)) (only_words w) z m1
        (λ more. below m1 o (children r (shape r.segments a) (plus z (only_words w)) m1) (next (plus z (only_words w)) m1 more))
        (λ over deep covers all. over (omega (arith, all.0, h.words), omega (arith, all.1))) in
        subst (Counts r z m e) (sym (object_is r.levels r z m m1 (shape r.segments a) fits (entering_is Size r m m1 a o) ∙ ap (λ y. onward (children r (shape r.segments a)) (add_size y z m1)) h.own)) added

    go : (x : Result Shape ErrorKind × Meter) → read Size r m ≡ x → Told r m x → Counts r z m e (measure r z m)
    go x q (null_told none) = absurd (h.leads.0 none)
    go x q (capability_told t level f low covered) = absurd (omega (arith, h.is_object, same_word r a t h.leads (leads_there r t f (λ far. omega (arith, far, low))), low))
    go x q (object_told t m1 o) = entered m1 (subst (λ y. Entered Size r m m1 y) (one_target r t a (entered_leads o) h.leads) o)
    go x q (refusal_told k m1 refusal) = rw (measure_err r z m m1 k q) (λ deep covers all. can_not (h.can (omega (arith, deep, h.depth)) covers) refusal)

can_follow : (r : Reading) (m : Meter) (i : ℕ) (a : Target) → LeadsTo r a → a.word ≡ capability_word i → 0 < r.levels → Affords r.charging m a.pads → CanBeRead Size r m
unfolding CanBeRead
can_follow r m i a leads is level covers = inr (inl (a, (leads_to r a leads, level), omega (arith, is), covers))

capability_counts : (r : Reading) (z : MessageSize) (m : Meter) (i : ℕ) (a : Target) → Fits z → LeadsTo r a → a.word ≡ capability_word i → Counts r z m (of_tree (Capability i) a.pads) (measure r z m)
capability_counts r z m i a fits leads is = go (read Size r m) refl (told r m)
  where
    three : kind a.word ≡ 3
    three = omega (arith, is)

    go : (x : Result Shape ErrorKind × Meter) → read Size r m ≡ x → Told r m x → Counts r z m (of_tree (Capability i) a.pads) (measure r z m)
    go x q (null_told none) = absurd (leads.0 none)
    go x q (object_told t m1 o) = absurd (omega (arith, o.meets.is_object, same_word r a t leads (entered_leads o), three))
    go x q (refusal_told k m1 refusal) = rw (measure_err r z m m1 k q) (λ deep covers all. can_not (can_follow r m i a leads is deep covers) refusal)
    go x q (capability_told t level f low covered) =
        let pads : t.pads ≡ a.pads = ap (λ y. y.pads) (one_target r t a (leads_there r t f (λ far. omega (arith, far, low))) leads) in
        rw (object_is r.levels r z m _ _ fits q)
        (by_sum (Counts r z m (of_tree (Capability i) a.pads)) (λ y m1. (Ok y, m1)) (record { word_count = 0; cap_count = 1 }) z (after_charge r.charging m t.pads 1)
        (λ more. record { fits = more; words = refl; caps = refl; cost = t.pads; within = omega (arith, pads); paid = record { covers = covered; spent = refl } })
        (λ over deep covers all. over all))

-- An object that meets its demands, and whose words the limiter covers, can be read.
can_enter : (r : Reading) (m : Meter) (a : Target) (c : ℕ) → LeadsTo r a → Meets Size r.segments r.levels a → a.pads + claimed_words a.word ≤ c → Affords r.charging m c → CanBeRead Size r m
unfolding CanBeRead
can_enter r m a c leads meets le covers = inr (inr (a, leads_to r a leads, meets, affords_less r.charging m (own_charge Size r.segments a) c (omega (arith, charge_of_size r.segments a, le)) covers))

-- What a place means, the walk counts: one value, consecutive ones, and those of elements. The value
-- is one within n levels.
mutual
  pub value_counts : (r : Reading) (n : ℕ) (t : Tree) (x : (c : ℕ) × MeansThere (at_levels r n) t c) (z : MessageSize) (m : Meter) → Fits z → Counts r z m (of_tree t x.0) (measure r z m)
  value_counts r n Null (c, h) z m fits = rw (null_added r z m fits h.0) (counts_none r z m c fits)
  value_counts r n (Capability i) (c, (a, l, e, g)) z m fits = subst (λ x. Counts r z m (of_tree (Capability i) x) (measure r z m)) (sym g) (capability_counts r z m i a fits l e)
  value_counts r n (Struct ws ts) (c, (a, k, some, o, claims, e, all, g)) z m fits =
      let claimed = claim_struct a.word o.is_struct in
      let is : nat_eq (kind a.word) 0 ≡ true = eq-eqb _ _ o.is_struct in
      let meets : 0 < r.levels → Meets Size r.segments r.levels a = λ level. record { levels = level; is_object = omega (arith, o.is_struct); claims = λ v. omega (arith, claims, claimed, o.data_of, o.pointers); tagged = λ v. absurd (omega (arith, o.is_struct, v.0)) } in
      let cost : a.pads + claimed_words a.word + k ≤ c = omega (arith, claimed, o.data_of, o.pointers, g) in
      object_counts r z m a (of_tree (Struct ws ts) c) (of_trees ts k) (length ws + count ts)
      (record {
        leads = o.leads_to;
        is_object = omega (arith, o.is_struct);
        can = λ level covers. can_enter r m a c o.leads_to (meets level) (omega (arith, cost)) covers;
        own = rw (is, o.data_of, o.pointers) refl;
        words = refl;
        caps = refl;
        cost = cost;
        pointers = refl;
        depth = refl;
      })
      fits (λ y m1 more. rw (is, o.data_of, o.pointers) (all_count (child_at r a (pred r.levels) (a.start + length ws)) (pred n) ts (k, all) y m1 more))
  value_counts r n (Flat size ns) (c, (a, some, small, o, claims, e, g)) z m fits =
      let claimed : claimed_words a.word ≡ words_for size (length ns) = claim_list a.word size o.is_list o.is_size ∙ claim_flat size (list_count a.word) small ∙ ap (words_for size) o.counts in
      let list : nat_eq (kind a.word) 0 ≡ false = ne_eqb _ _ (λ q. omega (arith, q, o.is_list)) in
      let not_seven : nat_eq (element_size a.word) 7 ≡ false = ne_eqb _ _ (λ q. omega (arith, q, o.is_size, small)) in
      let not_six : nat_eq (element_size a.word) 6 ≡ false = ne_eqb _ _ (λ q. omega (arith, q, o.is_size, small)) in
      let meets : 0 < r.levels → Meets Size r.segments r.levels a = λ level. record { levels = level; is_object = omega (arith, o.is_list); claims = λ v. omega (arith, claims, claimed); tagged = λ v. absurd (omega (arith, v.1, o.is_size, small)) } in
      let cost : a.pads + claimed_words a.word + 0 ≤ c = omega (arith, claimed, g) in
      object_counts r z m a (of_tree (Flat size ns) c) (of_trees no_trees 0) (words_for size (length ns))
      (record {
        leads = o.leads_to;
        is_object = omega (arith, o.is_list);
        can = λ level covers. can_enter r m a c o.leads_to (meets level) (omega (arith, cost)) covers;
        own = rw (list, not_seven, not_six, o.is_size, o.counts) refl;
        words = sym (add-zero _);
        caps = refl;
        cost = cost;
        pointers = refl;
        depth = refl;
      })
      fits (λ y m1 more. rw (list, not_seven, not_six) (counts_none (at_levels r (pred r.levels)) y m1 0 more))
  value_counts r n (Pointers ts) (c, (a, k, some, o, claims, all, g)) z m fits =
      let claimed = claim_list a.word 6 o.is_list o.is_size in
      let list : nat_eq (kind a.word) 0 ≡ false = ne_eqb _ _ (λ q. omega (arith, q, o.is_list)) in
      let not_seven : nat_eq (element_size a.word) 7 ≡ false = ne_eqb _ _ (λ q. omega (arith, q, o.is_size)) in
      let is_six : nat_eq (element_size a.word) 6 ≡ true = eq-eqb _ _ o.is_size in
      let meets : 0 < r.levels → Meets Size r.segments r.levels a = λ level. record { levels = level; is_object = omega (arith, o.is_list); claims = λ v. omega (arith, claims, claimed, o.counts); tagged = λ v. absurd (omega (arith, v.1, o.is_size)) } in
      let cost : a.pads + claimed_words a.word + k ≤ c = omega (arith, claimed, o.counts, g) in
      object_counts r z m a (of_tree (Pointers ts) c) (of_trees ts k) (count ts)
      (record {
        leads = o.leads_to;
        is_object = omega (arith, o.is_list);
        can = λ level covers. can_enter r m a c o.leads_to (meets level) (omega (arith, cost)) covers;
        own = rw (list, not_seven, is_six, o.counts) refl;
        words = refl;
        caps = refl;
        cost = cost;
        pointers = refl;
        depth = refl;
      })
      fits (λ y m1 more. rw (list, not_seven, is_six, o.counts) (all_count (child_at r a (pred r.levels) a.start) (pred n) ts (k, all) y m1 more))
  value_counts r n (Structs d q es) (c, (a, i, k, some, o, claims, t, room, all, g)) z m fits =
      let claimed = claim_list a.word 7 o.is_list o.is_size in
      let list : nat_eq (kind a.word) 0 ≡ false = ne_eqb _ _ (λ q. omega (arith, q, o.is_list)) in
      let is_seven : nat_eq (element_size a.word) 7 ≡ true = eq-eqb _ _ o.is_size in
      let words : element_words (tag r.segments a) ≤ list_count a.word = rw (t.counts, t.data_of, t.pointers, o.counts) room in
      let meets : 0 < r.levels → Meets Size r.segments r.levels a = λ level. record { levels = level; is_object = omega (arith, o.is_list); claims = λ v. omega (arith, claims, claimed, o.counts); tagged = λ v. (t.is_struct, words) } in
      let cost : a.pads + claimed_words a.word + k ≤ c = omega (arith, claimed, o.counts, g) in
      object_counts r z m a (of_tree (Structs d q es) c) (of_elements es k) (1 + element_count es * (d + q))
      (record {
        leads = o.leads_to;
        is_object = omega (arith, o.is_list);
        can = λ level covers. can_enter r m a c o.leads_to (meets level) (omega (arith, cost)) covers;
        own = rw (list, is_seven, t.data_of, t.pointers, t.counts) refl;
        words = refl;
        caps = refl;
        cost = cost;
        pointers = refl;
        depth = refl;
      })
      fits (λ y m1 more. rw (list, is_seven, t.data_of, t.pointers, t.counts) (elements_count (child_at r a (pred r.levels) (a.start + 1)) (sized d q) (pred n) es (k, all) y m1 more))

  all_count : (r : Reading) (n : ℕ) (ts : Trees) (x : (c : ℕ) × MeanThere (at_levels r n) ts c) (z : MessageSize) (m : Meter) → Fits z → Counts r z m (of_trees ts x.0) (measure_pointers (count ts) r z m)
  all_count r n no_trees (c, h) z m fits = counts_none r z m c fits
  all_count r n (tree t ts) (c, (a, b, one, rest, g)) z m fits =
      subst (λ x. Counts r z m (of_trees (tree t ts) x) (measure_pointers (suc (count ts)) r z m)) (sym g)
      (counts_both r z m (of_tree t a) (of_trees ts b) (measure_pointers (count ts) (place_past r 1)) (measure r z m) (value_counts r n t (a, one) z m fits) (λ y m1 more. all_count (place_past r 1) n ts (b, rest) y m1 more))

  elements_count : (r : Reading) (size : StructSize) (n : ℕ) (es : Elements) (x : (c : ℕ) × ElementsMean (at_levels r n) size es c) (z : MessageSize) (m : Meter) → Fits z →
      Counts r z m (of_elements es x.0) (measure_elements size.data_words size.pointers (element_count es) r z m)
  elements_count r size n no_elements (c, h) z m fits = counts_none r z m c fits
  elements_count r size n (element ws ts es) (c, (a, b, long, many, has, first, rest, g)) z m fits =
      let d : ℕ = size.data_words in
      let q : ℕ = size.pointers in
      let there : MeansElements r.segments n r.segment (r.at + (d + q)) d q es b = subst (λ p. MeansElements r.segments n r.segment p d q es b) (let e : r.at + d + q ≡ r.at + (d + q) = omega arith in e) rest in
      let one : Counts r z m (of_trees ts a) (measure_pointers q (place_past r d) z m) = subst (λ i. Counts r z m (of_trees ts a) (measure_pointers i (place_past r d) z m)) many (all_count (place_past r d) n ts (a, first) z m fits) in
      subst (λ x. Counts r z m (of_elements (element ws ts es) x) (measure_elements d q (suc (element_count es)) r z m)) (sym g)
      (counts_both r z m (of_trees ts a) (of_elements es b) (measure_elements d q (element_count es) (place_past r (d + q))) (measure_pointers q (place_past r d) z m) one (λ y m1 more. elements_count (place_past r (d + q)) size n es (b, there) y m1 more))

-- What follows for the size of a value at a place.
is_value_size : (z : MessageSize) (t : Tree) → z.word_count ≡ word_count t → z.cap_count ≡ capabilities t → z ≡ value_size t
is_value_size z t words caps = ap₂ (λ i j. record { word_count = i; cap_count = j }) words caps

pub size_is : (r : Reading) (n : ℕ) (m m' : Meter) (z : MessageSize) (t : Tree) (c : ℕ) → measure r (only_words 0) m ≡ (Ok z, m') → MeansThere (at_levels r n) t c → z ≡ value_size t
size_is r n m m' z t c e means =
    let there : AddsExtent r.charging (only_words 0) z m m' (of_tree t c) = subst (Counts r (only_words 0) m (of_tree t c)) e (value_counts r n t (c, means) (only_words 0) m (omega arith, omega arith)) in
    is_value_size z t (omega (arith, there.words)) (omega (arith, there.caps))

pub has_size : (r : Reading) (n : ℕ) (m : Meter) (t : Tree) (c : ℕ) → MeansThere (at_levels r n) t c → depth t < r.levels → Affords r.charging m c → FitSize (word_count t) (capabilities t) →
    (k : ℕ) × (k ≤ c) × (measure r (only_words 0) m ≡ (Ok (value_size t), after_charge r.charging m k (pointers_in t)))
has_size r n m t c means deep covers fits = go (measure r (only_words 0) m) refl (value_counts r n t (c, means) (only_words 0) m (omega arith, omega arith))
  where
    go : (o : Result MessageSize ErrorKind × Meter) → measure r (only_words 0) m ≡ o → Counts r (only_words 0) m (of_tree t c) o → (k : ℕ) × (k ≤ c) × (measure r (only_words 0) m ≡ (Ok (value_size t), after_charge r.charging m k (pointers_in t)))
    go (Ok y, m') e there = (there.cost, there.within, e ∙ ap₂ (λ z x. (Ok z, x)) (is_value_size y t (omega (arith, there.words)) (omega (arith, there.caps))) there.paid.spent)
    go (Err k, m') e never = absurd (never deep covers (omega (arith, fits.0), omega (arith, fits.1)))
