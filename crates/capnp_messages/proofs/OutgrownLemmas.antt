-- If reading comes to an object without room for its copy, the function `fit` is refused for room.
use Rattle.std.proofs.Common.{◌≡◌, ◌⊎◌, inl, inr, ℕ, zero, suc, pred, ◌+◌, ◌*◌, ◌<◌, ◌≤◌, true, false, nat_eq, Ok, Err, refl, sym, ap, ap₂, ◌∙◌, subst, arith, eq-eqb, add-zero, List}
use Rattle.std.proofs.lemmas.Bool.{ne_eqb, cases_lt}
use Rattle.capnp_words.specs.declared.error.ErrorKind.TheVariants.{MessageTooLarge}
use Rattle.capnp_words.specs.declared.wire_pointer.StructSize.{StructSize}
use Rattle.capnp_words.specs.Meter.{Meter}
use Rattle.capnp_format.specs.Word.{kind, data_words, pointer_count, element_size, list_count, offset_bits}
use Rattle.capnp_format.specs.Segments.{Target}
use Rattle.capnp_format.specs.Tree.{Tree, Trees, no_trees, tree, Elements, no_elements, element, count, element_count}
use Rattle.capnp_format.specs.Means.{MeansElements}
use Rattle.capnp_format.proofs.Levels.{one_value}
use Rattle.capnp_pointers.specs.declared.object.Purpose.TheVariants.{Value}
use Rattle.capnp_pointers.specs.Demands.{own_charge, tag}
use Rattle.capnp_pointers.specs.Enter.{shape}
use Rattle.capnp_pointers.specs.Faults.{child_at}
use Rattle.capnp_pointers.specs.Measure.{fold_children, fold_elements, fold_pointers}
use Rattle.capnp_pointers.specs.Metered.{Metered, onward}
use Rattle.capnp_pointers.specs.Outcomes.{Entered, Reads, ReadsAll, ReadsElements}
use Rattle.capnp_pointers.specs.Reading.{Reading, place_past, tag_size}
use Rattle.capnp_pointers.specs.Refusals.{GoesBefore, in_struct, in_pointers, in_element, StopsWithin, here, below}
use Rattle.capnp_pointers.specs.Spending.{after_charge, pointers_in, pointers_in_all, pointers_in_elements}
use Rattle.capnp_pointers.specs.Wanted.{canonical}
use Rattle.capnp_pointers.proofs.Budget.PaidAndLeft.{after_after, after_none, affords_rest, paid_all}
use Rattle.capnp_pointers.proofs.WholeValue.RefusalsNamed.{not_for_size}
use Rattle.capnp_pointers.proofs.WholeValue.UnreadableIfRefused.{unreadable, affords_less}
use Rattle.capnp_copies.specs.Costs.{spent_before, spent_until}
use Rattle.capnp_messages.specs.Fitting.{fit_within, made_words}
use Rattle.capnp_messages.proofs.EndValueLemmas.{nothing_read, split}
use Rattle.capnp_messages.proofs.FittingLemmas.{Fits, Outcome, fit, entered_fits, entered_outgrows, fits, made_is, one_number}
use Rattle.capnp_copies.proofs.NoRoom.{WantsWords}

abbrev pub IsOut : ℕ → Outcome → Type 0
IsOut room x = (m : Meter) × (x ≡ (Err (MessageTooLarge room), m))

-- A refusal stays; after an answer, what comes next may be refused.
out_now : {room : ℕ} {x : Outcome} (g : ℕ → Metered ℕ) → IsOut room x → IsOut room (onward g x)
out_now g (m, e) = (m, ap (onward g) e)

out_next : {room : ℕ} {x : Outcome} {y : ℕ} {m : Meter} (g : ℕ → Metered ℕ) → x ≡ (Ok y, m) → IsOut room (g y m) → IsOut room (onward g x)
out_next g e (m, f) = (m, ap (onward g) e ∙ f)

-- A value that is read fits, or it doesn't.
pub passes : (room : ℕ) (r : Reading) (z : ℕ) (m m' : Meter) (t : Tree) (x : Reads canonical r m m' t) → (fit room r z m ≡ (Ok (z + x.cost), m')) ⊎ IsOut room (fit room r z m)
passes room r z m m' t x = go (fit room r z m) (fits room r z m)
  where
    go : (o : Outcome) → Fits room z r m o → (o ≡ (Ok (z + x.cost), m')) ⊎ IsOut room o
    go (Ok y, m1) (u, w, e) =
        let same = one_value r.segments r.levels r.levels r.segment r.at u t w.cost x.cost w.means x.means in
        inl (ap₂ (λ i j. (Ok i, j)) (e ∙ ap (λ c. z + c) same.1) (w.spent ∙ ap₂ (λ c n. after_charge r.charging m c n) same.1 (ap pointers_in same.0) ∙ sym x.spent))
    go (Err k, m1) (inl h) = absurd ((unreadable h.stops).only t x.cost x.means x.takes x.covers)
    go (Err k, m1) (inr (named, h)) = inr (m1, ap (λ l. (Err l, m1)) named)

abbrev pub EachPasses : ℕ → (Reading → ℕ → Metered ℕ) → Reading → Type 0
EachPasses room f r = (q z : ℕ) (m m' : Meter) (t : Tree) (x : Reads canonical (record r { at = q }) m m' t) → (f (record r { at = q }) z m ≡ (Ok (z + x.cost), m')) ⊎ IsOut room (f (record r { at = q }) z m)

trees_pass : (room : ℕ) (f : Reading → ℕ → Metered ℕ) (r : Reading) → EachPasses room f r → (ts : Trees) (p z : ℕ) (m m' : Meter) (x : ReadsAll canonical (record r { at = p }) m m' ts) →
    (fold_pointers f (count ts) (record r { at = p }) z m ≡ (Ok (z + x.cost), m')) ⊎ IsOut room (fold_pointers f (count ts) (record r { at = p }) z m)
trees_pass room f r h no_trees p z m m' x = inl (ap₂ (λ i j. (Ok i, j)) (let none = x.means in omega (arith, none)) (sym (nothing_read x)))
trees_pass room f r h (tree t ts) p z m m' x =
    let s = split canonical (record r { at = p }) m m' t ts x in
    let g : ℕ → Metered ℕ = fold_pointers f (count ts) (record r { at = p + 1 }) in
    elim (h p z m s.mid t s.first) [
      | inr out ↦ inr (out_now g out)
      | inl e ↦ elim (trees_pass room f r h ts (p + 1) (z + s.first.cost) s.mid m' s.rest) [
        | inr out ↦ inr (out_next g e out)
        | inl e' ↦ inl (ap (onward g) e ∙ e' ∙ ap (λ i. (Ok i, m')) (omega (arith, s.whole)))
      ]
    ]

pub trees_out : (room : ℕ) (f : Reading → ℕ → Metered ℕ) (r : Reading) → EachPasses room f r → (ts : Trees) (i p z : ℕ) (m mid : Meter) (x : ReadsAll canonical (record r { at = p }) m mid ts) → count ts < i →
    ((y : ℕ) → y ≡ z + x.cost → IsOut room (f (record r { at = p + count ts }) y mid)) → IsOut room (fold_pointers f i (record r { at = p }) z m)
trees_out room f r h ts zero p z m mid x lt out = absurd (omega arith)
trees_out room f r h no_trees (suc i) p z m mid x lt out =
    let o = out z (let none = x.means in omega (arith, none)) in
    let there : f (record r { at = p }) z m ≡ f (record r { at = p + 0 }) z mid = ap₂ (λ q y. f (record r { at = q }) z y) (sym (add-zero p)) (sym (nothing_read x)) in
    out_now (fold_pointers f i (record r { at = p + 1 })) (o.0, there ∙ o.1)
trees_out room f r h (tree t ts) (suc i) p z m mid x lt out =
    let s = split canonical (record r { at = p }) m mid t ts x in
    let g : ℕ → Metered ℕ = fold_pointers f i (record r { at = p + 1 }) in
    elim (h p z m s.mid t s.first) [
      | inr now ↦ out_now g now
      | inl e ↦ out_next g e (trees_out room f r h ts i (p + 1) (z + s.first.cost) s.mid mid s.rest (omega (arith, lt))
          (λ y e'. subst (λ q. IsOut room (f (record r { at = q }) y mid)) (let same : p + suc (count ts) ≡ p + 1 + count ts = omega arith in same) (out y (omega (arith, e', s.whole)))))
    ]

-- The first element that is read, and those after it.
record SplitRow (r : Reading) (size : StructSize) (m m' : Meter) (ts : Trees) (es : Elements) (c : ℕ) : Type 0 where
  mid : Meter
  many : count ts ≡ size.pointers
  first : ReadsAll canonical (place_past r size.data_words) m mid ts
  rest : ReadsElements canonical (place_past r (size.data_words + size.pointers)) size mid m' es
  whole : c ≡ first.cost + rest.cost

split_row : (r : Reading) (size : StructSize) (m m' : Meter) (ws : List ℕ) (ts : Trees) (es : Elements) (x : ReadsElements canonical r size m m' (element ws ts es)) → SplitRow r size m m' ts es x.cost
split_row r size m m' ws ts es x =
    let k : ℕ = x.means.0 in
    let l : ℕ = x.means.1 in
    let whole : x.cost ≡ k + l = x.means.7 in
    let mid : Meter = after_charge r.charging m k (pointers_in_all ts) in
    let first : ReadsAll canonical (place_past r size.data_words) m mid ts = record { cost = k; means = x.means.5; takes = λ e. let none = x.takes e in omega (arith, none); covers = affords_less r.charging m k x.cost (omega (arith, whole)) x.covers; spent = refl } in
    let others : MeansElements r.segments r.levels r.segment (r.at + (size.data_words + size.pointers)) size.data_words size.pointers es l = subst (λ p. MeansElements r.segments r.levels r.segment p size.data_words size.pointers es l) (let e : r.at + size.data_words + size.pointers ≡ r.at + (size.data_words + size.pointers) = omega arith in e) x.means.6 in
    record {
      mid = mid;
      many = x.means.3;
      first = first;
      rest = record { cost = l; means = others; takes = λ e. let none = x.takes e in omega (arith, none); covers = affords_rest l x.cost (paid_all first) (omega (arith, whole)) x.covers; spent = x.spent ∙ ap (λ c. after_charge r.charging m c (pointers_in_all ts + pointers_in_elements es)) whole ∙ sym (after_after r.charging m k (pointers_in_all ts) l (pointers_in_elements es)) };
      whole = whole;
    }

elements_out : (room : ℕ) (f : Reading → ℕ → Metered ℕ) (r : Reading) → EachPasses room f r → (size : StructSize) (es : Elements) (n p z : ℕ) (m mid : Meter) (x : ReadsElements canonical (record r { at = p }) size m mid es) → element_count es < n →
    ((y : ℕ) → y ≡ z + x.cost → IsOut room (fold_pointers f size.pointers (record r { at = p + element_count es * (size.data_words + size.pointers) + size.data_words }) y mid)) →
    IsOut room (fold_elements f size.data_words size.pointers n (record r { at = p }) z m)
elements_out room f r h size es zero p z m mid x lt out = absurd (omega arith)
elements_out room f r h size no_elements (suc n) p z m mid x lt out =
    let o = out z (let none = x.means in omega (arith, none)) in
    let same : mid ≡ m = x.spent ∙ ap (λ c. after_charge r.charging m c 0) x.means ∙ after_none r.charging m in
    let there : fold_pointers f size.pointers (record r { at = p + size.data_words }) z m ≡ fold_pointers f size.pointers (record r { at = p + 0 * (size.data_words + size.pointers) + size.data_words }) z mid =
    ap₂ (λ q y. fold_pointers f size.pointers (record r { at = q }) z y) (let e : p + size.data_words ≡ p + 0 * (size.data_words + size.pointers) + size.data_words = omega arith in e) (sym same) in
    out_now (fold_elements f size.data_words size.pointers n (record r { at = p + (size.data_words + size.pointers) })) (o.0, there ∙ o.1)
elements_out room f r h size (element ws ts es) (suc n) p z m mid x lt out =
    let d : ℕ = size.data_words in
    let q : ℕ = size.pointers in
    let s = split_row (record r { at = p }) size m mid ws ts es x in
    let g : ℕ → Metered ℕ = fold_elements f d q n (record r { at = p + (d + q) }) in
    let row = subst (λ i. (fold_pointers f i (record r { at = p + d }) z m ≡ (Ok (z + s.first.cost), s.mid)) ⊎ IsOut room (fold_pointers f i (record r { at = p + d }) z m)) s.many (trees_pass room f r h ts (p + d) z m s.mid s.first) in
    elim row [
      | inr now ↦ out_now g now
      | inl e ↦ out_next g e (elements_out room f r h size es n (p + (d + q)) (z + s.first.cost) s.mid mid s.rest (omega (arith, lt))
          (λ y e'. subst (λ i. IsOut room (fold_pointers f q (record r { at = i }) y mid)) (let same : p + suc (element_count es) * (d + q) + d ≡ p + (d + q) + element_count es * (d + q) + d = omega arith in same) (out y (omega (arith, e', s.whole)))))
    ]

-- One of the pointers of an object that fits.
child_out : (room : ℕ) (r : Reading) (z : ℕ) (m first mid : Meter) (a : Target) (q : ℕ) → Entered Value r m first a → (before : GoesBefore (ReadsAll canonical) (ReadsElements canonical) r a q first mid) → z + made_words r.segments (shape r.segments a) ≤ room →
    ((y : ℕ) → y ≡ z + (own_charge Value r.segments a + (spent_before before).words) → IsOut room (fit room (child_at r a (pred r.levels) q) y mid)) → IsOut room (fit room r z m)
child_out room r z m first mid a q o before short out =
    subst (IsOut room) (sym (entered_fits room r z m first a o short)) (go (z + own_charge Value r.segments a) refl before out)
  where
    f : Reading → ℕ → Metered ℕ
    f = fit_within room (pred r.levels)

    by : (p : ℕ) → EachPasses room f (child_at r a (pred r.levels) p)
    by p i y m1 m2 t x = passes room (child_at r a (pred r.levels) i) y m1 m2 t x

    go : (z' : ℕ) → z' ≡ z + own_charge Value r.segments a → (b : GoesBefore (ReadsAll canonical) (ReadsElements canonical) r a q first mid) → ((y : ℕ) → y ≡ z + (own_charge Value r.segments a + (spent_before b).words) → IsOut room (fit room (child_at r a (pred r.levels) q) y mid)) →
        IsOut room (fold_children f (record r { levels = pred r.levels }) (shape r.segments a) z' first)
    go z' is (in_struct ts k fewer there all) out =
        let is_struct : nat_eq (kind a.word) 0 ≡ true = eq-eqb _ _ k in
        rw is_struct (trees_out room f (child_at r a (pred r.levels) a.start) (by a.start) ts (pointer_count a.word) (a.start + data_words a.word) z' first mid all fewer (λ y e. rw there at (out y (omega (arith, e, is)))))
    go z' is (in_pointers ts k six fewer there all) out =
        let list : nat_eq (kind a.word) 0 ≡ false = ne_eqb _ _ (λ e. omega (arith, e, k)) in
        let not_seven : nat_eq (element_size a.word) 7 ≡ false = ne_eqb _ _ (λ e. omega (arith, e, six)) in
        let is_six : nat_eq (element_size a.word) 6 ≡ true = eq-eqb _ _ six in
        rw (list, not_seven, is_six) (trees_out room f (child_at r a (pred r.levels) a.start) (by a.start) ts (list_count a.word) a.start z' first mid all fewer (λ y e. rw there at (out y (omega (arith, e, is)))))
    go z' is (in_element es ts between (k, seven) fewer less there rows all) out =
        let list : nat_eq (kind a.word) 0 ≡ false = ne_eqb _ _ (λ e. omega (arith, e, k)) in
        let is_seven : nat_eq (element_size a.word) 7 ≡ true = eq-eqb _ _ seven in
        let size : StructSize = tag_size r.segments a in
        let c : Reading = child_at r a (pred r.levels) a.start in
        rw (list, is_seven) (elements_out room f c (by a.start) size es (offset_bits (tag r.segments a)) (a.start + 1) z' first between rows fewer
        (λ y e. trees_out room f c (by a.start) ts size.pointers (a.start + 1 + element_count es * (size.data_words + size.pointers) + size.data_words) y between mid all less
        (λ w e'. rw there at (out w (omega (arith, e, e', is))))))

-- If reading comes to an object without room for its copy, the function is refused for room; and
-- the other way round.
pub outgrown_is : (room n : ℕ) (r : Reading) (z : ℕ) (m m' : Meter) (x : StopsWithin canonical (WantsWords canonical n) r m m') → room < z + ((spent_until x).words + n) → IsOut room (fit room r z m)
outgrown_is room n r z m m' (here (a, o, made)) full =
    let same = one_number r a n (made_words r.segments (shape r.segments a)) made (made_is r a o.meets.is_object) in
    (m', entered_outgrows room r z m m' a o (omega (arith, full, same)))
outgrown_is room n r z m m' (below {first = first} {mid} a q o before rest) full = elim (cases_lt room (z + made_words r.segments (shape r.segments a))) [
  | inl long ↦ (first, entered_outgrows room r z m first a o long)
  | inr short ↦ child_out room r z m first mid a q o before short (λ y e. outgrown_is room n (child_at r a (pred r.levels) q) y mid m' rest (omega (arith, full, e)))
]

pub outgrown_if : (room : ℕ) (r : Reading) (z : ℕ) (m m' : Meter) → fit room r z m ≡ (Err (MessageTooLarge room), m') → (n : ℕ) × (x : StopsWithin canonical (WantsWords canonical n) r m m') × (room < z + ((spent_until x).words + n))
outgrown_if room r z m m' e = elim (subst (Fits room z r m) e (fits room r z m)) [
  | inl h ↦ absurd (not_for_size room h.stops)
  | inr (named, (n, h)) ↦ (n, h.stops, h.spends)
]
