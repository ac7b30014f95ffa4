-- The value at the end of a path: the function `end_value` returns what the relations state.
use Rattle.std.proofs.Common.{◌≡◌, ℕ, zero, suc, ◌+◌, ◌<◌, Result, Ok, Err, length, refl, sym, ap, ap₂, ◌∙◌, subst, arith, add-zero}
use Rattle.capnp_words.specs.declared.error.ErrorKind.{ErrorKind}
use Rattle.capnp_words.specs.Meter.{Meter}
use Rattle.capnp_format.specs.Canonical.{encoding, trim, word_count}
use Rattle.capnp_format.specs.Tree.{Tree, Struct, Trees, no_trees, tree, count}
use Rattle.capnp_pointers.specs.declared.object.Purpose.TheVariants.{Value}
use Rattle.capnp_pointers.specs.Metered.{answer, onward}
use Rattle.capnp_pointers.specs.Outcomes.{Reads, ReadsAll}
use Rattle.capnp_pointers.specs.Reading.{Reading, place_past, words_from}
use Rattle.capnp_pointers.specs.Refusals.{Refused, Stopped}
use Rattle.capnp_pointers.specs.Spending.{after_charge, pointers_in, pointers_in_all}
use Rattle.capnp_pointers.specs.Values.{read_values, value}
use Rattle.capnp_pointers.specs.Wanted.{Form}
use Rattle.capnp_pointers.proofs.Budget.PaidAndLeft.{after_after, after_none, affords_rest, paid_all, paid_both, paid_one}
use Rattle.capnp_pointers.proofs.WholeValue.ChildrenRead.{read_none}
use Rattle.capnp_pointers.proofs.WholeValue.ValueAsStated.{reads_is, refused_is}
use Rattle.capnp_pointers.proofs.WholeValue.UnreadableIfRefused.{affords_less}
use Rattle.capnp_pointers.proofs.WholeValue.Shorthands.{RefusedAll}
use Rattle.capnp_pointers.proofs.WholeValue.ValueAgrees.{Agree, value_agrees}
use Rattle.capnp_copies.proofs.Shapes.{IsShaped, all_shaped, length-body, means_shaped, trim-shaped}
use Rattle.capnp_messages.specs.Canonicalize.{end_value}
use Rattle.capnp_messages.specs.EndValues.{end_original}
use Rattle.capnp_messages.specs.Parts.{PathEnd, to_element, to_pointer}

-- The first child that is read, and those after it.
pub record Split (form : Form) (r : Reading) (m m' : Meter) (t : Tree) (ts : Trees) (c : ℕ) : Type 0 where
  pub mid : Meter
  pub first : Reads form r m mid t
  pub rest : ReadsAll form (place_past r 1) mid m' ts
  pub whole : c ≡ first.cost + rest.cost

pub split : (form : Form) (r : Reading) (m m' : Meter) (t : Tree) (ts : Trees) (x : ReadsAll form r m m' (tree t ts)) → Split form r m m' t ts x.cost
split form r m m' t ts x =
    let k : ℕ = x.means.0 in
    let l : ℕ = x.means.1 in
    let whole : x.cost ≡ k + l = x.means.4 in
    let mid : Meter = after_charge r.charging m k (pointers_in t) in
    let first : Reads form r m mid t = record { cost = k; means = x.means.2; takes = λ e. let none = x.takes e in omega (arith, none); covers = affords_less r.charging m k x.cost (omega (arith, whole)) x.covers; spent = refl } in
    record {
      mid = mid;
      first = first;
      rest = record { cost = l; means = x.means.3; takes = λ e. let none = x.takes e in omega (arith, none); covers = affords_rest l x.cost (paid_one first) (omega (arith, whole)) x.covers; spent = x.spent ∙ ap (λ c. after_charge r.charging m c (pointers_in t + pointers_in_all ts)) whole ∙ sym (after_after r.charging m k (pointers_in t) l (pointers_in_all ts)) };
      whole = whole;
    }

pub nothing_read : {form : Form} {r : Reading} {m m' : Meter} → ReadsAll form r m m' no_trees → m' ≡ m
nothing_read {form} {r} {m} x = x.spent ∙ ap (λ c. after_charge r.charging m c 0) x.means ∙ after_none r.charging m

abbrev pub read_first : {form : Form} {r : Reading} {m m' m'' : Meter} {t : Tree} {ts : Trees} → Reads form r m m' t → ReadsAll form (place_past r 1) m' m'' ts → ReadsAll form r m m'' (tree t ts)
read_first one all =
    let paid = paid_both (paid_one one) (paid_all all) in
    record { cost = one.cost + all.cost; means = (one.cost, all.cost, one.means, all.means, refl); takes = λ e. omega (arith, one.takes e, all.takes e); covers = paid.covers; spent = paid.spent }

-- Consecutive pointers: what is read, what is refused, and that there is nothing else.
trees_are : (form : Form) (r : Reading) (ts : Trees) (p : ℕ) (m m' : Meter) → ReadsAll form (record r { at = p }) m m' ts → read_values (value form) (count ts) (record r { at = p }) m ≡ (Ok ts, m')
trees_are form r no_trees p m m' x = ap (λ y. (Ok no_trees, y)) (sym (nothing_read x))
trees_are form r (tree t ts) p m m' x =
    let s = split form (record r { at = p }) m m' t ts x in
    ap (onward _) (reads_is form (record r { at = p }) m s.mid t s.first) ∙ ap (onward _) (trees_are form r ts (p + 1) s.mid m' s.rest)

trees_stop : (form : Form) (r : Reading) (ts : Trees) (i p : ℕ) (m mid m' : Meter) (k : ErrorKind) → ReadsAll form (record r { at = p }) m mid ts → count ts < i → Refused form (record r { at = p + count ts }) mid m' k →
    read_values (value form) i (record r { at = p }) m ≡ (Err k, m')
trees_stop form r ts zero p m mid m' k x lt refused = absurd (omega arith)
trees_stop form r no_trees (suc i) p m mid m' k x lt refused =
    let there : value form (record r { at = p }) m ≡ (Err k, m') = ap₂ (λ q y. value form (record r { at = q }) y) (sym (add-zero p)) (sym (nothing_read x)) ∙ refused_is form k (record r { at = p + 0 }) mid m' refused in
    ap (onward _) there
trees_stop form r (tree t ts) (suc i) p m mid m' k x lt refused =
    let s = split form (record r { at = p }) m mid t ts x in
    let there = subst (λ q. Refused form (record r { at = q }) mid m' k) (let e : p + suc (count ts) ≡ p + 1 + count ts = omega arith in e) refused in
    ap (onward _) (reads_is form (record r { at = p }) m s.mid t s.first) ∙ ap (onward _) (trees_stop form r ts i (p + 1) s.mid mid m' k s.rest (omega (arith, lt)) there)

abbrev AllAgree : Form → Reading → ℕ → Meter → Result Trees ErrorKind × Meter → Type 0
AllAgree form r i m (Ok ts, m') = (count ts ≡ i) × ReadsAll form r m m' ts
AllAgree form r i m (Err k, m') = RefusedAll form r i m m' k

trees_agree : (form : Form) (r : Reading) (i p : ℕ) (m : Meter) → AllAgree form (record r { at = p }) i m (read_values (value form) i (record r { at = p }) m)
trees_agree form r zero p m = (refl, read_none form (record r { at = p }) m)
trees_agree form r (suc i) p m = go (value form (record r { at = p }) m) (value_agrees form (record r { at = p }) m) (λ m1. trees_agree form r i (p + 1) m1)
  where
    behind_first : (t : Tree) (m1 : Meter) → Reads form (record r { at = p }) m m1 t → (o : Result Trees ErrorKind × Meter) → AllAgree form (record r { at = p + 1 }) i m1 o → AllAgree form (record r { at = p }) (suc i) m (onward (λ ts. answer (tree t ts)) o)
    behind_first t m1 one (Ok ts, m2) all = (ap suc all.0, read_first one all.1)
    behind_first t m1 one (Err k, m2) all = record {
      first = tree t all.first;
      fewer = omega (arith, all.fewer);
      mid = all.mid;
      are_read = read_first one all.are_read;
      stops = subst (λ q. Refused form (record r { at = q }) all.mid m2 k) (let e : p + 1 + count all.first ≡ p + suc (count all.first) = omega arith in e) all.stops;
    }

    go : (o : Result Tree ErrorKind × Meter) → Agree form (record r { at = p }) m o → ((m1 : Meter) → AllAgree form (record r { at = p + 1 }) i m1 (read_values (value form) i (record r { at = p + 1 }) m1)) →
        AllAgree form (record r { at = p }) (suc i) m (onward (λ t m1. onward (λ ts. answer (tree t ts)) (read_values (value form) i (record r { at = p + 1 }) m1)) o)
    go (Ok t, m1) one rest = behind_first t m1 one (read_values (value form) i (record r { at = p + 1 }) m1) (rest m1)
    go (Err k, m1) one rest = record { first = no_trees; fewer = omega arith; mid = m; are_read = read_none form (record r { at = p }) m; stops = subst (λ q. Refused form (record r { at = q }) m m1 k) (sym (add-zero p)) one }

-- The end of a path.
abbrev pub EndReadsAs : Form → PathEnd → Meter → Meter → Tree → Type 0
EndReadsAs form e m m' t = (end_original e).reads form m m' t

abbrev pub EndStopsAs : Form → PathEnd → Meter → Meter → ErrorKind → Type 0
EndStopsAs form e m m' k = (end_original e).stops form (λ r i j. Stopped Value form r i j k) m m'

abbrev pub EndAgrees : Form → PathEnd → Meter → Result Tree ErrorKind × Meter → Type 0
EndAgrees form e m (Ok t, m') = EndReadsAs form e m m' t
EndAgrees form e m (Err k, m') = EndStopsAs form e m m' k

pub end_read_is : (form : Form) (e : PathEnd) (m m' : Meter) (t : Tree) → EndReadsAs form e m m' t → end_value form e m ≡ (Ok t, m')
end_read_is form (to_pointer r) m m' t reads = reads_is form r m m' t reads
end_read_is form (to_element r d q) m m' t (ts, is, counts, reads) =
    ap (λ i. onward (λ ts. answer (Struct (words_from r d) ts)) (read_values (value form) i (place_past r d) m)) (sym counts)
    ∙ ap (onward (λ ts. answer (Struct (words_from r d) ts))) (trees_are form r ts (r.at + d) m m' reads)
    ∙ ap (λ u. (Ok u, m')) (sym is)

pub end_stop_is : (form : Form) (e : PathEnd) (m m' : Meter) (k : ErrorKind) → EndStopsAs form e m m' k → end_value form e m ≡ (Err k, m')
end_stop_is form (to_pointer r) m m' k stops = refused_is form k r m m' stops
end_stop_is form (to_element r d q) m m' k stops =
    ap (onward (λ ts. answer (Struct (words_from r d) ts))) (trees_stop form r stops.first q (r.at + d) m stops.mid m' k stops.are_read stops.fewer stops.stops)

pub end_agrees : (form : Form) (e : PathEnd) (m : Meter) → EndAgrees form e m (end_value form e m)
end_agrees form (to_pointer r) m = value_agrees form r m
end_agrees form (to_element r d q) m = go (read_values (value form) q (place_past r d) m) (trees_agree form r q (r.at + d) m)
  where
    go : (o : Result Trees ErrorKind × Meter) → AllAgree form (place_past r d) q m o → EndAgrees form (to_element r d q) m (onward (λ ts. answer (Struct (words_from r d) ts)) o)
    go (Ok ts, m') (counts, reads) = (ts, refl, counts, reads)
    go (Err k, m') stops = stops

pub end_read_if : (form : Form) (e : PathEnd) (m m' : Meter) (t : Tree) → end_value form e m ≡ (Ok t, m') → EndReadsAs form e m m' t
end_read_if form e m m' t is = subst (EndAgrees form e m) is (end_agrees form e m)

pub end_stop_if : (form : Form) (e : PathEnd) (m m' : Meter) (k : ErrorKind) → end_value form e m ≡ (Err k, m') → EndStopsAs form e m m' k
end_stop_if form e m m' k is = subst (EndAgrees form e m) is (end_agrees form e m)

-- The canonical words of a value that is read are one for the pointer and those of its objects.
shaped : (form : Form) (e : PathEnd) (m m' : Meter) (t : Tree) → EndReadsAs form e m m' t → IsShaped t
shaped form (to_pointer r) m m' t reads = means_shaped r t reads.cost reads.means
shaped form (to_element r d q) m m' t (ts, is, counts, reads) = subst IsShaped (sym is) (all_shaped (place_past r d) ts reads.cost reads.means)

pub words_long : (form : Form) (e : PathEnd) (m m' : Meter) (t : Tree) → EndReadsAs form e m m' t → length (encoding (trim t)) ≡ 1 + word_count (trim t)
words_long form e m m' t reads = omega (arith, length-body (trim t) (trim-shaped t (shaped form e m m' t reads)))
