-- A search finds the refusal that reading the value meets, and leaves the same limiter; it finds
-- none if the value is read.
use Rattle.std.proofs.Common.{◌≡◌, ◌↔◌, ℕ, zero, suc, ◌+◌, Bool, true, false, Option, Some, None, Result, Ok, Err, refl, ap, ap₂, sym, ◌∙◌}
use Rattle.capnp_words.specs.declared.error.ErrorKind.{ErrorKind}
use Rattle.capnp_words.specs.Meter.{Meter}
use Rattle.capnp_format.specs.Tree.{Tree, Null, Trees, Elements, tree, element}
use Rattle.capnp_pointers.specs.declared.object.Purpose.TheVariants.{Value}
use Rattle.capnp_pointers.specs.Enter.{Shape, nothing, capability, struct, flat, pointers, structs, read}
use Rattle.capnp_pointers.specs.Metered.{Metered, answer, onward, outcome, ◌>>>◌}
use Rattle.capnp_pointers.specs.Reading.{Reading, place_past, words_from}
use Rattle.capnp_pointers.specs.Values.{object_value, permit, read_element_values, read_values, value, value_within}
use Rattle.capnp_pointers.specs.Wanted.{Form, canonical, plain}
use Rattle.capnp_pointers.specs.Measure.{fold_children, fold_elements, fold_pointers}
use Rattle.capnp_refusals.specs.Search.{Finding, form_for, of_values, permitted, search_on, search_place, search_within, unless_found}
use Rattle.capnp_refusals.specs.declared.refusals.search.RefusedPointer.{RefusedPointer}
use Rattle.capnp_refusals.proofs.Searched.{elements_stay, pointers_stay}

-- How a reading ends, and how a search does: with which refusal, and which limiter. A search is never
-- refused itself.
abbrev pub ending : {A : Type 0} → Result A ErrorKind × Meter → Option (Option ErrorKind) × Meter
ending (Ok x, m) = (Some None, m)
ending (Err k, m) = (Some (Some k), m)

abbrev pub search_ending : Result Finding ErrorKind × Meter → Option (Option ErrorKind) × Meter
search_ending (Ok None, m) = (Some None, m)
search_ending (Ok (Some p), m) = (Some (Some p.refusal), m)
search_ending (Err k, m) = (None, m)

-- What is read is made into something.
made : {A B : Type 0} (f : A → B) (x : Result A ErrorKind × Meter) → ending (onward (λ a. answer (f a)) x) ≡ ending x
made f (Ok a, m) = refl
made f (Err k, m) = refl

-- What two endings say that are the same.
abbrev Ending : Type 0
Ending = Option (Option ErrorKind) × Meter

no_end : {m m' : Meter} {x : Option ErrorKind} → ◌≡◌ {A = Ending} (None, m) (Some x, m') → ⊥
no_end {x = x} e = let none : None ≡ Some x = ap (λ o. o.0) e in cc none

not_both : {m m' : Meter} {k : ErrorKind} → ◌≡◌ {A = Ending} (Some None, m) (Some (Some k), m') → ⊥
not_both {k = k} e = let none : Some None ≡ Some (Some k) = ap (λ o. o.0) e in cc none

nor_both : {m m' : Meter} {k : ErrorKind} → ◌≡◌ {A = Ending} (Some (Some k), m) (Some None, m') → ⊥
nor_both {k = k} e = let none : Some (Some k) ≡ Some None = ap (λ o. o.0) e in cc none

same_name : {m m' : Meter} {k l : ErrorKind} → ◌≡◌ {A = Ending} (Some (Some k), m) (Some (Some l), m') → k ≡ l
same_name {k = k} {l = l} e = let some : Some (Some k) ≡ Some (Some l) = ap (λ o. o.0) e in cc some

-- A step after a step that ends alike.
next : {A B : Type 0} (go : Finding → Metered Finding) (on : A → Metered B) (x : Result Finding ErrorKind × Meter) (y : Result A ErrorKind × Meter) →
    ((p : RefusedPointer) (m : Meter) → go (Some p) m ≡ (Ok (Some p), m)) → ((a : A) (m : Meter) → search_ending (go None m) ≡ ending (on a m)) → search_ending x ≡ ending y → search_ending (onward go x) ≡ ending (onward on y)
next go on (Ok None, m) (Ok a, m') stays same e =
    let left : m ≡ m' = ap (λ o. o.1) e in
    rw left (same a m')
next go on (Ok None, m) (Err k, m') stays same e = absurd (not_both e)
next go on (Ok (Some p), m) (Ok a, m') stays same e = absurd (nor_both e)
next go on (Ok (Some p), m) (Err k, m') stays same e = ap search_ending (stays p m) ∙ e
next go on (Err l, m) (Ok a, m') stays same e = absurd (no_end e)
next go on (Err l, m) (Err k, m') stays same e = absurd (no_end e)

module _ (f : Reading → Metered Finding) (g : Reading → Metered Tree) (same : (r : Reading) (m : Meter) → search_ending (f r m) ≡ ending (g r m)) where
  pub pointers_end : (i : ℕ) (r : Reading) (m : Meter) → search_ending (fold_pointers (unless_found f) i r None m) ≡ ending (read_values g i r m)
  pointers_end zero r m = refl
  pointers_end (suc i) r m =
      next (fold_pointers (unless_found f) i (place_past r 1)) (λ t. read_values g i (place_past r 1) >>> λ ts. answer (tree t ts)) (f r m) (g r m)
      (pointers_stay f i (place_past r 1)) (λ t m'. pointers_end i (place_past r 1) m' ∙ sym (made (tree t) (read_values g i (place_past r 1) m'))) (same r m)

  pub elements_end : (d q n : ℕ) (r : Reading) (m : Meter) → search_ending (fold_elements (unless_found f) d q n r None m) ≡ ending (read_element_values g d q n r m)
  elements_end d q zero r m = refl
  elements_end d q (suc n) r m =
      next (fold_elements (unless_found f) d q n (place_past r (d + q))) (λ ts. read_element_values g d q n (place_past r (d + q)) >>> λ es. answer (element (words_from r d) ts es)) _ _
      (elements_stay f d q n (place_past r (d + q))) (λ ts m'. elements_end d q n (place_past r (d + q)) m' ∙ sym (made (element (words_from r d) ts) (read_element_values g d q n (place_past r (d + q)) m')))
      (pointers_end q (place_past r d) m)

  pub children_end : (r : Reading) (o : Shape) (m : Meter) → search_ending (fold_children (unless_found f) r o None m) ≡ ending (object_value g (λ s p. record r { segment = s; at = p }) o m)
  children_end r nothing m = refl
  children_end r (capability i) m = refl
  children_end r (struct s p d q) m = pointers_end q (record r { segment = s; at = p + d }) m ∙ sym (made _ (read_values g q (record r { segment = s; at = p + d }) m))
  children_end r (flat s p size n) m = refl
  children_end r (pointers s p n) m = pointers_end n (record r { segment = s; at = p }) m ∙ sym (made _ (read_values g n (record r { segment = s; at = p }) m))
  children_end r (structs s p d q n) m = elements_end d q n (record r { segment = s; at = p }) m ∙ sym (made _ (read_element_values g d q n (record r { segment = s; at = p }) m))

-- Without a level there are no children.
nulls : (i : ℕ) (r : Reading) (m : Meter) → ending (read_values (λ s. answer Null) i r m) ≡ (Some None, m)
nulls zero r m = refl
nulls (suc i) r m = made _ (read_values (λ s. answer Null) i (place_past r 1) m) ∙ nulls i (place_past r 1) m

after_nulls : (o : Reading → Metered Elements) (f : Trees → Elements → Elements) (r : Reading) (m : Meter) (x : Result Trees ErrorKind × Meter) → ending (o r m) ≡ (Some None, m) → ending x ≡ (Some None, m) → ending (onward (λ ts. o r >>> λ es. answer (f ts es)) x) ≡ (Some None, m)
after_nulls o f r m (Ok ts, m') rest e =
    let left : m' ≡ m = ap (λ o. o.1) e in
    rw left (made (f ts) (o r m) ∙ rest)
after_nulls o f r m (Err k, m') rest e = e

null_elements : (d q n : ℕ) (r : Reading) (m : Meter) → ending (read_element_values (λ s. answer Null) d q n r m) ≡ (Some None, m)
null_elements d q zero r m = refl
null_elements d q (suc n) r m =
    after_nulls (read_element_values (λ s. answer Null) d q n) (element (words_from r d)) (place_past r (d + q)) m (read_values (λ s. answer Null) q (place_past r d) m)
    (null_elements d q n (place_past r (d + q)) m) (nulls q (place_past r d) m)

none_below : (r s : Reading) (o : Shape) (m : Meter) → ending (object_value (λ s. answer Null) (λ a b. r) o m) ≡ (Some None, m)
none_below r s nothing m = refl
none_below r s (capability i) m = refl
none_below r s (struct a p d q) m = made _ (read_values (λ s. answer Null) q r m) ∙ nulls q r m
none_below r s (flat a p size n) m = refl
none_below r s (pointers a p n) m = made _ (read_values (λ s. answer Null) n r m) ∙ nulls n r m
none_below r s (structs a p d q n) m = made _ (read_element_values (λ s. answer Null) d q n r m) ∙ null_elements d q n r m

-- An object is permitted by both, or refused by both with the same name.
permits : (c : Bool) (r : Reading) (f : Shape → Metered Finding) (g : Shape → Metered Tree) (x : Result Shape ErrorKind × Meter) → ((o : Shape) (m : Meter) → search_ending (f o m) ≡ ending (g o m)) →
    search_ending (search_on r f (onward (λ o. outcome (permitted c o) >>> λ _. answer o) x)) ≡ ending (onward g (onward (permit (form_for c)) x))
permits c r f g (Err k, m) same = refl
permits true r f g (Ok nothing, m) same = same nothing m
permits true r f g (Ok (capability i), m) same = same (capability i) m
permits true r f g (Ok (struct s p d q), m) same = same (struct s p d q) m
permits true r f g (Ok (flat s p size n), m) same = same (flat s p size n) m
permits true r f g (Ok (pointers s p n), m) same = same (pointers s p n) m
permits true r f g (Ok (structs s p d q n), m) same = same (structs s p d q n) m
permits false r f g (Ok nothing, m) same = same nothing m
permits false r f g (Ok (capability i), m) same = refl
permits false r f g (Ok (struct s p d q), m) same = same (struct s p d q) m
permits false r f g (Ok (flat s p size n), m) same = same (flat s p size n) m
permits false r f g (Ok (pointers s p n), m) same = same (pointers s p n) m
permits false r f g (Ok (structs s p d q n), m) same = same (structs s p d q n) m

pub search_ends : (c : Bool) (n : ℕ) (r : Reading) (m : Meter) → search_ending (search_within (of_values c) n r m) ≡ ending (value_within (form_for c) n r m)
unfolding search_within value_within
search_ends c zero r m = permits c r _ _ (read Value (record r { levels = zero }) m) (λ o m'. sym (none_below r r o m'))
search_ends c (suc n) r m =
    permits c r _ _ (read Value (record r { levels = suc n }) m)
    (λ o m'. children_end (search_within (of_values c) n) (value_within (form_for c) n) (search_ends c n) (record r { levels = n }) o m')

-- The same in the words of the laws.
answered_refused : {A : Type 0} {a : A} {k : ErrorKind} {m m' : Meter} → ◌≡◌ {A = Result A ErrorKind × Meter} (Ok a, m) (Err k, m') → ⊥
answered_refused {A} {a} {k} e = let f : ◌≡◌ {A = Result A ErrorKind} (Ok a) (Err k) = ap (λ o. o.0) e in cc f

refused_answered : {A : Type 0} {a : A} {k : ErrorKind} {m m' : Meter} → ◌≡◌ {A = Result A ErrorKind × Meter} (Err k, m) (Ok a, m') → ⊥
refused_answered {A} {a} {k} e = let f : ◌≡◌ {A = Result A ErrorKind} (Err k) (Ok a) = ap (λ o. o.0) e in cc f

none_found : {p : RefusedPointer} {m m' : Meter} → ◌≡◌ {A = Result Finding ErrorKind × Meter} (Ok None, m) (Ok (Some p), m') → ⊥
none_found {p} e = let f : ◌≡◌ {A = Result Finding ErrorKind} (Ok None) (Ok (Some p)) = ap (λ o. o.0) e in cc f

found_none : {p : RefusedPointer} {m m' : Meter} → ◌≡◌ {A = Result Finding ErrorKind × Meter} (Ok (Some p), m) (Ok None, m') → ⊥
found_none {p} e = let f : ◌≡◌ {A = Result Finding ErrorKind} (Ok (Some p)) (Ok None) = ap (λ o. o.0) e in cc f

same_refusal : {A : Type 0} {k l : ErrorKind} {m m' : Meter} → ◌≡◌ {A = Result A ErrorKind × Meter} (Err k, m) (Err l, m') → k ≡ l
same_refusal {A} {k} {l} e = let f : ◌≡◌ {A = Result A ErrorKind} (Err k) (Err l) = ap (λ o. o.0) e in cc f

same_pointer : {p q : RefusedPointer} {m m' : Meter} → ◌≡◌ {A = Result Finding ErrorKind × Meter} (Ok (Some p), m) (Ok (Some q), m') → p ≡ q
same_pointer {p} {q} e = let f : ◌≡◌ {A = Result Finding ErrorKind} (Ok (Some p)) (Ok (Some q)) = ap (λ o. o.0) e in cc f

pub refused_so : {A : Type 0} (x : Result Finding ErrorKind × Meter) (y : Result A ErrorKind × Meter) → search_ending x ≡ ending y → (k : ErrorKind) (m' : Meter) →
    (y ≡ (Err k, m')) ↔ ((p : RefusedPointer) × (p.refusal ≡ k) × (x ≡ (Ok (Some p), m')))
refused_so (Ok None, m) (Ok a, n) e k m' = ((λ h. absurd (answered_refused h)), (λ (p, named, f). absurd (none_found f)))
refused_so (Ok None, m) (Err l, n) e k m' = absurd (not_both e)
refused_so (Ok (Some p), m) (Ok a, n) e k m' = absurd (nor_both e)
refused_so (Ok (Some p), m) (Err l, n) e k m' =
    let named : p.refusal ≡ l = same_name e in
    let left : m ≡ n = ap (λ o. o.1) e in (
      (λ h. (p, named ∙ same_refusal h, ap (λ x. (Ok (Some p), x)) (left ∙ ap (λ o. o.1) h))),
      (λ (q, is, f). ap₂ (λ a b. (Err a, b)) (sym named ∙ ap (λ (x : RefusedPointer). x.refusal) (same_pointer f) ∙ is) (sym left ∙ ap (λ o. o.1) f)),
    )
refused_so (Err l, m) (Ok a, n) e k m' = absurd (no_end e)
refused_so (Err l, m) (Err j, n) e k m' = absurd (no_end e)

pub read_so : {A : Type 0} (x : Result Finding ErrorKind × Meter) (y : Result A ErrorKind × Meter) → search_ending x ≡ ending y → (m' : Meter) →
    ((a : A) × (y ≡ (Ok a, m'))) ↔ (x ≡ (Ok None, m'))
read_so (Ok None, m) (Ok a, n) e m' =
    let left : m ≡ n = ap (λ o. o.1) e in
    ((λ (b, f). ap (λ x. (Ok None, x)) (left ∙ ap (λ o. o.1) f)), (λ h. (a, ap (λ x. (Ok a, x)) (sym left ∙ ap (λ o. o.1) h))))
read_so (Ok None, m) (Err l, n) e m' = absurd (not_both e)
read_so (Ok (Some p), m) (Ok a, n) e m' = absurd (nor_both e)
read_so (Ok (Some p), m) (Err l, n) e m' = ((λ (b, f). absurd (refused_answered f)), (λ h. absurd (found_none h)))
read_so (Err l, m) (Ok a, n) e m' = absurd (no_end e)
read_so (Err l, m) (Err j, n) e m' = absurd (no_end e)
