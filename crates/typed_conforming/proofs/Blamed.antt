-- A refusal of the walk is that of a pointer to which it comes.
use Rattle.std.proofs.Common.{◌≡◌, ◌⊎◌, inl, inr, ℕ, zero, suc, pred, ◌+◌, ◌*◌, ◌<◌, Option, Some, None, Result, Ok, Err, List, refl, sym, ap, ◌∙◌, subst, arith}
use Rattle.capnp_words.specs.declared.error.ErrorKind.{ErrorKind}
use Rattle.capnp_words.specs.Meter.{Meter}
use Rattle.capnp_pointers.specs.declared.object.Purpose.TheVariants.{Value}
use Rattle.capnp_pointers.specs.Enter.{Shape, nothing, capability, struct, flat, pointers, structs, read}
use Rattle.capnp_pointers.specs.Reading.{Reading, place_past, words_from}
use Rattle.typed_conforming.specs.declared.conforms.SchemaPointer.{SchemaPointer}
use Rattle.typed_conforming.specs.declared.schema.Misfit.{Misfit}
use Rattle.typed_conforming.specs.Tables.{row_below, table_below}
use Rattle.typed_conforming.specs.Misfits.{kind_misfit}
use Rattle.typed_conforming.specs.Walk.{PointerTest, TestOutcome, and_then, check_elements, check_place, check_pointers, check_within, misfit_at, schema_pointer}
use Rattle.typed_conforming.specs.Blame.{HasPointer, IsRefusedWith, IsTrueFrom, Visit, at_once, in_element, in_list, in_struct, through, visit_below}
use Rattle.typed_conforming.proofs.Steps.{children_test, closed, opened, unfit, unread}

-- A refusal isn't a success, and determines the misfit and the limiter.
not_both : {m m' : Meter} {e : Misfit} {o : TestOutcome} → o ≡ (Ok tt, m) → o ≡ (Err e, m') → ⊥
not_both a b = let both = ap (λ x. x.0) (sym a ∙ b) in cc both

-- The pointer at which a test of consecutive pointers stops: number k of them.
record PointerStop (f : PointerTest) (ps : ℕ → SchemaPointer) (i q : ℕ) (r : Reading) (out : TestOutcome) : Type 0 where
  number : ℕ
  below : number < q
  index : ℕ
  index_is : index ≡ i + number
  at : ℕ
  at_is : at ≡ r.at + number
  before : Meter
  stops : f (ps index) (record r { at = at }) before ≡ out

pointer_stop : (f : PointerTest) (ps : ℕ → SchemaPointer) (i q : ℕ) (r : Reading) (m m' : Meter) (e : Misfit) → check_pointers f ps i q r m ≡ (Err e, m') → PointerStop f ps i q r (Err e, m')
pointer_stop f ps i zero r m m' e h = absurd (not_both refl h)
pointer_stop f ps i (suc q) r m m' e h = go (λ m1. pointer_stop f ps (suc i) q (place_past r 1) m1 m' e) (f (ps i) r m) refl h
  where
    go : ((m1 : Meter) → check_pointers f ps (suc i) q (place_past r 1) m1 ≡ (Err e, m') → PointerStop f ps (suc i) q (place_past r 1) (Err e, m')) → (o : TestOutcome) → f (ps i) r m ≡ o → and_then (check_pointers f ps (suc i) q (place_past r 1)) o ≡ (Err e, m') → PointerStop f ps i (suc q) r (Err e, m')
    go more (Ok x, m1) is h =
        let s = more m1 h in
        record {
          number = suc s.number;
          below = (let b = s.below in omega (arith, b));
          index = s.index;
          index_is = (let b = s.index_is in omega (arith, b));
          at = s.at;
          at_is = (let b = s.at_is in omega (arith, b));
          before = s.before;
          stops = s.stops;
        }
    go more (Err x, m1) is h = record { number = 0; below = omega arith; index = i; index_is = omega arith; at = r.at; at_is = omega arith; before = m; stops = is ∙ h }

-- The element at which a test of consecutive elements stops.
record ElementStop (f : PointerTest) (ps : List ℕ → ℕ → SchemaPointer) (d q n : ℕ) (r : Reading) (out : TestOutcome) : Type 0 where
  number : ℕ
  below : number < n
  at : ℕ
  at_is : at ≡ r.at + number * (d + q)
  before : Meter
  stops : check_pointers f (ps (words_from (record r { at = at }) d)) 0 q (place_past (record r { at = at }) d) before ≡ out

element_stop : (f : PointerTest) (ps : List ℕ → ℕ → SchemaPointer) (d q n : ℕ) (r : Reading) (m m' : Meter) (e : Misfit) → check_elements f ps d q n r m ≡ (Err e, m') → ElementStop f ps d q n r (Err e, m')
element_stop f ps d q zero r m m' e h = absurd (not_both refl h)
element_stop f ps d q (suc n) r m m' e h = go (λ m1. element_stop f ps d q n (place_past r (d + q)) m1 m' e) (check_pointers f (ps (words_from r d)) 0 q (place_past r d) m) refl h
  where
    go : ((m1 : Meter) → check_elements f ps d q n (place_past r (d + q)) m1 ≡ (Err e, m') → ElementStop f ps d q n (place_past r (d + q)) (Err e, m')) → (o : TestOutcome) → check_pointers f (ps (words_from r d)) 0 q (place_past r d) m ≡ o → and_then (check_elements f ps d q n (place_past r (d + q))) o ≡ (Err e, m') → ElementStop f ps d q (suc n) r (Err e, m')
    go more (Ok x, m1) is h =
        let s = more m1 h in
        record {
          number = s.number + 1;
          below = (let b = s.below in omega (arith, b));
          at = s.at;
          at_is = (let b = s.at_is in let c : r.at + (d + q) + s.number * (d + q) ≡ r.at + (s.number + 1) * (d + q) = omega arith in b ∙ c);
          before = s.before;
          stops = s.stops;
        }
    go more (Err x, m1) is h = record { number = 0; below = omega arith; at = r.at; at_is = omega arith; before = m; stops = is ∙ h }

-- Both, with their places computed.
record Stop (f : PointerTest) (ps : List ℕ → ℕ → SchemaPointer) (d q n : ℕ) (r : Reading) (out : TestOutcome) : Type 0 where
  element : ℕ
  element_below : element < n
  index : ℕ
  index_below : index < q
  before : Meter
  stops : f (ps (words_from (place_past r (element * (d + q))) d) index) (place_past (place_past r (element * (d + q))) (d + index)) before ≡ out

stop : (f : PointerTest) (ps : List ℕ → ℕ → SchemaPointer) (d q n : ℕ) (r : Reading) (m m' : Meter) (e : Misfit) → check_elements f ps d q n r m ≡ (Err e, m') → Stop f ps d q n r (Err e, m')
stop f ps d q n r m m' e h =
    let x = element_stop f ps d q n r m m' e h in
    let y = pointer_stop f (ps (words_from (record r { at = x.at }) d)) 0 q (place_past (record r { at = x.at }) d) x.before m' e x.stops in
    let index : y.index ≡ y.number = (let b = y.index_is in omega (arith, b)) in
    let at : y.at ≡ x.at + (d + y.number) = (let b = y.at_is in omega (arith, b)) in
    record {
      element = x.number;
      element_below = x.below;
      index = y.number;
      index_below = y.below;
      before = y.before;
      stops = placed x.at (r.at + x.number * (d + q)) y.index y.number y.at y.before x.at_is index at y.stops;
    }
  where
    placed : (a p i k b : ℕ) (m1 : Meter) → a ≡ p → i ≡ k → b ≡ a + (d + k) → f (ps (words_from (record r { at = a }) d) i) (record r { at = b }) m1 ≡ (Err e, m') → f (ps (words_from (record r { at = p }) d) k) (record r { at = p + (d + k) }) m1 ≡ (Err e, m')
    placed a p i k b m1 same index there h =
        subst (λ z. f (ps (words_from (record r { at = z }) d) k) (record r { at = z + (d + k) }) m1 ≡ (Err e, m')) same
        (subst (λ z. f (ps (words_from (record r { at = a }) d) k) (record r { at = z }) m1 ≡ (Err e, m')) there
        (subst (λ z. f (ps (words_from (record r { at = a }) d) z) (record r { at = b }) m1 ≡ (Err e, m')) index h))

-- The pointer of an object at which the test of its children stops.
record Child (v : Visit) (o : Shape) (out : TestOutcome) : Type 0 where
  visit : Visit
  has : HasPointer v o visit
  level : visit.place.levels ≡ pred v.place.levels
  before : Meter
  stops : check_place visit.table visit.pointer visit.place before ≡ out

child_stop : (v : Visit) (o : Shape) (m m' : Meter) (e : Misfit) → children_test v.table v.pointer (pred v.place.levels) v.place o m ≡ (Err e, m') → Child v o (Err e, m')
child_stop v nothing m m' e h = absurd (not_both refl h)
child_stop v (capability i) m m' e h = absurd (not_both refl h)
child_stop v (flat s p size n) m m' e h = absurd (not_both refl h)
child_stop v (struct s p d q) m m' e h =
    let U = table_below v.table v.pointer.kind in
    let r = record v.place { levels = pred v.place.levels; segment = s; at = p } in
    let x = stop (check_within U (pred v.place.levels)) (schema_pointer U (row_below v.pointer.kind)) d q 1 r m m' e h in
    let first : p + x.element * (d + q) ≡ p = (let b = x.element_below in let none : x.element ≡ 0 = omega (arith, b) in ap (λ j. p + j * (d + q)) none ∙ (let c : p + 0 * (d + q) ≡ p = omega arith in c)) in
    record {
      visit = visit_below v s p d x.index;
      has = in_struct s p d q x.index x.index_below;
      level = refl;
      before = x.before;
      stops = subst (λ z. check_within U (pred v.place.levels) (schema_pointer U (row_below v.pointer.kind) (words_from (record r { at = z }) d) x.index) (record r { at = z + (d + x.index) }) x.before ≡ (Err e, m')) first x.stops;
    }
child_stop v (pointers s p n) m m' e h =
    let U = table_below v.table v.pointer.kind in
    let r = record v.place { levels = pred v.place.levels; segment = s; at = p } in
    let x = stop (check_within U (pred v.place.levels)) (schema_pointer U (row_below v.pointer.kind)) 0 1 n r m m' e h in
    let there : p + x.element * (0 + 1) ≡ p + x.element = omega arith in
    let first : x.index ≡ 0 = (let b = x.index_below in omega (arith, b)) in
    record {
      visit = visit_below v s (p + x.element) 0 0;
      has = in_list s p n x.element x.element_below;
      level = refl;
      before = x.before;
      stops = subst (λ i. check_within U (pred v.place.levels) (schema_pointer U (row_below v.pointer.kind) (words_from (record r { at = p + x.element }) 0) i) (record r { at = p + x.element + (0 + i) }) x.before ≡ (Err e, m')) first
          (subst (λ z. check_within U (pred v.place.levels) (schema_pointer U (row_below v.pointer.kind) (words_from (record r { at = z }) 0) x.index) (record r { at = z + (0 + x.index) }) x.before ≡ (Err e, m')) there x.stops);
    }
child_stop v (structs s p d q n) m m' e h =
    let U = table_below v.table v.pointer.kind in
    let r = record v.place { levels = pred v.place.levels; segment = s; at = p } in
    let x = stop (check_within U (pred v.place.levels)) (schema_pointer U (row_below v.pointer.kind)) d q n r m m' e h in
    record {
      visit = visit_below v s (p + x.element * (d + q)) d x.index;
      has = in_element s p d q n x.element x.index x.element_below x.index_below;
      level = refl;
      before = x.before;
      stops = x.stops;
    }

-- The refusal of the pointer itself.
own : (v : Visit) (m m1 m' : Meter) (x : Misfit) (k : ErrorKind) (o : Result Shape ErrorKind) → read Value v.place m ≡ (o, m1) → IsRefusedWith v k o → check_place v.table v.pointer v.place m ≡ (Err (misfit_at v.pointer v.place k), m1) → check_place v.table v.pointer v.place m ≡ (Err x, m') → IsTrueFrom v m' x
own v m m1 m' x k o is refused walk h =
    let out = sym h ∙ walk in
    let same : x ≡ misfit_at v.pointer v.place k = (let both = ap (λ y. y.0) out in cc both) in
    let left : m1 ≡ m' = sym (ap (λ y. y.1) out) in (
      v,
      at_once,
      record {
        names = same ∙ ap (misfit_at v.pointer v.place) (sym (ap (λ y. y.error) same));
        before = m;
        reason = rw (is, same) refused;
        leaves = ap (λ y. y.1) is ∙ left;
      },
    )

decide : (o : Option ErrorKind) → (o ≡ None) ⊎ ((e : ErrorKind) × (o ≡ Some e))
decide None = inl refl
decide (Some e) = inr (e, refl)

refused_or : (v : Visit) (m m' : Meter) (x : Misfit) → check_place v.table v.pointer v.place m ≡ (Err x, m') → ((o : Shape) (m1 : Meter) → read Value v.place m ≡ (Ok o, m1) → kind_misfit v.pointer.kind v.place.segments o ≡ None → IsTrueFrom v m' x) → IsTrueFrom v m' x
refused_or v m m' x h deeper = go (read Value v.place m) refl
  where
    go : (y : Result Shape ErrorKind × Meter) → read Value v.place m ≡ y → IsTrueFrom v m' x
    go (Err k, m1) is = own v m m1 m' x k (Err k) is refl (unread v.table v.pointer v.place m m1 k is) h
    go (Ok o, m1) is = elim (decide (kind_misfit v.pointer.kind v.place.segments o)) [
      | inl suits ↦ deeper o m1 is suits
      | inr misses ↦ own v m m1 m' x misses.0 (Ok o) is misses.1 (unfit v.table v.pointer v.place m m1 o misses.0 is misses.1) h
    ]

blamed : (n : ℕ) (v : Visit) (m m' : Meter) (x : Misfit) → v.place.levels ≡ n → check_place v.table v.pointer v.place m ≡ (Err x, m') → IsTrueFrom v m' x
blamed zero v m m' x level h = refused_or v m m' x h (λ o m1 is suits. absurd (not_both (closed v.table v.pointer v.place m m1 o level is suits) h))
blamed (suc n) v m m' x level h = refused_or v m m' x h (λ o m1 is suits.
    let c = child_stop v o m1 m' x (sym (opened v.table v.pointer v.place m m1 o (omega (arith, level)) is suits) ∙ h) in
    let deep = c.level in
    let (u, comes, about) = blamed n c.visit c.before m' x (omega (arith, deep, level)) c.stops in
    (u, through v c.visit o (record { before = m; after = m1; is_read = is; suits = suits }) c.has comes, about))

pub refusal_is_true : (v : Visit) (m m' : Meter) (x : Misfit) → check_place v.table v.pointer v.place m ≡ (Err x, m') → IsTrueFrom v m' x
refusal_is_true v m m' x h = blamed v.place.levels v m m' x refl h
