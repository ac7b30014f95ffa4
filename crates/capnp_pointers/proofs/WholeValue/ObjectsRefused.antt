-- From a refused child to the object that it belongs to, and the refusals at the place itself.
-- Lemmas on `Means` name all its arguments: it is defined by recursion on the value, so the checker
-- can't find any of them from a premise.
use Rattle.std.proofs.Common.{◌≡◌, inl, inr, ℕ, zero, suc, pred, ◌+◌, ◌*◌, ◌<◌, ◌≤◌, Bool, true, false, cond, nat_eq, nat_lt, Option, Some, None, IfSome, length, refl, sym, ap, ◌∙◌, subst, arith, eq-eqb}
use Rattle.capnp_words.specs.declared.error.ErrorKind.{ErrorKind}
use Rattle.capnp_words.specs.declared.error.ErrorKind.TheVariants.{ReadLimitExceeded}
use Rattle.capnp_format.specs.Word.{kind, offset_bits, data_words, pointer_count, element_size, list_count, upper_half, far_position, is_double}
use Rattle.capnp_format.specs.Segments.{Segments, segment, word_at, Target, given, offset_leads, pad, near, far, leads}
use Rattle.capnp_format.specs.Tree.{Tree, Null, Capability, Struct, Flat, Pointers, Structs, Trees, Elements, count, element_count, capabilities, capabilities_all, capabilities_elements}
use Rattle.capnp_format.specs.Means.{Claims, ListAt, MeansAll}
use Rattle.capnp_words.specs.Meter.{Meter, Affords}
use Rattle.capnp_pointers.specs.Demands.{claimed_words, tag, amplified_charge, own_charge, Meets}
use Rattle.capnp_pointers.specs.Faults.{of_struct, of_list, of_element, here, below, Charges, LeadsTo, child_at, of_pads, of_object, of_elements}
use Rattle.capnp_pointers.specs.Wanted.{BreaksAt, FollowsTo}
use Rattle.capnp_pointers.specs.Outcomes.{MeansThere, Entered}
use Rattle.capnp_pointers.proofs.WholeValue.Unreadable.{Unreadable, UnreadableAll, UnreadableElements, Spends}
use Rattle.capnp_pointers.specs.Wanted.{Form}
use Rattle.capnp_pointers.specs.Spending.{Paid}
use Rattle.capnp_pointers.specs.Reading.{Reading, tag_size, word_of}
use Rattle.capnp_pointers.specs.declared.object.Purpose.TheVariants.{Value}
use Rattle.capnp_format.proofs.Sound.{if_bind, at_some}
use Rattle.capnp_pointers.proofs.OneObject.PartsMeant.{is_null, is_capability, is_inner, means_parts}
use Rattle.capnp_pointers.proofs.Following.LeadsWhereFollowed.{leads_there, entered_leads}
use Rattle.capnp_pointers.proofs.Following.FaultlessWhereMeant.{no_fault, one_target}
use Rattle.capnp_pointers.proofs.WholeValue.ObjectsRead.{own_struct, own_pointers, own_structs}
use Rattle.capnp_pointers.proofs.Budget.PaidAndLeft.{fewer_than_words, paid_both, paid_own, affords_rest}
use Rattle.capnp_pointers.proofs.WholeValue.Shorthands.{MeanThere, ElementsMean}

-- The word at a place is followed to a, the pointer is counted, and its pads are paid, from m to
-- m'.
pub record Reached (r : Reading) (m m' : Meter) (a : Target) : Type 0 where
  pub follows : FollowsTo r a
  pub paid : Paid r.charging m m' a.pads 1

abbrev InStruct : Reading → Target → ℕ → ℕ → Type 0
InStruct r a m c =
    (ts : Trees) × (k : ℕ) × (count ts ≡ pointer_count a.word) × MeanThere (child_at r a (pred r.levels) (a.start + data_words a.word)) ts k × (m ≡ capabilities_all ts)
    × (own_charge Value r.segments a + k ≤ c)

abbrev InPointers : Reading → Target → ℕ → ℕ → Type 0
InPointers r a m c = (ts : Trees) × (k : ℕ) × (count ts ≡ list_count a.word) × MeanThere (child_at r a (pred r.levels) a.start) ts k × (m ≡ capabilities_all ts) × (own_charge Value r.segments a + k ≤ c)

abbrev InStructs : Reading → Target → ℕ → ℕ → Type 0
InStructs r a m c =
    (es : Elements) × (k : ℕ) × (element_count es ≡ offset_bits (tag r.segments a)) × ElementsMean (child_at r a (pred r.levels) (a.start + 1)) (tag_size r.segments a) es k
    × (m ≡ capabilities_elements es) × (own_charge Value r.segments a + k ≤ c)

pub same_word : (r : Reading) (b a : Target) → LeadsTo r b → LeadsTo r a → b.word ≡ a.word
same_word r b a l m = ap (λ x. x.word) (one_target r b a l m)

in_struct : (r : Reading) {a : Target} (t : Tree) (c : ℕ) → LeadsTo r a → kind a.word ≡ 0 → MeansThere r t c → InStruct r a (capabilities t) c
in_struct r Null c l z h = absurd (l.0 h.0)
in_struct r {a} (Capability i) c l z (b, lb, e, g) = absurd (omega (arith, same_word r b a lb l, e, z))
in_struct r {a} (Struct ws ts) c l z (b, k, some, o, claims, e, all, g) =
    subst (λ x. InStruct r x (capabilities_all ts) c) (one_target r b a o.leads_to l)
    (ts, k, sym o.pointers, subst (λ d. MeansAll r.segments (pred r.levels) b.segment (b.start + d) ts k) (sym o.data_of) all, refl, omega (arith, own_struct r.segments b o.is_struct, o.data_of, o.pointers, g))
in_struct r {a} (Flat size ns) c l z (b, some, small, o, claims, e, g) = absurd (omega (arith, same_word r b a o.leads_to l, o.is_list, z))
in_struct r {a} (Pointers ts) c l z (b, k, some, o, claims, all, g) = absurd (omega (arith, same_word r b a o.leads_to l, o.is_list, z))
in_struct r {a} (Structs d q es) c l z (b, m, k, some, o, claims, t, fits, all, g) = absurd (omega (arith, same_word r b a o.leads_to l, o.is_list, z))

in_pointers : (r : Reading) {a : Target} (t : Tree) (c : ℕ) → ListAt r.segments r.segment r.at a 6 (list_count a.word) → MeansThere r t c → InPointers r a (capabilities t) c
in_pointers r Null c l h = absurd (l.leads_to.0 h.0)
in_pointers r {a} (Capability i) c l (b, lb, e, g) = absurd (omega (arith, same_word r b a lb l.leads_to, e, l.is_list))
in_pointers r {a} (Struct ws ts) c l (b, k, some, o, claims, e, all, g) = absurd (omega (arith, same_word r b a o.leads_to l.leads_to, o.is_struct, l.is_list))
in_pointers r {a} (Flat size ns) c l (b, some, small, o, claims, e, g) = absurd (omega (arith, same_word r b a o.leads_to l.leads_to, o.is_size, small, l.is_size))
in_pointers r {a} (Pointers ts) c l (b, k, some, o, claims, all, g) =
    subst (λ x. InPointers r x (capabilities_all ts) c) (one_target r b a o.leads_to l.leads_to)
    (ts, k, sym o.counts, all, refl, omega (arith, own_pointers r.segments b o.is_list o.is_size, o.counts, g))
in_pointers r {a} (Structs d q es) c l (b, m, k, some, o, claims, t, fits, all, g) = absurd (omega (arith, same_word r b a o.leads_to l.leads_to, o.is_size, l.is_size))

in_structs : (r : Reading) {a : Target} (t : Tree) (c : ℕ) → ListAt r.segments r.segment r.at a 7 (list_count a.word) → MeansThere r t c → InStructs r a (capabilities t) c
in_structs r Null c l h = absurd (l.leads_to.0 h.0)
in_structs r {a} (Capability i) c l (b, lb, e, g) = absurd (omega (arith, same_word r b a lb l.leads_to, e, l.is_list))
in_structs r {a} (Struct ws ts) c l (b, k, some, o, claims, e, all, g) = absurd (omega (arith, same_word r b a o.leads_to l.leads_to, o.is_struct, l.is_list))
in_structs r {a} (Flat size ns) c l (b, some, small, o, claims, e, g) = absurd (omega (arith, same_word r b a o.leads_to l.leads_to, o.is_size, small, l.is_size))
in_structs r {a} (Pointers ts) c l (b, k, some, o, claims, all, g) = absurd (omega (arith, same_word r b a o.leads_to l.leads_to, o.is_size, l.is_size))
in_structs r {a} (Structs d q es) c l (b, m, k, some, o, claims, t, fits, all, g) =
    subst (λ x. InStructs r x (capabilities_elements es) c) (one_target r b a o.leads_to l.leads_to) (
      es,
      k,
      sym t.counts,
      rw (t.data_of, t.pointers) all,
      refl,
      rw (own_structs r.segments b o.is_list o.is_size, t.data_of, t.pointers, t.counts, o.counts) (omega (arith, g)),
    )

-- what an object spends: its own words first, then at most as many pointers as it has
pub object_spends : {charging : Bool} {m m' m'' : Meter} {g : ℕ} (i : ℕ) → Paid charging m m' g 1 → i ≤ g → Spends charging m' m'' i → Spends charging m m'' 1
object_spends {charging} {m} {m'} {m''} {g} i first le (x, r, covers', e', few) =
    let then : Paid charging m' m'' x r = record { covers = covers'; spent = e' } in
    let paid = paid_both first then in
    (g + x, 1 + r, paid.covers, paid.spent, omega arith)

pub stopped_struct : {form : Form} {r : Reading} {m m' m'' : Meter} {a : Target} {k : ErrorKind} → Entered Value r m m' a → kind a.word ≡ 0 →
    UnreadableAll form (child_at r a (pred r.levels) (a.start + data_words a.word)) (pointer_count a.word) m' m'' k → Unreadable form r m m'' k
stopped_struct {form} {r} {m} {m'} {m''} {a} o z refused = record {
  named = below a refused.named.0 (entered_leads o) o.meets (of_struct z refused.named.1 refused.named.2) refused.named.3;
  only = λ t c h takes covers.
      let i = in_struct r {a = a} t c (entered_leads o) z h in
      refused.only i.0 i.1 i.2 i.3 (λ e. omega (arith, takes e, i.4)) (affords_rest i.1 c (paid_own o) i.5 covers);
  spent = object_spends (pointer_count a.word) (paid_own o) (omega (arith, own_struct r.segments a z)) refused.spent;
}

pub stopped_pointers : {form : Form} {r : Reading} {m m' m'' : Meter} {a : Target} {k : ErrorKind} → Entered Value r m m' a → kind a.word ≡ 1 → element_size a.word ≡ 6 →
    UnreadableAll form (child_at r a (pred r.levels) a.start) (list_count a.word) m' m'' k → Unreadable form r m m'' k
stopped_pointers {form} {r} {m} {m'} {m''} {a} o z six refused = record {
  named = below a refused.named.0 (entered_leads o) o.meets (of_list z six refused.named.1 refused.named.2) refused.named.3;
  only = λ t c h takes covers.
      let i = in_pointers r {a = a} t c (record { leads_to = entered_leads o; is_list = z; is_size = six; counts = refl }) h in
      refused.only i.0 i.1 i.2 i.3 (λ e. omega (arith, takes e, i.4)) (affords_rest i.1 c (paid_own o) i.5 covers);
  spent = object_spends (list_count a.word) (paid_own o) (omega (arith, own_pointers r.segments a z six)) refused.spent;
}

pub stopped_structs : {form : Form} {r : Reading} {m m' m'' : Meter} {a : Target} {k : ErrorKind} → Entered Value r m m' a → kind a.word ≡ 1 → element_size a.word ≡ 7 →
    UnreadableElements form (child_at r a (pred r.levels) (a.start + 1)) (tag_size r.segments a) (offset_bits (tag r.segments a)) m' m'' k → Unreadable form r m m'' k
stopped_structs {form} {r} {m} {m'} {m''} {a} o z seven refused =
    let S : Segments = r.segments in
    record {
      named = below a refused.named.2.0 (entered_leads o) o.meets (of_element refused.named.0 (z, seven) refused.named.1 refused.named.2.1 refused.named.2.2) refused.named.2.3;
      only = λ t c h takes covers.
          let i = in_structs r {a = a} t c (record { leads_to = entered_leads o; is_list = z; is_size = seven; counts = refl }) h in
          refused.only i.0 i.1 i.2 i.3 (λ e. omega (arith, takes e, i.4)) (affords_rest i.1 c (paid_own o) i.5 covers);
      spent =
          let fits = (o.meets.tagged (z, seven)).1 in
          let few = fewer_than_words (offset_bits (tag S a)) (data_words (tag S a)) (pointer_count (tag S a)) in
          object_spends (offset_bits (tag S a) * pointer_count (tag S a)) (paid_own o) (omega (arith, own_structs S a z seven, fits, few)) refused.spent;
    }

-- a demand is broken at the place itself
pub refused_here : {form : Form} {r : Reading} (m m' : Meter) {k : ErrorKind} → BreaksAt form k r → Spends r.charging m m' 1 → Unreadable form r m m' k
refused_here {form} {r} m m' {k} b spent = record {
  named = here (inl b);
  only = λ t c h takes covers. no_fault form k {r = r} (here b) (capabilities t) takes (t, c, h, omega arith);
  spent = spent;
}

-- a charge of the place itself exceeds what is left after g words
refused_charge : {form : Form} {r : Reading} {m m' : Meter} {x g : ℕ} → Charges r x → Paid r.charging m m' g 1 → (Affords r.charging m' x → ⊥) → ((t : Tree) (c : ℕ) → MeansThere r t c → g + x ≤ c) →
    Unreadable form r m m' ReadLimitExceeded
refused_charge {form} {r} {m} {m'} {x} {g} h paid short least = record {
  named = here (inr (refl, (x, h, short)));
  only = λ t c mean takes whole. short (affords_rest x c paid (least t c mean) whole);
  spent = (g, 1, paid.covers, paid.spent, omega arith);
}

-- the value that a place means costs at least its pads and the object's own words
own_within : (r : Reading) {a : Target} (t : Tree) (c : ℕ) → LeadsTo r a → kind a.word < 2 → MeansThere r t c → own_charge Value r.segments a ≤ c
own_within r {a} t c l object h = elim (means_parts r t c h) [
  | is_null z ↦ absurd (l.0 z)
  | is_capability b m low one g ↦ absurd (let e : b.word ≡ a.word = same_word r b a m l in omega (arith, low, e, object))
  | is_inner b m i ↦ let e : own_charge Value r.segments b ≡ own_charge Value r.segments a = ap (own_charge Value r.segments) (one_target r b a m l) in omega (arith, i.cost, e)
]

-- the object's claim exceeds the read limit
pub refused_claim : {form : Form} {r : Reading} {m m' : Meter} {a : Target} → Reached r m m' a → 0 < r.levels → kind a.word < 2 → Claims r.segments a (claimed_words a.word) → (Affords r.charging m' (claimed_words a.word) → ⊥) →
    Unreadable form r m m' ReadLimitExceeded
refused_claim {form} {r} {m} {m'} {a} o some object claims short =
    let l = leads_there r a o.follows (λ e. omega (arith, object)) in
    refused_charge (of_object a l some object claims refl) o.paid short (λ t c h. omega (arith, own_within r {a = a} t c l object h))

-- the charge for elements without bits exceeds the read limit
pub refused_elements : {form : Form} {r : Reading} {m m' : Meter} {a : Target} → LeadsTo r a → Meets Value r.segments r.levels a → Paid r.charging m m' (a.pads + claimed_words a.word) 1 → (Affords r.charging m' (amplified_charge Value r.segments a) → ⊥) →
    Unreadable form r m m' ReadLimitExceeded
refused_elements {form} {r} {m} {m'} {a} l o paid short = refused_charge (of_elements a l o refl) paid short (λ t c h. own_within r {a = a} t c l o.is_object h)

if_other : {A : Type 0} (P : A → Type 0) (b : Bool) (o : Option A) → IfSome o P → IfSome (cond b None o) P
if_other P true o h = tt
if_other P false o h = h

near_pads : (S : Segments) (s p x pads : ℕ) → IfSome (near S s p x pads) (λ a. a.pads ≡ pads)
near_pads S s p x pads = if_bind (λ a. a.pads ≡ pads) (offset_leads (length (segment S s)) p (offset_bits x)) (λ b. Some (record { word = x; segment = s; start = b; pads = pads })) (λ b e. refl)

far_pads : (S : Segments) (x double : ℕ) → double < 2 → IfSome (far S x double) (λ a. a.pads ≡ 1 + double)
far_pads S x zero h = if_bind (λ a. a.pads ≡ 1) (pad S x 0) _ (λ w e. if_other (λ a. a.pads ≡ 1) (nat_eq (kind w) 2) (near S (upper_half x) (far_position x) w 1) (near_pads S (upper_half x) (far_position x) w 1))
far_pads S x (suc d) h =
    let w = word_at S (upper_half x) (far_position x + 1) in
    if_bind (λ a. a.pads ≡ 1 + suc d) (pad S x 1) _ (λ f e. if_other (λ a. a.pads ≡ 1 + suc d) (nat_eq (kind w) 2) (given (nat_lt (upper_half f) (length S)) (record { word = w; segment = upper_half f; start = far_position f; pads = 2 }))
    (if_there (nat_lt (upper_half f) (length S)) (record { word = w; segment = upper_half f; start = far_position f; pads = 2 }) (omega arith)))
  where
    if_there : (b : Bool) (a : Target) → a.pads ≡ 1 + suc d → IfSome (given b a) (λ a. a.pads ≡ 1 + suc d)
    if_there true a e = e
    if_there false a e = tt

pub leads_pads : (S : Segments) (s p : ℕ) (a : Target) → leads S s p ≡ Some a → kind (word_at S s p) ≡ 2 → a.pads ≡ 1 + is_double (word_at S s p)
leads_pads S s p a l two =
    let x = word_at S s p in
    let e : leads S s p ≡ far S x (is_double x) = ap (λ b. cond b (far S x (is_double x)) (near S s p x 0)) (eq-eqb (kind x) 2 two) in
    at_some (λ b. b.pads ≡ 1 + is_double x) (far S x (is_double x)) a (sym e ∙ l) (far_pads S x (is_double x) (omega arith))

-- the landing pads exceed the read limit
pub refused_pads : {form : Form} {r : Reading} {m m' : Meter} {f : ℕ} → kind (word_of r) ≡ 2 → pad r.segments (word_of r) (is_double (word_of r)) ≡ Some f → Paid r.charging m m' 0 1 →
    (Affords r.charging m' (1 + is_double (word_of r)) → ⊥) → Unreadable form r m m' ReadLimitExceeded
refused_pads {form} {r} {m} {m'} {f} two there paid short =
    refused_charge (of_pads f two there refl) paid short (λ t c h. elim (means_parts r t c h) [
      | is_null z ↦ absurd (omega (arith, z, two))
      | is_capability a l low one g ↦ omega (arith, leads_pads r.segments r.segment r.at a l.1 two, g)
      | is_inner a l i ↦ omega (arith, leads_pads r.segments r.segment r.at a l.1 two, i.cost)
    ])
