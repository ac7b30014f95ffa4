-- Where a path leads in a message that has a value.
use Rattle.std.proofs.Common.{◌≡◌, ◌⊎◌, inl, inr, ℕ, zero, suc, pred, ◌+◌, ◌*◌, ◌%◌, ◌^◌, ◌<◌, ◌≤◌, nat_eq, nat_lt, List, [], ◌∷◌, length, Option, Some, None, Bool, true, false, Result, Ok, Err, refl, sym, ap, ap₂, ◌∙◌, subst, arith, lt-ltb}
use Rattle.std.proofs.lemmas.Bool.{cases_lt, ne_eqb}
use Rattle.capnp_words.specs.declared.error.ErrorKind.{ErrorKind}
use Rattle.capnp_words.specs.declared.error.ErrorKind.TheVariants.{NoSuchPlace, ReadLimitExceeded}
use Rattle.capnp_words.specs.Meter.{Affords, FitsIn, Meter, spent}
use Rattle.capnp_format.specs.Word.{kind, data_words, pointer_count, element_size, list_count, offset_bits, upper_half}
use Rattle.capnp_format.specs.Segments.{HasWords, Segments, Target, segment}
use Rattle.capnp_format.specs.Tree.{Tree, Null, Capability, Struct, Flat, Pointers, Structs, Trees, no_trees, tree, Elements, no_elements, element, count, element_count}
use Rattle.capnp_format.specs.Means.{IsTag, Means, MeansAll, MeansElements, count_cost}
use Rattle.capnp_format.specs.Numbers.{words_for}
use Rattle.capnp_format.specs.Path.{struct_at, tree_at}
use Rattle.capnp_pointers.specs.Demands.{Meets, claimed_words, own_charge, tag}
use Rattle.capnp_pointers.specs.Enter.{Shape, capability, flat, nothing, pointers, read, shape, struct, structs}
use Rattle.capnp_pointers.specs.Faults.{LeadsTo}
use Rattle.capnp_pointers.specs.Metered.{fits, onward, outcome}
use Rattle.capnp_pointers.specs.Outcomes.{MeansThere}
use Rattle.capnp_pointers.specs.Reading.{Reading, place_past}
use Rattle.capnp_pointers.specs.Refusals.{Stopped, claim_exceeds, count_exceeds, exceeding, no_target}
use Rattle.capnp_pointers.specs.Spending.{Paid, after_charge}
use Rattle.capnp_pointers.specs.Wanted.{FollowsTo, plain}
use Rattle.capnp_pointers.specs.declared.object.Purpose.TheVariants.{Value}
use Rattle.capnp_pointers.proofs.Budget.PaidAndLeft.{affords_none, affords_rest}
use Rattle.capnp_pointers.proofs.OneObject.ReadAsStated.{capability_is, entering_is, null_is, pads_are, stopped_is}
use Rattle.capnp_pointers.proofs.Following.FaultlessWhereMeant.{one_target}
use Rattle.capnp_pointers.proofs.Following.LeadsWhereFollowed.{leads_to}
use Rattle.capnp_pointers.proofs.OneObject.ReadInOneWay.{affords_or_not}
use Rattle.capnp_pointers.proofs.OneObject.PartsMeant.{claim_flat, claim_list, claim_struct, extra_flat, extra_list, extra_struct, is_capability, is_inner, is_null, means_parts}
use Rattle.capnp_pointers.proofs.WholeValue.UnreadableIfRefused.{affords_less}
use Rattle.capnp_messages.specs.EndValues.{EndMeans, end_place}
use Rattle.capnp_messages.specs.Parts.{PathEnd, part_of, to_pointer, to_element, pointer_in, end_at, end_in, inside, follow_path, part}
use Rattle.capnp_messages.specs.Roots.{CoversRoot, message_root, read_message_root}
use Rattle.capnp_messages.proofs.CanonLemmas.{covers_rest}
use Rattle.capnp_messages.proofs.SizeLemmas.{fits_one}

-- An object that meets its demands is read, or its words exceed the limit.
pub data Opened (r : Reading) (m : Meter) (o : Shape) (n : ℕ) : Type 0 where
  opened : (m' : Meter) → Paid r.charging m m' n 1 → read Value r m ≡ (Ok o, m') → Opened r m o n
  exceeded : (m' : Meter) → (Affords r.charging m n → ⊥) → read Value r m ≡ (Err ReadLimitExceeded, m') → Opened r m o n

stops : {r : Reading} {m m' : Meter} {o : Shape} {n : ℕ} → (Affords r.charging m n → ⊥) → Stopped Value plain r m m' ReadLimitExceeded → Opened r m o n
stops {r} {m} {m'} short stopped = exceeded m' short (stopped_is Value r m m' ReadLimitExceeded (λ e. absurd (cc e)) stopped)

pads_exceed : {r : Reading} {m : Meter} {a : Target} {o : Shape} {n : ℕ} → FollowsTo r a → a.pads ≤ n → (Affords r.charging m a.pads → ⊥) → Opened r m o n
pads_exceed {r} {m} {a} {n = n} f least short =
    stops (λ h. short (affords_less r.charging m a.pads n least h))
    (no_target (exceeding f.0 (λ h. short (subst (Affords r.charging m) (pads_are r a f.1) h)) (record { covers = affords_none r.charging m; spent = refl }) refl))

pub object_opens : (r : Reading) (m : Meter) (a : Target) → LeadsTo r a → Meets Value r.segments r.levels a → Opened r m (shape r.segments a) (own_charge Value r.segments a)
object_opens r m a leads meets =
    let f = leads_to r a leads in
    elim (affords_or_not r.charging m (own_charge Value r.segments a)) [
      | inl all ↦ opened (after_charge r.charging m (own_charge Value r.segments a) 1) (record { covers = all; spent = refl }) (entering_is Value r m _ a (record { follows = f; meets = meets; covers = all; spent = refl }))
      | inr short ↦ elim (affords_or_not r.charging m (a.pads + claimed_words a.word)) [
        | inl claimed ↦ stops short (count_exceeds a f meets short (record { covers = claimed; spent = refl }) refl)
        | inr over ↦ elim (affords_or_not r.charging m a.pads) [
          | inl pads ↦ stops short (claim_exceeds a f meets.levels meets.is_object meets.claims over (record { covers = pads; spent = refl }) refl)
          | inr none ↦ pads_exceed f (omega arith) none
        ]
      ]
    ]

capability_opens : (r : Reading) (m : Meter) (a : Target) → LeadsTo r a → a.word % 2 ^ 32 ≡ 3 → Opened r m (capability (upper_half a.word)) a.pads
capability_opens r m a leads low =
    let f = leads_to r a leads in
    elim (affords_or_not r.charging m a.pads) [
      | inl pads ↦ opened (after_charge r.charging m a.pads 1) (record { covers = pads; spent = refl }) (capability_is Value r a m (λ e. absurd (cc e)) f low pads)
      | inr none ↦ pads_exceed f (omega arith) none
    ]

-- A child, and its cost, which is part of that of all children.
child_costs : (S : Segments) (n s p : ℕ) (ts : Trees) (c i : ℕ) → i < count ts → MeansAll S n s p ts c → (k : ℕ) × Means S n s (p + i) (tree_at ts i) k × (k ≤ c)
child_costs S n s p no_trees c i less h = absurd (omega arith)
child_costs S n s p (tree t ts) c zero less (a, b, one, rest, g) = (a, subst (λ q. Means S n s q t a) (let e : p ≡ p + 0 = omega arith in e) one, omega arith)
child_costs S n s p (tree t ts) c (suc i) less (a, b, one, rest, g) =
    let r = child_costs S n s (p + 1) ts b i (omega arith) rest in
    (r.0, subst (λ q. Means S n s q (tree_at ts i) r.0) (let e : p + 1 + i ≡ p + suc i = omega arith in e) r.1, omega (arith, r.2))

-- An element, and the cost of its pointers, which is part of that of all elements.
record MeansElement (S : Segments) (n s p d q : ℕ) (t : Tree) (c : ℕ) : Type 0 where
  ws : List ℕ
  ts : Trees
  is : t ≡ Struct ws ts
  long : length ws ≡ d
  many : count ts ≡ q
  here : HasWords S s p ws
  cost : ℕ
  means : MeansAll S n s (p + d) ts cost
  within : cost ≤ c

element_costs : (S : Segments) (n s p d q : ℕ) (es : Elements) (c i : ℕ) → i < element_count es → MeansElements S n s p d q es c →
    MeansElement S n s (p + i * (d + q)) d q (struct_at es i) c
element_costs S n s p d q no_elements c i less m = absurd (omega arith)
element_costs S n s p d q (element ws ts es) c zero less (a, b, long, len, here, all, rest, g) =
    let e : p ≡ p + 0 * (d + q) = omega arith in
    record {
      ws = ws;
      ts = ts;
      is = refl;
      long = long;
      many = len;
      here = subst (λ z. HasWords S s z ws) e here;
      cost = a;
      means = subst (λ z. MeansAll S n s (z + d) ts a) e all;
      within = omega (arith, g);
    }
element_costs S n s p d q (element ws ts es) c (suc i) less (a, b, long, len, here, all, rest, g) =
    let r = element_costs S n s (p + d + q) d q es b i (omega arith) rest in
    let e : p + d + q + i * (d + q) ≡ p + suc i * (d + q) = omega arith in
    record {
      ws = r.ws;
      ts = r.ts;
      is = r.is;
      long = r.long;
      many = r.many;
      here = subst (λ z. HasWords S s z r.ws) e r.here;
      cost = r.cost;
      means = subst (λ z. MeansAll S n s (z + d) r.ts r.cost) e r.means;
      within = omega (arith, r.within, g);
    }

-- How a path ends that leads to the value v, if anywhere, where reading all costs c.
pub data Ends (v : Option Tree) (S : Segments) (charging : Bool) (m : Meter) (c : ℕ) : Result PathEnd ErrorKind × Meter → Type 0 where
  found : (x : PathEnd) (u : Tree) (k : ℕ) (n : Meter) → v ≡ Some u → EndMeans x u k → (end_place x).segments ≡ S → (end_place x).charging ≡ charging → (Affords charging m c → Affords charging n k) → Ends v S charging m c (Ok x, n)
  nowhere : (n : Meter) → v ≡ None → Ends v S charging m c (Err NoSuchPlace, n)
  exceeds : (n : Meter) → (Affords charging m c → ⊥) → Ends v S charging m c (Err ReadLimitExceeded, n)

-- The same for more words, if the others were charged before.
further : {v : Option Tree} {S : Segments} {charging : Bool} {m m' : Meter} {g i k : ℕ} {x : Result PathEnd ErrorKind × Meter} (c : ℕ) → Paid charging m m' g i → g + k ≤ c →
    Ends v S charging m' k x → Ends v S charging m c x
further {k = k} c paid least (found x u l n is means same charged rest) = found x u l n is means same charged (λ h. rest (affords_rest k c paid least h))
further c paid least (nowhere n is) = nowhere n is
further {k = k} c paid least (exceeds n short) = exceeds n (λ h. short (affords_rest k c paid least h))

wider : {v : Option Tree} {S : Segments} {charging : Bool} {m : Meter} {k : ℕ} {x : Result PathEnd ErrorKind × Meter} (c : ℕ) → k ≤ c → Ends v S charging m k x → Ends v S charging m c x
wider {charging = charging} {m = m} {k = k} c least (found x u l n is means same charged rest) = found x u l n is means same charged (λ h. rest (affords_less charging m k c least h))
wider c least (nowhere n is) = nowhere n is
wider {charging = charging} {m = m} {k = k} c least (exceeds n short) = exceeds n (λ h. short (affords_less charging m k c least h))

not_less : (i n : ℕ) → n ≤ i → nat_lt i n ≡ false
not_less i n h = grind (arith, h)

-- The shapes of objects.
struct_shape : (S : Segments) (a : Target) → kind a.word ≡ 0 → shape S a ≡ struct a.segment a.start (data_words a.word) (pointer_count a.word)
struct_shape S a z = rw z refl

pointers_shape : (S : Segments) (a : Target) → kind a.word ≡ 1 → element_size a.word ≡ 6 → shape S a ≡ pointers a.segment a.start (list_count a.word)
pointers_shape S a one six = rw (one, six) refl

flat_shape : (S : Segments) (a : Target) (size : ℕ) → size ≤ 5 → kind a.word ≡ 1 → element_size a.word ≡ size → shape S a ≡ flat a.segment a.start size (list_count a.word)
flat_shape S a size small one is =
    let other : nat_eq size 7 ≡ false = ne_eqb _ _ (λ e. omega arith) in
    let another : nat_eq size 6 ≡ false = ne_eqb _ _ (λ e. omega arith) in
    rw (one, is, other, another) refl

flat_cost : (r : Reading) (a : Target) (size : ℕ) {n c : ℕ} → size ≤ 5 → kind a.word ≡ 1 → element_size a.word ≡ size → list_count a.word ≡ n →
    c ≡ a.pads + words_for size n + count_cost size n → own_charge Value r.segments a ≤ c
flat_cost r a size small one is counts g =
    rw (claim_list a.word size one is, claim_flat size (list_count a.word) small, extra_list Value r.segments a size one is, extra_flat Value r.segments a size small, counts) (omega (arith, g))

structs_shape : (S : Segments) (a : Target) → kind a.word ≡ 1 → element_size a.word ≡ 7 →
    shape S a ≡ structs a.segment (a.start + 1) (data_words (tag S a)) (pointer_count (tag S a)) (offset_bits (tag S a))
structs_shape S a one seven = rw (one, seven) refl

same_structs : {g n d q : ℕ} (a : Target) → IsTag g n d q →
    structs a.segment (a.start + 1) (data_words g) (pointer_count g) (offset_bits g) ≡ structs a.segment (a.start + 1) d q n
same_structs a t = rw (t.data_of, t.pointers, t.counts) refl

structs_cost : (r : Reading) (a : Target) {n m : ℕ} (d q k : ℕ) {c : ℕ} → kind a.word ≡ 1 → element_size a.word ≡ 7 → IsTag (tag r.segments a) n d q → list_count a.word ≡ m →
    c ≡ a.pads + (m + 1) + count_cost (d + q) n + k → own_charge Value r.segments a + k ≡ c
structs_cost r a d q k one seven t counts g =
    rw (claim_list a.word 7 one seven, extra_list Value r.segments a 7 one seven, t.counts, t.data_of, t.pointers, counts) (omega (arith, g))

-- What follows once an object was opened.
opened_on : (r : Reading) (m m' : Meter) (o : Shape) (i : ℕ) (path : List ℕ) → read Value r m ≡ (Ok o, m') →
    follow_path (to_pointer r) (i ∷ path) m ≡ onward (λ e. follow_path e path) (end_in r o i, m')
opened_on r m m' o i path e = ap (λ x. onward (λ e. follow_path e path) (onward (λ o. outcome (end_in r o i)) x)) e

exceeded_on : (r : Reading) (m m' : Meter) (k : ErrorKind) (i : ℕ) (path : List ℕ) → read Value r m ≡ (Err k, m') →
    follow_path (to_pointer r) (i ∷ path) m ≡ (Err k, m')
exceeded_on r m m' k i path e = ap (λ x. onward (λ e. follow_path e path) (onward (λ o. outcome (end_in r o i)) x)) e

-- The rest of a path from an object of n words whose opening is known.
after_opening : {v : Option Tree} {r : Reading} {m : Meter} {o : Shape} {n : ℕ} (c i : ℕ) (path : List ℕ) → n ≤ c → Opened r m o n →
    ((m' : Meter) → Paid r.charging m m' n 1 → Ends v r.segments r.charging m c (onward (λ e. follow_path e path) (end_in r o i, m'))) →
    Ends v r.segments r.charging m c (follow_path (to_pointer r) (i ∷ path) m)
after_opening {v} {r} {m} {n = n} c i path least (opened m' paid e) rest = subst (Ends v r.segments r.charging m c) (sym (opened_on r m m' _ i path e)) (rest m' paid)
after_opening {v} {r} {m} {n = n} c i path least (exceeded m' short e) rest = subst (Ends v r.segments r.charging m c) (sym (exceeded_on r m m' _ i path e)) (exceeds m' (λ h. short (affords_less r.charging m n c least h)))

-- The pointer at an index of a run, if its first ends are known.
in_run : {v : Option Tree} {S : Segments} {charging : Bool} {m : Meter} {c : ℕ} (m' : Meter) (r : Reading) (n i : ℕ) (path : List ℕ) →
    (i < n → Ends v S charging m c (follow_path (to_pointer (place_past r i)) path m')) → (n ≤ i → v ≡ None) →
    Ends v S charging m c (onward (λ e. follow_path e path) (end_at (pointer_in r n i), m'))
in_run {v} {S} {charging} {m} {c} m' r n i path inside outside = elim (cases_lt i n) [
  | inl less ↦ let e : nat_lt i n ≡ true = lt-ltb _ _ less in rw e (inside less)
  | inr most ↦ let e : nat_lt i n ≡ false = not_less i n most in rw e (nowhere m' (outside most))
]

-- An object that the value of a place names meets its demands.
meets_there : (r : Reading) (t : Tree) (c : ℕ) (a : Target) → MeansThere r t c → LeadsTo r a → kind a.word < 2 → Meets Value r.segments r.levels a
meets_there r t c a means leads object = elim (means_parts r t c means) [
  | is_null z ↦ absurd (leads.0 z)
  | is_capability b l low one g ↦ absurd (let e : kind b.word ≡ kind a.word = ap (λ (x : Target). kind x.word) (one_target r b a l leads) in omega (arith, e, low, object))
  | is_inner b l inner ↦ subst (Meets Value r.segments r.levels) (one_target r b a l leads) inner.meets
]

mutual
  pub pointer_ends : (path : List ℕ) (r : Reading) (t : Tree) (c : ℕ) (m : Meter) → MeansThere r t c → Ends (part_of t path) r.segments r.charging m c (follow_path (to_pointer r) path m)
  pointer_ends [] r t c m means = found (to_pointer r) t c m refl means refl refl (λ h. h)
  pointer_ends (i ∷ path) r Null c m means = subst (Ends None r.segments r.charging m c) (sym (opened_on r m m nothing i path (null_is Value r m means.0))) (nowhere m refl)
  pointer_ends (i ∷ path) r (Capability index) c m (a, leads, is, g) =
      after_opening c i path (omega (arith, g)) (capability_opens r m a leads (omega (arith, is))) (λ m' paid. nowhere m' refl)
  pointer_ends (i ∷ path) r (Flat size ns) c m (a, some, small, o, claims, e, g) =
      let meets = meets_there r (Flat size ns) c a (a, some, small, o, claims, e, g) o.leads_to (omega (arith, o.is_list)) in
      after_opening c i path (flat_cost r a size small o.is_list o.is_size o.counts g)
      (subst (λ s. Opened r m s (own_charge Value r.segments a)) (flat_shape r.segments a size small o.is_list o.is_size) (object_opens r m a o.leads_to meets))
      (λ m' paid. nowhere m' refl)
  pointer_ends (i ∷ path) r (Struct ws ts) c m (a, k, some, o, claims, e, all, g) =
      let meets = meets_there r (Struct ws ts) c a (a, k, some, o, claims, e, all, g) o.leads_to (omega (arith, o.is_struct)) in
      let cost : own_charge Value r.segments a + k ≡ c = omega (arith, claim_struct a.word o.is_struct, extra_struct Value r.segments a o.is_struct, o.data_of, o.pointers, g) in
      let inner : Reading = inside r a.segment (a.start + length ws) in
      after_opening c i path (omega (arith, cost))
      (subst (λ s. Opened r m s (own_charge Value r.segments a)) (struct_shape r.segments a o.is_struct ∙ ap₂ (λ d q. struct a.segment a.start d q) o.data_of o.pointers) (object_opens r m a o.leads_to meets))
      (λ m' paid. in_run m' inner (count ts) i path
      (λ less.
      let (l, means, least) = child_costs r.segments (pred r.levels) a.segment (a.start + length ws) ts k i less all in
      let e : nat_lt i (count ts) ≡ true = lt-ltb _ _ less in
      rw e (further c paid (omega (arith, cost, least)) (pointer_ends path (place_past inner i) (tree_at ts i) l m' means)))
      (λ most. let e : nat_lt i (count ts) ≡ false = not_less i _ most in rw e refl))
  pointer_ends (i ∷ path) r (Pointers ts) c m (a, k, some, o, claims, all, g) =
      let meets = meets_there r (Pointers ts) c a (a, k, some, o, claims, all, g) o.leads_to (omega (arith, o.is_list)) in
      let cost : own_charge Value r.segments a + k ≡ c = omega (arith, claim_list a.word 6 o.is_list o.is_size, extra_list Value r.segments a 6 o.is_list o.is_size, o.counts, g) in
      let inner : Reading = inside r a.segment a.start in
      after_opening c i path (omega (arith, cost))
      (subst (λ s. Opened r m s (own_charge Value r.segments a)) (pointers_shape r.segments a o.is_list o.is_size ∙ ap (λ n. pointers a.segment a.start n) o.counts) (object_opens r m a o.leads_to meets))
      (λ m' paid. in_run m' inner (count ts) i path
      (λ less.
      let (l, means, least) = child_costs r.segments (pred r.levels) a.segment a.start ts k i less all in
      let e : nat_lt i (count ts) ≡ true = lt-ltb _ _ less in
      rw e (further c paid (omega (arith, cost, least)) (pointer_ends path (place_past inner i) (tree_at ts i) l m' means)))
      (λ most. let e : nat_lt i (count ts) ≡ false = not_less i _ most in rw e refl))
  pointer_ends (i ∷ path) r (Structs d q es) c m (a, n, k, some, o, claims, t, fits, all, g) =
      let meets = meets_there r (Structs d q es) c a (a, n, k, some, o, claims, t, fits, all, g) o.leads_to (omega (arith, o.is_list)) in
      let cost : own_charge Value r.segments a + k ≡ c = structs_cost r a d q k o.is_list o.is_size t o.counts (omega (arith, g)) in
      after_opening c i path (omega (arith, cost))
      (subst (λ s. Opened r m s (own_charge Value r.segments a)) (structs_shape r.segments a o.is_list o.is_size ∙ same_structs a t) (object_opens r m a o.leads_to meets))
      (λ m' paid. elim (cases_lt i (element_count es)) [
        | inl less ↦
            let e : nat_lt i (element_count es) ≡ true = lt-ltb _ _ less in
            let x = element_costs r.segments (pred r.levels) a.segment (a.start + 1) d q es k i less all in
            let first : Reading = inside r a.segment (a.start + 1 + i * (d + q)) in
            rw (e, x.is) (further c paid (omega (arith, cost, x.within)) (element_ends path first d q x.ws x.ts x.cost m' x.long x.many x.here x.means))
        | inr most ↦ let e : nat_lt i (element_count es) ≡ false = not_less i _ most in rw e (nowhere m' refl)
      ])

  element_ends : (path : List ℕ) (r : Reading) (d q : ℕ) (ws : List ℕ) (ts : Trees) (c : ℕ) (m : Meter) → length ws ≡ d → count ts ≡ q → HasWords r.segments r.segment r.at ws →
      MeansAll r.segments r.levels r.segment (r.at + d) ts c → Ends (part_of (Struct ws ts) path) r.segments r.charging m c (follow_path (to_element r d q) path m)
  element_ends [] r d q ws ts c m long many here means = found (to_element r d q) (Struct ws ts) c m refl (ws, ts, refl, long, many, here, means) refl refl (λ h. h)
  element_ends (j ∷ path) r d q ws ts c m long many here means =
      in_run m (place_past r d) q j path
      (λ less.
      let (l, child, least) = child_costs r.segments r.levels r.segment (r.at + d) ts c j (omega (arith, less, many)) means in
      let e : nat_lt j (count ts) ≡ true = lt-ltb _ _ (omega (arith, less, many)) in
      rw e (wider c least (pointer_ends path (place_past (place_past r d) j) (tree_at ts j) l m child)))
      (λ most. let e : nat_lt j (count ts) ≡ false = not_less j _ (omega (arith, most, many)) in rw e refl)

-- The root pointer is read.
root_read : (S : Segments) (n : ℕ) (m : Meter) → CoversRoot S m.left → read_message_root S n m ≡ (Ok (message_root S n), spent m 1)
root_read S n m covers =
    let there : nat_lt 0 (length (segment S 0)) ≡ true = lt-ltb _ _ covers.root in
    let covered : fits m.left 1 ≡ true = fits_one m.left covers.covered in
    rw (there, covered) refl

part_read : (S : Segments) (n : ℕ) (path : List ℕ) (m : Meter) → CoversRoot S m.left → part S n path m ≡ follow_path (to_pointer (message_root S n)) path (spent m 1)
part_read S n path m covers = ap (onward (λ r. follow_path (to_pointer r) path)) (root_read S n m covers)

-- How the path of a part ends.
root_ends : (S : Segments) (n c : ℕ) (t : Tree) (path : List ℕ) (m : Meter) → Means S n 0 0 t c → CoversRoot S m.left → Ends (part_of t path) S true (spent m 1) c (part S n path m)
root_ends S n c t path m means covers =
    subst (Ends (part_of t path) S true (spent m 1) c) (sym (part_read S n path m covers)) (pointer_ends path (message_root S n) t c (spent m 1) means)

found_there : {v : Option Tree} {S : Segments} {m m' : Meter} {c : ℕ} {f : PathEnd} (x : Result PathEnd ErrorKind × Meter) → Ends v S true m c x → x ≡ (Ok f, m') →
    (u : Tree) × (k : ℕ) × (v ≡ Some u) × EndMeans f u k × ((end_place f).segments ≡ S) × ((end_place f).charging ≡ true) × (FitsIn m.left c → FitsIn m'.left k)
found_there {S = S} {m' = m'} {f = f} _ (found x u k n is means same charged rest) e =
    let place : x ≡ f = (let both = ap (λ p. p.0) e in cc both) in
    let left : n ≡ m' = ap (λ p. p.1) e in (
      u,
      k,
      is,
      subst (λ (y : PathEnd). EndMeans y u k) place means,
      subst (λ (y : PathEnd). (end_place y).segments ≡ S) place same,
      subst (λ (y : PathEnd). (end_place y).charging ≡ true) place charged,
      λ h. subst (λ (y : Meter). FitsIn y.left k) left (rest h),
    )
found_there _ (nowhere n is) e = absurd (let wrong = ap (λ p. p.0) e in cc wrong)
found_there _ (exceeds n short) e = absurd (let wrong = ap (λ p. p.0) e in cc wrong)

refused_there : {v : Option Tree} {S : Segments} {m m' : Meter} {c : ℕ} {k : ErrorKind} (x : Result PathEnd ErrorKind × Meter) → Ends v S true m c x → x ≡ (Err k, m') →
    ((k ≡ NoSuchPlace) × (v ≡ None)) ⊎ ((k ≡ ReadLimitExceeded) × (FitsIn m.left c → ⊥))
refused_there _ (found x u l n is means same charged rest) e = absurd (let wrong = ap (λ p. p.0) e in cc wrong)
refused_there {k = k} _ (nowhere n is) e = inl (let named : k ≡ NoSuchPlace = (let both = ap (λ p. p.0) e in cc both) in named, is)
refused_there {k = k} _ (exceeds n short) e = inr (let named : k ≡ ReadLimitExceeded = (let both = ap (λ p. p.0) e in cc both) in named, short)

pub part_found : (S : Segments) (n c : ℕ) (t : Tree) (path : List ℕ) (m m' : Meter) (f : PathEnd) → Means S n 0 0 t c → CoversRoot S m.left → part S n path m ≡ (Ok f, m') →
    (u : Tree) × (k : ℕ) × (part_of t path ≡ Some u) × EndMeans f u k × ((end_place f).segments ≡ S) × ((end_place f).charging ≡ true) × (FitsIn m.left (1 + c) → FitsIn m'.left k)
part_found S n c t path m m' f means covers e =
    let (u, k, is, there, same, charged, rest) = found_there _ (root_ends S n c t path m means covers) e in
    (u, k, is, there, same, charged, λ h. rest (covers_rest m.left c h))

pub part_stops : (S : Segments) (n c : ℕ) (t : Tree) (path : List ℕ) (m m' : Meter) (k : ErrorKind) → Means S n 0 0 t c → CoversRoot S m.left → part S n path m ≡ (Err k, m') →
    ((k ≡ NoSuchPlace) × (part_of t path ≡ None)) ⊎ ((k ≡ ReadLimitExceeded) × (FitsIn m.left (1 + c) → ⊥))
part_stops S n c t path m m' k means covers e = elim (refused_there _ (root_ends S n c t path m means covers) e) [
  | inl none ↦ inl none
  | inr (named, short) ↦ inr (named, λ h. short (covers_rest m.left c h))
]
