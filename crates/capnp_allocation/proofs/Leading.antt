-- Where far pointers lead, by one pad and by two.
use Rattle.std.proofs.Common.{◌≡◌, ◌≢◌, ℕ, suc, ◌+◌, ◌<◌, ◌≤◌, cond, nat_eq, nat_lt, Bool, true, false, zero, length, Option, Some, None, refl, sym, ap, ◌∙◌, arith, eq-eqb, ne_eqb, lt-ltb}
use Rattle.std.proofs.lemmas.Bool.{ltb-true}
use Rattle.capnp_format.specs.Word.{kind, is_double, far_position, upper_half, offset_bits}
use Rattle.capnp_format.specs.Segments.{Segments, segment, word_at, Target, leads, offset_leads, near, far, pad, given, ◌>>=◌}
use Rattle.capnp_format.specs.Means.{Leads}
use Rattle.capnp_allocation.proofs.Zeros.{there}
use Rattle.capnp_format.proofs.Following.{IsOffsetTo, offset_at, bind_found}

-- Where a far pointer leads by one pad, and by two.
pub far_word : (S : Segments) (s p x : ℕ) (a : Target) → word_at S s p ≡ x → kind x ≡ 2 → far S x (is_double x) ≡ Some a → Leads S s p a
far_word S s p x a e is_far h = (
  λ z. let o : x ≡ 0 = cc in omega arith,
  ap (λ y. cond (nat_eq (kind y) 2) (far S y (is_double y)) (near S s p y 0)) e ∙ ap (λ y. cond y (far S x (is_double x)) (near S s p x 0)) (eq-eqb (kind x) 2 is_far) ∙ h,
)

pub single_far_leads : (S : Segments) (s p x v r b : ℕ) → word_at S s p ≡ x → kind x ≡ 2 → is_double x ≡ 0 → upper_half x ≡ v → far_position x ≡ r → r < length (segment S v) → kind (word_at S v r) ≢ 2 →
    b ≤ length (segment S v) → IsOffsetTo r (offset_bits (word_at S v r)) b → Leads S s p (record { word = word_at S v r; segment = v; start = b; pads = 1 })
single_far_leads S s p x v r b e is_far single to at place not_far fits o =
    let w = word_at S v r in
    let here : nat_lt (r + 0) (length (segment S v)) ≡ true = lt-ltb (r + 0) (length (segment S v)) (omega arith) in
    far_word S s p x (record { word = w; segment = v; start = b; pads = 1 }) e is_far
    (ap (far S x) single ∙ rw (to, at) (
    ap (λ y. given y w >>= λ z. cond (nat_eq (kind z) 2) None (near S v r z 1)) here
    ∙ ap (λ y. cond y None (near S v r w 1)) (ne_eqb (kind w) 2 not_far)
    ∙ ap (λ z. z >>= λ y. Some (record { word = w; segment = v; start = y; pads = 1 })) (offset_at (length (segment S v)) r (offset_bits w) b fits o)
    ))

passed : {A : Type 0} (b : Bool) (x y : A) → given b x ≡ Some y → (b ≡ true) × (x ≡ y)
passed true x y e = (refl, cc)
passed false x y e = cc

past : {A : Type 0} (b : Bool) (o : Option A) (y : A) → cond b None o ≡ Some y → o ≡ Some y
past true o y e = cc
past false o y e = e

-- A word that isn't a far pointer leads into its own segment.
near_segment : (S : Segments) (s p x pads : ℕ) (a : Target) → near S s p x pads ≡ Some a → a.segment ≡ s
near_segment S s p x pads a e =
    let (b, there, found) = bind_found (offset_leads (length (segment S s)) p (offset_bits x)) (λ b. Some (record { word = x; segment = s; start = b; pads = pads })) a e in
    let same : record { word = x; segment = s; start = b; pads = pads } ≡ a = cc in
    ap (λ (t : Target). t.segment) (sym same)

far_segment : (S : Segments) (x d : ℕ) (a : Target) → far S x d ≡ Some a → a.segment < length S
far_segment S x zero a e =
    let u = upper_half x in
    let r = far_position x in
    let (w, is_pad, found) = bind_found (pad S x 0) (λ w. cond (nat_eq (kind w) 2) None (near S u r w 1)) a e in
    let place = passed (nat_lt (r + 0) (length (segment S u))) (word_at S u r) w is_pad in
    omega (arith, there S u (r + 0) (ltb-true (r + 0) (length (segment S u)) place.0), near_segment S u r w 1 a (past (nat_eq (kind w) 2) (near S u r w 1) a found))
far_segment S x (suc d) a e =
    let w = word_at S (upper_half x) (far_position x + 1) in
    let second = λ (f : ℕ). given (nat_lt (upper_half f) (length S)) (record { word = w; segment = upper_half f; start = far_position f; pads = 2 }) in
    let (f, is_pad, found) = bind_found (pad S x 1) (λ f. cond (nat_eq (kind w) 2) None (second f)) a e in
    let place = passed (nat_lt (upper_half f) (length S)) (record { word = w; segment = upper_half f; start = far_position f; pads = 2 }) a (past (nat_eq (kind w) 2) (second f) a found) in
    omega (arith, ltb-true (upper_half f) (length S) place.0, ap (λ (t : Target). t.segment) place.1)

-- The segment that a pointer leads to exists.
pub leads_segment : (S : Segments) (s p : ℕ) (a : Target) → s < length S → leads S s p ≡ Some a → a.segment < length S
leads_segment S s p a l e = go (nat_eq (kind x) 2) e
  where
    x : ℕ
    x = word_at S s p

    go : (b : Bool) → cond b (far S x (is_double x)) (near S s p x 0) ≡ Some a → a.segment < length S
    go true h = far_segment S x (is_double x) a h
    go false h = omega (arith, l, near_segment S s p x 0 a h)
