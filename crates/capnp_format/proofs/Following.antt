-- Where a pointer leads: facts about numbers.
use Rattle.std.proofs.Common.{◌≡◌, ℕ, zero, suc, ◌+◌, ◌^◌, ◌<◌, ◌≤◌, ◌⊎◌, inl, inr, Bool, true, false, cond, nat_eq, nat_lt, length, Option, Some, None, refl, ap, ◌∙◌, arith, lt-ltb, ltb-true, eqb-true, le_trans, lt_of_lt_of_le, add-zero}
use Rattle.std.proofs.lemmas.Bool.{cases_lt}
use Rattle.std.proofs.lemmas.Bool.Decides.{nat_tests}
pub use Rattle.capnp_format.specs.Segments.{Grows}
use Rattle.capnp_format.specs.Segments.{Segments, segment, word_at, Target, offset_leads, given, near, far, pad, leads, ◌>>=◌}
use Rattle.capnp_format.specs.Word.{kind, is_double, far_position, upper_half, offset_bits}

-- b is where an offset with these bits leads from position p
abbrev pub IsOffsetTo : ℕ → ℕ → ℕ → Type 0
IsOffsetTo p bits b = ((bits < 2 ^ 29) × (b ≡ p + 1 + bits)) ⊎ ((2 ^ 29 ≤ bits) × (b + 2 ^ 30 ≡ p + 1 + bits))

forward : (n p bits b : ℕ) → bits < 2 ^ 29 → offset_leads n p bits ≡ Some b → (b ≤ n) × (b ≡ p + 1 + bits)
forward n p bits b l h = (grind (arith, nat_tests), grind (arith, nat_tests))

back : (n p bits b : ℕ) → 2 ^ 29 ≤ bits → offset_leads n p bits ≡ Some b → (b ≤ n) × (b + 2 ^ 30 ≡ p + 1 + bits)
back n p bits b l h = (grind (arith, nat_tests), grind (arith, nat_tests))

pub offset_is : (n p bits b : ℕ) → offset_leads n p bits ≡ Some b → (b ≤ n) × IsOffsetTo p bits b
offset_is n p bits b h =
    elim (cases_lt bits (2 ^ 29)) [
      | inl l ↦ (let f = forward n p bits b l h in (f.0, inl (l, f.1)))
      | inr l ↦ (let f = back n p bits b l h in (f.0, inr (l, f.1)))
    ]

pub offset_at : (n p bits b : ℕ) → b ≤ n → IsOffsetTo p bits b → offset_leads n p bits ≡ Some b
offset_at n p bits b le h = grind (arith, nat_tests)

-- if a test and what follows it succeed, others succeed that agree with them
pub bind_kept : {A B : Type 0} {r : Option A} {y : B} (o : Option A) (f g : A → Option B) → ((x : A) → o ≡ Some x → r ≡ Some x) → ((x : A) → o ≡ Some x → f x ≡ Some y → g x ≡ Some y) →
    (o >>= f) ≡ Some y → (r >>= g) ≡ Some y
bind_kept (Some x) f g same more h = ap (λ o. o >>= g) (same x refl) ∙ more x refl h
bind_kept None f g same more h = cc

pub given_kept : {A : Type 0} {y : A} (b c : Bool) (x z : A) → (b ≡ true → (c ≡ true) × (z ≡ x)) → given b x ≡ Some y → given c z ≡ Some y
given_kept true c x z same h = ap (λ r. given r z) (same refl).0 ∙ ap Some (same refl).1 ∙ h
given_kept false c x z same h = cc

near_kept : {S R : Segments} {a : Target} (s p x pads : ℕ) → Grows S R → near S s p x pads ≡ Some a → near R s p x pads ≡ Some a
near_kept {S = S} {R = R} s p x pads grows h =
    bind_kept _ _ (λ b. Some (record { word = x; segment = s; start = b; pads = pads }))
    (λ b e. let o = offset_is (length (segment S s)) p (offset_bits x) b e in offset_at (length (segment R s)) p (offset_bits x) b (le_trans o.0 (grows.words s)) o.1) (λ b e k. k) h

choice_kept : {A : Type 0} {o r q s : Option A} {a : A} (b : Bool) → (b ≡ true → o ≡ Some a → q ≡ Some a) → (r ≡ Some a → s ≡ Some a) → cond b o r ≡ Some a → cond b q s ≡ Some a
choice_kept true f g h = f refl h
choice_kept false f g h = g h

if_kept : {A : Type 0} (b : Bool) (o r : Option A) (a : A) → (o ≡ Some a → r ≡ Some a) → cond b None o ≡ Some a → cond b None r ≡ Some a
if_kept true o r a f h = h
if_kept false o r a f h = f h

pad_kept : {S R : Segments} {w : ℕ} (x n : ℕ) → Grows S R → word_at R (upper_half x) (far_position x + 0) ≡ word_at S (upper_half x) (far_position x + 0) → pad S x n ≡ Some w → pad R x n ≡ Some w
pad_kept {S = S} x n grows same h =
    given_kept (nat_lt (far_position x + n) (length (segment S (upper_half x)))) _ _ _ (λ t.
    (lt-ltb _ _ (lt_of_lt_of_le (ltb-true (far_position x + n) (length (segment S (upper_half x))) t) (grows.words (upper_half x))), (rw add-zero at same))) h

double_kept : {S R : Segments} {v w : ℕ} {a : Target} (f : ℕ) → Grows S R → v ≡ w →
    cond (nat_eq (kind w) 2) None (given (nat_lt (upper_half f) (length S)) (record { word = w; segment = upper_half f; start = far_position f; pads = 2 })) ≡ Some a →
    cond (nat_eq (kind v) 2) None (given (nat_lt (upper_half f) (length R)) (record { word = v; segment = upper_half f; start = far_position f; pads = 2 })) ≡ Some a
double_kept {S = S} {R = R} {w = w} {a = a} f grows e h =
    ap (λ w. cond (nat_eq (kind w) 2) None (given (nat_lt (upper_half f) (length R)) (record { word = w; segment = upper_half f; start = far_position f; pads = 2 }))) e
    ∙ if_kept (nat_eq (kind w) 2) _ _ a (given_kept (nat_lt (upper_half f) (length S)) _ _ _ (λ t. (lt-ltb _ _ (lt_of_lt_of_le (ltb-true (upper_half f) (length S) t) grows.segments), refl))) h

far_kept : {S R : Segments} {a : Target} (x k : ℕ) → Grows S R →
    ((i : ℕ) → i < 1 + k → word_at R (upper_half x) (far_position x + i) ≡ word_at S (upper_half x) (far_position x + i)) →
    far S x k ≡ Some a → far R x k ≡ Some a
far_kept {S = S} {R = R} {a = a} x zero grows same h =
    bind_kept (pad S x 0) _ (λ w. cond (nat_eq (kind w) 2) None (near R (upper_half x) (far_position x) w 1))
    (λ w e. pad_kept x 0 grows (same 0 (omega arith)) e)
    (λ w e k. if_kept (nat_eq (kind w) 2) _ _ a (near_kept (upper_half x) (far_position x) w 1 grows) k) h
far_kept {S = S} {R = R} x (suc k) grows same h =
    let v = word_at R (upper_half x) (far_position x + 1) in
    let w = word_at S (upper_half x) (far_position x + 1) in
    let tag : v ≡ w = same 1 (omega arith) in
    bind_kept (pad S x 1) _ (λ f. cond (nat_eq (kind v) 2) None (given (nat_lt (upper_half f) (length R)) (record { word = v; segment = upper_half f; start = far_position f; pads = 2 })))
    (λ f e. pad_kept x 1 grows (same 0 (omega arith)) e)
    (λ f e k. double_kept f grows tag k) h

word_leads_kept : {S R : Segments} {a : Target} (s p x : ℕ) → Grows S R →
    ((i : ℕ) → kind x ≡ 2 → i < 1 + is_double x → word_at R (upper_half x) (far_position x + i) ≡ word_at S (upper_half x) (far_position x + i)) →
    cond (nat_eq (kind x) 2) (far S x (is_double x)) (near S s p x 0) ≡ Some a → cond (nat_eq (kind x) 2) (far R x (is_double x)) (near R s p x 0) ≡ Some a
word_leads_kept s p x grows pads h =
    choice_kept (nat_eq (kind x) 2) (λ t. far_kept x (is_double x) grows (λ i l. pads i (eqb-true _ _ t) l)) (near_kept s p x 0 grows) h

pub leads_kept : {S R : Segments} {a : Target} (s p : ℕ) → Grows S R → word_at R s p ≡ word_at S s p →
    ((i : ℕ) → kind (word_at S s p) ≡ 2 → i < 1 + is_double (word_at S s p) →
    word_at R (upper_half (word_at S s p)) (far_position (word_at S s p) + i) ≡ word_at S (upper_half (word_at S s p)) (far_position (word_at S s p) + i)) →
    leads S s p ≡ Some a → leads R s p ≡ Some a
leads_kept {S = S} {R = R} s p grows same pads h = ap (λ y. cond (nat_eq (kind y) 2) (far R y (is_double y)) (near R s p y 0)) same ∙ word_leads_kept s p (word_at S s p) grows pads h

-- If two steps found something, the first one found something, and so did the second one from
-- there.
pub bind_found : {A B : Type 0} (o : Option A) (f : A → Option B) (y : B) → (o >>= f) ≡ Some y → (x : A) × (o ≡ Some x) × (f x ≡ Some y)
bind_found (Some x) f y h = (x, refl, h)
bind_found None f y h = absurd (cc h)
