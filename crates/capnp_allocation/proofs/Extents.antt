-- One object on the way to a replaced place: which of its words agree, and what it covers.
use Rattle.std.proofs.Common.{◌≡◌, ◌≢◌, ℕ, ◌+◌, ◌<◌, ◌≤◌, List, [], ◌∷◌, ◌++◌, Some, ap, ◌∙◌, arith}
use Rattle.std.proofs.lemmas.Bool.Decides.{nat_tests}
use Rattle.capnp_format.specs.Segments.{Segments, word_at, Target, leads}
use Rattle.capnp_format.specs.Means.{Leads}
use Rattle.capnp_format.specs.Forest.{Interval, times, pads_of, object_of, target, target_in}
use Rattle.capnp_format.specs.Path.{word_interval}
use Rattle.capnp_format.specs.Segments.{Grows}
use Rattle.capnp_format.proofs.Frame.{Agree, times-append, leads_agree}

-- R has the words of S that the whole holds more often than the part does.
abbrev pub AgreeBeside : Segments → Segments → List Interval → List Interval → Type 0
AgreeBeside S R part whole = (v r : ℕ) → times part v r < times whole v r → word_at R v r ≡ word_at S v r

-- A word of an object is in it.
pub word_within : (a : Target) (n c v r : ℕ) → a.start ≤ c → c < a.start + n → times (word_interval a.segment c ∷ []) v r ≤ times (object_of a n ∷ []) v r
word_within a n c v r l m = grind (arith, nat_tests)

pub once_held : (s p : ℕ) → times (word_interval s p ∷ []) s p ≡ 1
once_held s p = grind (arith, nat_tests)

pub once_held_in : (a : Target) (n q : ℕ) → a.start ≤ q → q < a.start + n → times (object_of a n ∷ []) a.segment q ≡ 1
once_held_in a n q l m = grind (arith, nat_tests)

pub not_held : (s p q : ℕ) → q ≢ p → times (word_interval s p ∷ []) s q ≡ 0
not_held s p q other = grind (arith, nat_tests)

pub times-first : (i : Interval) (is : List Interval) (v r : ℕ) → times (i ∷ is) v r ≡ times (i ∷ []) v r + times is v r
times-first i is v r = omega arith

-- The cover of an object, in its parts.
pub times-object : (S : Segments) (s p n : ℕ) (a : Target) (more : Target → List Interval) (v r : ℕ) → leads S s p ≡ Some a →
    times (pads_of (word_at S s p) ++ object_of (target S s p) n ∷ more (target S s p)) v r ≡ times (pads_of (word_at S s p)) v r + times (object_of a n ∷ []) v r + times (more a) v r
times-object S s p n a more v r l =
    ap (λ b. times (pads_of (word_at S s p) ++ object_of b n ∷ more b) v r) (ap target_in l)
    ∙ times-append (pads_of (word_at S s p)) (object_of a n ∷ more a) v r
    ∙ omega (arith, times-first (object_of a n) (more a) v r)

-- What R keeps of an object if a part of it begins at its word c.
pub record KeepsObject (S R : Segments) (s p : ℕ) (a : Target) (n c : ℕ) (child others part : List Interval) : Type 0 where
  pub same : word_at R s p ≡ word_at S s p
  pub leads_to : Leads R s p a
  pub object : (q : ℕ) → a.start ≤ q → q < a.start + n → q ≢ c → word_at R a.segment q ≡ word_at S a.segment q
  pub others_agree : Agree S R others
  pub inner : AgreeBeside S R part (word_interval a.segment c ∷ child)

pub keeps_object : (S R : Segments) (s p n c : ℕ) (a : Target) (child others part : List Interval) (more : Target → List Interval) → Grows S R → Leads S s p a → a.start ≤ c → c < a.start + n →
    ((v r : ℕ) → times (more a) v r ≡ times child v r + times others v r) → ((v r : ℕ) → times part v r ≤ times (word_interval a.segment c ∷ child) v r) →
    AgreeBeside S R part (word_interval s p ∷ pads_of (word_at S s p) ++ object_of (target S s p) n ∷ more (target S s p)) → KeepsObject S R s p a n c child others part
keeps_object S R s p n c a child others part more grows l low high split le h =
    let x = word_at S s p in
    let whole = λ (v r : ℕ). times-first (word_interval s p) (pads_of x ++ object_of (target S s p) n ∷ more (target S s p)) v r in
    let at = λ (v r : ℕ). times-object S s p n a more v r l.1 in
    let same : word_at R s p ≡ word_at S s p =
    h s p (omega (arith, whole s p, at s p, split s p, le s p, times-first (word_interval a.segment c) child s p, word_within a n c s p low high, once_held s p)) in
    record {
      same = same;
      leads_to = leads_agree (record { grows = grows; same = same })
          (λ v r m. h v r (omega (arith, whole v r, at v r, split v r, le v r, times-first (word_interval a.segment c) child v r, word_within a n c v r low high))) l;
      object = λ q f g other. h a.segment q
          (omega (arith, whole a.segment q, at a.segment q, split a.segment q, le a.segment q, times-first (word_interval a.segment c) child a.segment q, once_held_in a n q f g, not_held a.segment c q other));
      others_agree = λ v r m. h v r (omega (arith, whole v r, at v r, split v r, le v r, times-first (word_interval a.segment c) child v r, word_within a n c v r low high));
      inner = λ v r m. h v r (omega (arith, whole v r, at v r, split v r, times-first (word_interval a.segment c) child v r, word_within a n c v r low high));
    }
