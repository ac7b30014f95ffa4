-- The number of words of a value, compared to its cost; and that what a place means is a value.
-- `means_value` takes its arguments one by one, because it is the answer to a law.
use Rattle.std.proofs.Common.{ℕ, zero, suc, ◌+◌, ◌*◌, ◌/◌, ◌^◌, ◌<◌, ◌≤◌, Bool, true, false, cond, nat_eq, nat_lt, Option, None, List, [], ◌∷◌, length, get_or, take, drop, Some, IfSome, sym, subst, arith, mod-lt, pow_pos, get_or-drop}
use Rattle.capnp_format.specs.Word.{kind, is_double, far_position, upper_half, offset_bits}
use Rattle.capnp_format.specs.Numbers.{digits, element_bits}
pub use Rattle.capnp_format.specs.Segments.{AreWords, HasSmallWords}
use Rattle.capnp_format.specs.Segments.{Segments, segment, word_at, words_at, HasWords, Target, leads, near, far, given, offset_leads}
use Rattle.capnp_format.specs.Tree.{Tree, Null, Capability, Struct, Flat, Pointers, Structs, Trees, no_trees, tree, Elements, no_elements, element, element_count}
use Rattle.capnp_format.specs.Means.{Means}
use Rattle.capnp_format.specs.Canonical.{word_count, word_count_all, word_count_elements}
use Rattle.capnp_format.specs.Value.{AreBelow, IsValue, AreValues, AreElements}
use Rattle.capnp_format.proofs.Meant.{Meant, AllMeant, ElementsMeant}
use Rattle.capnp_format.proofs.Sound.{if_bind, if_given, at_some}

mutual
  pub words_within_cost : {S : Segments} {n s p c : ℕ} (t : Tree) → Meant S n s p t c → word_count t ≤ c
  words_within_cost Null h = omega arith
  words_within_cost (Capability i) h = omega arith
  words_within_cost (Struct ws ts) h =
      let (a, k, some, o, claim, e, all, g) = h.means in
      omega (arith, words_within_cost_all ts (record { means = all }))
  words_within_cost (Flat size ns) h =
      let (a, some, small, o, claim, e, g) = h.means in
      omega arith
  words_within_cost (Pointers ts) h =
      let (a, k, some, o, claim, all, g) = h.means in
      omega (arith, words_within_cost_all ts (record { means = all }))
  words_within_cost (Structs d q es) h =
      let (a, m, k, some, o, claim, tag, fits, all, g) = h.means in
      omega (arith, words_within_cost_elements es (record { means = all }))

  words_within_cost_all : {S : Segments} {n s p c : ℕ} (ts : Trees) → AllMeant S n s p ts c → word_count_all ts ≤ c
  words_within_cost_all no_trees h = omega arith
  words_within_cost_all (tree t ts) h =
      let (k, l, one, rest, g) = h.means in
      omega (arith, words_within_cost t (record { means = one }), words_within_cost_all ts (record { means = rest }))

  words_within_cost_elements : {S : Segments} {n s p d q c : ℕ} (es : Elements) → ElementsMeant S n s p d q es c → word_count_elements es ≤ c
  words_within_cost_elements no_elements h = omega arith
  words_within_cost_elements (element ws ts es) h =
      let (k, l, long, len, e, all, rest, g) = h.means in
      omega (arith, words_within_cost_all ts (record { means = all }), words_within_cost_elements es (record { means = rest }))

near_word_below : (S : Segments) (s p x pads : ℕ) → x < 2 ^ 64 → IfSome (near S s p x pads) (λ a. a.word < 2 ^ 64)
near_word_below S s p x pads small = if_bind (λ (a : Target). a.word < 2 ^ 64) (offset_leads (length (segment S s)) p (offset_bits x)) (λ b. Some (record { word = x; segment = s; start = b; pads = pads })) (λ b e. small)

far_or_near : (b : Bool) (o r : Option Target) → IfSome o (λ a. a.word < 2 ^ 64) → IfSome r (λ a. a.word < 2 ^ 64) → IfSome (cond b o r) (λ a. a.word < 2 ^ 64)
far_or_near true o r f g = f
far_or_near false o r f g = g

given_word : (b : Bool) (a : Target) → a.word < 2 ^ 64 → IfSome (given b a) (λ a. a.word < 2 ^ 64)
given_word true a h = h
given_word false a h = tt

far_word_below : (S : Segments) (x k : ℕ) → AreWords S → IfSome (far S x k) (λ a. a.word < 2 ^ 64)
far_word_below S x zero w =
    if_given (λ (a : Target). a.word < 2 ^ 64) (nat_lt (far_position x + 0) (length (segment S (upper_half x)))) (word_at S (upper_half x) (far_position x)) (λ v. cond (nat_eq (kind v) 2) None (near S (upper_half x) (far_position x) v 1))
    (λ _. far_or_near (nat_eq (kind (word_at S (upper_half x) (far_position x))) 2) None _ tt (near_word_below S (upper_half x) (far_position x) _ 1 (w (upper_half x) (far_position x))))
far_word_below S x (suc k) w =
    let v = word_at S (upper_half x) (far_position x + 1) in
    if_given (λ (a : Target). a.word < 2 ^ 64) (nat_lt (far_position x + 1) (length (segment S (upper_half x)))) (word_at S (upper_half x) (far_position x))
    (λ f. cond (nat_eq (kind v) 2) None (given (nat_lt (upper_half f) (length S)) (record { word = v; segment = upper_half f; start = far_position f; pads = 2 })))
    (λ _. far_or_near (nat_eq (kind v) 2) None _ tt (given_word _ _ (w (upper_half x) (far_position x + 1))))

-- the word that describes where a pointer leads is a word of the message
pub leads_word : (S : Segments) (s p : ℕ) → AreWords S → IfSome (leads S s p) (λ a. a.word < 2 ^ 64)
leads_word S s p w = far_or_near (nat_eq (kind (word_at S s p)) 2) _ _ (far_word_below S (word_at S s p) (is_double (word_at S s p)) w) (near_word_below S s p (word_at S s p) 0 (w s p))

pub below_take : (limit n : ℕ) (xs : List ℕ) → AreBelow limit xs → AreBelow limit (take n xs)
below_take limit zero xs h = tt
below_take limit (suc n) [] h = tt
below_take limit (suc n) (x ∷ xs) h = (h.0, below_take limit n xs h.1)

-- each element is below a limit
pub below_each : (limit : ℕ) (xs : List ℕ) → ((i : ℕ) → get_or xs i 0 < limit) → AreBelow limit xs
below_each limit [] h = tt
below_each limit (x ∷ xs) h = (h 0, below_each limit xs (λ i. h (suc i)))

pub words_below : (S : Segments) (s p n : ℕ) → HasSmallWords S s → AreBelow (2 ^ 64) (words_at S s p n)
words_below S s p n w = below_take (2 ^ 64) n (drop p (segment S s)) (below_each (2 ^ 64) (drop p (segment S s)) (λ i. rw (get_or-drop p (segment S s) i 0) (w (p + i))))

-- the words ws in a segment of small words are small
pub words_small : (S : Segments) (s p : ℕ) (ws : List ℕ) → HasSmallWords S s → HasWords S s p ws → AreBelow (2 ^ 64) ws
words_small S s p ws w e = rw e at (words_below S s p (length ws) w)

pub digits_below : (base n x : ℕ) → 0 < base → AreBelow base (digits base n x)
digits_below base zero x h = tt
digits_below base (suc n) x h = (mod-lt x h, digits_below base n (x / base) h)

mutual
  pub means_value : (S : Segments) (n s p : ℕ) (t : Tree) (c : ℕ) → AreWords S → Means S n s p t c → IsValue t
  means_value S n s p Null c w h = tt
  means_value S n s p (Capability i) c w (a, l, e, g) = let small = at_some _ _ a l.1 (leads_word S s p w) in omega arith
  means_value S n s p (Struct ws ts) c w (a, k, some, o, claim, e, all, g) =
      let small = at_some _ _ a o.leads_to.1 (leads_word S s p w) in (
        omega (arith, o.data_of),
        omega (arith, o.pointers),
        rw e at (words_below S a.segment a.start (length ws) (w a.segment)),
        all_values ts w (record { means = all }),
      )
  means_value S n s p (Flat size ns) c w (a, some, small, o, claim, e, g) =
      let below = at_some _ _ a o.leads_to.1 (leads_word S s p w) in
      (small, omega (arith, o.counts), subst (AreBelow (2 ^ element_bits size)) (sym e) (digits_below (2 ^ element_bits size) (length ns) _ (pow_pos (element_bits size))))
  means_value S n s p (Pointers ts) c w (a, k, some, o, claim, all, g) =
      let small = at_some _ _ a o.leads_to.1 (leads_word S s p w) in
      (omega (arith, o.counts), all_values ts w (record { means = all }))
  means_value S n s p (Structs d q es) c w (a, m, k, some, o, claim, tag, fits, all, g) =
      let small = at_some _ _ a o.leads_to.1 (leads_word S s p w) in
      let g_small = w a.segment a.start in
      (omega (arith, tag.data_of), omega (arith, tag.pointers), omega (arith, tag.counts), omega (arith, o.counts), elements_values es w (omega arith) (record { means = all }))

  all_values : {S : Segments} {n s p c : ℕ} (ts : Trees) → AreWords S → AllMeant S n s p ts c → AreValues ts
  all_values no_trees w h = tt
  all_values (tree t ts) w h =
      let (k, l, one, rest, g) = h.means in
      (means_value _ _ _ _ t k w one, all_values ts w (record { means = rest }))

  elements_values : {S : Segments} {n s p d q c : ℕ} (es : Elements) → AreWords S → p + element_count es * (d + q) ≤ length (segment S s) → ElementsMeant S n s p d q es c → AreElements d q es
  elements_values no_elements w fits h = tt
  elements_values {S = S} {s = s} {p = p} (element ws ts es) w fits h =
      let (k, l, long, len, e, all, rest, g) = h.means in
      (long, len, rw e at (words_below S s p (length ws) (w s)), all_values ts w (record { means = all }), elements_values es w (omega arith) (record { means = rest }))
