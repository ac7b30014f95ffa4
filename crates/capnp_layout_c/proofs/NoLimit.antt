-- With no limit, there is what a call expects if there is with some limit: no object charges so much.
use Rattle.std.proofs.Common.{◌≡◌, ℕ, ℤ, zero, suc, ◌+◌, ◌*◌, ◌/◌, ◌^◌, ◌<◌, ◌≤◌, Bool, true, false, cond, nat_eq, Option, Some, None, IfSome, List, [], ◌∷◌, length, get_or, refl, sym, ◌∙◌, arith, eqb-true}
use Rattle.std.specs.List.{All}
use Rattle.std.specs.Borrow.{Bor}
use Rattle.capnp_words.specs.Meter.{Meter, unused}
use Rattle.capnp_format.specs.Means.{count_cost}
use Rattle.capnp_format.specs.Segments.{AreWords, Segments, Target, leads, near, offset_leads, segment, word_at, ◌>>=◌}
use Rattle.capnp_format.specs.Word.{data_words, element_size, kind, list_count, offset_bits, pointer_count}
use Rattle.capnp_format.proofs.Bounds.{leads_word}
use Rattle.capnp_format.proofs.Sound.{at_some}
use Rattle.capnp_arena_traits.specs.Limits.{AreSmall}
use Rattle.capnp_arena_traits.proofs.MessageLemmas.{length-whole}
use Rattle.capnp_pointers.specs.declared.object.Expected.{Expected}
use Rattle.capnp_pointers.specs.declared.object.Purpose.TheVariants.{Value}
use Rattle.capnp_pointers.specs.Demands.{amplified_charge, own_charge, tag}
use Rattle.capnp_pointers.specs.Expected.{HasExpected, expectation, fitting, null_pointer}
use Rattle.capnp_pointers.specs.Outcomes.{Entered}
use Rattle.capnp_pointers.proofs.Following.LeadsWhereFollowed.{entered_leads}
use Rattle.capnp_pointers.proofs.WholeValue.ObjectsRefused.{leads_pads}
use Rattle.capnp_layout_c.specs.Lent.{lent, lent_pointer, no_limit}
use Rattle.capnp_layout_c.proofs.LentWords.{lent_length}

-- What an object charges is much less than all words.
count_small : (width n : ℕ) → count_cost width n ≤ n
count_small width n = go (nat_eq width 0)
  where
    go : (b : Bool) → cond b n 0 ≤ n
    go true = omega arith
    go false = omega arith

amplified_small : (S : Segments) (a : Target) → a.word < 2 ^ 64 → amplified_charge Value S a ≤ 2 ^ 30
amplified_small S a small = go (nat_eq (kind a.word) 0) (nat_eq (element_size a.word) 7)
  where
    go : (b c : Bool) → cond b 0 (cond c (count_cost (data_words (tag S a) + pointer_count (tag S a)) (offset_bits (tag S a))) (count_cost (element_size a.word) (list_count a.word))) ≤ 2 ^ 30
    go true c = omega arith
    go false true = omega (arith, count_small (data_words (tag S a) + pointer_count (tag S a)) (offset_bits (tag S a)))
    go false false = omega (arith, count_small (element_size a.word) (list_count a.word), small)

-- where a near pointer leads
near_target : (o : Option ℕ) (x s : ℕ) → IfSome (o >>= λ b. Some (record { word = x; segment = s; start = b; pads = 0 })) (λ (a : Target). (a.word ≡ x) × (a.pads ≡ 0))
near_target None x s = tt
near_target (Some b) x s = (refl, refl)

pub leads_near : (S : Segments) (s p : ℕ) (a : Target) → leads S s p ≡ Some a → nat_eq (kind (word_at S s p)) 2 ≡ false → (a.word ≡ word_at S s p) × (a.pads ≡ 0)
leads_near S s p a l plain =
    let e : leads S s p ≡ near S s p (word_at S s p) 0 = rw plain refl in
    at_some (λ (b : Target). (b.word ≡ word_at S s p) × (b.pads ≡ 0)) (near S s p (word_at S s p) 0) a (sym e ∙ l) (near_target (offset_leads (length (segment S s)) p (offset_bits (word_at S s p))) (word_at S s p) s)

pads_small : (S : Segments) (s p : ℕ) (a : Target) → leads S s p ≡ Some a → a.pads ≤ 2
pads_small S s p a l = go (nat_eq (kind (word_at S s p)) 2) refl
  where
    go : (b : Bool) → nat_eq (kind (word_at S s p)) 2 ≡ b → a.pads ≤ 2
    go true far = omega (arith, leads_pads S s p a l (eqb-true _ _ far))
    go false plain = omega (arith, (leads_near S s p a l plain).1)

segment_small : (B : List (Bor (List ℕ))) (id : ℕ) → All (λ s. length s.now / 8 < 2 ^ 32) B → length (segment (lent B) id) < 2 ^ 32
segment_small [] id each = omega arith
segment_small (b ∷ B) zero each = omega (arith, lent_length (b ∷ B) 0 b (omega arith) refl, length-whole b.now, each 0 b (omega arith))
segment_small (b ∷ B) (suc id) each = segment_small B id (λ j d l. each (suc j) d (omega arith))

-- an object that is entered charges less than no limit
charge_small : (list : List (Bor (List ℕ))) (s p n : ℕ) (nesting : ℤ) {m m' : Meter} (a : Target) → AreSmall list → AreWords (lent list) → Entered Value (record (lent_pointer list s p nesting) { levels = n }) m m' a →
    own_charge Value (lent list) a ≤ no_limit
charge_small list s p n nesting a small words entered =
    let l = (entered_leads entered).1 in
    let here : a.word < 2 ^ 64 = at_some (λ (b : Target). b.word < 2 ^ 64) (leads (lent list) s p) a l (leads_word (lent list) s p words) in
    omega (arith, entered.meets.claims, segment_small list a.segment small.1, amplified_small (lent list) a here, pads_small (lent list) s p a l)

-- With no limit, there is what a call expects if there is with some limit.
pub unlimited : (e : Expected) (list : List (Bor (List ℕ))) (s p : ℕ) (nesting : ℤ) (m : Meter) → AreSmall list → AreWords (lent list) →
    HasExpected (expectation e) (lent_pointer list s p nesting) m → HasExpected (expectation e) (lent_pointer list s p nesting) (unused (Some no_limit))
unlimited e list s p nesting m small words (null_pointer z) = null_pointer z
unlimited e list s p nesting m small words (fitting a level of_kind entered fits) =
    fitting a level of_kind (record { follows = entered.follows; meets = entered.meets; covers = charge_small list s p 1 nesting a small words entered; spent = refl }) fits
