-- An object that a call expects to be of some kind: the function `expect` returns what the relations
-- `HasExpected` and `RefusesExpected` state, and they state what it returns.
use Rattle.std.proofs.Common.{◌≡◌, ◌≢◌, ◌⊎◌, inl, inr, ℕ, ◌+◌, ◌<◌, false, nat_eq, Option, Some, None, Result, Ok, Err, IsOk, IfErr, ◌↔◌, refl, sym, ap, ◌∙◌, arith}
use Rattle.std.proofs.lemmas.Bool.{ne_eqb}
use Rattle.capnp_words.specs.declared.error.ErrorKind.{ErrorKind}
use Rattle.capnp_words.specs.Meter.{Meter, Affords, charged, counted_once}
use Rattle.capnp_format.specs.Word.{kind}
use Rattle.capnp_format.specs.Segments.{Target}
use Rattle.capnp_pointers.specs.declared.object.Expected.{Expected}
use Rattle.capnp_pointers.specs.declared.object.Object.{Object}
use Rattle.capnp_pointers.specs.declared.object.Purpose.TheVariants.{Value}
use Rattle.capnp_pointers.specs.Demands.{claimed_words, own_charge}
use Rattle.capnp_pointers.specs.Enter.{Shape, nothing, shape, enter, read, object_shape, result_shape}
use Rattle.capnp_pointers.specs.Expected.{Expectation, expectation, HasExpected, null_pointer, fitting, RefusesExpected, no_level, unfollowed, of_another_kind, stopped, misfits}
use Rattle.capnp_pointers.specs.Metered.{onward, answer, refuse_if, ◌>>>◌}
use Rattle.capnp_pointers.specs.Objects.{IsObject}
use Rattle.capnp_pointers.specs.Outcomes.{Entered}
use Rattle.capnp_pointers.specs.Reading.{Reading, word_of}
use Rattle.capnp_pointers.specs.Refusals.{granted_before, Unfollowed, exceeding, leading_nowhere, Stopped, no_target, broken, claim_exceeds, count_exceeds}
use Rattle.capnp_pointers.specs.Spending.{after_charge}
use Rattle.capnp_pointers.specs.Values.{enter_expected, expect}
use Rattle.capnp_pointers.specs.Wanted.{plain, follow_at, FollowsTo}
use Rattle.capnp_pointers.proofs.OneObject.ReadAsStated.{onward_is, followed_is, unfollowed_is, pads_are, spent_once, not_null, null_is, reached_is, entering_is, stopped_is, object_is}
use Rattle.capnp_pointers.proofs.Decided.{same_or_not}
use Rattle.capnp_pointers.proofs.OneObject.ExpectedBySteps.{one_level, kind_below_two, level_unfollowed}
use Rattle.capnp_pointers.proofs.OneObject.ReadInOneWay.{Ends, at_capability, at_object, refused, ends, is_answer, no_answer, of_same_refusal}
use Rattle.capnp_pointers.proofs.WholeValue.UnreadableIfRefused.{affords_less}

-- once the pointer was followed to its target
target_is : (expected : Expectation) (r : Reading) (a : Target) (m : Meter) → expected.too_deep r.levels ≡ None → FollowsTo r a → Affords r.charging m a.pads →
    expect expected r m ≡ enter_expected expected (one_level r) a (charged r.charging (counted_once r.charging m) a.pads)
target_is expected r a m level f covered =
    let some : nat_eq (word_of r) 0 ≡ false = ne_eqb _ _ f.0 in
    rw (some, level) (onward_is (enter_expected expected (one_level r)) (followed_is r a m f.1 (pads_are r a f.1) covered))

-- once the target was seen to be of the expected kind: x is the result of reading it with one level
kind_is : (expected : Expectation) (r : Reading) (a : Target) (m : Meter) (x : Result Shape ErrorKind × Meter) → expected.too_deep r.levels ≡ None → FollowsTo r a → Affords r.charging m a.pads →
    expected.another_kind a.word ≡ None → read Value (one_level r) m ≡ x → expect expected r m ≡ onward (λ o. refuse_if (expected.misfit r.segments a) >>> λ _. answer o) x
kind_is expected r a m x level f covered kind e =
    let entered : enter Value (one_level r) a (charged r.charging (counted_once r.charging m) a.pads) ≡ x = sym (reached_is Value (one_level r) a m (λ e. absurd (cc e)) f covered) ∙ e in
    target_is expected r a m level f covered ∙ rw kind (ap (onward (λ o. refuse_if (expected.misfit r.segments a) >>> λ _. answer o)) entered)

-- an object that was entered, of the expected kind
entered_pads : (r : Reading) (m m' : Meter) (a : Target) → Entered Value (one_level r) m m' a → Affords r.charging m a.pads
entered_pads r m m' a o = affords_less r.charging m a.pads (own_charge Value r.segments a) (omega arith) o.covers

pub fitting_is : (expected : Expectation) (r : Reading) (m m' : Meter) (a : Target) → expected.too_deep r.levels ≡ None → expected.another_kind a.word ≡ None → Entered Value (one_level r) m m' a → expected.misfit r.segments a ≡ None →
    expect expected r m ≡ (Ok (shape r.segments a), m')
fitting_is expected r m m' a level kind o fits =
    kind_is expected r a m (Ok (shape r.segments a), m') level o.follows (entered_pads r m m' a o) kind (entering_is Value (one_level r) m m' a o) ∙ rw fits refl

-- what is withheld, `expect` refuses
nowhere_is : (expected : Expectation) (r : Reading) (m m' : Meter) (k : ErrorKind) → expected.too_deep r.levels ≡ None → Unfollowed (one_level r) m m' k → expect expected r m ≡ (Err k, m')
nowhere_is expected r m m' k level u =
    let some : nat_eq (word_of r) 0 ≡ false = ne_eqb _ _ (not_null u) in
    rw (some, level) (ap (onward (enter_expected expected (one_level r))) (unfollowed_is (one_level r) m m' k u))

pub withheld_is : (expected : Expectation) (r : Reading) (m m' : Meter) (k : ErrorKind) → RefusesExpected expected r m m' k → expect expected r m ≡ (Err k, m')
withheld_is expected r m m' k (no_level some deep same) =
    let there : nat_eq (word_of r) 0 ≡ false = ne_eqb _ _ some in
    rw (there, deep, same) refl
withheld_is expected r m m' k (unfollowed level u) = nowhere_is expected r m m' k level (level_unfollowed u)
withheld_is expected r m m' k (of_another_kind a level f other paid) =
    target_is expected r a m level f paid.covers ∙ rw other (ap (λ y. (Err k, y)) (spent_once r.charging m a.pads ∙ sym paid.spent))
withheld_is expected r m m' k (misfits a level kind o unfit) =
    kind_is expected r a m (Ok (shape r.segments a), m') level o.follows (entered_pads r m m' a o) kind (entering_is Value (one_level r) m m' a o) ∙ rw unfit refl
withheld_is expected r m m' k (stopped level kinds h) = go h
  where
    with_target : (a : Target) → FollowsTo r a → Affords r.charging m a.pads → expect expected r m ≡ (Err k, m')
    with_target a f covered = kind_is expected r a m (Err k, m') level f covered (kinds a f.1) (stopped_is Value (one_level r) m m' k (λ e. absurd (cc e)) h)

    go : Stopped Value plain (one_level r) m m' k → expect expected r m ≡ (Err k, m')
    go (no_target u) = nowhere_is expected r m m' k level u
    go (broken a f breaks paid) = with_target a f (affords_less r.charging m a.pads (a.pads + granted_before a k) (omega arith) paid.covers)
    go (claim_exceeds a f some object claims short paid named) = with_target a f paid.covers
    go (count_exceeds a f meets short paid named) = with_target a f (affords_less r.charging m a.pads (a.pads + claimed_words a.word) (omega arith) paid.covers)

-- what can be returned, `expect` returns
pub given_is : (expected : Expectation) (r : Reading) (m m' : Meter) (x : Object) → HasExpected expected r m → IsObject Value (one_level r) m m' x → expect expected r m ≡ (Ok (object_shape x), m')
given_is expected r m m' x (null_pointer z) h =
    let there : expect expected r m ≡ (Ok nothing, m) = rw z refl in
    there ∙ sym (null_is Value (one_level r) m z) ∙ object_is Value (one_level r) m m' x h
given_is expected r m m' x (fitting {m' = n} a level kind o fits) h =
    fitting_is expected r m n a level kind o fits ∙ sym (entering_is Value (one_level r) m n a o) ∙ object_is Value (one_level r) m m' x h

pub given_answers : (expected : Expectation) (r : Reading) (m : Meter) → HasExpected expected r m → IsOk (expect expected r m).0
given_answers expected r m (null_pointer z) = let there : expect expected r m ≡ (Ok nothing, m) = rw z refl in is_answer there
given_answers expected r m (fitting {m' = n} a level kind o fits) = is_answer (fitting_is expected r m n a level kind o fits)

-- so a call is answered exactly if it can be
pub not_withheld : (expected : Expectation) (r : Reading) (m m' : Meter) (k : ErrorKind) → HasExpected expected r m → RefusesExpected expected r m m' k → ⊥
not_withheld expected r m m' k can h = no_answer (withheld_is expected r m m' k h) (given_answers expected r m can)

-- either the call has an answer, or it is refused
abbrev GivenOrWithheld : Expectation → Reading → Meter → Type 0
GivenOrWithheld expected r m = HasExpected expected r m ⊎ ((k : ErrorKind) × (m' : Meter) × RefusesExpected expected r m m' k)

of_kind : (expected : Expectation) (r : Reading) (m : Meter) (a : Target) → expected.too_deep r.levels ≡ None → FollowsTo r a → Affords r.charging m a.pads → (expected.another_kind a.word ≡ None → GivenOrWithheld expected r m) → GivenOrWithheld expected r m
of_kind expected r m a level f covered h = go (expected.another_kind a.word) refl
  where
    go : (o : Option ErrorKind) → expected.another_kind a.word ≡ o → GivenOrWithheld expected r m
    go None e = h e
    go (Some k) e = inr (k, after_charge r.charging m a.pads 1, of_another_kind a level f e (record { covers = covered; spent = refl }))

at_entered : (expected : Expectation) (r : Reading) (m m' : Meter) (a : Target) → expected.too_deep r.levels ≡ None → Entered Value (one_level r) m m' a → expected.another_kind a.word ≡ None → GivenOrWithheld expected r m
at_entered expected r m m' a level o kind = go (expected.misfit r.segments a) refl
  where
    go : (x : Option ErrorKind) → expected.misfit r.segments a ≡ x → GivenOrWithheld expected r m
    go None e = inl (fitting a level kind o e)
    go (Some k) e = inr (k, m', misfits a level kind o e)

unleveled : {r : Reading} {m m' : Meter} {k : ErrorKind} → Unfollowed (one_level r) m m' k → Unfollowed r m m' k
unleveled (exceeding some short paid named) = exceeding some short paid named
unleveled (leading_nowhere some leads paid) = leading_nowhere some leads paid

same_kind : (expected : Expectation) (r : Reading) (a : Target) → FollowsTo r a → expected.another_kind a.word ≡ None → (b : Target) → follow_at r ≡ Ok b → expected.another_kind b.word ≡ None
same_kind expected r a f kind b e = let g = f.1 in let b_is : b ≡ a = cc (g, e) in rw b_is kind

at_stop : (expected : Expectation) (r : Reading) (m m' : Meter) (k : ErrorKind) → expected.too_deep r.levels ≡ None → Stopped Value plain (one_level r) m m' k → GivenOrWithheld expected r m
at_stop expected r m m' k level h = go h
  where
    with_target : (a : Target) → FollowsTo r a → Affords r.charging m a.pads → GivenOrWithheld expected r m
    with_target a f covered = of_kind expected r m a level f covered (λ kind. inr (k, m', stopped level (same_kind expected r a f kind) h))

    go : Stopped Value plain (one_level r) m m' k → GivenOrWithheld expected r m
    go (no_target u) = inr (k, m', unfollowed level (unleveled u))
    go (broken a f breaks paid) = with_target a f (affords_less r.charging m a.pads (a.pads + granted_before a k) (omega arith) paid.covers)
    go (claim_exceeds a f some object claims short paid named) = with_target a f paid.covers
    go (count_exceeds a f meets short paid named) = with_target a f (affords_less r.charging m a.pads (a.pads + claimed_words a.word) (omega arith) paid.covers)

-- an expectation of structs or lists only
abbrev pub OnlyObjects : Expectation → Type 0
OnlyObjects expected = (w : ℕ) → expected.another_kind w ≡ None → kind w < 2

given_or_withheld : (expected : Expectation) (r : Reading) (m : Meter) → OnlyObjects expected → GivenOrWithheld expected r m
given_or_withheld expected r m objects = elim (same_or_not (word_of r) 0) [ inl z ↦ inl (null_pointer z) | inr some ↦ go some (expected.too_deep r.levels) refl ]
  where
    at_end : expected.too_deep r.levels ≡ None → Ends Value (one_level r) m → GivenOrWithheld expected r m
    at_end level (at_capability a f low covered) = of_kind expected r m a level f covered (λ e. absurd (let near = objects a.word e in omega (arith, near, low)))
    at_end level (at_object a m' o) = of_kind expected r m a level o.follows (entered_pads r m m' a o) (λ e. at_entered expected r m m' a level o e)
    at_end level (refused k m' h) = at_stop expected r m m' k level h

    go : word_of r ≢ 0 → (x : Option ErrorKind) → expected.too_deep r.levels ≡ x → GivenOrWithheld expected r m
    go some (Some k) e = inr (k, m, no_level some e refl)
    go some None e = at_end e (ends Value (one_level r) m some)

-- the other way round
pub withheld_if : (expected : Expectation) (r : Reading) (m m' : Meter) (k : ErrorKind) → OnlyObjects expected → expect expected r m ≡ (Err k, m') → RefusesExpected expected r m m' k
withheld_if expected r m m' k objects e = elim (given_or_withheld expected r m objects) [
  | inl can ↦ absurd (no_answer e (given_answers expected r m can))
  | inr (l, n, h) ↦ of_same_refusal (RefusesExpected expected r m) (withheld_is expected r m n l h) e h
]

pub given_if : (expected : Expectation) (r : Reading) (m : Meter) → OnlyObjects expected → IsOk (expect expected r m).0 → HasExpected expected r m
given_if expected r m objects answered = elim (given_or_withheld expected r m objects) [
  | inl can ↦ can
  | inr (l, n, h) ↦ absurd (no_answer (withheld_is expected r m n l h) answered)
]

-- what a call that computes `expect` returned
pub given_exactly : (expected : Expected) (r : Reading) (m m' : Meter) (result : Result Object ErrorKind) → expect (expectation expected) r m ≡ (result_shape result, m') → IsOk result ↔ HasExpected (expectation expected) r m
given_exactly expected r m m' (Ok x) e = ((λ _. given_if (expectation expected) r m (kind_below_two expected) (is_answer e)), (λ _. refl))
given_exactly expected r m m' (Err k) e = ((λ f. absurd (cc f)), (λ can. absurd (no_answer e (given_answers (expectation expected) r m can))))

pub expect_refused : (expected : Expected) (r : Reading) (m m' : Meter) (result : Result Object ErrorKind) → expect (expectation expected) r m ≡ (result_shape result, m') → IfErr result (RefusesExpected (expectation expected) r m m')
expect_refused expected r m m' (Ok x) e = tt
expect_refused expected r m m' (Err k) e = withheld_if (expectation expected) r m m' k (kind_below_two expected) e
