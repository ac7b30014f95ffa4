-- What follows from what a function for C stores and answers, and from what the call says that made it.
use Rattle.std.proofs.Common.{◌≡◌, ◌≢◌, ◌≤◌, ℕ, List, Result, Ok, Err, IfErr, IfOk, IsOk, OnOk, ap, sym, subst, arith, take, length, drop}
use Rattle.capnp_pointers.specs.declared.pointers.sizes.MessageSize.{MessageSize}
use Rattle.capnp_canonical.specs.Calls.{Fills, FillsByNumber, IsNumberWhere}
use Rattle.capnp_canonical.specs.Numbers.{answer_number, wanted_room}
use Rattle.capnp_canonical.specs.Storing.{Stores, no_size}
use Rattle.capnp_canonical.specs.declared.refusal.Refusal.{Refusal}

-- what holds of all that the call makes holds of what is stored
pub done_of : {T : Type 0} {made : Result T Refusal} {instead : Refusal → T} {answer : ℕ} {stored : T} (P : T → Type 0) →
    Stores made instead answer stored → IfOk made P → answer ≡ 0 → P stored
done_of {made = Ok x} P stores p zero = subst P (sym stores.done.1) p
done_of {made = Err r} P stores p zero = absurd (omega (arith, zero, stores.refused.1))

-- the number is that of a refusal for which the call says why
pub refused_of : {T : Type 0} {made : Result T Refusal} {instead : Refusal → T} {answer : ℕ} {stored : T} {Q : Refusal → Type 0} →
    Stores made instead answer stored → IfErr made Q → answer ≢ 0 → IsNumberWhere answer Q
refused_of {made = Ok x} stores q some = absurd (some stores.done.0)
refused_of {made = Err r} stores q some = (r, stores.refused.0, q)

-- and then this is stored
pub room_of : {made : Result ℕ Refusal} {answer written : ℕ} {Q : Refusal → Type 0} →
    Stores made wanted_room answer written → IfErr made Q → answer ≢ 0 → IsNumberWhere answer (λ r. (written ≡ wanted_room r) × Q r)
room_of {made = Ok x} stores q some = absurd (some stores.done.0)
room_of {made = Err r} stores q some = (r, stores.refused.0, (stores.refused.2, q))

pub none_of : {T : Type 0} {made : Result T Refusal} {otherwise : T} {answer : ℕ} {stored : T} →
    Stores made (λ _. otherwise) answer stored → answer ≢ 0 → stored ≡ otherwise
none_of {made = Ok x} stores some = absurd (some stores.done.0)
none_of {made = Err r} stores some = stores.refused.2

pub no_size_of : {made : Result MessageSize Refusal} {answer words caps : ℕ} →
    Stores made (λ _. no_size) answer (record { word_count = words; cap_count = caps }) → answer ≢ 0 → (words ≡ 0) × (caps ≡ 0)
no_size_of stores some =
    let none = none_of stores some in (ap (λ (z : MessageSize). z.word_count) none, ap (λ (z : MessageSize). z.cap_count) none)

-- what holds of 0, and of the numbers of all refusals that the call may have, holds of the answer
pub answer_is : {T : Type 0} {made : Result T Refusal} {instead : Refusal → T} {answer : ℕ} {stored : T} {Q : Refusal → Type 0} →
    (P : ℕ → Type 0) → Stores made instead answer stored → IfErr made Q → P 0 → ((r : Refusal) → Q r → P (answer_number r)) → P answer
answer_is {made = Ok x} P stores q zero other = subst P (sym stores.done.0) zero
answer_is {made = Err r} P stores q zero other = subst P (sym stores.refused.0) (other r q)

pub answer_zero : {T : Type 0} {made : Result T Refusal} {instead : Refusal → T} {answer : ℕ} {stored : T} →
    Stores made instead answer stored → IsOk made → answer ≡ 0
answer_zero {made = Ok x} stores ok = stores.done.0
answer_zero {made = Err r} stores ok = cc

-- what holds if the call succeeds
pub done_then : {T : Type 0} {made : Result T Refusal} {instead : Refusal → T} {answer : ℕ} {stored : T} {P : Type 0} →
    Stores made instead answer stored → OnOk made P → answer ≡ 0 → P
done_then {made = Ok x} stores p zero = p
done_then {made = Err r} stores p zero = absurd (omega (arith, zero, stores.refused.1))

-- a buffer is filled
pub filled_of : {made : Result ℕ Refusal} {instead : Refusal → ℕ} {answer written : ℕ} {old new : List ℕ} {P : List ℕ → Type 0} →
    Stores made instead answer written → Fills made old new P → FillsByNumber answer written old new P
filled_of {made = Ok n} {old = old} {new = new} {P = P} stores fills = record {
  front = λ zero. subst (λ m. P (take m new)) (sym stores.done.1) fills.front;
  within = λ zero. subst (λ m. m ≤ length new) (sym stores.done.1) fills.within;
  behind = λ zero. subst (λ m. drop m new ≡ drop m old) (sym stores.done.1) fills.behind;
  kept = λ some. absurd (some stores.done.0);
}
filled_of {made = Err r} stores fills = record {
  front = λ zero. absurd (omega (arith, zero, stores.refused.1));
  within = λ zero. absurd (omega (arith, zero, stores.refused.1));
  behind = λ zero. absurd (omega (arith, zero, stores.refused.1));
  kept = λ some. fills.kept;
}
