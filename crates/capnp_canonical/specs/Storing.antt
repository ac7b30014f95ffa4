-- What a function for C does with what a call made.
use Rattle.std.specs.Prelude.{◌≡◌, ℕ, ◌<◌, Result, IfErr, IfOk}
use Rattle.capnp_pointers.specs.declared.pointers.sizes.MessageSize.{MessageSize}
use Rattle.capnp_canonical.specs.Numbers.{answer_number}
use Rattle.capnp_canonical.specs.declared.refusal.Refusal.{Refusal}

-- What was made is stored, and the answer is 0; or for a refusal, something else is stored, and the
-- answer is its number.
pub record Stores {T : Type 0} (made : Result T Refusal) (instead : Refusal → T) (answer : ℕ)
    (stored : T) : Type 0 where
  pub done : IfOk made (λ x. (answer ≡ 0) × (stored ≡ x))
  pub refused :
      IfErr made (λ r. (answer ≡ answer_number r) × (0 < answer) × (stored ≡ instead r))

-- The size that is stored after a refusal.
abbrev pub no_size : MessageSize
no_size = record { word_count = 0; cap_count = 0 }
