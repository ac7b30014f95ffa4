-- Reading as a function: it takes the read limiter before the reading, and returns what is read, or
-- the error of the first check that fails, and the limiter afterwards. Checks and charges are made
-- in the order in which they are written.
use Rattle.std.specs.Prelude.{ℕ, Bool, true, false, Option, Some, None, Result, Ok, Err, if◌then◌else◌}
use Rattle.std.specs.Prelude.{nat_le}
use Rattle.capnp_words.specs.declared.error.ErrorKind.{ErrorKind}
use Rattle.capnp_words.specs.declared.error.ErrorKind.TheVariants.{ReadLimitExceeded}
use Rattle.capnp_words.specs.Meter.{Meter, charged, counted_once}

-- What reads an A: a function of the limiter before.
abbrev pub Metered : Type 0 → Type 0
Metered A = Meter → Result A ErrorKind × Meter

-- This result; the limiter is unchanged.
abbrev pub outcome : {A : Type 0} → Result A ErrorKind → Metered A
outcome result m = (result, m)

-- The answer x; the limiter is unchanged.
abbrev pub answer : {A : Type 0} → A → Metered A
answer x m = (Ok x, m)

-- The refusal with k; the limiter is unchanged.
abbrev pub refuse : {A : Type 0} → ErrorKind → Metered A
refuse k m = (Err k, m)

-- The result of f on an answer, with the limiter afterwards. A refusal stays.
abbrev pub onward : {A B : Type 0} → (A → Metered B) → Result A ErrorKind × Meter →
    Result B ErrorKind × Meter
onward f (Ok x, m) = f x m
onward f (Err k, m) = (Err k, m)

-- First g, then f on the answer of g. A refusal of g stays.
infixl 10 ◌>>>◌
abbrev pub ◌>>>◌ : {A B : Type 0} → Metered A → (A → Metered B) → Metered B
g >>> f = λ m. onward f (g m)

-- Refuses with k unless the test holds.
abbrev pub demand : Bool → ErrorKind → Metered (Unit {0})
demand b k m = if b then (Ok tt, m) else (Err k, m)

-- Refuses with this error, if there is one.
abbrev pub refuse_if : Option ErrorKind → Metered (Unit {0})
refuse_if None m = answer tt m
refuse_if (Some k) m = refuse k m

-- Whether a limit covers n words: any number, if there is none.
abbrev pub fits : Option ℕ → ℕ → Bool
fits None n = true
fits (Some left) n = nat_le n left

-- Whether m covers n words: any number, if nothing is charged.
abbrev pub covers : Bool → Meter → ℕ → Bool
covers true m n = fits m.left n
covers false m n = true

-- Charges n words, if anything is charged.
abbrev pub charge_words : Bool → ℕ → Metered (Unit {0})
charge_words charging n m =
    if covers charging m n then (Ok tt, charged charging m n) else (Err ReadLimitExceeded, m)

-- Counts a pointer as followed, if anything is charged.
abbrev pub count_pointer : Bool → Metered (Unit {0})
count_pointer charging m = (Ok tt, counted_once charging m)
