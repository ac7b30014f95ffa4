-- What the checks of a place answer, by what they answer for the segment.
use Rattle.std.proofs.Common.{◌≡◌, ℕ, ◌*◌, ◌/◌, ◌<◌, ◌≤◌, Bool, true, false, List, length, refl, sym, subst, arith, IfOk, IfErr, IsOk, IsErr}
use Rattle.std.specs.Prelude.{Result, Ok, Err, ◌↔◌, ℤ, pos, ◌+ℤ◌, ◌≤ℤ◌}
use Rattle.std.proofs.lemmas.Bool.{false≢true}
use Rattle.capnp_format.specs.Bytes.{message}
use Rattle.capnp_format.specs.Segments.{Segments, segment}
use Rattle.capnp_words.specs.Meter.{Meter, Affords, charged}
use Rattle.capnp_words.specs.declared.error.ErrorKind.{ErrorKind}
use Rattle.capnp_arena_traits.specs.Checks.{LeadsInside}
use Rattle.capnp_arena_traits.proofs.MessageLemmas.{length-message}

pub there-message : (B : List (List ℕ)) (id : ℕ) → id < length B → id < length (message B)
there-message B id h = subst (λ n. id < n) (sym (length-message B)) h

pub eighth : (n m : ℕ) → n ≡ 8 * m → n / 8 ≡ m
eighth n m h = omega arith

pub there-bytes : (B : List (List ℕ)) (id : ℕ) → id < length (message B) → id < length B
there-bytes B id h = subst (λ n. id < n) (length-message B) h

-- a place isn't inside a segment that isn't there
pub refused_place : {A : Type 0} (P : Type 0) (B : List (List ℕ)) (id : ℕ) (r : Result A ErrorKind) → IsErr r → (id < length B → ⊥) → (P → id < length (message B)) → IsOk r ↔ P
refused_place P B id (Ok a) h none p = absurd (false≢true h)
refused_place P B id (Err e) h none p = (λ ok. absurd (false≢true ok), λ x. absurd (none (there-bytes B id (p x))))

-- a refusal says nothing about a value
pub no_value : {A : Type 0} (P : A → Type 0) (r : Result A ErrorKind) → IsErr r → IfOk r P
no_value P (Ok a) h = absurd (false≢true h)
no_value P (Err e) h = tt

-- a refusal of a place that isn't inside says nothing about a place inside
pub outside : {A : Type 0} (P : Type 0) (Q : ErrorKind → Type 0) (r : Result A ErrorKind) → (P → ⊥) → IfErr r (λ e. P → Q e)
outside P Q (Ok a) none = tt
outside P Q (Err e) none = λ p. absurd (none p)

-- a position is checked by the segment's length, and by the offset that was passed to the callee
pub leads_as : (P : Type 0) (S : Segments) (id start n : ℕ) (offset handed : ℤ) → id < length S → n ≡ length (segment S id) → handed ≡ offset → (P ↔ (start ≤ n) × (pos 0 ≤ℤ (pos start +ℤ handed)) × ((pos start +ℤ handed) ≤ℤ pos n)) → P ↔ LeadsInside S id start offset
leads_as P S id start n offset handed there e same h =
    let f : (P ↔ (start ≤ n) × (pos 0 ≤ℤ (pos start +ℤ offset)) × ((pos start +ℤ offset) ≤ℤ pos n)) = subst (λ k. P ↔ (start ≤ n) × (pos 0 ≤ℤ (pos start +ℤ k)) × ((pos start +ℤ k) ≤ℤ pos n)) same h in (
      λ p. (there, subst (λ m. start ≤ m) e (f.0 p).0, (f.0 p).1, subst (λ m. (pos start +ℤ offset) ≤ℤ pos m) e (f.0 p).2),
      λ l. f.1 (subst (λ m. start ≤ m) (sym e) l.1, l.2, subst (λ m. (pos start +ℤ offset) ≤ℤ pos m) (sym e) l.3),
    )

-- if nothing is charged, a place inside is granted
pub unasked : (H : Type 0) (charging : Bool) (m : Meter) (n : ℕ) → charging ≡ false → H → (true ≡ true) ↔ (H × Affords charging m n)
unasked H true m n e h = absurd (false≢true (sym e))
unasked H false m n e h = (λ t. (h, tt), λ x. refl)

pub uncharged : (charging : Bool) (m : Meter) (n : ℕ) → charging ≡ false → m ≡ charged charging m n
uncharged true m n e = absurd (false≢true (sym e))
uncharged false m n e = refl
