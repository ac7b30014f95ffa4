-- After a call, each place of the message is still there: no segment becomes shorter.
use Rattle.std.proofs.Common.{◌≡◌, inl, inr, ℕ, ◌+◌, ◌/◌, ◌%◌, List, length, get_or, Result, Ok, Err, sym, ap, ◌∙◌, le_of_eq, le_trans, arith}
use Rattle.std.proofs.lemmas.Bool.{cases_eq, cases_lt}
use Rattle.std.proofs.lemmas.List.{length-set}
use Rattle.capnp_words.specs.declared.error.ErrorKind.{ErrorKind}
use Rattle.capnp_format.specs.Segments.{Segments, segment, Grows}
use Rattle.capnp_format.specs.Tree.{Tree}
use Rattle.capnp_arena_traits.specs.View.{View}
use Rattle.capnp_allocation.specs.Fields.{with_field}
use Rattle.capnp_format.specs.Fields.{with_bits, put_field}
use Rattle.capnp_allocation.specs.Makes.{CallAt, MakesObject}
use Rattle.capnp_allocation.specs.Memory.{Lengthens, TakesWords}
use Rattle.capnp_allocation.specs.Stored.{IsReplaced}
use Rattle.capnp_allocation.specs.Zeroed.{IsPruned, IsPrunedBut}
use Rattle.capnp_allocation.proofs.Zeros.{lengths_kept}

pub grows_again : (S M R : Segments) → Grows S M → Grows M R → Grows S R
grows_again S M R first second = record {
  segments = le_trans first.segments second.segments;
  words = λ x. le_trans (first.words x) (second.words x);
}

-- Words are zeroed, and perhaps one word is written.
pub pruned_grows : {S R : Segments} → IsPruned S R → Grows S R
pruned_grows h = record { segments = le_of_eq (sym h.segments); words = λ v. le_of_eq (sym (h.words v)) }

pub pruned_but_grows : {S R : Segments} {s p x : ℕ} → IsPrunedBut S R s p x → Grows S R
pruned_but_grows h = record { segments = le_of_eq (sym h.segments); words = λ v. le_of_eq (sym (h.words v)) }

pub replaced_grows : {S R : Segments} {s p : ℕ} {t u : Tree} → IsReplaced S R s p t u → Grows S R
replaced_grows h = record { segments = h.segments; words = h.words }

-- A number or a bit is written.
pub field_grows : (old new : View) (id b w v : ℕ) → new ≡ record old { words = with_field old.words id b w v } → Grows old.words new.words
field_grows old new id b w v written =
    let made : List ℕ = put_field (segment old.words id) b w v in
    let words : new.words ≡ with_field old.words id b w v = ap (λ (v : View). v.words) written in
    let long : length made ≡ length (segment old.words id) = length-set (segment old.words id) (b / 64) (with_bits (get_or (segment old.words id) (b / 64) 0) (b % 64) w v) in
    record {
      segments = le_of_eq (sym (ap length words ∙ length-set old.words id made));
      words = λ v. le_of_eq (sym (ap (λ S. length (segment S v)) words ∙ lengths_kept old.words id made long v));
    }

-- Words are allocated.
lengthens_grows : {S R : Segments} {k n : ℕ} → Lengthens S R k n → Grows S R
lengthens_grows {S} {R} {k} {n} h = record {
  segments = omega (arith, h.segments);
  words = λ v. elim (cases_eq v k) [
    | inl e ↦ rw e (omega (arith, h.gained))
    | inr other ↦ le_of_eq (sym (h.others v other))
  ];
}

taken_grows : {old new : View} {id n : ℕ} → TakesWords old new id n → Grows old.words new.words
taken_grows {old} {new} {id} {n} h = elim (cases_lt (old.room id) (length (segment old.words id) + n)) [
  | inl past ↦ (let (k, next, longer) = h.far past in lengthens_grows longer)
  | inr fits ↦ lengthens_grows (h.near fits)
]

-- An object is made, or the call is refused.
pub object_grows : {A : Type 0} {c : CallAt} {t : Tree} {n : ℕ} (r : Result A ErrorKind) → MakesObject r c t n → Grows c.old.words c.new.words
object_grows (Ok x) made = taken_grows made.memory.taken
object_grows (Err k) made = pruned_grows made.only
