-- What a copy has requested; and that the test answers if the message can be read.
use Rattle.std.proofs.Common.{◌≡◌, ◌⊎◌, inl, inr, refl, arith, ℕ, ◌+◌, ◌*◌, ◌<◌, ◌≤◌, [], ◌∷◌, map, sum, Bool, Result, Ok, Err, IsOk, IfErr, length}
use Rattle.std.proofs.lemmas.Grind.{common_steps}
use Rattle.capnp_words.specs.declared.error.ErrorKind.{ErrorKind}
use Rattle.capnp_format.specs.Segments.{Segments}
use Rattle.capnp_framing.specs.Reading.{total}
use Rattle.capnp_arena.specs.declared.arena.reader_arena_impl.ReaderOptions.{ReaderOptions}
use Rattle.capnp_messages.specs.Tries.{IsRoomFor}
use Rattle.capnp_messages.specs.Messages.{IsReadable, RefusesCheck}
use Rattle.capnp_messages.proofs.AnsweredLemmas.{check_alone, check_refused}

-- a test is answered if its message can be read, or doesn't have one segment
pub is_tested : (S : Segments) (limits : ReaderOptions) (r : Result Bool ErrorKind) → (length S ≡ 1 → IsReadable S limits) →
    IfErr r (RefusesCheck S limits) → IsOk r
is_tested S limits (Ok holds) can refused = refl
is_tested S limits (Err k) can refused = absurd (check_refused S limits (can (check_alone S limits refused)) refused)

total_is : (S : Segments) → total S ≡ sum (map length S)
total_is [] = refl
total_is (ws ∷ S) = grind (arith, common_steps, total_is S)

-- what is requested: the words of the source and one more, or as many words as are made
pub asked_no_more : (S : Segments) {words : ℕ} (room : ℕ) → IsRoomFor (total S) words room → (room ≤ sum (map length S) + 1) ⊎ (room < 2 * words)
asked_no_more S room (inl first) = inl (omega (arith, first, total_is S))
asked_no_more S room (inr (more, exact)) = inr (omega (arith, more, exact))
