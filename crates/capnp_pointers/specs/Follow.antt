-- Following a pointer word, with the errors for what may be wrong with it.
use Rattle.std.specs.Prelude.{ℕ, zero, suc, ◌+◌, if◌then◌else◌, nat_lt, ok_or, Result, Ok, Err, length}
use Rattle.capnp_words.specs.declared.error.ErrorKind.{ErrorKind}
use Rattle.capnp_words.specs.declared.error.ErrorKind.TheVariants.{InvalidSegmentId}
use Rattle.capnp_words.specs.declared.error.ErrorKind.TheVariants.{MessageContainsOutOfBoundsPointer}
use Rattle.capnp_format.specs.Word.{upper_half, far_position}
use Rattle.capnp_format.specs.Segments.{Segments, word_at, Target, near, pad}

-- The result of f on an answer; a refusal stays.
infixl 10 ◌>=>◌
abbrev pub ◌>=>◌ : {A B : Type 0} → Result A ErrorKind → (A → Result B ErrorKind) → Result B ErrorKind
(Ok x) >=> f = f x
(Err k) >=> f = Err k

-- Where the far pointer x leads, by one pad or by two, or the error for the first thing that is
-- wrong: a segment that isn't there, or a place outside of its segment.
abbrev pub follow_far : Segments → ℕ → ℕ → Result Target ErrorKind
follow_far S x zero =
    if nat_lt (upper_half x) (length S) then
    (ok_or (pad S x 0) MessageContainsOutOfBoundsPointer >=> λ w.
    ok_or (near S (upper_half x) (far_position x) w 1) MessageContainsOutOfBoundsPointer)
    else Err (InvalidSegmentId (upper_half x))
follow_far S x (suc _) =
    if nat_lt (upper_half x) (length S) then
    (ok_or (pad S x 1) MessageContainsOutOfBoundsPointer >=> λ f.
    if nat_lt (upper_half f) (length S) then
    Ok (record {
      word = word_at S (upper_half x) (far_position x + 1);
      segment = upper_half f;
      start = far_position f;
      pads = 2;
    })
    else Err (InvalidSegmentId (upper_half f)))
    else Err (InvalidSegmentId (upper_half x))
