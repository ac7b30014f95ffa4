use Rattle.std.proofs.Common.{◌≡◌, ◌∙◌, ◌∷◌, ◌/◌, ◌<◌, ◌≤◌, ◌^◌, ℕ, List, [], ap, arith, length, sym, subst}
use Rattle.capnp_format.specs.Bytes.{message, words_of}
use Rattle.capnp_format.specs.Segments.{segment}
use Rattle.capnp_format.proofs.WordsOf.{words}
use Rattle.capnp_arena.specs.Kept.{arena_rows}
use Rattle.capnp_arena.specs.RoomLemmas.{rows_small, rows_within}
use Rattle.capnp_framing.specs.Frames.{bytes_of_words}
use Rattle.capnp_messages.proofs.messages.writing.canonical_bytes.Goals as goal

-- the only segment has fewer words than 2^29
few_words : {B : List (List ℕ)} {bytes : List ℕ} {room : ℕ} → bytes ∷ [] ≡ B → length (segment (message B) 0) ≤ room → room < 2 ^ 29 → length bytes / 8 < 2 ^ 29
few_words {bytes = bytes} {room = room} only inside small =
    let here : length (words_of bytes) ≤ room = subst (λ (B : List (List ℕ)). length (segment (message B) 0) ≤ room) (sym only) inside in
    omega (arith, here, small, words bytes)

pub returns-clause-bytes : goal.returns-clause-bytes
returns-clause-bytes g c = λ words same.
    let only : words_of c.in-Ok-SingleSegment.segment.now ∷ [] ≡ words ∷ [] = ap message (rw c.in-Ok-SingleSegment.field-0-is at c.in-Ok-SingleSegment.ensures.bytes) ∙ same in
    let is : words_of c.in-Ok-SingleSegment.segment.now ≡ words = cc in
    c.whole_words.ensures.bytes ∙ ap bytes_of_words is

pub returns-clause-words : goal.returns-clause-words
returns-clause-words g c =
    sym (ap message (rw c.in-Ok-SingleSegment.field-0-is at c.in-Ok-SingleSegment.ensures.bytes)) ∙ ap (λ (ws : List ℕ). ws ∷ []) (sym c.whole_words.ensures.words)

pub returns-clause-short : goal.returns-clause-short
returns-clause-short g c =
    let rows = arena_rows g.A.Segment.Segment g.A.Allocator.first_in_arena c.args.made.now.listed c.args.made.now.apart in
    let only = rw c.in-Ok-SingleSegment.field-0-is at c.in-Ok-SingleSegment.ensures.bytes in
    let few : length c.in-Ok-SingleSegment.segment.now / 8 < 2 ^ 29 =
    few_words only (rows_within g.A.Segment.Segment rows 0) (rows_small g.A.Segment.Segment rows 0) in
    omega (arith, few, c.whole_words.ensures.shorter)
