-- What the commands on frames answer and refuse follows from the lines that they get.
use Rattle.std.proofs.Common.{◌≡◌, inl, inr, ℕ, ◌<◌, ◌≤◌, List, [], ◌∷◌, ◌∙◌, length, slice_get, Some, sym, ap, subst, arith, length-append}
use Rattle.capnp_format.specs.Segments.{Segments}
use Rattle.capnp_framing.specs.Reading.{NoFrame}
use Rattle.capnp_framing.proofs.FrameLemmas.{one_frame_begins}
use Rattle.capnp_framing.proofs.ReadingLemmas.{frame_is_read}
use Rattle.capnp_layout.specs.declared.tool.refusal.Refusal.{Refusal}
use Rattle.capnp_arena_traits.specs.Limits.{IsSmall}
use Rattle.capnp_framing.specs.Frames.{max_frame_segments}
use Rattle.capnp_layout.specs.Commands.{HoldsFrame, RefusesFrame, RefusesToFrame, beyond_limits, empty_line, max_frame_words, no_frame, no_line, wrong_number}

-- the only line
pub only_line : (lines : List (List ℕ)) (line : List ℕ) → length lines ≤ 1 → slice_get lines 0 ≡ Some line → lines ≡ line ∷ []
only_line [] line few e = absurd (cc e)
only_line (x ∷ []) line few e = cc
only_line (x ∷ y ∷ lines) line few e = absurd (omega arith)

-- a line that holds a frame isn't empty
not_empty : {lines : List (List ℕ)} {S : Segments} (holds : HoldsFrame lines S) → 0 < length holds.line
not_empty holds =
    let whole = ap length holds.begins.is in
    let front = ap length holds.begins.framed.is in
    omega (arith, whole, front, length-append holds.begins.front holds.begins.behind)

-- a frame that the only line holds isn't refused
pub frame_not_refused : {lines : List (List ℕ)} {S : Segments} {r : Refusal} → HoldsFrame lines S → RefusesFrame lines r → ⊥
frame_not_refused holds (no_line named none) = let wrong : holds.line ∷ [] ≡ [] = sym holds.only ∙ none in cc
frame_not_refused holds (empty_line named none) =
    let empty : holds.line ≡ [] = (let same : holds.line ∷ [] ≡ [] ∷ [] = sym holds.only ∙ none in cc) in
    let none : length holds.line ≡ 0 = ap length empty in
    let some = not_empty holds in
    omega (arith, none, some)
frame_not_refused {S = S} holds (no_frame line e named only refused) =
    let same : line ≡ holds.line = (let lines : line ∷ [] ≡ holds.line ∷ [] = sym only ∙ holds.only in cc) in
    frame_is_read S holds.begins.front holds.begins.behind max_frame_words e holds.begins.framed holds.begins.short
    (subst (λ (bytes : List ℕ). NoFrame bytes max_frame_words e) (same ∙ holds.begins.is) refused)

-- the only line holds the frame of one message
pub one_message : {lines : List (List ℕ)} {S R : Segments} → HoldsFrame lines S → HoldsFrame lines R → S ≡ R
one_message {S = S} {R = R} a b =
    let same : a.line ≡ b.line = (let lines : a.line ∷ [] ≡ b.line ∷ [] = sym a.only ∙ b.only in cc) in
    (one_frame_begins S R a.begins.front b.begins.front a.begins.behind b.begins.behind a.begins.framed b.begins.framed (sym a.begins.is ∙ same ∙ b.begins.is)).0

-- a number of segments that a frame can hold isn't refused
pub count_not_refused : {lines : List (List ℕ)} {r : Refusal} → IsSmall lines → (1 ≤ length lines) × (length lines ≤ max_frame_segments) → RefusesToFrame lines r → ⊥
count_not_refused small few (beyond_limits named large) = large small
count_not_refused small few (wrong_number e named (inl (is, none))) = omega (arith, few.0, none)
count_not_refused small few (wrong_number e named (inr (is, many))) = omega (arith, few.1, many)
