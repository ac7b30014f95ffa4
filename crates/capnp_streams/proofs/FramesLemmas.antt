-- Which messages are in a stream, after those that were read.
use Rattle.std.proofs.Common.{◌≡◌, ◌<◌, ℕ, List, [], ◌∷◌, ◌++◌, All, Option, Some, None, length}
use Rattle.std.proofs.Common.{refl, sym, ap, ap₂, ◌∙◌, subst}
use Rattle.std.proofs.Common.{append_assoc, arith, length-append}
use Rattle.std.proofs.lemmas.List.Elements.{All-head, All-tail}
use Rattle.std.specs.Io.KnownBytes.{Consumes}
use Rattle.capnp_format.specs.Segments.{Segments}
use Rattle.capnp_framing.specs.Flat.{BeginsWithFrame}
use Rattle.capnp_framing.specs.Reading.{NoFrame, count_cut, too_many, table_cut, too_long, words_cut}
use Rattle.capnp_framing.specs.declared.framing.frame_error.FrameError.{FrameError}
use Rattle.capnp_framing.specs.declared.framing.frame_error.FrameError.TheVariants.{ReadFailed}
use Rattle.capnp_framing.proofs.FrameLemmas.{one_frame_begins}
use Rattle.capnp_framing.proofs.ReadingLemmas.{frame_is_read}
use Rattle.capnp_messages.proofs.FramesLemmas.{frame_some, no_bytes_begin}
use Rattle.capnp_streams.specs.Streams.{AreFrames}

-- what comes after frames that were read is the frames of the other messages
pub frames_behind : (most : ℕ) (done all : List Segments) (front left bytes : List ℕ) →
    AreFrames most done front → AreFrames most all bytes → bytes ≡ front ++ left →
    (more : List Segments) × (all ≡ done ++ more) × AreFrames most more left
frames_behind most [] all front left bytes none framed same =
    (all, refl, subst (AreFrames most all) (same ∙ ap (λ (x : List ℕ). x ++ left) none) framed)
frames_behind most (S ∷ done) [] front left bytes (first, rest, is, framed, short, more) none same =
    let some : 0 < length first = frame_some S first framed in
    let total : 0 ≡ length (front ++ left) = ap length (sym none ∙ same) in
    absurd (omega (arith, some, total, length-append front left, ap length is, length-append first rest))
frames_behind most (S ∷ done) (T ∷ all) front left bytes
    (first, rest, is, framed, short, more) (first', rest', is', framed', short', more') same =
    let whole : first ++ (rest ++ left) ≡ first' ++ rest' =
    sym (append_assoc first rest left) ∙ ap (λ (x : List ℕ). x ++ left) (sym is) ∙ sym same ∙ is' in
    let (one, begun, behind) = one_frame_begins S T first first' (rest ++ left) rest' framed framed' whole in
    let (others, all_is, are) = frames_behind most done all rest left rest' more more' (sym behind) in
    (others, ap₂ (λ (x : Segments) (xs : List Segments). x ∷ xs) (sym one) all_is, are)

-- an empty input isn't refused as a frame
pub no_bytes_refused : (most : ℕ) (e : FrameError) → NoFrame [] most e → ⊥
no_bytes_refused most e (count_cut some few named) = omega arith
no_bytes_refused most e (too_many four many named) = omega arith
no_bytes_refused most e (table_cut four few short named) = omega arith
no_bytes_refused most e (too_long has long named) = let count = has.count in omega arith
no_bytes_refused most e (words_cut has fit short named) = let count = has.count in omega arith

-- what is left, which is frames, isn't refused
pub frame_is_there : (most : ℕ) (more : List Segments) (left : List ℕ) (e : FrameError) →
    AreFrames most more left → NoFrame left most e → ⊥
frame_is_there most [] left e framed none =
    no_bytes_refused most e (subst (λ (bs : List ℕ). NoFrame bs most e) framed none)
frame_is_there most (S ∷ more) left e (first, rest, is, framed, short, others) none =
    frame_is_read S first rest most e framed short (subst (λ (bs : List ℕ). NoFrame bs most e) is none)

-- the message whose frame is at the front is the first one that is left
pub front_has : (P : Segments → Type 0) (most : ℕ) (more : List Segments) (left : List ℕ) (S : Segments) →
    AreFrames most more left → All P more → BeginsWithFrame left most S → P S
front_has P most [] left S framed all begins =
    absurd (no_bytes_begin most S (subst (λ (bs : List ℕ). BeginsWithFrame bs most S) framed begins))
front_has P most (T ∷ more) left S (first, rest, is, framed, short, others) all begins =
    let (one, begun, behind) =
    one_frame_begins T S first begins.front rest begins.behind framed begins.framed (sym is ∙ begins.is) in
    subst P one (All-head P T more all)

-- what holds of all messages holds of those that are left
pub all_left : (P : Segments → Type 0) (done more : List Segments) → All P (done ++ more) → All P more
all_left P [] more all = all
all_left P (S ∷ done) more all = all_left P done more (All-tail P S (done ++ more) all)

-- known bytes are never refused with ReadFailed
pub known_are_read : {bytes : List ℕ} {most : ℕ} → NoFrame bytes most ReadFailed → ⊥
known_are_read (count_cut some cut is) = cc
known_are_read (too_many long many is) = cc
known_are_read (table_cut long few cut is) = cc
known_are_read (too_long there many is) = cc
known_are_read (words_cut there few cut is) = cc

-- what is left of known bytes is known
pub left_known : (old left : Option (List ℕ)) (xs taken : List ℕ) → old ≡ Some xs → Consumes old left taken →
    left ≡ None → ⊥
left_known old left xs taken some takes none =
    subst (λ (l : Option (List ℕ)). Consumes (Some xs) l taken) none
    (subst (λ (o : Option (List ℕ)). Consumes o left taken) some takes)
