-- A call isn't refused if there is an answer, nor for lack of room if the size says that there is
-- enough.
use Rattle.std.proofs.Common.{◌≡◌, ◌≢◌, ◌⊎◌, inl, inr, ℕ, zero, suc, ◌+◌, ◌*◌, ◌<◌, ◌≤◌, ◌^◌, List, [], ◌∷◌, All, length, get_or, take, Result}
use Rattle.std.proofs.Common.{◌↔◌, Bool, true, false, Option, None, Some, IfNone, IfSome, IsNone, is_some, not}
use Rattle.std.proofs.Common.{refl, sym, ap, ◌∙◌, subst, arith}
use Rattle.std.specs.Borrow.{Bor}
use Rattle.std.proofs.lemmas.Result.{IfOk-weaker}
use Rattle.capnp_format.specs.Canonical.{encoding, trim, word_count}
use Rattle.capnp_format.specs.Segments.{Segments, AreWords}
use Rattle.capnp_format.specs.Value.{IsValue}
use Rattle.capnp_format.proofs.Bounds.{means_value}
use Rattle.capnp_format.proofs.Lengths.{length-body}
use Rattle.capnp_format.proofs.Trimmed.{trim-value}
use Rattle.capnp_format.proofs.Trimming.{trim-words}
use Rattle.capnp_arena_traits.specs.Allocations.{max_segment_words}
use Rattle.capnp_arena_traits.specs.Limits.{AreSmall}
use Rattle.capnp_arena.specs.declared.arena.reader_arena_impl.ReaderOptions.{ReaderOptions}
use Rattle.capnp_framing.specs.Flat.{BeginsWithFrame}
use Rattle.capnp_framing.specs.Frames.{AreSegmentWords, bytes_of_words}
use Rattle.capnp_framing.specs.Reading.{NoFrame}
use Rattle.capnp_framing.proofs.FrameLemmas.{one_frame_begins}
use Rattle.capnp_framing.proofs.ReadingLemmas.{frame_is_read, bytes-length}
use Rattle.capnp_messages.specs.CanonicalMessages.{IsCanonicalMessage}
use Rattle.capnp_pointers.specs.declared.pointers.canonical_fault.CanonicalFault.{CanonicalFault}
use Rattle.capnp_messages.specs.Messages.{HasSizeOf, IsCanonicalWithin, IsFaultOf}
use Rattle.capnp_messages.specs.Commands.{HasAnswerWithin, form_bytes}
use Rattle.capnp_messages.specs.declared.messages.command.Command.TheVariants.{Canon, Check, Size}
use Rattle.capnp_messages.specs.declared.messages.command.Form.{Form}
use Rattle.capnp_messages.specs.declared.messages.command.Form.TheVariants.{Framed, Flat}
use Rattle.capnp_messages.proofs.AnsweredLemmas.{answer_refused, check_alone, check_refused, size_refused}
use Rattle.capnp_messages.proofs.FramesLemmas.{no_bytes_begin}
use Rattle.capnp_canonical.specs.Calls.{AreWholeWords, Fills, InFrame, IsCopyOf, IsGranted, IsNoRoom, IsOneSegment, RefusesBytes, RefusesMeaning, RefusesRoom, RefusesSegments, RefusesSegment, TestFinds, TestIs, no_fault, table_bytes, c_fault}
use Rattle.capnp_canonical.specs.Numbers.{answer_number}
use Rattle.capnp_canonical.specs.declared.fault.Fault.{Fault}
use Rattle.capnp_canonical.specs.declared.refusal.Refusal.{Refusal}
use Rattle.capnp_canonical.specs.declared.refusal.Refusal.TheVariants.{Layout, NoRoom}
use Rattle.capnp_canonical.proofs.FrameLemmas.{length_frame}
use Rattle.capnp_canonical.proofs.NumberLemmas.{error_number_above}

-- if Q follows from P, a buffer that is filled with bytes for P is filled with bytes for Q
pub fills_weaker : {result : Result ℕ Refusal} {old new : List ℕ} {P Q : List ℕ → Type 0} →
    ((bytes : List ℕ) → P bytes → Q bytes) → Fills result old new P → Fills result old new Q
fills_weaker {result = result} {new = new} more fills = record {
  front = IfOk-weaker result _ _ (λ n put. more (take n new) put) fills.front;
  within = fills.within;
  behind = fills.behind;
  kept = fills.kept;
}

-- the words of a message that has a frame have 64 bits
word_small : (ws : List ℕ) (p : ℕ) → AreSegmentWords ws → get_or ws p 0 < 2 ^ 64
word_small [] p all = omega arith
word_small (w ∷ ws) zero all = all 0 0 (omega arith)
word_small (w ∷ ws) (suc p) all = word_small ws p (λ k d less. all (suc k) d (omega arith))

are_words : (S : Segments) → All AreSegmentWords S → AreWords S
are_words [] all s p = omega arith
are_words (ws ∷ S) all zero p = word_small ws p (all 0 [] (omega arith))
are_words (ws ∷ S) all (suc s) p = are_words S (λ k d less. all (suc k) d (omega arith)) s p

-- bytes begin with the frame of at most one message, and then aren't refused
same_message : {bytes : List ℕ} {words : ℕ} {S T : Segments} →
    BeginsWithFrame bytes words S → BeginsWithFrame bytes words T → S ≡ T
same_message {S = S} {T = T} s t =
    (one_frame_begins S T s.front t.front s.behind t.behind s.framed t.framed (sym s.is ∙ t.is)).0

frame_begins : {bytes : List ℕ} {words : ℕ} {r : Refusal} {S : Segments} →
    RefusesBytes bytes words r → BeginsWithFrame bytes words S → ⊥
frame_begins {words = words} {S = S} (inl (named, none)) begins =
    no_bytes_begin words S (subst (λ (bs : List ℕ). BeginsWithFrame bs words S) none begins)
frame_begins {words = words} {S = S} (inr (e, named, none)) begins =
    frame_is_read S begins.front begins.behind words e begins.framed begins.short
    (subst (λ (bs : List ℕ). NoFrame bs words e) begins.is none)

-- A refusal and an answer are about the same message.
pub where_framed : {bytes : List ℕ} {words : ℕ} {r : Refusal} {P Q : Segments → Type 0} {X : Type 0} →
    ((S : Segments) → AreWords S → P S → Q S → X) →
    RefusesBytes bytes words r ⊎ InFrame bytes words P → InFrame bytes words Q → X
where_framed both (inl none) (T, t, q) = absurd (frame_begins none t)
where_framed {P = P} both (inr (S, s, p)) (T, t, q) =
    both T (are_words T t.framed.message.words) (subst P (same_message s t) p) q

pub where_lent : (segments : List (Bor (List ℕ))) {r : Refusal} {P Q X : Type 0} → (P → Q → X) →
    RefusesSegments segments r ⊎ (AreWholeWords segments × AreSmall segments × P) →
    AreWholeWords segments × AreSmall segments × Q → X
where_lent segments both (inl (inl (named, uneven))) (whole, small, q) = absurd (uneven whole)
where_lent segments both (inl (inr (named, large))) (whole, small, q) = absurd (large small)
where_lent segments both (inr (even, fits, p)) (whole, small, q) = both p q

pub where_words : (bytes : List ℕ) {r : Refusal} {P Q X : Type 0} → (P → Q → X) →
    RefusesSegment bytes r ⊎ (IsOneSegment bytes × P) → IsOneSegment bytes × Q → X
where_words bytes both (inl (inl (named, uneven))) (one, q) = absurd (uneven one.0)
where_words bytes both (inl (inr (named, large))) (one, q) = absurd (large one.1)
where_words bytes both (inr (same, p)) (one, q) = both p q

-- If bytes begin with a message for which P holds, P holds for the one that was found there.
pub of_framed : {bytes : List ℕ} {words : ℕ} {S : Segments} {P : Segments → Type 0} →
    BeginsWithFrame bytes words S → InFrame bytes words P → P S
of_framed {P = P} begins (T, there, p) = subst P (same_message there begins) p

-- what the test of a message finds, and what is reported about it
pub test_finds : (limits : ReaderOptions) (S : Segments) (o : Option CanonicalFault) →
    (IsNone o ↔ IsCanonicalMessage S) → IfNone o (IsCanonicalWithin S limits) → IfSome o (IsFaultOf S limits) → TestFinds limits o S
test_finds limits S None exactly within fault = within
test_finds limits S (Some f) exactly within fault = (λ is. (let wrong : true ≡ false = exactly.1 is in cc), fault)

pub test_told : (limits : ReaderOptions) (S : Segments) (told : Fault) (o : Option CanonicalFault) (b : Bool) →
    is_some o ≡ not b → IfSome o (λ f. told ≡ c_fault f) → (IsNone o → told ≡ no_fault) →
    TestFinds limits o S → TestIs limits b told S
test_told limits S told None true e m n h = (h, n refl)
test_told limits S told None false e m n h = absurd (let wrong : false ≡ true = e in cc)
test_told limits S told (Some f) true e m n h = absurd (let wrong : true ≡ false = e in cc)
test_told limits S told (Some f) false e m n h = (h.0, (f, h.1, m))

-- the copy of a value that fits is refused only for lack of memory or room
pub meaning_granted : (form : Form) (limits : ReaderOptions) {r : Refusal} (S : Segments) →
    RefusesMeaning (Canon form) limits S r → HasAnswerWithin (Canon form) limits S → answer_number r ≡ 32
meaning_granted form limits S (k, named, refused) can =
    ap answer_number (named ∙ ap Layout (answer_refused (Canon form) limits S can refused))

pub room_granted : (form : Form) (limits : ReaderOptions) (room : ℕ) {r : Refusal} (S : Segments) →
    RefusesRoom form limits room S r → HasAnswerWithin (Canon form) limits S → IsGranted (answer_number r)
room_granted form limits room S (inl refused) can = inr (inr (meaning_granted form limits S refused can))
room_granted form limits room S (inr (bytes, copy, named, less)) can = inr (inl (ap answer_number named))

-- words of this many bytes fit a segment of a copy
pub fit_segment : {bytes : List ℕ} (words : List ℕ) → bytes ≡ bytes_of_words words → length bytes ≤ 8 * max_segment_words →
    length words ≤ max_segment_words
fit_segment words is short = omega (arith, ap length is, bytes-length words, short)

-- and not for lack of room if the size says that there is enough
pub copy_bytes : (form : Form) (words : List ℕ) → length (form_bytes form words) ≡ table_bytes form + 8 * length words
copy_bytes Framed words = omega (arith, length_frame words (bytes_of_words words) refl, bytes-length words)
copy_bytes Flat words = omega (arith, bytes-length words)

pub no_room_for : (form : Form) (words : List ℕ) (P : List ℕ → Type 0) {room : ℕ} {r : Refusal} → P (form_bytes form words) →
    (r ≡ NoRoom (table_bytes form + length (bytes_of_words words))) × (room < table_bytes form + length (bytes_of_words words)) →
    (bytes : List ℕ) × P bytes × (r ≡ NoRoom (length bytes)) × (room < length bytes)
no_room_for form words P {room} copy (named, less) =
    let long : length (form_bytes form words) ≡ table_bytes form + length (bytes_of_words words) = omega (arith, copy_bytes form words, bytes-length words) in
    (form_bytes form words, copy, named ∙ ap NoRoom (sym long), subst (λ n. room < n) (sym long) less)

copy_within : (form : Form) (limits : ReaderOptions) (n caps : ℕ) {bytes : List ℕ} (S : Segments) → AreWords S →
    IsCopyOf form limits S bytes → HasSizeOf S limits n caps → length bytes ≤ table_bytes form + 8 + 8 * n
copy_within form limits n caps S words (t, value, few, is) size =
    let v : IsValue t = means_value S _ 0 0 t value.cost words value.means in
    let counted : n ≡ word_count t = (size.of_value t _ value.cost value.means).0 in
    let shorter : word_count (trim t) ≤ word_count t = trim-words t v in
    let whole : length (encoding (trim t)) ≡ 1 + word_count (trim t) =
    omega (arith, length-body (trim t) (trim-value t v)) in
    omega (arith, ap length is, copy_bytes form (encoding (trim t)), counted, shorter, whole)

pub room_enough : (form : Form) (limits : ReaderOptions) (room n caps : ℕ) {r : Refusal} →
    table_bytes form + 8 + 8 * n ≤ room → (S : Segments) → AreWords S →
    RefusesRoom form limits room S r → HasSizeOf S limits n caps → answer_number r ≢ 1
room_enough form limits room n caps wide S words (inl (k, named, refused)) size =
    λ is. omega (arith, is, ap answer_number named, error_number_above k)
room_enough form limits room n caps wide S words (inr (bytes, copy, named, less)) size =
    λ is. omega (arith, copy_within form limits n caps S words copy size)

-- the test of a message that can be read isn't refused, nor is a size that exists
pub check_granted : (limits : ReaderOptions) {r : Refusal} (S : Segments) →
    RefusesMeaning Check limits S r → HasAnswerWithin Check limits S → ⊥
check_granted limits S (k, named, refused) can = check_refused S limits (can (check_alone S limits refused)) refused

pub size_granted : (limits : ReaderOptions) {r : Refusal} (S : Segments) →
    RefusesMeaning Size limits S r → HasAnswerWithin Size limits S → ⊥
size_granted limits S (k, named, refused) has = size_refused S limits has refused

-- a call that requires only a frame isn't refused if there is one
pub frame_granted : {bytes : List ℕ} {words : ℕ} {r : Refusal} {P : Segments → Type 0} →
    RefusesBytes bytes words r → InFrame bytes words P → ⊥
frame_granted none (S, begins, p) = frame_begins none begins

-- nor one that requires only segments, or the words of one
pub lent_granted : (segments : List (Bor (List ℕ))) {r : Refusal} {P : Type 0} →
    RefusesSegments segments r → AreWholeWords segments × AreSmall segments × P → ⊥
lent_granted segments (inl (named, uneven)) (whole, small, p) = uneven whole
lent_granted segments (inr (named, large)) (whole, small, p) = large small

pub words_granted : (bytes : List ℕ) {r : Refusal} {P : Type 0} →
    RefusesSegment bytes r → IsOneSegment bytes × P → ⊥
words_granted bytes (inl (named, uneven)) (one, p) = uneven one.0
words_granted bytes (inr (named, large)) (one, p) = large one.1

-- the number of a refusal for lack of room
pub no_room_is : {r : Refusal} → IsNoRoom r → answer_number r ≡ 1
no_room_is (size, named) = ap answer_number named
