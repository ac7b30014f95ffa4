-- Raw words that were read are the only segment of a message.
use Rattle.std.proofs.Common.{◌≡◌, ℕ, zero, suc, ◌+◌, ◌-◌, ◌*◌, ◌/◌, ◌%◌, ◌^◌, ◌<◌, ◌≤◌, List, [], ◌∷◌, ◌++◌, length, take, drop, refl, sym, ap, ap₂, ◌∙◌, subst, arith, add-zero, append-nil, append_assoc, length-append, take_at, slice_get, slice_index, Option, Some, None, IfSome}
use Rattle.std.specs.Int.{from_le_bytes, to_le_bytes, w32}
use Rattle.std.specs.Io.KnownBytes.{Consumes, IsAtEnd}
use Rattle.std.proofs.lemmas.Grind.{common_steps}
use Rattle.std.proofs.lemmas.List.Elements.{All-head, All-tail}
use Rattle.std.proofs.lemmas.Nat.{from_le_bytes-to_le_bytes_4, from_le_bytes-to_le_bytes_8}
use Rattle.capnp_format.specs.Bytes.{message, words_of}
use Rattle.capnp_arena_traits.specs.Limits.{IsSmall}
use Rattle.capnp_framing.specs.Bare.{AreBareWords, NoBareWords, most_bare, word_cut, words_beyond}
use Rattle.capnp_framing.specs.Flat.{AreEnds, first_told, parts}
use Rattle.capnp_framing.specs.Frames.{AreSegmentWords, bytes_of_words}
use Rattle.capnp_framing.specs.Reading.{words_told}
use Rattle.capnp_framing.specs.declared.framing.frame_error.FrameError.{FrameError}
use Rattle.capnp_framing.specs.declared.framing.frame_error.FrameError.TheVariants.{MessageTooLong, Truncated}
use Rattle.capnp_framing.proofs.OwnedLemmas.{ends_more}
use Rattle.capnp_framing.proofs.ReadingLemmas.{bytes-length, filled_behind}

-- bytes after the first n are read into the room after them, which was made longer and lent
pub read_behind : (a b c : Option (List ℕ)) (n k len : ℕ) (old room lent xs : List ℕ) → length xs ≡ len → take n xs ≡ take n lent → lent ≡ room → take n room ≡ take n old →
    Consumes a b (take n old) → Consumes b c (take k (drop n xs)) → Consumes a c (take (n + k) (take len (xs ++ drop (length xs) room)))
read_behind a b c n k len old room lent xs long front value kept f g =
    let more : k ≡ n + k - n = omega arith in
    filled_behind a b c n (n + k) len old room lent xs long (omega arith) front value kept f (subst (λ j. Consumes b c (take j (drop n xs))) more g)

-- and the bytes then have that length
pub behind_long : (len : ℕ) (room xs : List ℕ) → length xs ≡ len → length (take len (xs ++ drop (length xs) room)) ≡ len
behind_long len room xs long = ap length (take_at xs (drop (length xs) room) len long) ∙ long

-- what was read is the front of the known bytes
pub begins_so : (a b : Option (List ℕ)) (front : List ℕ) (P : List ℕ → Type 0) → Consumes a b front → ((rest : List ℕ) → P (front ++ rest)) → IfSome a P
begins_so None b front P f h = tt
begins_so (Some x) None front P f h = absurd f
begins_so (Some x) (Some y) front P f h = subst P (sym f) (h y)

-- and is all of them if the input is at its end
pub all_so : (a b : Option (List ℕ)) (all : List ℕ) (P : List ℕ → Type 0) → Consumes a b all → IsAtEnd b → P all → IfSome a P
all_so None b all P f end h = tt
all_so (Some x) None all P f end h = absurd f
all_so (Some x) (Some y) all P f end h = subst P (sym (f ∙ ap (λ (ys : List ℕ). all ++ ys) end ∙ append-nil all)) h

-- one word too many was read
pub beyond : (a b : Option (List ℕ)) (front : List ℕ) (most m : ℕ) → m ≡ most_bare most → Consumes a b front → length front ≡ 8 * m + 8 → IfSome a (λ bytes. NoBareWords bytes most (MessageTooLong (m + 1)))
beyond a b front most m e f long =
    begins_so a b front (λ bytes. NoBareWords bytes most (MessageTooLong (m + 1))) f
    (λ rest. words_beyond (omega (arith, e, long, length-append front rest)) (ap (λ k. MessageTooLong (k + 1)) e))

-- the last word is cut short
pub cut : (a b : Option (List ℕ)) (all : List ℕ) (most m : ℕ) → m ≡ most_bare most → Consumes a b all → IsAtEnd b → length all < 8 * m + 8 → (length all % 8 ≡ 0 → ⊥) → IfSome a (λ bytes. NoBareWords bytes most Truncated)
cut a b all most m e f end less part = all_so a b all (λ bytes. NoBareWords bytes most Truncated) f end (word_cut (omega (arith, e, less)) part refl)

-- the table of one segment
pub only_told : (words : ℕ) (table : List ℕ) → words < 2 ^ 32 → table ≡ to_le_bytes w32 words → words_told 1 table ≡ words
only_told words table small is =
    let first : from_le_bytes w32 (take 4 (to_le_bytes w32 words)) ≡ words = from_le_bytes-to_le_bytes_4 words small in
    ap (words_told 1) is ∙ ap (λ k. k + 0) first ∙ add-zero words

pub only_ends : (words : ℕ) (table ends : List ℕ) → words_told 1 table ≡ words → ends ≡ words ∷ [] → AreEnds 1 table ends
only_ends words table ends told is =
    let long : length ends ≡ 1 = ap length is in
    let kept = ends_more 0 words table [] refl (sym told) (λ k less. absurd (omega arith)) in
    (omega (arith, long), subst (λ (es : List ℕ). (k : ℕ) → k < 1 → slice_index es k ≡ words_told (k + 1) table) (sym is) kept)

-- and the segment itself
pub only_part : (size : ℕ) (table bytes : List ℕ) → words_told 1 table ≡ size / 8 → size % 8 ≡ 0 → parts 1 table bytes ≡ take size bytes ∷ []
only_part size table bytes told whole =
    let same : 8 * first_told table ≡ size = omega (arith, told, whole) in
    ap (λ k. take k bytes ∷ []) same

only_at : (bytes : List ℕ) → length bytes / 8 < 2 ^ 32 → (k : ℕ) (s : List ℕ) → slice_get (bytes ∷ []) k ≡ Some s → length s / 8 < 2 ^ 32
only_at bytes short zero s e = let same : bytes ≡ s = cc in omega (arith, ap length same, short)
only_at bytes short (suc k) s e = absurd (cc e)

pub only_small : (segments : List (List ℕ)) (bytes : List ℕ) → segments ≡ bytes ∷ [] → length bytes / 8 < 2 ^ 32 → IsSmall segments
only_small segments bytes only short = subst IsSmall (sym only) (omega arith, only_at bytes short)

-- one more byte is kept after the others
pub byte_kept : {new : List ℕ} (list front bytes : List ℕ) (i : ℕ) → i < length bytes → list ≡ front ++ take i bytes → new ≡ list ++ slice_index bytes i ∷ [] → new ≡ front ++ take (i + 1) bytes
byte_kept list front bytes i there is one =
    one ∙ ap (λ (xs : List ℕ). xs ++ slice_index bytes i ∷ []) is ∙ append_assoc front (take i bytes) (slice_index bytes i ∷ [])
    ∙ ap (λ (xs : List ℕ). front ++ xs) (taken bytes i there)
  where
    taken : (bytes : List ℕ) (i : ℕ) → i < length bytes → take i bytes ++ slice_index bytes i ∷ [] ≡ take (i + 1) bytes
    taken bytes i there = grind (arith, common_steps)

-- whole words within the limit are never refused for what they hold

pub bare_words_are_read : (bytes : List ℕ) (most : ℕ) (e : FrameError) → AreBareWords bytes most → NoBareWords bytes most e → ⊥
bare_words_are_read bytes most e is (words_beyond long named) = let short = is.short in omega (arith, short, long)
bare_words_are_read bytes most e is (word_cut less part named) = part is.whole

words-bytes : (ws : List ℕ) → AreSegmentWords ws → words_of (bytes_of_words ws) ≡ ws
words-bytes [] small = refl
words-bytes (w ∷ ws) small =
    ap₂ (λ x (xs : List ℕ). x ∷ xs) (from_le_bytes-to_le_bytes_8 w (All-head (λ x. x < 2 ^ 64) w ws small)) (words-bytes ws (All-tail (λ x. x < 2 ^ 64) w ws small))

pub words_are_bare : (ws : List ℕ) (most : ℕ) → AreSegmentWords ws → length ws ≤ most_bare most → AreBareWords (bytes_of_words ws) most × (message (bytes_of_words ws ∷ []) ≡ ws ∷ [])
words_are_bare ws most small short =
    let long = bytes-length ws in
    (record { whole = omega (arith, long); short = omega (arith, long, short) }, ap (λ (vs : List ℕ). vs ∷ []) (words-bytes ws small))
