-- Consecutive segments are those of a frame.
use Rattle.std.proofs.Common.{◌≡◌, ℕ, zero, suc, ◌+◌, ◌-◌, ◌*◌, ◌^◌, ◌<◌, ◌≤◌, List, [], ◌∷◌, ◌++◌, length, get_or, take, drop, replicate, refl, sym, ap, ap₂, ◌∙◌, subst, arith, length-take, length-drop, get_or-drop, append_assoc, take-add, drop-drop, take-append-drop, slice_get, slice_index, slice_set, Some}
use Rattle.std.specs.List.{All}
use Rattle.std.proofs.lemmas.List.{get_or-set_same, get_or-set_other, length-replicate}
use borrow.Author.Count.{below_more}
use Rattle.std.specs.Int.{from_le_bytes, w32}
use Rattle.std.proofs.lemmas.List.Elements.{All-nil, All-cons, All-from_get_or}
use Rattle.std.proofs.lemmas.Nat.{le_bytes_4}
use Rattle.capnp_format.specs.Bytes.{message, words_of}
use Rattle.capnp_format.specs.Segments.{Segments}
use Rattle.capnp_format.proofs.WordsOf.{small_word, words}
use Rattle.capnp_arena_traits.specs.Limits.{IsSmall}
use Rattle.capnp_framing.specs.Flat.{BeginsWithFrame, first_told, parts}
use Rattle.capnp_framing.specs.Frames.{AreSegmentWords, contents, frame, lengths, padding_size}
use Rattle.capnp_framing.specs.Reading.{max_length, table_size, total, words_told}
use Rattle.capnp_framing.proofs.ReadingLemmas.{AtTable, frame_read, length-frame_with, small_from_short}
use Rattle.capnp_arena_traits.proofs.MessageLemmas.{length-message}
use Rattle.capnp_framing.proofs.TableLemmas.{below_take, bytes-words}

pub length-parts : (n : ℕ) (table bytes : List ℕ) → length (parts n table bytes) ≡ n
length-parts zero table bytes = refl
length-parts (suc n) table bytes = ap suc (length-parts n (drop 4 table) (drop (8 * first_told table) bytes))

-- the bytes of segment id, if the segments are consecutive and as long as a table tells
abbrev part_at : ℕ → List ℕ → List ℕ → List ℕ
part_at id table bytes = take (8 * first_told (drop (4 * id) table)) (drop (8 * words_told id table) bytes)

-- the segment with number id
pub parts-get : (n id : ℕ) (table bytes : List ℕ) → id < n → slice_get (parts n table bytes) id ≡ Some (part_at id table bytes)
parts-get zero id table bytes h = absurd (omega arith)
parts-get (suc n) zero table bytes h = refl
parts-get (suc n) (suc id) table bytes h =
    let m : ℕ = 8 * first_told table in
    parts-get n id (drop 4 table) (drop m bytes) (omega arith)
    ∙ ap₂ (λ (ts bs : List ℕ). Some (take (8 * first_told ts) bs))
    (drop-drop (4 * id) 4 table ∙ ap (λ k. drop k table) (let e : 4 + 4 * id ≡ 4 * suc id = omega arith in e))
    (drop-drop (8 * words_told id (drop 4 table)) m bytes ∙ ap (λ k. drop k bytes) (let e : m + 8 * words_told id (drop 4 table) ≡ 8 * words_told (suc id) table = omega arith in e))

-- One more start is kept.
pub kept_more :
    (table starts : List ℕ) (k sum : ℕ) → k < length starts → sum ≡ words_told (32 * k) table → sum ≤ max_length * (32 * k) →
    ((j : ℕ) → j < k → (slice_index starts j ≡ words_told (32 * j) table) × (slice_index starts j ≤ max_length * (32 * j))) →
    (j : ℕ) → j < k + 1 → (slice_index (slice_set starts k sum) j ≡ words_told (32 * j) table) × (slice_index (slice_set starts k sum) j ≤ max_length * (32 * j))
kept_more table starts k sum there is small kept =
    below_more (λ j. (slice_index (slice_set starts k sum) j ≡ words_told (32 * j) table) × (slice_index (slice_set starts k sum) j ≤ max_length * (32 * j))) k
    (λ j less.
    (let other = get_or-set_other starts k j sum 0 (λ e. absurd (omega (arith, e, less))) in
    let (at, low) = kept j less in (other ∙ at, omega (arith, other, low))))
    (let same = get_or-set_same starts k sum 0 there in (same ∙ is, omega (arith, same, small)))

-- What n segments state about the table and the bytes that they were cut from.
pub record AreParts (n : ℕ) (table bytes : List ℕ) (S : Segments) : Type 0 where
  pub count : length S ≡ n
  pub told : lengths S ≡ take (4 * n) table
  pub is : contents S ≡ take (8 * words_told n table) bytes
  pub short : All (λ ws. length ws < 2 ^ 32) S
  pub words : All AreSegmentWords S
  pub sum : total S ≡ words_told n table

abbrev AreBytes : List ℕ → Type 0
AreBytes bs = (i : ℕ) → get_or bs i 0 < 256

below_drop : (n : ℕ) (bs : List ℕ) → AreBytes bs → AreBytes (drop n bs)
below_drop n bs l i = omega (arith, get_or-drop n bs i 0, l (n + i))

-- four bytes tell a number below 2^32
told_below : (four : List ℕ) → length four ≡ 4 → AreBytes four → from_le_bytes w32 four < 2 ^ 32
told_below (a ∷ b ∷ c ∷ d ∷ []) long l = omega (arith, l 0, l 1, l 2, l 3)
told_below _ long l = absurd (omega arith)

pub are_parts : (n : ℕ) (table bytes : List ℕ) → AreBytes table → AreBytes bytes → 4 * n ≤ length table → 8 * words_told n table ≤ length bytes → AreParts n table bytes (message (parts n table bytes))
are_parts zero table bytes t b room whole = record {
  count = refl;
  told = refl;
  is = refl;
  short = All-nil (λ (ws : List ℕ). length ws < 2 ^ 32);
  words = All-nil AreSegmentWords;
  sum = refl;
}
are_parts (suc n) table bytes t b room whole =
    let k : ℕ = first_told table in
    let four : List ℕ = take 4 table in
    let part : List ℕ = take (8 * k) bytes in
    let ws : List ℕ = words_of part in
    let long : length four ≡ 4 = omega (arith, length-take 4 table) in
    let size : length part ≡ 8 * k = omega (arith, length-take (8 * k) bytes) in
    let count : length ws ≡ k = omega (arith, words part, size) in
    let small : AreBytes part = below_take (8 * k) bytes b in
    let below : k < 2 ^ 32 = omega (arith, told_below four long (below_take 4 table t)) in
    let rest = are_parts n (drop 4 table) (drop (8 * k) bytes) (below_drop 4 table t) (below_drop (8 * k) bytes b) (omega (arith, length-drop 4 table)) (omega (arith, length-drop (8 * k) bytes)) in
    let S : Segments = message (parts n (drop 4 table) (drop (8 * k) bytes)) in
    record {
      count = ap suc rest.count;
      told =
          ap₂ (λ (xs ys : List ℕ). xs ++ ys) (le_bytes_4 four (length ws) long (below_take 4 table t) count) rest.told
          ∙ sym (take-add 4 (4 * n) table)
          ∙ ap (λ m. take m table) (let e : 4 + 4 * n ≡ 4 * suc n = omega arith in e);
      is =
          ap₂ (λ (xs ys : List ℕ). xs ++ ys) (bytes-words k part size small) rest.is
          ∙ sym (take-add (8 * k) (8 * words_told n (drop 4 table)) bytes)
          ∙ ap (λ m. take m bytes) (let e : 8 * k + 8 * words_told n (drop 4 table) ≡ 8 * words_told (suc n) table = omega arith in e);
      short = All-cons (λ (vs : List ℕ). length vs < 2 ^ 32) ws S (omega (arith, count, below)) rest.short;
      words = All-cons AreSegmentWords ws S (All-from_get_or (λ w. w < 2 ^ 64) ws 0 (λ i inside. small_word part small i)) rest.words;
      sum = omega (arith, count, rest.sum);
    }

-- The bytes begin with the table of n lengths of a frame. `table` is the bytes from the lengths on.
-- `rest` is the bytes after the padding, and has at least as many words as the lengths tell.
pub record AtFrame (n : ℕ) (bytes table rest : List ℕ) : Type 0 where
  pub below : AreBytes bytes
  pub told : n ≡ first_told bytes + 1
  pub few : n ≤ 512
  pub room : 4 + 4 * n + padding_size n ≤ length bytes
  pub table_is : table ≡ drop 4 bytes
  pub rest_is : rest ≡ drop (4 + 4 * n + padding_size n) bytes
  pub whole : 8 * words_told n table ≤ length rest

cut_parts : {n : ℕ} {bytes table rest : List ℕ} → AtFrame n bytes table rest → AreParts n table rest (message (parts n table rest))
cut_parts {n} {bytes} {table} {rest} at =
    are_parts n table rest
    (subst AreBytes (sym at.table_is) (below_drop 4 bytes at.below))
    (subst AreBytes (sym at.rest_is) (below_drop (4 + 4 * n + padding_size n) bytes at.below))
    (let room = at.room in let long = ap length at.table_is in omega (arith, long, length-drop 4 bytes, room))
    at.whole

-- bytes with a frame at the front begin with a frame
pub flat_frame : {n : ℕ} {bytes table rest : List ℕ} (most : ℕ) → AtFrame n bytes table rest → words_told n table ≤ most → BeginsWithFrame bytes most (message (parts n table rest))
flat_frame {n} {bytes} {table} {rest} most at short =
    let size : ℕ = 4 * n + padding_size n in
    let first : List ℕ = take 4 bytes in
    let tab : List ℕ = take size table in
    let behind : List ℕ = drop (8 * words_told n table) rest in
    let S : Segments = message (parts n table rest) in
    let cut = cut_parts at in
    let room = at.room in
    let long : length table ≡ length bytes - 4 = ap length at.table_is ∙ length-drop 4 bytes in
    let front : AtTable first tab n = record {
      four = omega (arith, length-take 4 bytes, room);
      told = at.told;
      few = at.few;
      size = omega (arith, length-take size table, long, room);
    } in
    let last : drop size table ≡ rest =
    ap (drop size) at.table_is ∙ drop-drop size 4 bytes ∙ ap (λ m. drop m bytes) (let e : 4 + size ≡ 4 + 4 * n + padding_size n = omega arith in e) ∙ sym at.rest_is in
    let all : table ≡ tab ++ rest = sym (take-append-drop size table) ∙ ap (λ (xs : List ℕ). tab ++ xs) last in
    let words : rest ≡ contents S ++ behind = sym (take-append-drop (8 * words_told n table) rest) ∙ ap (λ (xs : List ℕ). xs ++ behind) (sym cut.is) in
    record {
      front = first ++ (tab ++ contents S);
      behind = behind;
      is =
          sym (take-append-drop 4 bytes)
          ∙ ap (λ (xs : List ℕ). first ++ xs) (sym at.table_is ∙ all ∙ ap (λ (xs : List ℕ). tab ++ xs) words ∙ sym (append_assoc tab (contents S) behind))
          ∙ sym (append_assoc first (tab ++ contents S) behind);
      framed = frame_read rest S front (below_take 4 bytes at.below) cut.count (cut.told ∙ ap (take (4 * n)) all) cut.short cut.words;
      short = omega (arith, cut.sum, short);
    }

-- and its segments are within a reader's limits
pub flat_small : {n : ℕ} {bytes table rest : List ℕ} → AtFrame n bytes table rest → IsSmall (parts n table rest)
flat_small {n} {table = table} {rest = rest} at = (let few = at.few in omega (arith, length-parts n table rest, few), small_from_short (parts n table rest) (cut_parts at).short)

-- the number of words of segments that were cut from such bytes
total-parts : (n : ℕ) (table bytes : List ℕ) → 8 * words_told n table ≤ length bytes → total (message (parts n table bytes)) ≡ words_told n table
total-parts zero table bytes whole = refl
total-parts (suc n) table bytes whole =
    let k : ℕ = first_told table in
    let part : List ℕ = take (8 * k) bytes in
    omega (arith, words part, length-take (8 * k) bytes, total-parts n (drop 4 table) (drop (8 * k) bytes) (omega (arith, length-drop (8 * k) bytes)))

-- and the number of bytes of their frame
pub length-frame_of_parts : (n : ℕ) (table bytes : List ℕ) → 8 * words_told n table ≤ length bytes → length (frame (message (parts n table bytes))) ≡ table_size n + 8 * words_told n table
length-frame_of_parts n table bytes whole =
    let S : Segments = message (parts n table bytes) in
    let count : length S ≡ n = length-message (parts n table bytes) ∙ length-parts n table bytes in
    length-frame_with (replicate (padding_size (length S)) 0) S (length-replicate (padding_size (length S)) 0)
    ∙ ap₂ (λ k m. table_size k + 8 * m) count (total-parts n table bytes whole)
