-- What is read into memory is a frame.
use Rattle.std.proofs.Common.{◌≡◌, ℕ, ◌+◌, ◌*◌, ◌<◌, ◌≤◌, List, [], ◌∷◌, ◌++◌, length, get_or, take, drop, sym, ap, ◌∙◌, arith, length-append, length-take, take-append-drop, take_all, subst, Option, Some, None, slice_index}
use Rattle.std.proofs.lemmas.List.{get_or_append_left}
use Rattle.std.proofs.Math.Seq.{get_or-append_seam}
use Rattle.std.specs.Int.{from_le_bytes, w32}
use Rattle.std.specs.Prelude.{IfSome, OnSome}
use borrow.Author.Count.{below_more}
use Rattle.capnp_format.specs.Bytes.{message}
use Rattle.capnp_arena_traits.specs.Limits.{IsSmall}
use Rattle.capnp_framing.specs.Flat.{parts}
use Rattle.capnp_framing.specs.Frames.{IsFrameOf, contents, padding_size}
use Rattle.capnp_framing.specs.Reading.{segments_told, words_told}
use Rattle.capnp_framing.proofs.FlatLemmas.{AreParts, length-parts}
use Rattle.capnp_framing.proofs.ReadingLemmas.{AtTable, frame_read, small_from_short}

-- The end of one more segment is kept.
pub ends_more : (i sum : ℕ) (table ends : List ℕ) → length ends ≡ i → sum ≡ words_told (i + 1) table → ((k : ℕ) → k < i → slice_index ends k ≡ words_told (k + 1) table) →
    (k : ℕ) → k < i + 1 → slice_index (ends ++ sum ∷ []) k ≡ words_told (k + 1) table
ends_more i sum table ends long is kept =
    below_more (λ k. slice_index (ends ++ sum ∷ []) k ≡ words_told (k + 1) table) i
    (λ k less. get_or_append_left ends (sum ∷ []) 0 k (omega (arith, long, less)) ∙ kept k less)
    (ap (λ k. get_or (ends ++ sum ∷ []) k 0) (sym long) ∙ get_or-append_seam ends sum [] 0 ∙ is)

pub ends_kept : {new : List ℕ} (i sum : ℕ) (table ends : List ℕ) → length ends ≡ i → sum ≡ words_told (i + 1) table → ((k : ℕ) → k < i → slice_index ends k ≡ words_told (k + 1) table) →
    new ≡ ends ++ sum ∷ [] → (length new ≡ i + 1) × ((k : ℕ) → k < i + 1 → slice_index new k ≡ words_told (k + 1) table)
ends_kept i sum table ends long is kept items = (
  omega (arith, ap length items, length-append ends (sum ∷ []), long),
  subst (λ (es : List ℕ). (k : ℕ) → k < i + 1 → slice_index es k ≡ words_told (k + 1) table) (sym items) (ends_more i sum table ends long is kept),
)

-- The four bytes `first` tell n segments, at most 512, and `table` has room for their lengths and
-- the padding. `words` is the memory of their words.
pub record AtOwned (first : List ℕ) (n : ℕ) (table words : List ℕ) : Type 0 where
  pub four : length first ≡ 4
  pub told : n ≡ from_le_bytes w32 first + 1
  pub few : n ≤ 512
  pub room : 4 * n + padding_size n ≤ length table

-- what holds for a number that was read holds for n
pub of_count : (P : ℕ → Type 0) (m : Option ℕ) {n : ℕ} → m ≡ Some n → IfSome m P → P n
of_count P None same h = absurd (let wrong : ⊥ = cc in wrong)
of_count P (Some k) {n} same h = subst P (let e : k ≡ n = cc in e) h

pub with_count : (P : Type 0) (m : Option ℕ) {n : ℕ} → m ≡ Some n → OnSome m P → P
with_count P None same h = absurd (let wrong : ⊥ = cc in wrong)
with_count P (Some k) same h = h

-- The number of segments was read, and then the table.
pub at_owned : (first : List ℕ) {n : ℕ} {table : List ℕ} (words : List ℕ) (m : Option ℕ) → m ≡ Some n → length first ≡ 4 →
    IfSome m (λ k. k ≡ segments_told first) → IfSome m (λ k. k ≤ 512) → 4 * n + padding_size n ≤ length table → AtOwned first n table words
at_owned first {n} words m same four told few room = record {
  four = four;
  told = of_count (λ k. k ≡ segments_told first) m same told ∙ ap (λ (xs : List ℕ). from_le_bytes w32 xs + 1) (take_all 4 first (omega (arith, four)));
  few = of_count (λ k. k ≤ 512) m same few;
  room = room;
}

-- and their lengths and padding are read
pub front : {first table words : List ℕ} {n : ℕ} → AtOwned first n table words → AtTable first (take (4 * n + padding_size n) table) n
front {first} {table} {words} {n} at =
    let room = at.room in
    record { four = at.four; told = at.told; few = at.few; size = omega (arith, length-take (4 * n + padding_size n) table, room) }

pub owned_frame : {first table words : List ℕ} {n : ℕ} → AtOwned first n table words → ((i : ℕ) → get_or first i 0 < 256) → AreParts n table words (message (parts n table words)) →
    IsFrameOf (message (parts n table words)) (first ++ (take (4 * n + padding_size n) table ++ contents (message (parts n table words))))
owned_frame {first} {table} {words} {n} at below cut =
    let size : ℕ = 4 * n + padding_size n in
    frame_read (drop size table) (message (parts n table words)) (front at) below cut.count (cut.told ∙ ap (take (4 * n)) (sym (take-append-drop size table))) cut.short cut.words

pub owned_small : {first table words : List ℕ} {n : ℕ} → AtOwned first n table words → AreParts n table words (message (parts n table words)) → IsSmall (parts n table words)
owned_small {first} {table} {words} {n} at cut = (let few = at.few in omega (arith, length-parts n table words, few), small_from_short (parts n table words) cut.short)
