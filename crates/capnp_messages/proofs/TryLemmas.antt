-- How much room a try requests, and when there is another try.
use Rattle.std.proofs.Common.{◌≡◌, inl, inr, ℕ, ◌+◌, ◌/◌, ◌<◌, min, IsTrue, IfOk, ◌⊎◌, Bool, true, false, List, [], ◌∷◌, length, Option, None, Result, Ok, Err, refl, ap, sym, ◌∙◌, subst, arith}
use Rattle.capnp_words.specs.declared.error.ErrorKind.{ErrorKind}
use Rattle.capnp_format.specs.Bytes.{message, words_of}
use Rattle.capnp_format.proofs.WordsOf.{length-words_of}
use Rattle.capnp_arena_traits.specs.Allocations.{max_segment_words}
use Rattle.capnp_arena_traits.specs.Checks.{total_words}
use Rattle.capnp_arena_traits.specs.View.{View}
use Rattle.capnp_arena_traits.proofs.MessageLemmas.{total-cons}
use Rattle.capnp_words.specs.Meter.{Affords, Meter, unused}
use Rattle.capnp_format.specs.Canonical.{encoding, trim, word_count}
use Rattle.capnp_format.specs.Segments.{Segments, segment}
use Rattle.capnp_format.specs.Tree.{Tree}
use Rattle.capnp_framing.specs.Reading.{total}
use Rattle.capnp_pointers.specs.Outcomes.{ReadsAll}
use Rattle.capnp_pointers.specs.Reading.{place_past}
use Rattle.capnp_pointers.specs.Spending.{after_charge, pointers_in_all}
use Rattle.capnp_pointers.specs.Wanted.{canonical, plain}
use Rattle.capnp_messages.specs.Canonicalize.{end_value}
use Rattle.capnp_messages.specs.Copies.{HoldsCanonicalWords, LacksMemoryOr, NeedsMoreRoom, RefusesCopy, is_message_too_large}
use Rattle.capnp_messages.specs.EndValues.{EndReads, IsEndThere, end_place}
use Rattle.capnp_messages.specs.MadeWords.{IsMeasured, made_end}
use Rattle.capnp_messages.specs.Parts.{PathEnd, to_element, to_pointer}
use Rattle.capnp_messages.specs.Tries.{IsFirstTry, IsSegmentRoom, first_room, words_read}
use Rattle.capnp_messages.proofs.EndRefusals.{end_reads_as, large_wants, meant_read, never_unread, not_too_large, plain_read, too_large, words_unread}
use Rattle.capnp_messages.proofs.EndValueLemmas.{end_read_if, end_read_is, words_long}
use Rattle.capnp_messages.proofs.MadeLemmas.{counted_is, counted_refused}

-- a try that is refused because something is too large has too little room
pub try_too_small : (e : PathEnd) (m : Meter) {room old new : ℕ} {k : ErrorKind} → is_message_too_large k ≡ true → LacksMemoryOr old new k (RefusesCopy (Ok e, m) room k) → NeedsMoreRoom e room
try_too_small e m large (inl (named, risen)) = absurd (let wrong : false ≡ true = sym (ap is_message_too_large named) ∙ large in cc)
try_too_small e m {room} {k = k} large (inr (refused, same)) = too_large e m room k large refused

-- and memory wasn't refused
pub try_is_granted : {old new : ℕ} {k : ErrorKind} {P : Type 0} → is_message_too_large k ≡ true → LacksMemoryOr old new k P → new ≡ old
try_is_granted large (inl (named, risen)) = absurd (let wrong : false ≡ true = sym (ap is_message_too_large named) ∙ large in cc)
try_is_granted large (inr (refused, same)) = same

-- the refusal of the last try holds for the largest possible room
pub last_try : (e : PathEnd) (m : Meter) {room old new : ℕ} {k : ErrorKind} → (room ≡ max_segment_words) ⊎ (is_message_too_large k ≡ false) → LacksMemoryOr old new k (RefusesCopy (Ok e, m) room k) → LacksMemoryOr old new k (RefusesCopy (Ok e, m) max_segment_words k)
last_try e m last (inl memory) = inl memory
last_try e m {k = k} (inl most) (inr (refused, same)) = inr (subst (λ n. RefusesCopy (Ok e, m) n k) most refused, same)
last_try e m {room} {k = k} (inr other) (inr (refused, same)) = inr (inl (words_unread max_segment_words e (unused m.left) k (not_too_large e m room k other refused)), same)

-- The words of a copy are counted after a first try.

counted_long : (e : PathEnd) (left : Option ℕ) (t : Tree) → (end_value canonical e (unused left)).0 ≡ Ok t → length (encoding (trim t)) ≡ 1 + word_count (trim t)
counted_long e left t read =
    let after : Meter = (end_value canonical e (unused left)).1 in
    words_long canonical e (unused left) after t (end_read_if canonical e (unused left) after t (ap (λ x. (x, after)) read))

pub measured : (e : PathEnd) (left : Option ℕ) (n : ℕ) {room : ℕ} → IsEndThere e → (made_end max_segment_words e 1 (unused left)).0 ≡ Ok n → room ≡ min n max_segment_words → IsMeasured e left room
measured e left n there is least =
    let (t, read, many) = counted_is max_segment_words e left n there is in
    inr (t, read, least ∙ ap (λ i. min i max_segment_words) (many ∙ sym (counted_long e left t read)))

pub measured_some : (e : PathEnd) (left : Option ℕ) (n : ℕ) {room : ℕ} → IsEndThere e → (made_end max_segment_words e 1 (unused left)).0 ≡ Ok n → room ≡ min n max_segment_words → IsSegmentRoom room
measured_some e left n there is least =
    let (t, read, many) = counted_is max_segment_words e left n there is in
    record { some = omega (arith, many, least); most = omega (arith, least) }

pub measured_over : (e : PathEnd) (left : Option ℕ) (k : ErrorKind) → IsEndThere e → (made_end max_segment_words e 1 (unused left)).0 ≡ Err k → is_message_too_large k ≡ true → IsMeasured e left max_segment_words
measured_over e left k there is large = elim (counted_refused max_segment_words e left k there is) [
  | inl refused ↦ absurd (never_unread e (unused left) k (large_wants k large) refused)
  | inr (named, over) ↦ inl (refl, λ t read. omega (arith, over t read, counted_long e left t read))
]

pub measured_refused : (e : PathEnd) (left : Option ℕ) (k : ErrorKind) → IsEndThere e → (made_end max_segment_words e 1 (unused left)).0 ≡ Err k → is_message_too_large k ≡ false → (end_value canonical e (unused left)).0 ≡ Err k
measured_refused e left k there is other = elim (counted_refused max_segment_words e left k there is) [
  | inl refused ↦ refused
  | inr (named, over) ↦ absurd (let wrong : true ≡ false = sym (ap is_message_too_large named) ∙ other in cc)
]

-- a copy that was read from a limiter is also read from a new one with what that has left
fresh : (charging : Bool) (m : Meter) (n : ℕ) → Affords charging m n → Affords charging (unused m.left) n
fresh true m n covers = covers
fresh false m n covers = tt

read_afresh : (e : PathEnd) (m after : Meter) (t : Tree) → EndReads e m after t → (end_value canonical e (unused m.left)).0 ≡ Ok t
read_afresh (to_pointer r) m after t reads = meant_read canonical (to_pointer r) (unused m.left) t reads.cost reads.means reads.takes (fresh r.charging m reads.cost reads.covers)
read_afresh (to_element r d q) m after t (there, (ts, is, counts, reads)) =
    let last : Meter = after_charge r.charging (unused m.left) reads.cost (pointers_in_all ts) in
    let all : ReadsAll canonical (place_past r d) (unused m.left) last ts = record { cost = reads.cost; means = reads.means; takes = reads.takes; covers = fresh r.charging m reads.cost reads.covers; spent = refl } in
    ap (λ x. x.0) (end_read_is canonical (to_element r d q) (unused m.left) last t (ts, is, counts, all))

read_plainly : (e : PathEnd) (left : Option ℕ) (t : Tree) → (end_value canonical e (unused left)).0 ≡ Ok t → (end_value plain e (unused None)).0 ≡ Ok t
read_plainly e left t read =
    let after : Meter = (end_value canonical e (unused left)).1 in
    plain_read e (unused left) after t (end_read_if canonical e (unused left) after t (ap (λ x. (x, after)) read))

-- what was requested is as many words as were made
pub requested : (e : PathEnd) (m after : Meter) {left : Option ℕ} {room : ℕ} (offers : ℕ → ℕ → Bool) (words : Segments) (n : ℕ) → left ≡ m.left → IsMeasured e left room → IsTrue (offers room n) → (t : Tree) × EndReads e m after t × (words ≡ encoding (trim t) ∷ []) →
    IsTrue (offers (min (length (segment words 0)) max_segment_words) n)
requested e m after {left} {room} offers words n begun is asked (t, reads, holds) =
    let read : (end_value canonical e (unused left)).0 ≡ Ok t = subst (λ (l : Option ℕ). (end_value canonical e (unused l)).0 ≡ Ok t) (sym begun) (read_afresh e m after t reads) in
    let long = ap (λ (M : Segments). length (segment M 0)) holds in
    let same : room ≡ min (length (segment words 0)) max_segment_words = elim is [
      | inl (most, over) ↦ omega (arith, most, over t read, long)
      | inr (u, other, least) ↦
          let one : u ≡ t = (let both : Ok u ≡ Ok t = sym other ∙ read in cc both) in
          omega (arith, least, ap (λ v. length (encoding (trim v))) one, long)
    ] in
    subst (λ i. IsTrue (offers i n)) same asked

-- so the refusal of this try is that of the largest possible room
pub measured_last : (e : PathEnd) (m : Meter) {left : Option ℕ} {room old new : ℕ} {k : ErrorKind} → left ≡ m.left → IsMeasured e left room → LacksMemoryOr old new k (RefusesCopy (Ok e, m) room k) → LacksMemoryOr old new k (RefusesCopy (Ok e, m) max_segment_words k)
measured_last e m {left} {room} {old} {new} {k} begun is refused = go (is_message_too_large k) refl
  where
    most : NeedsMoreRoom e room → room ≡ max_segment_words
    most little = elim is [
      | inl (full, over) ↦ full
      | inr (t, read, least) ↦ omega (arith, least, little t (read_plainly e left t read))
    ]

    go : (b : Bool) → is_message_too_large k ≡ b → LacksMemoryOr old new k (RefusesCopy (Ok e, m) max_segment_words k)
    go true large = last_try e m (inl (most (try_too_small e m large refused))) refused
    go false other = last_try e m (inr other) refused

-- and the copy was made in the second try
pub made_measured : (e : PathEnd) {offers there : ℕ → ℕ → Bool} {room refusals yet : ℕ} {made : View} (m after : Meter) → room ≡ first_room (words_read (end_place e)) → NeedsMoreRoom e room →
    there ≡ offers → yet ≡ refusals → IsTrue (there (min (length (segment made.words 0)) max_segment_words) (made.room 0)) → made.refusals ≡ yet → (t : Tree) × EndReads e m after t × HoldsCanonicalWords made t →
    IsFirstTry (words_read (end_place e)) offers refusals made
made_measured e {offers} {there} {room} {refusals} {yet} {made} m after first little same none asked granted (t, reads, holds) =
    let long = ap (λ (M : Segments). length (segment M 0)) holds in
    record {
      room = min (length (segment made.words 0)) max_segment_words;
      asked = subst (λ (o : ℕ → ℕ → Bool). IsTrue (o (min (length (segment made.words 0)) max_segment_words) (made.room 0))) same asked;
      least = inr (omega (arith, little t (plain_read e m after t (end_reads_as e m after t reads)), long, first), refl);
      granted = granted ∙ none;
    }

pub ok_three : {A E : Type 0} (r : Result A E) {P Q S R : A → Type 0} → ((x : A) → P x → Q x → S x → R x) → IfOk r P → IfOk r Q → IfOk r S → IfOk r R
ok_three (Ok x) f p q s = f x p q s
ok_three (Err e) f p q s = tt

pub ok_both : {A E : Type 0} (r : Result A E) {P Q R : A → Type 0} → ((x : A) → P x → Q x → R x) → IfOk r P → IfOk r Q → IfOk r R
ok_both (Ok x) f p q = f x p q
ok_both (Err e) f p q = tt

-- the words of all segments, each by its bytes
pub total-message : (B : List (List ℕ)) → total_words B ≡ total (message B)
total-message [] = refl
total-message (b ∷ B) =
    let here : length (words_of b) ≡ length b / 8 = length-words_of (length b / 8) b (omega arith) (omega arith) in
    total-cons b B ∙ ap (λ n. n + total_words B) (sym here) ∙ ap (λ n. length (words_of b) + n) (total-message B)
