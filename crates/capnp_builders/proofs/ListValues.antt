-- The copy of a list that is read: one that is too long, and one of numbers.
use Rattle.std.proofs.Common.{◌≡◌, ◌≢◌, inl, inr, ℕ, ◌+◌, ◌*◌, ◌/◌, ◌^◌, ◌-◌, ◌<◌, ◌≤◌, Result, Ok, Err, IfOk, IfErr, List, length, take, drop, refl, sym, ap, ◌∙◌, subst, arith, length-drop}
use Rattle.capnp_words.specs.declared.error.ErrorKind.{ErrorKind}
use Rattle.capnp_words.specs.declared.error.ErrorKind.TheVariants.{MessageTooLarge}
use Rattle.capnp_words.specs.Meter.{Meter}
use Rattle.capnp_words.specs.declared.wire_pointer.ElementSize.{ElementSize}
use Rattle.capnp_words.specs.declared.wire_pointer.StructSize.{StructSize}
use Rattle.capnp_words.specs.declared.wire_pointer.ElementSize.TheVariants.{Void, Bit, Byte, TwoBytes, FourBytes, EightBytes, Pointer, InlineComposite}
use Rattle.capnp_words.specs.Sizes.{size_number}
use Rattle.capnp_format.specs.Bytes.{words_of}
use Rattle.capnp_format.specs.Numbers.{words_for, unpacked}
use Rattle.capnp_format.specs.Segments.{Segments, segment, word_at, words_at, IsPlace}
use Rattle.capnp_format.specs.Canonical.{word_count}
use Rattle.capnp_format.specs.Tree.{Tree, Null, Flat}
use Rattle.capnp_format.proofs.WordsOf.{words, words_of-take, words_of-drop}
use Rattle.capnp_arena_traits.specs.View.{View}
use Rattle.capnp_allocation.specs.Near.{HasOwnRoom}
use Rattle.capnp_allocation.specs.Stored.{IsReplaced}
use Rattle.capnp_allocation.proofs.Memory.{keeps_itself, spends_nothing}
use Rattle.capnp_pointers.specs.Objects.{IsHeld}
use Rattle.capnp_pointers.specs.Reading.{Reading, words_from, reading_at}
use Rattle.capnp_pointers.specs.declared.object.Place.{Place}
use Rattle.capnp_pointers.specs.Wanted.{Form}
use Rattle.capnp_readers.specs.Sections.{IsPart, HasWordsFrom, elements_words}
use Rattle.capnp_readers.proofs.Sections.{flat_words}
use Rattle.capnp_copies.specs.Changes.{CopyCall, copy_call, StayInSegment, MakesCopy, StopsCopy}
use Rattle.capnp_copies.proofs.InPlace.{IsCopied}
use Rattle.capnp_copies.specs.Forms.{kept}
use Rattle.capnp_copies.specs.Originals.{numbers_original, list_original, FitsListPointer}
use Rattle.capnp_copies.proofs.FilledObjects.{nothing_left}
use Rattle.capnp_copies.proofs.FilledValues.{FlatOutcome, kept_flat}
use Rattle.capnp_copies.proofs.FlatRead.{word_count-flat}
use Rattle.capnp_copies.proofs.Originals.{ExceedsRoom, list_exceeds}
use Rattle.capnp_arena_traits.specs.declared.arena.reader_arena.ReaderArena.{Ghosts}
use Rattle.capnp_readers.specs.declared.readers.list_reader.ListReader.{ListReader}
use Rattle.capnp_allocation.specs.Makes.{call_at}

-- the place of the first element of a list that is read
abbrev pub first_read : {A : Type 0} (g : Ghosts A) → ListReader A g → Reading
first_read g value = reading_at g value.source value.start value.nesting_limit

-- a list that is too long leaves everything unchanged
pub too_long : (size : ElementSize) (sections : StructSize) (n : ℕ) (r : Reading) {b : Form} {s p : ℕ} {v : View} {m : Meter} → IsPlace v.words s p → word_at v.words s p ≡ 0 → (FitsListPointer size n (sections.data_words + sections.pointers) → ⊥) →
    StopsCopy (list_original size sections n r) (copy_call b (call_at s p v v) m m) Null (MessageTooLarge (2 ^ 64 - 1))
too_long size sections n r {b} {s} {p} {v} place null long = record {
  why = inr (inr (list_exceeds size sections n r b long));
  left = nothing_left v.words v.words s p place null refl;
  memory = spends_nothing v v (MessageTooLarge (2 ^ 64 - 1)) (λ n. refl) (keeps_itself v);
}

-- elements that are neither pointers nor structs

pub number_size : (size : ElementSize) → size ≢ Pointer → size ≢ InlineComposite → size_number size ≤ 5
number_size Pointer pointer struct = absurd (pointer refl)
number_size InlineComposite pointer struct = absurd (struct refl)
number_size Void pointer struct = omega arith
number_size Bit pointer struct = omega arith
number_size Byte pointer struct = omega arith
number_size TwoBytes pointer struct = omega arith
number_size FourBytes pointer struct = omega arith
number_size EightBytes pointer struct = omega arith

pub few_numbers : (size : ElementSize) (n width : ℕ) → size_number size ≤ 5 → FitsListPointer size n width → n < 2 ^ 29
few_numbers InlineComposite n width flat fits = absurd (omega (arith, flat))
few_numbers Pointer n width flat fits = fits
few_numbers Void n width flat fits = fits
few_numbers Bit n width flat fits = fits
few_numbers Byte n width flat fits = fits
few_numbers TwoBytes n width flat fits = fits
few_numbers FourBytes n width flat fits = fits
few_numbers EightBytes n width flat fits = fits

-- The n words from a place on are these bytes.
pub record AreHeld (S : Segments) (start : Place) (n : ℕ) (bytes : List ℕ) : Type 0 where
  pub whole : length bytes ≡ 8 * length (words_of bytes)
  pub counts : length (words_of bytes) ≡ n
  pub stand : words_of bytes ≡ words_at S start.segment start.at n

words_held : (S : Segments) (start : Place) (n : ℕ) (bytes : List ℕ) → IsHeld S start → IsPart start (8 * start.at) (64 * n) bytes → HasWordsFrom S start n → AreHeld S start n bytes
words_held S start n bytes held part room =
    let bs : List ℕ = start.bytes.now in
    let size : (64 * n + 7) / 8 ≡ 8 * n = omega arith in
    let inside : 8 * start.at + 8 * n ≤ length bs = omega (arith, held.1, room) in
    let rest : length (drop (8 * start.at) bs) ≡ length bs - 8 * start.at = length-drop (8 * start.at) bs in
    let cut : bytes ≡ take (8 * n) (drop (8 * start.at) bs) = part.0 ∙ ap (λ i. take i (drop (8 * start.at) bs)) size in
    let long : length bytes ≡ 8 * n = part.1 ∙ size in
    let some : length (words_of bytes) ≡ n = omega (arith, words bytes, long) in
    record {
      whole = omega (arith, long, some);
      counts = some;
      stand = ap words_of cut ∙ words_of-take n (drop (8 * start.at) bs) (omega (arith, rest, inside)) ∙ ap (take n) (words_of-drop start.at bs (omega (arith, inside)) ∙ ap (drop start.at) held.0);
    }

pub numbers_held : (S : Segments) (start : Place) (size : ElementSize) (n width : ℕ) (bytes : List ℕ) → size_number size ≤ 5 → IsHeld S start → IsPart start (8 * start.at) (64 * elements_words size n width) bytes → HasWordsFrom S start (elements_words size n width) →
    AreHeld S start (words_for (size_number size) n) bytes
numbers_held S start size n width bytes flat held part room = subst (λ i. AreHeld S start i bytes) (flat_words size n width flat) (words_held S start (elements_words size n width) bytes held part room)

-- what is made of them

pub numbers_copied : (size : ElementSize) (n : ℕ) (r : Reading) (c : CopyCall) (bytes : List ℕ) (result : Result (Unit {0}) ErrorKind) → words_of bytes ≡ words_from r (words_for (size_number size) n) → c.after ≡ c.before →
    FlatOutcome result c.segment c.at (words_for (size_number size) n) c.old c.new (Flat (size_number size) (unpacked (size_number size) n (words_of bytes))) → IfOk result (λ _. MakesCopy (numbers_original size n r) c)
numbers_copied size n r c bytes (Ok x) stand free f =
    let ns : List ℕ = unpacked (size_number size) n (words_of bytes) in
    record {
      value = Flat (size_number size) ns;
      is_read = (ap (λ ws. Flat (size_number size) (unpacked (size_number size) n ws)) stand, free);
      made = subst (IsReplaced c.old.words c.new.words c.segment c.at Null) (sym (kept_flat c.form (size_number size) ns)) f.copied;
      memory = f.granted;
      stands = subst (λ t. StayInSegment c.old c.new c.segment (word_count t) → IsCopied c.old.words c.new.words c.segment c.at t) (sym (kept_flat c.form (size_number size) ns)) f.stands;
    }
numbers_copied size n r c bytes (Err k) stand free f = tt

-- if they find no room, they exceed it
numbers_exceed : (size : ElementSize) (n : ℕ) (r : Reading) (c : CopyCall) (bytes : List ℕ) → words_of bytes ≡ words_from r (words_for (size_number size) n) →
    (HasOwnRoom c.old c.segment (word_count (Flat (size_number size) (unpacked (size_number size) n (words_of bytes)))) → ⊥) → ExceedsRoom c.form (numbers_original size n r) (length (segment c.old.words c.segment)) (c.old.room c.segment)
numbers_exceed size n r c bytes stand full any m m' t is_read =
    let numbers : Tree = Flat (size_number size) (unpacked (size_number size) n (words_of bytes)) in
    let same : numbers ≡ t = ap (λ ws. Flat (size_number size) (unpacked (size_number size) n ws)) stand ∙ sym is_read.0 in
    omega (arith, full, ap (λ u. word_count (kept c.form u)) same, ap word_count (kept_flat c.form (size_number size) (unpacked (size_number size) n (words_of bytes))))

pub numbers_stop : (size : ElementSize) (n : ℕ) (r : Reading) (c : CopyCall) (bytes : List ℕ) (result : Result (Unit {0}) ErrorKind) → words_of bytes ≡ words_from r (words_for (size_number size) n) → IsPlace c.old.words c.segment c.at × (word_at c.old.words c.segment c.at ≡ 0) → c.after ≡ c.before →
    FlatOutcome result c.segment c.at (words_for (size_number size) n) c.old c.new (Flat (size_number size) (unpacked (size_number size) n (words_of bytes))) → IfErr result (StopsCopy (numbers_original size n r) c Null)
numbers_stop size n r c bytes (Ok x) stand (place, null) free f = tt
numbers_stop size n r c bytes (Err k) stand (place, null) free f =
    let full : HasOwnRoom c.old c.segment (word_count (Flat (size_number size) (unpacked (size_number size) n (words_of bytes)))) → ⊥ = λ room. (let is = f.fits room in cc is) in
    record {
      why = inl (inl (words_for (size_number size) n, free, refl, (f.refused, omega (arith, full, word_count-flat (size_number size) n (words_of bytes)))), numbers_exceed size n r c bytes stand full);
      left = nothing_left c.old.words c.new.words c.segment c.at place null f.kept;
      memory = f.memory;
    }
