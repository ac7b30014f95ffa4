-- All words that a copy makes before and for an object are within the limit of its reading.
use Rattle.std.proofs.Common.{◌≡◌, ℕ, zero, suc, pred, ◌+◌, ◌≤◌, List, take, drop, length-take, subst, arith}
use Rattle.capnp_words.specs.declared.wire_pointer.StructSize.{StructSize}
use Rattle.capnp_words.specs.Meter.{Affords, Meter}
use Rattle.capnp_format.specs.Segments.{Target, segment, words_at}
use Rattle.capnp_format.specs.Word.{offset_bits, data_words, pointer_count}
use Rattle.capnp_format.proofs.Trimming.{used_words-le}
use Rattle.capnp_pointers.specs.Demands.{own_charge, tag}
use Rattle.capnp_pointers.specs.Faults.{child_at}
use Rattle.capnp_pointers.specs.Outcomes.{Entered}
use Rattle.capnp_pointers.specs.Reading.{Reading, segment_read, tag_size}
use Rattle.capnp_pointers.specs.Refusals.{StopsWithin, here, below}
use Rattle.capnp_pointers.specs.Wanted.{Form, canonical}
use Rattle.capnp_pointers.specs.declared.object.Purpose.TheVariants.{Value}
use Rattle.capnp_pointers.proofs.WholeValue.ObjectsRead.{own_struct, own_flat, own_pointers, own_structs}
use Rattle.capnp_pointers.proofs.WholeValue.UnreadableIfRefused.{affords_less}
use Rattle.capnp_copies.specs.Changes.{IsMadeOf, as_struct, as_numbers, as_pointers, as_structs}
use Rattle.capnp_copies.proofs.NoRoom.{WantsWords}
use Rattle.capnp_copies.specs.Costs.{spent_before, spent_until}
use Rattle.capnp_copies.specs.Widths.{most_used, widths_kept}
use Rattle.capnp_copies.proofs.KeptForms.{kept_count-le}
use Rattle.capnp_copies.proofs.Growth.{covered_below, no_wider}

-- A copy keeps at most the words that an element has.
most_used-le : (ws : List ℕ) (p words stride n : ℕ) → most_used ws p words stride n ≤ words
most_used-le ws p words stride zero = omega arith
most_used-le ws p words stride (suc n) = omega (arith, used_words-le (take words (drop p ws)), length-take words (drop p ws), most_used-le ws (p + stride) words stride n)

widths_less : (form : Form) (r : Reading) (size : StructSize) (i : ℕ) → ((widths_kept form r size i).data_words ≤ size.data_words) × ((widths_kept form r size i).pointers ≤ size.pointers)
widths_less canonical r size i =
    (most_used-le (segment_read r) r.at size.data_words (size.data_words + size.pointers) i, most_used-le (segment_read r) (r.at + size.data_words) size.pointers (size.data_words + size.pointers) i)
widths_less _ r size i = (omega arith, omega arith)

-- The words that are made of an object are at most those that its reading is charged.
made_within_own : {form : Form} {r : Reading} {m m' : Meter} {a : Target} {n : ℕ} → Entered Value r m m' a → IsMadeOf form r a n → n ≤ own_charge Value r.segments a
made_within_own {form} {r} {a = a} o (as_struct z e) = omega (
  arith,
  e,
  own_struct r.segments a z,
  kept_count-le form (words_at r.segments a.segment a.start (data_words a.word)),
  kept_count-le form (words_at r.segments a.segment (a.start + data_words a.word) (pointer_count a.word)),
  length-take (data_words a.word) (drop a.start (segment r.segments a.segment)),
  length-take (pointer_count a.word) (drop (a.start + data_words a.word) (segment r.segments a.segment)),
)
made_within_own {r = r} {a = a} o (as_numbers z small e) = omega (arith, e, own_flat r.segments a z small)
made_within_own {r = r} {a = a} o (as_pointers z six e) = omega (arith, e, own_pointers r.segments a z six)
made_within_own {form} {r} {a = a} o (as_structs (z, seven) e) =
    let n : ℕ = offset_bits (tag r.segments a) in
    let size : StructSize = tag_size r.segments a in
    let first : Reading = child_at r a (pred r.levels) (a.start + 1) in
    let w = widths_less form first size n in
    omega (arith, e, own_structs r.segments a z seven, (o.meets.tagged (z, seven)).1, no_wider n (widths_kept form first size n).data_words (widths_kept form first size n).pointers size.data_words size.pointers w.0 w.1)

-- All that is spent before an object is made is within the limit.
pub covered_wanted : {form : Form} (n : ℕ) {r : Reading} {m m' : Meter} (off : StopsWithin form (WantsWords form n) r m m') → Affords r.charging m ((spent_until off).words + n)
covered_wanted n {r = r} {m} (here stops) = affords_less r.charging m (0 + n) (own_charge Value r.segments stops.0) (omega (arith, made_within_own stops.1 stops.2)) stops.1.covers
covered_wanted n {r = r} {m} (below a q o before rest) =
    let x = covered_below ((spent_until rest).words + n) 0 o before (covered_wanted n rest, omega arith) in
    let sum : own_charge Value r.segments a + ((spent_before before).words + ((spent_until rest).words + n)) ≡ own_charge Value r.segments a + ((spent_before before).words + (spent_until rest).words) + n = omega arith in
    subst (Affords r.charging m) sum x.0
