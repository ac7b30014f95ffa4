-- The object that a pointer leads to is inside a segment of the message.
use Rattle.std.proofs.Common.{◌≡◌, ℕ, ◌+◌, ◌<◌, ◌≤◌, length, take, drop, sym, ap, ◌∙◌, arith}
use Rattle.capnp_words.specs.declared.wire_pointer.ElementSize.{ElementSize}
use Rattle.capnp_words.specs.Sizes.{size_number}
use Rattle.capnp_format.specs.Numbers.{unpacked, words_for}
use Rattle.capnp_format.specs.Segments.{segment}
use Rattle.capnp_format.specs.Word.{list_count}
use Rattle.capnp_pointers.specs.declared.object.Place.{Place}
use Rattle.capnp_pointers.specs.declared.object.Object.TheVariants.{Flat}
use Rattle.capnp_pointers.specs.declared.object.Purpose.TheVariants.{Value}
use Rattle.capnp_pointers.specs.Demands.{claimed_words}
use Rattle.capnp_pointers.specs.Objects.{IsHeld, IsObjectRead}
use Rattle.capnp_pointers.specs.Reading.{Reading, words_from}
use Rattle.capnp_pointers.proofs.OneObject.PartsMeant.{claim_flat, claim_list}
use Rattle.capnp_messages.specs.Parts.{inside}
use Rattle.capnp_show.specs.Numbers.{flat_numbers}

-- The words of a list of bits or numbers are inside its segment.
pub record FlatRoom (r : Reading) (start : Place) (size : ElementSize) (n : ℕ) : Type 0 where
  pub held : IsHeld r.segments start
  pub five : size_number size ≤ 5
  pub inside : start.at + words_for (size_number size) n ≤ length (segment r.segments start.segment)

pub flat_room : (r : Reading) (start : Place) (size : ElementSize) (n : ℕ) → IsObjectRead Value r (Flat start size n) → FlatRoom r start size n
flat_room r start size n read =
    let (a, o, z, small, (held, seg, at), is, many) = read.object_of in
    let claims : claimed_words a.word ≡ words_for (size_number size) n = claim_list a.word (size_number size) z (sym is) ∙ claim_flat (size_number size) (list_count a.word) (rw is small) ∙ ap (words_for (size_number size)) (sym many) in
    record { held = held; five = rw is small; inside = rw seg (omega (arith, o.meets.claims, at, claims)) }

-- The numbers of a list are those in its segment's words.
pub flat_same : (r : Reading) (start : Place) (size : ElementSize) (n : ℕ) → IsHeld r.segments start → flat_numbers start size n ≡ unpacked (size_number size) n (words_from (inside r start.segment start.at) (words_for (size_number size) n))
flat_same r start size n held = ap (λ ws. unpacked (size_number size) n (take (words_for (size_number size) n) (drop start.at ws))) held.0
