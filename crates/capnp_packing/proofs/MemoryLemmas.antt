-- Words packed and packed bytes unpacked in memory, in parts.
use Rattle.std.proofs.Common.{◌≡◌, ℕ, ◌+◌, ◌-◌, ◌≤◌, List, ◌++◌, length, take, drop, take-add, take_all, Option, Some, None, sym, ◌∙◌, append-nil}
use Rattle.std.specs.Io.KnownBytes.{IsAtEnd}
use Rattle.std.proofs.lemmas.List.{take_rest}
use Rattle.capnp_packing.specs.Packing.{Packs, place_at_end, unpacked_bytes}
use Rattle.capnp_packing.proofs.PackingLemmas.{packs_append}
use Rattle.capnp_packing.proofs.UnpackingLemmas.{Unpacks, then_takes}
use Rattle.capnp_packing.specs.declared.packing.place.Place.{Place}
use Rattle.capnp_packing.specs.declared.packing.place.Place.TheVariants.{Tag}

pub part_packed : (old new more words : List ℕ) (taken n : ℕ) → new ≡ old ++ more → Packs old (take taken words)
    → Packs more (take n (take (length words - taken) (drop taken words))) → Packs new (take (taken + n) words)
part_packed old new more words taken n is before next =
    let after = rw (take_rest words taken) at next in
    rw (is, take-add taken n words) (packs_append old more (take taken words) (take n (drop taken words)) before after)

pub all_packed : (packed words : List ℕ) (taken : ℕ) → length words ≤ taken → Packs packed (take taken words)
    → Packs packed words
all_packed packed words taken l h = rw (take_all taken words l) at h

pub all_unpacked : (packed bytes : List ℕ) (due : ℕ) (place : Place) (known : Option (List ℕ)) → due ≡ 0 → IsAtEnd known
    → Unpacks 0 Tag (Some packed) due place known bytes → (unpacked_bytes Tag packed ≡ bytes) × (place_at_end Tag packed ≡ place)
unfolding unpacked_bytes place_at_end
all_unpacked packed bytes due place None none end h = absurd h.0
all_unpacked packed bytes due place (Some rest) none end h =
    let last = rw (none, end) at h in (last.0 ∙ append-nil bytes, sym last.1)

pub more_unpacked : (packed old new : List ℕ) (due tail : ℕ) (place next : Place) (known rest : Option (List ℕ))
    (more : List ℕ) → new ≡ old ++ more → Unpacks 0 Tag (Some packed) due place known old
    → Unpacks due place known tail next rest more → Unpacks 0 Tag (Some packed) tail next rest new
more_unpacked packed old new due tail place next known rest more is before after =
    rw is (then_takes 0 due tail Tag place next (Some packed) known rest old more before after)
