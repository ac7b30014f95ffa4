use Rattle.std.proofs.Common.{◌≡◌}
use Rattle.capnp_packing.specs.declared.packing.place.Place.TheVariants.{Tag}
use Rattle.capnp_packing.proofs.PieceLemmas.{front_next}
use Rattle.capnp_packing.proofs.packing.pieces.unpack_next.Goals as goal
use Rattle.capnp_packing.proofs.packing.pieces.unpack_next.Goals.{in-Tag, in_default-matches}

pub returns-then-to-ge8 : goal.returns-then-to-ge8
returns-then-to-ge8 c =
    let tag : c.args.place ≡ Tag = elim c.match-matches.branch [ in-Tag w ↦ w.in-Tag.is | in_default-matches w ↦ absurd (cc) ] in
    rw tag (front_next c.args.packed.now c.unpack_words.new.to c.unpack_words.result c.unpack_words.ensures)
