use Rattle.std.proofs.Common.{◌∙◌, refl}
use Rattle.capnp_packing.proofs.WordLemmas.{behind_long, counted_word, word_put}
use Rattle.capnp_packing.proofs.packing.unpacking.unpack_tagged_word.Goals as goal

pub last_half-requires-clause-packed : goal.last_half-requires-clause-packed
last_half-requires-clause-packed c = behind_long c.args.tag c.args.packed.now c.requires.packed

pub returns-clause-bytes : goal.returns-clause-bytes
returns-clause-bytes c = word_put c.args.tag _ c.args.packed.now c.args.to.now c.copy_from_slice.new.self c.copy_from_slice-2.new.self c.requires.room refl (c.copy_from_slice.ensures.after ∙ c.to_le_bytes.ensures ∙ c.half_word.ensures) (c.copy_from_slice-2.ensures.after ∙ c.to_le_bytes-2.ensures ∙ c.last_half.ensures)

pub returns-clause-taken : goal.returns-clause-taken
returns-clause-taken c = counted_word c.args.tag c.ranges.tag.fits
