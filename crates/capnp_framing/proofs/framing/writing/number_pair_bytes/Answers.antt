use Rattle.std.proofs.Common.{◌∙◌, ap, refl}
use Rattle.std.specs.Int.{to_le_bytes, w32}
use borrow.Rule.Slice.PartMut.{put_mid}
use Rattle.capnp_framing.proofs.TableLemmas.{two_put}
use Rattle.capnp_framing.proofs.framing.writing.number_pair_bytes.Goals as goal

pub returns : goal.returns
returns c = c.put_number-2.ensures ∙ ap (λ xs. put_mid 4 4 xs (to_le_bytes w32 c.args.second)) c.put_number.ensures ∙ two_put c.args.first c.args.second _ refl
