use Rattle.std.proofs.Common.{List, ℕ, subst}
use Rattle.capnp_framing.specs.Writing.{Writes}
use Rattle.capnp_streams.specs.Streams.{hex_line}
use Rattle.capnp_streams.proofs.streams.writing.write_canonical_words.Goals as goal

pub returns-then-hex : goal.returns-then-hex
returns-then-hex g c =
    rw c.if-hex.true
    (subst (λ (bs : List ℕ). Writes g.W.Output c.write_hex_line.result c.args.output.now c.write_hex_line.new.output (hex_line bs))
    c.requires.whole c.write_hex_line.ensures)
