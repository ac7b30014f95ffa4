use Rattle.std.proofs.Common.{arith, rules}
use Rattle.capnp_layout.proofs.FrameLines.{no_padding}
use Rattle.capnp_layout.proofs.tool.frames.write_padding.Goals as goal

pub returns-else-count-eq0 : goal.returns-else-count-eq0
returns-else-count-eq0 g c = record {
  written = no_padding (g.W.Output.contents c.args.output.now) c.args.count (omega arith);
  works = c.requires.works;
  fails = search rules;
}
