use Rattle.std.proofs.Common.{◌≡◌}
use Rattle.capnp_framing.specs.Wholeness.{KeepsWhole}
use Rattle.capnp_streams.specs.Streams.{AreWorking, stage_of}
use Rattle.typed_streams.specs.Conforming.{AreTested}
use Rattle.typed_streams.proofs.conforming.test_stream.Given as goal

abbrev pub invariant-loop-messages : goal.invariant-loop-messages
invariant-loop-messages g l = record {
  done : AreTested (record { table = l.table; row = l.row; limits = l.limits })
      (stage_of g.R.Input g.W.Output l.fn.input l.fn.output)
      (stage_of g.R.Input g.W.Output l.input l.output)
      l.messages l.bytes;
  whole : KeepsWhole (g.R.Input.ends_whole l.fn.input) (g.R.Input.ends_whole l.input);
  work : AreWorking g.R.Input g.W.Output l.input l.output;
  kept : g.A.Allocator.refusals l.allocator ≡ g.A.Allocator.refusals l.fn.allocator;
}
