use Rattle.std.proofs.Common.{◌≡◌, IsSome}
use Rattle.std.specs.Option.{option_map_or}
use Rattle.capnp_framing.specs.Wholeness.{KeepsWhole}
use Rattle.capnp_streams.specs.Streams.{AreDone, AreWorking, stage_of}
use Rattle.capnp_streams.proofs.streams.runs.run.Given as goal

abbrev pub invariant-loop-number : goal.invariant-loop-number
invariant-loop-number g l = record {
  done : AreDone l.job
      (stage_of g.R.Input g.W.Output l.fn.input l.fn.output)
      (stage_of g.R.Input g.W.Output l.input l.output)
      (record { messages = l.number; bytes = l.bytes; holds = l.holds });
  whole : KeepsWhole (g.R.Input.ends_whole l.fn.input) (g.R.Input.ends_whole l.input);
  work : AreWorking g.R.Input g.W.Output l.input l.output;
  there : IsSome l.memory.allocator;
  kept : option_map_or g.A.Allocator.refusals l.memory.allocator 0 ≡ g.A.Allocator.refusals l.fn.allocator;
}
