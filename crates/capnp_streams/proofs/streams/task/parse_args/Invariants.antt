use Rattle.std.proofs.Common.{◌≡◌, ◌+◌, length, map, string_bytes}
use Rattle.capnp_streams.specs.Arguments.{request_from, request_of}
use Rattle.capnp_streams.proofs.streams.task.parse_args.Given as goal

abbrev pub invariant-loop-arg : goal.invariant-loop-arg
invariant-loop-arg l = record {
  same : request_from l.line l.at (map string_bytes l.rest) ≡ request_of (map string_bytes l.fn.args);
  counted : l.at + length l.rest ≡ length l.fn.args;
}

abbrev pub decreases-loop-arg : goal.decreases-loop-arg
decreases-loop-arg l = length l.rest
