use Rattle.std.proofs.Common.{◌≡◌, ◌++◌, length, map, string_bytes}
use Rattle.capnp_streams.specs.Arguments.{files_from, files_of}
use Rattle.capnp_streams.proofs.streams.task.named_files.Given as goal

abbrev pub invariant-loop-arg : goal.invariant-loop-arg
invariant-loop-arg l = record {
  same : map string_bytes l.files.items ++ files_from l.line (map string_bytes l.rest) ≡ files_of (map string_bytes l.fn.args);
}

abbrev pub decreases-loop-arg : goal.decreases-loop-arg
decreases-loop-arg l = length l.rest
