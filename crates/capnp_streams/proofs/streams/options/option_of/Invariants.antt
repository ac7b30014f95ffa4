use Rattle.std.proofs.Common.{◌≡◌, length}
use Rattle.capnp_streams.specs.Arguments.{option_among, option_named}
use Rattle.capnp_streams.proofs.streams.options.option_of.Given as goal

abbrev pub invariant-loop-option : goal.invariant-loop-option
invariant-loop-option l = record {
  same : option_among l.rest l.fn.text ≡ option_named l.fn.text;
}

abbrev pub decreases-loop-option : goal.decreases-loop-option
decreases-loop-option l = length l.rest
