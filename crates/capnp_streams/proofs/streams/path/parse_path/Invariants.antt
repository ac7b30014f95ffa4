use Rattle.std.proofs.Common.{◌≡◌, length}
use denote.Shadow.{shadow}
use denote.Text.{Utf8}
use Rattle.capnp_streams.specs.Paths.{parts_between_dots, path_of, path_with_parts}
use Rattle.capnp_streams.proofs.streams.path.parse_path.Given as goal

abbrev pub invariant-loop-first : goal.invariant-loop-first
invariant-loop-first l = record {
  same : path_with_parts l.path (parts_between_dots l.rest) ≡ path_of l.fn.text;
  text : shadow (Utf8 l.rest);
}

abbrev pub decreases-loop-first : goal.decreases-loop-first
decreases-loop-first l = length l.rest
