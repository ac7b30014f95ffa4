use Rattle.std.proofs.Common.{◌≡◌, ℕ, ◌+◌, ◌*◌, ◌<◌, ◌≤◌, get_or}
use Rattle.capnp_arena.specs.Bounds.{rooms}
use Rattle.capnp_arena.proofs.RangeLemmas.{IsPowerOfTwo}
use Rattle.capnp_arena.proofs.arena.bounds.greatest_room.Given as goal

abbrev pub invariant-widen : goal.invariant-widen
invariant-widen g l = record {
  power : IsPowerOfTwo l.width;
  aligned : l.rest * l.width ≡ l.at + 1;
  some : 0 < l.rest;
  covered : (k : ℕ) → l.at + 1 ≤ k + l.width → k ≤ l.at → get_or (rooms g.S.Segment l.rows) k 0 ≤ l.greatest;
}

abbrev pub decreases-widen : goal.decreases-widen
decreases-widen g l = l.rest
