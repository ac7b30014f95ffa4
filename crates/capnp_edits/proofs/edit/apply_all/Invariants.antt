use Rattle.std.proofs.Common.{◌≡◌, take, length}
use Rattle.capnp_edits.specs.Edits.{EditTakes, InTurn, IsApplied}
use Rattle.capnp_edits.specs.Steps.{IsStep}
use Rattle.capnp_edits.proofs.edit.apply_all.Given as goal

abbrev pub invariant-loop-i : goal.invariant-loop-i
invariant-loop-i g l = record {
  steps : InTurn IsStep (take l.i l.edits) (take l.i l.outcomes) (g.A.BuilderArena.view l.fn.arena) (g.A.BuilderArena.view l.arena);
  applied : IsApplied (InTurn EditTakes (take l.i l.edits) (take l.i l.outcomes)) (g.A.BuilderArena.view l.fn.arena).words (g.A.BuilderArena.view l.arena).words;
  long : length l.outcomes ≡ length l.edits;
}
