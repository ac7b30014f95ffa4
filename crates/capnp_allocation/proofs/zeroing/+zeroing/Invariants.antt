use Rattle.std.proofs.Common.{◌≡◌, ℕ, ◌+◌, ◌*◌, List}
use Rattle.capnp_format.specs.Tree.{Trees, Elements, element_count}
use Rattle.capnp_format.specs.Tree.{count as number}
use Rattle.capnp_format.specs.Forest.{Interval, times}
use Rattle.capnp_arena_traits.specs.View.{KeepsLimits}
use Rattle.capnp_allocation.specs.Zeroed.{IsZeroed, IsPruned, AreApart, AreApartElements, element_extents}
use Rattle.capnp_allocation.proofs.Zeros.{nonzeros}
use Rattle.capnp_allocation.proofs.Below.{child_extents, rest}
use Rattle.capnp_allocation.proofs.BelowElements.{rest_elements}
use Rattle.capnp_allocation.proofs.zeroing.+zeroing.Given as goal

abbrev pub decreases-zero_object : goal.decreases-zero_object
decreases-zero_object g l = 5 * nonzeros (g.A.BuilderArena.view l.arena.now).words

abbrev pub decreases-zero_pointers : goal.decreases-zero_pointers
decreases-zero_pointers g l = 5 * nonzeros (g.A.BuilderArena.view l.arena.now).words + 1

abbrev pub decreases-zero_elements : goal.decreases-zero_elements
decreases-zero_elements g l = 5 * nonzeros (g.A.BuilderArena.view l.arena.now).words + 2

abbrev pub decreases-zero_struct_list : goal.decreases-zero_struct_list
decreases-zero_struct_list g l = 5 * nonzeros (g.A.BuilderArena.view l.arena.now).words + 3

abbrev pub decreases-zero_struct : goal.decreases-zero_struct
decreases-zero_struct g l = 5 * nonzeros (g.A.BuilderArena.view l.arena.now).words + 3

abbrev pub decreases-zero_target : goal.decreases-zero_target
decreases-zero_target g l = 5 * nonzeros (g.A.BuilderArena.view l.arena.now).words + 4

abbrev pub invariant-zero_pointers-loop-i : goal.invariant-zero_pointers-loop-i
invariant-zero_pointers-loop-i g l = record {
  zeroed :
      (ts : Trees) → number ts ≡ l.count → AreApart (g.A.BuilderArena.view l.fn.arena).words l.id l.start ts →
      (is : List Interval) × IsZeroed (g.A.BuilderArena.view l.fn.arena).words (g.A.BuilderArena.view l.arena).words is
      × ((v r : ℕ) → times is v r + times (child_extents (g.A.BuilderArena.view l.fn.arena).words l.id (l.start + l.i) (rest l.i ts)) v r ≡ times (child_extents (g.A.BuilderArena.view l.fn.arena).words l.id l.start ts) v r);
  pruned : IsPruned (g.A.BuilderArena.view l.fn.arena).words (g.A.BuilderArena.view l.arena).words;
  limits : KeepsLimits (g.A.BuilderArena.view l.fn.arena) (g.A.BuilderArena.view l.arena);
}

abbrev pub invariant-zero_elements-loop-i : goal.invariant-zero_elements-loop-i
invariant-zero_elements-loop-i g l = record {
  zeroed :
      (es : Elements) → element_count es ≡ l.count → AreApartElements (g.A.BuilderArena.view l.fn.arena).words l.id l.start l.size es →
      (is : List Interval) × IsZeroed (g.A.BuilderArena.view l.fn.arena).words (g.A.BuilderArena.view l.arena).words is
      × ((v r : ℕ) → times is v r + times (element_extents (g.A.BuilderArena.view l.fn.arena).words l.id l.at l.size (rest_elements l.i es)) v r
      ≡ times (element_extents (g.A.BuilderArena.view l.fn.arena).words l.id l.start l.size es) v r);
  place : l.at ≡ l.start + l.i * (l.size.data_words + l.size.pointers);
  pruned : IsPruned (g.A.BuilderArena.view l.fn.arena).words (g.A.BuilderArena.view l.arena).words;
  limits : KeepsLimits (g.A.BuilderArena.view l.fn.arena) (g.A.BuilderArena.view l.arena);
}
