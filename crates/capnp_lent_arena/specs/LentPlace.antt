-- Lemmas on bytes that are overwritten from their start on. They are among the definitions because
-- a definition of an arena cites them.
use Rattle.std.specs.Prelude.{ℕ, List, ◌*◌, ◌≡◌, ◌≤◌, length}
use Rattle.std.proofs.Common.{sym, subst, ap, ◌∙◌}
use Rattle.capnp_arena_traits.specs.Written.{with_front}
use Rattle.capnp_arena.specs.ClearLemmas.{length-with_front}
use Rattle.capnp_arena.specs.declared.arena.allocator.Segment.{Ghosts}

module _ {S : Type 0} (g : Ghosts S) where
  -- As many bytes are ready if the first of them are overwritten.
  pub ready_still : (s : S) (used : ℕ) (ws : List ℕ) → 8 * used ≤ length (g.ready s) →
      length (g.ready (g.with_ready s (with_front (8 * used) (g.ready s) ws))) ≡ length (g.ready s)
  ready_still s used ws h =
      let same = length-with_front (8 * used) (g.ready s) ws h in
      ap length (g.holds s (with_front (8 * used) (g.ready s) ws) same) ∙ same

  -- The allocated words stay inside of the bytes if these words are overwritten.
  pub inside_still : (s : S) (used : ℕ) (ws : List ℕ) → 8 * used ≤ length (g.ready s) →
      8 * used ≤ length (g.ready (g.with_ready s (with_front (8 * used) (g.ready s) ws)))
  inside_still s used ws h = subst (λ n. 8 * used ≤ n) (sym (ready_still s used ws h)) h
