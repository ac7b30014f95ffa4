-- Lemmas on rows whose allocated words are overwritten: the words after these stay zero. They are
-- in the definitions because a trait's law makes a row with them.
use Rattle.std.specs.Prelude.{ℕ, List, ◌*◌, ◌≡◌, ◌≤◌, ◌-◌, length, take, drop, replicate}
use Rattle.std.proofs.Common.{arith, refl, sym, ap, ◌∙◌, subst, length-take}
use Rattle.std.proofs.lemmas.Slice.{drop-append-drop}
use Rattle.std.proofs.lemmas.Grind.{common_steps}
use Rattle.capnp_arena_traits.specs.Allocations.{IsRow}
use Rattle.capnp_arena_traits.specs.Written.{with_front}
use Rattle.capnp_arena.specs.declared.arena.row.Row.{Row}
use Rattle.capnp_arena.specs.declared.arena.allocator.Segment.{Ghosts}

-- Overwriting the first elements of a list leaves its length unchanged.
pub length-with_front : (n : ℕ) (xs ws : List ℕ) → n ≤ length xs →
    length (with_front n xs ws) ≡ length xs
length-with_front n xs ws h = grind (arith, common_steps)

-- Overwriting the first n elements leaves those after them unchanged.
pub drop-with_front : (n : ℕ) (xs ws : List ℕ) → drop n (with_front n xs ws) ≡ drop n xs
drop-with_front n xs ws =
    drop-append-drop (length (take n ws)) xs (take n ws) n (omega (arith, length-take n ws)) refl

-- Overwriting the used words of a segment leaves a row: its other words stay zero.
pub front_row : (used long : ℕ) (bytes ws : List ℕ) → IsRow used bytes long →
    IsRow used (with_front (8 * used) bytes ws) long
front_row used long bytes ws row =
    let l = length-with_front (8 * used) bytes ws row.0 in (
      omega (arith, row.0, l),
      omega (arith, row.1, l),
      row.2,
      drop-with_front (8 * used) bytes ws ∙ row.3 ∙ ap (λ n. replicate (n - 8 * used) 0) (sym l),
    )

module _ {S : Type 0} (g : Ghosts S) where
  -- Overwriting the allocated words of a row leaves a row.
  pub clear_behind : (r : Row S g) (ws : List ℕ) →
      (let s = g.with_ready r.segment (with_front (8 * r.used) (g.ready r.segment) ws) in
      IsRow r.used (g.ready s) (length (g.content s)))
  clear_behind r ws =
      let bytes = g.ready r.segment in
      let new = with_front (8 * r.used) bytes ws in
      let l = length-with_front (8 * r.used) bytes ws r.clear.0 in
      subst (λ n. IsRow r.used (g.ready (g.with_ready r.segment new)) n)
      (sym (g.as_long r.segment new l))
      (subst (λ xs. IsRow r.used xs (length (g.content r.segment))) (sym (g.holds r.segment new l))
      (front_row r.used (length (g.content r.segment)) bytes ws r.clear))
