-- Rows in a list that were lent as a slice: what holds for the slice holds for the list.
use Rattle.std.proofs.Common.{◌≡◌, Bool, true, false, ◌∷◌, List, length, refl, sym, ap, ◌∙◌, arith, subst}
use Rattle.std.specs.Global.{Vec}
use Rattle.std.specs.Vec.{with_items}
use Rattle.std.proofs.lemmas.List.{with_items_is}
use Rattle.capnp_arena.specs.Row.{allocated, with_first, shown}
use Rattle.capnp_arena.specs.declared.arena.allocator.Segment.{Ghosts}
use Rattle.capnp_arena.specs.declared.arena.row.Row.{Row}
use Rattle.capnp_arena.proofs.RowsLemmas.{length_shown}

module _ {S : Type 0} (g : Ghosts S) where
  pub items_after : (P : List (Row S g) → List (Row S g) → Type 0) (v : Vec (Row S g)) (old new : List (Row S g)) → old ≡ v.items → length new ≡ length old → P old new → P v.items (with_items v new).items
  items_after P v old new is many p =
      subst (λ rows. P rows (with_items v new).items) is
      (subst (P old) (sym (with_items_is v new (omega (arith, v.ok.0, many, ap length is)))) p)

  -- rows that show the same segments are as many
  pub as_many_shown : (old new : List (Row S g)) → shown g new ≡ shown g old → length new ≡ length old
  as_many_shown old new e = sym (length_shown g new) ∙ ap length e ∙ length_shown g old

  pub others_shown : (t : Bool) (first : Row S g) (v : Vec (Row S g)) (old new : List (Row S g)) → old ≡ v.items → length new ≡ length old → shown g new ≡ shown g old →
      shown g (with_first g t first (with_items v new).items) ≡ shown g (with_first g t first v.items)
  others_shown false first v old new is many e = refl
  others_shown true first v old new is many e = ap (λ B. allocated g first ∷ B) (items_after (λ before after. shown g after ≡ shown g before) v old new is many e)
