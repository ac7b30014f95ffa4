use Rattle.std.proofs.Common.{◌/◌, ◌^◌, ◌<◌, List, ℕ, Vec, Global, length, sym, subst, vec_items, arith}
use Rattle.std.specs.List.{All}
use Rattle.capnp_layout.proofs.LineLemmas.{small_at, small_all, as_many}
use Rattle.capnp_layout.proofs.tool.lines.Message.is_small.Goals as goal

pub returns-then-len-lt4294967296 : goal.returns-then-len-lt4294967296
returns-then-len-lt4294967296 c =
    let rows : List (Vec ℕ Global) = c.args.self.now.segments.items in (
      λ small. (
        omega (arith, as_many vec_items rows),
        small_at vec_items rows (subst (λ (xs : List (Vec ℕ Global)). All (λ r. length (vec_items r) / 8 < 2 ^ 32) xs) c.as_slice.ensures.value (c.are_small.ensures.0 small)),
      ),
      λ small. c.are_small.ensures.1 (subst (λ (xs : List (Vec ℕ Global)). All (λ r. length (vec_items r) / 8 < 2 ^ 32) xs) (sym c.as_slice.ensures.value) (small_all vec_items rows small.1)),
    )
