use Rattle.std.proofs.Common.{◌≡◌, length, take, refl, ap, arith}
use Rattle.capnp_arena_traits.specs.Allocations.{one_more}
use Rattle.capnp_framing.proofs.UnreadLemmas.{row_back}
use Rattle.capnp_framing.proofs.framing.reading.grow.Goals as goal

pub returns-then-is_some : goal.returns-then-is_some
returns-then-is_some g c =
    let same : c.keep.new.list.items ≡ c.args.to.now.items = row_back c.keep.result _ c.is_some.ensures c.if-is_some.true c.keep.ensures.given_back (λ x h. h.1) in
    let more : g.A.Allocator.refusals c.keep.new.self ≡ one_more (g.A.Allocator.refusals c.args.allocator.now) =
    row_back c.keep.result _ c.is_some.ensures c.if-is_some.true c.keep.ensures.given_back (λ x h. h.2) in
    record { front = ap (take c.args.n) same; long = omega (arith, ap length same); room = tt; memory = record { kept = tt; refused = refl; counted = more } }
