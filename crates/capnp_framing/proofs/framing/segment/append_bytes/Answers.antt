use Rattle.std.proofs.Common.{rules, ◌≡◌, ◌∙◌, ◌++◌, ℕ, List, refl, ap, take_all, IsNone}
use Rattle.capnp_arena_traits.specs.Allocations.{one_more}
use Rattle.capnp_framing.proofs.BareLemmas.{byte_kept}
use Rattle.capnp_framing.proofs.UnreadLemmas.{row_back}
use Rattle.capnp_framing.proofs.framing.segment.append_bytes.Goals as goal

pub loop-byte-preserved : goal.loop-byte-preserved
loop-byte-preserved g c =
    let none : IsNone c.keep.result = search rules in
    record {
      kept = byte_kept c.loop-byte.list.items c.args.list.now.items c.args.bytes.now c.loop-byte.byte-index (search rules) c.loop-byte.invariant.kept (c.keep.ensures.kept none).0;
      granted = (c.keep.ensures.kept none).1 ∙ c.loop-byte.invariant.granted;
    }

pub returns-then-is_some : goal.returns-then-is_some
returns-then-is_some g c =
    let more : g.A.Allocator.refusals c.keep.new.self ≡ one_more (g.A.Allocator.refusals c.loop-byte.allocator) =
    row_back c.keep.result _ c.is_some.ensures c.if-is_some.true c.keep.ensures.given_back (λ x h. h.2) in
    record { put = tt; memory = record { kept = tt; refused = refl; counted = more ∙ ap one_more c.loop-byte.invariant.granted } }

pub returns : goal.returns
returns g c = record {
  put = c.loop-byte.invariant.kept ∙ ap (λ (xs : List ℕ). c.args.list.now.items ++ xs) (take_all c.loop-byte.byte-index c.args.bytes.now c.loop-byte-test.false);
  memory = record { kept = c.loop-byte.invariant.granted; refused = tt; counted = tt };
}
