use Rattle.std.proofs.Common.{rules, ◌≡◌, ◌+◌, ℕ, length, refl, ap, ◌∙◌, arith, IsNone}
use Rattle.capnp_arena_traits.specs.Allocations.{one_more}
use Rattle.capnp_framing.specs.Reading.{words_told}
use Rattle.capnp_framing.proofs.OwnedLemmas.{ends_kept}
use Rattle.capnp_framing.proofs.ReadingLemmas.{told_more}
use Rattle.capnp_framing.proofs.UnreadLemmas.{row_back}
use Rattle.capnp_framing.proofs.framing.reading.segment_ends.Goals as goal

pub loop-i-preserved : goal.loop-i-preserved
loop-i-preserved g c =
    let none : IsNone c.keep.result = search rules in
    let next : ℕ = c.loop-i.sum + c.number_at.result in
    let sum : next ≡ words_told (c.loop-i.i + 1) c.args.table.now = omega (arith, c.loop-i.invariant.sum, c.number_at.ensures, told_more c.loop-i.i c.args.table.now) in
    let both = ends_kept c.loop-i.i next c.args.table.now c.loop-i.ends.items c.loop-i.invariant.long sum c.loop-i.invariant.kept (c.keep.ensures.kept none).0 in
    record {
      long = both.0;
      kept = both.1;
      sum = sum;
      small = omega (arith, c.loop-i.invariant.small, c.ranges);
      granted = (c.keep.ensures.kept none).1 ∙ c.loop-i.invariant.granted;
    }

pub loop-i-init : goal.loop-i-init
loop-i-init g c = record {
  long = ap length c.clear.ensures.items;
  kept = λ k less. absurd (omega (arith, less));
  sum = refl;
  small = omega arith;
  granted = refl;
}

pub returns-then-is_some : goal.returns-then-is_some
returns-then-is_some g c =
    let more : g.A.Allocator.refusals c.keep.new.self ≡ one_more (g.A.Allocator.refusals c.loop-i.allocator) =
    row_back c.keep.result _ c.is_some.ensures c.if-is_some.true c.keep.ensures.given_back (λ x h. h.2) in
    record { ends = tt; sum = tt; small = tt; memory = record { kept = tt; refused = refl; counted = more ∙ ap one_more c.loop-i.invariant.granted } }

pub returns : goal.returns
returns g c =
    let all : c.loop-i.i ≡ c.args.count = omega (arith, c.loop-i-test.false, c.loop-i.auto.i-end) in
    record {
      ends = (omega (arith, c.loop-i.invariant.long, all), λ k less. c.loop-i.invariant.kept k (omega (arith, less, all)));
      sum = c.loop-i.invariant.sum ∙ ap (λ n. words_told n c.args.table.now) all;
      small = omega (arith, c.loop-i.invariant.small, all);
      memory = record { kept = c.loop-i.invariant.granted; refused = tt; counted = tt };
    }

pub overflow_mul-i : goal.overflow_mul-i
overflow_mul-i g c = omega (arith, c.loop-i-test.true, c.requires.few)

pub number_at-requires : goal.number_at-requires
number_at-requires g c = omega (arith, c.loop-i-test.true, c.requires.inside)

pub overflow_cast-sum : goal.overflow_cast-sum
overflow_cast-sum g c = omega (arith, c.number_at.type_inv)

pub overflow_add-sum : goal.overflow_add-sum
overflow_add-sum g c = omega (arith, c.number_at.type_inv, c.loop-i.invariant.small, c.loop-i-test.true, c.requires.few)
