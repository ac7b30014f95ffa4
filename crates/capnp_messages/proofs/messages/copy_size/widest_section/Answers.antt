use Rattle.std.proofs.Common.{◌≡◌, ℕ, suc, ◌+◌, ◌-◌, max, List, take, drop, refl, ap, ap₂, sym, ◌∙◌, arith}
use Rattle.std.proofs.Common.{rules}
use Rattle.std.proofs.lemmas.Grind.{common_steps}
use Rattle.std.proofs.lemmas.Bool.Decides.{nat_tests}
use Rattle.capnp_format.specs.Bytes.{words_of}
use Rattle.capnp_format.specs.Canonical.{used_words}
use Rattle.capnp_copies.specs.Widths.{most_used}
use Rattle.capnp_copies.proofs.Scanning.{next_reached, one_left}
use Rattle.capnp_messages.proofs.messages.copy_size.widest_section.Goals as goal

-- one more section is counted
one_more : (ws : List ℕ) (p words stride k least : ℕ) → max least (most_used ws p words stride (suc k)) ≡ max (max least (used_words (take words (drop p ws)))) (most_used ws (p + stride) words stride k)
one_more ws p words stride k least = omega arith

pub loop-preserved : goal.loop-preserved
loop-preserved c =
    let ws = words_of c.args.start.bytes.now in
    let at = c.loop.at in
    let rest : ℕ = c.args.count - (c.loop.counter + 1) in
    let here : at + c.from.result ≡ at + c.args.after = ap (λ x. at + x) c.from.ensures in
    let used : c.used_words_in-used.result ≡ used_words (take c.args.words (drop (at + c.args.after) ws)) = c.used_words_in-used.ensures.value ∙ ap₂ (λ n p. used_words (take n (drop p ws))) c.from-in-loop.ensures here in
    let more : c.max-widest.result ≡ max c.loop.widest (used_words (take c.args.words (drop (at + c.args.after) ws))) =
    (let greater : c.max-widest.result ≡ max c.loop.widest c.used_words_in-used.result = first_of (search rules, grind (arith, common_steps), grind (arith, nat_tests)) in greater) ∙ ap (max c.loop.widest) used in
    record {
      reached = next_reached c.args.start.at c.loop.counter c.args.stride c.loop.invariant.reached refl;
      fits = omega (arith, c.max-widest.ensures, c.used_words_in-used.ensures.within, c.from-in-loop.ensures, c.loop.invariant.fits);
      left =
          ap₂ (λ w p. max w (most_used ws p c.args.words c.args.stride rest)) more (let e : at + c.args.stride + c.args.after ≡ at + c.args.after + c.args.stride = omega arith in e)
          ∙ sym (ap (λ k. max c.loop.widest (most_used ws (at + c.args.after) c.args.words c.args.stride k)) (one_left c.args.count c.loop.counter c.loop-test.true) ∙ one_more ws (at + c.args.after) c.args.words c.args.stride rest c.loop.widest)
          ∙ c.loop.invariant.left;
    }
