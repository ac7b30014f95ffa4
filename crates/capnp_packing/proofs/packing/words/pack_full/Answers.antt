use Rattle.std.proofs.Common.{◌≡◌, ◌≤◌, ◌+◌, ◌-◌, ◌*◌, length, take, drop, ap, ◌∙◌, arith, rules, length-take}
use Rattle.capnp_packing.proofs.PackingLemmas.{full_alone, full_packed}
use Rattle.capnp_packing.proofs.packing.words.pack_full.Goals as goal

pub returns : goal.returns
returns c =
    let many : 8 + 8 * c.leading_full_words-n.result - 8 ≡ 8 * c.leading_full_words-n.result = omega arith in
    let few : 8 * c.leading_full_words-n.result ≤ length (drop 8 c.args.from.now) = omega (arith, c.leading_full_words-n.ensures, length-take (length c.args.from.now - 8) (drop 8 c.args.from.now)) in
    record { some = search rules; words = search rules; taken = search rules; within = search rules; packed = full_packed c.args.to.now c.args.from.now c.copy_from_slice.new.self c.copy_from_slice-2.new.self c.leading_full_words-n.result _ (search rules) c.requires.word c.copy_from_slice.ensures.after few (c.copy_from_slice-2.ensures.after ∙ ap (λ m. take m (drop 8 c.args.from.now)) many) }

pub returns-then-n-eq0 : goal.returns-then-n-eq0
returns-then-n-eq0 c = record { some = search rules; words = search rules; taken = search rules; within = search rules; packed = full_alone c.args.to.now c.args.from.now c.copy_from_slice.new.self c.leading_full_words-n.result c.if-n-eq0.true (search rules) c.requires.word c.copy_from_slice.ensures.after }
