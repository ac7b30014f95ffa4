use Rattle.std.proofs.Common.{◌≡◌, ℕ, List, ◌++◌, ◌+◌, ◌<◌, length, map, drop, get_or, refl, ap, sym, ◌∙◌, arith, length-drop}
use Rattle.std.proofs.lemmas.List.{nil_from_length}
use Rattle.capnp_show.specs.Numbers.{flat_numbers, number_text}
use Rattle.capnp_show.proofs.Adds.{all_added, part_added, part_stops}
use Rattle.capnp_show.proofs.Elements.{element_read, length_numbers}
use Rattle.capnp_show.proofs.Pieces.{number_next, no_pieces, pieces}
use Rattle.capnp_show.proofs.show.text.Text.push_each_number.Goals as goal

pub returns-in_err-push_comma_unless_first : goal.returns-in_err-push_comma_unless_first
returns-in_err-push_comma_unless_first c =
    let f = number_text c.args.size in
    let ns : List ℕ = flat_numbers c.args.start c.args.size c.args.count in
    let i : ℕ = c.loop-i.i in
    let there : i < length ns = omega (arith, c.loop-i-test.true, length_numbers c.args.start c.args.size c.args.count) in
    let n : ℕ = get_or ns i 0 in
    part_stops c.from_residual.result _ _ _ (f n ++ pieces (i + 1) (map f (drop (i + 1) ns))) c.from_residual.ensures.1
    (ap (λ zs. c.loop-i.self.bytes.items ++ zs) (sym (number_next f ns i n there refl)) ∙ c.loop-i.invariant) c.in_err-push_comma_unless_first.ensures

pub returns-in_err-push_element : goal.returns-in_err-push_element
returns-in_err-push_element c =
    let f = number_text c.args.size in
    let ns : List ℕ = flat_numbers c.args.start c.args.size c.args.count in
    let i : ℕ = c.loop-i.i in
    let there : i < length ns = omega (arith, c.loop-i-test.true, length_numbers c.args.start c.args.size c.args.count) in
    let n : ℕ = c.number_at.result in
    let rest : List ℕ = pieces (i + 1) (map f (drop (i + 1) ns)) in
    let is = element_read c.args.start c.args.size c.args.count i n c.requires.bytes c.requires.some c.requires.at_hand.0 c.requires.at_hand.1 c.requires.small c.loop-i-test.true c.number_at.ensures in
    let whole = part_added (f n ++ rest) _ (ap (λ zs. c.loop-i.self.bytes.items ++ zs) (sym (number_next f ns i n there is)) ∙ c.loop-i.invariant) c.in_ok-push_comma_unless_first.ensures in
    part_stops c.from_residual-in_err-push_element.result _ _ _ rest c.from_residual-in_err-push_element.ensures.1 whole c.in_err-push_element.ensures

pub loop-i-preserved : goal.loop-i-preserved
loop-i-preserved c =
    let f = number_text c.args.size in
    let ns : List ℕ = flat_numbers c.args.start c.args.size c.args.count in
    let i : ℕ = c.loop-i.i in
    let there : i < length ns = omega (arith, c.loop-i-test.true, length_numbers c.args.start c.args.size c.args.count) in
    let n : ℕ = c.number_at.result in
    let rest : List ℕ = pieces (i + 1) (map f (drop (i + 1) ns)) in
    let is = element_read c.args.start c.args.size c.args.count i n c.requires.bytes c.requires.some c.requires.at_hand.0 c.requires.at_hand.1 c.requires.small c.loop-i-test.true c.number_at.ensures in
    let whole = part_added (f n ++ rest) _ (ap (λ zs. c.loop-i.self.bytes.items ++ zs) (sym (number_next f ns i n there is)) ∙ c.loop-i.invariant) c.in_ok-push_comma_unless_first.ensures in
    part_added rest _ whole c.in_ok-push_element.ensures

pub returns : goal.returns
returns c =
    let f = number_text c.args.size in
    let ns : List ℕ = flat_numbers c.args.start c.args.size c.args.count in
    let none : length (drop c.loop-i.i ns) ≡ 0 = omega (arith, length-drop c.loop-i.i ns, length_numbers c.args.start c.args.size c.args.count, c.loop-i-test.false) in
    all_added _ c.loop-i.self.bytes.items _ _ (pieces c.loop-i.i (map f (drop c.loop-i.i ns))) c.loop-i.invariant
    (ap (λ zs. pieces c.loop-i.i (map f zs)) (nil_from_length (drop c.loop-i.i ns) none) ∙ no_pieces c.loop-i.i)
