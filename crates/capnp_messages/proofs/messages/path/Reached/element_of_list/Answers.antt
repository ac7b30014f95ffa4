use Rattle.std.proofs.Common.{◌≡◌, true, nat_lt, refl, rules, arith, lt-ltb}
use Rattle.capnp_messages.proofs.PathLemmas.{row_inside}
use Rattle.capnp_messages.proofs.messages.path.Reached.element_of_list.Goals as goal

pub overflow_mul-index : goal.overflow_mul-index
overflow_mul-index g c =
    let size = c.args.size in
    let inside = row_inside c.args.start.at c.args.count c.args.index c.total.result size.data_words size.pointers _ c.requires.inside c.if-index-count.false c.total.ensures in
    record { fits = omega (arith, inside, c.requires.held.1, c.requires.held.2) }

pub pointer_within-first-requires : goal.pointer_within-first-requires
pointer_within-first-requires g c =
    let size = c.args.size in
    let inside = row_inside c.args.start.at c.args.count c.args.index c.total.result size.data_words size.pointers _ c.requires.inside c.if-index-count.false c.total.ensures in
    record { held = c.requires.held; inside = omega (arith, inside) }

pub invariant_of-result : goal.invariant_of-result
invariant_of-result g c =
    let size = c.args.size in
    let inside = row_inside c.args.start.at c.args.count c.args.index c.total.result size.data_words size.pointers _ c.requires.inside c.if-index-count.false c.total.ensures in
    record { there = rw c.pointer_within-first.ensures (record { inside = inside; few_words = search rules; few_pointers = search rules }) }

pub returns : goal.returns
returns g c =
    let less : nat_lt c.args.index c.args.count ≡ true = lt-ltb _ _ c.if-index-count.false in
    rw (less, c.pointer_within-first.ensures, c.total.ensures) refl
