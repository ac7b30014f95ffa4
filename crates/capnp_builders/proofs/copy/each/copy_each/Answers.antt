use Rattle.std.proofs.Common.{◌≡◌, ◌+◌, ◌^◌, ◌<◌, length, ◌∙◌, arith}
use Rattle.capnp_format.specs.Segments.{segment, word_at, IsPlace}
use Rattle.capnp_pointers.specs.Wanted.{plain}
use Rattle.capnp_pointers.specs.Pointers.{reading}
use Rattle.std.proofs.lemmas.Result.{err_from_is_err_and}
use Rattle.capnp_copies.proofs.FilledChildren.{no_child, children_grow, child_ahead, child_copied}
use Rattle.capnp_copies.proofs.Growth.{none_taken, one_taken, stop_taken, all_taken}
use Rattle.capnp_builders.proofs.EachCopied.{each_stops, each_refused_rightly}
use Rattle.capnp_builders.proofs.copy.each.copy_each.Goals as goal

pub loop-i-init : goal.loop-i-init
loop-i-init g c = (no_child (reading g.B.ReaderArena c.args.from) plain c.args.to.segment c.args.to.at (g.A.BuilderArena.view c.args.arena.now) c.args.lim.now, none_taken (reading g.B.ReaderArena c.args.from) plain c.args.to.segment (g.A.BuilderArena.view c.args.arena.now) c.args.lim.now)

pub copy_value-requires : goal.copy_value-requires
copy_value-requires g c =
    let grows = children_grow c.loop-i.invariant.0 in
    let PLACE : IsPlace (g.A.BuilderArena.view c.loop-i.arena).words c.args.to.segment (c.args.to.at + c.loop-i.i) = omega (arith, c.requires.nulls.room, c.loop-i-test.true, grows.words c.args.to.segment) in
    let NULL : word_at (g.A.BuilderArena.view c.loop-i.arena).words c.args.to.segment (c.args.to.at + c.loop-i.i) ≡ 0 = child_ahead c.loop-i.invariant.0 (omega (arith, c.requires.nulls.room, c.loop-i-test.true)) ∙ c.requires.nulls.null c.loop-i.i c.loop-i-test.true in
    rw c.place_past-place.ensures (record { place = PLACE; null = NULL })

pub returns-in_err-copy_value-clause-refused : goal.returns-in_err-copy_value-clause-refused
returns-in_err-copy_value-clause-refused g c =
    let child = c.past-child.ensures (omega (arith, c.requires.inside, c.loop-i-test.true, c.args.from.held.1, c.args.from.held.2)) in
    let p = err_from_is_err_and c.from_residual.result c.from_residual.ensures.1 in
    rw (p.1, p.2) (each_stops (omega (arith, c.requires.nulls.room, c.loop-i-test.true)) c.loop-i-test.true c.loop-i.invariant.0 c.loop-i.invariant.1 (rw (child, c.place_past-place.ensures) at c.in_err-copy_value.ensures.refused))

pub loop-i-preserved : goal.loop-i-preserved
loop-i-preserved g c =
    let child = c.past-child.ensures (omega (arith, c.requires.inside, c.loop-i-test.true, c.args.from.held.1, c.args.from.held.2)) in
    let few : length (segment (g.A.BuilderArena.view c.loop-i.arena).words c.args.to.segment) < 2 ^ 29 =
    omega (arith, g.met.A.BuilderArena.within c.loop-i.arena c.args.to.segment, g.met.A.BuilderArena.small c.loop-i.arena c.args.to.segment) in (
      child_copied (omega (arith, c.requires.nulls.room, c.loop-i-test.true)) few c.loop-i.invariant.0 (rw (child, c.place_past-place.ensures) at c.in_ok-copy_value.ensures.copied),
      one_taken c.loop-i.invariant.1 (rw (child, c.place_past-place.ensures) at c.in_ok-copy_value.ensures.taken),
    )

pub returns-in_err-copy_value-clause-taken : goal.returns-in_err-copy_value-clause-taken
returns-in_err-copy_value-clause-taken g c =
    let child = c.past-child.ensures (omega (arith, c.requires.inside, c.loop-i-test.true, c.args.from.held.1, c.args.from.held.2)) in
    let p = err_from_is_err_and c.from_residual.result c.from_residual.ensures.1 in
    rw p.1 (stop_taken c.loop-i-test.true c.loop-i.invariant.1 (rw (child, c.place_past-place.ensures) at c.in_err-copy_value.ensures.taken))

pub returns-clause-taken : goal.returns-clause-taken
returns-clause-taken g c = all_taken (omega arith) c.loop-i.invariant.1

pub returns-in_err-copy_value-clause-fits : goal.returns-in_err-copy_value-clause-fits
returns-in_err-copy_value-clause-fits g c =
    let child = c.past-child.ensures (omega (arith, c.requires.inside, c.loop-i-test.true, c.args.from.held.1, c.args.from.held.2)) in
    λ fits. absurd (each_refused_rightly (each_stops (omega (arith, c.requires.nulls.room, c.loop-i-test.true)) c.loop-i-test.true c.loop-i.invariant.0 c.loop-i.invariant.1 (rw (child, c.place_past-place.ensures) at c.in_err-copy_value.ensures.refused)) fits)
