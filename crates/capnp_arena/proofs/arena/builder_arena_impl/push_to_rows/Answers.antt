use Rattle.std.proofs.Common.{refl, ap}
use Rattle.capnp_arena.specs.Row.{with_first}
use Rattle.capnp_arena.proofs.Gained.{gained_behind}
use Rattle.capnp_arena.proofs.ListedLemmas.{others_pushed}
use Rattle.capnp_arena.proofs.arena.builder_arena_impl.push_to_rows.Goals as goal

pub invariant_of-rows : goal.invariant_of-rows
invariant_of-rows g c =
    let b = c.args.rows.now in
    let h = others_pushed g.A.Segment.Segment b.there b.first c.new.result b.others.items c.keep.new.list.items c.keep.result _ c.if-not-rows.false c.requires.few c.keep.ensures.kept c.keep.ensures.given_back c.new.ensures.bound b.few b.bounded in
    record { few = h.0; bounded = h.1 }

pub returns-in-None-clause-put : goal.returns-in-None-clause-put
returns-in-None-clause-put g c =
    let b = c.args.rows.now in
    gained_behind g.A.Segment.Segment b.there b.first c.new.result b.others.items c.keep.new.list.items c.args.segment c.if-not-rows.false (c.in-None.ensures.kept refl).0 c.new.ensures.none c.new.ensures.segment

pub returns-in-Some-clause-refused : goal.returns-in-Some-clause-refused
returns-in-Some-clause-refused g c =
    let b = c.args.rows.now in
    ap (λ rows. with_first g.A.Segment.Segment b.there b.first rows) c.in-Some.ensures.given_back.1
