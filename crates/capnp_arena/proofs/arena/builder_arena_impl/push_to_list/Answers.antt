use Rattle.std.proofs.Common.{refl}
use Rattle.capnp_arena.proofs.Gained.{gained}
use Rattle.capnp_arena.proofs.ListPushed.{list_pushed}
use Rattle.capnp_arena.proofs.arena.builder_arena_impl.push_to_list.Goals as goal

pub invariant_of-list : goal.invariant_of-list
invariant_of-list g c =
    let b = c.args.list.now in
    let h = list_pushed g.A.Segment.Segment c.new.result b.rows.items c.keep.new.list.items c.keep.result _ c.requires.few c.keep.ensures.kept c.keep.ensures.given_back c.new.ensures.bound b.bounded in
    record { few = h.0; bounded = h.1 }

pub returns-in-None-clause-put : goal.returns-in-None-clause-put
returns-in-None-clause-put g c =
    gained g.A.Segment.Segment c.args.list.now.rows.items c.keep.new.list.items c.new.result c.args.segment (c.in-None.ensures.kept refl).0 c.new.ensures.none c.new.ensures.segment
