use Rattle.std.proofs.Common.{◌≤◌, ◌-◌, ◌^◌, length, refl, true, rules}
use Rattle.capnp_format.specs.Bytes.{message}
use Rattle.capnp_messages.proofs.MessageLemmas.{AtRoot, at_root}
use Rattle.capnp_walks.proofs.AtRoots.{walked_at_root, walked_without_root}
use Rattle.capnp_walks.proofs.walks.walk_message.Goals as goal

pub returns-in-Ok : goal.returns-in-Ok
returns-in-Ok g c =
    let root : AtRoot (message (g.S.ReaderSegments.segments c.args.segments)) c.args.limits _ c.read_root.new.lim =
    at_root c.new-arena.ensures.words c.new-arena.ensures.nesting c.new-lim.ensures c.in-Ok.ensures.place
    c.in-Ok.ensures.charged (c.in-Ok.ensures.exactly.0 (refl {a = true})) in
    let small : length c.args.objects.now ≤ 2 ^ 64 - 1 = search rules in
    let left = walked_at_root c.args.objects.now c.walk_value-refused.new.objects c.walk_value-refused.new.count c.walk_value-refused.result small root c.walk_value-refused.ensures in
    record { objects = left.objects; count = left.count; refused = left.refused }

pub returns : goal.returns
returns g c =
    let left = walked_without_root c.args.limits c.args.objects.now c.new-arena.ensures.words c.new-lim.ensures c.in-Err.ensures.refused in
    record { objects = left.objects; count = left.count; refused = left.refused }
