use Rattle.std.proofs.Common.{rules, ◌/◌, ◌^◌, ◌<◌, length, arith}
use Rattle.std.specs.List.{All}
use Rattle.capnp_arena.proofs.Small.{small_segments}
use Rattle.capnp_layout_c.proofs.segments.Segments.new.Goals as goal

pub invariant_of-result : goal.invariant_of-result
invariant_of-result c =
    let each : All (λ s. length s.now / 8 < 2 ^ 32) c.args.list.now = search rules in
    record { small = small_segments c.args.list.now (omega arith, each) }
