use Rattle.std.proofs.Common.{arith}
use Rattle.capnp_layout_c.proofs.BuildingCalls.{built_at}
use Rattle.capnp_layout_c.proofs.building.texts.capnp_layout_set_text.Goals as goal

pub returns-then-has_null-clause-builds : goal.returns-then-has_null-clause-builds
returns-then-has_null-clause-builds c place index there is _ =
    built_at c.make_text.result c.args.pointer _ index _ place _ there.1 is c.make_text.ensures.makes

pub returns-else-text-lt64-clause-builds : goal.returns-else-text-lt64-clause-builds
returns-else-text-lt64-clause-builds c place index there is few =
    built_at c.set_any_text.result c.args.pointer _ index _ place _ there.1 is
    (c.set_any_text.ensures.makes (there.0.0, omega (arith, is, there.0.1, there.1)) few)
