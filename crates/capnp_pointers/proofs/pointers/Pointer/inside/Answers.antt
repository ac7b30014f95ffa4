use Rattle.std.proofs.Common.{rules}
use Rattle.capnp_pointers.proofs.CanonicalTest.ResultFromParts.{inner_levels}
use Rattle.capnp_pointers.proofs.pointers.Pointer.inside.Goals as goal

pub returns-clause-levels : goal.returns-clause-levels
returns-clause-levels g c = inner_levels c.args.self.nesting_limit c.one_level_less.result (search rules) (record { sfits = c.one_level_less.type_inv }) c.one_level_less.ensures
