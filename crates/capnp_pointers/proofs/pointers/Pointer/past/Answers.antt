use Rattle.std.proofs.Common.{ap₂, rules}
use Rattle.std.proofs.Math.Nat.{mod-eq_of_lt}
use Rattle.std.proofs.lemmas.Int.{to_z-of_z}
use mir.Syntax.{w32}
use Rattle.capnp_pointers.specs.Reading.{place_past}
use Rattle.capnp_pointers.specs.Source.{levels}
use Rattle.capnp_pointers.specs.Pointers.{reading}
use Rattle.capnp_pointers.proofs.pointers.Pointer.past.Goals as goal

pub returns : goal.returns
returns g c =
    λ fits. ap₂ (λ p n. record (place_past (reading g.A.ReaderArena c.args.self) c.args.words) { at = p; levels = levels n })
    (mod-eq_of_lt fits) (to_z-of_z w32 c.args.self.nesting_limit (search rules))
