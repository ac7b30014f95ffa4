use Rattle.std.proofs.Common.{◌≡◌, ◌↔◌, IsTrue, subst}
use Rattle.typed_building.proofs.Held.{field_held}
use Rattle.typed_building.proofs.reading.get_bool.Goals as goal

pub returns : goal.returns
returns g c = λ x ws ts h. subst (λ z. IsTrue c.get_bit.result ↔ (z ≡ 1)) (field_held (g.A.BuilderArena.view c.args.arena.now).words x c.args.place ws ts c.args.offset 1 c.requires.field h) c.get_bit.ensures
