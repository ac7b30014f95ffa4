use Rattle.std.proofs.Common.{◌≡◌, arith, refl, sym, ◌∙◌}
use Rattle.std.proofs.lemmas.Bool.{false≢true}
use Rattle.capnp_lent_arena.specs.LentArenaLemmas.{allocated_words}
use Rattle.capnp_lent_arena.proofs.LentArenaSteps.{grown}
use Rattle.capnp_lent_arena.proofs.lent_arena.LentArenaBuilderArena.allocate.Goals as goal

pub returns-then-has_room-clause-exactly : goal.returns-then-has_room-clause-exactly
returns-then-has_room-clause-exactly g c =
    let none : c.args.id ≡ 0 = omega (arith, c.requires) in
    let roomy = c.has_room.ensures.0 c.if-has_room.true in
    rw none (λ _. omega (arith, allocated_words g.B.Segment c.args.self.now, roomy), λ _. refl)

pub returns-then-has_room-clause-taken : goal.returns-then-has_room-clause-taken
returns-then-has_room-clause-taken g c =
    let e = c.allocate_fitting.ensures in
    grown g.B.Segment g.B.LentBytes.name c.args.self.now c.allocate_fitting.new.self c.args.amount c.allocate_fitting.result c.args.id
    (omega (arith, c.requires)) e.at e.words e.refused e.same_reference e.length

pub returns-else-has_room-clause-exactly : goal.returns-else-has_room-clause-exactly
returns-else-has_room-clause-exactly g c =
    let none : c.args.id ≡ 0 = omega (arith, c.requires) in
    rw none (
      λ some. absurd (false≢true some),
      λ fits.
          sym c.if-has_room.false ∙ c.has_room.ensures.1 (omega (arith, fits, allocated_words g.B.Segment c.args.self.now)),
    )
