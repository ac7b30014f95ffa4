use Rattle.std.proofs.Common.{arith, inl, sym, ap, ◌∙◌}
use Rattle.std.proofs.lemmas.Bool.{false≢true}
use Rattle.capnp_format.specs.Segments.{Segments}
use Rattle.capnp_arena_traits.specs.View.{View}
use Rattle.capnp_lent_arena.proofs.LentArenaSteps.{grown, first_is, fits_room, not_full}
use Rattle.capnp_lent_arena.proofs.lent_arena.LentArenaBuilderArena.allocate_anywhere.Goals as goal

pub returns-then-has_room-clause-taken : goal.returns-then-has_room-clause-taken
returns-then-has_room-clause-taken g c =
    let e = c.allocate_fitting-at.ensures in
    let h = grown g.B.Segment g.B.LentBytes.name c.args.self.now c.allocate_fitting-at.new.self c.args.amount c.allocate_fitting-at.result 0
    (omega arith) e.at e.words e.refused e.same_reference e.length in
    let ws : View → Segments = λ v. v.words in
    inl (omega arith, h.0, ap ws h.1)

pub returns-then-has_room-clause-first : goal.returns-then-has_room-clause-first
returns-then-has_room-clause-first g c k fit =
    let e = c.allocate_fitting-at.ensures in
    let is = first_is g.B.Segment g.B.LentBytes.name c.args.self.now c.args.amount k fit in (
      sym is,
      grown g.B.Segment g.B.LentBytes.name c.args.self.now c.allocate_fitting-at.new.self c.args.amount c.allocate_fitting-at.result k
          (omega (arith, is)) e.at e.words e.refused e.same_reference e.length,
    )

pub returns-then-has_room-clause-another : goal.returns-then-has_room-clause-another
returns-then-has_room-clause-another g c full =
    absurd (not_full g.B.Segment g.B.LentBytes.name c.args.self.now c.args.amount (c.has_room.ensures.0 c.if-has_room.true) full)

pub returns-clause-first : goal.returns-clause-first
returns-clause-first g c k fit =
    false≢true (sym c.if-has_room.false ∙ c.has_room.ensures.1 (fits_room g.B.Segment g.B.LentBytes.name c.args.self.now c.args.amount k fit))
