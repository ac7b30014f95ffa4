use Rattle.std.proofs.Common.{◌++◌, ◌<◌, ◌-◌, replicate, length, sym, ap, ◌∙◌, arith, subst}
use Rattle.capnp_format.specs.Bytes.{message}
use Rattle.capnp_format.specs.Segments.{segment}
use Rattle.capnp_arena.specs.Row.{capacity_at, shown}
use Rattle.capnp_arena.proofs.ListedLemmas.{other_room, other_words, first_written, first_kept, first_room, first_used, others_few, others_bounded, others_rewritten, other_there}
use Rattle.capnp_arena.proofs.arena.rows.Rows.allocate_fitting.Goals as goal

pub invariant_of-self-else-id-eq0-clause-few : goal.invariant_of-self-else-id-eq0-clause-few
invariant_of-self-else-id-eq0-clause-few g c =
    others_few g.S.Segment c.args.self.now.others _ _ _ c.deref_mut.ensures.value c.allocate_fitting_in.ensures.taken.kept.many c.args.self.now.few

pub invariant_of-self-else-id-eq0-clause-bounded : goal.invariant_of-self-else-id-eq0-clause-bounded
invariant_of-self-else-id-eq0-clause-bounded g c =
    others_bounded g.S.Segment c.args.self.now.others _ _ c.deref_mut.ensures.value c.allocate_fitting_in.ensures.taken.kept.many c.allocate_fitting_in.ensures.taken.kept.bounded c.args.self.now.bounded

pub allocate_fitting-requires : goal.allocate_fitting-requires
allocate_fitting-requires g c =
    let seg = g.S.Segment in
    let b = c.args.self.now in
    omega (arith, c.requires.fits, first_used seg b.there b.first b.others.items c.args.id c.if-id-eq0.true c.requires.there, first_room seg b.there b.first b.others.items c.args.id c.if-id-eq0.true c.requires.there)

pub returns-then-id-eq0-clause-at : goal.returns-then-id-eq0-clause-at
returns-then-id-eq0-clause-at g c =
    let seg = g.S.Segment in
    let b = c.args.self.now in
    c.allocate_fitting.ensures.at ∙ sym (first_used seg b.there b.first b.others.items c.args.id c.if-id-eq0.true c.requires.there)

pub returns-else-id-eq0-clause-at : goal.returns-else-id-eq0-clause-at
returns-else-id-eq0-clause-at g c =
    let seg = g.S.Segment in
    let b = c.args.self.now in
    let some : 0 < c.args.id = omega (arith, c.if-id-eq0.false) in
    c.allocate_fitting_in.ensures.at ∙ ap (λ rows. length (segment (message (shown seg rows)) (c.args.id - 1))) c.deref_mut.ensures.value ∙ sym (ap length (other_words seg b.there b.first b.others.items c.args.id b.few some))

pub returns-else-id-eq0-clause-taken : goal.returns-else-id-eq0-clause-taken
returns-else-id-eq0-clause-taken g c =
    let b = c.args.self.now in
    others_rewritten g.S.Segment b.there b.first b.others _ _ c.args.id (λ ws. ws ++ replicate c.args.amount 0) b.few c.deref_mut.ensures.value (omega (arith, c.if-id-eq0.false)) c.allocate_fitting_in.ensures.taken

pub returns-then-id-eq0-clause-taken : goal.returns-then-id-eq0-clause-taken
returns-then-id-eq0-clause-taken g c =
    let b = c.args.self.now in
    record {
      words = first_written g.S.Segment (λ ws. ws ++ replicate c.args.amount 0) b.there b.first c.allocate_fitting.new.self b.others.items c.args.id c.if-id-eq0.true c.requires.there c.allocate_fitting.ensures.taken;
      room = first_kept g.S.Segment b.there b.first c.allocate_fitting.new.self b.others.items c.allocate_fitting.ensures.capacity;
    }

pub allocate_fitting_in-requires-clause-there : goal.allocate_fitting_in-requires-clause-there
allocate_fitting_in-requires-clause-there g c =
    let seg = g.S.Segment in
    let b = c.args.self.now in
    let some : 0 < c.args.id = omega (arith, c.if-id-eq0.false) in
    subst (λ rows. c.args.id - 1 < length rows) (sym c.deref_mut.ensures.value) (other_there seg b.there b.first b.others.items c.args.id some c.requires.there)

pub allocate_fitting_in-requires-clause-fits : goal.allocate_fitting_in-requires-clause-fits
allocate_fitting_in-requires-clause-fits g c =
    let seg = g.S.Segment in
    let b = c.args.self.now in
    let is = c.deref_mut.ensures.value in
    let some : 0 < c.args.id = omega (arith, c.if-id-eq0.false) in
    let words = ap (λ rows. length (segment (message (shown seg rows)) (c.args.id - 1))) is ∙ sym (ap length (other_words seg b.there b.first b.others.items c.args.id b.few some)) in
    let room = ap (λ rows. capacity_at seg rows (c.args.id - 1)) is ∙ sym (other_room seg b.there b.first b.others.items c.args.id b.few some) in
    omega (arith, words, room, c.requires.fits)
