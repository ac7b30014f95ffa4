use Rattle.std.proofs.lemmas.Bool.{false≢true}
use Rattle.capnp_format.specs.Bytes.{message}
use Rattle.capnp_format.specs.Segments.{segment}
use Rattle.capnp_arena.specs.Row.{capacity_at, shown}
use Rattle.std.proofs.Common.{arith, ◌++◌, ◌<◌, ◌-◌, replicate, length, refl, sym, ap, ◌∙◌, subst}
use Rattle.capnp_arena.proofs.ListedLemmas.{others_allocated, others_kept, others_same, first_kept, first_room, first_used, first_written, other_room, other_words, others_bounded, others_few, other_there}
use Rattle.capnp_arena.proofs.arena.rows.Rows.allocate.Goals as goal

pub returns-else-id-eq0-clause-taken : goal.returns-else-id-eq0-clause-taken
returns-else-id-eq0-clause-taken g c =
    others_allocated g.S.Segment c.args.self.now.there c.args.self.now.first c.args.self.now.others _ _ c.args.id c.args.amount c.allocate_in.result c.args.self.now.few c.deref_mut.ensures.value c.allocate_in.ensures.kept.many (omega (arith, c.if-id-eq0.false))
    c.allocate_in.ensures.taken

pub returns-else-id-eq0-clause-none : goal.returns-else-id-eq0-clause-none
returns-else-id-eq0-clause-none g c none =
    others_same g.S.Segment c.args.self.now.there c.args.self.now.first c.args.self.now.others _ _ c.deref_mut.ensures.value c.allocate_in.ensures.kept.many (c.allocate_in.ensures.none none)

pub returns-else-id-eq0-clause-room : goal.returns-else-id-eq0-clause-room
returns-else-id-eq0-clause-room g c =
    others_kept g.S.Segment c.args.self.now.there c.args.self.now.first c.args.self.now.others _ _ c.deref_mut.ensures.value c.allocate_in.ensures.kept.many c.allocate_in.ensures.kept.room

pub returns-then-has_room-clause-exactly : goal.returns-then-has_room-clause-exactly
returns-then-has_room-clause-exactly g c =
    let seg = g.S.Segment in
    let b = c.args.self.now in
    let used = first_used seg b.there b.first b.others.items c.args.id c.if-id-eq0.true c.requires in
    let room = first_room seg b.there b.first b.others.items c.args.id c.if-id-eq0.true c.requires in
    (λ some. omega (arith, used, room, c.has_room.ensures.0 c.if-has_room.true), λ fits. refl)

pub returns-then-has_room-clause-taken : goal.returns-then-has_room-clause-taken
returns-then-has_room-clause-taken g c =
    let seg = g.S.Segment in
    let b = c.args.self.now in
    (c.allocate_fitting.ensures.at ∙ sym (first_used seg b.there b.first b.others.items c.args.id c.if-id-eq0.true c.requires), first_written seg (λ ws. ws ++ replicate c.args.amount 0) b.there b.first c.allocate_fitting.new.self b.others.items c.args.id c.if-id-eq0.true c.requires c.allocate_fitting.ensures.taken)

pub returns-then-has_room-clause-none : goal.returns-then-has_room-clause-none
returns-then-has_room-clause-none g c none =
    absurd (false≢true (sym none))

pub returns-then-has_room-clause-room : goal.returns-then-has_room-clause-room
returns-then-has_room-clause-room g c =
    let seg = g.S.Segment in
    let b = c.args.self.now in
    first_kept seg b.there b.first c.allocate_fitting.new.self b.others.items c.allocate_fitting.ensures.capacity

pub returns-else-has_room-clause-exactly : goal.returns-else-has_room-clause-exactly
returns-else-has_room-clause-exactly g c =
    let seg = g.S.Segment in
    let b = c.args.self.now in
    let used = first_used seg b.there b.first b.others.items c.args.id c.if-id-eq0.true c.requires in
    let room = first_room seg b.there b.first b.others.items c.args.id c.if-id-eq0.true c.requires in
    (λ some. absurd (false≢true some), λ fits. sym c.if-has_room.false ∙ c.has_room.ensures.1 (omega (arith, used, room, fits)))

pub returns-else-id-eq0-clause-exactly : goal.returns-else-id-eq0-clause-exactly
returns-else-id-eq0-clause-exactly g c =
    let seg = g.S.Segment in
    let b = c.args.self.now in
    let some : 0 < c.args.id = omega (arith, c.if-id-eq0.false) in
    let words = ap (λ rows. length (segment (message (shown seg rows)) (c.args.id - 1))) c.deref_mut.ensures.value ∙ sym (ap length (other_words seg b.there b.first b.others.items c.args.id b.few some)) in
    let room = ap (λ rows. capacity_at seg rows (c.args.id - 1)) c.deref_mut.ensures.value ∙ sym (other_room seg b.there b.first b.others.items c.args.id b.few some) in
    (λ found. omega (arith, words, room, c.allocate_in.ensures.exactly.0 found), λ fits. c.allocate_in.ensures.exactly.1 (omega (arith, words, room, fits)))

pub invariant_of-self-else-id-eq0-clause-few : goal.invariant_of-self-else-id-eq0-clause-few
invariant_of-self-else-id-eq0-clause-few g c =
    others_few g.S.Segment c.args.self.now.others _ _ _ c.deref_mut.ensures.value c.allocate_in.ensures.kept.many c.args.self.now.few

pub invariant_of-self-else-id-eq0-clause-bounded : goal.invariant_of-self-else-id-eq0-clause-bounded
invariant_of-self-else-id-eq0-clause-bounded g c =
    others_bounded g.S.Segment c.args.self.now.others _ _ c.deref_mut.ensures.value c.allocate_in.ensures.kept.many c.allocate_in.ensures.kept.bounded c.args.self.now.bounded

pub allocate_in-requires : goal.allocate_in-requires
allocate_in-requires g c =
    let b = c.args.self.now in
    subst (λ rows. c.args.id - 1 < length rows) (sym c.deref_mut.ensures.value) (other_there g.S.Segment b.there b.first b.others.items c.args.id (omega (arith, c.if-id-eq0.false)) c.requires)

pub allocate_fitting-requires : goal.allocate_fitting-requires
allocate_fitting-requires g c =
    c.has_room.ensures.0 c.if-has_room.true

pub returns-else-has_room-clause-taken : goal.returns-else-has_room-clause-taken
returns-else-has_room-clause-taken g c =
    tt

pub returns-else-has_room-clause-none : goal.returns-else-has_room-clause-none
returns-else-has_room-clause-none g c =
    λ _. refl

pub returns-else-has_room-clause-room : goal.returns-else-has_room-clause-room
returns-else-has_room-clause-room g c =
    refl
