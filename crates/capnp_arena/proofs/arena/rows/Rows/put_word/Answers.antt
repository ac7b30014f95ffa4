use Rattle.std.proofs.Common.{◌<◌, ◌-◌, suc, length, set, sym, subst, arith}
use Rattle.capnp_format.specs.Bytes.{message}
use Rattle.capnp_format.specs.Segments.{segment}
use Rattle.capnp_arena.specs.Row.{shown}
use Rattle.capnp_arena.proofs.ListedLemmas.{first_kept, first_there, first_used, first_written, other_inside, others_bounded, others_few, others_rewritten}
use Rattle.capnp_arena.proofs.arena.rows.Rows.put_word.Goals as goal

pub put_word-requires : goal.put_word-requires
put_word-requires g c =
    let seg = g.S.Segment in
    let b = c.args.self.now in
    omega (arith, c.requires, first_used seg b.there b.first b.others.items c.args.id c.if-id-eq0.true (first_there seg b.there b.first b.others.items c.args.id c.args.at c.requires))

pub put_word_in-requires : goal.put_word_in-requires
put_word_in-requires g c =
    let seg = g.S.Segment in
    let b = c.args.self.now in
    let some : 0 < c.args.id = omega (arith, c.if-id-eq0.false) in
    subst (λ rows. c.args.at < length (segment (message (shown seg rows)) (c.args.id - 1))) (sym c.deref_mut.ensures.value) (other_inside seg b.there b.first b.others.items c.args.id (suc c.args.at) b.few some c.requires)

pub invariant_of-self-else-id-eq0-clause-few : goal.invariant_of-self-else-id-eq0-clause-few
invariant_of-self-else-id-eq0-clause-few g c =
    others_few g.S.Segment c.args.self.now.others _ _ _ c.deref_mut.ensures.value c.put_word_in.ensures.kept.many c.args.self.now.few

pub invariant_of-self-else-id-eq0-clause-bounded : goal.invariant_of-self-else-id-eq0-clause-bounded
invariant_of-self-else-id-eq0-clause-bounded g c =
    others_bounded g.S.Segment c.args.self.now.others _ _ c.deref_mut.ensures.value c.put_word_in.ensures.kept.many c.put_word_in.ensures.kept.bounded c.args.self.now.bounded

pub returns-then-id-eq0 : goal.returns-then-id-eq0
returns-then-id-eq0 g c =
    let seg = g.S.Segment in
    let b = c.args.self.now in
    let there = first_there seg b.there b.first b.others.items c.args.id c.args.at c.requires in
    record {
      words = first_written seg (λ ws. set ws c.args.at c.args.word) b.there b.first c.put_word.new.self b.others.items c.args.id c.if-id-eq0.true there c.put_word.ensures.words;
      room = first_kept seg b.there b.first c.put_word.new.self b.others.items c.put_word.ensures.capacity;
    }

pub returns-else-id-eq0 : goal.returns-else-id-eq0
returns-else-id-eq0 g c =
    let b = c.args.self.now in
    others_rewritten g.S.Segment b.there b.first b.others _ _ c.args.id (λ ws. set ws c.args.at c.args.word) b.few c.deref_mut.ensures.value (omega (arith, c.if-id-eq0.false)) c.put_word_in.ensures
