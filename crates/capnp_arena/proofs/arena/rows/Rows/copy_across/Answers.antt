use Rattle.std.proofs.Common.{◌≡◌, ◌-◌, ◌<◌, length, take, drop, sym, ap, ap₂, ◌∙◌, arith, ◌+◌, ◌≤◌, subst}
use Rattle.capnp_format.specs.Bytes.{words_of, message}
use Rattle.capnp_format.specs.Segments.{segment}
use Rattle.capnp_arena.specs.Row.{allocated, shown}
use Rattle.capnp_arena.specs.Rows.{all}
use Rattle.capnp_arena_traits.specs.Written.{overwritten, with_copied, with_segment}
use Rattle.capnp_arena.proofs.RowsLemmas.{row_is, row_old}
use Rattle.capnp_arena.proofs.ListedLemmas.{first_words, first_changed, other_there, other_words, others_bounded, others_few, others_kept, others_written, first_kept, first_inside, other_inside}
use Rattle.capnp_arena.proofs.arena.rows.Rows.copy_across.Goals as goal

-- the row that is read comes after the first
pub copy_from-requires-clause-there : goal.copy_from-requires-clause-there
copy_from-requires-clause-there g c =
    let seg = g.S.Segment in
    let b = c.args.self.now in
    let some : 0 < c.args.from.segment = omega (arith, c.if-from-eq0.false) in
    let there : c.args.from.segment - 1 < length b.others.items = other_there seg b.there b.first b.others.items c.args.from.segment some c.requires.rows.0 in
    omega (arith, c.requires.there, ap length (other_words seg b.there b.first b.others.items c.args.from.segment b.few some), row_old seg b.others.items (c.args.from.segment - 1) c.index.result.now there c.index.ensures)

pub invariant_of-self : goal.invariant_of-self
invariant_of-self g c =
    let seg = g.S.Segment in
    let b = c.args.self.now in
    let is = c.deref_mut.ensures.value in
    let h = c.copy_in.ensures.kept in
    record {
      few = others_few seg b.others _ _ _ is h.many b.few;
      bounded = others_bounded seg b.others _ _ is h.many h.bounded b.bounded;
    }

pub invariant_of-self-then-to-eq0 : goal.invariant_of-self-then-to-eq0
invariant_of-self-then-to-eq0 g c = record { few = c.args.self.now.few; bounded = c.args.self.now.bounded }

pub copy_across_in-requires-clause-apart : goal.copy_across_in-requires-clause-apart
copy_across_in-requires-clause-apart g c = λ same. c.requires.apart (omega (arith, same, c.if-from-eq0.false, c.if-to-eq0.false))

pub invariant_of-self-else-to-eq0-clause-few : goal.invariant_of-self-else-to-eq0-clause-few
invariant_of-self-else-to-eq0-clause-few g c =
    others_few g.S.Segment c.args.self.now.others _ _ _ c.deref_mut-else-to-eq0.ensures.value c.copy_across_in.ensures.kept.many c.args.self.now.few

pub invariant_of-self-else-to-eq0-clause-bounded : goal.invariant_of-self-else-to-eq0-clause-bounded
invariant_of-self-else-to-eq0-clause-bounded g c =
    others_bounded g.S.Segment c.args.self.now.others _ _ c.deref_mut-else-to-eq0.ensures.value c.copy_across_in.ensures.kept.many c.copy_across_in.ensures.kept.bounded c.args.self.now.bounded

pub copy_from-requires-clause-inside : goal.copy_from-requires-clause-inside
copy_from-requires-clause-inside g c =
    let seg = g.S.Segment in
    let b = c.args.self.now in
    first_inside seg b.there b.first b.others.items c.args.to.segment (c.args.to.at + c.args.n) c.if-to-eq0.true c.requires.rows.1 c.requires.inside

pub copy_in-requires-clause-there : goal.copy_in-requires-clause-there
copy_in-requires-clause-there g c =
    let seg = g.S.Segment in
    let b = c.args.self.now in
    first_inside seg b.there b.first b.others.items c.args.from.segment (c.args.from.at + c.args.n) c.if-from-eq0.true c.requires.rows.0 c.requires.there

pub copy_in-requires-clause-row : goal.copy_in-requires-clause-row
copy_in-requires-clause-row g c =
    let seg = g.S.Segment in
    let b = c.args.self.now in
    let some : 0 < c.args.to.segment = omega (arith, c.requires.apart, c.if-from-eq0.true) in
    subst (λ rows. c.args.to.segment - 1 < length rows) (sym c.deref_mut.ensures.value) (other_there seg b.there b.first b.others.items c.args.to.segment some c.requires.rows.1)

pub copy_in-requires-clause-inside : goal.copy_in-requires-clause-inside
copy_in-requires-clause-inside g c =
    let seg = g.S.Segment in
    let b = c.args.self.now in
    let some : 0 < c.args.to.segment = omega (arith, c.requires.apart, c.if-from-eq0.true) in
    subst (λ rows. c.args.to.at + c.args.n ≤ length (segment (message (shown seg rows)) (c.args.to.segment - 1))) (sym c.deref_mut.ensures.value) (other_inside seg b.there b.first b.others.items c.args.to.segment (c.args.to.at + c.args.n) b.few some c.requires.inside)

pub copy_across_in-requires-clause-there : goal.copy_across_in-requires-clause-there
copy_across_in-requires-clause-there g c =
    let seg = g.S.Segment in
    let b = c.args.self.now in
    let some : 0 < c.args.from.segment = omega (arith, c.if-from-eq0.false) in
    subst (λ rows. c.args.from.at + c.args.n ≤ length (segment (message (shown seg rows)) (c.args.from.segment - 1))) (sym c.deref_mut-else-to-eq0.ensures.value) (other_inside seg b.there b.first b.others.items c.args.from.segment (c.args.from.at + c.args.n) b.few some c.requires.there)

pub copy_across_in-requires-clause-inside : goal.copy_across_in-requires-clause-inside
copy_across_in-requires-clause-inside g c =
    let seg = g.S.Segment in
    let b = c.args.self.now in
    let some : 0 < c.args.to.segment = omega (arith, c.if-to-eq0.false) in
    subst (λ rows. c.args.to.at + c.args.n ≤ length (segment (message (shown seg rows)) (c.args.to.segment - 1))) (sym c.deref_mut-else-to-eq0.ensures.value) (other_inside seg b.there b.first b.others.items c.args.to.segment (c.args.to.at + c.args.n) b.few some c.requires.inside)

pub index-requires : goal.index-requires
index-requires g c =
    let b = c.args.self.now in
    let there = other_there g.S.Segment b.there b.first b.others.items c.args.from.segment (omega (arith, c.if-from-eq0.false)) c.requires.rows.0 in
    omega (arith, there, b.others.ok.0)

pub copy_across_in-requires-clause-rows : goal.copy_across_in-requires-clause-rows
copy_across_in-requires-clause-rows g c =
    let seg = g.S.Segment in
    let b = c.args.self.now in (
      subst (λ rows. c.args.from.segment - 1 < length rows) (sym c.deref_mut-else-to-eq0.ensures.value) (other_there seg b.there b.first b.others.items c.args.from.segment (omega (arith, c.if-from-eq0.false)) c.requires.rows.0),
      subst (λ rows. c.args.to.segment - 1 < length rows) (sym c.deref_mut-else-to-eq0.ensures.value) (other_there seg b.there b.first b.others.items c.args.to.segment (omega (arith, c.if-to-eq0.false)) c.requires.rows.1),
    )

pub returns-then-from-eq0 : goal.returns-then-from-eq0
returns-then-from-eq0 g c =
    let seg = g.S.Segment in
    let b = c.args.self.now in
    let h = c.copy_in.ensures in
    let read = first_words seg b.there b.first b.others.items c.args.from.segment c.if-from-eq0.true c.requires.rows.0 in
    record {
      words =
          others_written seg b.there b.first b.others _ _ c.args.to.segment (λ xs. overwritten xs c.args.to.at (take c.args.n (drop c.args.from.at (segment (message (shown seg (all seg b))) c.args.from.segment)))) b.few c.deref_mut.ensures.value
          h.kept.many (omega (arith, c.requires.apart, c.if-from-eq0.true))
          (h.words
          ∙ ap (λ ys. with_segment (message (shown seg c.deref_mut.result.now)) (c.args.to.segment - 1) (overwritten (segment (message (shown seg c.deref_mut.result.now)) (c.args.to.segment - 1)) c.args.to.at (take c.args.n (drop c.args.from.at ys))))
          (sym read));
      room = others_kept seg b.there b.first b.others _ _ c.deref_mut.ensures.value h.kept.many h.kept.room;
    }

pub returns-then-to-eq0 : goal.returns-then-to-eq0
returns-then-to-eq0 g c =
    let seg = g.S.Segment in
    let b = c.args.self.now in
    let some : 0 < c.args.from.segment = omega (arith, c.if-from-eq0.false) in
    let there : c.args.from.segment - 1 < length b.others.items = other_there seg b.there b.first b.others.items c.args.from.segment some c.requires.rows.0 in
    let read : segment (message (shown seg (all seg b))) c.args.from.segment ≡ words_of (allocated seg c.index.result.now) =
    other_words seg b.there b.first b.others.items c.args.from.segment b.few some ∙ row_is seg b.others.items (c.args.from.segment - 1) c.index.result.now there c.index.ensures in
    let written : segment (message (shown seg (all seg b))) c.args.to.segment ≡ words_of (allocated seg b.first) = first_words seg b.there b.first b.others.items c.args.to.segment c.if-to-eq0.true c.requires.rows.1 in
    record {
      words =
          first_changed seg b.there b.first c.copy_from.new.self b.others.items c.args.to.segment c.if-to-eq0.true
          ∙ ap (with_segment (message (shown seg (all seg b))) c.args.to.segment) (c.copy_from.ensures.words ∙ ap₂ (λ xs ys. with_copied xs c.args.to.at ys c.args.from.at c.args.n) (sym written) (sym read));
      room = first_kept seg b.there b.first c.copy_from.new.self b.others.items c.copy_from.ensures.capacity;
    }

pub returns-else-to-eq0 : goal.returns-else-to-eq0
returns-else-to-eq0 g c =
    let seg = g.S.Segment in
    let b = c.args.self.now in
    let is = c.deref_mut-else-to-eq0.ensures.value in
    let h = c.copy_across_in.ensures in
    let some : 0 < c.args.from.segment = omega (arith, c.if-from-eq0.false) in
    let read = other_words seg b.there b.first b.others.items c.args.from.segment b.few some in
    record {
      words =
          others_written seg b.there b.first b.others _ _ c.args.to.segment (λ xs. overwritten xs c.args.to.at (take c.args.n (drop c.args.from.at (segment (message (shown seg (all seg b))) c.args.from.segment)))) b.few is
          h.kept.many (omega (arith, c.if-to-eq0.false))
          (h.words
          ∙ ap (λ ys. with_segment (message (shown seg c.deref_mut-else-to-eq0.result.now)) (c.args.to.segment - 1) (overwritten (segment (message (shown seg c.deref_mut-else-to-eq0.result.now)) (c.args.to.segment - 1)) c.args.to.at (take c.args.n (drop c.args.from.at ys))))
          (ap (λ rows. segment (message (shown seg rows)) (c.args.from.segment - 1)) is ∙ sym read));
      room = others_kept seg b.there b.first b.others _ _ is h.kept.many h.kept.room;
    }
