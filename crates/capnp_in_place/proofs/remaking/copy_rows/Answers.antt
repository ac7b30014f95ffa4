use Rattle.std.proofs.Common.{◌≡◌, refl, sym, subst, le_antisymm, le_of_eq}
use Rattle.capnp_format.specs.Segments.{Segments}
use Rattle.capnp_allocation.proofs.Memory.{limits_again}
use Rattle.capnp_in_place.proofs.WiderObjects.RowsInside.{next_row, step_inside, step_fits, steps_apart}
use Rattle.capnp_allocation.proofs.WordsInside.{first_place}
use Rattle.capnp_in_place.proofs.WiderObjects.RowsCopied.{no_words_copied, no_rows_copied, rows_copied_next}
use Rattle.capnp_in_place.proofs.WiderObjects.Statements.{CopiedRows}
use Rattle.capnp_in_place.proofs.remaking.copy_rows.Goals as goal

pub returns-then-words-eq0-clause-copied : goal.returns-then-words-eq0-clause-copied
returns-then-words-eq0-clause-copied g c =
    let S : Segments = (g.A.BuilderArena.view c.args.arena.now).words in
    let none : c.args.words ≡ 0 = c.if-words-eq0.true in
    subst (λ d. CopiedRows S S c.args.from.segment c.args.from.at c.args.from.step c.args.to.segment c.args.to.at c.args.to.step d c.args.count) (sym none)
    (no_words_copied S c.args.from.segment c.args.from.at c.args.from.step c.args.to.segment c.args.to.at c.args.to.step c.args.count)

-- A row starts within the words of its segment, and the next one a step after it.
pub overflow_add-source : goal.overflow_add-source
overflow_add-source g c =
    let now = c.args.arena.now in
    record {
      fits = step_fits c.args.from.at c.args.from.step c.args.count c.loop-i.i c.loop-i.source _ _
          c.requires.from c.loop-i-test.true c.loop-i.invariant.source_at
          (g.met.A.BuilderArena.within now c.args.from.segment)
          (g.met.A.BuilderArena.small now c.args.from.segment);
    }

pub overflow_add-place : goal.overflow_add-place
overflow_add-place g c =
    let now = c.args.arena.now in
    record {
      fits = step_fits c.args.to.at c.args.to.step c.args.count c.loop-i.i c.loop-i.place _ _
          c.requires.to c.loop-i-test.true c.loop-i.invariant.place_at
          (g.met.A.BuilderArena.within now c.args.to.segment)
          (g.met.A.BuilderArena.small now c.args.to.segment);
    }

-- One of the rows is inside the words of all.
pub copy_words-requires-clause-inside : goal.copy_words-requires-clause-inside
copy_words-requires-clause-inside g c = record {
  from = (step_inside c.args.from.at c.args.from.step c.args.words c.args.count c.loop-i.i c.loop-i.source _ _
      c.requires.from c.requires.within.0 c.loop-i-test.true c.loop-i.invariant.source_at
      (le_of_eq (sym (c.loop-i.invariant.copied.words c.args.from.segment))));
  to = (step_inside c.args.to.at c.args.to.step c.args.words c.args.count c.loop-i.i c.loop-i.place _ _
      c.requires.to c.requires.within.1 c.loop-i-test.true c.loop-i.invariant.place_at
      (le_of_eq (sym (c.loop-i.invariant.copied.words c.args.to.segment))));
}

pub copy_words-requires-clause-apart : goal.copy_words-requires-clause-apart
copy_words-requires-clause-apart g c = λ same.
    steps_apart c.args.from.at c.args.from.step c.args.words c.args.count c.loop-i.i c.loop-i.source
    c.args.to.at
    c.args.to.step c.loop-i.place (c.requires.apart same) c.requires.within.0 c.loop-i-test.true
    c.loop-i.invariant.source_at c.loop-i.invariant.place_at

pub loop-i-init : goal.loop-i-init
loop-i-init g c =
    let S : Segments = (g.A.BuilderArena.view c.args.arena.now).words in
    record {
      copied = no_rows_copied S c.args.from.segment c.args.from.at c.args.from.step c.args.to.segment c.args.to.at c.args.to.step c.args.words;
      source_at = first_place c.args.from.at c.args.from.step;
      place_at = first_place c.args.to.at c.args.to.step;
      limits = refl;
    }

-- One more row.
pub loop-i-preserved : goal.loop-i-preserved
loop-i-preserved g c =
    let S : Segments = (g.A.BuilderArena.view c.args.arena.now).words in
    let M : Segments = (g.A.BuilderArena.view c.loop-i.arena).words in
    let R : Segments = (g.A.BuilderArena.view c.copy_words.new.arena).words in
    record {
      copied = rows_copied_next S M R c.args.from.segment c.args.from.at c.args.from.step c.args.to.segment c.args.to.at c.args.to.step c.args.words c.loop-i.i c.args.count c.loop-i.invariant.copied c.requires.apart c.requires.within.0
          c.requires.within.1 c.loop-i-test.true (rw (c.loop-i.invariant.source_at, c.loop-i.invariant.place_at) at c.copy_words.ensures.copied);
      source_at = next_row c.args.from.at c.args.from.step c.loop-i.i c.loop-i.source
          c.loop-i.invariant.source_at;
      place_at = next_row c.args.to.at c.args.to.step c.loop-i.i c.loop-i.place c.loop-i.invariant.place_at;
      limits = limits_again (g.A.BuilderArena.view c.args.arena.now) (g.A.BuilderArena.view c.loop-i.arena)
          (g.A.BuilderArena.view c.copy_words.new.arena) c.loop-i.invariant.limits
          c.copy_words.ensures.limits;
    }

pub returns-clause-copied : goal.returns-clause-copied
returns-clause-copied g c =
    let all : c.loop-i.i ≡ c.args.count = le_antisymm c.loop-i.auto.i-end c.loop-i-test.false in
    subst (λ n. CopiedRows (g.A.BuilderArena.view c.args.arena.now).words (g.A.BuilderArena.view c.loop-i.arena).words c.args.from.segment c.args.from.at c.args.from.step c.args.to.segment c.args.to.at c.args.to.step c.args.words n) all
    c.loop-i.invariant.copied
