use Rattle.std.proofs.Common.{ap, arith, le_antisymm, length, refl, subst, ℕ, ◌*◌, ◌+◌, ◌<◌, ◌≡◌}
use Rattle.capnp_format.specs.Segments.{Segments, segment}
use Rattle.capnp_words.specs.Sizes.{size_number}
use Rattle.capnp_allocation.proofs.Memory.{limits_again, limits_written, words_in}
use Rattle.capnp_in_place.proofs.WiderObjects.NumberListBySteps.{first_numbers_of, in_words, no_numbers_copied, numbers_copied_next}
use Rattle.capnp_in_place.proofs.WiderObjects.RowsInside.{next_row, start_inside, step_fits}
use Rattle.capnp_allocation.proofs.WordsInside.{first_place}
use Rattle.capnp_in_place.specs.RowsRemade.{AreNumbersCopied}
use Rattle.capnp_in_place.proofs.number_lists.copy_numbers.Goals as goal

-- A row starts within the words of its segment, and the next one a step after it.
pub overflow_add-place : goal.overflow_add-place
overflow_add-place g c =
    let now = c.args.arena.now in
    record {
      fits = step_fits c.args.to.at c.args.step c.args.old.count c.loop-i.i c.loop-i.place _ _
          c.requires.to c.loop-i-test.true c.loop-i.invariant.place_at
          (g.met.A.BuilderArena.within now c.args.to.segment)
          (g.met.A.BuilderArena.small now c.args.to.segment);
    }

-- One of the rows is inside the words of all.
pub set_word-requires : goal.set_word-requires
set_word-requires g c =
    start_inside c.args.to.at c.args.step c.args.old.count c.loop-i.i c.loop-i.place _ _ c.requires.to
    c.requires.some c.loop-i-test.true c.loop-i.invariant.place_at
    (c.loop-i.invariant.copied.words c.args.to.segment)

pub loop-i-init : goal.loop-i-init
loop-i-init g c =
    record {
      copied = no_numbers_copied (g.A.BuilderArena.view c.args.arena.now).words c.args.old (record { segment = c.args.to.segment; at = c.args.to.at; step = c.args.step });
      place_at = first_place c.args.to.at c.args.step;
      limits = refl;
    }

-- One more number.
pub loop-i-preserved : goal.loop-i-preserved
loop-i-preserved g c =
    let S : Segments = (g.A.BuilderArena.view c.args.arena.now).words in
    let M : Segments = (g.A.BuilderArena.view c.loop-i.arena).words in
    let R : Segments = (g.A.BuilderArena.view c.set_word.new.arena).words in
    let i : ℕ = c.loop-i.i in
    let inner = in_words (size_number c.args.old.size) i c.args.old.count c.requires.kind.0 c.requires.kind.1 c.loop-i-test.true in
    let inside : c.args.to.at + i * c.args.step < length (segment M c.args.to.segment) =
    start_inside c.args.to.at c.args.step c.args.old.count i (c.args.to.at + i * c.args.step) _ _
    c.requires.to c.requires.some
    c.loop-i-test.true refl (c.loop-i.invariant.copied.words c.args.to.segment) in
    record {
      copied = numbers_copied_next S M R c.args.old (record { segment = c.args.to.segment; at = c.args.to.at; step = c.args.step }) i c.number_at-number.result c.loop-i.invariant.copied (λ e. omega (arith, c.requires.apart e, inner)) c.requires.some inside
          (rw c.loop-i.invariant.place_at at (ap words_in c.set_word.ensures)) c.number_at-number.ensures;
      place_at = next_row c.args.to.at c.args.step i c.loop-i.place c.loop-i.invariant.place_at;
      limits = limits_again (g.A.BuilderArena.view c.args.arena.now) (g.A.BuilderArena.view c.loop-i.arena)
          (g.A.BuilderArena.view c.set_word.new.arena) c.loop-i.invariant.limits
          (limits_written (g.A.BuilderArena.view c.loop-i.arena) (g.A.BuilderArena.view c.set_word.new.arena) _
          c.set_word.ensures);
    }

pub returns-clause-copied : goal.returns-clause-copied
returns-clause-copied g c =
    let all : c.loop-i.i ≡ c.args.old.count = le_antisymm c.loop-i.auto.i-end c.loop-i-test.false in
    subst (λ n. AreNumbersCopied (g.A.BuilderArena.view c.args.arena.now).words (g.A.BuilderArena.view c.loop-i.arena).words (first_numbers_of c.args.old n) (record { segment = c.args.to.segment; at = c.args.to.at; step = c.args.step })) all
    c.loop-i.invariant.copied
