use Rattle.std.proofs.Common.{◌≡◌, ◌+◌, Some, ◌∙◌, refl, sym, ap, arith, w32}
use Rattle.std.proofs.lemmas.Int.{to_z-of_z}
use Rattle.capnp_messages.specs.Messages.{arena_limits}
use Rattle.capnp_refusals.specs.declared.refusals.search.RefusedPointer.{RefusedPointer}
use Rattle.capnp_layout_c.specs.Lent.{lent, words_left}
use Rattle.capnp_layout_c.proofs.Unlimited.{stays}
use Rattle.capnp_layout_c.proofs.ValidatedRoots.{readable, taken, told, unreadable}
use Rattle.capnp_layout_c.proofs.validation.capnp_layout_validate.Goals as goal
use Rattle.capnp_layout_c.proofs.validation.capnp_layout_validate.Goals.{in-Some, in_default-refused_pointer}

pub returns-in_default-clause-exactly : goal.returns-in_default-clause-exactly
returns-in_default-clause-exactly c =
    let read = rw (to_z-of_z w32 c.args.nesting c.ranges.nesting) at c.in_default.ensures in
    (λ zero. readable (lent c.args.segments.now.list.now) (arena_limits c.args.nesting (Some c.args.left.now)) (rw c.new-lim.ensures at read), λ is. refl)

pub returns-in_default-clause-takes : goal.returns-in_default-clause-takes
returns-in_default-clause-takes c = λ t k means zero.
    let read = rw (to_z-of_z w32 c.args.nesting c.ranges.nesting) at c.in_default.ensures in
    let (covered, rest) = taken (lent c.args.segments.now.list.now) (arena_limits c.args.nesting (Some c.args.left.now)) t k (rw c.new-lim.ensures at read) means in
    stays c.args.left.now c.store_left.new.left (1 + k) c.validate_root-found.new.lim.left c.store_left.ensures (omega (arith, covered, ap words_left rest))

pub returns-clause-exactly : goal.returns-clause-exactly
returns-clause-exactly c =
    let read = rw (to_z-of_z w32 c.args.nesting c.ranges.nesting) at c.in-Err.ensures in (
      (λ zero. absurd (omega (arith, zero, c.layout_number.ensures.some))),
      (λ is. absurd (unreadable (lent c.args.segments.now.list.now) (arena_limits c.args.nesting (Some c.args.left.now)) (rw c.new-lim.ensures at read) is)),
    )

pub returns-clause-refused : goal.returns-clause-refused
returns-clause-refused c = λ some.
    let read = rw (to_z-of_z w32 c.args.nesting c.ranges.nesting) at c.in-Err.ensures in
    let search = rw (to_z-of_z w32 c.args.nesting c.ranges.nesting) at c.refused_pointer.ensures in
    let here = rw c.new-lim.ensures at read in
    let (p, is, found) = told (lent c.args.segments.now.list.now) (arena_limits c.args.nesting (Some c.args.left.now)) c.in-Err.kind c.validate_root-found.new.lim c.refused_pointer.new.lim c.refused_pointer.result here (rw c.new-again.ensures at search) in
    elim c.match-refused_pointer.branch [
      | in-Some w ↦
          let same : w.in-Some.pointer ≡ p = (let both = sym w.in-Some.is ∙ is in cc both) in
          let segment : c.match-refused_pointer.segment ≡ p.segment = w.segment-is ∙ ap (λ (q : RefusedPointer). q.segment) same in
          let word : c.match-refused_pointer.word ≡ p.word = w.word-is ∙ ap (λ (q : RefusedPointer). q.word) same in
          record {
            kind = c.in-Err.kind;
            left = c.validate_root-found.new.lim;
            numbered = c.layout_number.ensures.number;
            leaves = c.store_left-2.ensures;
            refused = here;
            found = rw (segment, word) found;
          }
      | in_default-refused_pointer w ↦ absurd (let both = sym w.in_default-refused_pointer.is ∙ is in cc both)
    ]
