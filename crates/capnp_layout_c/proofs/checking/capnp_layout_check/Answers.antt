use Rattle.std.proofs.Common.{◌≡◌, ◌+◌, ◌-◌, ap, arith, refl, w32}
use Rattle.std.proofs.lemmas.Bool.{false≢true}
use Rattle.std.proofs.lemmas.Int.{to_z-of_z}
use Rattle.capnp_layout_c.specs.Lent.{lent, words_left}
use Rattle.capnp_layout_c.proofs.CheckedRoots.{taken}
use Rattle.capnp_layout_c.proofs.Unlimited.{stays}
use Rattle.capnp_layout_c.proofs.checking.capnp_layout_check.Goals as goal

pub returns-in-Ok-clause-exactly : goal.returns-in-Ok-clause-exactly
returns-in-Ok-clause-exactly c = ((λ zero. (rw (to_z-of_z w32 c.args.nesting c.ranges.nesting, c.new-lim.ensures) at c.in-Ok.ensures.exactly).0 refl), (λ w. refl))

pub returns-in-Ok-clause-takes : goal.returns-in-Ok-clause-takes
returns-in-Ok-clause-takes c = λ t k means zero.
    let conforms = rw (to_z-of_z w32 c.args.nesting c.ranges.nesting, c.new-lim.ensures) at c.in-Ok.ensures.exactly in
    let spent = rw c.new-lim.ensures at (c.in-Ok.ensures.spent t k (rw (to_z-of_z w32 c.args.nesting c.ranges.nesting) means)) in
    stays c.args.left.now c.store_left.new.left (1 + k) c.check_root-found.new.lim.left c.store_left.ensures
    (omega (arith, taken c.args.table.now c.args.row (lent c.args.segments.now.list.now) c.args.nesting c.args.left.now t k (conforms.0 refl) means, ap words_left spent))

pub returns-in-Err-clause-exactly : goal.returns-in-Err-clause-exactly
returns-in-Err-clause-exactly c =
    let conforms = rw (to_z-of_z w32 c.args.nesting c.ranges.nesting, c.new-lim.ensures) at c.in-Err.ensures.exactly in
    ((λ zero. absurd (omega (arith, zero, c.layout_number.ensures.some))), (λ w. absurd (false≢true (conforms.1 w))))

pub returns-in-Err-clause-refused : goal.returns-in-Err-clause-refused
returns-in-Err-clause-refused c = λ some. record {
  misfit = c.in-Err.refusal;
  left = c.check_root-found.new.lim;
  refused = rw (to_z-of_z w32 c.args.nesting c.ranges.nesting, c.new-lim.ensures) at c.in-Err.ensures.walk;
  numbered = c.layout_number.ensures.number;
  leaves = c.store_left.ensures;
  segment_is = refl;
  word_is = refl;
  row_is = refl;
  index_is = refl;
}
