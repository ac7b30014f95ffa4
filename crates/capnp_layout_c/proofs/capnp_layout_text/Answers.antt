use Rattle.std.proofs.Common.{Some, arith, refl, w32}
use Rattle.std.proofs.lemmas.Int.{to_z-of_z}
use Rattle.std.proofs.lemmas.Bool.{false≢true}
use Rattle.std.proofs.Common.{sym, subst}
use Rattle.capnp_pointers.specs.Expected.{text_expected}
use Rattle.capnp_pointers.specs.Outcomes.{MeansThere}
use Rattle.capnp_layout_c.specs.Lent.{lent_pointer, words_left}
use Rattle.capnp_layout_c.proofs.OwnPlace.{expected_at, expected_there, refused_at}
use Rattle.capnp_layout_c.proofs.Unlimited.{stays}
use Rattle.capnp_layout_c.proofs.Shown.{bytes_left}
use Rattle.capnp_layout_c.proofs.capnp_layout_text.Goals as goal

pub returns-in-Ok-clause-exactly : goal.returns-in-Ok-clause-exactly
returns-in-Ok-clause-exactly c = ((λ zero. expected_at _ (rw (to_z-of_z w32 c.args.nesting c.ranges.nesting) at c.pointer-pointer.ensures.place) c.new-lim.ensures (c.in-Ok.ensures.exactly.0 refl)), (λ can. refl))

pub returns-in-Ok-clause-value : goal.returns-in-Ok-clause-value
returns-in-Ok-clause-value c = λ t k means zero.
    let x = lent_pointer c.args.segments.now.list.now c.args.segment c.args.word c.args.nesting in (
      c.in-Ok.ensures.value t (record { cost = k; means = subst (λ y. MeansThere y t k) (sym (rw (to_z-of_z w32 c.args.nesting c.ranges.nesting) at c.pointer-pointer.ensures.place)) means }),
      stays c.args.left.now c.store_left.new.left k c.get_text-found.new.lim.left c.store_left.ensures
          (bytes_left _ x text_expected 1 c.in-Ok.bytes.now c.pointer-pointer.result t k (Some c.args.left.now) (words_left c.get_text-found.new.lim.left) c.new-lim.result c.get_text-found.new.lim (rw (to_z-of_z w32 c.args.nesting c.ranges.nesting) at c.pointer-pointer.ensures.place) refl c.new-lim.ensures
          c.in-Ok.ensures.read c.in-Ok.ensures.spent refl means),
    )

pub returns-in-Err-clause-exactly : goal.returns-in-Err-clause-exactly
returns-in-Err-clause-exactly c = (
  (λ zero. absurd (omega (arith, zero, c.layout_number.ensures.some))),
  (λ can. absurd (false≢true (c.in-Err.ensures.exactly.1 (expected_there _ (rw (to_z-of_z w32 c.args.nesting c.ranges.nesting) at c.pointer-pointer.ensures.place) c.new-lim.ensures can)))),
)

pub returns-in-Err-clause-refused : goal.returns-in-Err-clause-refused
returns-in-Err-clause-refused c = λ some. (c.in-Err.kind, c.get_text-found.new.lim, c.layout_number.ensures.number, c.store_left-in-Err.ensures, refused_at _ (rw (to_z-of_z w32 c.args.nesting c.ranges.nesting) at c.pointer-pointer.ensures.place) c.new-lim.ensures c.in-Err.ensures.refused)
