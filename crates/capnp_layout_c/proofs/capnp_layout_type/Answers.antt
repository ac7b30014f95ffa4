use Rattle.std.proofs.Common.{pos, subst}
use Rattle.capnp_pointers.specs.Reading.{Reading}
use Rattle.capnp_pointers.specs.Types.{HasNoType}
use Rattle.capnp_words.specs.Meter.{Meter}
use Rattle.capnp_layout_c.specs.Lent.{lent_pointer}
use Rattle.capnp_layout_c.proofs.capnp_layout_type.Goals as goal

pub returns-in-Err-clause-refused : goal.returns-in-Err-clause-refused
returns-in-Err-clause-refused c = λ some. (
  c.in-Err.error,
  c.get_pointer_type-found.new.lim,
  c.layout_number.ensures.number,
  c.store_left.ensures,
  subst (λ (m : Meter). HasNoType (lent_pointer c.args.segments.now.list.now c.args.segment c.args.word (pos 0)) m c.get_pointer_type-found.new.lim c.in-Err.error) c.new-lim.ensures
      (subst (λ (r : Reading). HasNoType r c.new-lim.result c.get_pointer_type-found.new.lim c.in-Err.error) c.pointer-pointer.ensures.place c.in-Err.ensures.refused),
)
