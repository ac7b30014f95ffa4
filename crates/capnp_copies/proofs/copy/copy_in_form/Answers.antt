use Rattle.capnp_pointers.specs.Pointers.{reading}
use Rattle.capnp_copies.specs.Forms.{form_in}
use Rattle.capnp_copies.proofs.Cleared.{place_left, value_apart, copies_or_clears}
use Rattle.capnp_copies.proofs.copy.copy_in_form.Goals as goal

pub clear_if_refused-requires : goal.clear_if_refused-requires
clear_if_refused-requires g c = place_left _ _ c.copy_object-copied.result c.requires.place c.copy_object-copied.ensures.refused

pub returns : goal.returns
returns g c =
    copies_or_clears c.copy_object-copied.result (value_apart (reading g.B.ReaderArena c.args.from) (form_in c.args.to.form) c.args.lim.now c.copy_object-copied.new.lim) (λ k none. none) (λ P Q f x. (x.0, f _ _ x.1)) c.copy_object-copied.ensures
    c.clear_if_refused.ensures.same c.clear_if_refused.ensures.clears
