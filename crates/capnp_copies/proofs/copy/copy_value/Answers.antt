use Rattle.capnp_copies.proofs.copy.copy_value.Goals as goal

-- The form of the copy is the requested one.
pub returns : goal.returns
returns g c = rw c.of-form.ensures at c.copy_in_form.ensures
