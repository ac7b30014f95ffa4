use Rattle.capnp_messages.proofs.text.+write_number.Given as goal

abbrev pub decreases-write_number : goal.decreases-write_number
decreases-write_number g l = l.n
