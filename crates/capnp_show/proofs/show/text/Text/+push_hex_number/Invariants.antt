use Rattle.capnp_show.proofs.show.text.Text.+push_hex_number.Given as goal

abbrev pub decreases-push_hex_number : goal.decreases-push_hex_number
decreases-push_hex_number l = l.n
