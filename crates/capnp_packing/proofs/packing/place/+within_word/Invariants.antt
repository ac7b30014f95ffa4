use Rattle.capnp_packing.proofs.packing.place.+within_word.Given as goal

abbrev pub decreases-within_word : goal.decreases-within_word
decreases-within_word l = l.left
