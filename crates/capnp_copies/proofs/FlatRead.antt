-- Results that hold by what they are made of; and the number of words that a list of numbers takes.
use Rattle.std.proofs.Common.{◌≡◌, ℕ, List, ap}
use Rattle.capnp_format.specs.Numbers.{words_for, unpacked}
use Rattle.capnp_format.specs.Tree.{Flat}
use Rattle.capnp_format.specs.Canonical.{trim, word_count}
use Rattle.capnp_format.proofs.Digits.{length-digits}

-- Numbers.

pub word_count-flat : (size i : ℕ) (ws : List ℕ) → word_count (trim (Flat size (unpacked size i ws))) ≡ words_for size i
word_count-flat size i ws = ap (words_for size) (length-digits _ i _)
