use Rattle.std.proofs.Common.{◌≡◌, ℕ, List, ◌++◌, drop, map}
use Rattle.capnp_show.specs.Numbers.{flat_numbers, number_text}
use Rattle.capnp_show.proofs.Pieces.{pieces}
use Rattle.capnp_show.proofs.show.text.Text.push_each_number.Given as goal

abbrev pub invariant-loop-i : goal.invariant-loop-i
invariant-loop-i l =
    let numbers : List ℕ = flat_numbers l.start l.size l.count in
    l.self.bytes.items ++ pieces l.i (map (number_text l.size) (drop l.i numbers))
    ≡ l.initial.self.bytes.items ++ pieces 0 (map (number_text l.size) numbers)
