use Rattle.std.proofs.Common.{◌<◌, [], length, take, arith, length-take}
use Rattle.capnp_packing.proofs.WholeLemmas.{none_taken, whole_at_end}
use Rattle.capnp_packing.proofs.packing.unpacking_input.UnpackingInput.is_whole_at_end.Goals as goal

pub returns-then-n-eq0-clause-whole : goal.returns-then-n-eq0-clause-whole
returns-then-n-eq0-clause-whole g c = λ _.
    let room : 0 < length c.unpack.new.to = omega (arith, c.unpack.auto.to) in
    let (zeros, ended) = c.in_ok-n.ensures.end c.if-n-eq0.true room in
    let same = c.is_whole.ensures in
    whole_at_end _ _ _ _ c.is_whole.result c.in_ok-n.ensures.place ended
    (λ yes. (same.0 yes).1, λ tag. same.1 (zeros, tag))

pub returns-then-n-eq0-clause-bytes : goal.returns-then-n-eq0-clause-bytes
returns-then-n-eq0-clause-bytes g c =
    (take c.in_ok-n.n c.unpack.new.to, omega (arith, length-take c.in_ok-n.n c.unpack.new.to, c.unpack.auto.to), c.in_ok-n.ensures.bytes.0)

pub returns-in_err-n-clause-bytes : goal.returns-in_err-n-clause-bytes
returns-in_err-n-clause-bytes g c = ([], omega arith, none_taken _ _ c.in_err-n.ensures.bytes)
