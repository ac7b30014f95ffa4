use Rattle.std.proofs.Common.{take, drop, eqb-true, eq-eqb}
use Rattle.capnp_words.proofs.LaneLemmas.{all_or}
use Rattle.capnp_words.proofs.lanes.is_block_zero.Goals as goal

pub returns : goal.returns
returns c =
    let f = all_or (take 64 (drop c.args.at c.args.bytes.now)) in
    ((λ t. f.0 (eqb-true _ 0 t)), (λ a. eq-eqb _ 0 (f.1 a)))
