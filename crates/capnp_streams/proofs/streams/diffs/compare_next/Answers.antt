use Rattle.std.proofs.Common.{◌≡◌, true, arith, rules}
use Rattle.capnp_streams.proofs.DiffLemmas.{pairs_one}
use Rattle.capnp_streams.proofs.streams.diffs.compare_next.Goals as goal

pub returns-in-Ok-compare-clause-step : goal.returns-in-Ok-compare-clause-step
returns-in-Ok-compare-clause-step g c =
    let left : c.in-Ok.has ≡ true = search rules in
    let right : c.in-Ok-read_next.has ≡ true = search rules in
    let first = c.in-Ok.ensures.next.read left in
    let second = c.in-Ok-read_next.ensures.next.read right in
    let (text, is, written) = c.in-Ok-compare.ensures.compared in
    pairs_one _ _ first.bytes second.bytes text _ _ (omega arith) c.size_in_bytes.ensures first.framed (c.in-Ok.ensures.next.short left) first.consumed
    (omega arith) c.size_in_bytes-in-Ok-compare.ensures second.framed (c.in-Ok-read_next.ensures.next.short right) second.consumed is written
