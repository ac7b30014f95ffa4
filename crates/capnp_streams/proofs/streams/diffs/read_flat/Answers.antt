use Rattle.capnp_streams.proofs.DiffStepLemmas.{unsound_stops_flat}
use Rattle.capnp_streams.proofs.streams.diffs.read_flat.Goals as goal

pub returns-in-Some-clause-refused : goal.returns-in-Some-clause-refused
returns-in-Some-clause-refused g c =
    let read = c.in-Ok.ensures.read in
    unsound_stops_flat c.args.limits _ _ _ _ read.bytes c.in-Some.fault (rw c.most_words.ensures at read.bare) read.consumed
    c.in-Ok.ensures.end read.only c.in-Some.ensures.fault
