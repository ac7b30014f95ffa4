use Rattle.std.proofs.Common.{◌≡◌, ◌<◌, None, Some, length, rules}
use Rattle.std.specs.List.{after_first, before_first, position_or_len}
use Rattle.capnp_streams.specs.Paths.{index_of, is_dot, path_with}
use Rattle.capnp_streams.proofs.PathLemmas.{parsed_last, parsed_off, parsed_on, shorter_behind}
use Rattle.capnp_streams.proofs.streams.path.parse_path.Goals as goal

pub returns-in_default-with_parsed_index : goal.returns-in_default-with_parsed_index
returns-in_default-with_parsed_index c =
    let less : position_or_len is_dot c.loop-first.rest.now < length c.loop-first.rest.now = search rules in
    let front : c.in-Some.first.now ≡ before_first is_dot c.loop-first.rest.now = search rules in
    let behind : c.in-Some.more.now ≡ after_first is_dot c.loop-first.rest.now = search rules in
    let none : None ≡ path_with (index_of c.in-Some.first.now) c.loop-first.path = search rules in
    parsed_off c.loop-first.path c.loop-first.rest.now c.in-Some.first.now c.in-Some.more.now c.loop-first.invariant.same (less, front, behind) none

pub loop-first-smaller : goal.loop-first-smaller
loop-first-smaller c =
    let less : position_or_len is_dot c.loop-first.rest.now < length c.loop-first.rest.now = search rules in
    let behind : c.in-Some.more.now ≡ after_first is_dot c.loop-first.rest.now = search rules in
    shorter_behind c.loop-first.rest.now c.in-Some.more.now less behind

pub loop-first-preserved : goal.loop-first-preserved
loop-first-preserved c =
    let less : position_or_len is_dot c.loop-first.rest.now < length c.loop-first.rest.now = search rules in
    let front : c.in-Some.first.now ≡ before_first is_dot c.loop-first.rest.now = search rules in
    let behind : c.in-Some.more.now ≡ after_first is_dot c.loop-first.rest.now = search rules in
    let made : Some c.in-Some-with_parsed_index.longer ≡ path_with (index_of c.in-Some.first.now) c.loop-first.path = search rules in
    record {
      same = parsed_on c.loop-first.path c.loop-first.rest.now c.in-Some.first.now c.in-Some.more.now c.loop-first.invariant.same (less, front, behind) made;
      text = search rules;
    }

pub returns : goal.returns
returns c =
    let none : position_or_len is_dot c.loop-first.rest.now ≡ length c.loop-first.rest.now = search rules in
    let last = parsed_last c.loop-first.path c.loop-first.rest.now c.loop-first.invariant.same none in
    rw c.with_parsed_index-2.ensures last
