use Rattle.std.proofs.Common.{w32}
use Rattle.std.proofs.lemmas.Int.{to_z-of_z}
use Rattle.capnp_pointers.specs.Reading.{Reading, reading_at}
use Rattle.capnp_pointers.proofs.OneObject.ExpectedBySteps.{expect_read, expect_given}
use Rattle.capnp_pointers.proofs.OneObject.ExpectedAsStated.{given_exactly, expect_refused}
use Rattle.capnp_pointers.proofs.source.Source.read_expected.Goals as goal

pub returns : goal.returns
returns g c =
    let r : Reading = reading_at g.A.ReaderArena c.args.self c.args.place c.args.nesting_limit in
    let read = rw (to_z-of_z w32 c.args.nesting_limit c.ranges.nesting_limit) at c.read_as_expected.ensures in
    record {
      object = expect_read c.args.expected r c.args.lim.now c.read_as_expected.new.lim c.read_as_expected.result read.computed read.held;
      given = expect_given c.args.expected r c.args.lim.now c.read_as_expected.new.lim c.read_as_expected.result read.computed read.held;
      few = read.few;
      exactly = given_exactly c.args.expected r c.args.lim.now c.read_as_expected.new.lim c.read_as_expected.result read.computed;
      refused = expect_refused c.args.expected r c.args.lim.now c.read_as_expected.new.lim c.read_as_expected.result read.computed;
    }
