use Rattle.std.proofs.Common.{w32, rules}
use Rattle.std.proofs.lemmas.Int.{to_z-of_z}
use Rattle.std.proofs.lemmas.Result.{err_from_is_err_and}
use Rattle.capnp_readers.specs.Readers.{read_by}
use Rattle.capnp_readers.proofs.Targets.{read_within}
use Rattle.capnp_readers.proofs.readers.PointerReader.next.Goals as goal

pub target_of-requires : goal.target_of-requires
target_of-requires g c =
    let self = c.args.self.now in
    record { read = (c.args.lim.now, c.read_object.new.lim, read_within (read_by g.A.ReaderArena self) c.args.lim.now c.read_object.new.lim c.in_ok-object.object (search rules) c.in_ok-object.ensures.object) }

pub returns-clause-target : goal.returns-clause-target
returns-clause-target g c =
    let self = c.args.self.now in
    c.target_of.ensures c.args.lim.now c.read_object.new.lim (read_within (read_by g.A.ReaderArena self) c.args.lim.now c.read_object.new.lim c.in_ok-object.object (search rules) c.in_ok-object.ensures.object)

pub returns-in_err-object-clause-refused : goal.returns-in_err-object-clause-refused
returns-in_err-object-clause-refused g c =
    let p = err_from_is_err_and c.from_residual.result c.from_residual.ensures.1 in
    rw (p.1, p.2) (let level = to_z-of_z w32 c.args.self.now.nesting_limit (search rules) in rw level at c.in_err-object.ensures.refused)
