use Rattle.std.proofs.Common.{IsTrue, rules}
use Rattle.capnp_readers.specs.Values.{struct_data}
use Rattle.typed_checking.proofs.Given.{elements_given}
use Rattle.typed_checking.proofs.rows.RowStruct.get_member_numbers.Goals as goal

pub get_numbers-requires : goal.get_numbers-requires
get_numbers-requires g c = λ t shows.
    let are_set : IsTrue c.are_set.result = search rules in
    let set = (c.are_set.ensures t (rw c.checked.ensures.reader at shows)).0 are_set in
    rw (c.checked.ensures.table, c.checked.ensures.row) (elements_given g.S.Schema.table g.row.ROW c.args.members.now (struct_data t) c.args.index g.T.PrimitiveElement.size set c.requires)
