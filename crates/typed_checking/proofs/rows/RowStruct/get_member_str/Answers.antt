use Rattle.std.proofs.Common.{IsTrue, rules}
use Rattle.capnp_readers.specs.Values.{struct_data}
use Rattle.typed_conforming.specs.declared.schema.Kind.TheVariants.{Utf8}
use Rattle.typed_checking.proofs.Given.{wanted_given}
use Rattle.typed_checking.proofs.rows.RowStruct.get_member_str.Goals as goal

pub get_str-requires : goal.get_str-requires
get_str-requires g c = λ t shows.
    let are_set : IsTrue c.are_set.result = search rules in
    let set = (c.are_set.ensures t (rw c.checked.ensures.reader at shows)).0 are_set in
    rw (c.checked.ensures.table, c.checked.ensures.row) (wanted_given g.S.Schema.table g.row.ROW c.args.members.now (struct_data t) c.args.index Utf8 set c.requires)
