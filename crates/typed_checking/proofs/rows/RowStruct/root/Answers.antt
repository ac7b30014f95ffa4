use Rattle.typed_checking.proofs.rows.RowStruct.root.Goals as goal

pub returns-in-Err-clause-refused : goal.returns-in-Err-clause-refused
returns-in-Err-clause-refused g c = rw c.table.ensures at c.in-Err.ensures.refused
