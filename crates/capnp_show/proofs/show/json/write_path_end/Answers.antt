use Rattle.capnp_show.proofs.show.json.write_path_end.Goals as goal

pub returns-in-Ok : goal.returns-in-Ok
returns-in-Ok g c = λ plain. rw c.in-Ok.is (c.write_reached.ensures plain)

pub returns-in-Err : goal.returns-in-Err
returns-in-Err g c = λ plain. rw c.in-Err.is (rw c.name.ensures at (c.write_no_root.ensures plain))
