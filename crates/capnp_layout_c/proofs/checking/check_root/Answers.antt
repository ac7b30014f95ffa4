use Rattle.std.proofs.Common.{refl, w32}
use Rattle.std.proofs.lemmas.Int.{to_z-of_z}
use Rattle.capnp_layout_c.specs.Lent.{lent}
use Rattle.capnp_layout_c.proofs.CheckedRoots.{accepted, paid, unaccepted, walk_read, walk_unread}
use Rattle.capnp_layout_c.proofs.checking.check_root.Goals as goal

pub returns-in-Ok-clause-walk : goal.returns-in-Ok-clause-walk
returns-in-Ok-clause-walk c =
    walk_read c.args.table.now c.args.row (lent c.args.segments.now.list.now) c.args.nesting c.args.lim.now c.conforms.result c.conforms.new.lim (rw (to_z-of_z w32 c.args.nesting c.ranges.nesting) at c.in-Ok.ensures.place) c.in-Ok.ensures.charged (c.in-Ok.ensures.exactly.0 refl) c.conforms.ensures.walk

pub returns-in-Ok-clause-exactly : goal.returns-in-Ok-clause-exactly
returns-in-Ok-clause-exactly c =
    accepted c.args.table.now c.args.row (lent c.args.segments.now.list.now) c.args.nesting c.args.lim.now (rw (to_z-of_z w32 c.args.nesting c.ranges.nesting) at c.in-Ok.ensures.place) c.in-Ok.ensures.charged (c.in-Ok.ensures.exactly.0 refl) c.conforms.ensures.exactly

pub returns-in-Ok-clause-spent : goal.returns-in-Ok-clause-spent
returns-in-Ok-clause-spent c =
    paid c.args.table.now c.args.row (lent c.args.segments.now.list.now) c.args.nesting c.args.lim.now c.conforms.result c.conforms.new.lim (rw (to_z-of_z w32 c.args.nesting c.ranges.nesting) at c.in-Ok.ensures.place) c.in-Ok.ensures.charged c.conforms.ensures.spent

pub returns-in-Err-clause-walk : goal.returns-in-Err-clause-walk
returns-in-Err-clause-walk c = rw c.in-Err.ensures.unread (walk_unread c.args.table.now c.args.row (lent c.args.segments.now.list.now) c.args.nesting c.args.lim.now c.in-Err.error c.in-Err.ensures.refused)

pub returns-in-Err-clause-exactly : goal.returns-in-Err-clause-exactly
returns-in-Err-clause-exactly c = unaccepted c.args.table.now c.args.row (lent c.args.segments.now.list.now) c.args.nesting c.args.lim.now c.in-Err.error (record { error = c.in-Err.error; segment = 0; word = 0; row = 0; index = 0 }) c.in-Err.ensures.refused
