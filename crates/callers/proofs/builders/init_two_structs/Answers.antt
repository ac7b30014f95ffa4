use Rattle.callers.proofs.Fields.{root_put, field_put}
use Rattle.callers.proofs.builders.init_two_structs.Goals as goal

-- Nothing is made: the root is null.
pub returns-in-Err-clause-nothing : goal.returns-in-Err-clause-nothing
returns-in-Err-clause-nothing g c = let (t, forest) = c.requires.forest in λ e. root_put _ _ t _ forest c.in-Err.ensures.refused

pub returns-in-Ok-init_field_struct-clause-both : goal.returns-in-Ok-init_field_struct-clause-both
returns-in-Ok-init_field_struct-clause-both g c =
    let (t, forest) = c.requires.forest in
    λ e. field_put _ _ _ t _ c.args.outer c.in-Ok.place forest c.in-Ok.ensures.made c.in-Ok.ensures.leads.is c.requires.some c.in-Ok-init_field_struct.ensures.made

-- The second struct is refused.
pub returns-in-Err-init_field_struct-clause-root : goal.returns-in-Err-init_field_struct-clause-root
returns-in-Err-init_field_struct-clause-root g c =
    let (t, forest) = c.requires.forest in
    λ e. field_put _ _ _ t _ c.args.outer c.in-Ok.place forest c.in-Ok.ensures.made c.in-Ok.ensures.leads.is c.requires.some c.in-Err-init_field_struct.ensures.refused
