use Rattle.std.proofs.Common.{inl}
use Rattle.std.proofs.lemmas.Result.{IfOk-weaker, on_err_weaker, on_ok_weaker}
use Rattle.callers.proofs.Fields.{place_leads, put_where_it_leads}
use Rattle.callers.proofs.theorem.make_struct.Goals as goal

pub returns-clause-made : goal.returns-clause-made
returns-clause-made g c = on_ok_weaker c.init_struct_place.result (put_where_it_leads _ _ _ _ _) c.init_struct_place.ensures.object.made

pub returns-clause-refused : goal.returns-clause-refused
returns-clause-refused g c = on_err_weaker c.init_struct_place.result (put_where_it_leads _ _ _ _ _) c.init_struct_place.ensures.object.refused

pub returns-clause-leads : goal.returns-clause-leads
returns-clause-leads g c = IfOk-weaker c.init_struct_place.result _ _ (λ place. place_leads) c.init_struct_place.ensures.leads

pub returns-clause-fits : goal.returns-clause-fits
returns-clause-fits g c = λ near. c.init_struct_place.ensures.object.memory.fits (inl near)

pub returns-clause-named : goal.returns-clause-named
returns-clause-named g c = c.init_struct_place.ensures.object.memory.named
