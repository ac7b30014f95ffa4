use Rattle.std.proofs.Common.{◌≡◌, Err, ap, sym, ◌∙◌}
use Rattle.capnp_pointers.proofs.laws.pointers.one_size_refusal.Goals as goal

pub returns : goal.returns
returns c = λ r z m m' m'' k l e f.
    let same = sym e ∙ f in
    let named : Err k ≡ Err l = ap (λ o. o.0) same in
    (cc named, ap (λ o. o.1) same)
