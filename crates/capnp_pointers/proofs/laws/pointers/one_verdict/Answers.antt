use Rattle.std.proofs.Common.{◌≡◌, Ok, Err, ap, sym, ◌∙◌}
use Rattle.capnp_pointers.proofs.laws.pointers.one_verdict.Goals as goal

pub returns-clause-fault : goal.returns-clause-fault
returns-clause-fault c = λ r h m m' m'' f g e d.
    let same = sym e ∙ d in
    let named : Ok (Err f) ≡ Ok (Err g) = ap (λ o. o.0) same in
    (cc named, ap (λ o. o.1) same)

pub returns-clause-refused : goal.returns-clause-refused
returns-clause-refused c = λ r h m m' m'' k l e d.
    let same = sym e ∙ d in
    let named : Err k ≡ Err l = ap (λ o. o.0) same in
    (cc named, ap (λ o. o.1) same)

pub returns-clause-pointers : goal.returns-clause-pointers
returns-clause-pointers c = λ i r h m m' m'' k l e d.
    let same = sym e ∙ d in
    let named : Err k ≡ Err l = ap (λ o. o.0) same in
    (cc named, ap (λ o. o.1) same)
