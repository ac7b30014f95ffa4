use Rattle.std.proofs.Common.{◌≡◌, ◌∙◌, sym, arith}
use Rattle.capnp_format.specs.Word.{kind}
use Rattle.capnp_format.specs.Segments.{Target}
use Rattle.capnp_pointers.specs.Entering.{found_target, entered_from}
use Rattle.capnp_pointers.specs.Reading.{Reading}
use Rattle.capnp_pointers.proofs.OneObject.EnteredBySteps.{object_enters, plain_is, reads_as}
use Rattle.capnp_pointers.proofs.source.landing.Entrance.enter.Goals as goal

pub returns-in-Struct : goal.returns-in-Struct
returns-in-Struct g c =
    let r : Reading = entered_from g.A.ReaderArena c.args.self in
    let a : Target = found_target c.args.self.found in
    let z : kind a.word ≡ 0 = sym c.in-Struct.ensures in
    reads_as (object_enters c.args.purpose r a c.args.lim.now (omega arith) ∙ plain_is c.args.purpose r a c.args.lim.now (omega arith) (λ v. omega (arith, v.0, z)) (λ t. omega (arith, t.0, z))) c.enter_struct.ensures
