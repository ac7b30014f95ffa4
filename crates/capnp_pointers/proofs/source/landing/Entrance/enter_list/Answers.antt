use Rattle.std.proofs.Common.{◌≡◌, ◌∙◌, arith}
use Rattle.capnp_format.specs.Segments.{Target}
use Rattle.capnp_format.specs.Word.{element_size}
use Rattle.capnp_pointers.specs.Entering.{found_target, entered_from}
use Rattle.capnp_pointers.proofs.OneObject.EnteredBySteps.{plain_is, is_void, is_composite, void_is, structs_is, reads_as}
use Rattle.capnp_pointers.proofs.source.landing.Entrance.enter_list.Goals as goal

pub returns-in-InlineComposite : goal.returns-in-InlineComposite
returns-in-InlineComposite g c =
    reads_as (structs_is c.args.purpose (entered_from g.A.ReaderArena c.args.self) (found_target c.args.self.found) c.args.lim.now (c.requires.is_list, omega (arith, c.in-InlineComposite.ensures))) c.enter_struct_list.ensures

pub returns-in-Pointer : goal.returns-in-Pointer
returns-in-Pointer g c =
    let a : Target = found_target c.args.self.found in
    let six : element_size a.word ≡ 6 = omega (arith, c.in-Pointer.ensures) in
    reads_as (plain_is c.args.purpose (entered_from g.A.ReaderArena c.args.self) a c.args.lim.now (omega (arith, c.requires.is_list)) (λ v. omega (arith, v.1, six)) (λ t. omega (arith, t.1, six))) c.enter_pointer_list.ensures

pub returns-in-Void : goal.returns-in-Void
returns-in-Void g c =
    reads_as (void_is c.args.purpose (entered_from g.A.ReaderArena c.args.self) (found_target c.args.self.found) c.args.lim.now (c.requires.is_list, omega (arith, c.in-Void.ensures)) c.requires.level) c.enter_void_list.ensures

pub returns-in_default : goal.returns-in_default
returns-in_default g c =
    let a : Target = found_target c.args.self.found in
    reads_as (plain_is c.args.purpose (entered_from g.A.ReaderArena c.args.self) a c.args.lim.now (omega (arith, c.requires.is_list)) (λ v. c.in_default.not-Void (is_void c.list_element_size.result (c.list_element_size.ensures ∙ v.1))) (λ t. c.in_default.not-InlineComposite (is_composite c.list_element_size.result (c.list_element_size.ensures ∙ t.1)))) c.enter_primitive_list.ensures
