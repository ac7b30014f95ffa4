use Rattle.std.proofs.Common.{◌∙◌, Err, ap}
use Rattle.capnp_streams.specs.Arguments.{assigned_step, option_named}
use Rattle.capnp_streams.specs.declared.streams.arguments.ArgumentFault.TheVariants.{UnknownOption}
use Rattle.capnp_streams.proofs.ArgumentLemmas.{taken_apart}
use Rattle.capnp_streams.proofs.streams.arguments.ParsedArguments.parse_assignment.Goals as goal

pub returns-in-Some : goal.returns-in-Some
returns-in-Some c =
    let there = c.in-Some.ensures in
    c.apply_assignment.ensures
    ∙ ap (λ o. assigned_step o c.in-Some.value.now c.args.self) c.option_of.ensures
    ∙ taken_apart (λ name value. assigned_step (option_named name) value c.args.self) (Err UnknownOption) c.args.text.now c.in-Some.name.now c.in-Some.value.now there.0 there.1 there.2
