use Rattle.std.proofs.Common.{◌≡◌, ◌∙◌, Err, map, string_bytes, sym}
use Rattle.capnp_streams.specs.Arguments.{request_of}
use Rattle.capnp_streams.specs.declared.streams.task.WrongArgument.{WrongArgument}
use Rattle.capnp_streams.proofs.ArgumentLemmas.{first_is_wrong, request_stepped}
use Rattle.capnp_streams.proofs.streams.task.parse_args.Goals as goal

pub returns-in-Err-clause-first : goal.returns-in-Err-clause-first
returns-in-Err-clause-first c =
    let wrong : WrongArgument = record { at = c.loop-arg.at; fault = c.in-Err.fault } in
    let parsed : request_of (map string_bytes c.args.args.now) ≡ Err wrong =
    sym c.loop-arg.invariant.same
    ∙ request_stepped c.loop-arg.line (Err c.in-Err.fault) c.in-Some.ensures.cases.0 (sym c.as_str.ensures.value) c.in-Err.ensures c.loop-arg.at in
    first_is_wrong c.args.args.now wrong parsed
