use Rattle.capnp_refusals.proofs.Commands.{command_finds}
use Rattle.capnp_refusals.proofs.laws.refusals_of_commands.Goals as goal

pub returns : goal.returns
returns c = command_finds
