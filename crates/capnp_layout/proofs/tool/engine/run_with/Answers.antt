use Rattle.std.proofs.Common.{inl, refl, rules}
use Rattle.capnp_words.specs.declared.error.ErrorKind.TheVariants.{AllocationFailed}
use Rattle.capnp_layout.specs.declared.tool.refusal.Refusal.TheVariants.{Layout}
use Rattle.capnp_layout.proofs.RunLemmas.{text_memory}
use Rattle.capnp_layout.proofs.tool.engine.run_with.Goals as goal

pub returns-in-Err-NoMemory-clause-refused : goal.returns-in-Err-NoMemory-clause-refused
returns-in-Err-NoMemory-clause-refused g c = λ refused. (Layout AllocationFailed, c.answer_refusal.ensures.written refused, inl (refl, search rules))

pub returns-in-Ok-clause-memory : goal.returns-in-Ok-clause-memory
returns-in-Ok-clause-memory g c = λ has refused.
    text_memory (g.R.Input.remaining c.args.input.now) g.W.Output c.args.output.now c.run_command.new.output c.in-Ok.ensures.segments c.run_command.ensures c.in-Ok.ensures.counted.kept has refused
