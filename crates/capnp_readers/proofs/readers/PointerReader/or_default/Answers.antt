use Rattle.std.proofs.Common.{inl, inr, refl}
use Rattle.std.proofs.lemmas.Bool.{false≢true}
use Rattle.capnp_readers.specs.Calls.{of_pointer}
use Rattle.capnp_readers.proofs.Answering.{read_default}
use Rattle.capnp_readers.proofs.readers.PointerReader.or_default.Goals as goal

pub returns-in-None : goal.returns-in-None
returns-in-None g c = of_pointer (inl c.in-None.is) refl

pub returns-else-is_null : goal.returns-else-is_null
returns-else-is_null g c = of_pointer (inr (λ e. false≢true (c.if-is_null.ensures.1 e))) refl

pub returns-then-is_null : goal.returns-then-is_null
returns-then-is_null g c = read_default g.A.ReaderArena c.in-Some.bytes c.in-Some.is c.default_pointer.ensures
