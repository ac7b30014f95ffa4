use Rattle.capnp_show.proofs.show.text.Text.write.Goals as goal

pub returns-in-Ok-clause-bounded : goal.returns-in-Ok-clause-bounded
returns-in-Ok-clause-bounded g c = (c.bytes.result.now, c.bytes.ensures.bounded, c.in-Ok.ensures.written)
