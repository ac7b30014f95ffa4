use Rattle.std.proofs.Common.{true, refl}
use Rattle.capnp_format.specs.Bytes.{message}
use Rattle.capnp_messages.proofs.MessageLemmas.{AtRoot, at_root}
use Rattle.typed_streams.specs.Conforming.{Wanted}
use Rattle.typed_streams.proofs.WalkLemmas.{accepted, blamed, root_blamed, root_unaccepted}
use Rattle.typed_streams.proofs.conforming.test_message.Goals as goal

pub returns-in-Ok-clause-exactly : goal.returns-in-Ok-clause-exactly
returns-in-Ok-clause-exactly g c =
    let w : Wanted = record { table = c.args.table.now; row = c.args.row; limits = c.args.limits } in
    let root : AtRoot (message (g.S.ReaderSegments.segments c.args.segments)) c.args.limits _ c.read_root.new.lim =
    at_root c.new-arena.ensures.words c.new-arena.ensures.nesting c.new-lim.ensures c.in-Ok.ensures.place
    c.in-Ok.ensures.charged (c.in-Ok.ensures.exactly.0 (refl {a = true})) in
    accepted w root c.conforms.ensures.exactly

pub returns-in-Ok-clause-refused : goal.returns-in-Ok-clause-refused
returns-in-Ok-clause-refused g c =
    let w : Wanted = record { table = c.args.table.now; row = c.args.row; limits = c.args.limits } in
    let root : AtRoot (message (g.S.ReaderSegments.segments c.args.segments)) c.args.limits _ c.read_root.new.lim =
    at_root c.new-arena.ensures.words c.new-arena.ensures.nesting c.new-lim.ensures c.in-Ok.ensures.place
    c.in-Ok.ensures.charged (c.in-Ok.ensures.exactly.0 (refl {a = true})) in
    blamed w c.conforms.result c.conforms.new.lim root c.conforms.ensures.walk c.conforms.ensures.refused

pub returns-clause-exactly : goal.returns-clause-exactly
returns-clause-exactly g c =
    let w : Wanted = record { table = c.args.table.now; row = c.args.row; limits = c.args.limits } in
    root_unaccepted w (record { error = c.in-Err.error; segment = 0; word = 0; row = 0; index = 0 }) c.new-arena.ensures.words c.new-lim.ensures c.in-Err.ensures.refused

pub returns-clause-refused : goal.returns-clause-refused
returns-clause-refused g c =
    let w : Wanted = record { table = c.args.table.now; row = c.args.row; limits = c.args.limits } in
    root_blamed w c.new-arena.ensures.words c.new-lim.ensures c.in-Err.ensures.refused
