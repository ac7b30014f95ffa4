use Rattle.std.proofs.Common.{inr, refl, true}
use Rattle.std.proofs.lemmas.Bool.{false≢true}
use Rattle.std.specs.Prelude.{⊤}
use Rattle.typed_streams.specs.Conforming.{Wanted}
use Rattle.typed_streams.specs.declared.conforming.ConformingFault.TheVariants.{Misfit}
use Rattle.typed_streams.proofs.RawLemmas.{raw_blamed, raw_conforming}
use Rattle.typed_streams.proofs.conforming.test_raw_words.Goals as goal

pub returns-in-Ok-clause-refused : goal.returns-in-Ok-clause-refused
returns-in-Ok-clause-refused g c =
    let read = c.in-Ok.ensures.read in
    let bare = rw c.most_words.ensures at read.bare in
    let no = c.in-Err-test_message.ensures in
    inr (raw_blamed _ _ _ read.bytes true _ bare read.consumed c.in-Ok.ensures.end read.only (λ it. false≢true (no.exactly.1 it)) no.refused, (refl, refl))

pub returns-in-Ok-clause-exactly : goal.returns-in-Ok-clause-exactly
returns-in-Ok-clause-exactly g c =
    let w : Wanted = record { table = c.args.table.now; row = c.args.row; limits = c.args.limits } in
    let read = c.in-Ok.ensures.read in
    let bare = rw c.most_words.ensures at read.bare in
    let no = c.in-Err-test_message.ensures in
    raw_conforming {P = ⊤} {Q = ⊤} w _ true (Misfit c.in-Err-test_message.misfit)
    (inr (raw_blamed _ _ _ read.bytes true _ bare read.consumed c.in-Ok.ensures.end read.only (λ it. false≢true (no.exactly.1 it)) no.refused, tt))
