use Rattle.std.proofs.Common.{inr, true}
use Rattle.std.proofs.lemmas.Result.{IfErr-weaker}
use Rattle.std.specs.Prelude.{⊤}
use Rattle.capnp_streams.proofs.FlatLemmas.{flat_answerable, flat_done, flat_refused}
use Rattle.capnp_streams.specs.declared.streams.stream_error.StreamError.TheVariants.{Frame}
use Rattle.capnp_streams.proofs.streams.flat.run_flat.Goals as goal

pub returns-in-Ok-clause-done : goal.returns-in-Ok-clause-done
returns-in-Ok-clause-done g c =
    let read = c.in-Ok.ensures.read in
    let bare = rw (c.most_words.ensures, c.limits.ensures) at read.bare in
    flat_done c.args.job c.do_job-done.result _ _ _ _ _ read.bytes bare read.consumed read.only c.do_job-done.ensures.done.answered

pub returns-in-Ok-clause-refused : goal.returns-in-Ok-clause-refused
returns-in-Ok-clause-refused g c =
    let read = c.in-Ok.ensures.read in
    let bare = rw (c.most_words.ensures, c.limits.ensures) at read.bare in
    IfErr-weaker c.do_job-done.result _ _
    (λ e. flat_refused c.args.job _ _ _ read.bytes _ e bare read.consumed c.in-Ok.ensures.end read.only) c.do_job-done.ensures.done.refused

pub returns-in-Ok-clause-exactly : goal.returns-in-Ok-clause-exactly
returns-in-Ok-clause-exactly g c =
    let read = c.in-Ok.ensures.read in
    let bare = rw (c.most_words.ensures, c.limits.ensures) at read.bare in
    IfErr-weaker c.do_job-done.result _ _
    (λ e why. flat_answerable c.args.job _ true e
    (flat_refused c.args.job _ _ _ read.bytes true e bare read.consumed c.in-Ok.ensures.end read.only why)) c.do_job-done.ensures.done.refused

pub returns-clause-exactly : goal.returns-clause-exactly
returns-clause-exactly g c =
    flat_answerable {P = ⊤} {Q = ⊤} c.args.job _ _ (Frame c.in-Err.error)
    (inr (rw (c.most_words.ensures, c.limits.ensures) at c.in-Err.ensures.refused.why, tt))
