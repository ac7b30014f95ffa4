use Rattle.std.proofs.Common.{◌≡◌, refl, subst}
use Rattle.capnp_format.specs.Bytes.{message}
use Rattle.capnp_format.specs.Segments.{Segments}
use Rattle.capnp_arena.specs.declared.arena.reader_arena_impl.ReaderOptions.{ReaderOptions}
use Rattle.capnp_messages.specs.declared.messages.command.Command.TheVariants.{Check}
use Rattle.capnp_canonical.specs.Calls.{RefusesMeaning, TestFinds, limits_of}
use Rattle.capnp_canonical.specs.declared.refusal.Refusal.TheVariants.{Layout}
use Rattle.capnp_canonical.proofs.CallLemmas.{test_finds}
use Rattle.capnp_canonical.proofs.calls.check.Goals as goal

pub returns-in-Ok-clause-found : goal.returns-in-Ok-clause-found
returns-in-Ok-clause-found g c =
    let limits : c.options-options.result ≡ limits_of c.args.limits.nesting c.args.limits.words = c.options-options.ensures in
    let S : Segments = message (g.S.ReaderSegments.segments c.args.segments) in
    let exactly = rw c.new-source.ensures.words at c.in-Ok.ensures.exactly in
    let within = rw (c.new-source.ensures.words, c.new-source.ensures.nesting) at c.in-Ok.ensures.within in
    let fault = rw (c.new-source.ensures.words, c.new-source.ensures.nesting) at c.in-Ok.ensures.fault in
    subst (λ (l : ReaderOptions). TestFinds l c.in-Ok.found S) limits (test_finds c.options-options.result S c.in-Ok.found exactly within fault)

pub returns-clause-refused : goal.returns-clause-refused
returns-clause-refused g c =
    let limits : c.options-options.result ≡ limits_of c.args.limits.nesting c.args.limits.words = c.options-options.ensures in
    let S : Segments = message (g.S.ReaderSegments.segments c.args.segments) in
    let refused = rw (c.new-source.ensures.words, c.new-source.ensures.nesting) at c.in-Err.ensures.refused in
    subst (λ (l : ReaderOptions). RefusesMeaning Check l S (Layout c.in-Err.kind)) limits (c.in-Err.kind, refl, refused)
