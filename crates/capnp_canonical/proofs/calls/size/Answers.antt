use Rattle.std.proofs.Common.{◌≡◌, refl, subst}
use Rattle.capnp_format.specs.Bytes.{message}
use Rattle.capnp_format.specs.Segments.{Segments}
use Rattle.capnp_arena.specs.declared.arena.reader_arena_impl.ReaderOptions.{ReaderOptions}
use Rattle.capnp_messages.specs.Messages.{HasSizeOf}
use Rattle.capnp_messages.specs.declared.messages.command.Command.TheVariants.{Size}
use Rattle.capnp_canonical.specs.Calls.{RefusesMeaning, limits_of}
use Rattle.capnp_canonical.specs.declared.refusal.Refusal.TheVariants.{Layout}
use Rattle.capnp_canonical.proofs.calls.size.Goals as goal

pub returns-in-Ok-clause-size : goal.returns-in-Ok-clause-size
returns-in-Ok-clause-size g c =
    let limits : c.options-options.result ≡ limits_of c.args.limits.nesting c.args.limits.words = c.options-options.ensures in
    let S : Segments = message (g.S.ReaderSegments.segments c.args.segments) in
    subst (λ (l : ReaderOptions). HasSizeOf S l c.in-Ok.size.word_count c.in-Ok.size.cap_count) limits (rw (c.new-source.ensures.words, c.new-source.ensures.nesting) at c.in-Ok.ensures.size)

pub returns-clause-refused : goal.returns-clause-refused
returns-clause-refused g c =
    let limits : c.options-options.result ≡ limits_of c.args.limits.nesting c.args.limits.words = c.options-options.ensures in
    let S : Segments = message (g.S.ReaderSegments.segments c.args.segments) in
    let refused = rw (c.new-source.ensures.words, c.new-source.ensures.nesting) at c.in-Err.ensures.refused in
    subst (λ (l : ReaderOptions). RefusesMeaning Size l S (Layout c.in-Err.kind)) limits (c.in-Err.kind, refl, refused)
