use Rattle.std.proofs.Common.{◌≡◌, refl, subst}
use Rattle.capnp_format.specs.Bytes.{message}
use Rattle.capnp_format.specs.Segments.{Segments}
use Rattle.capnp_arena.specs.declared.arena.reader_arena_impl.ReaderOptions.{ReaderOptions}
use Rattle.capnp_canonical.specs.Calls.{limits_of}
use Rattle.capnp_canonical.specs.Validation.{ExtentIs, RefusesExtent}
use Rattle.capnp_canonical.specs.declared.refusal.Refusal.TheVariants.{Layout}
use Rattle.capnp_canonical.proofs.validation.validate.Goals as goal

pub returns-in-Ok-clause-extent : goal.returns-in-Ok-clause-extent
returns-in-Ok-clause-extent g c =
    let limits : c.options-options.result ≡ limits_of c.args.limits.nesting c.args.limits.words = c.options-options.ensures in
    let S : Segments = message (g.S.ReaderSegments.segments c.args.segments) in
    let has = rw (c.new-source.ensures.words, c.new-source.ensures.nesting) at c.in-Ok.ensures.extent in
    subst (λ (l : ReaderOptions). ExtentIs l c.of.result S) limits (c.in-Ok.found, has, c.of.ensures)

pub returns-clause-refused : goal.returns-clause-refused
returns-clause-refused g c =
    let limits : c.options-options.result ≡ limits_of c.args.limits.nesting c.args.limits.words = c.options-options.ensures in
    let S : Segments = message (g.S.ReaderSegments.segments c.args.segments) in
    let refused = rw (c.new-source.ensures.words, c.new-source.ensures.nesting) at c.in-Err.ensures.computed in
    subst (λ (l : ReaderOptions). RefusesExtent l S (Layout c.in-Err.kind)) limits (c.in-Err.kind, refl, refused)
