use Rattle.std.proofs.Common.{◌+◌, ℕ, sym, ap₂, ◌∙◌, arith}
use Rattle.capnp_format.specs.Bytes.{message}
use Rattle.capnp_format.specs.Segments.{Segments, Target}
use Rattle.layout_vectors.specs.Landings.{target_at}
use Rattle.layout_vectors.specs.Walks.{Walk, walk}
use Rattle.layout_vectors.proofs.Steps.{struct_taken, struct_words, object_refused}
use Rattle.layout_vectors.proofs.vectors.objects.mark_struct.Goals as goal

pub returns-then-not-try_mark : goal.returns-then-not-try_mark
returns-then-not-try_mark g c =
    let S : Segments = message (g.A.ReaderArena.segments c.args.arena.now) in
    let a : Target = target_at c.args.landing in
    let w : Walk = walk c.args.marks.now c.args.pending.now in
    object_refused S a w c.total.result c.requires.fits (omega (arith, c.requires.is_struct))
    (λ t o. struct_words S a t c.requires.is_struct o ∙ sym (c.total.ensures ∙ ap₂ (λ x y. x + y) c.struct_size-size.ensures.data_of c.struct_size-size.ensures.pointers_of)) (c.try_mark.ensures.refused c.if-not-try_mark.true)

pub overflow_add-start : goal.overflow_add-start
overflow_add-start g c = omega (arith, c.from.ensures, c.total.ensures, c.try_mark.ensures.inside c.if-not-try_mark.false, c.requires.fits.words c.args.landing.segment, c.requires.fits.small c.args.landing.segment)

pub push_pointers-requires : goal.push_pointers-requires
push_pointers-requires g c = omega (arith, c.from.ensures, c.from-2.ensures, c.total.ensures, c.try_mark.ensures.inside c.if-not-try_mark.false, c.requires.fits.words c.args.landing.segment, c.requires.fits.small c.args.landing.segment)

pub returns : goal.returns
returns g c =
    let S : Segments = message (g.A.ReaderArena.segments c.args.arena.now) in
    let a : Target = target_at c.args.landing in
    let w : Walk = walk c.args.marks.now c.args.pending.now in
    let d : ℕ = c.struct_size-size.result.data_words in
    let q : ℕ = c.struct_size-size.result.pointers in
    let inside = c.try_mark.ensures.inside c.if-not-try_mark.false in
    let taken = c.try_mark.ensures.taken c.if-not-try_mark.false in
    struct_taken S a w (walk c.try_mark.new.self c.push_pointers.new.pending) d q c.requires.fits c.requires.is_struct c.struct_size-size.ensures.data_of c.struct_size-size.ensures.pointers_of
    (rw c.total.ensures at inside) (rw c.total.ensures at taken) (rw (c.from.ensures, c.from-2.ensures) at c.in_ok-push_pointers.ensures)
