use Rattle.std.proofs.Common.{sym, ◌∙◌, arith}
use Rattle.capnp_format.specs.Bytes.{message}
use Rattle.capnp_format.specs.Segments.{Segments, Target}
use Rattle.layout_vectors.specs.Landings.{target_at}
use Rattle.layout_vectors.specs.Walks.{Walk, walk}
use Rattle.layout_vectors.proofs.Steps.{pointers_taken, pointers_words, object_refused}
use Rattle.layout_vectors.proofs.vectors.objects.mark_pointer_list.Goals as goal

pub returns-then-not-try_mark : goal.returns-then-not-try_mark
returns-then-not-try_mark g c =
    let S : Segments = message (g.A.ReaderArena.segments c.args.arena.now) in
    let a : Target = target_at c.args.landing in
    let w : Walk = walk c.args.marks.now c.args.pending.now in
    object_refused S a w c.list_element_count-count.result c.requires.fits (omega (arith, c.requires.of_pointers.0))
    (λ t o. pointers_words S a t c.requires.of_pointers.0 c.requires.of_pointers.1 o ∙ sym c.list_element_count-count.ensures.value) (c.try_mark.ensures.refused c.if-not-try_mark.true)

pub push_pointers-requires : goal.push_pointers-requires
push_pointers-requires g c = omega (arith, c.try_mark.ensures.inside c.if-not-try_mark.false, c.requires.fits.words c.args.landing.segment, c.requires.fits.small c.args.landing.segment)

pub returns : goal.returns
returns g c =
    let S : Segments = message (g.A.ReaderArena.segments c.args.arena.now) in
    let a : Target = target_at c.args.landing in
    let w : Walk = walk c.args.marks.now c.args.pending.now in
    pointers_taken S a w (walk c.try_mark.new.self c.push_pointers.new.pending) c.list_element_count-count.result c.requires.fits c.requires.of_pointers.0 c.requires.of_pointers.1 c.list_element_count-count.ensures.value
    (c.try_mark.ensures.inside c.if-not-try_mark.false) (c.try_mark.ensures.taken c.if-not-try_mark.false) c.in_ok-push_pointers.ensures
