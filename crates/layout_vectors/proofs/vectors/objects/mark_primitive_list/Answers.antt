use Rattle.std.proofs.Common.{◌≡◌, false, true, refl, sym, ◌∙◌, subst, arith}
use Rattle.capnp_format.specs.Bytes.{message}
use Rattle.capnp_format.specs.Segments.{Segments, word_at, Target}
use Rattle.layout_vectors.specs.Landings.{target_at}
use Rattle.layout_vectors.specs.Walks.{Walk, walk, TakesObject}
use Rattle.capnp_words.specs.Sizes.{size_number}
use Rattle.layout_vectors.proofs.Steps.{flat_taken, flat_words, not_padded, object_refused, takes_by}
use Rattle.layout_vectors.proofs.vectors.objects.mark_primitive_list.Goals as goal

pub returns-then-try_mark : goal.returns-then-try_mark
returns-then-try_mark g c =
    let S : Segments = message (g.A.ReaderArena.segments c.args.arena.now) in
    let a : Target = target_at c.args.landing in
    let w : Walk = walk c.args.marks.now c.args.pending.now in
    let inside = c.try_mark.ensures.inside c.if-try_mark.true in
    let taken = c.try_mark.ensures.taken c.if-try_mark.true in
    takes_by c.has_zero_padding.result
    (λ yes. flat_taken S a w (walk c.try_mark.new.self c.args.pending.now) (size_number c.args.size) c.list_element_count-count.result c.requires.fits c.requires.is_list c.requires.is_size c.list_element_count-count.ensures.value c.requires.is_flat
    (rw c.words_for_elements-words.ensures at inside) c.has_zero_padding.ensures.small (c.has_zero_padding.ensures.exactly.0 yes) (rw c.words_for_elements-words.ensures at taken) refl)
    (λ no F h once. not_padded S a (word_at w.marks) w.pending (size_number c.args.size) c.list_element_count-count.result c.requires.is_size c.list_element_count-count.ensures.value c.requires.is_list c.requires.is_flat
    (λ padded. let e : true ≡ false = sym (c.has_zero_padding.ensures.exactly.1 padded) ∙ no in cc) F h)

pub returns-else-try_mark : goal.returns-else-try_mark
returns-else-try_mark g c =
    let S : Segments = message (g.A.ReaderArena.segments c.args.arena.now) in
    let a : Target = target_at c.args.landing in
    let w : Walk = walk c.args.marks.now c.args.pending.now in
    subst (TakesObject S a w (walk c.try_mark.new.self c.args.pending.now)) (sym c.if-try_mark.false) (object_refused S a w c.words_for_elements-words.result c.requires.fits (omega (arith, c.requires.is_list))
    (λ t o. flat_words S a (size_number c.args.size) c.list_element_count-count.result t c.requires.is_size c.list_element_count-count.ensures.value c.requires.is_list c.requires.is_flat o ∙ sym c.words_for_elements-words.ensures) (c.try_mark.ensures.refused c.if-try_mark.false))
