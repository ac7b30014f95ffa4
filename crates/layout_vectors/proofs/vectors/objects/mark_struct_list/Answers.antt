use Rattle.std.proofs.Common.{◌≡◌, ◌+◌, ◌*◌, ℕ, sym, ap, ap₂, ◌∙◌, subst, arith, rules}
use Rattle.capnp_format.specs.Bytes.{message}
use Rattle.capnp_format.specs.Segments.{Segments, Target}
use Rattle.layout_vectors.specs.Landings.{target_at}
use Rattle.layout_vectors.specs.Walks.{Walk, walk}
use Rattle.capnp_format.specs.Word.{kind, list_count}
use Rattle.capnp_format.specs.Means.{IsTag}
use Rattle.layout_vectors.proofs.Steps.{structs_taken, structs_words, object_refused}
use Rattle.layout_vectors.proofs.vectors.objects.mark_struct_list.Goals as goal

pub returns-then-not-try_mark : goal.returns-then-not-try_mark
returns-then-not-try_mark g c =
    let S : Segments = message (g.A.ReaderArena.segments c.args.arena.now) in
    let a : Target = target_at c.args.landing in
    let w : Walk = walk c.args.marks.now c.args.pending.now in
    object_refused S a w (c.list_inline_composite_word_count-words.result + 1) c.requires.fits (omega (arith, c.requires.of_structs.0))
    (λ t o. structs_words S a t c.requires.of_structs.0 c.requires.of_structs.1 o ∙ ap (λ n. n + 1) (sym c.list_inline_composite_word_count-words.ensures.value)) (c.try_mark.ensures.refused c.if-not-try_mark.true)

pub overflow_add-landing : goal.overflow_add-landing
overflow_add-landing g c = omega (arith, c.try_mark.ensures.inside c.if-not-try_mark.false, c.requires.fits.words c.args.landing.segment, c.requires.fits.small c.args.landing.segment)

pub returns : goal.returns
returns g c =
    let S : Segments = message (g.A.ReaderArena.segments c.args.arena.now) in
    let a : Target = target_at c.args.landing in
    let w : Walk = walk c.args.marks.now c.args.pending.now in
    let d : ℕ = c.struct_size-size.result.data_words in
    let q : ℕ = c.struct_size-size.result.pointers in
    let n : ℕ = c.inline_composite_list_element_count-count.result in
    let z : kind c.pointer_word-tag.result.0 ≡ 0 = search rules in
    let tag : IsTag c.pointer_word-tag.result.0 n d q = record { is_struct = z; counts = sym c.inline_composite_list_element_count-count.ensures.value; data_of = sym c.struct_size-size.ensures.data_of; pointers = sym c.struct_size-size.ensures.pointers_of } in
    let many = c.list_inline_composite_word_count-words.ensures.value in
    let exact : n * (d + q) ≡ list_count c.args.landing.word.0 = ap₂ (λ x y. x * y) (sym c.from.ensures) (sym (c.from-2.ensures ∙ c.total.ensures)) ∙ c.if-taken-from.false ∙ c.from-else-ne.ensures ∙ many in
    let inside = c.try_mark.ensures.inside c.if-not-try_mark.false in
    let taken = c.try_mark.ensures.taken c.if-not-try_mark.false in
    structs_taken S a w (walk c.try_mark.new.self c.push_element_pointers.new.pending) n d q c.requires.fits c.requires.of_structs.0 c.requires.of_structs.1 (subst (λ x. IsTag x n d q) c.pointer_word-tag.ensures tag) exact
    (rw many at inside) (rw many at taken) c.in_ok-push_element_pointers.ensures
