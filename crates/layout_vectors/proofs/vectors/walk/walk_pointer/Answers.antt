use Rattle.std.proofs.Common.{◌≡◌, ◌≢◌, true, false, Some, sym, ap, ◌∙◌, subst}
use Rattle.std.specs.Prelude.{option_map}
use Rattle.std.proofs.lemmas.Bool.{false≢true}
use Rattle.capnp_format.specs.Bytes.{message}
use Rattle.capnp_format.specs.Segments.{Segments, Target, word_at, leads}
use Rattle.layout_vectors.specs.Landings.{target_at}
use Rattle.layout_vectors.specs.Walks.{Walk, walk, TakesObject, TakesSpot}
use Rattle.capnp_format.specs.Forest.{times, pads_of}
use Rattle.capnp_format.specs.Forest.{PadsInside}
use Rattle.layout_vectors.specs.Marks.{rows_of, TakesEach, TakesPads}
use Rattle.layout_vectors.proofs.Steps.{IsTakenAlready, null_walked, pointer_walked, pointer_unwalked, pads_refused, nowhere_fails, ok_map}
use Rattle.layout_vectors.proofs.vectors.walk.walk_pointer.Goals as goal

pub returns-then-is_null : goal.returns-then-is_null
returns-then-is_null g c =
    let S : Segments = message (g.A.ReaderArena.segments c.args.arena.now) in
    let w : Walk = walk c.args.marks.now c.args.pending.now in
    null_walked S c.args.spot w (sym c.pointer_word-word.ensures ∙ c.is_null.ensures.0 c.if-is_null.true)

pub returns-then-mark_pads : goal.returns-then-mark_pads
returns-then-mark_pads g c =
    let S : Segments = message (g.A.ReaderArena.segments c.args.arena.now) in
    let w : Walk = walk c.args.marks.now c.args.pending.now in
    let v : Walk = walk c.mark_object.new.marks c.mark_object.new.pending in
    let a : Target = target_at c.in-Some.landing in
    let some : word_at S c.args.spot.segment c.args.spot.at ≢ 0 = λ e. false≢true (sym c.if-is_null.false ∙ c.is_null.ensures.1 (c.pointer_word-word.ensures ∙ e)) in
    let l : leads S c.args.spot.segment c.args.spot.at ≡ Some a = sym c.follow.ensures ∙ ap (option_map target_at) c.in-Some.is in
    let N : Segments = rows_of c.mark_pads.new.marks in
    let pads : TakesEach w.marks N (times (pads_of (word_at S c.args.spot.segment c.args.spot.at))) =
    subst (λ x. TakesEach w.marks N (times (pads_of x))) c.pointer_word-word.ensures (subst (λ b. TakesPads w.marks N c.pointer_word-word.result.0 b) c.if-mark_pads.true c.mark_pads.ensures) in
    ok_map c.mark_object.result _ (TakesSpot S c.args.spot w v) (λ b. elim b as (λ x. TakesObject S a (record { marks = N; pending = w.pending }) v x → TakesSpot S c.args.spot w v x) [
      | true ↦ λ goes. pointer_walked S c.args.spot w v N a some l pads goes
      | false ↦ λ none. pointer_unwalked S c.args.spot w N a some l pads none
    ]) c.mark_object.ensures

pub returns-else-mark_pads : goal.returns-else-mark_pads
returns-else-mark_pads g c =
    let S : Segments = message (g.A.ReaderArena.segments c.args.arena.now) in
    let w : Walk = walk c.args.marks.now c.args.pending.now in
    let some : word_at S c.args.spot.segment c.args.spot.at ≢ 0 = λ e. false≢true (sym c.if-is_null.false ∙ c.is_null.ensures.1 (c.pointer_word-word.ensures ∙ e)) in
    let l : leads S c.args.spot.segment c.args.spot.at ≡ Some (target_at c.in-Some.landing) = sym c.follow.ensures ∙ ap (option_map target_at) c.in-Some.is in
    let refused = subst (λ b. TakesPads w.marks (rows_of c.mark_pads.new.marks) c.pointer_word-word.result.0 b) c.if-mark_pads.false c.mark_pads.ensures in
    pads_refused S w c.args.spot (target_at c.in-Some.landing) c.requires some l (subst (λ x. PadsInside w.marks x → IsTakenAlready w.marks (times (pads_of x))) c.pointer_word-word.ensures refused)

pub returns-in-None : goal.returns-in-None
returns-in-None g c =
    let S : Segments = message (g.A.ReaderArena.segments c.args.arena.now) in
    let w : Walk = walk c.args.marks.now c.args.pending.now in
    let some : word_at S c.args.spot.segment c.args.spot.at ≢ 0 = λ e. false≢true (sym c.if-is_null.false ∙ c.is_null.ensures.1 (c.pointer_word-word.ensures ∙ e)) in
    nowhere_fails S w c.args.spot some (sym c.follow.ensures ∙ ap (option_map target_at) c.in-None.is)
