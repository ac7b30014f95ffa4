use Rattle.std.proofs.Common.{◌≡◌, ◌≢◌, Err, length, ap, ◌∙◌, sym, refl, rules}
use Rattle.capnp_format.specs.Word.{kind}
use Rattle.capnp_format.specs.Segments.{segment}
use Rattle.capnp_pointers.specs.Reading.{Reading, pointer_at}
use Rattle.capnp_pointers.proofs.Following.FollowedBySteps.{near_followed, far_followed, segments_of_word, default_refused}
use Rattle.capnp_pointers.proofs.source.Source.follow.Goals as goal

pub follow_far-requires-clause-some : goal.follow_far-requires-clause-some
follow_far-requires-clause-some g c = rw c.in-Arena.is at (segments_of_word c.requires)

pub returns-in-Arena-clause-computed : goal.returns-in-Arena-clause-computed
returns-in-Arena-clause-computed g c =
    let r : Reading = pointer_at g.A.ReaderArena c.args.self c.args.pointer in
    let is_far : kind c.args.pointer.word.0 ≡ 2 = search rules in
    far_followed r c.args.pointer.word.0 c.args.lim.now c.requires.there is_far (rw c.in-Arena.is refl) ∙ rw (← c.count_pointer.ensures, c.in-Arena.is) c.follow_far.ensures.computed

pub returns-in-Default-clause-computed : goal.returns-in-Default-clause-computed
returns-in-Default-clause-computed g c =
    let is_far : kind c.args.pointer.word.0 ≡ 2 = search rules in
    default_refused g.A.ReaderArena c.args.pointer.place c.args.lim.now c.args.pointer.nesting_limit c.in-Default.is (segments_of_word c.requires) (rw c.requires.there at is_far) (rw c.requires.there at c.requires.small)
    ∙ ap (λ y. (Err _, y)) (sym c.count_pointer.ensures)

pub returns-in-Some-clause-computed : goal.returns-in-Some-clause-computed
returns-in-Some-clause-computed g c =
    let r : Reading = pointer_at g.A.ReaderArena c.args.self c.args.pointer in
    let other : kind c.args.pointer.word.0 ≢ 2 = search rules in
    let n : c.length.result ≡ length (segment r.segments c.args.pointer.place.segment) = c.length.ensures ∙ ap length c.requires.held.0 in
    let leads = rw n at (sym c.in-Some.ensures) in
    near_followed r c.args.pointer.word.0 c.args.lim.now c.requires.there other ∙ rw (leads, ← c.count_pointer.ensures) refl

pub returns-in-None-clause-computed : goal.returns-in-None-clause-computed
returns-in-None-clause-computed g c =
    let r : Reading = pointer_at g.A.ReaderArena c.args.self c.args.pointer in
    let other : kind c.args.pointer.word.0 ≢ 2 = search rules in
    let n : c.length.result ≡ length (segment r.segments c.args.pointer.place.segment) = c.length.ensures ∙ ap length c.requires.held.0 in
    let leads = rw n at (sym c.in-None.ensures) in
    near_followed r c.args.pointer.word.0 c.args.lim.now c.requires.there other ∙ rw (leads, ← c.count_pointer.ensures) refl
