use Rattle.std.proofs.Common.{[], ap, arith, length, refl, rules, subst, sym, ℕ, ◌+◌, ◌<◌, ◌^◌, ◌∙◌, ◌∷◌, ◌≡◌, ◌≢◌, ◌≤◌}
use Rattle.capnp_format.specs.Segments.{Segments, Target, segment, word_at}
use Rattle.capnp_format.specs.Canonical.{Reaches}
use Rattle.capnp_format.specs.Word.{far_position, is_double, kind, offset_bits, upper_half}
use Rattle.capnp_format.proofs.Lies.{near_leads, reaches_offset}
use Rattle.capnp_format.proofs.Following.{IsOffsetTo}
use Rattle.capnp_allocation.proofs.Memory.{words_in}
use Rattle.capnp_allocation.proofs.Shapes.{shape_near, shape_some}
use Rattle.capnp_in_place.proofs.WiderObjects.Statements.{IsSettled, settles}
use Rattle.std.proofs.lemmas.Bool.Decides.{nat_tests}
use Rattle.capnp_format.specs.Means.{Leads}
use Rattle.capnp_format.specs.Forest.{pads_of, times}
use Rattle.capnp_arena_traits.specs.Written.{with_word}
use Rattle.capnp_allocation.specs.Zeroed.{row}
use Rattle.capnp_allocation.proofs.Leading.{single_far_leads}
use Rattle.capnp_allocation.proofs.MadeWords.{is_far, not_far, outside, word_put}
use Rattle.capnp_in_place.proofs.widening.point_to_object.Goals as goal

-- The pointer is set to an object in new words.
no_row : (v r x y : ℕ) → times (row v r 0 ∷ []) x y ≡ 0
no_row v r x y = grind (arith, nat_tests)

settled_near : (S R : Segments) (u q b x : ℕ) → q < length (segment S u) → b ≤ length (segment S u) → R ≡ with_word S u q x → x ≢ 0 → kind x ≢ 2 → IsOffsetTo q (offset_bits x) b →
    IsSettled S R u q (record { word = x; segment = u; start = b; pads = 0 }) u b 0
settled_near S R u q b x place fits e some near offset =
    let put = word_put S R u q x place e in
    record {
      segments = put.segments;
      words = put.words;
      leads_there = near_leads {S = R} {s = u} {p = q} {x = x} {h = b} put.here near some (record { inside = omega (arith, fits, put.words u); offset = offset });
      pads_there = λ y z. ap (λ w. times (pads_of w) y z) put.here ∙ ap (λ is. times is y z) (not_far x near) ∙ sym (no_row u b y z);
      kept = λ y z h g. put.kept y z h;
    }

settled_far : (S U R : Segments) (u q v r x f : ℕ) → q < length (segment S u) → r + 1 ≤ length (segment S v) → (v ≡ u → q < r) → U ≡ with_word S v r x → R ≡ with_word U u q f → kind x ≢ 2 → IsOffsetTo r (offset_bits x) (r + 1) →
    kind f ≡ 2 → is_double f ≡ 0 → far_position f ≡ r → upper_half f ≡ v → IsSettled S R u q (record { word = x; segment = v; start = r + 1; pads = 1 }) v r 1
settled_far S U R u q v r x f place fits apart e h near offset far single at to =
    let pad = word_put S U v r x (omega arith) e in
    let put = word_put U R u q f (omega (arith, place, pad.words u)) h in
    let there_x : word_at R v r ≡ x = put.kept v r (outside u q v r (λ y z. omega (arith, apart y))) ∙ pad.here in
    let one : pads_of (word_at R u q) ≡ row v r 1 ∷ [] = ap pads_of put.here ∙ is_far f far ∙ rw (at, to, single) refl in
    let long : r + 1 ≤ length (segment R v) = omega (arith, fits, pad.words v, put.words v) in
    let leads_there = single_far_leads R u q f v r (r + 1) put.here far single to at (omega arith) (λ z. near (ap kind (sym there_x) ∙ z)) long (subst (λ y. IsOffsetTo r (offset_bits y) (r + 1)) (sym there_x) offset) in
    record {
      segments = put.segments ∙ pad.segments;
      words = λ y. put.words y ∙ pad.words y;
      leads_there = subst (λ y. Leads R u q (record { word = y; segment = v; start = r + 1; pads = 1 })) there_x leads_there;
      pads_there = λ y z. ap (λ is. times is y z) one;
      kept = λ y z g w. put.kept y z g ∙ pad.kept y z w;
    }

-- In the segment of the pointer.
pub returns-then-room-eq0-clause-settled : goal.returns-then-room-eq0-clause-settled
returns-then-room-eq0-clause-settled g c =
    let S : Segments = (g.A.BuilderArena.view c.args.arena.now).words in
    let R : Segments = (g.A.BuilderArena.view c.set_word.new.arena).words in
    let id : ℕ = c.args.id in
    let at : ℕ = c.args.at in
    let b : ℕ = c.args.room.at in
    let x : ℕ = c.pointer_to-word.result.0 in
    let none : c.args.room.pads ≡ 0 = search rules in
    let here : c.args.room.segment ≡ id = c.requires.near.0 none in
    let inside : b < length (segment S id) = omega (arith, c.requires.inside, none, ap (λ s. length (segment S s)) here) in
    let small : b < 2 ^ 29 = omega (arith, inside, g.met.A.BuilderArena.within c.args.arena.now id, g.met.A.BuilderArena.small c.args.arena.now id) in
    let reaches : Reaches at b = (omega (arith, small), omega (arith, c.requires.apart here)) in
    let offset : IsOffsetTo at (offset_bits x) b = subst (λ o. IsOffsetTo at o b) (sym c.pointer_to-word.ensures.offset) (reaches_offset at b reaches) in
    let shaped = c.pointer_to-word.ensures.shape in
    let t : Target = record { word = x; segment = id; start = b; pads = 0 } in
    let whole = settled_near S R id at b x c.requires.place (omega (arith, inside)) (ap words_in c.set_word.ensures) (shape_some c.args.shape x shaped c.requires.some) (shape_near c.args.shape x shaped) offset in
    settles S R (record { segment = id; at = at }) c.args.room c.args.shape t
    (subst (λ s. IsSettled S R id at t s b c.args.room.pads) (sym here) (subst (λ n. IsSettled S R id at t id b n) (sym none) whole)) shaped (sym here) (omega (arith, none))

-- Behind a landing pad.
pub returns-clause-settled : goal.returns-clause-settled
returns-clause-settled g c =
    let S : Segments = (g.A.BuilderArena.view c.args.arena.now).words in
    let U : Segments = (g.A.BuilderArena.view c.set_word-2.new.arena).words in
    let R : Segments = (g.A.BuilderArena.view c.set_word-3.new.arena).words in
    let v : ℕ = c.args.room.segment in
    let r : ℕ = c.args.room.at in
    let x : ℕ = c.pointer_to-word-2.result.0 in
    let one : c.args.room.pads ≡ 1 = omega (arith, c.requires.near.1) in
    let offset : IsOffsetTo r (offset_bits x) (r + 1) = subst (λ o. IsOffsetTo r o (r + 1)) (sym c.pointer_to-word-2.ensures.offset) (reaches_offset r (r + 1) (omega arith, omega arith)) in
    let shaped = c.pointer_to-word-2.ensures.shape in
    let t : Target = record { word = x; segment = v; start = r + 1; pads = 1 } in
    let whole = settled_far S U R c.args.id c.args.at v r x c.new_far-far.result.0 c.requires.place (omega (arith, c.requires.inside)) c.requires.apart (ap words_in c.set_word-2.ensures) (ap words_in c.set_word-3.ensures)
    (shape_near c.args.shape x shaped) offset c.new_far-far.ensures.kind_of c.new_far-far.ensures.pads c.new_far-far.ensures.position_of c.new_far-far.ensures.segment_of in
    settles S R (record { segment = c.args.id; at = c.args.at }) c.args.room c.args.shape t (subst (λ n. IsSettled S R c.args.id c.args.at t v r n) (sym one) whole) shaped refl (omega (arith, one))
