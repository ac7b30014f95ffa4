use Rattle.std.proofs.Common.{◌≡◌, ◌+◌, ◌*◌, ◌≤◌, ℕ, length, replicate, refl, sym, ap, ◌∙◌, arith, rules}
use Rattle.std.proofs.lemmas.Bool.{false≢true}
use Rattle.std.specs.Prelude.{Ok}
use Rattle.capnp_format.specs.Canonical.{Reaches}
use Rattle.capnp_format.specs.Means.{IsTag}
use Rattle.capnp_format.specs.Segments.{Segments, Target, segment}
use Rattle.capnp_arena_traits.specs.View.{View}
use Rattle.capnp_arena_traits.specs.Written.{with_word}
use Rattle.capnp_arena_traits.specs.declared.arena.WordPlace.{WordPlace}
use Rattle.capnp_allocation.specs.Made.{IsGrown, IsMade, IsShape, zero_structs}
use Rattle.capnp_allocation.specs.Memory.{Lengthens}
use Rattle.capnp_allocation.specs.declared.making.Shape.{Shape}
use Rattle.capnp_allocation.specs.declared.making.Shape.TheVariants.{List as ListShape}
use Rattle.capnp_words.specs.declared.wire_pointer.ElementSize.TheVariants.{InlineComposite}
use Rattle.capnp_allocation.proofs.MadeWords.{extended_grown, made_near, word_put}
use Rattle.capnp_allocation.proofs.Memory.{keeps_written, limits_again, limits_written, words_in}
use Rattle.capnp_allocation.proofs.Objects.{null_done}
use Rattle.capnp_allocation.proofs.PlacedStructs.{IsListMade, structs_lead, structs_made}
use Rattle.capnp_allocation.proofs.Shapes.{shape_near, shape_some}
use Rattle.capnp_allocation.proofs.Taken.{extended_lengthens, lengthens_written}
use Rattle.capnp_allocation.proofs.Zeros.{pruned_itself, there}
use Rattle.capnp_in_place.proofs.Room.MadeAfterZeroing.{gives_after_zeros}
use Rattle.capnp_layout_c.proofs.building.near.put_structs.Goals as goal

-- The words of the list are allocated after those of the segment, and then its pointer and its tag
-- are written.
pub returns-in-Some-clause-gives : goal.returns-in-Some-clause-gives
returns-in-Some-clause-gives g c =
    let old : View = g.A.BuilderArena.view c.args.arena.now in
    let mid : View = g.A.BuilderArena.view c.allocate.new.self in
    let led : View = g.A.BuilderArena.view c.set_word.new.arena in
    let new : View = g.A.BuilderArena.view c.set_word-in-Some.new.arena in
    let id : ℕ = c.args.id in
    let at : ℕ = c.args.at in
    let w : ℕ = c.args.count * (c.args.size.data_words + c.args.size.pointers) in
    let b : ℕ = length (segment old.words id) in
    let x : ℕ = c.pointer_to-pointer.result.0 in
    let y : ℕ = c.new_tag-tag.result.0 in
    let same : c.args.count * c.total.result ≡ w = ap (λ i. c.args.count * i) c.total.ensures in
    let (start, made) = c.in-Some.ensures.taken in
    let room = c.requires.room in
    let shape : Shape = ListShape InlineComposite (c.args.count * c.total.result) in
    let shaped : IsShape shape x = c.pointer_to-pointer.ensures.shape in
    let grown : IsGrown old.words mid.words id b (1 + w) = rw (made, same) (extended_grown old.words id (1 + w) (there old.words id at c.requires.place)) in
    let near : Reaches at b = (omega (arith, room, g.met.A.BuilderArena.small c.args.arena.now id), omega (arith, c.requires.place)) in
    let a : Target = record { word = x; segment = id; start = b; pads = 0 } in
    let m : IsMade old.words led.words id at a (1 + w) =
    made_near old.words mid.words led.words id at (1 + w) x c.requires.place grown (ap words_in c.set_word.ensures) (shape_some shape x shaped (search rules)) (shape_near shape x shaped) near (rw start at c.pointer_to-pointer.ensures.offset) in
    let list : IsListMade old.words led.words id at a w = record { made = m; is_list = shaped.0; is_size = shaped.1; counts = shaped.2 ∙ same } in
    let tag : IsTag y c.args.count c.args.size.data_words c.args.size.pointers = record { is_struct = c.new_tag-tag.ensures.kind_of; counts = c.new_tag-tag.ensures.bits_of; data_of = c.new_tag-tag.ensures.data_of; pointers = c.new_tag-tag.ensures.pointers_of } in
    let written : new.words ≡ with_word led.words id b y = ap words_in c.set_word-in-Some.ensures ∙ ap (λ i. with_word led.words id i y) start in
    let lead = structs_lead old.words led.words new.words id at w y a c.requires.place m written in
    let first = word_put mid.words led.words id at x (omega (arith, c.requires.place, grown.grows.words id)) (ap words_in c.set_word.ensures) in
    let second = word_put led.words new.words id b y (omega (arith, m.claims)) written in
    let longer : Lengthens old.words mid.words id (1 + w) = rw (made, same) (extended_lengthens old.words id (1 + w) (there old.words id at c.requires.place)) in
    let long : Lengthens old.words new.words id (1 + w) = lengthens_written old.words mid.words new.words id (1 + w) longer (second.segments ∙ first.segments) (λ v. second.words v ∙ first.words v) in
    let whole = limits_again old mid new (limits_written old mid _ made) (limits_again mid led new (limits_written mid led _ c.set_word.ensures) (limits_written led new _ c.set_word-in-Some.ensures)) in
    let h : WordPlace = record { segment = id; at = c.in-Some.start } in
    gives_after_zeros (Ok h) old old new id at (1 + w) (zero_structs c.args.count c.args.size)
    (record { zeroed = λ u e. null_done old.words id at u c.requires.null e; pruned = pruned_itself old.words; limits = refl })
    (structs_made old.words led.words new.words id at c.args.size.data_words c.args.size.pointers c.args.count y a c.requires.place list tag written)
    (record {
      leads = (sym (ap (λ z. z.segment) lead), start ∙ sym (ap (λ z. z.start) lead));
      inside = (omega (arith, m.exists, second.segments), omega (arith, start, m.claims, second.words id));
      behind = record { near = λ _ _. (refl, start); far = λ full. absurd (omega (arith, full, room)) };
    })
    (record {
      fits = λ _. refl;
      granted = keeps_written old new new.words whole;
      taken = record { near = λ _. long; far = λ full. absurd (omega (arith, full, room)) };
      named = tt;
    })
    tt

pub returns-in-None-clause-gives : goal.returns-in-None-clause-gives
returns-in-None-clause-gives g c =
    let same : c.args.count * c.total.result ≡ c.args.count * (c.args.size.data_words + c.args.size.pointers) = ap (λ i. c.args.count * i) c.total.ensures in
    absurd (false≢true (c.in-None.ensures.exactly.1 (omega (arith, c.requires.room, same))))
