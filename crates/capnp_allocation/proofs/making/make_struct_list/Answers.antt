use Rattle.std.proofs.Common.{◌≡◌, ◌+◌, ◌*◌, ◌∷◌, ℕ, replicate, ap, sym, ap₂, ◌∙◌, refl, rules, arith}
use Rattle.capnp_format.specs.Means.{IsTag}
use Rattle.capnp_format.specs.Segments.{Segments}
use Rattle.capnp_arena_traits.specs.Written.{with_word}
use Rattle.capnp_format.specs.Word.{list_word}
use Rattle.capnp_allocation.specs.Near.{HasOwnRoom, StartsAtEnd, offset_to_end, with_object}
use Rattle.capnp_allocation.proofs.NearMade.{first_put, long_as}
use Rattle.capnp_allocation.proofs.Memory.{words_in}
use Rattle.capnp_allocation.proofs.MadeWords.{word_put}
use Rattle.capnp_allocation.proofs.PlacedStructs.{IsListMade, structs_made, structs_lead}
use Rattle.capnp_allocation.proofs.Taken.{takes_written}
use Rattle.capnp_allocation.proofs.making.make_struct_list.Goals as goal

-- The words of the list are allocated, and its tag is written.
pub returns-clause-made : goal.returns-clause-made
returns-clause-made g c =
    let S : Segments = (g.A.BuilderArena.view c.args.arena.now).words in
    let M : Segments = (g.A.BuilderArena.view c.make_object.new.arena).words in
    let R : Segments = (g.A.BuilderArena.view c.set_word.new.arena).words in
    let (a, m, shape, is_segment, is_start) = c.in_ok-start.ensures.made in
    let x : ℕ = c.new_tag-tag.result.0 in
    let list : IsListMade S M c.args.id c.args.at a (c.args.count * (c.args.size.data_words + c.args.size.pointers)) =
    rw (sym c.total.ensures) (record { made = m; is_list = shape.0; is_size = shape.1; counts = shape.2 }) in
    let tag : IsTag x c.args.count c.args.size.data_words c.args.size.pointers = record { is_struct = c.new_tag-tag.ensures.kind_of; counts = c.new_tag-tag.ensures.bits_of; data_of = c.new_tag-tag.ensures.data_of; pointers = c.new_tag-tag.ensures.pointers_of } in
    let written : R ≡ with_word M a.segment a.start x = ap words_in c.set_word.ensures ∙ ap₂ (λ u b. with_word M u b x) is_segment is_start in
    structs_made S M R c.args.id c.args.at c.args.size.data_words c.args.size.pointers c.args.count x a c.requires.place list tag written

pub returns-clause-start : goal.returns-clause-start
returns-clause-start g c =
    let S : Segments = (g.A.BuilderArena.view c.args.arena.now).words in
    let M : Segments = (g.A.BuilderArena.view c.make_object.new.arena).words in
    let (a, m, shape, is_segment, is_start) = c.in_ok-start.ensures.made in
    let written = ap words_in c.set_word.ensures ∙ ap₂ (λ u b. with_word M u b c.new_tag-tag.result.0) is_segment is_start in
    let there = structs_lead S M _ c.args.id c.args.at (c.args.count * c.total.result) c.new_tag-tag.result.0 a c.requires.place m written in
    record {
      leads = (is_segment ∙ sym (ap (λ b. b.segment) there), is_start ∙ sym (ap (λ b. b.start) there));
      inside = search rules;
      behind = rw c.total.ensures at c.in_ok-start.ensures.behind;
    }

pub returns-clause-memory : goal.returns-clause-memory
returns-clause-memory g c =
    let (a, m, shape, is_segment, is_start) = c.in_ok-start.ensures.made in
    let M : Segments = (g.A.BuilderArena.view c.make_object.new.arena).words in
    let put = word_put M (g.A.BuilderArena.view c.set_word.new.arena).words c.in_ok-start.start.segment c.in_ok-start.start.at c.new_tag-tag.result.0 (rw (is_segment, is_start) (omega (arith, m.claims))) (ap words_in c.set_word.ensures) in
    record {
      fits = λ room. refl;
      granted = search rules;
      taken = takes_written _ _ _ c.args.id _ (rw c.total.ensures at c.in_ok-start.ensures.memory.taken) put.segments put.words;
      named = tt;
    }

pub returns-clause-near : goal.returns-clause-near
returns-clause-near g c = λ room.
    (let S : Segments = (g.A.BuilderArena.view c.args.arena.now).words in
    let id : ℕ = c.args.id in
    let w : ℕ = c.args.size.data_words + c.args.size.pointers in
    let n : ℕ = c.args.count * c.total.result in
    let same : n ≡ c.args.count * w = ap (λ i. c.args.count * i) c.total.ensures in
    let fits : HasOwnRoom (g.A.BuilderArena.view c.args.arena.now) id (1 + n) = omega (arith, room, same) in
    let start : StartsAtEnd S id c.in_ok-start.start = c.in_ok-start.ensures.at_end fits in
    let tag : ℕ = c.new_tag-tag.result.0 in
    let x : ℕ = list_word (offset_to_end S id c.args.at) 7 n in
    let T : Segments = with_word S id c.args.at x in
    ap words_in c.set_word.ensures ∙ ap₂ (λ M b. with_word M b c.in_ok-start.start.at tag) (c.in_ok-start.ensures.near fits) start.0
    ∙ first_put T id n tag (start.1 ∙ sym (long_as S id c.args.at x))
    ∙ ap₂ (λ y m. with_object S id c.args.at (list_word (offset_to_end S id c.args.at) 7 m) (y ∷ replicate m 0)) c.new_tag-tag.ensures.word same)
