use Rattle.std.proofs.Common.{◌≡◌, ap, ◌∙◌, arith, rules, refl}
use Rattle.std.proofs.lemmas.Int.{to_z-of_z}
use mir.Syntax.{w32}
use Rattle.capnp_format.specs.Bytes.{words_of}
use Rattle.capnp_format.specs.Numbers.{words_for, unpacked}
use Rattle.capnp_format.specs.Tree.{Flat}
use Rattle.capnp_format.specs.Word.{kind, element_size, list_count}
use Rattle.capnp_words.specs.Sizes.{size_number}
use Rattle.capnp_words.specs.declared.wire_pointer.ElementSize.{ElementSize}
use Rattle.capnp_pointers.specs.declared.object.Place.{Place}
use Rattle.capnp_pointers.specs.declared.object.Object.TheVariants.{Flat as ObjectFlat}
use Rattle.capnp_pointers.specs.Objects.{IsObject}
use Rattle.capnp_pointers.specs.Reading.{Reading, word_of}
use Rattle.capnp_pointers.specs.declared.object.Purpose.TheVariants.{Value}
use Rattle.capnp_pointers.specs.Pointers.{reading}
use Rattle.std.proofs.lemmas.Result.{err_from_is_err_and}
use Rattle.capnp_copies.proofs.FlatRead.{word_count-flat}
use Rattle.capnp_copies.proofs.FilledValues.{read_stops, FlatOutcome, flat_value, flat_stops}
use Rattle.capnp_copies.proofs.Growth.{taken_so, read_stop_taken, flat_takes, flat_stop_takes}
use Rattle.capnp_pointers.proofs.Following.NearByWord.{flat_by_word}
use Rattle.capnp_copies.proofs.copy.children.copy_near_primitive_list.Goals as goal

pub returns-in_err-start : goal.returns-in_err-start
returns-in_err-start g c =
    let nl = to_z-of_z w32 c.args.from.nesting_limit (search rules) in
    let p = err_from_is_err_and c.from_residual.result c.from_residual.ensures.1 in
    λ form. record {
      copied = rw p.1 tt;
      refused = rw (p.1, p.2) (read_stops c.requires.place.place c.requires.place.null (rw nl at c.in_err-start.ensures.refused));
      taken = rw p.1 (read_stop_taken (rw nl at c.in_err-start.ensures.refused));
    }

pub returns : goal.returns
returns g c =
    let r : Reading = reading g.B.ReaderArena c.args.from in
    let nl = to_z-of_z w32 c.args.from.nesting_limit (search rules) in
    let near : kind (word_of r) ≡ 1 = rw c.requires.word.there at c.requires.is_list in
    let start : Place = record c.args.from.place { at = c.in_ok-start.start } in
    let size : ElementSize = c.list_element_size-size.result in
    let width : size_number size ≡ element_size (word_of r) = c.list_element_size-size.ensures ∙ ap element_size c.requires.word.there in
    let many : c.list_element_count-count.result ≡ list_count (word_of r) = c.list_element_count-count.ensures.value ∙ ap list_count c.requires.word.there in
    let object : IsObject Value r c.args.lim.now c.read_near_primitive_list.new.lim (ObjectFlat start size c.list_element_count-count.result) = flat_by_word start size c.list_element_count-count.result (near, rw c.requires.word.there at c.requires.of_bits.1) c.args.from.held refl (rw nl at c.in_ok-start.ensures.object) width many in
    let outcome : FlatOutcome c.copy_primitive_list.result c.args.to.segment c.args.to.at (words_for (size_number size) c.list_element_count-count.result) (g.A.BuilderArena.view c.args.arena.now) (g.A.BuilderArena.view c.copy_primitive_list.new.arena) (Flat (size_number size) (unpacked (size_number size) c.list_element_count-count.result (words_of c.word_range-elements.result.now))) =
    record { copied = c.copy_primitive_list.ensures.copied; granted = c.copy_primitive_list.ensures.granted; refused = c.copy_primitive_list.ensures.refused; kept = c.copy_primitive_list.ensures.kept; memory = c.copy_primitive_list.ensures.memory; stands = c.copy_primitive_list.ensures.stands; fits = λ room. c.copy_primitive_list.ensures.fits (omega (arith, room, word_count-flat (size_number size) c.list_element_count-count.result (words_of c.word_range-elements.result.now))) } in
    λ form. record {
      copied = flat_value form c.copy_primitive_list.result start size object c.words_for_elements-words.ensures c.word_range-elements.ensures.words outcome;
      refused = flat_stops form c.copy_primitive_list.result start size object c.words_for_elements-words.ensures c.word_range-elements.ensures.words (c.requires.place.place, c.requires.place.null) outcome;
      taken = taken_so c.copy_primitive_list.result _ _ _ _ (λ made. flat_takes size start object made) (λ none. flat_stop_takes size start object none) c.copy_primitive_list.ensures.taken;
    }
