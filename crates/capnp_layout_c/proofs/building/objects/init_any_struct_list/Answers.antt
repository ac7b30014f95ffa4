use Rattle.std.proofs.Common.{◌+◌, ◌*◌, refl, sym, subst, rules, arith}
use Rattle.std.specs.Prelude.{Ok, Err}
use Rattle.capnp_words.specs.Sizes.{sized}
use Rattle.capnp_allocation.specs.Made.{nulls, words_of_zero, zero_elements, zero_structs}
use Rattle.capnp_readers.specs.declared.readers.struct_reader.StructPlace.{StructPlace}
use Rattle.capnp_builders.specs.Held.{HasStruct, element_of}
use Rattle.capnp_builders.specs.Places.{element_place}
use Rattle.capnp_layout_c.specs.Buffers.{sized_at, placed_struct}
use Rattle.capnp_layout_c.proofs.BuildingCalls.{Tie, element_segment, element_start, gives_built, in_buffer, kept_at, list_byte, made_at, place_there, view}
use Rattle.capnp_layout_c.proofs.building.objects.init_any_struct_list.Goals as goal

pub init_struct_list-result-requires-clause-inside : goal.init_struct_list-result-requires-clause-inside
init_struct_list-result-requires-clause-inside c =
    place_there c.new-arena.result c.args.used.now c.args.place c.place.result c.new-arena.ensures.used
    (c.has_pointer.ensures.0 (search rules)).0.1 c.place.ensures

pub word_of-requires : goal.word_of-requires
word_of-requires c = list_byte c.init_struct_list-result.new.arena c.in-Ok.made c.in-Ok.ensures.inside

pub returns-in-Ok-clause-builds : goal.returns-in-Ok-clause-builds
returns-in-Ok-clause-builds c _ _ _ =
    let a = c.new-arena.result in
    let b = c.init_struct_list-result.new.arena in
    let tie : Tie a b c.args.bytes.now _ c.args.used.now c.used.result = record {
      lent = _;
      is = c.new-arena.ensures.bytes;
      was = refl;
      from_is = c.new-arena.ensures.used;
      fresh = c.new-arena.ensures.refused;
      used_is = sym c.used.ensures;
      back = c.bytes-1.given.1.1;
    } in
    let e = c.in-Ok.ensures in
    gives_built tie (Ok c.in-Ok.made) c.place.result c.args.place c.args.index (zero_structs c.args.count (sized c.args.data_words c.args.pointers)) _ 0 c.place.ensures refl e.object e.child e.grows

pub returns-in-Err-clause-builds : goal.returns-in-Err-clause-builds
returns-in-Err-clause-builds c _ _ _ =
    let a = c.new-arena.result in
    let b = c.init_struct_list-result.new.arena in
    let tie : Tie a b c.args.bytes.now _ c.args.used.now c.used.result = record {
      lent = _;
      is = c.new-arena.ensures.bytes;
      was = refl;
      from_is = c.new-arena.ensures.used;
      fresh = c.new-arena.ensures.refused;
      used_is = sym c.used.ensures;
      back = c.bytes-1.given.1.1;
    } in
    let e = c.in-Err.ensures in
    gives_built tie (Err c.in-Err.kind) c.place.result c.args.place c.args.index (zero_structs c.args.count (sized c.args.data_words c.args.pointers)) _ _ c.place.ensures c.number_of.ensures.number e.object e.child e.grows

pub returns-in-Ok-clause-made : goal.returns-in-Ok-clause-made
returns-in-Ok-clause-made c x ws ts i below has _ =
    let a = c.new-arena.result in
    let b = c.init_struct_list-result.new.arena in
    let tie : Tie a b c.args.bytes.now _ c.args.used.now c.used.result = record {
      lent = _;
      is = c.new-arena.ensures.bytes;
      was = refl;
      from_is = c.new-arena.ensures.used;
      fresh = c.new-arena.ensures.refused;
      used_is = sym c.used.ensures;
      back = c.bytes-1.given.1.1;
    } in
    let list = c.in-Ok.made in
    let p = c.args.place in
    let d = c.args.data_words in
    let q = c.args.pointers in
    let e = c.in-Ok.ensures in
    in_buffer tie (λ S T. HasStruct S x (placed_struct p) ws ts → HasStruct T
    (element_of 0 (p.at + p.data_words + c.args.index) (sized d q) (zero_elements d q c.args.count) i)
    (placed_struct (sized_at (c.word_of.result + i * (d + q)) d q)) (words_of_zero d) (nulls q))
    (kept_at tie (Ok list) c.place.result.segment (c.place.result.pointers_at + c.args.index) _ _ e.object)
    (λ h. made_at (view b).words (element_of 0 (p.at + p.data_words + c.args.index) (sized d q) (zero_elements d q c.args.count) i)
    (element_place list.size list i) (c.word_of.result + i * (d + q)) d q
    (element_segment list i e.size e.inside.0) (element_start list i c.word_of.result (sized d q) e.size e.sections c.word_of.ensures)
    (subst (λ (y : StructPlace). HasStruct (view b).words (element_of y.segment (y.pointers_at + c.args.index) (sized d q) (zero_elements d q c.args.count) i)
    (element_place list.size list i) (words_of_zero d) (nulls q))
    c.place.ensures (e.made x ws ts i below (rw c.place.ensures h))))
    has

pub returns-in-Err-clause-made : goal.returns-in-Err-clause-made
returns-in-Err-clause-made c x ws ts i below has none = absurd (omega (arith, none, c.number_of.ensures.some))
