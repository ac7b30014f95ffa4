use Rattle.std.proofs.Common.{◌+◌, refl, sym, ◌∙◌, subst, rules, arith}
use Rattle.std.specs.Prelude.{Ok, Err}
use Rattle.capnp_words.specs.Sizes.{size_number}
use Rattle.capnp_allocation.specs.Made.{list_words, zero_list}
use Rattle.capnp_allocation.specs.Makes.{MakesObject, call_at}
use Rattle.capnp_readers.specs.declared.readers.list_reader.ListPlace.{ListPlace}
use Rattle.capnp_readers.specs.declared.readers.struct_reader.StructPlace.{StructPlace}
use Rattle.capnp_in_place.specs.Existing.{size_of}
use Rattle.capnp_builders.specs.Held.{HasList, HasStruct, MakesChild, call_in}
use Rattle.capnp_layout_c.specs.Buffers.{placed_list, placed_struct}
use Rattle.capnp_layout_c.specs.Lists.{listed_at}
use Rattle.capnp_layout_c.proofs.BuildingCalls.{Tie, gives_built, in_buffer, kept_at, list_byte, place_there, view}
use Rattle.capnp_layout_c.proofs.BuildingLists.{list_made_at}
use Rattle.capnp_layout_c.proofs.building.objects.capnp_layout_init_list.Goals as goal

pub init_list-result-requires-clause-inside : goal.init_list-result-requires-clause-inside
init_list-result-requires-clause-inside c =
    place_there c.new-arena.result c.args.used.now c.args.place c.place.result c.new-arena.ensures.used
    (c.has_pointer.ensures.0 (search rules)).0.1 c.place.ensures

pub word_of-requires : goal.word_of-requires
word_of-requires c = list_byte c.init_list-result.new.arena c.in-Ok.made c.in-Ok.ensures.inside

pub returns-in-Ok-clause-builds : goal.returns-in-Ok-clause-builds
returns-in-Ok-clause-builds c _ _ _ =
    let a = c.new-arena.result in
    let b = c.init_list-result.new.arena in
    let tie : Tie a b c.args.bytes.now _ c.args.used.now c.used.result = record {
      lent = _;
      is = c.new-arena.ensures.bytes;
      was = refl;
      from_is = c.new-arena.ensures.used;
      fresh = c.new-arena.ensures.refused;
      used_is = sym c.used.ensures;
      back = c.bytes-1.given.1.1;
    } in
    let e = c.in-Ok.ensures in
    let place = c.place.result in
    let i = c.args.index in
    gives_built tie (Ok c.in-Ok.made) place c.args.place i (zero_list c.args.size c.args.count) (list_words c.args.size c.args.count) 0 c.place.ensures refl
    (subst (λ n. MakesObject {A = ListPlace} (Ok c.in-Ok.made) (call_at place.segment (place.pointers_at + i) (view a) (view b)) (zero_list n c.args.count) (list_words n c.args.count))
    c.element_size-size.ensures.number e.object)
    (subst (λ n. MakesChild {V = ListPlace} (Ok c.in-Ok.made) (call_in place (view a).words (view b).words) i (zero_list n c.args.count)) c.element_size-size.ensures.number e.child)
    e.grows

pub returns-in-Err-clause-builds : goal.returns-in-Err-clause-builds
returns-in-Err-clause-builds c _ _ _ =
    let a = c.new-arena.result in
    let b = c.init_list-result.new.arena in
    let tie : Tie a b c.args.bytes.now _ c.args.used.now c.used.result = record {
      lent = _;
      is = c.new-arena.ensures.bytes;
      was = refl;
      from_is = c.new-arena.ensures.used;
      fresh = c.new-arena.ensures.refused;
      used_is = sym c.used.ensures;
      back = c.bytes-1.given.1.1;
    } in
    let e = c.in-Err.ensures in
    let place = c.place.result in
    let i = c.args.index in
    gives_built tie (Err c.in-Err.kind) place c.args.place i (zero_list c.args.size c.args.count) (list_words c.args.size c.args.count) c.number_of.result c.place.ensures c.number_of.ensures.number
    (subst (λ n. MakesObject {A = ListPlace} (Err c.in-Err.kind) (call_at place.segment (place.pointers_at + i) (view a) (view b)) (zero_list n c.args.count) (list_words n c.args.count))
    c.element_size-size.ensures.number e.object)
    (subst (λ n. MakesChild {V = ListPlace} (Err c.in-Err.kind) (call_in place (view a).words (view b).words) i (zero_list n c.args.count)) c.element_size-size.ensures.number e.child)
    e.grows

pub returns-in-Ok-clause-made : goal.returns-in-Ok-clause-made
returns-in-Ok-clause-made c x ws ts has _ =
    let a = c.new-arena.result in
    let b = c.init_list-result.new.arena in
    let tie : Tie a b c.args.bytes.now _ c.args.used.now c.used.result = record {
      lent = _;
      is = c.new-arena.ensures.bytes;
      was = refl;
      from_is = c.new-arena.ensures.used;
      fresh = c.new-arena.ensures.refused;
      used_is = sym c.used.ensures;
      back = c.bytes-1.given.1.1;
    } in
    let list = c.in-Ok.made in
    let p = c.args.place in
    let n = c.args.size in
    let e = c.in-Ok.ensures in
    let sized = c.element_size-size.ensures.number in
    in_buffer tie (λ S T. HasStruct S x (placed_struct p) ws ts → HasList T 0 (p.at + p.data_words + c.args.index)
    (placed_list (size_of n) (listed_at c.word_of.result c.args.count)) (zero_list n c.args.count))
    (kept_at tie (Ok list) c.place.result.segment (c.place.result.pointers_at + c.args.index) _ _ e.object)
    (λ h. list_made_at (view b).words (p.at + p.data_words + c.args.index) list (size_of n) c.word_of.result c.args.count (zero_list n c.args.count)
    (let inside = e.inside.0 in omega (arith, inside)) (e.size ∙ c.element_size-size.ensures.is) e.count c.word_of.ensures
    (subst (λ k. HasList (view b).words 0 (p.at + p.data_words + c.args.index) list (zero_list k c.args.count)) sized
    (subst (λ (y : StructPlace). HasList (view b).words y.segment (y.pointers_at + c.args.index) list (zero_list (size_number c.element_size-size.result) c.args.count))
    c.place.ensures (e.made x ws ts (rw c.place.ensures h)))))
    has

pub returns-in-Err-clause-made : goal.returns-in-Err-clause-made
returns-in-Err-clause-made c x ws ts has none = absurd (omega (arith, none, c.number_of.ensures.some))
