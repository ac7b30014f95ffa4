use Rattle.std.proofs.Common.{◌≡◌, ◌<◌, ◌*◌, ◌∙◌, ap, arith}
use Rattle.capnp_words.specs.Sizes.{size_number}
use Rattle.capnp_words.specs.declared.wire_pointer.ElementSize.TheVariants.{InlineComposite}
use Rattle.capnp_readers.specs.declared.readers.struct_reader.StructPlace.{StructPlace}
use Rattle.capnp_builders.specs.Places.{element_place}
use Rattle.typed_building.proofs.list.element.Goals as goal

pub element_place-requires-clause-whole : goal.element_place-requires-clause-whole
element_place-requires-clause-whole g c = λ one. absurd (let some : 0 < c.args.list.count = omega (arith, c.requires.range) in let e = ap size_number (c.requires.there.structs some) in omega (arith, e, one))

-- The element has the sections of the list's structs.
pub returns-clause-there : goal.returns-clause-there
returns-clause-there g c =
    let t = c.requires.there in
    let some : 0 < c.args.list.count = omega (arith, c.requires.range) in
    let place : c.element_place.result ≡ element_place InlineComposite c.args.list c.args.index = c.element_place.ensures.place ∙ ap (λ z. element_place z c.args.list c.args.index) (t.structs some) in
    let bits : c.element_place.result.bits ≡ 64 * c.args.list.struct_size.data_words = ap (λ (y : StructPlace). y.bits) place in
    let pointers : c.element_place.result.pointers ≡ c.args.list.struct_size.pointers = ap (λ (y : StructPlace). y.pointers) place in
    record {
      inside = c.element_place.ensures.inside (g.A.BuilderArena.view c.args.arena.now).words t.inside;
      aligned = c.element_place.ensures.aligned;
      wide = omega (arith, bits, t.wide some);
      many = omega (arith, pointers, t.many some);
    }
