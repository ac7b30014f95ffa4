use Rattle.std.proofs.Common.{◌≡◌, ℕ, ◌+◌, ◌*◌, ◌/◌, ◌%◌, ◌^◌, length, ap, ap₂, ◌∙◌, arith}
use Rattle.capnp_arena_traits.specs.View.{View}
use Rattle.capnp_format.specs.Segments.{Segments, segment}
use Rattle.capnp_readers.specs.declared.readers.struct_reader.StructPlace.{StructPlace}
use Rattle.capnp_builders.specs.Content.{content_byte, with_fields, fields_from}
use Rattle.capnp_builders.proofs.ContentWritten.{fields_long}
use Rattle.capnp_builders.proofs.builders.content.write_content.Goals as goal

pub write_bits-requires-clause-inside : goal.write_bits-requires-clause-inside
write_bits-requires-clause-inside g c =
    let M : Segments = (g.A.BuilderArena.view c.args.arena.now).words in
    let place : StructPlace = c.args.place in
    let long : length (segment (g.A.BuilderArena.view c.write_bytes.new.arena).words place.segment) ≡ length (segment M place.segment) =
    ap (λ (v : View). length (segment v.words place.segment)) c.write_bytes.ensures ∙ fields_long M place.segment (8 * place.byte) 8 (content_byte c.args.bits c.args.bytes.now) (place.bits / 8) place.segment in
    omega (arith, long, c.requires.inside.1, c.from.ensures)

pub returns-then-left-gt0 : goal.returns-then-left-gt0
returns-then-left-gt0 g c =
    let old : View = g.A.BuilderArena.view c.args.arena.now in
    let place : StructPlace = c.args.place in
    let written : Segments = with_fields old.words place.segment (fields_from (8 * place.byte) 8 (content_byte c.args.bits c.args.bytes.now)) (place.bits / 8) in
    c.write_bits.ensures
    ∙ ap (λ (v : View). record v { words = with_fields v.words place.segment (fields_from (8 * place.byte + c.from.result * 8) 1 (λ j. c.content_byte-byte.result / 2 ^ j % 2)) (place.bits % 8) }) c.write_bytes.ensures
    ∙ ap₂ (λ (n x : ℕ). record old { words = with_fields written place.segment (fields_from (8 * place.byte + n * 8) 1 (λ j. x / 2 ^ j % 2)) (place.bits % 8) }) c.from.ensures c.content_byte-byte.ensures
