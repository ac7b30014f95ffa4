use Rattle.std.proofs.Common.{◌≡◌, ◌/◌, ℕ, suc, List, length, get_or, take, subst, arith}
use Rattle.capnp_arena_traits.specs.View.{View}
use Rattle.capnp_format.specs.Segments.{segment}
use Rattle.capnp_builders.specs.Content.{content_byte}
use Rattle.capnp_builders.proofs.BytesAsFields.{Wrote, wrote_long, wrote_front, wrote_next, wrote_rest}
use Rattle.capnp_builders.proofs.builders.content.write_bytes.Goals as goal

pub set_number-requires-clause-inside : goal.set_number-requires-clause-inside
set_number-requires-clause-inside g c =
    let n : ℕ = c.min-both.result in
    let front : List ℕ = take n c.args.bytes.now in
    let long : length (segment (g.A.BuilderArena.view c.copy_bytes.new.arena).words c.args.place.segment) ≡ length (segment (g.A.BuilderArena.view c.args.arena.now).words c.args.place.segment) =
    wrote_long (g.A.BuilderArena.view c.args.arena.now) (g.A.BuilderArena.view c.copy_bytes.new.arena) c.args.place.segment c.args.place.byte (λ i. get_or front i 0) (length front) c.copy_bytes.ensures in
    omega (arith, long, c.requires.inside.1, c.if-both-count.true, c.from.ensures)

pub zero_bytes-requires : goal.zero_bytes-requires
zero_bytes-requires g c =
    let old : View = g.A.BuilderArena.view c.args.arena.now in
    let one : View = g.A.BuilderArena.view c.copy_bytes.new.arena in
    let id : ℕ = c.args.place.segment in
    let start : ℕ = c.args.place.byte in
    let bytes : List ℕ = c.args.bytes.now in
    let n : ℕ = c.min-both.result in
    let front : Wrote old one id start (content_byte c.args.bits bytes) n =
    wrote_front old one id start c.args.bits n bytes c.copy_bytes.ensures (λ j. omega (arith, c.type_inv.bytes j)) (omega (arith, c.min-both.ensures)) (omega (arith, c.min-both.ensures, c.requires.long)) in
    let two : View = g.A.BuilderArena.view c.set_number.new.arena in
    let next : Wrote old two id start (content_byte c.args.bits bytes) (suc n) =
    wrote_next old one two id start (content_byte c.args.bits bytes) n c.from.result c.content_byte-byte.result front c.set_number.ensures.written c.from.ensures c.content_byte-byte.ensures in
    record { inside = omega (arith, wrote_long old two id start (content_byte c.args.bits bytes) (suc n) next, c.requires.inside.1, c.if-both-count.true, c.from.ensures) }

pub returns-then-both-count : goal.returns-then-both-count
returns-then-both-count g c =
    let old : View = g.A.BuilderArena.view c.args.arena.now in
    let one : View = g.A.BuilderArena.view c.copy_bytes.new.arena in
    let id : ℕ = c.args.place.segment in
    let start : ℕ = c.args.place.byte in
    let bytes : List ℕ = c.args.bytes.now in
    let n : ℕ = c.min-both.result in
    let front : Wrote old one id start (content_byte c.args.bits bytes) n =
    wrote_front old one id start c.args.bits n bytes c.copy_bytes.ensures (λ j. omega (arith, c.type_inv.bytes j)) (omega (arith, c.min-both.ensures)) (omega (arith, c.min-both.ensures, c.requires.long)) in
    let two : View = g.A.BuilderArena.view c.set_number.new.arena in
    let next : Wrote old two id start (content_byte c.args.bits bytes) (suc n) =
    wrote_next old one two id start (content_byte c.args.bits bytes) n c.from.result c.content_byte-byte.result front c.set_number.ensures.written c.from.ensures c.content_byte-byte.ensures in
    wrote_rest old two (g.A.BuilderArena.view c.zero_bytes.new.arena) id start c.args.bits n (c.args.place.bits / 8) c.from.result bytes next c.zero_bytes.ensures c.from.ensures (omega (arith, c.min-both.ensures, c.if-both-count.true)) c.if-both-count.true

pub returns-else-both-count : goal.returns-else-both-count
returns-else-both-count g c =
    let old : View = g.A.BuilderArena.view c.args.arena.now in
    let one : View = g.A.BuilderArena.view c.copy_bytes.new.arena in
    let id : ℕ = c.args.place.segment in
    let start : ℕ = c.args.place.byte in
    let bytes : List ℕ = c.args.bytes.now in
    let n : ℕ = c.min-both.result in
    let front : Wrote old one id start (content_byte c.args.bits bytes) n =
    wrote_front old one id start c.args.bits n bytes c.copy_bytes.ensures (λ j. omega (arith, c.type_inv.bytes j)) (omega (arith, c.min-both.ensures)) (omega (arith, c.min-both.ensures, c.requires.long)) in
    subst (Wrote old one id start (content_byte c.args.bits bytes)) (let q : n ≡ (c.args.place.bits / 8) = omega (arith, c.min-both.ensures, c.if-both-count.false) in q) front
