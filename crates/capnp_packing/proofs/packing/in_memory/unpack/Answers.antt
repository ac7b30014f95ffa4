use Rattle.std.proofs.Common.{◌≡◌, ◌∙◌, Some, inr, refl, sym, ap, length, arith, length-append, rules}
use Rattle.std.specs.Prelude.{slice_range}
use Rattle.std.specs.Io.KnownBytes.{prepend_known}
use Rattle.capnp_packing.specs.declared.packing.place.Place.TheVariants.{Tag}
use Rattle.capnp_packing.proofs.MemoryLemmas.{all_unpacked, more_unpacked}
use Rattle.capnp_packing.proofs.packing.in_memory.unpack.Goals as goal

pub returns-then-is_whole-clause-bytes : goal.returns-then-is_whole-clause-bytes
returns-then-is_whole-clause-bytes c =
    let tag : c.unpack_more.new.input.place ≡ Tag = search rules in
    let end = c.in_ok-n.ensures.end c.if-n-eq0.true in
    let more = c.in_ok-n.ensures.bytes in
    let all = all_unpacked c.args.packed.now c.unpack_more.new.bytes.items c.unpack_more.new.input.zeros c.unpack_more.new.input.place
    (prepend_known (slice_range c.unpack_more.new.input.packed.bytes c.unpack_more.new.input.packed.at c.unpack_more.new.input.packed.end) (Some c.unpack_more.new.input.packed.input.bytes.now)) end.0 end.1
    (more_unpacked c.args.packed.now c.loop-input.bytes.items c.unpack_more.new.bytes.items c.loop-input.input.zeros c.unpack_more.new.input.zeros
    c.loop-input.input.place c.unpack_more.new.input.place (prepend_known (slice_range c.loop-input.input.packed.bytes c.loop-input.input.packed.at c.loop-input.input.packed.end) (Some c.loop-input.input.packed.input.bytes.now))
    (prepend_known (slice_range c.unpack_more.new.input.packed.bytes c.unpack_more.new.input.packed.at c.unpack_more.new.input.packed.end) (Some c.unpack_more.new.input.packed.input.bytes.now)) more.0 more.2 c.loop-input.invariant (more.3, c.in_ok-n.ensures.place)) in
    (all.0, all.1 ∙ tag)

pub returns-then-n-eq0-clause-refused : goal.returns-then-n-eq0-clause-refused
returns-then-n-eq0-clause-refused c =
    let end = c.in_ok-n.ensures.end c.if-n-eq0.true in
    let more = c.in_ok-n.ensures.bytes in
    let all = all_unpacked c.args.packed.now c.unpack_more.new.bytes.items c.unpack_more.new.input.zeros c.unpack_more.new.input.place
    (prepend_known (slice_range c.unpack_more.new.input.packed.bytes c.unpack_more.new.input.packed.at c.unpack_more.new.input.packed.end) (Some c.unpack_more.new.input.packed.input.bytes.now)) end.0 end.1
    (more_unpacked c.args.packed.now c.loop-input.bytes.items c.unpack_more.new.bytes.items c.loop-input.input.zeros c.unpack_more.new.input.zeros
    c.loop-input.input.place c.unpack_more.new.input.place (prepend_known (slice_range c.loop-input.input.packed.bytes c.loop-input.input.packed.at c.loop-input.input.packed.end) (Some c.loop-input.input.packed.input.bytes.now))
    (prepend_known (slice_range c.unpack_more.new.input.packed.bytes c.unpack_more.new.input.packed.at c.unpack_more.new.input.packed.end) (Some c.unpack_more.new.input.packed.input.bytes.now)) more.0 more.2 c.loop-input.invariant (more.3, c.in_ok-n.ensures.place)) in
    inr (inr (
      refl,
      (λ whole. let e = rw c.if-is_whole.false at (c.is_whole.ensures.1 (end.0, sym all.1 ∙ whole)) in cc),
      omega (arith, ap length all.0, ap length more.2, length-append c.loop-input.bytes.items more.0, more.1, c.if-n-eq0.true),
    ))
