use Rattle.std.proofs.Common.{refl, sym, arith}
use Rattle.std.specs.Prelude.{Ok, Err}
use Rattle.capnp_words.specs.Sizes.{sized}
use Rattle.capnp_allocation.specs.Made.{nulls, words_of_zero, zero_struct}
use Rattle.capnp_allocation.specs.Stored.{IsStored}
use Rattle.capnp_builders.specs.Held.{HasStruct, pointer_to}
use Rattle.capnp_layout_c.specs.Buffers.{sized_at, placed_struct}
use Rattle.capnp_layout_c.specs.Builds.{BuildsRoot}
use Rattle.capnp_layout_c.proofs.BuildingCalls.{Tie, gives_what, in_buffer, kept_at, made_at, struct_byte, view}
use Rattle.capnp_layout_c.proofs.building.objects.capnp_layout_init_root.Goals as goal

pub word_of-requires : goal.word_of-requires
word_of-requires c = struct_byte c.init_root-result.new.arena c.in-Ok.made c.in-Ok.ensures.inside

pub returns-in-Ok-clause-builds : goal.returns-in-Ok-clause-builds
returns-in-Ok-clause-builds c _ =
    let a = c.new-arena.result in
    let b = c.init_root-result.new.arena in
    let tie : Tie a b c.args.bytes.now _ c.args.used.now c.used.result = record {
      lent = _;
      is = c.new-arena.ensures.bytes;
      was = refl;
      from_is = c.new-arena.ensures.used;
      fresh = c.new-arena.ensures.refused;
      used_is = sym c.used.ensures;
      back = c.bytes-1.given.1.1;
    } in
    let e = c.in-Ok.ensures in
    gives_what tie (Ok c.in-Ok.made) 0 (BuildsRoot (zero_struct (sized c.args.data_words c.args.pointers)) _)
    (kept_at tie (Ok c.in-Ok.made) 0 0 _ _ e.object) refl (record { object = e.object; grows = e.grows })

pub returns-in-Ok-clause-made : goal.returns-in-Ok-clause-made
returns-in-Ok-clause-made c t stored _ =
    let a = c.new-arena.result in
    let b = c.init_root-result.new.arena in
    let tie : Tie a b c.args.bytes.now _ c.args.used.now c.used.result = record {
      lent = _;
      is = c.new-arena.ensures.bytes;
      was = refl;
      from_is = c.new-arena.ensures.used;
      fresh = c.new-arena.ensures.refused;
      used_is = sym c.used.ensures;
      back = c.bytes-1.given.1.1;
    } in
    let place = c.in-Ok.made in
    in_buffer tie (λ S T. IsStored S 0 0 t → HasStruct T (pointer_to 0 0)
    (placed_struct (sized_at c.word_of.result c.args.data_words c.args.pointers)) (words_of_zero c.args.data_words) (nulls c.args.pointers))
    (kept_at tie (Ok place) 0 0 _ _ c.in-Ok.ensures.object)
    (λ s. made_at (view b).words (pointer_to 0 0) place c.word_of.result c.args.data_words c.args.pointers
    (omega (arith, c.in-Ok.ensures.inside.0)) c.word_of.ensures (c.in-Ok.ensures.made t s))
    stored

pub returns-in-Err-clause-builds : goal.returns-in-Err-clause-builds
returns-in-Err-clause-builds c _ =
    let a = c.new-arena.result in
    let b = c.init_root-result.new.arena in
    let tie : Tie a b c.args.bytes.now _ c.args.used.now c.used.result = record {
      lent = _;
      is = c.new-arena.ensures.bytes;
      was = refl;
      from_is = c.new-arena.ensures.used;
      fresh = c.new-arena.ensures.refused;
      used_is = sym c.used.ensures;
      back = c.bytes-1.given.1.1;
    } in
    let e = c.in-Err.ensures in
    gives_what tie (Err c.in-Err.kind) c.number_of.result (BuildsRoot (zero_struct (sized c.args.data_words c.args.pointers)) _)
    (kept_at tie (Err c.in-Err.kind) 0 0 _ _ e.object) c.number_of.ensures.number (record { object = e.object; grows = e.grows })

pub returns-in-Err-clause-made : goal.returns-in-Err-clause-made
returns-in-Err-clause-made c t stored none = absurd (omega (arith, none, c.number_of.ensures.some))
