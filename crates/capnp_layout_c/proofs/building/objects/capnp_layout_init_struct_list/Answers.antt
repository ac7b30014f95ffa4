use Rattle.std.proofs.Common.{ℕ, List, MutBor, ap, refl, sym, rules, arith}
use Rattle.capnp_words.specs.Sizes.{sized}
use Rattle.capnp_layout_c.proofs.BuildingCalls.{Tie, word_there}
use Rattle.capnp_layout_c.proofs.NearLists.{gives_structs, null_there, room_there, structs_there}
use Rattle.capnp_layout_c.proofs.building.objects.capnp_layout_init_struct_list.Goals as goal

pub put_structs-start-requires-clause-place : goal.put_structs-start-requires-clause-place
put_structs-start-requires-clause-place c =
    let there = c.has_pointer.ensures.0 (search rules) in
    word_there c.new-arena.result c.args.used.now _ c.new-arena.ensures.used (omega (arith, there.0.1, there.1, c.from.ensures, c.from-then-has_pointer.ensures))

pub put_structs-start-requires-clause-null : goal.put_structs-start-requires-clause-null
put_structs-start-requires-clause-null c =
    let there = c.has_pointer.ensures.0 (search rules) in
    let free = c.has_null_and_room.ensures.0 (search rules) in
    null_there c.new-arena.result c.args.bytes.now c.args.used.now _ (ap (λ (s : MutBor (List ℕ)). s.now) c.new-arena.ensures.bytes) c.new-arena.ensures.used c.new-arena.ensures.refused
    there.0.0.0 (omega (arith, there.0.1, there.1, c.from.ensures, c.from-then-has_pointer.ensures)) free.0

pub put_structs-start-requires-clause-room : goal.put_structs-start-requires-clause-room
put_structs-start-requires-clause-room c =
    let free = c.has_null_and_room.ensures.0 (search rules) in
    room_there c.new-arena.result c.args.bytes.now c.args.used.now _ (ap (λ (s : MutBor (List ℕ)). s.now) c.new-arena.ensures.bytes) c.new-arena.ensures.used
    (rw (c.from-then-has_pointer-2.ensures, c.from-then-has_pointer-3.ensures, c.from-then-has_pointer-4.ensures) at free.1)

pub returns-then-has_null_and_room-clause-builds : goal.returns-then-has_null_and_room-clause-builds
returns-then-has_null_and_room-clause-builds c there _ _ =
    let tie : Tie c.new-arena.result c.put_structs-start.new.arena c.args.bytes.now _ c.args.used.now c.used.result = record {
      lent = _;
      is = c.new-arena.ensures.bytes;
      was = refl;
      from_is = c.new-arena.ensures.used;
      fresh = c.new-arena.ensures.refused;
      used_is = sym c.used.ensures;
      back = c.bytes-1.given.1.1;
    } in
    gives_structs tie c.args.place c.args.index c.args.count (sized c.args.data_words c.args.pointers) c.put_structs-start.result there.1
    (rw (c.from.ensures, c.from-then-has_pointer.ensures) at c.put_structs-start.ensures.gives)

pub returns-then-has_null_and_room-clause-made : goal.returns-then-has_null_and_room-clause-made
returns-then-has_null_and_room-clause-made c x ws ts i below has _ =
    let there = c.has_pointer.ensures.0 (search rules) in
    let tie : Tie c.new-arena.result c.put_structs-start.new.arena c.args.bytes.now _ c.args.used.now c.used.result = record {
      lent = _;
      is = c.new-arena.ensures.bytes;
      was = refl;
      from_is = c.new-arena.ensures.used;
      fresh = c.new-arena.ensures.refused;
      used_is = sym c.used.ensures;
      back = c.bytes-1.given.1.1;
    } in
    structs_there tie c.args.place c.args.index c.args.count i (sized c.args.data_words c.args.pointers) c.put_structs-start.result x ws ts there.1 below c.put_structs-start.ensures.segment
    (rw (c.from.ensures, c.from-then-has_pointer.ensures) at c.put_structs-start.ensures.gives) has
