use Rattle.std.proofs.Common.{◌≡◌, ℕ, ◌<◌, length, false, refl, arith, sym}
use Rattle.std.proofs.lemmas.Bool.Decides.{nat_tests}
use Rattle.std.specs.Bool.{◌==◌}
use Rattle.capnp_arena.specs.Row.{shown}
use Rattle.capnp_arena_traits.proofs.MessageLemmas.{length-message}
use Rattle.capnp_arena.proofs.RowsLemmas.{length_shown}
use Rattle.capnp_arena.proofs.BoundsLemmas.{room_as_before}
use Rattle.std.proofs.lemmas.Bool.{false≢true}
use Rattle.capnp_arena.proofs.arena.bounds.first_fit.Goals as goal

some_row : (n : ℕ) → false ≡ (n == 0) → 0 < n
some_row n full = grind (arith, nat_tests)

pub returns-then-has_room-clause-found : goal.returns-then-has_room-clause-found
returns-then-has_room-clause-found g c =
    let seg = g.S.Segment in
    let rows = c.args.rows.now in
    let there : 0 < length rows = some_row (length rows) c.if-not-is_empty.ensures in
    let as_before = room_as_before seg rows rows 0 c.index-rows-0.result refl refl there in
    record {
      fit = (omega (arith, there, length-message (shown seg rows), length_shown seg rows), omega (arith, as_before.0, as_before.1, c.has_room.ensures.0 c.if-has_room.true), λ j below. absurd (omega (arith, below)));
      full = λ none. absurd (false≢true (sym none));
      segments = refl;
      capacity = refl;
    }
