use Rattle.std.proofs.Common.{◌≡◌, ◌+◌, ◌*◌, length, map, take, drop, List, ℕ}
use Rattle.std.specs.Borrow.{Bor}
use Rattle.capnp_framing.specs.Flat.{parts}
use Rattle.capnp_framing.specs.Reading.{table_size, words_told}
use Rattle.capnp_layout_c.proofs.frames.cut.Given as goal

abbrev pub invariant-loop-i : goal.invariant-loop-i
invariant-loop-i l =
    record {
      place : l.at ≡ table_size l.n + 8 * words_told l.i (drop 4 l.frame);
      segments : map (λ (s : Bor (List ℕ)). s.now) (take l.i l.room) ≡ parts l.i (drop 4 l.frame) (drop (table_size l.n) l.frame);
      behind : drop l.n l.room ≡ drop l.n l.initial.room;
      long : length l.room ≡ length l.initial.room;
    }
