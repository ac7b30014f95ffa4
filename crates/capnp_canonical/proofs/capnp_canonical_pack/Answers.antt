use Rattle.std.proofs.Common.{◌≡◌, List, ℕ, refl, subst, sym}
use Rattle.capnp_packing.specs.Packing.{Packs}
use Rattle.capnp_canonical.proofs.PackedLemmas.{room_is_enough, words_stand}
use Rattle.capnp_canonical.proofs.StoringLemmas.{answer_is, done_then, filled_of, room_of}
use Rattle.capnp_canonical.proofs.capnp_canonical_pack.Goals as goal

pub returns-clause-done : goal.returns-clause-done
returns-clause-done c =
    let fills = filled_of c.store_written.ensures c.pack-packed.ensures.packed in
    record {
      front = λ zero.
          let stand = words_stand c.args.words.now (done_then c.store_written.ensures c.pack-packed.ensures.whole zero) in
          (fills.front zero, subst (λ (b : List ℕ). Packs b c.args.words.now) (sym (fills.front zero)) stand);
      within = fills.within;
      behind = fills.behind;
      kept = fills.kept;
    }

pub returns-clause-refused : goal.returns-clause-refused
returns-clause-refused c = room_of c.store_written.ensures c.pack-packed.ensures.refused

pub returns-clause-granted : goal.returns-clause-granted
returns-clause-granted c = λ whole enough.
    answer_is (λ n. n ≡ 0) c.store_written.ensures c.pack-packed.ensures.refused refl (λ r refused. absurd (room_is_enough c.args.words.now _ refused whole enough))
