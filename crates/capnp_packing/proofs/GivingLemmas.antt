-- What an input of packed bytes unpacks in one step, after what it took before.
use Rattle.std.proofs.Common.{◌≡◌, ◌∙◌, ℕ, List, [], take, Result, Ok, Err, ap, arith}
use Rattle.capnp_framing.specs.declared.devices.Input.{Ghosts}
use Rattle.capnp_packing.specs.Unpacking.{UnpacksAhead, UnpacksSome, packed_left}
use Rattle.capnp_packing.specs.declared.packing.unpacking_input.UnpackingInput.{UnpackingInput}
use Rattle.capnp_packing.proofs.UnpackingLemmas.{Unpacks, then_takes}

module _ {R : Type 0} (g : Ghosts R) where
  -- bytes come after packed bytes that unpacked to none
  pub some_later : {E : Type 0} (result : Result ℕ E) (first from to : UnpackingInput R) (room : List ℕ) →
      Unpacks first.zeros first.place (packed_left g first) from.zeros from.place (packed_left g from) [] →
      g.has_failed from.packed.input ≡ g.has_failed first.packed.input → from.told ≡ first.told →
      UnpacksSome g result from to room → UnpacksSome g result first to room
  some_later (Ok n) first from to room before works told h =
      let both = then_takes _ _ _ _ _ _ _ _ _ [] (take n room) before (h.bytes, h.place) in
      record { bound = h.bound; bytes = both.0; kept = tt; place = both.1; end = h.end; works = h.works ∙ works; fails = tt; told = h.told ∙ told }
  some_later (Err e) first from to room before works told h =
      let both = then_takes _ _ _ _ _ _ _ _ _ [] [] before (h.kept, h.place) in
      record { bound = tt; bytes = tt; kept = both.0; place = both.1; end = tt; works = tt; fails = h.fails; told = h.told ∙ told }

  -- some bytes are ahead
  pub ahead_some : {E : Type 0} (n : ℕ) (from to : UnpackingInput R) (room : List ℕ) → UnpacksAhead g n from to room → UnpacksSome g {E = E} (Ok n) from to room
  ahead_some n from to room h = record {
    bound = h.bound;
    bytes = h.bytes;
    kept = tt;
    place = h.place;
    end = λ none. absurd (let some = h.some in omega (arith, none, some));
    works = ap g.has_failed h.input;
    fails = tt;
    told = h.told;
  }
