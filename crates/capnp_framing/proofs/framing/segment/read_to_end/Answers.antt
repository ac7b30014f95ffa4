use Rattle.std.proofs.Common.{rules, ◌≡◌, ◌∙◌, ℕ, List, length, inl, inr, refl, arith}
use Rattle.std.proofs.lemmas.Result.{err_from_is_err_and}
use Rattle.capnp_framing.proofs.BareLemmas.{behind_long, read_behind}
use Rattle.capnp_framing.proofs.ReadingLemmas.{not_failed}
use Rattle.capnp_framing.proofs.UnreadLemmas.{counted_later, if_err, on_err}
use Rattle.capnp_framing.proofs.WholenessLemmas.{keeps_whole, keeps_whole_both}
use Rattle.capnp_framing.proofs.framing.segment.read_to_end.Goals as goal

pub loop-n-init : goal.loop-n-init
loop-n-init g c =
    record { within = search rules; below = search rules; read = search rules; works = search rules; whole = keeps_whole _; kept = search rules }

pub loop-n-preserved : goal.loop-n-preserved
loop-n-preserved g c =
    let xs : List ℕ = c.read_between.new.to in
    let room : List ℕ = c.grow_if_full.new.to.items in
    let long : length xs ≡ c.grow_if_full.new.to.len = omega (arith, c.in-Ok.ensures.long, c.as_mut_slice.ensures.len) in
    record {
      within = omega (arith, behind_long c.grow_if_full.new.to.len room xs long, c.min-end.ensures, c.len.ensures, c.in-Ok.ensures.within);
      below = omega (arith, c.min-end.ensures, c.in-Ok.ensures.within);
      read = read_behind _ _ _ c.loop-n.n c.in-Ok.came c.grow_if_full.new.to.len c.loop-n.to.items room _ xs long c.in-Ok.ensures.front c.as_mut_slice.ensures.value c.in_ok-grow_if_full.ensures.front c.loop-n.invariant.read c.in-Ok.ensures.bytes;
      works = search rules;
      whole = keeps_whole_both _ _ _ c.loop-n.invariant.whole c.in-Ok.ensures.input.whole;
      kept = search rules;
    }

pub returns-then-n-end-clause-bytes : goal.returns-then-n-end-clause-bytes
returns-then-n-end-clause-bytes g c =
    let xs : List ℕ = c.read_between.new.to in
    let long : length xs ≡ c.grow_if_full.new.to.len = omega (arith, c.in-Ok.ensures.long, c.as_mut_slice.ensures.len) in
    read_behind _ _ _ c.loop-n.n c.in-Ok.came c.grow_if_full.new.to.len c.loop-n.to.items c.grow_if_full.new.to.items _ xs long c.in-Ok.ensures.front c.as_mut_slice.ensures.value c.in_ok-grow_if_full.ensures.front c.loop-n.invariant.read c.in-Ok.ensures.bytes

pub returns-then-n-end-clause-within : goal.returns-then-n-end-clause-within
returns-then-n-end-clause-within g c =
    let xs : List ℕ = c.read_between.new.to in
    let long : length xs ≡ c.grow_if_full.new.to.len = omega (arith, c.in-Ok.ensures.long, c.as_mut_slice.ensures.len) in
    omega (arith, behind_long c.grow_if_full.new.to.len c.grow_if_full.new.to.items xs long, c.min-end.ensures, c.len.ensures, c.in-Ok.ensures.within)

pub returns-then-n-end-clause-input : goal.returns-then-n-end-clause-input
returns-then-n-end-clause-input g c = record { whole = keeps_whole_both _ _ _ c.loop-n.invariant.whole c.in-Ok.ensures.input.whole; works = c.in-Ok.ensures.input.works }

pub returns-in_err-grow_if_full : goal.returns-in_err-grow_if_full
returns-in_err-grow_if_full g c =
    let p = err_from_is_err_and c.from_residual.result c.from_residual.ensures.1 in
    record {
      most = rw p.1 tt;
      within = rw p.1 tt;
      bytes = rw p.1 tt;
      end = rw p.1 tt;
      input = record { whole = on_err _ _ p.1; works = on_err _ _ p.1 };
      refused = if_err _ _ p.1 p.2 (inl c.in_err-grow_if_full.ensures.memory.refused);
      failed = if_err _ _ p.1 p.2 (not_failed _ c.loop-n.invariant.works);
      memory = record { kept = on_err _ _ p.1; counted = if_err _ _ p.1 p.2 (counted_later _ _ _ _ c.loop-n.invariant.kept c.in_err-grow_if_full.ensures.memory.counted) };
    }

pub returns-in-Err : goal.returns-in-Err
returns-in-Err g c = record {
  most = tt;
  within = tt;
  bytes = tt;
  end = tt;
  input = record { whole = tt; works = tt };
  refused = inr (refl, c.in-Err.ensures.fails);
  failed = λ _. refl;
  memory = record { kept = tt; counted = c.in_ok-grow_if_full.ensures.memory.kept ∙ c.loop-n.invariant.kept };
}
