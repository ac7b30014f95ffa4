use Rattle.std.proofs.Common.{rules, ◌≡◌, ◌≤◌, ◌∙◌, ◌+◌, ◌-◌, ℕ, List, length, take, arith, length-take}
use Rattle.std.proofs.lemmas.Result.{err_from_is_err_and}
use Rattle.capnp_framing.proofs.BareLemmas.{behind_long}
use Rattle.capnp_framing.proofs.ReadingLemmas.{filled_behind, unread_later}
use Rattle.capnp_framing.proofs.UnreadLemmas.{counted_later, counted_none, if_err, on_err, unread_memory}
use Rattle.capnp_framing.proofs.WholenessLemmas.{keeps_whole, keeps_whole_both}
use Rattle.capnp_framing.proofs.framing.reading.read_exact_to_front.Goals as goal

pub loop-n-preserved : goal.loop-n-preserved
loop-n-preserved g c =
    let room : List ℕ = c.grow_if_full.new.to.items in
    let xs : List ℕ = c.read_exact_between.new.to in
    let long : length xs ≡ c.grow_if_full.new.to.len = omega (arith, c.in_ok-read_exact_between.ensures.long, c.as_mut_slice.ensures.len) in
    let more : c.loop-n.n ≤ c.min-end.result = omega (arith, c.min-end.ensures, c.len.ensures, c.loop-n.invariant.within, c.in_ok-grow_if_full.ensures.long, c.loop-n-test.true) in
    record {
      within = omega (arith, behind_long c.grow_if_full.new.to.len room xs long, c.min-end.ensures, c.len.ensures);
      below = omega (arith, c.min-end.ensures);
      read = filled_behind _ _ _ c.loop-n.n c.min-end.result c.grow_if_full.new.to.len c.loop-n.to.items room _ xs long more c.in_ok-read_exact_between.ensures.front c.as_mut_slice.ensures.value c.in_ok-grow_if_full.ensures.front c.loop-n.invariant.read c.in_ok-read_exact_between.ensures.bytes;
      works = c.in_ok-read_exact_between.ensures.input.works;
      whole = keeps_whole_both _ _ _ c.loop-n.invariant.whole c.in_ok-read_exact_between.ensures.input.whole;
      kept = c.in_ok-grow_if_full.ensures.memory.kept ∙ c.loop-n.invariant.kept;
    }

pub loop-n-init : goal.loop-n-init
loop-n-init g c =
    record { within = search rules; below = search rules; read = search rules; works = search rules; whole = keeps_whole _; kept = search rules }

pub returns-in_err-grow_if_full-clause-refused : goal.returns-in_err-grow_if_full-clause-refused
returns-in_err-grow_if_full-clause-refused g c =
    let p = err_from_is_err_and c.from_residual.result c.from_residual.ensures.1 in
    if_err _ _ p.1 p.2 (unread_memory g.R.Input _ _ _ _ c.in_err-grow_if_full.ensures.memory.refused c.loop-n.invariant.works)

pub returns-in_err-grow_if_full-clause-memory : goal.returns-in_err-grow_if_full-clause-memory
returns-in_err-grow_if_full-clause-memory g c =
    let p = err_from_is_err_and c.from_residual.result c.from_residual.ensures.1 in
    record { kept = on_err _ _ p.1; counted = if_err _ _ p.1 p.2 (counted_later _ _ _ _ c.loop-n.invariant.kept c.in_err-grow_if_full.ensures.memory.counted) }

pub returns-in_err-read_exact_between-clause-refused : goal.returns-in_err-read_exact_between-clause-refused
returns-in_err-read_exact_between-clause-refused g c =
    let p = err_from_is_err_and c.from_residual-in_err-read_exact_between.result c.from_residual-in_err-read_exact_between.ensures.1 in
    let size : length (take c.loop-n.n c.loop-n.to.items) + (c.min-end.result - c.loop-n.n) ≤ c.args.size =
    omega (arith, length-take c.loop-n.n c.loop-n.to.items, c.loop-n.invariant.within, c.min-end.ensures, c.loop-n-test.true) in
    if_err _ _ p.1 p.2 (unread_later g.R.Input _ _ _ _ _ _ _ c.loop-n.invariant.read size c.in_err-read_exact_between.ensures.refused)

pub returns-in_err-read_exact_between-clause-memory : goal.returns-in_err-read_exact_between-clause-memory
returns-in_err-read_exact_between-clause-memory g c =
    let p = err_from_is_err_and c.from_residual-in_err-read_exact_between.result c.from_residual-in_err-read_exact_between.ensures.1 in
    record { kept = on_err _ _ p.1; counted = if_err _ _ p.1 p.2 (counted_none _ _ _ (c.in_ok-grow_if_full.ensures.memory.kept ∙ c.loop-n.invariant.kept) c.in_err-read_exact_between.ensures.uncounted) }
