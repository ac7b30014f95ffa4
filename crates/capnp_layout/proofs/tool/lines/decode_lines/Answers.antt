use Rattle.std.proofs.Common.{rules, ◌≡◌, IsNone, vec_items, length, ◌∙◌}
use Rattle.std.proofs.lemmas.Result.{err_from_is_err_and}
use Rattle.capnp_layout.proofs.LineLemmas.{kept_line, all_lines, bad_line}
use Rattle.capnp_layout.proofs.tool.lines.decode_lines.Goals as goal

pub loop-rest-preserved : goal.loop-rest-preserved
loop-rest-preserved g c =
    let none : IsNone c.keep.result = search rules in
    let kept = c.keep.ensures.kept none in
    record {
      read = kept_line vec_items _ _ kept.0 (record { read = c.loop-rest.invariant.read; lines = c.split_first_line.ensures.lines }) c.in_ok-segment.ensures.bytes;
      granted = kept.1 ∙ c.in_ok-segment.ensures.counted.kept ∙ c.loop-rest.invariant.granted;
    }

pub returns-in_err-segment-clause-bad : goal.returns-in_err-segment-clause-bad
returns-in_err-segment-clause-bad g c =
    let p = err_from_is_err_and c.from_residual.result c.from_residual.ensures.1 in
    rw (p.1, p.2) (λ bad. bad_line (record { read = c.loop-rest.invariant.read; lines = c.split_first_line.ensures.lines }) (c.in_err-segment.ensures.bad bad))

pub returns-clause-segments : goal.returns-clause-segments
returns-clause-segments g c =
    let none : length c.loop-rest.rest.now ≡ 0 = search rules in
    all_lines _ _ c.loop-rest.rest.now c.loop-rest.invariant.read none
