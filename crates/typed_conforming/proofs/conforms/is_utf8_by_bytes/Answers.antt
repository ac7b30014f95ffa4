use Rattle.std.proofs.Common.{take, ap, ◌∙◌, arith}
use Rattle.std.specs.Str.{is_utf8}
use Rattle.typed_conforming.specs.Misfits.{list_bytes}
use Rattle.typed_conforming.proofs.TextBytes.{bytes_in_place}
use Rattle.typed_conforming.proofs.conforms.is_utf8_by_bytes.Goals as goal

pub returns : goal.returns
returns c = λ S held.
    let start = c.args.start in
    let n = c.saturating_sub.result in
    let shown = bytes_in_place S start n c.args.count (omega (arith, c.saturating_sub.ensures)) (rw c.bytes_at.ensures at c.are_utf8.ensures.small) c.requires held in
    c.are_utf8.ensures.value
    ∙ ap is_utf8 (c.bytes_at.ensures ∙ shown ∙ ap (λ k. take k (list_bytes S start.segment start.at c.args.count)) c.saturating_sub.ensures)
