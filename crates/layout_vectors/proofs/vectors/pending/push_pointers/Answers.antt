use Rattle.std.proofs.Common.{◌+◌, ◌++◌, sym, ap, ◌∙◌, append_assoc}
use Rattle.layout_vectors.specs.Spots.{spots}
use Rattle.layout_vectors.proofs.SpotsMore.{spots_more}
use Rattle.layout_vectors.proofs.vectors.pending.push_pointers.Goals as goal

pub loop-i-preserved : goal.loop-i-preserved
loop-i-preserved c =
    let s = c.args.segment in
    let p = c.args.start in
    let i = c.loop-i.i in
    c.in_ok-push_place.ensures ∙ ap (λ J. J ++ spots s (p + i) 1) c.loop-i.invariant ∙ append_assoc c.args.pending.now.items (spots s p i) (spots s (p + i) 1) ∙ ap (λ J. c.args.pending.now.items ++ J) (sym (spots_more s p i))
