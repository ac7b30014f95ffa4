use Rattle.std.proofs.Common.{◌≡◌, ◌+◌, ◌*◌, ◌++◌, ℕ, sym, ap, ap₂, ◌∙◌, arith}
use Rattle.layout_vectors.specs.Spots.{spots, element_spots}
use Rattle.std.proofs.Common.{append-nil, append_assoc}
use Rattle.layout_vectors.proofs.SpotsMore.{element_spots_more, element_spots_none}
use Rattle.layout_vectors.proofs.vectors.pending.push_element_pointers.Goals as goal

pub returns-then-size-eq0 : goal.returns-then-size-eq0
returns-then-size-eq0 c =
    sym (ap (λ q. c.args.pending.now.items ++ element_spots c.args.segment c.args.start c.args.size.data_words q c.args.count) c.if-size-eq0.true ∙ ap (λ J. c.args.pending.now.items ++ J) (element_spots_none c.args.segment c.args.start c.args.size.data_words c.args.count) ∙ append-nil c.args.pending.now.items)

pub loop-i-preserved : goal.loop-i-preserved
loop-i-preserved c =
    let s = c.args.segment in
    let p = c.args.start in
    let d = c.args.size.data_words in
    let q = c.args.size.pointers in
    let i = c.loop-i._i in
    let is_d = c.from-at.ensures in
    let is_q = c.from-at-in-loop-i.ensures in
    let here = c.loop-i.invariant.place in
    record {
      place = omega (arith, is_d, is_q, here, next_place (d + q) i);
      put =
          c.in_ok-push_pointers.ensures ∙ ap₂ (λ x y. c.loop-i.pending.items ++ spots s x y) (ap₂ (λ x y. x + y) here is_d) c.from.ensures
          ∙ ap (λ J. J ++ spots s (p + i * (d + q) + d) q) c.loop-i.invariant.put
          ∙ append_assoc c.args.pending.now.items (element_spots s p d q i) (spots s (p + i * (d + q) + d) q)
          ∙ ap (λ J. c.args.pending.now.items ++ J) (sym (element_spots_more s p d q i));
    }
  where
    next_place : (width i : ℕ) → (i + 1) * width ≡ i * width + width
    next_place width i = grind arith
