use Rattle.std.proofs.Common.{◌≡◌, replicate, sym, ap, ◌∙◌, arith}
use borrow.Rule.Slice.PartMut.{put_mid}
use Rattle.layout_vectors.proofs.Taken.{row_taken}
use Rattle.layout_vectors.proofs.vectors.marks.Marks.try_mark_nonempty.Goals as goal

pub returns-clause-taken : goal.returns-clause-taken
returns-clause-taken c =
    let r = c.index_mut-row.result.now in
    let same : c.as_slice.result.now ≡ c.as_mut_slice.result.now = c.as_slice.ensures.value ∙ sym c.as_mut_slice.ensures.value in
    λ _. row_taken c.args.self.now.rows r c.args.id c.args.start c.args.n c.as_slice.result.now c.mark_words.new.row c.requires.some c.requires.inside c.index_mut-row.ensures.value c.as_slice.ensures.value
    (c.are_free.ensures.free c.if-not-are_free.false) (c.mark_words.ensures ∙ ap (λ xs. put_mid c.args.start c.args.n xs (replicate c.args.n 1)) (sym same)) (omega (arith, c.mark_words.auto.row, c.as_mut_slice.ensures.len, r.ok.0))
