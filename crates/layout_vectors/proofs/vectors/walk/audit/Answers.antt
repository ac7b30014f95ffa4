use Rattle.std.proofs.Common.{ℕ, List, sym, ap, ◌∙◌, subst}
use Rattle.capnp_format.specs.Bytes.{message}
use Rattle.capnp_format.specs.Segments.{Segments, word_at}
use Rattle.layout_vectors.specs.Walks.{FitsRows}
use Rattle.layout_vectors.specs.Marks.{rows_of}
use Rattle.layout_vectors.proofs.Taken.{blank_fits, blank_free}
use Rattle.std.specs.Borrow.{Bor}
use Rattle.std.specs.Prelude.{map}
use Rattle.layout_vectors.proofs.vectors.walk.audit.Goals as goal

pub walk_from_root-requires-clause-fits : goal.walk_from_root-requires-clause-fits
walk_from_root-requires-clause-fits c =
    let texts : List (Bor (List ℕ)) = c.args.segments.now in
    let M : Segments = rows_of c.in-Ok.marks in
    let same = c.new-arena.ensures.words ∙ ap (λ (ss : List (Bor (List ℕ))). message (map (λ s. s.now) ss)) c.in-Some.ensures.segments in
    subst (λ (T : Segments). FitsRows T M) (sym same) (subst (λ (R : Segments). FitsRows (message (map (λ s. s.now) texts)) R) (sym c.in-Ok.ensures) (blank_fits texts c.requires.small))

pub walk_from_root-requires-clause-blank : goal.walk_from_root-requires-clause-blank
walk_from_root-requires-clause-blank c = λ u q. ap (λ (M : Segments). word_at M u q) c.in-Ok.ensures ∙ blank_free c.args.segments.now u q
