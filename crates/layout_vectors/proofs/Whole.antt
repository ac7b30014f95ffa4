-- The whole walk: from only the root, until no place is left.
use Rattle.std.proofs.Common.{inl, inr, ◌≡◌, ℕ, ◌<◌, [], ◌∷◌, length, sym, ◌∙◌, arith}
use Rattle.std.proofs.lemmas.Bool.{cases_lt}
use Rattle.std.proofs.lemmas.List.{get_or_past}
use Rattle.capnp_format.specs.Segments.{Segments, segment, word_at}
use Rattle.capnp_format.specs.Tree.{Tree}
use Rattle.capnp_format.specs.Forest.{times, cover, root, IsForest}
use Rattle.capnp_format.specs.Forest.{row}
use Rattle.layout_vectors.specs.Counts.{Counts, IsOnce}
use Rattle.layout_vectors.specs.Spots.{spots}
use Rattle.layout_vectors.specs.Walks.{FitsRows}

abbrev pub OnlyRoot : Segments → Type 0
OnlyRoot M = (u q : ℕ) → word_at M u q ≡ times (row 0 0 1 ∷ []) u q

-- what a forest covers is counted from the root
pub forest_counts : (S M : Segments) (t : Tree) → OnlyRoot M → IsForest S t → Counts S (word_at M) (spots 0 0 1) (times (root ∷ cover S 0 0 t))
forest_counts S M t only f = (t, record { means = f.means; tidy = f.tidy }, λ u q. omega (arith, only u q))

marked_inside : (S M : Segments) (u q : ℕ) → FitsRows S M → 0 < word_at M u q → q < length (segment S u)
marked_inside S M u q fits l = elim (cases_lt q (length (segment M u))) [
  | inl m ↦ omega (arith, fits.words u)
  | inr m ↦ absurd (omega (arith, get_or_past (segment M u) q 0 m))
]

-- and if the counted words are those that are marked, and all others are zero, there is a forest
pub counts_forest : (S M N : Segments) → OnlyRoot M → Counts S (word_at M) (spots 0 0 1) (word_at N) → FitsRows S N → IsOnce (word_at N) → ((u q : ℕ) → word_at N u q ≡ 0 → word_at S u q ≡ 0) → (t : Tree) × IsForest S t
counts_forest S M N only (t, k, h) fits marks zero =
    let same : (u q : ℕ) → times (root ∷ cover S 0 0 t) u q ≡ word_at N u q = λ u q. omega (arith, only u q, h u q) in (
      t,
      record {
        means = k.means;
        apart = λ u q. omega (arith, same u q, marks u q);
        inside = λ u q l. marked_inside S N u q fits (omega (arith, same u q));
        zero_elsewhere = λ u q e. zero u q (sym (same u q) ∙ e);
        tidy = k.tidy;
      },
    )
