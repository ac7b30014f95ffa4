-- What a remade object keeps, and what it holds.
use Rattle.std.proofs.Common.{◌≡◌, ◌≢◌, ◌⊎◌, inl, inr, ℕ, ◌+◌, ◌≤◌, List, [], ◌∷◌, ◌++◌, length, sym, ◌∙◌, le_trans, le_of_eq, arith}
use Rattle.std.proofs.lemmas.Bool.{cases_eq}
use Rattle.std.proofs.lemmas.Bool.Decides.{nat_tests}
use Rattle.capnp_format.specs.Segments.{Segments, segment, word_at, Target}
use Rattle.capnp_format.specs.Tree.{Tree}
use Rattle.capnp_format.specs.Means.{Means}
use Rattle.capnp_format.specs.Forest.{Interval, times, pads_of, object_of, IsTidy}
use Rattle.capnp_format.specs.Path.{word_interval, extent}
use Rattle.capnp_allocation.specs.Stored.{IsStored, IsReplaced}
use Rattle.capnp_format.proofs.Following.{Grows}
use Rattle.capnp_format.proofs.Frame.{Agree, SameWords, times-append}
use Rattle.capnp_allocation.proofs.Extents.{times-first}
use Rattle.capnp_in_place.proofs.WiderObjects.RemadeElsewhere.{IsRehoused}

other_word : (u q x y : ℕ) → times (word_interval u q ∷ []) x y ≡ 0 → (x ≢ u) ⊎ (y ≢ q)
other_word u q x y h = elim (cases_eq x u) [
  | inl e ↦ inr (λ f. grind (arith, nat_tests))
  | inr other ↦ inl other
]

-- The old extent in its parts: the place's word, the pads, the object, and what its pointers reach.
abbrev pub Parts : Segments → ℕ → ℕ → Tree → Target → ℕ → List Interval → Type 0
Parts S u q t a size inner = (y z : ℕ) → times (extent S u q t) y z ≡ times (word_interval u q ∷ []) y z + times (pads_of (word_at S u q)) y z + times (object_of a size ∷ []) y z + times inner y z

module _ (S M Q : Segments) (u q : ℕ) (a : Target) (size : ℕ) (b : Target) (wide : ℕ) (before after fresh : List Interval) (h : IsRehoused S M Q u q a size b wide before after fresh) where
  pub grows_first : Grows S M
  grows_first = record { segments = h.more_segments; words = h.more_words }

  pub grows_last : Grows M Q
  grows_last = record { segments = le_of_eq (sym h.same_segments); words = λ z. le_of_eq (sym (h.same_words z)) }

  changed : (y z : ℕ) → times (word_interval u q ∷ pads_of (word_at S u q) ++ object_of a size ∷ []) y z ≡ times (word_interval u q ∷ []) y z + times (pads_of (word_at S u q)) y z + times (object_of a size ∷ []) y z
  changed y z = omega (arith, times-first (word_interval u q) (pads_of (word_at S u q) ++ object_of a size ∷ []) y z, times-append (pads_of (word_at S u q)) (object_of a size ∷ []) y z)

  module _ (t : Tree) (inner : List Interval) (x : IsStored S u q t) (parts : Parts S u q t a size inner) where
    unheld : (y z : ℕ) → length (segment S y) ≤ z → times (extent S u q t) y z ≡ 0
    unheld y z w = elim (cases_eq (times (extent S u q t) y z) 0) [
      | inl f ↦ f
      | inr f ↦ absurd (omega (arith, x.inside y z (omega arith)))
    ]

    -- M has the inner words of S.
    pub inner_agrees : Agree S M inner
    inner_agrees y z v = h.extends y z (x.inside y z (omega (arith, parts y z)))

    -- Q has the words of the new object in M.
    pub object_stands : SameWords M Q b.segment b.start wide
    object_stands y v w = h.only_old b.segment y (omega (arith, unheld b.segment y (h.object_new y v w), parts b.segment y, changed b.segment y))

    -- Q has the words of M that its pointers reach.
    pub reached_stands : (reached : List Interval) → ((y z : ℕ) → times reached y z + times before y z ≡ times inner y z + times after y z) → Agree M Q reached
    reached_stands reached e y z v = elim (cases_eq (times fresh y z) 0) [
      | inl f ↦ h.only_old y z (omega (arith, e y z, h.all_fresh y z, x.apart y z, parts y z, changed y z))
      | inr f ↦ h.only_old y z (omega (arith, unheld y z (h.fresh_new y z (omega arith)).0, parts y z, changed y z))
    ]

    pub rehoused : (reached : List Interval) (w : Tree) (n c : ℕ) → ((y z : ℕ) → times reached y z + times before y z ≡ times inner y z + times after y z) → Parts Q u q w b wide reached → Means Q n u q w c → IsTidy Q u q w → IsReplaced S Q u q t w
    rehoused reached w n c e new m y = record {
      segments = le_trans h.more_segments (le_of_eq (sym h.same_segments));
      words = λ z. le_trans (h.more_words z) (le_of_eq (sym (h.same_words z)));
      stored = record {
        means = (n, c, m);
        apart = λ y z. elim (cases_eq (times fresh y z) 0) [
          | inl f ↦ omega (arith, sum y z, x.apart y z, parts y z)
          | inr f ↦ omega (arith, sum y z, h.fresh_once y z, unheld y z (h.fresh_new y z (omega arith)).0, parts y z)
        ];
        inside = λ y z v. elim (cases_eq (times fresh y z) 0) [
          | inl f ↦ omega (arith, x.inside y z (omega (arith, sum y z, parts y z)), h.more_words y, h.same_words y)
          | inr f ↦ omega (arith, (h.fresh_new y z (omega arith)).1, h.same_words y)
        ];
        tidy = y;
      };
      uses = λ y z v. elim (cases_eq (times fresh y z) 0) [
        | inl f ↦ inl (omega (arith, sum y z, parts y z))
        | inr f ↦ inr (h.fresh_new y z (omega arith)).0
      ];
      zero_elsewhere = λ y z none f. elim f [
        | inl v ↦ h.zero_old y z (other_word u q y z (omega (arith, sum y z))) (omega (arith, sum y z, parts y z, times-append (pads_of (word_at S u q)) (object_of a size ∷ []) y z))
        | inr v ↦ h.only_old y z (omega (arith, unheld y z v, parts y z, changed y z)) ∙ h.zero_new y z v (omega (arith, sum y z))
      ];
      kept = λ y z none v. h.only_old y z (omega (arith, parts y z, changed y z)) ∙ h.extends y z v;
    }
      where
        sum : (y z : ℕ) → times (extent Q u q w) y z ≡ times (word_interval u q ∷ []) y z + times fresh y z + times inner y z
        sum y z = omega (arith, new y z, e y z, h.all_fresh y z)
