-- A value replaced at the end of a path is replaced at its start too; and a forest stays a forest.
use Rattle.std.proofs.Common.{◌≡◌, inl, inr, ℕ, pred, ◌+◌, ◌*◌, ◌<◌, ◌≤◌, List, [], ◌∷◌, length, refl, sym, ap, ◌∙◌, subst, le_trans, le_of_eq, arith}
use Rattle.std.proofs.lemmas.List.{get_or_past}
use Rattle.std.proofs.lemmas.Bool.Decides.{nat_tests}
use Rattle.std.proofs.lemmas.Bool.{cases_lt, cases_eq}
use Rattle.capnp_format.specs.Segments.{Segments, segment, word_at}
use Rattle.capnp_format.specs.Tree.{Tree, Null, Struct, Pointers, Structs}
use Rattle.capnp_format.specs.Means.{Means}
use Rattle.capnp_format.specs.Forest.{times, target_in, cover, IsTidy, AreTidy, AreTidyElements, IsForest}
use Rattle.capnp_format.specs.Path.{Step, Child, Element, tree_at, struct_at, next, update, node, PathLeads, word_interval, extent}
use Rattle.capnp_allocation.specs.Stored.{IsStored, IsReplaced}
use Rattle.capnp_format.specs.Segments.{Grows}
use Rattle.capnp_format.proofs.Frame.{Agree, frame}
use Rattle.capnp_allocation.proofs.Tidy.{tidy_kept}
use Rattle.capnp_format.proofs.Levels.{other_levels, depth_within}
use Rattle.capnp_allocation.proofs.Extents.{AgreeBeside, once_held, times-first}
use Rattle.capnp_allocation.proofs.Paths.{tidy_child, tidy_element_child, same_node, part_within, updated}
use Rattle.capnp_format.proofs.Children.{means_child, means_element_child}

-- The end of a path means its value, and is tidy.
pub within_means : (S : Segments) (n s p : ℕ) (t : Tree) (c : ℕ) (path : List Step) (u q : ℕ) (x : Tree) → PathLeads S (node s p t) path (node u q x) → Means S n s p t c → IsTidy S s p t →
    (m : ℕ) × (k : ℕ) × Means S m u q x k × IsTidy S u q x
within_means S n s p t c [] u q x way m y =
    let h = same_node way in
    (n, c, rw (h.0, h.1, h.2) at m, rw (h.0, h.1, h.2) at y)
within_means S n s p (Struct ws ts) c (Child i ∷ path) u q x h (a, k, some, o, claim, e, all, g) y =
    let child = means_child S (pred n) a.segment (a.start + length ws) ts k i h.0 all in
    within_means S (pred n) a.segment (a.start + length ws + i) (tree_at ts i) child.0 path u q x
    (subst (λ b. PathLeads S (node b.segment (b.start + length ws + i) (tree_at ts i)) path (node u q x)) (ap target_in o.leads_to.1) h.1) child.1
    (tidy_child S a.segment (a.start + length ws) ts i h.0 (subst (λ b. AreTidy S b.segment (b.start + length ws) ts) (ap target_in o.leads_to.1) y))
within_means S n s p (Pointers ts) c (Element i ∷ path) u q x h (a, k, some, o, claim, all, g) y =
    let child = means_child S (pred n) a.segment a.start ts k i h.0 all in
    within_means S (pred n) a.segment (a.start + i) (tree_at ts i) child.0 path u q x
    (subst (λ b. PathLeads S (node b.segment (b.start + i) (tree_at ts i)) path (node u q x)) (ap target_in o.leads_to.1) h.1) child.1
    (tidy_child S a.segment a.start ts i h.0 (subst (λ b. AreTidy S b.segment b.start ts) (ap target_in o.leads_to.1) y))
within_means S n s p (Structs d w es) c (Element i ∷ Child j ∷ path) u q x h (a, m, k, some, o, claim, tag, fits, all, g) y =
    let old = next (struct_at es i) (Child j) in
    let child = means_element_child S (pred n) a.segment (a.start + 1) d w es k i j h.0 h.1 all in
    within_means S (pred n) a.segment (a.start + 1 + i * (d + w) + d + j) old child.0 path u q x
    (subst (λ b. PathLeads S (node b.segment (b.start + 1 + i * (d + w) + d + j) old) path (node u q x)) (ap target_in o.leads_to.1) h.2) child.1
    (tidy_element_child S (pred n) a.segment (a.start + 1) d w es k i j h.0 h.1 all (subst (λ b. AreTidyElements S b.segment (b.start + 1) d w es) (ap target_in o.leads_to.1) y.1))
within_means S n s p t c (step ∷ path) u q x h m y = absurd h

-- The value at the end of a path is stored if the one at its start is.
pub stored_within : (S : Segments) (s p : ℕ) (t : Tree) (path : List Step) (u q : ℕ) (x : Tree) → PathLeads S (node s p t) path (node u q x) → IsStored S s p t → IsStored S u q x
stored_within S s p t path u q x h a =
    let m = a.means in
    let w = within_means S m.0 s p t m.1 path u q x h m.2 a.tidy in
    let le = λ (v r : ℕ). part_within S m.0 s p t m.1 path u q x h m.2 v r in
    record {
      means = (w.0, w.1, w.2);
      apart = λ v r. omega (arith, le v r, a.apart v r);
      inside = λ v r f. a.inside v r (omega (arith, le v r));
      tidy = w.3;
    }

-- A value replaced at the end of a path is replaced at its start.
pub replaced_within : (S R : Segments) (s p : ℕ) (t : Tree) (path : List Step) (u q : ℕ) (x y : Tree) → PathLeads S (node s p t) path (node u q x) → IsStored S s p t → IsReplaced S R u q x y → IsReplaced S R s p t (update t path y)
replaced_within S R s p t path u q x y h a b =
    let old = a.means in
    let new = b.stored.means in
    let le = λ (v r : ℕ). part_within S old.0 s p t old.1 path u q x h old.2 v r in
    let n = old.0 + new.0 + length path in
    let lifted = other_levels n t (omega (arith, depth_within t (record { means = old.2 }))) (record { means = old.2 }) in
    let agree : AgreeBeside S R (extent S u q x) (extent S s p t) = λ v r l. b.kept v r (omega (arith, a.apart v r)) (a.inside v r (omega arith)) in
    let all = updated S R n new.0 s p t old.1 path u q x y new.1 (record { segments = b.segments; words = b.words }) (omega arith) h agree lifted new.2 in
    record {
      segments = b.segments;
      words = b.words;
      stored = record {
        means = (n, all.cost, all.means);
        apart = λ v r. elim (cases_eq (times (extent R u q y) v r) 0) [
          | inl e ↦ omega (arith, all.covers v r, a.apart v r)
          | inr some ↦ elim (b.uses v r (omega arith)) [
            | inl l ↦ omega (arith, all.covers v r, a.apart v r, b.stored.apart v r)
            | inr l ↦ elim (cases_eq (times (extent S s p t) v r) 0) [
              | inl e ↦ omega (arith, all.covers v r, b.stored.apart v r)
              | inr f ↦ absurd (omega (arith, a.inside v r (omega arith)))
            ]
          ]
        ];
        inside = λ v r f. elim (cases_eq (times (extent S s p t) v r) 0) [
          | inl e ↦ b.stored.inside v r (omega (arith, all.covers v r))
          | inr some ↦ omega (arith, a.inside v r (omega arith), b.words v)
        ];
        tidy = all.tidy a.tidy b.stored.tidy;
      };
      uses = λ v r f. elim (cases_eq (times (extent S s p t) v r) 0) [
        | inl e ↦ elim (b.uses v r (omega (arith, all.covers v r))) [
          | inl l ↦ inl (omega (arith, le v r))
          | inr l ↦ inr l
        ]
        | inr some ↦ inl (omega arith)
      ];
      zero_elsewhere = λ v r none f. b.zero_elsewhere v r (omega (arith, all.covers v r, le v r)) (elim f [
        | inl l ↦ inl (omega (arith, all.covers v r))
        | inr l ↦ inr l
      ]);
      kept = λ v r none l. b.kept v r (omega (arith, le v r)) l;
    }

-- A value is replaced twice.
pub replaced_again : (S R Q : Segments) (s p : ℕ) (t u w : Tree) → IsReplaced S R s p t u → IsReplaced R Q s p u w → IsReplaced S Q s p t w
replaced_again S R Q s p t u w a b = record {
  segments = le_trans a.segments b.segments;
  words = λ v. le_trans (a.words v) (b.words v);
  stored = b.stored;
  uses = λ v r l. elim (b.uses v r l) [
    | inl m ↦ a.uses v r m
    | inr m ↦ inr (le_trans (a.words v) m)
  ];
  zero_elsewhere = λ v r none f. elim (cases_eq (times (extent R s p u) v r) 0) [
    | inl e ↦ elim (cases_lt r (length (segment R v))) [
      | inl l ↦ b.kept v r e l ∙ a.zero_elsewhere v r e f
      | inr l ↦ b.zero_elsewhere v r none (inr l)
    ]
    | inr some ↦ b.zero_elsewhere v r none (inl (omega arith))
  ];
  kept = λ v r none l. elim (cases_eq (times (extent R s p u) v r) 0) [
    | inl e ↦ b.kept v r e (omega (arith, a.words v)) ∙ a.kept v r none l
    | inr some ↦ elim (a.uses v r (omega arith)) [
      | inl m ↦ absurd (omega arith)
      | inr m ↦ absurd (omega arith)
    ]
  ];
}

-- The root of a forest is stored.
pub forest_stored : (S : Segments) (t : Tree) → IsForest S t → IsStored S 0 0 t
forest_stored S t a = record { means = a.means; apart = a.apart; inside = a.inside; tidy = a.tidy }

pub forest_of : (S : Segments) (t : Tree) → IsStored S 0 0 t → ((v r : ℕ) → times (extent S 0 0 t) v r ≡ 0 → word_at S v r ≡ 0) → IsForest S t
forest_of S t a zeros = record { means = a.means; apart = a.apart; inside = a.inside; zero_elsewhere = zeros; tidy = a.tidy }

-- A value is replaced at the end of a path: the forest has the tree with the new value there.
pub forest_updated : (S R : Segments) (t : Tree) (path : List Step) (u q : ℕ) (x y : Tree) → IsForest S t → PathLeads S (node 0 0 t) path (node u q x) → IsReplaced S R u q x y → IsForest R (update t path y)
forest_updated S R t path u q x y a h b =
    let whole = replaced_within S R 0 0 t path u q x y h (forest_stored S t a) b in
    forest_of R (update t path y) whole.stored (λ v r none. elim (cases_eq (times (extent S 0 0 t) v r) 0) [
      | inl e ↦ elim (cases_lt r (length (segment S v))) [
        | inl l ↦ whole.kept v r e l ∙ a.zero_elsewhere v r e
        | inr l ↦ whole.zero_elsewhere v r none (inr l)
      ]
      | inr some ↦ whole.zero_elsewhere v r none (inl (omega arith))
    ])

-- All that a value holds is zeroed.
pub cleared : (S R : Segments) (s p : ℕ) (t : Tree) → length R ≡ length S → ((v : ℕ) → length (segment R v) ≡ length (segment S v)) → IsStored S s p t → ((v r : ℕ) → 0 < times (extent S s p t) v r → word_at R v r ≡ 0) →
    ((v r : ℕ) → times (extent S s p t) v r ≡ 0 → word_at R v r ≡ word_at S v r) → IsReplaced S R s p t Null
cleared S R s p t long longs a gone same =
    let own = λ (v r : ℕ). times-first (word_interval s p) (cover S s p t) v r in
    record {
      segments = le_of_eq (sym long);
      words = λ v. le_of_eq (sym (longs v));
      stored = record {
        means = (0, 0, (gone s p (omega (arith, own s p, once_held s p)), refl));
        apart = λ v r. omega (arith, a.apart v r, own v r);
        inside = λ v r l. omega (arith, a.inside v r (omega (arith, own v r)), longs v);
        tidy = tt;
      };
      uses = λ v r l. inl (omega (arith, own v r));
      zero_elsewhere = λ v r none f. elim f [
        | inl l ↦ gone v r l
        | inr l ↦ get_or_past (segment R v) r 0 (omega (arith, longs v))
      ];
      kept = λ v r none l. same v r none;
    }

-- A value is written into new words, in place of Null.
pub placed : (S R : Segments) (s p : ℕ) (u : Tree) (n c : ℕ) → Grows S R → p < length (segment S s) → Means R n s p u c → IsTidy R s p u →
    ((v r : ℕ) → times (cover R s p u) v r ≤ 1) → ((v r : ℕ) → 0 < times (cover R s p u) v r → (length (segment S v) ≤ r) × (r < length (segment R v))) →
    ((v r : ℕ) → times (word_interval s p ∷ []) v r ≡ 0 → r < length (segment S v) → word_at R v r ≡ word_at S v r) → ((v r : ℕ) → times (cover R s p u) v r ≡ 0 → length (segment S v) ≤ r → word_at R v r ≡ 0) → IsReplaced S R s p Null u
placed S R s p u n c grows place m y once new same zeros =
    let own = λ (v r : ℕ). times-first (word_interval s p) (cover R s p u) v r in
    let there = λ (v r : ℕ) (l : 0 < times (word_interval s p ∷ []) v r). place_held s p S v r place l in
    record {
      segments = grows.segments;
      words = grows.words;
      stored = record {
        means = (n, c, m);
        apart = λ v r. elim (cases_eq (times (cover R s p u) v r) 0) [
          | inl e ↦ omega (arith, own v r, once_at_most s p v r)
          | inr some ↦ elim (cases_eq (times (word_interval s p ∷ []) v r) 0) [
            | inl e ↦ omega (arith, own v r, once v r)
            | inr f ↦ absurd (omega (arith, (new v r (omega arith)).0, there v r (omega arith)))
          ]
        ];
        inside = λ v r l. elim (cases_eq (times (cover R s p u) v r) 0) [
          | inl e ↦ omega (arith, there v r (omega (arith, own v r)), grows.words v)
          | inr some ↦ (new v r (omega arith)).1
        ];
        tidy = y;
      };
      uses = λ v r l. elim (cases_eq (times (cover R s p u) v r) 0) [
        | inl e ↦ inl (omega (arith, own v r))
        | inr some ↦ inr (new v r (omega arith)).0
      ];
      zero_elsewhere = λ v r none f. elim f [
        | inl l ↦ absurd (omega (arith, own v r))
        | inr l ↦ zeros v r (omega (arith, own v r)) l
      ];
      kept = λ v r none l. same v r (omega arith) l;
    }
  where
    once_at_most : (s p v r : ℕ) → times (word_interval s p ∷ []) v r ≤ 1
    once_at_most s p v r = grind (arith, nat_tests)

    is_place : (s p v r : ℕ) → 0 < times (word_interval s p ∷ []) v r → (v ≡ s) × (r ≡ p)
    is_place s p v r l = (grind (arith, nat_tests), grind (arith, nat_tests))

    place_held : (s p : ℕ) (S : Segments) (v r : ℕ) → p < length (segment S s) → 0 < times (word_interval s p ∷ []) v r → r < length (segment S v)
    place_held s p S v r place l = let e = is_place s p v r l in rw (e.0, e.1) place

-- There are only new words, all of them zero.
pub grown : (S R : Segments) (s p : ℕ) (t : Tree) → Grows S R → IsStored S s p t → ((v r : ℕ) → r < length (segment S v) → word_at R v r ≡ word_at S v r) → ((v r : ℕ) → length (segment S v) ≤ r → word_at R v r ≡ 0) → IsReplaced S R s p t t
grown S R s p t grows a same zeros =
    let m = a.means in
    let own = λ (v r : ℕ). times-first (word_interval s p) (cover S s p t) v r in
    let here : word_at R s p ≡ word_at S s p = same s p (a.inside s p (omega (arith, own s p, once_held s p))) in
    let agree : Agree S R (cover S s p t) = λ v r l. same v r (a.inside v r (omega (arith, own v r))) in
    let f = frame S R m.0 s p t m.1 grows here agree m.2 in
    let eq = λ (v r : ℕ). ap (λ is. times (word_interval s p ∷ is) v r) f.1 in
    record {
      segments = grows.segments;
      words = grows.words;
      stored = record {
        means = (m.0, m.1, f.0);
        apart = λ v r. omega (arith, eq v r, a.apart v r);
        inside = λ v r l. omega (arith, grows.words v, a.inside v r (omega (arith, eq v r)));
        tidy = tidy_kept S R m.0 s p t m.1 grows here agree m.2 a.tidy;
      };
      uses = λ v r l. inl (omega (arith, eq v r));
      zero_elsewhere = λ v r none f. elim f [
        | inl l ↦ absurd (omega (arith, eq v r))
        | inr l ↦ zeros v r l
      ];
      kept = λ v r none l. same v r l;
    }
