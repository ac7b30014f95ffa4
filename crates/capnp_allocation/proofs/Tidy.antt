-- If words that a value doesn't cover change, it stays tidy.
use Rattle.std.proofs.Common.{◌≡◌, ℕ, pred, ◌+◌, ◌*◌, [], length, Some, sym, ap, ◌∙◌, subst, arith}
use Rattle.capnp_format.specs.Numbers.{words_for, packed}
use Rattle.capnp_format.specs.Segments.{Segments, word_at, words_at, Target, leads}
use Rattle.capnp_format.specs.Word.{list_count}
use Rattle.capnp_format.specs.Tree.{Tree, Null, Capability, Struct, Flat, Pointers, Structs, Trees, no_trees, tree, Elements, no_elements, element, count, element_count}
use Rattle.capnp_format.specs.Means.{Means, MeansAll, MeansElements}
use Rattle.capnp_format.specs.Forest.{target, target_in, cover, cover_all, cover_elements, IsTidy, AreTidy, AreTidyElements}
use Rattle.capnp_format.specs.Segments.{Grows}
use Rattle.capnp_format.proofs.Frame.{Agree, SameWords, agree_left, agree_right, object_agrees, words_kept}

-- What holds of the target in S holds of it in R if both pointers lead to a.
pub at_target : (S R : Segments) (s p : ℕ) (a : Target) (P Q : Target → Type 0) → leads S s p ≡ Some a → leads R s p ≡ Some a → (P a → Q a) → P (target S s p) → Q (target R s p)
at_target S R s p a P Q l m f h = subst Q (sym (ap target_in m)) (f (subst P (ap target_in l) h))

mutual
  pub tidy_kept : (S R : Segments) (n s p : ℕ) (t : Tree) (c : ℕ) → Grows S R → word_at R s p ≡ word_at S s p → Agree S R (cover S s p t) → Means S n s p t c → IsTidy S s p t → IsTidy R s p t
  tidy_kept S R n s p Null c grows same h m y = tt
  tidy_kept S R n s p (Capability i) c grows same h m y = tt
  tidy_kept S R n s p (Struct ws ts) c grows same h (a, k, some, o, claim, e, all, g) y =
      let f = object_agrees (length ws + count ts) (λ b. cover_all S b.segment (b.start + length ws) ts) (record { grows = grows; same = same }) o.leads_to h in
      at_target S R s p a (λ b. AreTidy S b.segment (b.start + length ws) ts) (λ b. AreTidy R b.segment (b.start + length ws) ts) o.leads_to.1 f.0.1
      (tidy_kept_all S R (pred n) a.segment (a.start + length ws) ts k grows (λ q v w. f.1 q (omega arith) (omega arith)) f.2 all) y
  tidy_kept S R n s p (Flat size ns) c grows same h (a, some, small, o, claim, e, g) y =
      let w = words_for size (length ns) in
      let f = object_agrees w (λ _. []) (record { grows = grows; same = same }) o.leads_to h in
      at_target S R s p a (λ b. words_at S b.segment b.start w ≡ packed size ns) (λ b. words_at R b.segment b.start w ≡ packed size ns) o.leads_to.1 f.0.1
      (λ z. words_kept a.segment a.start w grows claim f.1 ∙ z) y
  tidy_kept S R n s p (Pointers ts) c grows same h (a, k, some, o, claim, all, g) y =
      let f = object_agrees (count ts) (λ b. cover_all S b.segment b.start ts) (record { grows = grows; same = same }) o.leads_to h in
      at_target S R s p a (λ b. AreTidy S b.segment b.start ts) (λ b. AreTidy R b.segment b.start ts) o.leads_to.1 f.0.1
      (tidy_kept_all S R (pred n) a.segment a.start ts k grows f.1 f.2 all) y
  tidy_kept S R n s p (Structs d q es) c grows same h (a, m, k, some, o, claim, tag, fits, all, g) y =
      let w = element_count es * (d + q) in
      let f = object_agrees (1 + w) (λ b. cover_elements S b.segment (b.start + 1) d q es) (record { grows = grows; same = same }) o.leads_to h in
      at_target S R s p a (λ b. (list_count b.word ≡ w) × AreTidyElements S b.segment (b.start + 1) d q es) (λ b. (list_count b.word ≡ w) × AreTidyElements R b.segment (b.start + 1) d q es) o.leads_to.1 f.0.1
      (λ z. (z.0, tidy_kept_elements S R (pred n) a.segment (a.start + 1) d q es k grows (λ r v x. f.1 r (omega arith) (omega arith)) f.2 all z.1)) y

  pub tidy_kept_all : (S R : Segments) (n s p : ℕ) (ts : Trees) (c : ℕ) → Grows S R → SameWords S R s p (count ts) → Agree S R (cover_all S s p ts) → MeansAll S n s p ts c → AreTidy S s p ts → AreTidy R s p ts
  tidy_kept_all S R n s p no_trees c grows same h m y = tt
  tidy_kept_all S R n s p (tree t ts) c grows same h (k, l, one, rest, g) y = (
    tidy_kept S R n s p t k grows (same p (omega arith) (omega arith)) (agree_left S R (cover S s p t) (cover_all S s (p + 1) ts) h) one y.0,
    tidy_kept_all S R n s (p + 1) ts l grows (λ q v w. same q (omega arith) (omega arith)) (agree_right S R (cover S s p t) (cover_all S s (p + 1) ts) h) rest y.1,
  )

  pub tidy_kept_elements : (S R : Segments) (n s p d q : ℕ) (es : Elements) (c : ℕ) → Grows S R → SameWords S R s p (element_count es * (d + q)) → Agree S R (cover_elements S s p d q es) → MeansElements S n s p d q es c →
      AreTidyElements S s p d q es → AreTidyElements R s p d q es
  tidy_kept_elements S R n s p d q no_elements c grows same h m y = tt
  tidy_kept_elements S R n s p d q (element ws ts es) c grows same h (k, l, long, len, e, all, rest, g) y =
      let more = element_count es * (d + q) in (
        tidy_kept_all S R n s (p + d) ts k grows (λ r v w. same r (omega arith) (omega arith)) (agree_left S R (cover_all S s (p + d) ts) (cover_elements S s (p + d + q) d q es) h) all y.0,
        tidy_kept_elements S R n s (p + d + q) d q es l grows (λ r v w. same r (omega arith) (omega arith)) (agree_right S R (cover_all S s (p + d) ts) (cover_elements S s (p + d + q) d q es) h) rest y.1,
      )
