-- Messages that can be read whole are the same exactly if their lines are.
use Rattle.std.proofs.Common.{◌≡◌, ◌≢◌, ◌↔◌, ℕ, List, [], ◌++◌, Option, Some, None, Result, IfErr, refl, sym, ap, ◌∙◌, subst}
use Rattle.std.specs.Prelude.{codes, IsNone, IfSome, IsErrAnd}
use Rattle.std.proofs.lemmas.List.{same_from_push}
use Rattle.std.proofs.lemmas.Result.{err_from_is_err_and}
use Rattle.capnp_words.specs.Meter.{unused}
use Rattle.capnp_format.specs.Segments.{AreWords, Segments}
use Rattle.capnp_format.specs.Tree.{Tree}
use Rattle.capnp_format.proofs.Levels.{depth_within}
use Rattle.capnp_arena.specs.declared.arena.reader_arena_impl.ReaderOptions.{ReaderOptions}
use Rattle.capnp_pointers.specs.Metered.{answer, onward}
use Rattle.capnp_pointers.specs.Source.{levels}
use Rattle.capnp_messages.specs.Messages.{IsReadable, left_of, root_within}
use Rattle.capnp_messages.specs.Parts.{to_pointer}
use Rattle.capnp_messages.proofs.CanonLemmas.{covers_rest}
use Rattle.capnp_messages.proofs.SizeLemmas.{root_is}
use Rattle.capnp_show.specs.Line.{value_line}
use Rattle.capnp_show.specs.ShownParts.{IsShownPart}
use Rattle.capnp_show.specs.declared.show.compare.CompareFault.{CompareFault}
use Rattle.capnp_show.specs.declared.show.compare.CompareFault.TheVariants.{AllocationFailed, TooLong, WriteFailed}
use Rattle.capnp_show.specs.declared.show.compare.Difference.{Difference}
use Rattle.capnp_show.proofs.Lines.{meant_line}

-- The root of a message that can be read whole is shown as the line of its value.
whole_shown : {S : Segments} {limits : ReaderOptions} (r : IsReadable S limits) → IsShownPart S limits [] (levels limits.nesting_limit) r.value
whole_shown {S} {limits} r = record {
  path_end = to_pointer (root_within S limits);
  left = unused (left_of limits);
  leads = ap (onward (λ p. answer (to_pointer p))) (root_is S (levels limits.nesting_limit) limits.traversal_limit_in_words r.root);
  cost = r.cost;
  means = r.means;
  covered = covers_rest limits.traversal_limit_in_words r.cost r.covered;
  deep = depth_within r.value (record { means = r.means });
}

-- The same of an arena with its segments.
pub shown_in : {S T : Segments} {limits : ReaderOptions} (r : IsReadable S limits) → T ≡ S → IsShownPart T limits [] (levels limits.nesting_limit) r.value
shown_in {limits = limits} r same = subst (λ (X : Segments). IsShownPart X limits [] (levels limits.nesting_limit) r.value) (sym same) (whole_shown r)

-- A depth that is computed.
pub to_depth : {S : Segments} {limits : ReaderOptions} {path : List ℕ} {d n : ℕ} {t : Tree} → n ≡ d → IsShownPart S limits path d t → IsShownPart S limits path n t
to_depth {S} {limits} {path} {t = t} e part = subst (λ (x : ℕ). IsShownPart S limits path x t) (sym e) part

-- Equal lines are those of equal values.
pub values_alike : {S R : Segments} {limits : ReaderOptions} (l : IsReadable S limits) (r : IsReadable R limits) → AreWords S → AreWords R → value_line l.value ≡ value_line r.value → l.value ≡ r.value
values_alike {S} {R} {limits} l r first second e =
    meant_line S R (levels limits.nesting_limit) (levels limits.nesting_limit) 0 0 0 0 l.value r.value l.cost r.cost first second l.means r.means e

-- Two lines have no difference exactly if the lines of their values are equal.
pub lines_compared : (t u : Tree) {xs ys : List ℕ} (o : Option Difference) → (IsNone o → xs ≡ ys) → IfSome o (λ d. xs ≡ ys → ⊥) → xs ≡ value_line t ++ codes "\n" → ys ≡ value_line u ++ codes "\n" → IsNone o ↔ (value_line t ≡ value_line u)
lines_compared t u None same differ a b = (λ none. (same_from_push (value_line t) (value_line u) 10 10 (sym a ∙ same none ∙ b)).0, λ e. refl)
lines_compared t u (Some d) same differ a b = (λ none. absurd (cc none), λ e. absurd (differ (a ∙ ap (λ xs. xs ++ codes "\n") e ∙ sym b)))

-- A refusal that neither a long line nor the output is the reason of.
pub lacks_memory : {A : Type 0} {k : CompareFault} (r : Result A CompareFault) → IsErrAnd r (λ e. e ≡ k) → (k ≡ TooLong → ⊥) → k ≢ WriteFailed → IfErr r (λ e. e ≡ AllocationFailed)
lacks_memory {k = AllocationFailed} r h short works = let p = err_from_is_err_and r h in rw (p.1) p.2
lacks_memory {k = TooLong} r h short works = absurd (short refl)
lacks_memory {k = WriteFailed} r h short works = absurd (works refl)

-- A refusal that isn't for a long line.
pub not_long : {A : Type 0} {k : CompareFault} (r : Result A CompareFault) → IsErrAnd r (λ e. e ≡ k) → (k ≡ TooLong → ⊥) → IfErr r (λ e. e ≢ TooLong)
not_long r h short = let p = err_from_is_err_and r h in rw (p.1) (λ is. short (sym p.2 ∙ is))
