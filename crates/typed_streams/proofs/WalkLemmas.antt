-- A message is tested as the value of its root is.
use Rattle.std.proofs.Common.{◌≡◌, ◌↔◌, ◌∙◌, inl, inr, ℕ, ◌≤◌, true, Option, Result, Ok, Err, IfErr, IsOk, ap, subst, arith}
use Rattle.std.proofs.lemmas.Bool.{false≢true}
use Rattle.capnp_words.specs.declared.error.ErrorKind.{ErrorKind}
use Rattle.capnp_words.specs.Meter.{Affords, Meter, unused}
use Rattle.capnp_format.specs.Segments.{Segments}
use Rattle.capnp_format.specs.Tree.{Tree}
use Rattle.capnp_pointers.specs.Outcomes.{MeansThere}
use Rattle.capnp_pointers.specs.Reading.{Reading, unset}
use Rattle.capnp_pointers.specs.Source.{levels}
use Rattle.capnp_messages.specs.Messages.{left_of, root_within}
use Rattle.capnp_messages.specs.Roots.{CoversRoot, RefusesRoot, no_root, no_budget}
use Rattle.capnp_messages.proofs.CanonLemmas.{covers_rest}
use Rattle.capnp_messages.proofs.MessageLemmas.{AtRoot}
use Rattle.capnp_messages.proofs.SizeLemmas.{root_is, root_stops}
use Rattle.typed_conforming.specs.Blame.{IsTrueFrom, first_visit}
use Rattle.typed_conforming.specs.Conforms.{Conforms}
use Rattle.typed_conforming.specs.Walk.{check_place, misfit_at, rowless_pointer}
use Rattle.typed_conforming.specs.declared.schema.Kind.TheVariants.{Struct}
use Rattle.typed_conforming.specs.declared.schema.Misfit.{Misfit}
use Rattle.typed_conforming.proofs.Checking.{affords_both}
use Rattle.typed_streams.specs.Conforming.{IsConforming, IsMisfitOf, Wanted, walk_from, walk_through}

-- a root pointer that is refused isn't covered
uncovered : (S : Segments) (left : Option ℕ) (k : ErrorKind) → RefusesRoot S left k → CoversRoot S left → ⊥
uncovered S left k (no_root named none) covers = none covers.root
uncovered S left k (no_budget named root empty) covers =
    let one : 1 ≤ 0 = rw empty at covers.covered in omega (arith, one)

abbrev not_ok : Misfit → Result (Unit {0}) Misfit
not_ok x = Err x

module _ (w : Wanted) {S : Segments} where
  -- the root pointer is read at r, and m is left
  walked : {r : Reading} {m : Meter} (result : Result (Unit {0}) Misfit) (m' : Meter) → AtRoot S w.limits r m →
      check_place w.table (rowless_pointer (Struct w.row)) r m ≡ (result, m') → walk_through w S ≡ (result, m')
  walked {r} {m} result m' root is =
      let p = rowless_pointer (Struct w.row) in
      let placed = subst (λ (x : Reading). check_place w.table p x m ≡ (result, m')) root.place is in
      let here = subst (λ (x : Meter). check_place w.table p (root_within S w.limits) x ≡ (result, m')) root.left placed in
      ap (walk_from w) (root_is S (levels w.limits.nesting_limit) w.limits.traversal_limit_in_words root.covers) ∙ here

  -- a message conforms exactly if the walk of its root says yes
  pub accepted : {r : Reading} {m : Meter} {B : Type 0} → AtRoot S w.limits r m →
      (B ↔ ((t : Tree) × (c : ℕ) × Conforms w.table (Struct w.row) t × MeansThere r t c × Affords r.charging m c)) →
      B ↔ IsConforming w S
  accepted {B = B} root h =
      let both : B ↔ ((t : Tree) × (c : ℕ) × Conforms w.table (Struct w.row) t × MeansThere (root_within S w.limits) t c × Affords true (unused (left_of w.limits)) c) = (rw (root.place, root.left) at h) in (
        (λ b.
            let (t, c, conforms, means, rest) = both.0 b in
            record {
              root = root.covers;
              value = t;
              cost = c;
              conforms = conforms;
              means = means;
              covered = affords_both true (unused w.limits.traversal_limit_in_words) c root.covers.covered rest;
            }),
        (λ it. both.1 (it.value, it.cost, it.conforms, it.means, covers_rest w.limits.traversal_limit_in_words it.cost it.covered)),
      )

  pub blamed : {r : Reading} {m : Meter} (result : Result (Unit {0}) Misfit) (m' : Meter) → AtRoot S w.limits r m →
      check_place w.table (rowless_pointer (Struct w.row)) r m ≡ (result, m') →
      IfErr result (IsTrueFrom (first_visit w.table (Struct w.row) r) m') → IfErr result (IsMisfitOf w S)
  blamed (Ok x) m' root is why = tt
  blamed (Err x) m' root is why = record {
    left = m';
    first = walked (Err x) m' root is;
    is_true = inr (subst (λ (y : Reading). IsTrueFrom (first_visit w.table (Struct w.row) y) m' x) root.place why);
  }

  -- the root pointer is refused
  refused_here : {T : Segments} {before : Meter} {k : ErrorKind} → T ≡ S → before ≡ unused w.limits.traversal_limit_in_words →
      RefusesRoot T before.left k → RefusesRoot S w.limits.traversal_limit_in_words k
  refused_here {before = before} {k = k} same begun refused =
      subst (λ (x : Meter). RefusesRoot S x.left k) begun (subst (λ (X : Segments). RefusesRoot X before.left k) same refused)

  pub root_unaccepted : {T : Segments} {before : Meter} {k : ErrorKind} (x : Misfit) → T ≡ S →
      before ≡ unused w.limits.traversal_limit_in_words → RefusesRoot T before.left k → IsOk (not_ok x) ↔ IsConforming w S
  root_unaccepted {k = k} x same begun refused = (
    (λ ok. absurd (false≢true ok)),
    (λ it. absurd (uncovered S w.limits.traversal_limit_in_words k (refused_here same begun refused) it.root)),
  )

  pub root_blamed : {T : Segments} {before : Meter} {k : ErrorKind} → T ≡ S → before ≡ unused w.limits.traversal_limit_in_words →
      RefusesRoot T before.left k → IsMisfitOf w S (misfit_at (rowless_pointer (Struct w.row)) unset k)
  root_blamed {k = k} same begun refused =
      let here = refused_here same begun refused in
      record {
        left = unused w.limits.traversal_limit_in_words;
        first = ap (walk_from w) (root_stops S (levels w.limits.nesting_limit) w.limits.traversal_limit_in_words k here);
        is_true = inl here;
      }
