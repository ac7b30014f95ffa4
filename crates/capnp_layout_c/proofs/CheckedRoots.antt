-- A message is checked as the value of its root is.
use Rattle.std.proofs.Common.{◌≡◌, ◌↔◌, ℕ, ℤ, ◌+◌, ◌-◌, ◌≤◌, true, Option, Some, None, Result, Ok, Err, IsOk, OnOk, List, refl, ap, ◌∙◌, arith}
use Rattle.std.proofs.lemmas.Bool.{false≢true}
use Rattle.capnp_words.specs.declared.error.ErrorKind.{ErrorKind}
use Rattle.capnp_words.specs.Meter.{Affords, FitsIn, Meter, less, spent}
use Rattle.capnp_format.specs.Means.{Means}
use Rattle.capnp_format.specs.Segments.{Segments}
use Rattle.capnp_format.specs.Tree.{Tree}
use Rattle.capnp_format.proofs.Levels.{one_value}
use Rattle.capnp_pointers.specs.Outcomes.{MeansThere}
use Rattle.capnp_pointers.specs.Source.{levels}
use Rattle.capnp_pointers.specs.Reading.{Reading}
use Rattle.capnp_pointers.specs.Spending.{Paid, pointers_in}
use Rattle.capnp_messages.specs.Messages.{arena_limits}
use Rattle.capnp_messages.specs.Roots.{CoversRoot, RefusesRoot, no_root, no_budget, message_root}
use Rattle.capnp_messages.proofs.CanonLemmas.{covers_rest}
use Rattle.capnp_messages.proofs.CheckedLemmas.{root_read, root_unread}
use Rattle.typed_conforming.specs.Conforms.{Conforms}
use Rattle.typed_conforming.specs.Walk.{check_place, rowless_pointer}
use Rattle.typed_conforming.specs.declared.schema.Misfit.{Misfit}
use Rattle.typed_conforming.specs.declared.schema.Kind.TheVariants.{Struct}
use Rattle.typed_conforming.proofs.Checking.{affords_both}
use Rattle.capnp_layout_c.specs.Checking.{ConformsWithin, check_from, check_message}

less_both : (left : Option ℕ) (c : ℕ) → less (less left 1) c ≡ less left (1 + c)
less_both None c = refl
less_both (Some n) c = ap Some (omega arith)

-- a root that is refused isn't covered
uncovered : (S : Segments) (left : Option ℕ) (k : ErrorKind) → RefusesRoot S left k → CoversRoot S left → ⊥
uncovered S left k (no_root named none) covers = none covers.root
uncovered S left k (no_budget named root empty) covers = let one : 1 ≤ 0 = rw empty at covers.covered in omega (arith, one)

abbrev not_ok : Misfit → Result (Unit {0}) Misfit
not_ok e = Err e

module _ (T : List ℕ) (row : ℕ) (S : Segments) (nesting : ℤ) (m : Meter) where
  -- The root pointer is read, at r, and leaves n.
  pub walk_read : {r : Reading} {n : Meter} (result : Result (Unit {0}) Misfit) (m' : Meter) → r ≡ message_root S (levels nesting) → n ≡ spent m 1 → CoversRoot S m.left →
      check_place T (rowless_pointer (Struct row)) r n ≡ (result, m') → check_message T row S (levels nesting) m ≡ (result, m')
  walk_read result m' place charged covers is = ap (check_from T row) (root_read S (levels nesting) m covers) ∙ (rw (place, charged) at is)

  pub accepted : {r : Reading} {n : Meter} {B : Type 0} → r ≡ message_root S (levels nesting) → n ≡ spent m 1 → CoversRoot S m.left →
      (B ↔ ((t : Tree) × (c : ℕ) × Conforms T (Struct row) t × MeansThere r t c × Affords r.charging n c)) →
      B ↔ ConformsWithin T row S (arena_limits nesting m.left)
  accepted {B = B} place charged covers h =
      let both : B ↔ ((t : Tree) × (c : ℕ) × Conforms T (Struct row) t × MeansThere (message_root S (levels nesting)) t c × Affords true (spent m 1) c) = (rw (place, charged) at h) in (
        (λ b. let (t, c, is, means, rest) = both.0 b in record { root = covers; value = t; cost = c; means = means; conforms = is; covered = affords_both true m c covers.covered rest }),
        (λ w. both.1 (w.value, w.cost, w.conforms, w.means, covers_rest m.left w.cost w.covered)),
      )

  on_ok : (result : Result (Unit {0}) Misfit) (m' : Meter) (c k : ℕ) → OnOk result (Paid true (spent m 1) m' c k) → OnOk result (m'.left ≡ less m.left (1 + c))
  on_ok (Ok x) m' c k h = ap (λ (y : Meter). y.left) h.spent ∙ less_both m.left c
  on_ok (Err e) m' c k h = tt

  pub paid : {r : Reading} {n : Meter} (result : Result (Unit {0}) Misfit) (m' : Meter) → r ≡ message_root S (levels nesting) → n ≡ spent m 1 →
      ((t : Tree) (c : ℕ) → MeansThere r t c → OnOk result (Paid r.charging n m' c (pointers_in t))) →
      (t : Tree) (c : ℕ) → MeansThere (message_root S (levels nesting)) t c → OnOk result (m'.left ≡ less m.left (1 + c))
  paid result m' place charged h t c means = on_ok result m' c (pointers_in t) ((rw (place, charged) at h) t c means)

  -- The root pointer is refused.
  pub walk_unread : (k : ErrorKind) → RefusesRoot S m.left k → check_message T row S (levels nesting) m ≡ (Err (record { error = k; segment = 0; word = 0; row = 0; index = 0 }), m)
  walk_unread k refused = ap (check_from T row) (root_unread S (levels nesting) m k refused)

  pub unaccepted : (k : ErrorKind) (e : Misfit) → RefusesRoot S m.left k → IsOk (not_ok e) ↔ ConformsWithin T row S (arena_limits nesting m.left)
  unaccepted k e refused = ((λ ok. absurd (false≢true ok)), (λ w. absurd (uncovered S m.left k refused w.root)))

-- What a message takes that conforms.
pub taken : (T : List ℕ) (row : ℕ) (S : Segments) (nesting : ℤ) (old : ℕ) (t : Tree) (c : ℕ) → ConformsWithin T row S (arena_limits nesting (Some old)) → Means S (levels nesting) 0 0 t c → 1 + c ≤ old
taken T row S nesting old t c w means =
    let same : w.cost ≡ c = (one_value S (levels nesting) (levels nesting) 0 0 w.value t w.cost c w.means means).1 in
    omega (arith, same, w.covered)
