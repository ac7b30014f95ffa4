-- The size of a message is that of what its root leads to.
use Rattle.std.proofs.Common.{◌≡◌, ◌⊎◌, inl, inr, ℕ, zero, suc, true, false, nat_lt, refl, Option, None, Some, Result, Ok, Err, IfOk, length, subst, sym, ap, ◌∙◌, arith, le-leb, lt-ltb, ◌↔◌, ◌≤◌, IsOk, IfErr}
use Rattle.std.proofs.lemmas.Bool.{cases_lt}
use Rattle.capnp_words.specs.declared.error.ErrorKind.{ErrorKind}
use Rattle.capnp_words.specs.declared.error.ErrorKind.TheVariants.{InvalidSegmentId, ReadLimitExceeded}
use Rattle.capnp_words.specs.Meter.{FitsIn, Meter, less, unused}
use Rattle.capnp_format.specs.Segments.{IsPlace, Segments, segment}
use Rattle.capnp_arena_traits.specs.Checks.{misplaced}
use Rattle.capnp_arena.specs.declared.arena.reader_arena_impl.ReaderOptions.{ReaderOptions}
use Rattle.capnp_pointers.specs.Metered.{fits, onward}
use Rattle.capnp_pointers.specs.Reading.{Reading}
use Rattle.capnp_pointers.specs.Source.{levels}
use Rattle.capnp_pointers.specs.declared.pointers.sizes.MessageSize.{MessageSize}
use Rattle.capnp_pointers.specs.Measure.{measure, only_words}
use Rattle.capnp_pointers.proofs.Sizes.CountsTheValue.{size_is}
use Rattle.capnp_messages.specs.Roots.{CoversRoot, RefusesRoot, message_root, read_message_root}
use Rattle.capnp_messages.specs.Roots.RefusesRoot.{no_root, no_budget}
use Rattle.capnp_messages.specs.Messages.{HasSizeOf, HasSizeWithin, RefusesSize, message_size, root_within}
use Rattle.capnp_format.specs.Means.{Means}
use Rattle.capnp_format.specs.Tree.{Tree}
use Rattle.capnp_pointers.specs.ValueSize.{value_size}
use Rattle.capnp_messages.proofs.MessageLemmas.{AtRoot}

pub fits_one : (left : Option ℕ) → FitsIn left 1 → fits left 1 ≡ true
fits_one None h = refl
fits_one (Some x) h = le-leb 1 x h

-- The root is read, or refused.
covered_or_not : (S : Segments) (budget : Option ℕ) → IsPlace S 0 0 → CoversRoot S budget ⊎ ((k : ErrorKind) × RefusesRoot S budget k)
covered_or_not S None there = inl (record { root = there; covered = tt })
covered_or_not S (Some zero) there = inr (ReadLimitExceeded, no_budget refl there refl)
covered_or_not S (Some (suc n)) there = inl (record { root = there; covered = omega arith })

pub root_or_not : (S : Segments) (budget : Option ℕ) → CoversRoot S budget ⊎ ((k : ErrorKind) × RefusesRoot S budget k)
root_or_not S budget = elim (cases_lt 0 (length (segment S 0))) [
  | inl there ↦ covered_or_not S budget there
  | inr none ↦ inr (misplaced S 0 (InvalidSegmentId 0), no_root refl (λ there. omega (arith, there, none)))
]

-- What reading the root returns.
pub root_is : (S : Segments) (n : ℕ) (left : Option ℕ) → CoversRoot S left → read_message_root S n (unused left) ≡ (Ok (message_root S n), unused (less left 1))
root_is S n left covers =
    let there : nat_lt 0 (length (segment S 0)) ≡ true = lt-ltb _ _ covers.root in
    let covered : fits left 1 ≡ true = fits_one left covers.covered in
    rw (there, covered) refl

pub root_stops : (S : Segments) (n : ℕ) (left : Option ℕ) (k : ErrorKind) → RefusesRoot S left k → read_message_root S n (unused left) ≡ (Err k, unused left)
root_stops S n left k (no_root named none) =
    let empty : length (segment S 0) ≤ 0 = omega (arith, none) in
    let absent : nat_lt 0 (length (segment S 0)) ≡ false = grind (arith, empty) in
    rw absent (ap (λ e. (Err e, unused left)) (sym named))
root_stops S n left k (no_budget named root none) =
    let there : nat_lt 0 (length (segment S 0)) ≡ true = lt-ltb _ _ root in
    rw (there, none) (ap (λ e. (Err e, unused (Some 0))) (sym named))

-- What it leads to is measured.
pub size_at_root : {S : Segments} {limits : ReaderOptions} {r : Reading} {m m' : Meter} {result : Result MessageSize ErrorKind} →
    AtRoot S limits r m → measure r (only_words 0) m ≡ (result, m') → message_size S limits ≡ result
size_at_root {S} {limits} {r} {m} {m'} {result} root e =
    let placed = subst (λ (x : Reading). measure x (only_words 0) m ≡ (result, m')) root.place e in
    let read = subst (λ (x : Meter). measure (root_within S limits) (only_words 0) x ≡ (result, m')) root.left placed in
    ap (λ o. (onward (λ (x : Reading). measure x (only_words 0)) o).0) (root_is S (levels limits.nesting_limit) limits.traversal_limit_in_words root.covers) ∙ ap (λ o. o.0) read

pub size_found : {S : Segments} {limits : ReaderOptions} {r : Reading} {m m' : Meter} (result : Result MessageSize ErrorKind) →
    AtRoot S limits r m → measure r (only_words 0) m ≡ (result, m') → IfOk result (λ z. HasSizeOf S limits z.word_count z.cap_count)
size_found {S} {limits} {r} {m} {m'} (Ok z) root e =
    let placed = subst (λ (x : Reading). measure x (only_words 0) m ≡ (Ok z, m')) root.place e in
    record { counted = size_at_root root e; of_value = λ t n cost means. (let same = size_is (root_within S limits) n m m' z t cost placed means in (ap (λ y. y.word_count) same, ap (λ y. y.cap_count) same)) }
size_found (Err k) root e = tt

pub size_without_root : (limits : ReaderOptions) {S : Segments} {before : Meter} {k : ErrorKind} →
    before ≡ unused limits.traversal_limit_in_words → RefusesRoot S before.left k → message_size S limits ≡ Err k
size_without_root limits {S} {k = k} begun refused =
    let here : RefusesRoot S limits.traversal_limit_in_words k = subst (λ (x : Meter). RefusesRoot S x.left k) begun refused in
    ap (λ o. (onward (λ (x : Reading). measure x (only_words 0)) o).0) (root_stops S (levels limits.nesting_limit) limits.traversal_limit_in_words k here)

-- What this says of a result.
pub has_size_if : (S : Segments) (limits : ReaderOptions) (result : Result MessageSize ErrorKind) → message_size S limits ≡ result → IsOk result ↔ HasSizeWithin S limits
has_size_if S limits result e = ((λ is. subst (λ (x : Result MessageSize ErrorKind). IsOk x) (sym e) is), (λ has. subst (λ (x : Result MessageSize ErrorKind). IsOk x) e has))

pub size_refused_if : (S : Segments) (limits : ReaderOptions) (result : Result MessageSize ErrorKind) → message_size S limits ≡ result → IfErr result (RefusesSize S limits)
size_refused_if S limits (Ok z) e = tt
size_refused_if S limits (Err k) e = e

-- The size is that of the value which the root means.
pub size_of_value : (S : Segments) (limits : ReaderOptions) (z : MessageSize) (t : Tree) (n cost : ℕ) → message_size S limits ≡ Ok z → Means S n 0 0 t cost → z ≡ value_size t
size_of_value S limits z t n cost is means = elim (root_or_not S limits.traversal_limit_in_words) [
  | inl covers ↦
      let m : Meter = unused (less limits.traversal_limit_in_words 1) in
      let left : Meter = (measure (root_within S limits) (only_words 0) m).1 in
      let read : (measure (root_within S limits) (only_words 0) m).0 ≡ Ok z = sym (ap (λ o. (onward (λ (x : Reading). measure x (only_words 0)) o).0) (root_is S (levels limits.nesting_limit) limits.traversal_limit_in_words covers)) ∙ is in
      size_is (root_within S limits) n m left z t cost (ap (λ x. (x, left)) read) means
  | inr refused ↦
      let wrong : Err refused.0 ≡ Ok z = sym (ap (λ o. (onward (λ (x : Reading). measure x (only_words 0)) o).0) (root_stops S (levels limits.nesting_limit) limits.traversal_limit_in_words refused.0 refused.1)) ∙ is in
      absurd (cc wrong)
]
