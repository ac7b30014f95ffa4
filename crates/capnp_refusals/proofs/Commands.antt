-- A command that is refused stops at a pointer, and its refusal is that pointer's.
use Rattle.std.proofs.Common.{◌≡◌, inl, inr, ℕ, Bool, true, false, cond, nat_eq, length, min, Option, Some, Result, Ok, Err, refl, sym, ap, ◌∙◌, subst}
use Rattle.capnp_words.specs.declared.error.ErrorKind.{ErrorKind}
use Rattle.capnp_words.specs.declared.error.ErrorKind.TheVariants.{MessageIsTooDeeplyNestedOrContainsCycles, MessageTooLarge}
use Rattle.capnp_words.specs.Meter.{Meter, unused}
use Rattle.capnp_format.specs.Segments.{Segments}
use Rattle.capnp_format.specs.Tree.{Tree}
use Rattle.capnp_arena_traits.specs.Allocations.{max_segment_words}
use Rattle.capnp_arena.specs.declared.arena.reader_arena_impl.ReaderOptions.{ReaderOptions}
use Rattle.capnp_pointers.specs.Metered.{answer, onward, ◌>>>◌}
use Rattle.capnp_pointers.specs.Source.{levels}
use Rattle.capnp_pointers.specs.Values.{value}
use Rattle.capnp_pointers.specs.Wanted.{canonical, plain}
use Rattle.capnp_pointers.specs.Extents.{read_extent, value_extent}
use Rattle.capnp_pointers.specs.Measure.{measure, only_words}
use Rattle.capnp_pointers.specs.Testing.{IsTestName, Verdict, test_value}
use Rattle.capnp_pointers.specs.declared.pointers.canonical_fault.CanonicalFault.{CanonicalFault}
use Rattle.capnp_pointers.specs.declared.pointers.canonical_fault.CanonicalFaultReason.TheVariants.{SegmentCount}
use Rattle.capnp_pointers.specs.declared.pointers.sizes.MessageSize.{MessageSize}
use Rattle.capnp_pointers.proofs.CanonicalTest.ReadsAsReading.{Along, refused_along, value_along}
use Rattle.capnp_messages.specs.Check.{check, whole_fault}
use Rattle.capnp_messages.specs.Commands.{RefusesAnswer}
use Rattle.capnp_messages.specs.Extents.{validate, with_cost}
use Rattle.capnp_messages.specs.Messages.{RefusesCanon, left_of, message_size, root_within}
use Rattle.capnp_messages.specs.Parts.{to_pointer}
use Rattle.capnp_messages.specs.Roots.{CoversRoot, RefusesRoot, read_message_root}
use Rattle.capnp_messages.specs.declared.messages.command.Command.{Command}
use Rattle.capnp_messages.specs.declared.messages.command.Command.TheVariants.{Canon, Check, Digest, Size, Validate}
use Rattle.capnp_messages.proofs.CanonicalizeLemmas.{of_no_root, of_root}
use Rattle.capnp_messages.proofs.EndRefusals.{exceed, unmade, unread}
use Rattle.capnp_messages.proofs.SizeLemmas.{root_is, root_or_not, root_stops}
use Rattle.capnp_refusals.specs.RefusedPointers.{IsNameFor, demands_of, finding, has_pointer, message_searched, refused_pointer}
use Rattle.capnp_refusals.specs.Search.{Finding, form_for, of_values, refused_at, search_on, search_place}
use Rattle.capnp_refusals.specs.declared.refusals.search.Demands.{Demands}
use Rattle.capnp_refusals.specs.declared.refusals.search.RefusedPointer.{RefusedPointer}
use Rattle.capnp_refusals.proofs.Named.{refused_so, search_ends}
use Rattle.capnp_refusals.proofs.Sized.{Sized, sized}

-- What a search of S with these demands finds, within the limits.
abbrev searched : Demands → Segments → ReaderOptions → Finding
searched d S limits = finding (message_searched d S (levels limits.nesting_limit) (unused limits.traversal_limit_in_words)).0

-- It finds a pointer that is refused with k.
abbrev Finds : Demands → Segments → ReaderOptions → ErrorKind → Type 0
Finds d S limits k = (p : RefusedPointer) × (searched d S limits ≡ Some p) × (p.refusal ≡ k)

-- At the root, or at the root pointer itself.
at_root : (d : Demands) (S : Segments) (limits : ReaderOptions) {o : Result Finding ErrorKind × Meter} → CoversRoot S limits.traversal_limit_in_words → search_place d (root_within S limits) (unused (left_of limits)) ≡ o → searched d S limits ≡ finding o.0
at_root d S limits covers e =
    ap (λ o. finding (search_on (root_within S limits) (search_place d) o).0) (root_is S (levels limits.nesting_limit) limits.traversal_limit_in_words covers) ∙ ap (λ o. finding o.0) e

at_pointer : (d : Demands) (S : Segments) (limits : ReaderOptions) (k : ErrorKind) → RefusesRoot S limits.traversal_limit_in_words k → Finds d S limits k
at_pointer d S limits k refused =
    (refused_at (root_within S limits) k, ap (λ o. finding (search_on (root_within S limits) (search_place d) o).0) (root_stops S (levels limits.nesting_limit) limits.traversal_limit_in_words k refused), refl)

value_finds : (c : Bool) (S : Segments) (limits : ReaderOptions) (k : ErrorKind) (m : Meter) → CoversRoot S limits.traversal_limit_in_words → value (form_for c) (root_within S limits) (unused (left_of limits)) ≡ (Err k, m) → Finds (of_values c) S limits k
value_finds c S limits k m covers e =
    let (p, named, found) = (refused_so _ _ (search_ends c (levels limits.nesting_limit) (root_within S limits) (unused (left_of limits))) k m).0 e in
    (p, at_root (of_values c) S limits covers found, named)

-- Each command.
canon_finds : (S : Segments) (limits : ReaderOptions) (k : ErrorKind) → has_pointer k ≡ true → RefusesCanon S limits k → Finds (of_values false) S limits k
canon_finds S limits k of_one why = elim (root_or_not S limits.traversal_limit_in_words) [
  | inr (l, refused) ↦ subst (Finds (of_values false) S limits) (of_no_root limits refused why) (at_pointer (of_values false) S limits l refused)
  | inl covers ↦ elim (of_root limits covers why) [
    | inr (named, out) ↦ absurd (too_large named)
    | inl refused ↦ elim (unmade max_segment_words (to_pointer (root_within S limits)) (unused (left_of limits)) k refused) [
      | unread is ↦
          let m : Meter = (value canonical (root_within S limits) (unused (left_of limits))).1 in
          value_finds false S limits k m covers (ap (λ x. (x, m)) is)
      | exceed t is more named ↦ absurd (too_large named)
    ]
  ]
]
  where
    too_large : k ≡ MessageTooLarge max_segment_words → ⊥
    too_large named = (let wrong = subst (λ (l : ErrorKind). has_pointer l ≡ true) named of_one in cc wrong)

validate_finds : (S : Segments) (limits : ReaderOptions) (k : ErrorKind) → validate S limits ≡ Err k → Finds (of_values true) S limits k
validate_finds S limits k e = elim (root_or_not S limits.traversal_limit_in_words) [
  | inr (l, refused) ↦
      let stops : validate S limits ≡ Err l = ap (λ x. with_cost limits.traversal_limit_in_words (onward read_extent x)) (root_stops S (levels limits.nesting_limit) limits.traversal_limit_in_words l refused) in
      subst (Finds (of_values true) S limits) (let same : Err l ≡ Err k = sym stops ∙ e in cc same) (at_pointer (of_values true) S limits l refused)
  | inl covers ↦ go covers (value plain (root_within S limits) (unused (left_of limits))) refl
]
  where
    is : (o : Result Tree ErrorKind × Meter) → CoversRoot S limits.traversal_limit_in_words → value plain (root_within S limits) (unused (left_of limits)) ≡ o → validate S limits ≡ with_cost limits.traversal_limit_in_words (onward (λ t. answer (value_extent t)) o)
    is o covers f =
        ap (λ x. with_cost limits.traversal_limit_in_words (onward read_extent x)) (root_is S (levels limits.nesting_limit) limits.traversal_limit_in_words covers)
        ∙ ap (λ x. with_cost limits.traversal_limit_in_words (onward (λ t. answer (value_extent t)) x)) f

    go : CoversRoot S limits.traversal_limit_in_words → (o : Result Tree ErrorKind × Meter) → value plain (root_within S limits) (unused (left_of limits)) ≡ o → Finds (of_values true) S limits k
    go covers (Ok t, m) f = absurd (let wrong = sym (is (Ok t, m) covers f) ∙ e in cc wrong)
    go covers (Err l, m) f = subst (Finds (of_values true) S limits) (let same : Err l ≡ Err k = sym (is (Err l, m) covers f) ∙ e in cc same) (value_finds true S limits l m covers f)

size_finds : (S : Segments) (limits : ReaderOptions) (k : ErrorKind) → has_pointer k ≡ true → message_size S limits ≡ Err k → Finds (demands_of Size) S limits k
size_finds S limits k of_one e = elim (root_or_not S limits.traversal_limit_in_words) [
  | inr (l, refused) ↦
      let stops : message_size S limits ≡ Err l = ap (λ o. (onward (λ r. measure r (only_words 0)) o).0) (root_stops S (levels limits.nesting_limit) limits.traversal_limit_in_words l refused) in
      subst (Finds (demands_of Size) S limits) (let same : Err l ≡ Err k = sym stops ∙ e in cc same) (at_pointer (demands_of Size) S limits l refused)
  | inl covers ↦ go covers (measure (root_within S limits) (only_words 0) (unused (left_of limits))) refl (sized (levels limits.nesting_limit) (root_within S limits) (only_words 0) (unused (left_of limits)))
]
  where
    is : (o : Result MessageSize ErrorKind × Meter) → CoversRoot S limits.traversal_limit_in_words → measure (root_within S limits) (only_words 0) (unused (left_of limits)) ≡ o → message_size S limits ≡ o.0
    is o covers f = ap (λ x. (onward (λ r. measure r (only_words 0)) x).0) (root_is S (levels limits.nesting_limit) limits.traversal_limit_in_words covers) ∙ ap (λ x. x.0) f

    go : CoversRoot S limits.traversal_limit_in_words → (o : Result MessageSize ErrorKind × Meter) → measure (root_within S limits) (only_words 0) (unused (left_of limits)) ≡ o → Sized (search_place (demands_of Size) (root_within S limits) (unused (left_of limits))) o → Finds (demands_of Size) S limits k
    go covers (Ok z, m) f s = absurd (let wrong = sym (is (Ok z, m) covers f) ∙ e in cc wrong)
    go covers (Err l, m) f s =
        let same : l ≡ k = let both : Err l ≡ Err k = sym (is (Err l, m) covers f) ∙ e in cc both in
        let (p, named, found) = s (subst (λ (x : ErrorKind). has_pointer x ≡ true) (sym same) of_one) in
        (p, at_root (demands_of Size) S limits covers found, named ∙ same)

-- The test's refusal has another name, if a list is nested too deeply.
TestFinds : Segments → ReaderOptions → ErrorKind → Type 0
TestFinds S limits k = (p : RefusedPointer) × (searched (of_values true) S limits ≡ Some p) × IsTestName p.refusal k

as_tested : (S : Segments) (limits : ReaderOptions) (l k : ErrorKind) → IsTestName l k → Finds (of_values true) S limits l → TestFinds S limits k
unfolding TestFinds
as_tested S limits l k is (p, found, named) = (p, found, subst (λ (x : ErrorKind). IsTestName x k) (sym named) is)

own_name : (k : ErrorKind) → IsTestName k k
own_name MessageIsTooDeeplyNestedOrContainsCycles = (0, refl)
own_name k = (0, refl)

check_finds : (S : Segments) (limits : ReaderOptions) (k : ErrorKind) → check S limits ≡ Err k → TestFinds S limits k
check_finds S limits k e = one (nat_eq (length S) 1) refl
  where
    n : ℕ
    n = levels limits.nesting_limit

    m : Meter
    m = unused limits.traversal_limit_in_words

    told : Result Verdict ErrorKind × Meter → Result (Option CanonicalFault) ErrorKind
    told o = (onward (λ v. answer (whole_fault S v)) o).0

    tested : CoversRoot S limits.traversal_limit_in_words → (o : Result Verdict ErrorKind × Meter) → test_value (root_within S limits) 1 (unused (left_of limits)) ≡ o → told o ≡ Err k → TestFinds S limits k
    tested covers (Ok v, m') f h = absurd (cc h)
    tested covers (Err l, m') f h =
        let same : l ≡ k = cc h in
        let (j, named, stops) = refused_along (subst (Along _) f (value_along (root_within S limits) 1 (unused (left_of limits)))) in
        subst (TestFinds S limits) same (as_tested S limits j l named (value_finds true S limits j m' covers stops))

    alone : told (onward (λ r. test_value r 1) (read_message_root S n m)) ≡ Err k → TestFinds S limits k
    alone h = elim (root_or_not S limits.traversal_limit_in_words) [
      | inr (l, refused) ↦
          let stops : told (onward (λ r. test_value r 1) (read_message_root S n m)) ≡ Err l = ap (λ o. told (onward (λ r. test_value r 1) o)) (root_stops S n limits.traversal_limit_in_words l refused) in
          let same : l ≡ k = let both : Err l ≡ Err k = sym stops ∙ h in cc both in
          subst (TestFinds S limits) same (as_tested S limits l l (own_name l) (at_pointer (of_values true) S limits l refused))
      | inl covers ↦
          tested covers (test_value (root_within S limits) 1 (unused (left_of limits))) refl
          (sym (ap (λ o. told (onward (λ r. test_value r 1) o)) (root_is S n limits.traversal_limit_in_words covers)) ∙ h)
    ]

    one : (b : Bool) → nat_eq (length S) 1 ≡ b → TestFinds S limits k
    one true is = alone (sym (ap (λ b. ((cond b (read_message_root S n >>> (λ r. test_value r 1) >>> λ v. answer (whole_fault S v)) (answer (Some (record { segment = min 1 (length S); word = 0; reason = SegmentCount })))) m).0) is) ∙ e)
    one false is = absurd (let wrong = sym (ap (λ b. ((cond b (read_message_root S n >>> (λ r. test_value r 1) >>> λ v. answer (whole_fault S v)) (answer (Some (record { segment = min 1 (length S); word = 0; reason = SegmentCount })))) m).0) is) ∙ e in cc wrong)

named_so : (d : Demands) (S : Segments) (limits : ReaderOptions) (k : ErrorKind) → Finds d S limits k → (p : RefusedPointer) × (searched d S limits ≡ Some p) × (k ≡ p.refusal)
named_so d S limits k (p, found, named) = (p, found, sym named)

pub command_finds : (command : Command) (S : Segments) (limits : ReaderOptions) (k : ErrorKind) → RefusesAnswer command limits S k → has_pointer k ≡ true → (p : RefusedPointer) × (refused_pointer command S limits ≡ Some p) × IsNameFor command p.refusal k
unfolding TestFinds
command_finds (Canon form) S limits k (inl memory) of_one = absurd (let wrong = subst (λ (l : ErrorKind). has_pointer l ≡ true) memory of_one in cc wrong)
command_finds (Canon form) S limits k (inr refused) of_one = named_so (of_values false) S limits k (canon_finds S limits k of_one refused)
command_finds Digest S limits k (inl memory) of_one = absurd (let wrong = subst (λ (l : ErrorKind). has_pointer l ≡ true) memory of_one in cc wrong)
command_finds Digest S limits k (inr refused) of_one = named_so (of_values false) S limits k (canon_finds S limits k of_one refused)
command_finds Check S limits k refused of_one = check_finds S limits k refused
command_finds Size S limits k refused of_one = named_so (demands_of Size) S limits k (size_finds S limits k of_one refused)
command_finds Validate S limits k refused of_one = named_so (of_values true) S limits k (validate_finds S limits k refused)
