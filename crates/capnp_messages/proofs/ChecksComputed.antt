-- The laws of the test of a whole message.
use Rattle.std.proofs.Common.{◌≡◌, ◌↔◌, ◌⊎◌, inl, inr, ℕ, ◌+◌, ◌≤◌, Option, Some, None, Result, Ok, Err, IsOk, length, refl, ap, ◌∙◌, subst}
use Rattle.std.proofs.lemmas.Bool.{false≢true}
use Rattle.capnp_words.specs.declared.error.ErrorKind.{ErrorKind}
use Rattle.capnp_words.specs.declared.error.ErrorKind.TheVariants.{MessageIsTooDeeplyNestedOrContainsCycles}
use Rattle.capnp_words.specs.Meter.{Meter, FitsIn, spent, unused}
use Rattle.capnp_format.specs.Segments.{HasSmallWords, Segments}
use Rattle.capnp_format.specs.Tree.{Tree, depth}
use Rattle.capnp_format.specs.Canonical.{charge}
use Rattle.capnp_format.proofs.Levels.{depth_within, one_value}
use Rattle.capnp_arena.specs.declared.arena.reader_arena_impl.ReaderOptions.{ReaderOptions}
use Rattle.capnp_pointers.specs.Metered.{onward}
use Rattle.capnp_pointers.proofs.OneObject.ReadInOneWay.{same_refusal}
use Rattle.capnp_pointers.specs.Source.{levels}
use Rattle.capnp_pointers.specs.Values.{value}
use Rattle.capnp_pointers.specs.Wanted.{plain}
use Rattle.capnp_pointers.specs.Checking.{level_refusal_name}
use Rattle.capnp_pointers.specs.Testing.{IsTestName}
use Rattle.capnp_pointers.specs.declared.pointers.canonical_fault.CanonicalFault.{CanonicalFault}
use Rattle.capnp_pointers.proofs.CanonicalTest.ReadsAsReading.{Along, refused_along, value_along}
use Rattle.capnp_messages.specs.CanonicalMessages.{CanBeTested, IsCanonicalMessage, IsCanonicalOf}
use Rattle.capnp_messages.specs.Check.{check, message_tested, plain_value}
use Rattle.capnp_messages.specs.Messages.{IsReadable, IsValueOf}
use Rattle.capnp_messages.specs.Roots.{CoversRoot, RefusesRoot, message_root}
use Rattle.capnp_messages.proofs.AnsweredLemmas.{check_alone, check_refused, refusal}
use Rattle.capnp_messages.proofs.AsItStandsLemmas.{value_within}
use Rattle.capnp_messages.proofs.CanonicalMessageLemmas.{means_its_value, one_canonical_value}
use Rattle.capnp_messages.proofs.SizeLemmas.{root_or_not}
use Rattle.capnp_messages.proofs.CheckedLemmas.{Outcome, Tells, answers, refused_inside, root_read, root_unread, tells, unread_tested}

abbrev tested : Segments → ReaderOptions → Outcome
tested S limits = message_tested S (levels limits.nesting_limit) (unused limits.traversal_limit_in_words)

value_of : (S : Segments) (limits : ReaderOptions) (x : Outcome) → Tells S (levels limits.nesting_limit) (unused limits.traversal_limit_in_words) x → x.0 ≡ Ok None → (t : Tree) × IsCanonicalOf S t × IsValueOf S limits t
value_of S limits (Ok None, m') (t, canonical, deep, paid) is =
    let (u, value, same) = value_within {S = S} limits refl (λ v other. subst (λ (w : Tree). depth w ≤ levels limits.nesting_limit) (one_canonical_value S t v canonical other) deep) (t, canonical, paid) in
    (u, same, value)
value_of S limits (Ok (Some f), m') says is = absurd (cc is)
value_of S limits (Err k, m') says is = absurd (cc is)

none_of : (S : Segments) (n : ℕ) (m : Meter) (x : Outcome) → Tells S n m x → IsOk x.0 → IsCanonicalMessage S → x.0 ≡ Ok None
none_of S n m (Ok None, m') says is canonical = refl
none_of S n m (Ok (Some f), m') never is canonical = absurd (never canonical)
none_of S n m (Err k, m') says is canonical = absurd (false≢true is)

within : (S : Segments) (limits : ReaderOptions) (t : Tree) → IsCanonicalOf S t → IsValueOf S limits t → CanBeTested S (levels limits.nesting_limit) (unused limits.traversal_limit_in_words)
within S limits t canonical value =
    let deep : depth t ≤ levels limits.nesting_limit = depth_within t (record { means = value.means }) in
    let cost : value.cost ≡ charge t = (one_value S (levels limits.nesting_limit) (levels limits.nesting_limit) 0 0 t t value.cost (charge t) value.means (means_its_value S t (levels limits.nesting_limit) canonical deep)).1 in
    (t, canonical, deep, subst (λ c. FitsIn limits.traversal_limit_in_words (1 + c)) cost value.covered)

pub canonical_check : (S : Segments) (limits : ReaderOptions) → HasSmallWords S 0 → (check S limits ≡ Ok None) ↔ ((t : Tree) × IsCanonicalOf S t × IsValueOf S limits t)
canonical_check S limits small = (
  value_of S limits (tested S limits) (tells S (levels limits.nesting_limit) (unused limits.traversal_limit_in_words) (λ one. small)),
  λ (t, canonical, value). none_of S (levels limits.nesting_limit) (unused limits.traversal_limit_in_words) (tested S limits) (tells S (levels limits.nesting_limit) (unused limits.traversal_limit_in_words) (λ one. small))
      (answers S (levels limits.nesting_limit) (unused limits.traversal_limit_in_words) (within S limits t canonical value)) (t, canonical),
)

not_canonical : (S : Segments) (n : ℕ) (m : Meter) (f : CanonicalFault) (x : Outcome) → Tells S n m x → x.0 ≡ Ok (Some f) → IsCanonicalMessage S → ⊥
not_canonical S n m f (Ok None, m') says is = absurd (cc is)
not_canonical S n m f (Ok (Some g), m') never is = never
not_canonical S n m f (Err k, m') says is = absurd (cc is)

pub fault_check : (S : Segments) (limits : ReaderOptions) (f : CanonicalFault) → (length S ≡ 1 → HasSmallWords S 0) → check S limits ≡ Ok (Some f) → IsCanonicalMessage S → ⊥
fault_check S limits f small = not_canonical S (levels limits.nesting_limit) (unused limits.traversal_limit_in_words) f (tested S limits) (tells S (levels limits.nesting_limit) (unused limits.traversal_limit_in_words) small)

pub answered_check : (S : Segments) (limits : ReaderOptions) → (length S ≡ 1 → IsReadable S limits) → IsOk (check S limits)
answered_check S limits can = go (check S limits) refl
  where
    go : (x : Result (Option CanonicalFault) ErrorKind) → check S limits ≡ x → IsOk x
    go (Ok o) is = refl
    go (Err k) is = absurd (check_refused S limits (can (check_alone S limits is)) is)

-- An error keeps its name at a word that describes no list.
same_name : (k : ErrorKind) → k ≡ level_refusal_name 0 k
same_name MessageIsTooDeeplyNestedOrContainsCycles = refl
same_name k = refl

pub refused_check : (S : Segments) (limits : ReaderOptions) (k : ErrorKind) → check S limits ≡ Err k → (length S ≡ 1) × ((l : ErrorKind) × IsTestName l k × (plain_value S limits ≡ Err l))
refused_check S limits k is =
    let (m', refused) = refusal S limits is in
    let one = check_alone S limits is in
    (one, go m' refused one (root_or_not S limits.traversal_limit_in_words))
  where
    n : ℕ
    n = levels limits.nesting_limit

    m : Meter
    m = unused limits.traversal_limit_in_words

    go : (m' : Meter) → message_tested S n m ≡ (Err k, m') → length S ≡ 1 → CoversRoot S m.left ⊎ ((l : ErrorKind) × RefusesRoot S m.left l) → (l : ErrorKind) × IsTestName l k × (plain_value S limits ≡ Err l)
    go m' refused one (inl covers) =
        let (l, named, read) = refused_along (subst (Along (value plain (message_root S n) (spent m 1))) (refused_inside S n m m' k refused covers) (value_along (message_root S n) 1 (spent m 1))) in
        (l, named, ap (λ x. (onward (value plain) x).0) (root_read S n m covers) ∙ ap (λ x. x.0) read)
    go m' refused one (inr (l, stops)) =
        let same : l ≡ k = (same_refusal (unread_tested S n m l one stops) refused).0 in
        (k, (0, same_name k), ap (λ x. (onward (value plain) x).0) (root_unread S n m l stops) ∙ ap Err same)
