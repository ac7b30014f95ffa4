-- A message is validated exactly if its root means a value within the limits, whose extent is then
-- returned.
use Rattle.std.proofs.Common.{◌≡◌, ◌↔◌, inl, inr, ℕ, ◌+◌, true, Option, Some, None, Result, Ok, Err, IsOk, IfOk, refl, sym, ap, ◌∙◌, subst, arith}
use Rattle.std.proofs.lemmas.Bool.{false≢true}
use Rattle.std.specs.Prelude.{option_map}
use Rattle.capnp_words.specs.declared.error.ErrorKind.{ErrorKind}
use Rattle.capnp_words.specs.Meter.{FitsIn, Meter, less, unused}
use Rattle.capnp_format.specs.Segments.{Segments}
use Rattle.capnp_format.specs.Tree.{Tree}
use Rattle.capnp_arena.specs.declared.arena.reader_arena_impl.ReaderOptions.{ReaderOptions}
use Rattle.capnp_pointers.specs.Metered.{answer, onward}
use Rattle.capnp_pointers.specs.Outcomes.{Reads}
use Rattle.capnp_pointers.specs.Reading.{Reading}
use Rattle.capnp_pointers.specs.Source.{levels}
use Rattle.capnp_pointers.specs.Spending.{after_charge, pointers_in}
use Rattle.capnp_pointers.specs.Values.{value}
use Rattle.capnp_pointers.specs.Wanted.{plain}
use Rattle.capnp_pointers.proofs.WholeValue.ValueAsStated.{reads_is}
use Rattle.capnp_pointers.proofs.WholeValue.ValueAgrees.{Agree, value_agrees}
use Rattle.capnp_pointers.specs.Extents.{value_extent, read_extent}
use Rattle.capnp_pointers.specs.declared.pointers.validate.Extent.{Extent}
use Rattle.capnp_messages.specs.Extents.{HasExtent, root_extent, validate, with_cost, words_taken}
use Rattle.capnp_messages.specs.Messages.{IsReadable, left_of, root_within}
use Rattle.capnp_messages.specs.Roots.{CoversRoot}
use Rattle.capnp_messages.specs.declared.messages.validation.MessageExtent.{MessageExtent}
use Rattle.capnp_messages.proofs.CanonLemmas.{covers_rest, covers_root}
use Rattle.capnp_messages.proofs.SizeLemmas.{root_is, root_or_not, root_stops}

-- What reading the value at the root makes of a message.
at_value : (S : Segments) (limits : ReaderOptions) (o : Result Tree ErrorKind × Meter) → CoversRoot S limits.traversal_limit_in_words → value plain (root_within S limits) (unused (left_of limits)) ≡ o →
    validate S limits ≡ with_cost limits.traversal_limit_in_words (onward (λ t. answer (value_extent t)) o)
at_value S limits o covers e =
    ap (λ x. with_cost limits.traversal_limit_in_words (onward read_extent x)) (root_is S (levels limits.nesting_limit) limits.traversal_limit_in_words covers)
    ∙ ap (λ x. with_cost limits.traversal_limit_in_words (onward (λ t. answer (value_extent t)) x)) e

cost_is : (limit : Option ℕ) (cost : ℕ) → FitsIn limit (1 + cost) → words_taken limit (less (less limit 1) cost) ≡ option_map (λ _. 1 + cost) limit
cost_is None cost h = refl
cost_is (Some n) cost h = ap Some (omega arith)

-- What the validation returns.
data Validated (S : Segments) (limits : ReaderOptions) : Type 0 where
  sound : (x : MessageExtent) → IsReadable S limits → HasExtent S limits x → validate S limits ≡ Ok x → Validated S limits
  refusal : (k : ErrorKind) → validate S limits ≡ Err k → Validated S limits

read_so : (S : Segments) (limits : ReaderOptions) (m : Meter) (t : Tree) → CoversRoot S limits.traversal_limit_in_words → Reads plain (root_within S limits) (unused (left_of limits)) m t → Validated S limits
read_so S limits m t covers reads =
    let limit : Option ℕ = limits.traversal_limit_in_words in
    let covered : FitsIn limit (1 + reads.cost) = covers_root limit reads.cost covers.covered reads.covers in
    let cost : words_taken limit m.left ≡ option_map (λ _. 1 + reads.cost) limit = ap (λ (x : Meter). words_taken limit x.left) reads.spent ∙ cost_is limit reads.cost covered in
    sound (record { value = value_extent t; cost = words_taken limit m.left })
    (record { root = covers; value = t; cost = reads.cost; means = reads.means; covered = covered })
    (record { value = t; cost = reads.cost; means = reads.means; covered = covered; extent = refl; costs = cost })
    (at_value S limits (Ok t, m) covers (reads_is plain (root_within S limits) (unused (left_of limits)) m t reads))

validated : (S : Segments) (limits : ReaderOptions) → Validated S limits
validated S limits = elim (root_or_not S limits.traversal_limit_in_words) [
  | inr (k, refused) ↦ refusal k (ap (λ x. with_cost limits.traversal_limit_in_words (onward read_extent x)) (root_stops S (levels limits.nesting_limit) limits.traversal_limit_in_words k refused))
  | inl covers ↦ go covers (value plain (root_within S limits) (unused (left_of limits))) refl (value_agrees plain (root_within S limits) (unused (left_of limits)))
]
  where
    go : CoversRoot S limits.traversal_limit_in_words → (o : Result Tree ErrorKind × Meter) → value plain (root_within S limits) (unused (left_of limits)) ≡ o → Agree plain (root_within S limits) (unused (left_of limits)) o → Validated S limits
    go covers (Ok t, m) e reads = read_so S limits m t covers reads
    go covers (Err k, m) e refused = refusal k (at_value S limits (Err k, m) covers e)

is_sound : (S : Segments) (limits : ReaderOptions) → IsReadable S limits → IsOk (validate S limits)
is_sound S limits h =
    let r : Reading = root_within S limits in
    let m : Meter = unused (left_of limits) in
    let reads : Reads plain r m (after_charge true m h.cost (pointers_in h.value)) h.value = record { cost = h.cost; means = h.means; takes = λ other. absurd (other refl); covers = covers_rest limits.traversal_limit_in_words h.cost h.covered; spent = refl } in
    subst (λ (x : Result MessageExtent ErrorKind). IsOk x) (sym (at_value S limits _ h.root (reads_is plain r m _ h.value reads))) refl

-- What it means that a result has this form.
pub readable_if : (S : Segments) (limits : ReaderOptions) (result : Result MessageExtent ErrorKind) → validate S limits ≡ result → IsOk result ↔ IsReadable S limits
readable_if S limits result e = (
  λ is. elim (validated S limits) [
    | sound x readable extent f ↦ readable
    | refusal k f ↦ absurd (false≢true (subst (λ (y : Result MessageExtent ErrorKind). IsOk y) (sym e ∙ f) is))
  ],
  λ readable. subst (λ (y : Result MessageExtent ErrorKind). IsOk y) e (is_sound S limits readable),
)

pub extent_if : (S : Segments) (limits : ReaderOptions) (result : Result MessageExtent ErrorKind) → validate S limits ≡ result → IfOk result (HasExtent S limits)
extent_if S limits (Err k) e = tt
extent_if S limits (Ok y) e = elim (validated S limits) [
  | sound x readable extent f ↦ subst (HasExtent S limits) (let same : Ok x ≡ Ok y = sym f ∙ e in cc same) extent
  | refusal k f ↦ absurd (let wrong : Err k ≡ Ok y = sym f ∙ e in cc wrong)
]

-- The message of the program.
pub from_root : (S : Segments) (limits : ReaderOptions) {before m : Meter} {result : Result Extent ErrorKind} → before ≡ unused limits.traversal_limit_in_words →
    root_extent S (levels limits.nesting_limit) before ≡ (result, m) → validate S limits ≡ with_cost limits.traversal_limit_in_words (result, m)
from_root S limits {m = m} {result = result} begun e =
    ap (with_cost limits.traversal_limit_in_words) (subst (λ (x : Meter). root_extent S (levels limits.nesting_limit) x ≡ (result, m)) begun e)
