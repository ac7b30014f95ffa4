-- The canonical copy of a message as a function: what it returns, and how it is refused.
use Rattle.std.proofs.Common.{IfOk, Bool, ◌∷◌, [], ◌≡◌, ◌⊎◌, ◌↔◌, inl, inr, ℕ, ◌+◌, ◌-◌, ◌≤◌, List, length, Option, Some, Result, Ok, Err, refl, sym, ap, ◌∙◌, subst, arith}
use Rattle.capnp_words.specs.declared.error.ErrorKind.{ErrorKind}
use Rattle.capnp_words.specs.declared.error.ErrorKind.TheVariants.{MessageTooLarge}
use Rattle.capnp_words.specs.Meter.{FitsIn, Meter, less, unused}
use Rattle.capnp_format.specs.Canonical.{encoding, trim, word_count}
use Rattle.capnp_format.specs.Segments.{Segments}
use Rattle.capnp_format.specs.Tree.{Tree}
use Rattle.capnp_framing.specs.Reading.{total}
use Rattle.capnp_arena_traits.specs.Allocations.{max_segment_words}
use Rattle.capnp_arena_traits.specs.View.{View}
use Rattle.capnp_arena.specs.declared.arena.reader_arena_impl.ReaderOptions.{ReaderOptions}
use Rattle.capnp_pointers.specs.Metered.{answer, onward}
use Rattle.capnp_pointers.specs.Reading.{Reading}
use Rattle.capnp_pointers.specs.Source.{levels}
use Rattle.capnp_pointers.specs.Values.{value}
use Rattle.capnp_pointers.specs.Wanted.{canonical}
use Rattle.capnp_pointers.proofs.WholeValue.ValueAsStated.{reads_if}
use Rattle.capnp_messages.specs.Canonicalize.{canonical_value, canonical_words, canonicalize, end_value, root_end}
use Rattle.capnp_messages.specs.Copies.{LacksMemoryOr, NeedsMoreRoom, OutgrowsRoom, RefusesCopy}
use Rattle.capnp_messages.specs.Messages.{IsValueOf, RefusesCanon, left_of, root_within}
use Rattle.capnp_messages.specs.Parts.{PathEnd, to_pointer}
use Rattle.capnp_messages.specs.Roots.{CoversRoot, RefusesRoot}
use Rattle.capnp_messages.specs.Roots.RefusesRoot.{no_budget, no_root}
use Rattle.capnp_messages.specs.Tries.{IsFirstTry, words_read}
use Rattle.capnp_messages.proofs.CanonLemmas.{covers_rest}
use Rattle.capnp_messages.proofs.EndRefusals.{made_of, meant_long, meant_read, never_refused, words_made, words_unread}
use Rattle.capnp_messages.proofs.MessageLemmas.{AtRoot, value_of}
use Rattle.capnp_messages.proofs.OutgrownEnds.{none_outgrown}
use Rattle.capnp_messages.proofs.SizeLemmas.{root_is, root_or_not, root_stops}

-- The root as the end of a path.
root_found : {S : Segments} (limits : ReaderOptions) → CoversRoot S limits.traversal_limit_in_words → root_end S limits ≡ (Ok (to_pointer (root_within S limits)), unused (left_of limits))
root_found {S} limits covers = ap (onward (λ r. answer (to_pointer r))) (root_is S (levels limits.nesting_limit) limits.traversal_limit_in_words covers)

root_missed : {S : Segments} (limits : ReaderOptions) {k : ErrorKind} → RefusesRoot S limits.traversal_limit_in_words k → root_end S limits ≡ (Err k, unused limits.traversal_limit_in_words)
root_missed {S} limits {k} refused = ap (onward (λ r. answer (to_pointer r))) (root_stops S (levels limits.nesting_limit) limits.traversal_limit_in_words k refused)

-- a root pointer that the limit covers isn't refused
pub root_refused : {S : Segments} {limit : Option ℕ} {k : ErrorKind} → CoversRoot S limit → RefusesRoot S limit k → ⊥
root_refused covers (no_root named none) = none covers.root
root_refused covers (no_budget named root none) =
    let covered : FitsIn (Some 0) 1 = subst (λ (b : Option ℕ). FitsIn b 1) none covers.covered in omega arith

-- if it is refused, so is the copy; otherwise the copy is that of the root's value
pub without_root : {S : Segments} (limits : ReaderOptions) {k : ErrorKind} → RefusesRoot S limits.traversal_limit_in_words k → RefusesCanon S limits k
without_root limits {k} refused = subst (λ (x : Result PathEnd ErrorKind × Meter). RefusesCopy x max_segment_words k) (sym (root_missed limits refused)) refl

from_root : {S : Segments} (limits : ReaderOptions) {k : ErrorKind} → CoversRoot S limits.traversal_limit_in_words → RefusesCopy (Ok (to_pointer (root_within S limits)), unused (left_of limits)) max_segment_words k → RefusesCanon S limits k
from_root limits {k} covers refused = subst (λ (x : Result PathEnd ErrorKind × Meter). RefusesCopy x max_segment_words k) (sym (root_found limits covers)) refused

pub of_root : {S : Segments} (limits : ReaderOptions) {k : ErrorKind} → CoversRoot S limits.traversal_limit_in_words → RefusesCanon S limits k → RefusesCopy (Ok (to_pointer (root_within S limits)), unused (left_of limits)) max_segment_words k
of_root limits {k} covers refused = subst (λ (x : Result PathEnd ErrorKind × Meter). RefusesCopy x max_segment_words k) (root_found limits covers) refused

pub of_no_root : {S : Segments} (limits : ReaderOptions) {k l : ErrorKind} → RefusesRoot S limits.traversal_limit_in_words l → RefusesCanon S limits k → l ≡ k
of_no_root limits {k} refused why = subst (λ (x : Result PathEnd ErrorKind × Meter). RefusesCopy x max_segment_words k) (root_missed limits refused) why

value_at : {S : Segments} (limits : ReaderOptions) → CoversRoot S limits.traversal_limit_in_words → canonical_value S limits ≡ (value canonical (root_within S limits) (unused (left_of limits))).0
value_at limits covers = ap (λ x. (onward (end_value canonical) x).0) (root_found limits covers)

words_at : {S : Segments} (limits : ReaderOptions) → CoversRoot S limits.traversal_limit_in_words → canonicalize S limits ≡ (canonical_words max_segment_words (to_pointer (root_within S limits)) (unused (left_of limits))).0
words_at limits covers = ap (λ x. (onward (canonical_words max_segment_words) x).0) (root_found limits covers)

no_words : {S : Segments} (limits : ReaderOptions) {k : ErrorKind} → RefusesRoot S limits.traversal_limit_in_words k → canonicalize S limits ≡ Err k
no_words limits refused = ap (λ x. (onward (canonical_words max_segment_words) x).0) (root_missed limits refused)

-- The value of a message, by the function and by relations.
pub root_read : {S : Segments} {limits : ReaderOptions} {t : Tree} → IsValueOf S limits t → (value canonical (root_within S limits) (unused (left_of limits))).0 ≡ Ok t
root_read {S} {limits} {t} v =
    meant_read canonical (to_pointer (root_within S limits)) (unused (left_of limits)) t v.cost v.means (λ e. v.free) (covers_rest limits.traversal_limit_in_words v.cost v.covered)

pub value_is : {S : Segments} {limits : ReaderOptions} {t : Tree} → IsValueOf S limits t → canonical_value S limits ≡ Ok t
value_is {S} {limits} v = value_at limits v.root ∙ root_read v

pub value_if : {S : Segments} {limits : ReaderOptions} {t : Tree} → canonical_value S limits ≡ Ok t → IsValueOf S limits t
value_if {S} {limits} {t} e = elim (root_or_not S limits.traversal_limit_in_words) [
  | inl covers ↦
      let r : Reading = root_within S limits in
      let left : Meter = (value canonical r (unused (left_of limits))).1 in
      let root : AtRoot S limits r (unused (left_of limits)) = record { place = refl; left = refl; covers = covers } in
      value_of root (reads_if canonical r (unused (left_of limits)) left t (ap (λ x. (x, left)) (sym (value_at limits covers) ∙ e)))
  | inr (k, refused) ↦
      absurd (let wrong : Ok t ≡ Err k = sym e ∙ ap (λ x. (onward (end_value canonical) x).0) (root_missed limits refused) in cc wrong)
]

pub value_long : {S : Segments} {limits : ReaderOptions} {t : Tree} → IsValueOf S limits t → length (encoding (trim t)) ≡ 1 + word_count (trim t)
value_long {S} {limits} {t} v = meant_long (to_pointer (root_within S limits)) t v.cost v.means

-- words are those of a value, and the other way round
pub words_are : (S : Segments) (limits : ReaderOptions) (ws : List ℕ) →
    (canonicalize S limits ≡ Ok ws) ↔ ((t : Tree) × IsValueOf S limits t × (1 + word_count (trim t) ≤ max_segment_words) × (ws ≡ encoding (trim t)))
words_are S limits ws = (
  λ e. elim (root_or_not S limits.traversal_limit_in_words) [
    | inl covers ↦
        let (t, read, fits, same) = made_of max_segment_words (to_pointer (root_within S limits)) (unused (left_of limits)) ws (sym (words_at limits covers) ∙ e) in
        let v : IsValueOf S limits t = value_if (value_at limits covers ∙ read) in
        (t, v, omega (arith, fits, value_long v), same)
    | inr (k, refused) ↦ absurd (let wrong : Ok ws ≡ Err k = sym e ∙ no_words limits refused in cc wrong)
  ],
  λ (t, v, fits, same).
      words_at limits v.root ∙ words_made max_segment_words (to_pointer (root_within S limits)) (unused (left_of limits)) t (root_read v) (omega (arith, fits, value_long v)) ∙ ap Ok (sym same),
)

-- the copy of a value isn't refused if its canonical words fit a segment
pub canon_refused : (S : Segments) (limits : ReaderOptions) (t : Tree) (k : ErrorKind) →
    IsValueOf S limits t → 1 + word_count (trim t) ≤ max_segment_words → RefusesCanon S limits k → ⊥
canon_refused S limits t k v fits refused =
    never_refused (to_pointer (root_within S limits)) (unused (left_of limits)) max_segment_words k t (root_read v) (omega (arith, fits, value_long v)) (of_root limits v.root refused)

-- a refusal is that of the function, or the copy outgrows a segment
pub refusals_are : (S : Segments) (limits : ReaderOptions) (k : ErrorKind) →
    RefusesCanon S limits k ↔ ((canonicalize S limits ≡ Err k) ⊎ ((k ≡ MessageTooLarge max_segment_words) × CoversRoot S limits.traversal_limit_in_words × OutgrowsRoom (to_pointer (root_within S limits)) (left_of limits) max_segment_words))
refusals_are S limits k = (
  λ why. elim (root_or_not S limits.traversal_limit_in_words) [
    | inl covers ↦ elim (of_root limits covers why) [ inl refused ↦ inl (words_at limits covers ∙ refused) | inr (named, out) ↦ inr (named, covers, out) ]
    | inr (l, refused) ↦ inl (no_words limits refused ∙ ap Err (of_no_root limits refused why))
  ],
  λ why. elim why [
    | inl e ↦ refuses e
    | inr (named, covers, out) ↦ from_root limits covers (inr (named, out))
  ],
)
  where
    refuses : canonicalize S limits ≡ Err k → RefusesCanon S limits k
    refuses e = elim (root_or_not S limits.traversal_limit_in_words) [
      | inl covers ↦ from_root limits covers (inl (sym (words_at limits covers) ∙ e))
      | inr (l, refused) ↦ (let same : Err l ≡ Err k = sym (no_words limits refused) ∙ e in subst (RefusesCanon S limits) (cc same) (without_root limits refused))
    ]

-- within a small limit no copy outgrows a segment
pub refusals_within : (S : Segments) (limits : ReaderOptions) (n : ℕ) (k : ErrorKind) → limits.traversal_limit_in_words ≡ Some n → n ≤ max_segment_words →
    RefusesCanon S limits k ↔ (canonicalize S limits ≡ Err k)
refusals_within S limits n k budget few = (
  λ why. elim ((refusals_are S limits k).0 why) [
    | inl e ↦ e
    | inr (named, covers, out) ↦
        let some : 1 ≤ n = subst (λ (b : Option ℕ). FitsIn b 1) budget covers.covered in
        absurd (none_outgrown (to_pointer (root_within S limits)) (left_of limits) (n - 1) max_segment_words refl (ap (λ (b : Option ℕ). less b 1) budget) (omega (arith, some, few)) out)
  ],
  λ e. (refusals_are S limits k).1 (inl e),
)

-- What the call makes of the root of a message.
pub read_of : {S : Segments} {limits : ReaderOptions} {r : Reading} {m after : Meter} {words : Segments} → AtRoot S limits r m → (t : Tree) × (value canonical r m ≡ (Ok t, after)) × (words ≡ encoding (trim t) ∷ []) →
    (t : Tree) × (canonical_value S limits ≡ Ok t) × (words ≡ encoding (trim t) ∷ [])
read_of {S} {limits} {r} {m} {after} root (t, read, is_made) =
    let placed = subst (λ (x : Reading). value canonical x m ≡ (Ok t, after)) root.place read in
    let there = subst (λ (x : Meter). value canonical (root_within S limits) x ≡ (Ok t, after)) root.left placed in
    (t, value_at limits root.covers ∙ ap (λ x. x.0) there, is_made)

pub first_try : {S : Segments} {limits : ReaderOptions} {r : Reading} {m : Meter} {offers : ℕ → ℕ → Bool} {refusals : ℕ} {made : View} → AtRoot S limits r m → IsFirstTry (words_read r) offers refusals made → IsFirstTry (total S) offers refusals made
first_try {S} {r = r} {offers = offers} {refusals} {made} root tries =
    let size : words_read r ≡ total S = ap words_read root.place in
    subst (λ n. IsFirstTry n offers refusals made) size tries

-- if the copy of what the root leads to is refused, so is the message
at_its_root : {S : Segments} {limits : ReaderOptions} {r : Reading} {m : Meter} {k : ErrorKind} → AtRoot S limits r m → RefusesCopy (Ok (to_pointer r), m) max_segment_words k → RefusesCanon S limits k
at_its_root {S} {limits} {r} {m} {k} root refused =
    let placed = subst (λ (x : Reading). RefusesCopy (Ok (to_pointer x), m) max_segment_words k) root.place refused in
    from_root limits root.covers (subst (λ (x : Meter). RefusesCopy (Ok (to_pointer (root_within S limits)), x) max_segment_words k) root.left placed)

pub copy_refused : {S : Segments} {limits : ReaderOptions} {r : Reading} {m : Meter} {old new : ℕ} {k : ErrorKind} →
    AtRoot S limits r m → LacksMemoryOr old new k (RefusesCopy (Ok (to_pointer r), m) max_segment_words k) → LacksMemoryOr old new k (RefusesCanon S limits k)
copy_refused root (inl memory) = inl memory
copy_refused root (inr (refused, kept)) = inr (at_its_root root refused, kept)

-- a copy with its own limiter, which gets what the limit has left
pub own_copy_refused : {S : Segments} {limits : ReaderOptions} {r : Reading} {m : Meter} {left : Option ℕ} {k : ErrorKind} →
    AtRoot S limits r m → left ≡ m.left → (value canonical r (unused left)).0 ≡ Err k → RefusesCanon S limits k
own_copy_refused {r = r} {m} {left} {k} root same refused =
    at_its_root root (inl (words_unread max_segment_words (to_pointer r) (unused m.left) k (subst (λ (l : Option ℕ). (value canonical r (unused l)).0 ≡ Err k) same refused)))

pub root_needs : {S : Segments} {limits : ReaderOptions} {r : Reading} {m : Meter} {room : ℕ} →
    AtRoot S limits r m → NeedsMoreRoom (to_pointer r) room → NeedsMoreRoom (to_pointer (root_within S limits)) room
root_needs {room = room} root more = subst (λ (x : Reading). NeedsMoreRoom (to_pointer x) room) root.place more

pub own_copy_needs : {S : Segments} {limits : ReaderOptions} {r : Reading} {m : Meter} {room : ℕ} {P : Type 0} →
    AtRoot S limits r m → NeedsMoreRoom (to_pointer r) room ⊎ P → NeedsMoreRoom (to_pointer (root_within S limits)) room ⊎ P
own_copy_needs root (inl more) = inl (root_needs root more)
own_copy_needs root (inr other) = inr other

pub both_ok : {A E : Type 0} {P Q R : A → Type 0} (result : Result A E) → IfOk result P → IfOk result Q → ((x : A) → P x → Q x → R x) → IfOk result R
both_ok (Ok x) p q h = h x p q
both_ok (Err k) p q h = tt
