-- What reading the root of a message states about the message.
use Rattle.std.proofs.Common.{◌≡◌, ℕ, ℤ, [], ◌∷◌, Option}
use Rattle.std.proofs.Common.{sym, ap, ◌∙◌, subst}
use Rattle.capnp_words.specs.Meter.{Meter, spent, unused}
use Rattle.capnp_format.specs.Canonical.{encoding, trim}
use Rattle.capnp_format.specs.Segments.{Segments}
use Rattle.capnp_format.specs.Tree.{Tree}
use Rattle.capnp_arena.specs.declared.arena.reader_arena_impl.ReaderOptions.{ReaderOptions}
use Rattle.capnp_pointers.specs.Outcomes.{Reads}
use Rattle.capnp_pointers.specs.Reading.{Reading}
use Rattle.capnp_pointers.specs.Source.{levels}
use Rattle.capnp_pointers.specs.Wanted.{canonical}
use Rattle.capnp_messages.specs.Roots.{CoversRoot, message_root}
use Rattle.capnp_messages.proofs.CanonLemmas.{covers_root}
use Rattle.capnp_messages.specs.Messages.{IsValueOf, left_of, root_within}

-- The root of a message is read, and m is what the limit has left.
pub record AtRoot (S : Segments) (limits : ReaderOptions) (r : Reading) (m : Meter) : Type 0 where
  pub place : r ≡ root_within S limits
  pub left : m ≡ unused (left_of limits)
  pub covers : CoversRoot S limits.traversal_limit_in_words

pub at_root : {S T : Segments} {limits : ReaderOptions} {r : Reading} {n : ℤ} {before after : Meter} →
    T ≡ S → n ≡ limits.nesting_limit → before ≡ unused limits.traversal_limit_in_words →
    r ≡ message_root T (levels n) → after ≡ spent before 1 → CoversRoot T before.left → AtRoot S limits r after
at_root {S} {T} {limits} {r} {n} {before} {after} same nesting begun place paid covers =
    let here = subst (λ (X : Segments). CoversRoot X before.left) same covers in
    record {
      place =
          place ∙ ap (λ (X : Segments). message_root X (levels n)) same
          ∙ ap (λ (z : ℤ). message_root S (levels z)) nesting;
      left = paid ∙ ap (λ (x : Meter). spent x 1) begun;
      covers = subst (λ (l : Option ℕ). CoversRoot S l) (ap (λ (x : Meter). x.left) begun) here;
    }

-- what a root leads to is the value of its message
pub value_of : {S : Segments} {limits : ReaderOptions} {r : Reading} {m after : Meter} {t : Tree} →
    AtRoot S limits r m → Reads canonical r m after t → IsValueOf S limits t
value_of {S} {limits} {r} {m} {after} {t} root read =
    let placed = subst (λ (x : Reading). Reads canonical x m after t) root.place read in
    let there = subst (λ (x : Meter). Reads canonical (root_within S limits) x after t) root.left placed in
    record {
      root = root.covers;
      cost = there.cost;
      means = there.means;
      free = there.takes (λ e. absurd (cc e));
      covered = covers_root limits.traversal_limit_in_words there.cost root.covers.covered there.covers;
    }

-- a copy with its own limiter, which gets what the limit has left
pub own_copy_of : {S : Segments} {limits : ReaderOptions} {r : Reading} {m : Meter} {left : Option ℕ} {words : Segments} →
    AtRoot S limits r m → left ≡ m.left →
    (t : Tree) × (after : Meter) × Reads canonical r (unused left) after t × (words ≡ encoding (trim t) ∷ []) →
    (t : Tree) × IsValueOf S limits t × (words ≡ encoding (trim t) ∷ [])
own_copy_of {r = r} root same (t, after, read, is_made) =
    let begun = ap unused same ∙ ap (λ (x : Meter). unused x.left) root.left ∙ sym root.left in
    (t, value_of root (subst (λ (x : Meter). Reads canonical r x after t) begun read), is_made)
