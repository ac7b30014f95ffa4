-- What following a path states about the part of the message.
use Rattle.std.proofs.Common.{◌≡◌, ◌⊎◌, inl, inr, ℕ, ◌+◌, ◌≤◌, List, [], ◌∷◌, length, drop, Bool, true, false, Option, Result, Ok, Err, refl, sym, ap, subst, arith, length-drop, length-take}
use Rattle.capnp_words.specs.declared.error.ErrorKind.{ErrorKind}
use Rattle.capnp_words.specs.Meter.{Affords, Meter, unused}
use Rattle.capnp_format.specs.Canonical.{HasNoCapabilities, encoding, trim, word_count}
use Rattle.capnp_format.specs.Segments.{Segments}
use Rattle.capnp_format.specs.Tree.{Tree}
use Rattle.capnp_arena_traits.specs.Allocations.{max_segment_words}
use Rattle.capnp_arena.specs.declared.arena.reader_arena_impl.ReaderOptions.{ReaderOptions}
use Rattle.capnp_pointers.specs.Reading.{segment_read, words_from}
use Rattle.capnp_pointers.specs.Source.{levels}
use Rattle.capnp_pointers.specs.Wanted.{canonical}
use Rattle.capnp_messages.specs.Canonicalize.{end_value}
use Rattle.capnp_messages.specs.Copies.{LacksMemoryOr, NeedsMoreRoom, RefusesCopy}
use Rattle.capnp_messages.specs.EndValues.{EndMeans, EndReads, IsEndThere, end_place}
use Rattle.capnp_messages.specs.MessageParts.{IsPartOf, RefusesPart, part_within}
use Rattle.capnp_messages.specs.Parts.{PathEnd, part, to_element, to_pointer}
use Rattle.capnp_messages.proofs.EndRefusals.{meant_long, meant_read, never_refused, words_unread}

-- The path is followed within the limits.
pub part_here : (S : Segments) (limits : ReaderOptions) (path : List ℕ) (m : Meter) (o : Result PathEnd ErrorKind × Meter) →
    m ≡ unused limits.traversal_limit_in_words → part S (levels limits.nesting_limit) path m ≡ o → part_within S limits path ≡ o
part_here S limits path m o begun e = subst (λ (x : Meter). part S (levels limits.nesting_limit) path x ≡ o) begun e

-- What was read means a value without capabilities, and the limiter covers its cost.
record IsRead (e : PathEnd) (m : Meter) (t : Tree) : Type 0 where
  there : IsEndThere e
  cost : ℕ
  means : EndMeans e t cost
  free : HasNoCapabilities t
  covered : Affords (end_place e).charging m cost

end_read : (e : PathEnd) (m after : Meter) (t : Tree) → EndReads e m after t → IsRead e m t
end_read (to_pointer r) m after t read = record { there = tt; cost = read.cost; means = read.means; free = read.takes (λ e. absurd (cc e)); covered = read.covers }
end_read (to_element r d q) m after t (there, (ts, is, counts, read)) =
    let long : length (words_from r d) ≡ d = omega (arith, length-take d (drop r.at (segment_read r)), length-drop r.at (segment_read r), there.inside) in
    record {
      there = there;
      cost = read.cost;
      means = (words_from r d, ts, is, long, counts, ap (λ n. words_from r n) long, read.means);
      free = subst HasNoCapabilities (sym is) (read.takes (λ e. absurd (cc e)));
      covered = read.covers;
    }

-- A copy of the part is the canonical words of the part's value.
pub part_of_copy : {S : Segments} {limits : ReaderOptions} {path : List ℕ} {e : PathEnd} {m : Meter} (after : Meter) {words : Segments} →
    part_within S limits path ≡ (Ok e, m) → (t : Tree) × EndReads e m after t × (words ≡ encoding (trim t) ∷ []) →
    (t : Tree) × IsPartOf S limits path t × (words ≡ encoding (trim t) ∷ [])
part_of_copy {e = e} {m = m} after leads (t, read, is_made) =
    let x = end_read e m after t read in
    (t, record { path_end = e; left = m; leads = leads; there = x.there; cost = x.cost; means = x.means; free = x.free; covered = x.covered }, is_made)

affords_unused : (charging : Bool) (m : Meter) (n : ℕ) → Affords charging (unused m.left) n → Affords charging m n
affords_unused true m n h = h
affords_unused false m n h = h

pub part_of_own_copy : {S : Segments} {limits : ReaderOptions} {path : List ℕ} {e : PathEnd} {m : Meter} {left : Option ℕ} {words : Segments} →
    part_within S limits path ≡ (Ok e, m) → left ≡ m.left →
    (t : Tree) × (after : Meter) × EndReads e (unused left) after t × (words ≡ encoding (trim t) ∷ []) →
    (t : Tree) × IsPartOf S limits path t × (words ≡ encoding (trim t) ∷ [])
part_of_own_copy {e = e} {m = m} {left = left} leads same (t, after, read, is_made) =
    let x = end_read e (unused left) after t read in
    let charging : Bool = (end_place e).charging in
    let covered = affords_unused charging m x.cost (subst (λ (l : Option ℕ). Affords charging (unused l) x.cost) same x.covered) in
    (t, record { path_end = e; left = m; leads = leads; there = x.there; cost = x.cost; means = x.means; free = x.free; covered = covered }, is_made)

-- Why no copy is made.
pub path_refused : (S : Segments) (limits : ReaderOptions) (path : List ℕ) {m : Meter} {k : ErrorKind} → part_within S limits path ≡ (Err k, m) → RefusesPart S limits path k
path_refused S limits path {k = k} stops = subst (λ (x : Result PathEnd ErrorKind × Meter). RefusesCopy x max_segment_words k) (sym stops) refl

part_refused : (S : Segments) (limits : ReaderOptions) (path : List ℕ) {e : PathEnd} {m : Meter} {k : ErrorKind} → part_within S limits path ≡ (Ok e, m) → RefusesCopy (Ok e, m) max_segment_words k → RefusesPart S limits path k
part_refused S limits path {k = k} leads refused = subst (λ (x : Result PathEnd ErrorKind × Meter). RefusesCopy x max_segment_words k) (sym leads) refused

pub part_copy_refused : (S : Segments) (limits : ReaderOptions) (path : List ℕ) {e : PathEnd} {m : Meter} {old new : ℕ} {k : ErrorKind} →
    part_within S limits path ≡ (Ok e, m) → LacksMemoryOr old new k (RefusesCopy (Ok e, m) max_segment_words k) →
    LacksMemoryOr old new k (RefusesPart S limits path k)
part_copy_refused S limits path leads (inl memory) = inl memory
part_copy_refused S limits path leads (inr (refused, kept)) = inr (part_refused S limits path leads refused, kept)

pub own_part_copy_refused : (S : Segments) (limits : ReaderOptions) (path : List ℕ) {e : PathEnd} {m : Meter} {left : Option ℕ} {k : ErrorKind} →
    part_within S limits path ≡ (Ok e, m) → left ≡ m.left → (end_value canonical e (unused left)).0 ≡ Err k → RefusesPart S limits path k
own_part_copy_refused S limits path {e = e} {m = m} {k = k} leads same refused =
    part_refused S limits path leads (inl (words_unread max_segment_words e (unused m.left) k (subst (λ (l : Option ℕ). (end_value canonical e (unused l)).0 ≡ Err k) same refused)))

pub own_part_needs : (S : Segments) (limits : ReaderOptions) (path : List ℕ) {e : PathEnd} {m : Meter} {room : ℕ} {P : Type 0} →
    part_within S limits path ≡ (Ok e, m) → NeedsMoreRoom e room ⊎ P →
    ((x : PathEnd) × (n : Meter) × (part_within S limits path ≡ (Ok x, n)) × NeedsMoreRoom x room) ⊎ P
own_part_needs S limits path {e = e} {m = m} leads (inl more) = inl (e, m, leads, more)
own_part_needs S limits path leads (inr other) = inr other

affords_left : (charging : Bool) (m : Meter) (n : ℕ) → Affords charging m n → Affords charging (unused m.left) n
affords_left true m n h = h
affords_left false m n h = h

-- The copy of a part isn't refused if its canonical words fit a segment.
pub part_granted : (S : Segments) (limits : ReaderOptions) (path : List ℕ) (t : Tree) (k : ErrorKind) →
    IsPartOf S limits path t → 1 + word_count (trim t) ≤ max_segment_words → RefusesPart S limits path k → ⊥
part_granted S limits path t k v fits refused =
    let e : PathEnd = v.path_end in
    let read = meant_read canonical e (unused v.left.left) t v.cost v.means (λ _. v.free) (affords_left (end_place e).charging v.left v.cost v.covered) in
    never_refused e v.left max_segment_words k t read (omega (arith, fits, meant_long e t v.cost v.means))
    (subst (λ (x : Result PathEnd ErrorKind × Meter). RefusesCopy x max_segment_words k) v.leads refused)
