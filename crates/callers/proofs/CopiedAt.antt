-- What a canonical copy of a pointer states about the pointer's message.
use Rattle.std.proofs.Common.{◌≡◌, ◌⊎◌, inl, inr, true, sym, subst, arith, ◌∙◌, ◌==◌, max, ℕ, ◌+◌, ◌*◌, ◌<◌, ◌≤◌, [], ◌∷◌, length, map, sum, Bool, IsTrue, Ok, ap}
use Rattle.capnp_words.specs.Meter.{FitsIn, Meter, unused}
use Rattle.capnp_words.specs.declared.error.ErrorKind.{ErrorKind}
use Rattle.capnp_words.specs.declared.error.ErrorKind.TheVariants.{AllocationFailed}
use Rattle.capnp_format.specs.Canonical.{encoding, trim, word_count}
use Rattle.capnp_format.specs.Means.{Means}
use Rattle.capnp_format.specs.Segments.{Segments, segment}
use Rattle.capnp_format.specs.Tree.{Tree, capabilities}
use Rattle.capnp_format.proofs.Levels.{one_value}
use Rattle.capnp_arena_traits.specs.Allocations.{max_segment_words, one_more}
use Rattle.capnp_arena_traits.specs.View.{View}
use Rattle.capnp_framing.specs.Reading.{total}
use Rattle.capnp_pointers.specs.Reading.{Reading}
use Rattle.capnp_pointers.specs.Spending.{Paid, pointers_in}
use Rattle.capnp_pointers.specs.Values.{value}
use Rattle.capnp_pointers.specs.Wanted.{canonical}
use Rattle.capnp_pointers.proofs.WholeValue.ValueAsStated.{reads_if}
use Rattle.capnp_messages.specs.Copies.{LacksMemoryOr, RefusesCopy}
use Rattle.capnp_messages.specs.Parts.{PathEnd, to_pointer}
use Rattle.capnp_messages.specs.Tries.{IsFirstTry, IsRoomFor, words_read}
use Rattle.capnp_messages.proofs.EndRefusals.{meant_long, meant_read, never_refused}
use Rattle.callers.specs.Truly.{read_at}
use Rattle.callers.proofs.Copied.{asked_no_more}

-- what is copied is a value that the pointer means, and it is paid
pub copied_at : {r : Reading} {S : Segments} {n s p : ℕ} {m after : Meter} {made : Segments} → r ≡ read_at S n s p →
    (t : Tree) × (value canonical r m ≡ (Ok t, after)) × (made ≡ encoding (trim t) ∷ []) →
    (t : Tree) × (c : ℕ) × Means S n s p t c × (capabilities t ≡ 0) × Paid true m after c (pointers_in t) × (made ≡ encoding (trim t) ∷ [])
copied_at {S = S} {n = n} {s = s} {p = p} {m = m} {after = after} same (t, is, words) =
    let here = reads_if canonical (read_at S n s p) m after t (subst (λ (x : Reading). value canonical x m ≡ (Ok t, after)) same is) in
    (t, here.cost, here.means, here.takes (λ e. absurd (cc e)), record { covers = here.covers; spent = here.spent }, words)

-- the copy of such a value isn't refused for its value
value_granted : {S : Segments} {n s p : ℕ} (m : Meter) {k : ErrorKind} → (t : Tree) (c : ℕ) → Means S n s p t c →
    capabilities t ≡ 0 → FitsIn m.left c → 1 + word_count (trim t) ≤ max_segment_words → RefusesCopy (Ok (to_pointer (read_at S n s p)), m) max_segment_words k → ⊥
value_granted {S} {n} {s} {p} m {k} t c means free covers fits refused =
    let e : PathEnd = to_pointer (read_at S n s p) in
    never_refused e m max_segment_words k t (meant_read canonical e (unused m.left) t c means (λ _. free) covers) (omega (arith, fits, meant_long e t c means)) refused

-- it is refused only for lack of memory, which is counted
pub lacks_memory_at : {r : Reading} {S : Segments} {n s p : ℕ} (m : Meter) {old new : ℕ} {k : ErrorKind} → r ≡ read_at S n s p → (t : Tree) (c : ℕ) → Means S n s p t c →
    capabilities t ≡ 0 → FitsIn m.left c → 1 + word_count (trim t) ≤ max_segment_words → LacksMemoryOr old new k (RefusesCopy (Ok (to_pointer r), m) max_segment_words k) →
    (k ≡ AllocationFailed) × (new ≡ one_more old)
lacks_memory_at m same t c means free covers fits (inl memory) = memory
lacks_memory_at m {k = k} same t c means free covers fits (inr (refused, kept)) =
    absurd (value_granted m t c means free covers fits (subst (λ (x : Reading). RefusesCopy (Ok (to_pointer x), m) max_segment_words k) same refused))

-- it is refused only for lack of memory, counted or not
pub no_memory_at : {r : Reading} {S : Segments} {n s p : ℕ} (m : Meter) {k : ErrorKind} → r ≡ read_at S n s p → (t : Tree) (c : ℕ) → Means S n s p t c →
    capabilities t ≡ 0 → FitsIn m.left c → 1 + word_count (trim t) ≤ max_segment_words → (k ≡ AllocationFailed) ⊎ RefusesCopy (Ok (to_pointer r), m) max_segment_words k →
    k ≡ AllocationFailed
no_memory_at m same t c means free covers fits (inl memory) = memory
no_memory_at m {k = k} same t c means free covers fits (inr refused) =
    absurd (value_granted m t c means free covers fits (subst (λ (x : Reading). RefusesCopy (Ok (to_pointer x), m) max_segment_words k) same refused))

-- what the tries request
pub asked_at : {r : Reading} {S : Segments} {n s p : ℕ} (m after : Meter) (offers : ℕ → ℕ → Bool) (refusals : ℕ) (made : View) → r ≡ read_at S n s p →
    (t : Tree) × (value canonical r m ≡ (Ok t, after)) × (made.words ≡ encoding (trim t) ∷ []) → IsFirstTry (words_read r) offers refusals made →
    (k : ℕ) × IsTrue (offers k (made.room 0)) × ((t : Tree) (c : ℕ) → Means S n s p t c → (k ≤ sum (map length S) + 1) ⊎ (k < 2 * (1 + word_count (trim t))))
asked_at {r} {S} {n} {s} {p} m after offers refusals made same copied tries =
    let (u, d, means, free, paid, words) = copied_at {m = m} {after = after} same copied in
    let long = ap (λ (M : Segments). length (segment M 0)) words in
    let size : words_read r ≡ total S = ap words_read same in (
      tries.room,
      tries.asked,
      λ t c other.
          let one = ap (λ v. word_count (trim v)) (one_value S n n s p u t d c means other).0 in
          let room = subst (λ i. IsRoomFor (total S) i tries.room) (long ∙ meant_long (to_pointer (read_at S n s p)) u d means ∙ ap (λ i. 1 + i) one) (rw size at tries.least) in
          asked_no_more S tries.room room,
    )

-- Whether exactly the requested words are offered.
abbrev pub as_asked : ℕ → ℕ → Bool
as_asked asked words = words == asked

offered : (least room asked : ℕ) → least ≡ 0 → IsTrue (room == max least asked) → IsTrue (room == asked)
offered least room asked none is = grind arith

-- a heap that adds no words offers those that are requested
pub tries_as_asked : {size refusals : ℕ} {made : View} (least : ℕ) → least ≡ 0 → refusals ≡ 0 →
    IsFirstTry size (λ asked words. words == max least asked) refusals made → IsFirstTry size as_asked 0 made
tries_as_asked {size} {refusals} {made} least none yet tries =
    record { room = tries.room; asked = offered least (made.room 0) tries.room none tries.asked; least = tries.least; granted = tries.granted ∙ yet }

just_asked : (k room : ℕ) → IsTrue (as_asked k room) → room ≡ k
just_asked k room is = grind arith

-- and what a heap grants them, which is exactly that
pub room_at : {r : Reading} {S : Segments} {n s p : ℕ} (m after : Meter) (made : View) → r ≡ read_at S n s p →
    (t : Tree) × (value canonical r m ≡ (Ok t, after)) × (made.words ≡ encoding (trim t) ∷ []) → IsFirstTry (words_read r) as_asked 0 made →
    (t : Tree) (c : ℕ) → Means S n s p t c → (made.room 0 ≤ sum (map length S) + 1) ⊎ (made.room 0 < 2 * (1 + word_count (trim t)))
room_at {S = S} m after made same copied tries t c means =
    let (k, asked, little) = asked_at m after as_asked 0 made same copied tries in
    subst (λ x. (x ≤ sum (map length S) + 1) ⊎ (x < 2 * (1 + word_count (trim t)))) (sym (just_asked k (made.room 0) asked)) (little t c means)

-- and why a copy is refused there
pub refused_at : {r : Reading} {S : Segments} {n s p : ℕ} (m : Meter) {old new : ℕ} (k : ErrorKind) → r ≡ read_at S n s p →
    LacksMemoryOr old new k (RefusesCopy (Ok (to_pointer r), m) max_segment_words k) → LacksMemoryOr old new k (RefusesCopy (Ok (to_pointer (read_at S n s p)), m) max_segment_words k)
refused_at m {old = old} {new = new} k same refused =
    subst (λ (x : Reading). LacksMemoryOr old new k (RefusesCopy (Ok (to_pointer x), m) max_segment_words k)) same refused

pub heap_refused_at : {r : Reading} {S : Segments} {n s p : ℕ} (m : Meter) (k : ErrorKind) → r ≡ read_at S n s p →
    (k ≡ AllocationFailed) ⊎ RefusesCopy (Ok (to_pointer r), m) max_segment_words k → (k ≡ AllocationFailed) ⊎ RefusesCopy (Ok (to_pointer (read_at S n s p)), m) max_segment_words k
heap_refused_at m k same refused =
    subst (λ (x : Reading). (k ≡ AllocationFailed) ⊎ RefusesCopy (Ok (to_pointer x), m) max_segment_words k) same refused
