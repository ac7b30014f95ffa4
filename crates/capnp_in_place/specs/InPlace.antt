-- Bytes of a segment that are written in place ("Lists").
use Rattle.std.specs.Prelude.{◌≡◌, ℕ, ◌*◌, ◌≤◌, ◌++◌, List, [], length, take, drop, slice_index_or}
use Rattle.std.specs.Prelude.{slice_set, replicate, Result, IfOk}
use Rattle.std.specs.Borrow.{MutBor}
use Rattle.capnp_words.specs.declared.error.ErrorKind.{ErrorKind}
use Rattle.capnp_format.specs.Forest.{target}
use Rattle.capnp_format.specs.Numbers.{words_for}
use Rattle.capnp_format.specs.Segments.{Segments}
use Rattle.capnp_format.specs.Tree.{Tree, Flat}
use Rattle.capnp_arena_traits.specs.Written.{overwritten}
use Rattle.capnp_allocation.specs.Made.{LeadsToStart, zero_list}
use Rattle.capnp_allocation.specs.Makes.{CallAt, MakesObject}
use Rattle.capnp_allocation.specs.Stored.{IsStored, IsReplaced}
use Rattle.capnp_in_place.specs.declared.existing.ExistingBytes.{ExistingBytes}

-- The bytes b of the segments.
abbrev pub bytes_there : List (List ℕ) → ExistingBytes → List ℕ
bytes_there B b = take b.length (drop (8 * b.start) (slice_index_or B b.segment []))

-- The segments with ws in place of the bytes b.
abbrev pub segments_with : List (List ℕ) → ExistingBytes → List ℕ → List (List ℕ)
segments_with B b ws =
    slice_set B b.segment (overwritten (slice_index_or B b.segment []) (8 * b.start) ws)

-- The arena with ws in place of the bytes b.
abbrev pub rewritten : {A : Type 0} → (A → ℕ → List ℕ → A) → (A → List (List ℕ)) → A →
    ExistingBytes → List ℕ → A
rewritten with_bytes segments a b ws =
    with_bytes a b.segment (overwritten (slice_index_or (segments a) b.segment []) (8 * b.start) ws)

-- From S to R the bytes ws are written at b: if b is the start of a list of bytes, the list then
-- starts with ws, and its other bytes are unchanged.
abbrev pub Overwrites : Segments → Segments → ExistingBytes → List ℕ → Type 0
Overwrites S R b ws =
    (s p : ℕ) (ns : List ℕ) → IsStored S s p (Flat 2 ns) → b.segment ≡ (target S s p).segment →
    b.start ≡ (target S s p).start → b.length ≤ length ns
    → IsReplaced S R s p (Flat 2 ns) (Flat 2 (ws ++ drop b.length ns))

-- If (s, p) stores a value, the bytes ws are zero.
abbrev pub AreZeroOnce : Segments → ℕ → ℕ → List ℕ → Type 0
AreZeroOnce S s p ws = (t : Tree) → IsStored S s p t → ws ≡ replicate (length ws) 0

-- The bytes b of an arena are lent.
abbrev pub LendsBytes : {A : Type 0} → (A → List (List ℕ)) → A → ExistingBytes → MutBor (List ℕ) →
    Type 0
LendsBytes segments now b lent = lent.now ≡ bytes_there (segments now) b

-- The call makes a list of `count` bytes, all zero, and returns where its first `size` bytes are;
-- or it is refused.
pub record MakesBytes (result : Result ExistingBytes ErrorKind) (c : CallAt) (count size : ℕ)
    : Type 0 where
  pub object : MakesObject result c (zero_list 2 count) (words_for 2 count)
  pub leads : IfOk result
      (λ b. LeadsToStart c.new.words c.segment c.at (record { segment = b.segment; at = b.start }))
  pub first : IfOk result (λ b. b.length ≡ size)
