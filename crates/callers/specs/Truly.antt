-- What outcomes of edits say about memory; and a pointer of a message that is read.
use Rattle.std.specs.Prelude.{◌≡◌, ◌⊎◌, ℕ, ◌+◌, ◌-◌, ◌^◌, ◌<◌, ◌≤◌, true, false, List, [], ◌∷◌, map}
use Rattle.std.specs.Prelude.{◌++◌, length, Option, Some, None}
use Rattle.capnp_words.specs.Sizes.{size_number}
use Rattle.capnp_words.specs.declared.error.ErrorKind.{ErrorKind}
use Rattle.capnp_words.specs.declared.error.ErrorKind.TheVariants.{AllocationFailed, MessageTooLarge}
use Rattle.capnp_format.specs.Canonical.{word_count}
use Rattle.capnp_format.specs.Forest.{IsForest}
use Rattle.capnp_format.specs.Segments.{Segments, segment}
use Rattle.capnp_format.specs.Tree.{Tree, Flat}
use Rattle.capnp_arena_traits.specs.Allocations.{max_segment_words, one_more}
use Rattle.capnp_arena_traits.specs.View.{View}
use Rattle.capnp_allocation.specs.Made.{zero_list, zero_struct, zero_structs}
use Rattle.capnp_format.specs.Path.{node, PathLeads}
use Rattle.capnp_pointers.specs.Reading.{Reading}
use Rattle.capnp_words.specs.Names.{is_allocation_name}
use Rattle.capnp_edits.specs.declared.edit.Edit.{Edit}
use Rattle.capnp_edits.specs.declared.edit.Op.{Op}
use Rattle.capnp_edits.specs.declared.edit.Op.TheVariants.{InitData, InitList, InitStruct}
use Rattle.capnp_edits.specs.declared.edit.Op.TheVariants.{InitStructList, InitText, SetData, SetText}
use Rattle.capnp_edits.specs.Paths.{step_of}

-- The value of the object that an operation makes, if it makes one.
abbrev pub object_made : Op → Option Tree
object_made (InitStruct size) = Some (zero_struct size)
object_made (InitList size n) = Some (zero_list (size_number size) n)
object_made (InitStructList n size) = Some (zero_structs n size)
object_made (InitText n) = Some (zero_list 2 (n + 1))
object_made (InitData n) = Some (zero_list 2 n)
object_made (SetText bytes) = Some (Flat 2 (bytes.now ++ 0 ∷ []))
object_made (SetData bytes) = Some (Flat 2 bytes.now)
object_made _ = None

-- From old to new an edit has a true outcome. AllocationFailed is one request that the allocator
-- has refused and counted; with any other outcome nothing is counted. For an edit that makes an
-- object: it isn't refused for memory if the segment of its pointer has room for the object. The
-- number of a MessageTooLarge is the number of words requested, the object's and one for a landing
-- pad, and more than a segment can have; or it is 2^64 - 1, and there are as many segments as there
-- can be.
pub record IsRefusedTruly (old new : View) (edit : Edit) (r : Option ErrorKind) : Type 0 where
  pub counted : r ≡ Some AllocationFailed → new.refusals ≡ one_more old.refusals
  pub others : (r ≡ Some AllocationFailed → ⊥) → new.refusals ≡ old.refusals
  pub fits :
      (object t x : Tree) (s p : ℕ) → object_made edit.op ≡ Some object → IsForest old.words t →
      PathLeads old.words (node 0 0 t) (map step_of edit.path.now) (node s p x) →
      length (segment old.words s) + word_count object ≤ old.room s →
      (k : ErrorKind) → r ≡ Some k → is_allocation_name k ≡ false
  pub asked :
      (object t x : Tree) (s p n : ℕ) → object_made edit.op ≡ Some object → IsForest old.words t →
      PathLeads old.words (node 0 0 t) (map step_of edit.path.now) (node s p x) →
      r ≡ Some (MessageTooLarge n) →
      ((n ≡ word_count object + 1) × (max_segment_words < n)) ⊎
      ((n ≡ 2 ^ 64 - 1) × (length old.words ≡ 2 ^ 32 - 1))

-- From old to new each of several edits, in order, has a true outcome.
abbrev pub AreRefusedTruly : View → View → List Edit → List (Option ErrorKind) → Type 0
AreRefusedTruly old new [] [] = new ≡ old
AreRefusedTruly old new (e ∷ es) (r ∷ rs) =
    (mid : View) × IsRefusedTruly old mid e r × AreRefusedTruly mid new es rs
AreRefusedTruly old new es rs = ⊥

-- The pointer at (s, p), for a reading that is charged and may enter n levels.
abbrev pub read_at : Segments → ℕ → ℕ → ℕ → Reading
read_at S n s p =
    record { segments = S; charging = true; of_default = false; levels = n; segment = s; at = p }
