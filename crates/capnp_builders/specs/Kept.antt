-- What a copy to the place of a builder leaves there.
use Rattle.std.specs.Prelude.{◌≡◌, [], ◌∷◌, length}
use Rattle.capnp_words.specs.declared.error.ErrorKind.{ErrorKind}
use Rattle.capnp_format.specs.Segments.{segment}
use Rattle.capnp_format.specs.Tree.{Tree, Null}
use Rattle.capnp_format.specs.Canonical.{encoding, word_count}
use Rattle.capnp_arena_traits.specs.View.{View, KeepsLimits}
use Rattle.capnp_allocation.specs.Memory.{KeepsMemory, SpendsMemory}
use Rattle.capnp_allocation.specs.Stored.{Puts}
use Rattle.capnp_allocation.specs.Zeroed.{IsPruned}
use Rattle.capnp_pointers.specs.Outcomes.{Reads}
use Rattle.capnp_pointers.specs.Reading.{Reading}
use Rattle.capnp_copies.specs.Changes.{CopyCall, StayInSegment, IsCopiedInRoom, RefusesToCopy}
use Rattle.capnp_copies.specs.Forms.{kept}
use Rattle.capnp_copies.specs.Originals.{Original}

-- What is copied is read, and what is kept of its value replaces the value that the place had. The
-- place's old words are zeroed first, and stay allocated. Then, if they fit, the words of what is
-- kept come after those of the segment.
pub record PutsCopy (o : Original Tree) (c : CopyCall) : Type 0 where
  pub value : Tree
  pub is_read : o.reads c.form c.before c.after value
  pub put : Puts c.old.words c.new.words c.segment c.at (kept c.form value)
  pub memory : KeepsMemory c.old c.new
  pub cleared : View
  pub zeroed : IsPruned c.old.words cleared.words
  pub limits : KeepsLimits c.old cleared
  pub null : Puts c.old.words cleared.words c.segment c.at Null
  pub stands : IsCopiedInRoom cleared c.new c.segment c.at (kept c.form value)

-- The copy is refused with k, and null replaces the value that the place had.
pub record LeavesCleared (o : Original Tree) (c : CopyCall) (k : ErrorKind) : Type 0 where
  pub why : RefusesToCopy o c k
  pub cleared : Puts c.old.words c.new.words c.segment c.at Null
  pub memory : SpendsMemory c.old c.new k

-- The source is read; if its copy stays in the segment, the segment's words are exactly that copy.
abbrev pub FillsSegment : Reading → CopyCall → Type 0
FillsSegment r c =
    (t : Tree) × Reads c.form r c.before c.after t
    × (StayInSegment c.old c.new c.segment (word_count (kept c.form t)) →
    segment c.new.words c.segment ≡ encoding (kept c.form t))

-- The source is read; if the message has only one segment, its words are exactly the copy.
abbrev pub FillsMessage : Reading → CopyCall → Type 0
FillsMessage r c =
    (t : Tree) × Reads c.form r c.before c.after t ×
    (length c.new.words ≡ 1 → c.new.words ≡ encoding (kept c.form t) ∷ [])
