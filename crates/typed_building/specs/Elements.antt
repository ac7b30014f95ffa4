-- What a call that makes an element of a list of pointers does to the value of the list.
use Rattle.std.specs.Prelude.{ℕ, OnErr, OnOk, Result}
use Rattle.capnp_words.specs.declared.error.ErrorKind.{ErrorKind}
use Rattle.capnp_format.specs.Path.{put_tree}
use Rattle.capnp_format.specs.Segments.{Segments}
use Rattle.capnp_format.specs.Tree.{Tree, Null, Pointers, Trees}
use Rattle.capnp_allocation.specs.Stored.{IsReplaced}
use Rattle.capnp_readers.specs.declared.readers.list_reader.ListPlace.{ListPlace}
use Rattle.capnp_builders.specs.Held.{HasList}

-- A call at the place of a list: the place, and the message before and after the call.
pub record ListCall : Type 0 where
  pub list : ListPlace
  pub old : Segments
  pub new : Segments

abbrev pub list_call : ListPlace → Segments → Segments → ListCall
list_call list old new = record { list = list; old = old; new = new }

-- The call makes u element i of a list of pointers. This holds for each such list that the place may
-- have before, and for the results that `On` names: `OnOk result`, or `OnErr result`.
abbrev pub SetsElement : (Type 0 → Type 0) → ListCall → ℕ → Tree → Type 0
SetsElement On c i u =
    (s p : ℕ) (ts : Trees) → HasList c.old s p c.list (Pointers ts) →
    On (HasList c.new s p c.list (Pointers (put_tree ts i u)))

-- The call makes u element i of the list, and changes nothing else of the message.
abbrev pub ReplacesElement : (Type 0 → Type 0) → ListCall → ℕ → Tree → Type 0
ReplacesElement On c i u =
    (s p : ℕ) (ts : Trees) → HasList c.old s p c.list (Pointers ts) →
    On (IsReplaced c.old c.new s p (Pointers ts) (Pointers (put_tree ts i u)))

-- The call, with the result r, makes u element i of the list, and changes nothing else of the
-- message. If it is refused, the element is Null afterwards.
pub record MakesElement {V : Type 0} (r : Result V ErrorKind) (c : ListCall) (i : ℕ) (u : Tree)
    : Type 0 where
  pub sets : SetsElement (OnOk r) c i u
  pub replaces : ReplacesElement (OnOk r) c i u
  pub refused : SetsElement (OnErr r) c i Null
  pub emptied : ReplacesElement (OnErr r) c i Null
