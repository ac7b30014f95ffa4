-- What a call that opens a child of a struct for writing does to the value of the struct.
use Rattle.std.specs.Prelude.{◌≡◌, ℕ, List, OnErr, OnOk, Result, Ok, Err}
use Rattle.capnp_words.specs.Sizes.{size_number}
use Rattle.capnp_words.specs.declared.error.ErrorKind.{ErrorKind}
use Rattle.capnp_words.specs.declared.wire_pointer.ElementSize.{ElementSize}
use Rattle.capnp_words.specs.declared.wire_pointer.StructSize.{StructSize}
use Rattle.capnp_format.specs.Path.{put_tree, tree_at}
use Rattle.capnp_format.specs.Tree.{Tree, Flat, Pointers, Trees}
use Rattle.capnp_allocation.specs.Stored.{IsReplaced}
use Rattle.capnp_in_place.specs.Opening.{struct_opened}
use Rattle.capnp_in_place.specs.Widened.{list_widened}
use Rattle.capnp_builders.specs.Held.{CallIn, HasStruct, Holder, held_tree}

-- What t becomes; t itself, if that is refused.
abbrev pub becomes_or : Tree → Result Tree ErrorKind → Tree
becomes_or t (Ok u) = u
becomes_or t (Err k) = t

-- What t is once it is opened as a struct of at least this size: a new struct in place of null; a
-- struct with its sections filled up. Anything else stays, and the call is refused.
abbrev pub opened_struct : StructSize → Tree → Tree
opened_struct size t = becomes_or t (struct_opened size t)

-- What t is once it is opened as a list of structs of at least this size. Null stays; what can't
-- become such a list stays, and the call is refused.
abbrev pub opened_list : StructSize → Tree → Tree
opened_list size t = becomes_or t (list_widened size.data_words size.pointers t)

-- t is a list of elements of this size, which aren't structs.
abbrev pub HasElements : ElementSize → Tree → Type 0
HasElements size (Flat n ns) = size_number size ≡ n
HasElements size (Pointers ts) = size_number size ≡ 6
HasElements size t = ⊥

-- The call, with the result r, makes of child i of the struct what `opened` says, and changes nothing
-- else of the message. If it is refused, the struct is as before, and so is the rest of the message.
pub record OpensChild {V : Type 0} (r : Result V ErrorKind) (c : CallIn) (i : ℕ)
    (opened : Tree → Tree) : Type 0 where
  pub sets : (x : Holder) (ws : List ℕ) (ts : Trees) → HasStruct c.old x c.place ws ts →
      OnOk r (HasStruct c.new x c.place ws (put_tree ts i (opened (tree_at ts i))))
  pub replaces : (x : Holder) (ws : List ℕ) (ts : Trees) → HasStruct c.old x c.place ws ts →
      OnOk r
      (IsReplaced c.old c.new x.segment x.at (held_tree x.lead ws ts)
      (held_tree x.lead ws (put_tree ts i (opened (tree_at ts i)))))
  pub refused : (x : Holder) (ws : List ℕ) (ts : Trees) → HasStruct c.old x c.place ws ts →
      OnErr r (HasStruct c.new x c.place ws ts)
  pub stays : (x : Holder) (ws : List ℕ) (ts : Trees) → HasStruct c.old x c.place ws ts →
      OnErr r
      (IsReplaced c.old c.new x.segment x.at (held_tree x.lead ws ts) (held_tree x.lead ws ts))
