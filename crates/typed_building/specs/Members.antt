-- What a call that sets a member of a union does to the value of the struct at its place.
use Rattle.std.specs.Prelude.{ℕ, List, OnErr, OnOk, Result}
use Rattle.capnp_words.specs.declared.error.ErrorKind.{ErrorKind}
use Rattle.capnp_format.specs.Fields.{put_field}
use Rattle.capnp_format.specs.Path.{put_tree}
use Rattle.capnp_format.specs.Tree.{Tree, Null, Trees}
use Rattle.capnp_allocation.specs.Stored.{IsReplaced}
use Rattle.capnp_builders.specs.Held.{CallIn, HasStruct, Holder, held_tree}
use Rattle.capnp_builders.specs.Places.{Field, number_field}
use Rattle.typed_building.specs.declared.tag.UnionTag.{UnionTag}

-- The tag at this offset, counted in numbers of 16 bits, with the number of a member.
abbrev pub tagged : ℕ → ℕ → UnionTag
tagged offset number = record { offset = offset; number = number }

-- The 16 bits that say which member of a union is set.
abbrev pub tag_field : UnionTag → Field
tag_field tag = number_field 2 tag.offset tag.number

-- The data words ws with the field f.
abbrev pub with_data : List ℕ → Field → List ℕ
with_data ws f = put_field ws f.start f.bits f.value

-- The call writes the tag of a union, and then a field. This holds for each struct that the place
-- may have before.
abbrev pub SetsMember : CallIn → UnionTag → Field → Type 0
SetsMember c tag f =
    (x : Holder) (ws : List ℕ) (ts : Trees) → HasStruct c.old x c.place ws ts →
    HasStruct c.new x c.place (with_data (with_data ws (tag_field tag)) f) ts

-- The call writes the tag and the field, and changes nothing else of the message.
abbrev pub ReplacesMember : CallIn → UnionTag → Field → Type 0
ReplacesMember c tag f =
    (x : Holder) (ws : List ℕ) (ts : Trees) → HasStruct c.old x c.place ws ts →
    IsReplaced c.old c.new x.segment x.at (held_tree x.lead ws ts)
    (held_tree x.lead (with_data (with_data ws (tag_field tag)) f) ts)

-- The call writes the tag, and makes u child i of the struct. This holds for the results that `On`
-- names: `OnOk result`, or `OnErr result`.
abbrev pub SetsChildMember : (Type 0 → Type 0) → CallIn → UnionTag → ℕ → Tree → Type 0
SetsChildMember On c tag i u =
    (x : Holder) (ws : List ℕ) (ts : Trees) → HasStruct c.old x c.place ws ts →
    On (HasStruct c.new x c.place (with_data ws (tag_field tag)) (put_tree ts i u))

-- The call writes the tag, makes u child i of the struct, and changes nothing else of the message.
abbrev pub ReplacesChildMember : (Type 0 → Type 0) → CallIn → UnionTag → ℕ → Tree → Type 0
ReplacesChildMember On c tag i u =
    (x : Holder) (ws : List ℕ) (ts : Trees) → HasStruct c.old x c.place ws ts →
    On (IsReplaced c.old c.new x.segment x.at (held_tree x.lead ws ts)
    (held_tree x.lead (with_data ws (tag_field tag)) (put_tree ts i u)))

-- The call, with the result r, writes the tag, makes u child i of the struct, and changes nothing
-- else of the message. If it is refused, the tag is written, and the child is Null.
pub record MakesMember {V : Type 0} (r : Result V ErrorKind) (c : CallIn) (tag : UnionTag) (i : ℕ)
    (u : Tree) : Type 0 where
  pub sets : SetsChildMember (OnOk r) c tag i u
  pub replaces : ReplacesChildMember (OnOk r) c tag i u
  pub refused : SetsChildMember (OnErr r) c tag i Null
  pub emptied : ReplacesChildMember (OnErr r) c tag i Null
