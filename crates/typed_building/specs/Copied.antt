-- What a child is once a value that was read is copied there.
use Rattle.std.specs.Prelude.{[]}
use Rattle.capnp_words.specs.Sizes.{size_number}
use Rattle.capnp_words.specs.declared.wire_pointer.ElementSize.{ElementSize}
use Rattle.capnp_words.specs.declared.wire_pointer.ElementSize.TheVariants.{InlineComposite, Pointer}
use Rattle.capnp_words.specs.declared.wire_pointer.StructSize.{StructSize}
use Rattle.capnp_words.specs.declared.error.ErrorKind.{ErrorKind}
use Rattle.capnp_format.specs.Tree.{Tree, Null, Struct, Flat, Pointers, Structs, no_elements, no_trees}
use Rattle.capnp_allocation.specs.Memory.{KeepsMemory, SpendsMemory}
use Rattle.capnp_readers.specs.Values.{struct_children, struct_data}
use Rattle.capnp_copies.specs.Changes.{CopyCall, RefusesToCopy}
use Rattle.capnp_copies.specs.Originals.{Original}

-- The copy of the struct t: t itself. Null, which is read as a struct without sections, becomes one.
abbrev pub copied_struct : Tree → Tree
copied_struct t = Struct (struct_data t) (struct_children t)

-- The list of this element size without elements; structs have these sections.
abbrev pub empty_list : ElementSize → StructSize → Tree
empty_list Pointer sections = Pointers no_trees
empty_list InlineComposite sections = Structs sections.data_words sections.pointers no_elements
empty_list size sections = Flat (size_number size) []

-- The copy of the list t, which a reader shows with this element size: t itself. Null becomes a list
-- without elements.
abbrev pub copied_list : ElementSize → StructSize → Tree → Tree
copied_list size sections Null = empty_list size sections
copied_list size sections t = t

-- What is copied is read. Only words change, and the room of new segments.
pub record ReadsToCopy (o : Original Tree) (c : CopyCall) : Type 0 where
  pub value : Tree
  pub is_read : o.reads c.form c.before c.after value
  pub memory : KeepsMemory c.old c.new

-- The copy is refused with k.
pub record IsNotCopied (o : Original Tree) (c : CopyCall) (k : ErrorKind) : Type 0 where
  pub why : RefusesToCopy o c k
  pub memory : SpendsMemory c.old c.new k
