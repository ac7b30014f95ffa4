-- What a reader of a message being built reads.
use Rattle.std.specs.Prelude.{◌≡◌, ◌-◌, ◌*◌, ◌^◌, pos}
use Rattle.capnp_words.specs.declared.wire_pointer.ElementSize.TheVariants.{InlineComposite}
use Rattle.capnp_arena_traits.specs.declared.arena.reader_arena.ReaderArena.{Ghosts}
use Rattle.capnp_pointers.specs.declared.source.Source.{Source}
use Rattle.capnp_pointers.specs.declared.source.Source.TheVariants.{Arena, Default, Nothing}
use Rattle.capnp_readers.specs.declared.readers.PointerReader.{PointerReader}
use Rattle.capnp_readers.specs.declared.readers.struct_reader.StructPlace.{StructPlace}
use Rattle.capnp_readers.specs.declared.readers.struct_reader.StructReader.{StructReader}
use Rattle.capnp_readers.specs.declared.readers.list_reader.ListPlace.{ListPlace}
use Rattle.capnp_readers.specs.declared.readers.list_reader.ListReader.{ListReader}
use Rattle.capnp_builders.specs.declared.builders.PointerBuilder.{PointerBuilder}
use Rattle.capnp_builders.specs.declared.builders.struct_builder.StructBuilder.{StructBuilder}
use Rattle.capnp_builders.specs.declared.builders.list_builder.ListBuilder.{ListBuilder}

-- The source is an arena that holds a.
abbrev pub IsArenaOf : {A : Type 0} → Source A → A → Type 0
IsArenaOf (Arena r) a = r.now ≡ a
IsArenaOf (Default d) a = ⊥
IsArenaOf Nothing a = ⊥

module _ {A : Type 0} (g : Ghosts A) where
  -- r reads a struct at this place.
  abbrev pub IsReadAt : StructPlace → StructReader A g → Type 0
  IsReadAt place r =
      (r.byte ≡ place.byte) × (r.bits ≡ place.bits) × (r.pointers.segment ≡ place.segment) ×
      (r.pointers.at ≡ place.pointers_at) × (r.pointer_count ≡ place.pointers)

  -- r reads a list at this place.
  abbrev pub IsListReadAt : ListPlace → ListReader A g → Type 0
  IsListReadAt place r =
      (r.element_size ≡ place.size) × (r.count ≡ place.count) ×
      (place.size ≡ InlineComposite → r.struct_size ≡ place.struct_size)
      × (r.start.segment ≡ place.segment) × (8 * r.start.at ≡ place.byte)

  -- The reader of what a builder writes reads the same message, at the same place. It may enter as
  -- many levels as a nesting limit can express.
  pub record IsPointerReader (b : PointerBuilder A) (r : PointerReader A g) : Type 0 where
    pub reads : IsArenaOf r.source b.arena.now
    pub place : (r.place.segment ≡ b.segment) × (r.place.at ≡ b.at)
    pub nesting : r.nesting_limit ≡ pos (2 ^ 31 - 1)

  pub record IsStructReader (b : StructBuilder A) (r : StructReader A g) : Type 0 where
    pub reads : IsArenaOf r.source b.arena.now
    pub place : IsReadAt b.place r
    pub nesting : r.nesting_limit ≡ pos (2 ^ 31 - 1)

  pub record IsListReader (b : ListBuilder A) (r : ListReader A g) : Type 0 where
    pub reads : IsArenaOf r.source b.arena.now
    pub place : IsListReadAt b.place r
    pub nesting : r.nesting_limit ≡ pos (2 ^ 31 - 1)
