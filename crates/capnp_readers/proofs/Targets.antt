-- From what is read at a place to what its reader shows.
use Rattle.std.proofs.Common.{◌≡◌, ℕ, pos, ◌-ℤ◌, ◌≤◌, sym, subst, arith}
use Rattle.capnp_words.specs.Meter.{Meter}
use Rattle.capnp_format.specs.Segments.{Segments, Target}
use Rattle.capnp_words.specs.Sizes.{size_number, sized}
use Rattle.capnp_format.specs.Word.{element_size, list_count}
use Rattle.capnp_words.specs.declared.wire_pointer.ElementSize.{ElementSize}
use Rattle.capnp_words.specs.declared.wire_pointer.ElementSize.TheVariants.{Void, Bit, Byte, TwoBytes, FourBytes, EightBytes, Pointer, InlineComposite}
use Rattle.capnp_words.specs.declared.wire_pointer.StructSize.{StructSize}
use Rattle.capnp_arena_traits.specs.declared.arena.reader_arena.ReaderArena.{Ghosts}
use Rattle.capnp_pointers.specs.Objects.{IsObject}
use Rattle.capnp_pointers.specs.Reading.{Reading}
use Rattle.capnp_pointers.specs.Rows.{rows_sized}
use Rattle.capnp_readers.specs.Readers.{ShowsStruct, ShowsList, IsTargetList, IsTarget, read_by}
use Rattle.capnp_pointers.specs.declared.object.Place.{Place}
use Rattle.capnp_pointers.specs.declared.object.Object.{Object}
use Rattle.capnp_pointers.specs.declared.object.Object.TheVariants.{Struct as ObjectStruct, Flat as ObjectFlat, Pointers as ObjectPointers}
use Rattle.capnp_pointers.specs.declared.object.Purpose.TheVariants.{Value}
use Rattle.capnp_readers.specs.declared.readers.PointerReader.{PointerReader}
use Rattle.capnp_readers.specs.declared.readers.struct_reader.StructReader.{StructReader}
use Rattle.capnp_readers.specs.declared.readers.list_reader.ListReader.{ListReader}
use Rattle.capnp_readers.specs.declared.readers.target.Target.TheVariants.{Struct, List}

-- an object that is read with the levels of a reading
pub read_within : (r : Reading) (m m' : Meter) (x : Object) {n : ℕ} → n ≡ r.levels → IsObject Value (record r { levels = n }) m m' x → IsObject Value r m m' x
read_within r m m' x e h = subst (λ k. IsObject Value (record r { levels = k }) m m' x) e h

module _ {A : Type 0} (g : Ghosts A) where
  shows_struct : {S : Segments} {r : StructReader A g} {s t p i d e q f : ℕ} → ShowsStruct g S r s p (sized d q) → s ≡ t → p ≡ i → d ≡ e → q ≡ f → ShowsStruct g S r t i (sized e f)
  shows_struct h k l m n = rw (← k, ← l, ← m, ← n) h

  shows_list : {S : Segments} {r : ListReader A g} {s t p i n k : ℕ} → ShowsList g S r s p (rows_sized (sized 0 0) n) → s ≡ t → p ≡ i → n ≡ k → ShowsList g S r t i (rows_sized (sized 0 0) k)
  shows_list h a b c = rw (← a, ← b, ← c) h

  flat_list : (size : ElementSize) {S : Segments} {r : ListReader A g} (a : Target) → size_number size ≤ 6 → element_size a.word ≡ size_number size → ShowsList g S r a.segment a.start (rows_sized (sized 0 0) (list_count a.word)) → IsTargetList g size S r a
  flat_list InlineComposite a h e s = absurd (omega arith)
  flat_list Void a h e s = (e, s)
  flat_list Bit a h e s = (e, s)
  flat_list Byte a h e s = (e, s)
  flat_list TwoBytes a h e s = (e, s)
  flat_list FourBytes a h e s = (e, s)
  flat_list EightBytes a h e s = (e, s)
  flat_list Pointer a h e s = (e, s)

  pub struct_target : (from : PointerReader A g) {m m' : Meter} (start : Place) (size : StructSize) {r : StructReader A g} →
      IsObject Value (read_by g from) m m' (ObjectStruct start size) → ShowsStruct g (read_by g from).segments r start.segment start.at size →
      (r.source ≡ from.source) × (r.nesting_limit ≡ from.nesting_limit -ℤ pos 1) → IsTarget g from m m' (Struct r)
  struct_target from start size (a, entered, z, (held, u, at), d, q) shows (same, level) = (a, entered, z, shows_struct shows u (omega arith) d q, same, level)

  pub flat_target : (from : PointerReader A g) {m m' : Meter} (start : Place) {size : ElementSize} {count : ℕ} {r : ListReader A g} →
      IsObject Value (read_by g from) m m' (ObjectFlat start size count) → r.element_size ≡ size → ShowsList g (read_by g from).segments r start.segment start.at (rows_sized (sized 0 0) count) →
      (r.source ≡ from.source) × (r.nesting_limit ≡ from.nesting_limit -ℤ pos 1) → IsTarget g from m m' (List r)
  flat_target from start {r} (a, entered, z, small, (held, u, at), e, counted) wide shows (same, level) =
      (a, entered, z, flat_list r.element_size a (rw wide (omega arith)) (rw wide (sym e)) (shows_list shows u (omega arith) counted), same, level)

  pub pointers_target : (from : PointerReader A g) {m m' : Meter} (start : Place) {count : ℕ} {r : ListReader A g} →
      IsObject Value (read_by g from) m m' (ObjectPointers start count) → r.element_size ≡ Pointer → ShowsList g (read_by g from).segments r start.segment start.at (rows_sized (sized 0 0) count) →
      (r.source ≡ from.source) × (r.nesting_limit ≡ from.nesting_limit -ℤ pos 1) → IsTarget g from m m' (List r)
  pointers_target from start {r} (a, entered, z, six, (held, u, at), counted) wide shows (same, level) =
      (a, entered, z, flat_list r.element_size a (rw wide (omega arith)) (rw wide six) (shows_list shows u (omega arith) counted), same, level)
