-- What a refusal says: which pointer is at fault, and why.
use Rattle.std.specs.Prelude.{◌≡◌, ℕ, pred, ◌+◌, ◌*◌, ◌<◌, List, None, Some, Result, Ok, Err}
use Rattle.capnp_words.specs.Meter.{Meter}
use Rattle.capnp_words.specs.declared.error.ErrorKind.{ErrorKind}
use Rattle.capnp_pointers.specs.declared.object.Purpose.TheVariants.{Value}
use Rattle.capnp_pointers.specs.Enter.{Shape, struct, pointers, structs, read}
use Rattle.std.specs.Borrow.{Bor}
use Rattle.capnp_arena_traits.specs.declared.arena.reader_arena.ReaderArena.{Ghosts}
use Rattle.capnp_pointers.specs.Source.{levels}
use Rattle.capnp_pointers.specs.declared.source.Source.TheVariants.{Arena}
use Rattle.capnp_pointers.specs.Reading.{Reading, place_past, source_start, words_from}
use Rattle.typed_conforming.specs.declared.conforms.SchemaPointer.{SchemaPointer}
use Rattle.typed_conforming.specs.declared.schema.Kind.{Kind}
use Rattle.typed_conforming.specs.declared.schema.Misfit.{Misfit}
use Rattle.typed_conforming.specs.Tables.{row_below, table_below}
use Rattle.typed_conforming.specs.Misfits.{kind_misfit}
use Rattle.typed_conforming.specs.Walk.{misfit_at, rowless_pointer, schema_pointer}

module _ {A : Type 0} (g : Ghosts A) where
  -- The place of the root pointer of an arena.
  abbrev pub arena_root : Bor A → Reading
  arena_root a = record (source_start g (Arena a)) { levels = levels (g.nesting a.now) }

-- A pointer that is tested: as the schema with this table has it, and its place.
pub record Visit : Type 0 where
  pub table : List ℕ
  pub pointer : SchemaPointer
  pub place : Reading

-- The first pointer that is tested: of this kind, at the place r.
abbrev pub first_visit : List ℕ → Kind → Reading → Visit
first_visit T k r = record { table = T; pointer = rowless_pointer k; place = r }

-- Pointer i of the struct with d data words at position p of segment s, in what the pointer of v
-- leads to.
abbrev pub visit_below : Visit → ℕ → ℕ → ℕ → ℕ → Visit
visit_below v s p d i =
    let T = table_below v.table v.pointer.kind in
    let element = record v.place { levels = pred v.place.levels; segment = s; at = p } in
    record {
      table = T;
      pointer = schema_pointer T (row_below v.pointer.kind) (words_from element d) i;
      place = place_past element (d + i);
    }

-- The object o, to which the pointer of v leads, has the pointer of u: in a struct, in a list of
-- pointers, or in an element of a list of structs.
pub data HasPointer (v : Visit) : Shape → Visit → Type 0 where
  in_struct : (s p d q i : ℕ) → i < q → HasPointer v (struct s p d q) (visit_below v s p d i)
  in_list : (s p n j : ℕ) → j < n → HasPointer v (pointers s p n) (visit_below v s (p + j) 0 0)
  in_element : (s p d q n j i : ℕ) → j < n → i < q →
      HasPointer v (structs s p d q n) (visit_below v s (p + j * (d + q)) d i)

-- The object o is read for the pointer of v, and is what this pointer may lead to.
pub record IsEntered (v : Visit) (o : Shape) : Type 0 where
  pub before : Meter
  pub after : Meter
  pub is_read : read Value v.place before ≡ (Ok o, after)
  pub suits : kind_misfit v.pointer.kind v.place.segments o ≡ None

-- The walk comes to the pointer of u from that of v: they are the same, or it comes to it from a
-- pointer of the object of v.
pub data ComesTo (u : Visit) : Visit → Type 0 where
  at_once : ComesTo u u
  through : (v x : Visit) (o : Shape) → IsEntered v o → HasPointer v o x → ComesTo u x → ComesTo u v

-- What reading the object for the pointer of u returns is refused with e: it is this refusal; or an
-- object that isn't what the pointer may lead to, for this reason.
abbrev pub IsRefusedWith : Visit → ErrorKind → Result Shape ErrorKind → Type 0
IsRefusedWith u e (Ok o) = kind_misfit u.pointer.kind u.place.segments o ≡ Some e
IsRefusedWith u e (Err k) = k ≡ e

-- The misfit x names the pointer of u, whose object is read or refused, and refused by x. The limiter
-- has m' left.
pub record IsAbout (x : Misfit) (u : Visit) (m' : Meter) : Type 0 where
  pub names : x ≡ misfit_at u.pointer u.place x.error
  pub before : Meter
  pub reason : IsRefusedWith u x.error (read Value u.place before).0
  pub leaves : (read Value u.place before).1 ≡ m'

-- The misfit x is that of a pointer to which the walk comes from v. The limiter has m' left.
abbrev pub IsTrueFrom : Visit → Meter → Misfit → Type 0
IsTrueFrom v m' x = (u : Visit) × ComesTo u v × IsAbout x u m'
