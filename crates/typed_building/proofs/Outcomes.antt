-- What holds after a call that another one came before, and of a result that is made of another one.
use Rattle.std.proofs.Common.{◌≡◌, ℕ, ◌*◌, Result, Ok, Err, IfOk, ap, le_of_eq, sym, arith}
use Rattle.capnp_words.specs.declared.error.ErrorKind.{ErrorKind}
use Rattle.capnp_words.specs.declared.wire_pointer.ElementSize.{ElementSize}
use Rattle.capnp_words.specs.declared.wire_pointer.ElementSize.TheVariants.{InlineComposite}
use Rattle.capnp_words.specs.declared.wire_pointer.StructSize.{StructSize}
use Rattle.capnp_format.specs.Segments.{Segments, Grows}
use Rattle.capnp_format.specs.Tree.{Tree}
use Rattle.capnp_allocation.specs.Makes.{CallAt, MakesObject}
use Rattle.capnp_readers.specs.Readers.{IsListPlace, IsStructPlace}
use Rattle.capnp_readers.specs.declared.readers.list_reader.ListPlace.{ListPlace}
use Rattle.capnp_readers.specs.declared.readers.struct_reader.StructPlace.{StructPlace}
use Rattle.capnp_builders.specs.Held.{CallIn, MakesChild}
use Rattle.capnp_builders.specs.Places.{IsAligned}
use Rattle.typed_building.specs.Opened.{OpensChild}
use Rattle.typed_building.specs.There.{HasListPlace, HasStructPlace, HasStructsPlace}

-- A struct stays inside a message that grows.
pub place_grown : (S R : Segments) (place : StructPlace) → Grows S R → IsStructPlace S place → IsStructPlace R place
place_grown S R place g (there, words, pointers) = (omega (arith, there, g.segments), omega (arith, words, g.words place.segment), omega (arith, pointers, g.words place.segment))

-- the place of what was made

pub struct_is_there : (S : Segments) (size : StructSize) (place : StructPlace) → IsStructPlace S place → IsAligned place → place.bits ≡ 64 * size.data_words → place.pointers ≡ size.pointers → HasStructPlace S size place
struct_is_there S size place inside aligned bits pointers = record { inside = inside; aligned = aligned; wide = le_of_eq (sym bits); many = le_of_eq (sym pointers) }

pub structs_are_there : (S : Segments) (size : StructSize) (list : ListPlace) → IsListPlace S list → list.size ≡ InlineComposite → list.struct_size ≡ size → HasStructsPlace S size list
structs_are_there S size list inside is sections = record {
  inside = inside;
  structs = λ some. is;
  wide = λ some. le_of_eq (ap (λ (z : StructSize). z.data_words) (sym sections));
  many = λ some. le_of_eq (ap (λ (z : StructSize). z.pointers) (sym sections));
}

pub structs_made_there : (r : Result ListPlace ErrorKind) (S : Segments) (size : StructSize) → IfOk r (IsListPlace S) → IfOk r (λ list. list.size ≡ InlineComposite) → IfOk r (λ list. list.struct_size ≡ size) → IfOk r (HasStructsPlace S size)
structs_made_there (Ok list) S size inside is sections = structs_are_there S size list inside is sections
structs_made_there (Err k) S size inside is sections = tt

pub list_made_there : (r : Result ListPlace ErrorKind) (S : Segments) (size : ElementSize) → IfOk r (IsListPlace S) → IfOk r (λ list. list.size ≡ size) → IfOk r (HasListPlace S size)
list_made_there (Ok list) S size inside is = record { inside = inside; is_size = is }
list_made_there (Err k) S size inside is = tt

-- the same outcome, with another value

pub object_as : {V W : Type 0} (x : V) (y : W) (c : CallAt) (t : Tree) (n : ℕ) → MakesObject {A = V} (Ok x) c t n → MakesObject {A = W} (Ok y) c t n
object_as x y c t n h = record {
  made = h.made;
  behind = h.behind;
  zeroed = h.zeroed;
  memory = record { fits = h.memory.fits; granted = h.memory.granted; taken = h.memory.taken; named = tt };
  refused = tt;
  only = tt;
}

pub object_refused : {V W : Type 0} (k : ErrorKind) (c : CallAt) (t : Tree) (n : ℕ) → MakesObject {A = V} (Err k) c t n → MakesObject {A = W} (Err k) c t n
object_refused k c t n h = record {
  made = tt;
  behind = tt;
  zeroed = tt;
  memory = record { fits = h.memory.fits; granted = tt; taken = tt; named = h.memory.named };
  refused = h.refused;
  only = h.only;
}

pub child_as : {V W : Type 0} (x : V) (y : W) (c : CallIn) (i : ℕ) (u : Tree) → MakesChild {V = V} (Ok x) c i u → MakesChild {V = W} (Ok y) c i u
child_as x y c i u h = record { sets = h.sets; replaces = h.replaces; refused = h.refused; emptied = h.emptied }

pub child_refused : {V W : Type 0} (k : ErrorKind) (c : CallIn) (i : ℕ) (u : Tree) → MakesChild {V = V} (Err k) c i u → MakesChild {V = W} (Err k) c i u
child_refused k c i u h = record { sets = h.sets; replaces = h.replaces; refused = h.refused; emptied = h.emptied }

pub opened_as : {V W : Type 0} (x : V) (y : W) (c : CallIn) (i : ℕ) (opened : Tree → Tree) → OpensChild {V = V} (Ok x) c i opened → OpensChild {V = W} (Ok y) c i opened
opened_as x y c i opened h = record { sets = h.sets; replaces = h.replaces; refused = h.refused; stays = h.stays }

pub opening_refused : {V W : Type 0} (k : ErrorKind) (c : CallIn) (i : ℕ) (opened : Tree → Tree) → OpensChild {V = V} (Err k) c i opened → OpensChild {V = W} (Err k) c i opened
opening_refused k c i opened h = record { sets = h.sets; replaces = h.replaces; refused = h.refused; stays = h.stays }
