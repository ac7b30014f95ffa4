-- What becomes of a struct if a call at its place writes a field, or makes an object for one of its
-- pointers.
use Rattle.std.proofs.Common.{◌≡◌, ℕ, ◌+◌, ◌*◌, ◌/◌, ◌%◌, ◌<◌, length, get_or, List, Bool, true, false, cond, nat_eq, Result, Ok, Err, IfOk, refl, sym, ap, ap₂, ◌∙◌, subst, arith}
use Rattle.std.proofs.lemmas.Bool.{eqb-true}
use Rattle.std.proofs.lemmas.List.{length-replicate, length-set}
use Rattle.capnp_words.specs.declared.error.ErrorKind.{ErrorKind}
use Rattle.capnp_words.specs.declared.wire_pointer.ElementSize.{ElementSize}
use Rattle.capnp_words.specs.declared.wire_pointer.StructSize.{StructSize}
use Rattle.capnp_words.specs.Sizes.{size_number, sized}
use Rattle.capnp_format.specs.Forest.{target}
use Rattle.capnp_format.specs.Fields.{put_field, with_bits}
use Rattle.capnp_format.specs.Segments.{Target, segment}
use Rattle.capnp_format.specs.Tree.{Tree, Null, Struct, Flat, Pointers, Structs, Trees, Elements, count}
use Rattle.capnp_arena_traits.specs.View.{View}
use Rattle.capnp_in_place.specs.Existing.{plain_list, struct_list}
use Rattle.capnp_allocation.specs.Fields.{with_field}
use Rattle.capnp_allocation.specs.Made.{words_of_zero, nulls, zero_elements, zero_list, zero_struct, zero_structs}
use Rattle.capnp_allocation.specs.Makes.{MakesObject, call_at}
use Rattle.capnp_allocation.specs.Memory.{start_of}
use Rattle.capnp_format.specs.Path.{put_struct, tree_at}
use Rattle.capnp_allocation.specs.Stored.{IsStored}
use Rattle.capnp_allocation.proofs.Memory.{limits_written}
use Rattle.capnp_allocation.proofs.Placed.{count-nulls}
use Rattle.capnp_allocation.proofs.PlacedStructs.{count-zero_elements}
use Rattle.capnp_allocation.proofs.Zeros.{lengths_kept}
use Rattle.capnp_readers.specs.Sections.{IsInside}
use Rattle.capnp_readers.specs.declared.readers.list_reader.ListPlace.{ListPlace}
use Rattle.capnp_readers.specs.declared.readers.struct_reader.StructPlace.{StructPlace}
use Rattle.capnp_in_place.specs.Anew.{OnlyWrites}
use Rattle.capnp_in_place.specs.Opening.{existing_struct}
use Rattle.capnp_builders.specs.Held.{HasList, HasStruct, Holder, IsPlainList, MakesChild, ReplacesField, SetsField, call_in, element_of, pointer_to}
use Rattle.capnp_builders.specs.Places.{Field, IsListOf, IsStructOf, WritesField, element_place, list_place, struct_place}
use Rattle.capnp_builders.proofs.ElementContent.{put_struct-same}
use Rattle.capnp_builders.proofs.FieldPlaces.{in_bits}
use Rattle.capnp_builders.proofs.HeldStructs.{child_replaced, child_set, child_stored, field_replaced, field_set}
use Rattle.capnp_allocation.proofs.FillingElements.{blank_at}

-- a field

pub number_starts : (bits k n : ℕ) → 0 < n → IsInside bits (8 * n) k → 8 * (k * n) < bits
number_starts bits k n some inside = omega (arith, some, inside, in_bits k n)

pub sets_field : (old new : View) (place : StructPlace) (f : Field) → f.start < place.bits → WritesField old new place.segment place.byte f → SetsField (call_in place old.words new.words) f
sets_field old new place f inside written = λ x ws ts h. field_set old.words new.words x place ws ts f.start f.bits f.value inside (ap (λ (v : View). v.words) written) h

pub replaces_field : (old new : View) (place : StructPlace) (f : Field) → f.start < place.bits → WritesField old new place.segment place.byte f → ReplacesField (call_in place old.words new.words) f
replaces_field old new place f inside written = λ x ws ts h. field_replaced old.words new.words x place ws ts f.start f.bits f.value inside (ap (λ (v : View). v.words) written) h

-- the memory of the message stays as it is
pub field_writes : (old new : View) (id b w v : ℕ) → new ≡ record old { words = with_field old.words id b w v } → OnlyWrites old new
field_writes old new id b w v written =
    let made : List ℕ = put_field (segment old.words id) b w v in
    let words : new.words ≡ with_field old.words id b w v = ap (λ (y : View). y.words) written in
    let long : length made ≡ length (segment old.words id) = length-set (segment old.words id) (b / 64) (with_bits (get_or (segment old.words id) (b / 64) 0) (b % 64) w v) in
    record {
      limits = limits_written old new (with_field old.words id b w v) written;
      segments = ap length words ∙ length-set old.words id made;
      words = λ y. ap (λ S. length (segment S y)) words ∙ lengths_kept old.words id made long y;
    }

-- an object for a pointer, or null after a refusal
pub child_made : {A : Type 0} (r : Result A ErrorKind) (old new : View) (place : StructPlace) (i : ℕ) (t : Tree) (n : ℕ) → i < place.pointers → MakesObject r (call_at place.segment (place.pointers_at + i) old new) t n → MakesChild r (call_in place old.words new.words) i t
child_made (Ok v) old new place i t n inside made =
    let stored = λ (x : Holder) (ws : List ℕ) (ts : Trees) (h : HasStruct old.words x place ws ts). made.made (tree_at ts i) (child_stored old.words x place ws ts i inside h) in
    record {
      sets = λ x ws ts h. child_set old.words new.words x place ws ts i t inside (stored x ws ts h) h;
      replaces = λ x ws ts h. child_replaced old.words new.words x place ws ts i t inside (stored x ws ts h) h;
      refused = λ x ws ts h. tt;
      emptied = λ x ws ts h. tt;
    }
child_made (Err k) old new place i t n inside made =
    let stored = λ (x : Holder) (ws : List ℕ) (ts : Trees) (h : HasStruct old.words x place ws ts). made.refused (tree_at ts i) (child_stored old.words x place ws ts i inside h) in
    record {
      sets = λ x ws ts h. tt;
      replaces = λ x ws ts h. tt;
      refused = λ x ws ts h. child_set old.words new.words x place ws ts i Null inside (stored x ws ts h) h;
      emptied = λ x ws ts h. child_replaced old.words new.words x place ws ts i Null inside (stored x ws ts h) h;
    }

-- the new struct

same_sections : (size : StructSize) → size ≡ sized (length (words_of_zero size.data_words)) (count (nulls size.pointers))
same_sections size = ap₂ sized (sym (length-replicate {A = ℕ} size.data_words 0)) (sym (count-nulls size.pointers))

pub struct_made : (r : Result StructPlace ErrorKind) (old new : View) (s p : ℕ) (size : StructSize) (n : ℕ) (t : Tree) → MakesObject r (call_at s p old new) (zero_struct size) n → IfOk r (IsStructOf (call_at s p old new) size) → IsStored old.words s p t →
    IfOk r (λ place. HasStruct new.words (pointer_to s p) place (words_of_zero size.data_words) (nulls size.pointers))
struct_made (Ok place) old new s p size n t made leads stored = record {
  stored = (made.made t stored).stored;
  sizes = tt;
  is_place = leads.is ∙ ap (λ z. struct_place (existing_struct (start_of (target new.words s p)) z)) (same_sections size);
}
struct_made (Err k) old new s p size n t made leads stored = tt

-- the new list, whose elements aren't structs

zeros_plain : (list : ListPlace) (n count : ℕ) (b : Bool) → nat_eq n 6 ≡ b → size_number list.size ≡ n → list.count ≡ count → IsPlainList list (cond b (Pointers (nulls count)) (Flat n (words_of_zero count)))
zeros_plain list n count true e size many = (size ∙ eqb-true n 6 e, many ∙ sym (count-nulls count))
zeros_plain list n count false e size many = (size, many ∙ sym (length-replicate {A = ℕ} count 0))

pub list_made : (r : Result ListPlace ErrorKind) (old new : View) (s p : ℕ) (size : ElementSize) (count n : ℕ) (t : Tree) → MakesObject r (call_at s p old new) (zero_list (size_number size) count) n → IfOk r (IsListOf (call_at s p old new) (λ a. plain_list a size count)) → IsStored old.words s p t →
    IfOk r (λ list. HasList new.words s p list (zero_list (size_number size) count))
list_made (Ok list) old new s p size count n t made leads stored =
    let a : Target = target new.words s p in
    let of_size : list.size ≡ size = ap (λ (l : ListPlace). l.size) leads.is in
    let of_count : list.count ≡ count = ap (λ (l : ListPlace). l.count) leads.is in
    record {
      stored = (made.made t stored).stored;
      plain = zeros_plain list (size_number size) count (nat_eq (size_number size) 6) refl (ap size_number of_size) of_count;
      is_place = leads.is ∙ ap₂ (λ z k. list_place (plain_list a z k)) (sym of_size) (sym of_count);
    }
list_made (Err k) old new s p size count n t made leads stored = tt

-- the structs of the new list

pub structs_made : (r : Result ListPlace ErrorKind) (old new : View) (s p : ℕ) (size : StructSize) (count n i : ℕ) (t : Tree) → i < count → MakesObject r (call_at s p old new) (zero_structs count size) n → IfOk r (IsListOf (call_at s p old new) (λ a. struct_list a size.data_words size.pointers count)) → IsStored old.words s p t →
    IfOk r (λ list. HasStruct new.words (element_of s p size (zero_elements size.data_words size.pointers count) i) (element_place list.size list i) (words_of_zero size.data_words) (nulls size.pointers))
structs_made (Ok list) old new s p size count n i t less made leads stored =
    let d : ℕ = size.data_words in
    let q : ℕ = size.pointers in
    let a : Target = target new.words s p in
    let es : Elements = zero_elements d q count in
    let same : put_struct es i (Struct (words_of_zero d) (nulls q)) ≡ es = put_struct-same es i (words_of_zero d) (nulls q) (blank_at d q count i less) in
    record {
      stored = subst (λ X. IsStored new.words s p (Structs d q X)) (sym same) (made.made t stored).stored;
      sizes = (omega (arith, less, count-zero_elements d q count), length-replicate {A = ℕ} d 0, count-nulls q);
      is_place = ap (λ (l : ListPlace). element_place l.size l i) leads.is ∙ ap₂ (λ k z. struct_place (record { segment = a.segment; start = k; size = z })) (let e : 8 * (a.start + 1) / 8 + i * (d + q) ≡ a.start + 1 + i * (d + q) = omega arith in e) (same_sections size);
    }
structs_made (Err k) old new s p size count n i t less made leads stored = tt
