-- The errors with which a search, or the copy of its default, is refused: none of them is
-- NoSuchPlace.
use Rattle.std.proofs.Common.{◌-◌, ◌≡◌, inl, inr, ℕ, zero, suc, ◌^◌, Bool, true, false, cond, ◌&&◌, nat_eq, nat_le, nat_lt, length, Option, Some, None, Result, Ok, Err, refl, sym, ap, ◌∙◌}
use Rattle.capnp_words.specs.declared.error.ErrorKind.{ErrorKind}
use Rattle.capnp_words.specs.declared.error.ErrorKind.TheVariants.{ExistingListPointerIsNotByteSized, ExistingListValueIsIncompatibleWithExpectedType, ExistingPointerIsNotAList, FoundStructListWhereBitListWasExpected, InvalidSegmentId, MessageContainsOutOfBoundsPointer, MessageTooLarge, NoSuchPlace, TextBlobMissingNULTerminator}
use Rattle.capnp_words.specs.declared.wire_pointer.ElementSize.{ElementSize}
use Rattle.capnp_words.specs.declared.wire_pointer.ElementSize.TheVariants.{Void, Bit, Byte, TwoBytes, FourBytes, EightBytes, Pointer, InlineComposite}
use Rattle.capnp_words.specs.declared.wire_pointer.StructSize.{StructSize}
use Rattle.capnp_format.specs.Segments.{Segments, word_at, Target, near, pad}
use Rattle.capnp_format.specs.Tree.{Tree, Null, Capability, Struct, Flat, Pointers, Structs, count, element_count}
use Rattle.capnp_in_place.specs.declared.existing.ExistingList.{ExistingList}
use Rattle.capnp_in_place.specs.Existing.{is_unfound, size_of, plain_misfit, structs_misfit, plain_list, struct_list, unless, list_in, bytes_at, ends_in_zero, text_in, data_in}
use Rattle.capnp_format.specs.Word.{kind, upper_half, far_position, is_double}
use Rattle.capnp_pointers.specs.Faults.{here, below, HasFault}
use Rattle.capnp_pointers.specs.Follow.{◌>=>◌}
use Rattle.capnp_pointers.specs.Reading.{Reading}
use Rattle.capnp_pointers.specs.Wanted.{Form}
use Rattle.capnp_pointers.proofs.Following.LeadsWhereFollowed.{or_named, far_named, follow, is_named, followed_at, existing, far_steps}
use Rattle.capnp_in_place.specs.Opening.{struct_opened}
use Rattle.capnp_in_place.specs.Widened.{limited, list_widened}
use Rattle.capnp_edits.specs.Edits.{is_of_path}

-- Whether a result is the refusal NoSuchPlace.
abbrev pub is_nowhere : {A : Type 0} → Result A ErrorKind → Bool
is_nowhere (Ok x) = false
is_nowhere (Err NoSuchPlace) = true
is_nowhere (Err k) = false

-- a refusal that isn't has another error
pub elsewhere : {A : Type 0} (q : Result A ErrorKind) (k : ErrorKind) → is_nowhere q ≡ false → q ≡ Err k → k ≡ NoSuchPlace → ⊥
elsewhere {A} q k e is place = absurd (let f : true ≡ false = sym (ap is_nowhere is ∙ ap (λ x. is_nowhere {A = A} (Err x)) place) ∙ e in cc)

either : {A : Type 0} (b : Bool) (x y : Result A ErrorKind) → is_nowhere x ≡ false → is_nowhere y ≡ false → is_nowhere (cond b x y) ≡ false
either true x y e f = e
either false x y e f = f

-- a struct
pub struct_elsewhere : (size : StructSize) (t : Tree) → is_nowhere (struct_opened size t) ≡ false
struct_elsewhere size Null = refl
struct_elsewhere size (Struct ws ts) = refl
struct_elsewhere size t = refl

-- a list of structs
few_elsewhere : (n : ℕ) (t : Tree) → is_nowhere (limited n t) ≡ false
few_elsewhere n t = either (nat_lt n (2 ^ 29)) (Ok t) (Err (MessageTooLarge n)) refl refl

pub structs_elsewhere : (d q : ℕ) (t : Tree) → is_nowhere (list_widened d q t) ≡ false
structs_elsewhere d q Null = refl
structs_elsewhere d q (Capability i) = refl
structs_elsewhere d q (Struct ws ts) = refl
structs_elsewhere d q (Flat zero ns) = few_elsewhere _ _
structs_elsewhere d q (Flat (suc zero) ns) = refl
structs_elsewhere d q (Flat (suc (suc n)) ns) = few_elsewhere _ _
structs_elsewhere d q (Pointers ts) = few_elsewhere _ _
structs_elsewhere d q (Structs e k es) = either (nat_le d e && nat_le q k) (Ok (Structs e k es)) _ refl (few_elsewhere _ _)

-- whether a result is a success, or an error with which a list, data or a text isn't found
abbrev pub is_unfound_at : {A : Type 0} → Result A ErrorKind → Bool
is_unfound_at (Ok x) = true
is_unfound_at (Err k) = is_unfound k

abbrev names_unfound : Option ErrorKind → Bool
names_unfound None = true
names_unfound (Some k) = is_unfound k

pub unfound_of_path : (k : ErrorKind) → is_unfound k ≡ true → is_of_path k ≡ true
unfound_of_path ExistingListPointerIsNotByteSized e = refl
unfound_of_path ExistingListValueIsIncompatibleWithExpectedType e = refl
unfound_of_path ExistingPointerIsNotAList e = refl
unfound_of_path FoundStructListWhereBitListWasExpected e = refl
unfound_of_path MessageContainsOutOfBoundsPointer e = refl
unfound_of_path TextBlobMissingNULTerminator e = refl
unfound_of_path k e = absurd (cc)

pub unfound_name : {A : Type 0} (q : Result A ErrorKind) (k : ErrorKind) → is_unfound_at q ≡ true → q ≡ Err k → is_unfound k ≡ true
unfound_name q k e is = sym (ap is_unfound_at is) ∙ e

unfound_either : {A : Type 0} (b : Bool) (x y : Result A ErrorKind) → is_unfound_at x ≡ true → is_unfound_at y ≡ true → is_unfound_at (cond b x y) ≡ true
unfound_either true x y e f = e
unfound_either false x y e f = f

unfound_names : (b : Bool) (x y : Option ErrorKind) → names_unfound x ≡ true → names_unfound y ≡ true → names_unfound (cond b x y) ≡ true
unfound_names true x y e f = e
unfound_names false x y e f = f

unless_unfound : (m : Option ErrorKind) (l : ExistingList) → names_unfound m ≡ true → is_unfound_at (unless m l) ≡ true
unless_unfound None l e = refl
unless_unfound (Some k) l e = e

plain_unfound : (expected found : ElementSize) → names_unfound (plain_misfit expected found) ≡ true
plain_unfound expected found = unfound_names _ None (Some ExistingListValueIsIncompatibleWithExpectedType) refl refl

structs_unfound : (expected : ElementSize) (d q : ℕ) → names_unfound (structs_misfit expected d q) ≡ true
structs_unfound Void d q = refl
structs_unfound Bit d q = refl
structs_unfound Byte d q = unfound_names (nat_eq d 0) (Some ExistingListValueIsIncompatibleWithExpectedType) None refl refl
structs_unfound TwoBytes d q = unfound_names (nat_eq d 0) (Some ExistingListValueIsIncompatibleWithExpectedType) None refl refl
structs_unfound FourBytes d q = unfound_names (nat_eq d 0) (Some ExistingListValueIsIncompatibleWithExpectedType) None refl refl
structs_unfound EightBytes d q = unfound_names (nat_eq d 0) (Some ExistingListValueIsIncompatibleWithExpectedType) None refl refl
structs_unfound Pointer d q = unfound_names (nat_eq q 0) (Some ExistingListValueIsIncompatibleWithExpectedType) None refl refl
structs_unfound InlineComposite d q = refl

pub list_unfound : (a : Target) (size : ElementSize) (t : Tree) → is_unfound_at (list_in a size t) ≡ true
list_unfound a size Null = refl
list_unfound a size (Capability i) = refl
list_unfound a size (Struct ws ts) = refl
list_unfound a size (Flat s ns) = unless_unfound (plain_misfit size (size_of s)) (plain_list a (size_of s) (length ns)) (plain_unfound size (size_of s))
list_unfound a size (Pointers ts) = unless_unfound (plain_misfit size Pointer) (plain_list a Pointer (count ts)) (plain_unfound size Pointer)
list_unfound a size (Structs d q es) = unless_unfound (structs_misfit size d q) (struct_list a d q (element_count es)) (structs_unfound size d q)

pub data_unfound : (a : Target) (t : Tree) → is_unfound_at (data_in a t) ≡ true
data_unfound a Null = refl
data_unfound a (Capability i) = refl
data_unfound a (Struct ws ts) = refl
data_unfound a (Flat s ns) = unfound_either (nat_eq s 2) (Ok (Some (bytes_at a (length ns)))) (Err ExistingListPointerIsNotByteSized) refl refl
data_unfound a (Pointers ts) = refl
data_unfound a (Structs d q es) = refl

pub text_unfound : (a : Target) (t : Tree) → is_unfound_at (text_in a t) ≡ true
text_unfound a Null = refl
text_unfound a (Capability i) = refl
text_unfound a (Struct ws ts) = refl
text_unfound a (Flat s ns) = unfound_either (nat_eq s 2) (cond (ends_in_zero ns) (Ok (Some (bytes_at a (length ns - 1)))) (Err TextBlobMissingNULTerminator)) (Err ExistingListPointerIsNotByteSized) (unfound_either (ends_in_zero ns) _ (Err TextBlobMissingNULTerminator) refl refl) refl
text_unfound a (Pointers ts) = refl
text_unfound a (Structs d q es) = refl

-- none of these errors is NoSuchPlace
from_unfound : {A : Type 0} (q : Result A ErrorKind) → is_unfound_at q ≡ true → is_nowhere q ≡ false
from_unfound (Ok x) e = refl
from_unfound (Err NoSuchPlace) e = absurd (cc)
from_unfound (Err k) e = refl

pub list_elsewhere : (a : Target) (size : ElementSize) (t : Tree) → is_nowhere (list_in a size t) ≡ false
list_elsewhere a size t = from_unfound (list_in a size t) (list_unfound a size t)

pub data_elsewhere : (a : Target) (t : Tree) → is_nowhere (data_in a t) ≡ false
data_elsewhere a t = from_unfound (data_in a t) (data_unfound a t)

pub text_elsewhere : (a : Target) (t : Tree) → is_nowhere (text_in a t) ≡ false
text_elsewhere a t = from_unfound (text_in a t) (text_unfound a t)

-- a pointer that isn't followed
then_elsewhere : {A B : Type 0} (r : Result A ErrorKind) (f : A → Result B ErrorKind) → is_nowhere r ≡ false → ((x : A) → is_nowhere (f x) ≡ false) → is_nowhere (r >=> f) ≡ false
then_elsewhere (Ok x) f e g = g x
then_elsewhere (Err NoSuchPlace) f e g = absurd (cc)
then_elsewhere (Err k) f e g = refl

named_elsewhere : {A : Type 0} (o : Option A) → is_nowhere (or_named MessageContainsOutOfBoundsPointer o) ≡ false
named_elsewhere (Some x) = refl
named_elsewhere None = refl

existing_elsewhere : {A : Type 0} (S : Segments) (u : ℕ) (x : A) → is_nowhere (existing S u x) ≡ false
existing_elsewhere S u x = either (nat_lt u (length S)) (Ok x) (Err (InvalidSegmentId u)) refl refl

far_elsewhere : (S : Segments) (x double : ℕ) → is_nowhere (far_steps S x double) ≡ false
far_elsewhere S x zero =
    then_elsewhere (existing S (upper_half x) x) _ (existing_elsewhere S (upper_half x) x)
    (λ _. then_elsewhere (or_named MessageContainsOutOfBoundsPointer (pad S x 0)) _ (named_elsewhere (pad S x 0)) (λ w. named_elsewhere (near S (upper_half x) (far_position x) w 1)))
far_elsewhere S x (suc d) =
    then_elsewhere (existing S (upper_half x) x) _ (existing_elsewhere S (upper_half x) x)
    (λ _. then_elsewhere (or_named MessageContainsOutOfBoundsPointer (pad S x 1)) _ (named_elsewhere (pad S x 1)) (λ f. existing_elsewhere S (upper_half f) _))

follow_elsewhere : (S : Segments) (s p : ℕ) → is_nowhere (follow S s p) ≡ false
follow_elsewhere S s p =
    let x = word_at S s p in
    either (nat_eq (kind x) 2) (far_steps S x (is_double x)) (or_named MessageContainsOutOfBoundsPointer (near S s p x 0)) (far_elsewhere S x (is_double x)) (named_elsewhere (near S s p x 0))

default_far_elsewhere : (b : Bool) (r : Result Target ErrorKind) → is_nowhere r ≡ false → is_nowhere (far_named b r) ≡ false
default_far_elsewhere true (Ok x) e = refl
default_far_elsewhere false (Ok x) e = refl
default_far_elsewhere true (Err k) e = refl
default_far_elsewhere false (Err k) e = e

-- no fault of a default has that error
pub fault_elsewhere : (form : Form) {r : Reading} → HasFault form r NoSuchPlace → ⊥
fault_elsewhere form {r} (here (some, inl f)) =
    elsewhere _ NoSuchPlace (default_far_elsewhere (is_named r) (follow r.segments r.segment r.at) (follow_elsewhere r.segments r.segment r.at)) (sym (followed_at r) ∙ f) refl
fault_elsewhere form (here (some, inr (a, f, h))) = h
fault_elsewhere form (below a q l o i rest) = fault_elsewhere form rest
