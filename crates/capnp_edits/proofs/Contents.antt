-- What is written in lists, texts and data.
use Rattle.std.proofs.Common.{◌≡◌, ℕ, zero, suc, ◌+◌, ◌-◌, ◌*◌, ◌^◌, ◌<◌, ◌≤◌, Bool, true, false, cond, ◌&&◌, nat_eq, nat_le, List, length, Option, Some, None, Result, Ok, Err, refl, sym, ap, ◌∙◌, subst, arith}
use Rattle.std.specs.Option.{option_map_or}
use Rattle.std.proofs.lemmas.Bool.{eqb-true}
use Rattle.std.proofs.lemmas.Bool.Decides.{nat_tests}
use Rattle.capnp_words.specs.declared.error.ErrorKind.{ErrorKind}
use Rattle.capnp_words.specs.declared.error.ErrorKind.TheVariants.{NoSuchPlace, ExistingListPointerIsNotByteSized, ExistingListValueIsIncompatibleWithExpectedType, TextBlobMissingNULTerminator}
use Rattle.capnp_words.specs.declared.wire_pointer.ElementSize.{ElementSize}
use Rattle.capnp_words.specs.declared.wire_pointer.ElementSize.TheVariants.{Void, Bit, Byte, TwoBytes, FourBytes, EightBytes, Pointer, InlineComposite}
use Rattle.capnp_words.specs.Sizes.{size_number, pointers_per_element}
use Rattle.capnp_format.specs.Numbers.{element_bits}
use Rattle.capnp_format.specs.Segments.{Segments, IsPlace, Target}
use Rattle.capnp_format.specs.Tree.{Tree, Null, Capability, Struct, Flat, Pointers, Structs, count, element_count}
use Rattle.capnp_format.specs.Forest.{target}
use Rattle.capnp_in_place.specs.declared.existing.ExistingBytes.{ExistingBytes}
use Rattle.capnp_in_place.specs.declared.existing.ExistingList.{ExistingList}
use Rattle.capnp_in_place.specs.Existing.{size_of, plain_misfit, structs_misfit, plain_list, struct_list, unless, list_in, bytes_at, ends_in_zero, text_in, data_in, AreBytesInside}
use Rattle.capnp_allocation.specs.Fields.{with_field}
use Rattle.capnp_format.specs.Path.{put_struct}
use Rattle.capnp_allocation.specs.Stored.{IsStored, IsReplaced}
use Rattle.capnp_in_place.proofs.Fields.FieldWritten.{flat_part_written, element_field_written}
use Rattle.capnp_allocation.proofs.Zeros.{there}
use Rattle.capnp_readers.specs.Sections.{step_bits, data_bits}
use Rattle.capnp_pointers.specs.declared.pointers.PointerPlace.{PointerPlace}
use Rattle.capnp_builders.specs.Places.{field}
use Rattle.capnp_builders.proofs.FoundBytes.{data_inside, text_inside}
use Rattle.capnp_builders.proofs.FoundLists.{found_inside}
use Rattle.capnp_edits.specs.declared.edit.tasks.Task.TheVariants.{Write}
use Rattle.capnp_edits.specs.declared.edit.tasks.Part.TheVariants.{ListElement, TextByte, DataByte}
use Rattle.capnp_edits.specs.Tasks.{is_number}
use Rattle.capnp_edits.specs.Edits.{gives, struct_with, with_lowest, elements_of, data_length, text_length, if_reached, refusal_of, PutsElement, element_put, element_past, no_list, list_denied, PutsByte, byte_put, byte_past, no_bytes_there, bytes_denied}
use Rattle.capnp_edits.specs.declared.edit.tasks.Number.{Number}
use Rattle.capnp_edits.proofs.Steps.{first, second, chosen}
use Rattle.capnp_edits.proofs.Applied.{Does, done_at, denied_at, element_struct, element_width_stored}
use Rattle.capnp_edits.proofs.Ways.{DoesAt, part_written}
use Rattle.capnp_edits.proofs.Fields.{number_parts}

-- The number of elements or bytes of what a search found: none if it found a null pointer.
abbrev count_of : {A : Type 0} → (A → ℕ) → Result (Option A) ErrorKind → Result ℕ ErrorKind
count_of number (Ok (Some x)) = Ok (number x)
count_of number (Ok None) = Ok 0
count_of number (Err k) = Err k

-- The number of elements of the list that a search found; then the number of bytes.
abbrev elements_in : Result (Option ExistingList) ErrorKind → Result ℕ ErrorKind
elements_in looked = count_of (λ l. l.count) looked

abbrev length_in : Result (Option ExistingBytes) ErrorKind → Result ℕ ErrorKind
length_in looked = count_of (λ b. b.length) looked

-- what a search finds at any target has as many elements or bytes as the value
list_fits : (m : Option ErrorKind) (l : ExistingList) → elements_in (unless m l) ≡ option_map_or Err m (Ok l.count)
list_fits None l = refl
list_fits (Some k) l = refl

list_counted : (a : Target) (size : ElementSize) (t : Tree) → elements_in (list_in a size t) ≡ elements_of size t
list_counted a size Null = refl
list_counted a size (Capability i) = refl
list_counted a size (Struct ws ts) = refl
list_counted a size (Flat s ns) = list_fits (plain_misfit size (size_of s)) (plain_list a (size_of s) (length ns))
list_counted a size (Pointers ts) = list_fits (plain_misfit size Pointer) (plain_list a Pointer (count ts))
list_counted a size (Structs d q es) = list_fits (structs_misfit size d q) (struct_list a d q (element_count es))

bytes_fit : (x : Bool) (b : ExistingBytes) (k : ErrorKind) → length_in (cond x (Ok (Some b)) (Err k)) ≡ cond x (Ok b.length) (Err k)
bytes_fit true b k = refl
bytes_fit false b k = refl

data_counted : (a : Target) (t : Tree) → length_in (data_in a t) ≡ data_length t
data_counted a Null = refl
data_counted a (Capability i) = refl
data_counted a (Struct ws ts) = refl
data_counted a (Flat s ns) = bytes_fit (nat_eq s 2) (bytes_at a (length ns)) ExistingListPointerIsNotByteSized
data_counted a (Pointers ts) = refl
data_counted a (Structs d q es) = refl

text_counted : (a : Target) (t : Tree) → length_in (text_in a t) ≡ text_length t
text_counted a Null = refl
text_counted a (Capability i) = refl
text_counted a (Struct ws ts) = refl
text_counted a (Flat s ns) = of_bytes (nat_eq s 2)
  where
    of_bytes : (x : Bool) → length_in (cond x (cond (ends_in_zero ns) (Ok (Some (bytes_at a (length ns - 1)))) (Err TextBlobMissingNULTerminator)) (Err ExistingListPointerIsNotByteSized))
        ≡ cond x (cond (ends_in_zero ns) (Ok (length ns - 1)) (Err TextBlobMissingNULTerminator)) (Err ExistingListPointerIsNotByteSized)
    of_bytes true = bytes_fit (ends_in_zero ns) (bytes_at a (length ns - 1)) TextBlobMissingNULTerminator
    of_bytes false = refl
text_counted a (Pointers ts) = refl
text_counted a (Structs d q es) = refl

-- such a search is refused with the same error
counted_refusal : {A : Type 0} (number : A → ℕ) (q : Result (Option A) ErrorKind) → refusal_of q ≡ refusal_of (count_of number q)
counted_refusal number (Ok (Some x)) = refl
counted_refusal number (Ok None) = refl
counted_refusal number (Err k) = refl

pub list_refusal_of : (a : Target) (size : ElementSize) (t : Tree) → refusal_of (list_in a size t) ≡ refusal_of (elements_of size t)
list_refusal_of a size t = counted_refusal (λ (l : ExistingList). l.count) (list_in a size t) ∙ ap refusal_of (list_counted a size t)

pub data_refusal_of : (a : Target) (t : Tree) → refusal_of (data_in a t) ≡ refusal_of (data_length t)
data_refusal_of a t = counted_refusal (λ (b : ExistingBytes). b.length) (data_in a t) ∙ ap refusal_of (data_counted a t)

pub text_refusal_of : (a : Target) (t : Tree) → refusal_of (text_in a t) ≡ refusal_of (text_length t)
text_refusal_of a t = counted_refusal (λ (b : ExistingBytes). b.length) (text_in a t) ∙ ap refusal_of (text_counted a t)

-- the result of writing element i of the n that a search found
reached_done : (S R : Segments) (place : PointerPlace) (t u : Tree) (i n : ℕ) (q : Result ℕ ErrorKind) → q ≡ Ok n → i < n → IsReplaced S R place.segment place.word t u → DoesAt S R place (if_reached i u q) t None
reached_done S R place t u i n q is_n l replaced = done_at u (ap (if_reached i u) is_n ∙ ap (gives None) (first i n (Ok u) (Err NoSuchPlace) l)) refl replaced

reached_past : (S : Segments) (place : PointerPlace) (t u : Tree) (i n : ℕ) (q : Result ℕ ErrorKind) → q ≡ Ok n → n ≤ i → DoesAt S S place (if_reached i u q) t (Some NoSuchPlace)
reached_past S place t u i n q is_n l = denied_at NoSuchPlace (ap (if_reached i u) is_n ∙ ap (gives None) (second i n (Ok u) (Err NoSuchPlace) l)) refl refl

reached_denied : (S : Segments) (place : PointerPlace) (t u : Tree) (i : ℕ) (k : ErrorKind) (q : Result ℕ ErrorKind) → q ≡ Err k → DoesAt S S place (if_reached i u q) t (Some k)
reached_denied S place t u i k q is_k = denied_at k (ap (if_reached i u) is_k) refl refl

-- elements that aren't structs are at least as wide as the numbers or bits that are expected
plain_wide : (expected found : ElementSize) → plain_misfit expected found ≡ None → element_bits (size_number expected) ≤ element_bits (size_number found)
plain_wide expected found e = wide (nat_le (element_bits (size_number expected)) (element_bits (size_number found))) (nat_le (pointers_per_element expected) (pointers_per_element found)) refl e
  where
    wide : (b c : Bool) → nat_le (element_bits (size_number expected)) (element_bits (size_number found)) ≡ b → cond (b && c) None (Some ExistingListValueIsIncompatibleWithExpectedType) ≡ None → element_bits (size_number expected) ≤ element_bits (size_number found)
    wide true c is e = grind (arith, nat_tests, is)
    wide false c is e = absurd (cc)

some_bits : (size : ElementSize) → 1 ≤ size_number size → size_number size ≤ 5 → (0 < element_bits (size_number size)) × (element_bits (size_number size) ≤ 64)
some_bits Void l m = absurd (omega arith)
some_bits Bit l m = (omega arith, omega arith)
some_bits Byte l m = (omega arith, omega arith)
some_bits TwoBytes l m = (omega arith, omega arith)
some_bits FourBytes l m = (omega arith, omega arith)
some_bits EightBytes l m = (omega arith, omega arith)
some_bits Pointer l m = absurd (omega arith)
some_bits InlineComposite l m = absurd (omega arith)

-- structs have data words if numbers are expected
struct_words : (size : ElementSize) (d q : ℕ) → 1 ≤ size_number size → size_number size ≤ 5 → structs_misfit size d q ≡ None → 0 < d
struct_words Void d q l m e = absurd (omega arith)
struct_words Bit d q l m e = absurd (cc)
struct_words Byte zero q l m e = absurd (cc)
struct_words TwoBytes zero q l m e = absurd (cc)
struct_words FourBytes zero q l m e = absurd (cc)
struct_words EightBytes zero q l m e = absurd (cc)
struct_words Byte (suc d) q l m e = omega arith
struct_words TwoBytes (suc d) q l m e = omega arith
struct_words FourBytes (suc d) q l m e = omega arith
struct_words EightBytes (suc d) q l m e = omega arith
struct_words Pointer d q l m e = absurd (omega arith)
struct_words InlineComposite d q l m e = absurd (omega arith)

-- the sizes of lists of numbers
record HasBits (size : ℕ) : Type 0 where
  step : step_bits (size_of size) (record { data_words = 0; pointers = 0 }) ≡ element_bits size
  number : element_bits (size_number (size_of size)) ≡ element_bits size
  sized : data_bits (size_of size) (record { data_words = 0; pointers = 0 }) ≡ element_bits size

flat_bits : (size : ℕ) → size ≤ 5 → HasBits size
flat_bits zero l = record { step = refl; number = refl; sized = refl }
flat_bits (suc zero) l = record { step = refl; number = refl; sized = refl }
flat_bits (suc (suc zero)) l = record { step = refl; number = refl; sized = refl }
flat_bits (suc (suc (suc zero))) l = record { step = refl; number = refl; sized = refl }
flat_bits (suc (suc (suc (suc zero)))) l = record { step = refl; number = refl; sized = refl }
flat_bits (suc (suc (suc (suc (suc zero))))) l = record { step = refl; number = refl; sized = refl }
flat_bits (suc (suc (suc (suc (suc (suc k)))))) l = absurd (omega arith)

-- the elements of a list that is found are at least as wide as those that are expected
pub found_wide : (S : Segments) (s p : ℕ) (size : ElementSize) (t : Tree) (l : ExistingList) → 1 ≤ size_number size → size_number size ≤ 5 → Ok (Some l) ≡ list_in (target S s p) size t → IsStored S s p t →
    element_bits (size_number size) ≤ data_bits l.size l.struct_size
found_wide S s p size Null l least most is_l stored = absurd (cc)
found_wide S s p size (Capability j) l least most is_l stored = absurd (cc)
found_wide S s p size (Struct ws ts) l least most is_l stored = absurd (cc)
found_wide S s p size (Flat z ns) l least most is_l stored =
    let (fit, same) = chosen (plain_misfit size (size_of z)) (plain_list (target S s p) (size_of z) (length ns)) l is_l in
    let m = stored.means in
    let (b, some, few, o, claim, given, costs) = m.2 in
    let bits = flat_bits z few in
    subst (λ x. element_bits (size_number size) ≤ data_bits x.size x.struct_size) (sym same) (omega (arith, plain_wide size (size_of z) fit, bits.number, bits.sized))
found_wide S s p size (Pointers ts) l least most is_l stored =
    let (fit, same) = chosen (plain_misfit size Pointer) (plain_list (target S s p) Pointer (count ts)) l is_l in
    absurd (omega (arith, plain_wide size Pointer fit, (some_bits size least most).0))
found_wide S s p size (Structs d q es) l least most is_l stored =
    let (fit, same) = chosen (structs_misfit size d q) (struct_list (target S s p) d q (element_count es)) l is_l in
    subst (λ x. element_bits (size_number size) ≤ data_bits x.size x.struct_size) (sym same) (omega (arith, struct_words size d q least most fit, (some_bits size least most).1))

-- writing the lowest bits of an element of any list that a pointer leads to
pub list_written : (S R : Segments) (s p : ℕ) (size : ElementSize) (t : Tree) (l : ExistingList) (i v : ℕ) → 1 ≤ size_number size → size_number size ≤ 5 → v < 2 ^ element_bits (size_number size) → Ok (Some l) ≡ list_in (target S s p) size t → IsStored S s p t →
    i < l.count → R ≡ with_field S l.segment (8 * (8 * l.start) + i * step_bits l.size l.struct_size) (element_bits (size_number size)) v → IsReplaced S R s p t (with_lowest i (element_bits (size_number size)) v t)
list_written S R s p size Null l i v least most small is_l stored less written = absurd (cc)
list_written S R s p size (Capability j) l i v least most small is_l stored less written = absurd (cc)
list_written S R s p size (Struct ws ts) l i v least most small is_l stored less written = absurd (cc)
list_written S R s p size (Flat z ns) l i v least most small is_l stored less written =
    let a = target S s p in
    let (fit, same) = chosen (plain_misfit size (size_of z)) (plain_list a (size_of z) (length ns)) l is_l in
    let m = stored.means in
    let (b, some, few, o, claim, given, costs) = m.2 in
    let bits = flat_bits z few in
    let wide : element_bits (size_number size) ≤ element_bits z = omega (arith, plain_wide size (size_of z) fit, bits.number) in
    let least_bits = (some_bits size least most).0 in
    let sized : 0 < z = elim_size z least_bits wide in
    flat_part_written S R s p z ns i (element_bits (size_number size)) v stored sized (subst (λ x. i < x.count) same less) wide small
    (subst (λ x. R ≡ with_field S x.segment (8 * (8 * x.start) + i * step_bits x.size x.struct_size) (element_bits (size_number size)) v) same written
    ∙ ap (λ y. with_field S a.segment y (element_bits (size_number size)) v) (let e : 8 * (8 * a.start) + i * step_bits (size_of z) (record { data_words = 0; pointers = 0 }) ≡ 64 * a.start + i * element_bits z = rw bits.step (omega arith) in e))
  where
    elim_size : (z : ℕ) → 0 < element_bits (size_number size) → element_bits (size_number size) ≤ element_bits z → 0 < z
    elim_size zero l m = absurd (omega arith)
    elim_size (suc z) l m = omega arith
list_written S R s p size (Pointers ts) l i v least most small is_l stored less written =
    let (fit, same) = chosen (plain_misfit size Pointer) (plain_list (target S s p) Pointer (count ts)) l is_l in
    absurd (omega (arith, plain_wide size Pointer fit, (some_bits size least most).0))
list_written S R s p size (Structs d q es) l i v least most small is_l stored less written =
    let a = target S s p in
    let (fit, same) = chosen (structs_misfit size d q) (struct_list a d q (element_count es)) l is_l in
    let here : i < element_count es = subst (λ x. i < x.count) same less in
    let (ws, ts, is) = element_struct es i here in
    let long = element_width_stored S s p d q es i ws ts stored here is in
    let some : 0 < 64 * length ws = omega (arith, long, struct_words size d q least most fit) in
    subst (λ u. IsReplaced S R s p (Structs d q es) (Structs d q (put_struct es i u))) (sym (ap (struct_with (field 0 (element_bits (size_number size)) v)) is))
    (element_field_written S R s p d q es i ws ts 0 (element_bits (size_number size)) v stored here is some
    (subst (λ x. R ≡ with_field S x.segment (8 * (8 * x.start) + i * step_bits x.size x.struct_size) (element_bits (size_number size)) v) same written
    ∙ ap (λ y. with_field S a.segment y (element_bits (size_number size)) v) (let e : 8 * (8 * (a.start + 1)) + i * (64 * (d + q)) ≡ 64 * (a.start + 1 + i * (d + q)) + 0 = grind arith in e)))

-- writing byte i of a list of bytes, which has that byte
byte_written : (S R : Segments) (s p : ℕ) (z : ℕ) (ns : List ℕ) (i v : ℕ) → z ≡ 2 → i < length ns → v < 256 → IsStored S s p (Flat z ns) → R ≡ with_field S (target S s p).segment (8 * (8 * (target S s p).start + i)) 8 v → IsReplaced S R s p (Flat z ns) (with_lowest i 8 v (Flat z ns))
byte_written S R s p z ns i v two l small stored written =
    let wide : element_bits z ≡ 8 = ap element_bits two in
    flat_part_written S R s p z ns i 8 v stored (omega (arith, two)) l (omega (arith, wide)) small
    (written ∙ ap (λ y. with_field S (target S s p).segment y 8 v) (let e : 8 * (8 * (target S s p).start + i) ≡ 64 * (target S s p).start + i * element_bits z = rw wide (omega arith) in e))

picked : (x : Bool) (b found : ExistingBytes) (k : ErrorKind) → ◌≡◌ {A = Result (Option ExistingBytes) ErrorKind} (Ok (Some found)) (cond x (Ok (Some b)) (Err k)) → (x ≡ true) × (found ≡ b)
picked true b found k e = (refl, cc)
picked false b found k e = absurd (cc)

picked_first : (x : Bool) (r : Result (Option ExistingBytes) ErrorKind) (found : ExistingBytes) (k : ErrorKind) → Ok (Some found) ≡ cond x r (Err k) → (x ≡ true) × (Ok (Some found) ≡ r)
picked_first true r found k e = (refl, e)
picked_first false r found k e = absurd (cc)

pub data_written_at : (S R : Segments) (s p : ℕ) (t : Tree) (b : ExistingBytes) (i v : ℕ) → Ok (Some b) ≡ data_in (target S s p) t → IsStored S s p t → i < b.length → v < 256 → R ≡ with_field S b.segment (8 * (8 * b.start + i)) 8 v → IsReplaced S R s p t (with_lowest i 8 v t)
data_written_at S R s p (Flat z ns) b i v is_b stored less small written =
    let (x, same) = picked (nat_eq z 2) (bytes_at (target S s p) (length ns)) b ExistingListPointerIsNotByteSized is_b in
    byte_written S R s p z ns i v (eqb-true z 2 x) (subst (λ y. i < y.length) same less) small stored (subst (λ y. R ≡ with_field S y.segment (8 * (8 * y.start + i)) 8 v) same written)
data_written_at S R s p Null b i v is_b stored less small written = absurd (cc)
data_written_at S R s p (Capability j) b i v is_b stored less small written = absurd (cc)
data_written_at S R s p (Struct ws ts) b i v is_b stored less small written = absurd (cc)
data_written_at S R s p (Pointers ts) b i v is_b stored less small written = absurd (cc)
data_written_at S R s p (Structs d q es) b i v is_b stored less small written = absurd (cc)

pub text_written_at : (S R : Segments) (s p : ℕ) (t : Tree) (b : ExistingBytes) (i v : ℕ) → Ok (Some b) ≡ text_in (target S s p) t → IsStored S s p t → i < b.length → v < 256 → R ≡ with_field S b.segment (8 * (8 * b.start + i)) 8 v → IsReplaced S R s p t (with_lowest i 8 v t)
text_written_at S R s p (Flat z ns) b i v is_b stored less small written =
    let (x, text) = picked_first (nat_eq z 2) (cond (ends_in_zero ns) (Ok (Some (bytes_at (target S s p) (length ns - 1)))) (Err TextBlobMissingNULTerminator)) b ExistingListPointerIsNotByteSized is_b in
    let (y, same) = picked (ends_in_zero ns) (bytes_at (target S s p) (length ns - 1)) b TextBlobMissingNULTerminator text in
    let l : i < length ns - 1 = subst (λ z. i < z.length) same less in
    byte_written S R s p z ns i v (eqb-true z 2 x) (omega (arith, l)) small stored (subst (λ z. R ≡ with_field S z.segment (8 * (8 * z.start + i)) 8 v) same written)
text_written_at S R s p Null b i v is_b stored less small written = absurd (cc)
text_written_at S R s p (Capability j) b i v is_b stored less small written = absurd (cc)
text_written_at S R s p (Struct ws ts) b i v is_b stored less small written = absurd (cc)
text_written_at S R s p (Pointers ts) b i v is_b stored less small written = absurd (cc)
text_written_at S R s p (Structs d q es) b i v is_b stored less small written = absurd (cc)

-- what writing a part leaves
pub element_does : (S R : Segments) (place : PointerPlace) (n : Number) (r : Option ErrorKind) (looked : Result (Option ExistingList) ErrorKind) → IsPlace S place.segment place.word → is_number n.size n.value ≡ true →
    ((t : Tree) → IsStored S place.segment place.word t → looked ≡ list_in (target S place.segment place.word) n.size t) → PutsElement S R looked n r → Does S R place (Write (ListElement n)) r
element_does S R place n r looked inside range is_found puts t stored = does (is_found t stored) puts
  where
    w : ℕ
    w = element_bits (size_number n.size)

    parts : (1 ≤ size_number n.size) × (size_number n.size ≤ 5) × (n.value < 2 ^ element_bits (size_number n.size))
    parts = number_parts n.size n.value range

    counted : looked ≡ list_in (target S place.segment place.word) n.size t → elements_of n.size t ≡ elements_in looked
    counted found = sym (list_counted (target S place.segment place.word) n.size t) ∙ ap elements_in (sym found)

    does : looked ≡ list_in (target S place.segment place.word) n.size t → PutsElement S R looked n r → DoesAt S R place (part_written (ListElement n) t) t r
    does found (element_put l is_l less done written) = rw done (
        reached_done S R place t (with_lowest n.index w n.value t) n.index l.count (elements_of n.size t) (counted found ∙ ap elements_in is_l) less
        (list_written S R place.segment place.word n.size t l n.index n.value parts.0 parts.1 parts.2 (sym is_l ∙ found) stored less written))
    does found (element_past l is_l past named kept) = rw (named, kept) (
        reached_past S place t (with_lowest n.index w n.value t) n.index l.count (elements_of n.size t) (counted found ∙ ap elements_in is_l)
        (past (found_inside S place.segment place.word n.size t l (there S place.segment place.word inside) stored (sym found ∙ is_l)) (found_wide S place.segment place.word n.size t l parts.0 parts.1 (sym is_l ∙ found) stored)))
    does found (no_list is_none named kept) = rw (named, kept) (
        reached_past S place t (with_lowest n.index w n.value t) n.index 0 (elements_of n.size t) (counted found ∙ ap elements_in is_none) (omega arith))
    does found (list_denied k is_k named kept) = rw (named, kept) (
        reached_denied S place t (with_lowest n.index w n.value t) n.index k (elements_of n.size t) (counted found ∙ ap elements_in is_k))

-- what a search for bytes shows, and how byte i of them is written
record Looks (look : Target → Tree → Result (Option ExistingBytes) ErrorKind) (lengths : Tree → Result ℕ ErrorKind) (i v : ℕ) : Type 0 where
  long : (a : Target) (t : Tree) → length_in (look a t) ≡ lengths t
  inside : (S : Segments) (s p : ℕ) (t : Tree) (b : ExistingBytes) → s < length S → IsStored S s p t → look (target S s p) t ≡ Ok (Some b) → AreBytesInside S b
  written : (S R : Segments) (s p : ℕ) (t : Tree) (b : ExistingBytes) → Ok (Some b) ≡ look (target S s p) t → IsStored S s p t → i < b.length → R ≡ with_field S b.segment (8 * (8 * b.start + i)) 8 v → IsReplaced S R s p t (with_lowest i 8 v t)

byte_does : (S R : Segments) (place : PointerPlace) (i v : ℕ) (look : Target → Tree → Result (Option ExistingBytes) ErrorKind) (lengths : Tree → Result ℕ ErrorKind) (r : Option ErrorKind) (looked : Result (Option ExistingBytes) ErrorKind) (t : Tree) →
    IsPlace S place.segment place.word → Looks look lengths i v → IsStored S place.segment place.word t → looked ≡ look (target S place.segment place.word) t → PutsByte S R looked (record { size = Byte; index = i; value = v }) r →
    DoesAt S R place (if_reached i (with_lowest i 8 v t) (lengths t)) t r
byte_does S R place i v look lengths r looked t inside looks stored found puts = does puts
  where
    counted : lengths t ≡ length_in looked
    counted = sym (looks.long (target S place.segment place.word) t) ∙ ap length_in (sym found)

    does : PutsByte S R looked (record { size = Byte; index = i; value = v }) r → DoesAt S R place (if_reached i (with_lowest i 8 v t) (lengths t)) t r
    does (byte_put b is_b less done written) = rw done (
        reached_done S R place t (with_lowest i 8 v t) i b.length (lengths t) (counted ∙ ap length_in is_b) less
        (looks.written S R place.segment place.word t b (sym is_b ∙ found) stored less written))
    does (byte_past b is_b past named kept) = rw (named, kept) (
        reached_past S place t (with_lowest i 8 v t) i b.length (lengths t) (counted ∙ ap length_in is_b)
        (past (looks.inside S place.segment place.word t b (there S place.segment place.word inside) stored (sym found ∙ is_b))))
    does (no_bytes_there is_none named kept) = rw (named, kept) (
        reached_past S place t (with_lowest i 8 v t) i 0 (lengths t) (counted ∙ ap length_in is_none) (omega arith))
    does (bytes_denied k is_k named kept) = rw (named, kept) (
        reached_denied S place t (with_lowest i 8 v t) i k (lengths t) (counted ∙ ap length_in is_k))

pub text_does : (S R : Segments) (place : PointerPlace) (i v : ℕ) (r : Option ErrorKind) (looked : Result (Option ExistingBytes) ErrorKind) → IsPlace S place.segment place.word → v < 256 →
    ((t : Tree) → IsStored S place.segment place.word t → looked ≡ text_in (target S place.segment place.word) t) → PutsByte S R looked (record { size = Byte; index = i; value = v }) r → Does S R place (Write (TextByte i v)) r
text_does S R place i v r looked inside small is_found puts t stored =
    byte_does S R place i v text_in text_length r looked t inside
    (record { long = text_counted; inside = text_inside; written = λ S R s p t b is_b stored less written. text_written_at S R s p t b i v is_b stored less small written }) stored (is_found t stored) puts

pub data_does : (S R : Segments) (place : PointerPlace) (i v : ℕ) (r : Option ErrorKind) (looked : Result (Option ExistingBytes) ErrorKind) → IsPlace S place.segment place.word → v < 256 →
    ((t : Tree) → IsStored S place.segment place.word t → looked ≡ data_in (target S place.segment place.word) t) → PutsByte S R looked (record { size = Byte; index = i; value = v }) r → Does S R place (Write (DataByte i v)) r
data_does S R place i v r looked inside small is_found puts t stored =
    byte_does S R place i v data_in data_length r looked t inside
    (record { long = data_counted; inside = data_inside; written = λ S R s p t b is_b stored less written. data_written_at S R s p t b i v is_b stored less small written }) stored (is_found t stored) puts

-- a search that was done and found something
pub is_found : {A : Type 0} (r : Result (Option A) ErrorKind) (o : Option A) (x : A) → r ≡ Ok o → o ≡ Some x → r ≡ Ok (Some x)
is_found r o x e f = e ∙ ap Ok f
