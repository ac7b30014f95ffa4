-- Numbers and bits of the elements of a list: which bits of their segment they are.
use Rattle.std.proofs.Common.{◌≡◌, ℕ, ◌+◌, ◌*◌, ◌/◌, ◌%◌, ◌<◌, ◌≤◌, length, refl, arith}
use Rattle.capnp_arena_traits.specs.View.{View}
use Rattle.capnp_format.specs.Segments.{Segments, segment}
use Rattle.capnp_allocation.specs.Fields.{with_field}
use Rattle.capnp_format.specs.Fields.{field_in}
use Rattle.capnp_words.specs.declared.wire_pointer.ElementSize.{ElementSize}
use Rattle.capnp_words.specs.declared.wire_pointer.ElementSize.TheVariants.{Void, Bit, Byte, TwoBytes, FourBytes, EightBytes, Pointer, InlineComposite}
use Rattle.capnp_words.specs.declared.wire_pointer.StructSize.{StructSize}
use Rattle.capnp_readers.specs.Readers.{IsListPlace}
use Rattle.capnp_readers.specs.Sections.{step_bits, data_bits}
use Rattle.capnp_readers.specs.declared.readers.list_reader.ListPlace.{ListPlace}
use Rattle.capnp_readers.proofs.Elements.{whole_step, data_among}
use Rattle.capnp_builders.proofs.FieldPlaces.{aligned_to, field_aligned}
use Rattle.capnp_builders.specs.Elements.{lowest_bits}
use Rattle.capnp_builders.specs.Places.{HasField, WritesField}

-- the bits of an element that starts at a byte
start_in_bits : (list : ListPlace) (i n : ℕ) → 0 < n → 8 * n ≤ data_bits list.size list.struct_size →
    8 * (list.byte + i * (step_bits list.size list.struct_size / 8)) ≡ 8 * list.byte + i * step_bits list.size list.struct_size
start_in_bits list i n some wide =
    let step = step_bits list.size list.struct_size in
    omega (arith, times i step (step / 8) (whole_step list.size list.struct_size (omega (arith, some, wide))))
  where
    times : (i s b : ℕ) → s ≡ 8 * b → i * s ≡ 8 * (i * b)
    times i s b e = rw e (grind arith)

-- a number that is written or read there
pub number_written : (old new : View) (list : ListPlace) (i n v : ℕ) → 0 < n → 8 * n ≤ data_bits list.size list.struct_size →
    new ≡ record old { words = with_field old.words list.segment (8 * (list.byte + i * (step_bits list.size list.struct_size / 8))) (8 * n) v } →
    WritesField old new list.segment list.byte (lowest_bits list i (8 * n) v)
number_written old new list i n v some wide written = rw (start_in_bits list i n some wide) at written

pub number_read : (view : View) (list : ListPlace) (i n v : ℕ) → 0 < n → 8 * n ≤ data_bits list.size list.struct_size →
    v ≡ field_in (segment view.words list.segment) (8 * (list.byte + i * (step_bits list.size list.struct_size / 8))) (8 * n) →
    HasField view list.segment list.byte (lowest_bits list i (8 * n) v)
number_read view list i n v some wide is = rw (start_in_bits list i n some wide) at is

-- the lowest bits of an element are inside the list's segment
pub bits_inside : (S : Segments) (list : ListPlace) (i w : ℕ) → IsListPlace S list → i < list.count → w ≤ data_bits list.size list.struct_size →
    8 * list.byte + i * step_bits list.size list.struct_size + w ≤ 64 * length (segment S list.segment)
bits_inside S list i w (there, aligned, fits) l wide = omega (arith, fits, wide, data_among list.size list.struct_size list.count i l)

-- the lowest bytes of an element are inside the list's segment
pub bytes_inside : (S : Segments) (list : ListPlace) (i n : ℕ) → IsListPlace S list → i < list.count → 0 < n → 8 * n ≤ data_bits list.size list.struct_size →
    list.byte + i * (step_bits list.size list.struct_size / 8) + n ≤ 8 * length (segment S list.segment)
bytes_inside S list i n inside l some wide = omega (arith, start_in_bits list i n some wide, bits_inside S list i (8 * n) inside l wide)

-- a position k times m bytes after a word is a multiple of n
behind_word : (b k m n : ℕ) → 0 < n → n ≤ m → m ≤ 8 → 8 % n ≡ 0 → 8 % m ≡ 0 → b % 8 ≡ 0 → (b + k * m) % n ≡ 0
behind_word b k m n some l small e f g =
    let positive : 0 < m = omega (arith, some, l) in
    aligned_to (b + k * m) n m some l small e f (field_aligned b k m positive small f (aligned_to b m 8 positive small (omega arith) f refl g))

-- the bytes of an element start at a multiple of n, if it has n bytes
of_size : (size : ElementSize) (sections : StructSize) (b i n : ℕ) → 0 < n → n ≤ 8 → 8 % n ≡ 0 → b % 8 ≡ 0 → 8 * n ≤ data_bits size sections → (b + i * (step_bits size sections / 8)) % n ≡ 0
of_size Void sections b i n some small e g wide = absurd (omega arith)
of_size Bit sections b i n some small e g wide = absurd (omega arith)
of_size Byte sections b i n some small e g wide = behind_word b i 1 n some (omega arith) (omega arith) e refl g
of_size TwoBytes sections b i n some small e g wide = behind_word b i 2 n some (omega arith) (omega arith) e refl g
of_size FourBytes sections b i n some small e g wide = behind_word b i 4 n some (omega arith) (omega arith) e refl g
of_size EightBytes sections b i n some small e g wide = behind_word b i 8 n some (omega arith) (omega arith) e refl g
of_size Pointer sections b i n some small e g wide = absurd (omega arith)
of_size InlineComposite sections b i n some small e g wide =
    let w = sections.data_words + sections.pointers in
    rw (bytes i w) (behind_word b (i * w) 8 n some small (omega arith) e refl g)
  where
    bytes : (i w : ℕ) → i * (64 * w / 8) ≡ i * w * 8
    bytes i w = (let h : 64 * w / 8 ≡ 8 * w = omega arith in rw h (grind arith))

pub number_aligned : (S : Segments) (list : ListPlace) (i n : ℕ) → IsListPlace S list → 0 < n → n ≤ 8 → 8 % n ≡ 0 → 8 * n ≤ data_bits list.size list.struct_size →
    (list.byte + i * (step_bits list.size list.struct_size / 8)) % n ≡ 0
number_aligned S list i n (there, aligned, fits) some small e wide = of_size list.size list.struct_size list.byte i n some small e aligned wide
