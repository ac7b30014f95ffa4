-- The numbers of a list that a reader shows.
use Rattle.std.proofs.Common.{◌≡◌, ◌≢◌, inl, inr, ◌↔◌, ℕ, zero, suc, ◌+◌, ◌-◌, ◌*◌, ◌/◌, ◌%◌, ◌^◌, ◌<◌, ◌≤◌, min, Bool, true, false, nat_eq, cond, eqb-true, eq-eqb, List, [], ◌∷◌, length, take, drop, get_or, refl, sym, ap, ap₂, ◌∙◌, arith, length-take, length-drop, drop-cons}
use Rattle.std.proofs.lemmas.Bool.{le-leb, lt-leb}
use Rattle.std.proofs.lemmas.List.{get_or-take, get_or-drop, take-take}
use Rattle.std.specs.Prelude.{IsTrue}
use Rattle.std.specs.Int.{bit_at as bit_of}
use Rattle.std.proofs.lemmas.Nat.{shr-shr}
use Rattle.capnp_words.specs.Sizes.{size_number}
use Rattle.capnp_words.specs.declared.wire_pointer.ElementSize.{ElementSize}
use Rattle.capnp_words.specs.declared.wire_pointer.ElementSize.TheVariants.{Void, Bit, Byte, TwoBytes, FourBytes, EightBytes, Pointer, InlineComposite}
use Rattle.capnp_words.specs.declared.wire_pointer.StructSize.{StructSize}
use Rattle.capnp_arena_traits.specs.declared.arena.reader_arena.ReaderArena.{Ghosts}
use Rattle.capnp_format.specs.Bytes.{words_of}
use Rattle.capnp_format.specs.Means.{MeansElements}
use Rattle.capnp_format.specs.Segments.{segment}
use Rattle.capnp_format.specs.Numbers.{from_digits, element_bits}
use Rattle.capnp_format.specs.Tree.{Tree, Null, Capability, Struct, Flat, Pointers, Structs, Elements, element_count}
use Rattle.capnp_format.specs.Value.{AreBelow}
use Rattle.capnp_format.proofs.Bounds.{below_each, below_take}
use Rattle.capnp_format.proofs.BytesLemmas.{words_are_bytes}
use Rattle.capnp_format.proofs.LawLemmas.{element_is_bits}
use Rattle.capnp_format.proofs.Lies.{pow_pow}
use Rattle.capnp_format.proofs.FieldBytes.{cut, below_drop}
use Rattle.capnp_pointers.proofs.Decided.{within_or_not}
use Rattle.capnp_readers.proofs.Elements.{bit_within, whole_step}
use Rattle.capnp_format.proofs.WordsOf.{words, words_of-part}
use Rattle.capnp_format.specs.Path.{struct_at}
use Rattle.capnp_words.specs.Sizes.{sized}
use Rattle.capnp_readers.specs.Sections.{IsInside, bit_at, bytes_for, data_bits, elements_words, low_data, step_bits}
use Rattle.capnp_readers.specs.Readers.{ShowsElement}
use Rattle.capnp_readers.specs.Values.{element_number, first_element, field_of_number, struct_data, ShowsListOf, ShowsNumber}
use Rattle.capnp_readers.specs.declared.readers.struct_reader.StructReader.{StructReader}
use Rattle.capnp_readers.specs.declared.readers.list_reader.ListReader.{ListReader}
use Rattle.capnp_format.proofs.FieldBytes.{part_of_digits, byte_as_digit, bit_at-mod}
use Rattle.capnp_readers.proofs.ListValues.{element_there}
use Rattle.capnp_readers.proofs.Sections.{words_within}

-- element i of w bits, which are n bytes from byte b on
part_at : (w i b n m : ℕ) (bytes : List ℕ) → m ≡ n → 8 * b ≡ w * i → 8 * n ≡ w → AreBelow 256 bytes → b + n ≤ length bytes → from_digits 256 (take m (drop b bytes)) ≡ from_digits 256 bytes / 2 ^ (w * i) % 2 ^ w
part_at w i b n m bytes e at wide small l =
    ap (λ j. from_digits 256 (take j (drop b bytes))) e ∙ part_of_digits b n bytes small l ∙ ap₂ (λ x y. from_digits 256 bytes / 2 ^ x % 2 ^ y) at wide

-- bit i
pub bit_in : (i : ℕ) (bytes : List ℕ) → AreBelow 256 bytes → i / 8 < length bytes → get_or bytes (i / 8) 0 / 2 ^ (i % 8) % 2 ≡ from_digits 256 bytes / 2 ^ (1 * i) % 2 ^ 1
bit_in i bytes small l =
    let x : ℕ = from_digits 256 bytes in
    let byte : get_or bytes (i / 8) 0 ≡ x / 2 ^ (8 * (i / 8)) % 2 ^ 8 = byte_as_digit (i / 8) bytes l ∙ part_of_digits (i / 8) 1 bytes small (omega arith) in
    ap (λ z. bit_of z (i % 8)) byte
    ∙ bit_at-mod (x / 2 ^ (8 * (i / 8))) 8 (i % 8) (omega arith)
    ∙ ap (λ z. z % 2) (shr-shr x (8 * (i / 8)) (i % 8))
    ∙ ap (λ e. x / 2 ^ e % 2) (let e : 8 * (i / 8) + i % 8 ≡ 1 * i = omega arith in e)

number_in : (size : ElementSize) (sections : StructSize) (i n width : ℕ) (bytes : List ℕ) → i < n → size_number size ≤ 5 → AreBelow 256 bytes → length bytes ≡ bytes_for (64 * elements_words size n width) →
    low_data size sections bytes i ≡ from_digits 256 bytes / 2 ^ (element_bits (size_number size) * i) % 2 ^ element_bits (size_number size)
number_in Void sections i n width bytes l flat small long = part_at 0 i (i * 0 / 8) 0 _ bytes (omega arith) (omega arith) refl small (omega (arith, long))
number_in Bit sections i n width bytes l flat small long = bit_in i bytes small (omega (arith, long))
number_in Byte sections i n width bytes l flat small long = part_at 8 i (i * 8 / 8) 1 _ bytes (omega arith) (omega arith) refl small (omega (arith, long))
number_in TwoBytes sections i n width bytes l flat small long = part_at 16 i (i * 16 / 8) 2 _ bytes (omega arith) (omega arith) refl small (omega (arith, long))
number_in FourBytes sections i n width bytes l flat small long = part_at 32 i (i * 32 / 8) 4 _ bytes (omega arith) (omega arith) refl small (omega (arith, long))
number_in EightBytes sections i n width bytes l flat small long = part_at 64 i (i * 64 / 8) 8 _ bytes (omega arith) (omega arith) refl small (omega (arith, long))
number_in Pointer sections i n width bytes l flat small long = absurd (omega (arith, flat))
number_in InlineComposite sections i n width bytes l flat small long = absurd (omega (arith, flat))

-- word j of bytes, as a number
word_of_bytes : (j : ℕ) (bs : List ℕ) → 8 * j + 8 ≤ length bs → from_digits 256 (take 8 (drop (8 * j) bs)) ≡ get_or (words_of bs) j 0
word_of_bytes j bs l =
    let one : take 1 (drop j (words_of bs)) ≡ get_or (words_of bs) j 0 ∷ [] = ap (take 1) (drop-cons (words_of bs) j 0 (omega (arith, l, words bs))) in
    sym (words_are_bytes 1 (take 8 (drop (8 * j) bs)) (omega (arith, length-take 8 (drop (8 * j) bs), length-drop (8 * j) bs)))
    ∙ ap (from_digits (2 ^ 64)) (words_of-part j 1 (8 * j) 8 bs refl refl (omega arith) ∙ one)
    ∙ omega arith

-- the first data word of element i of structs, whose words are ws
first_data : (d q i : ℕ) (bs ws : List ℕ) → length ws ≡ d → (0 < d → (8 * (i * (d + q)) + 8 ≤ length bs) × (get_or (words_of bs) (i * (d + q)) 0 ≡ get_or ws 0 0)) → low_data InlineComposite (sized d q) bs i ≡ get_or ws 0 0
first_data zero q i bs [] e h =
    ap (λ n. from_digits 256 (take n (drop (i * (64 * (0 + q)) / 8) bs))) (let n : i * (64 * (0 + q)) / 8 + 0 - i * (64 * (0 + q)) / 8 ≡ 0 = omega arith in n)
first_data zero q i bs (w ∷ ws) e h = absurd (omega arith)
first_data (suc d) q i bs ws e h =
    let width : ℕ = suc d + q in
    let at : i * (64 * width) / 8 ≡ 8 * (i * width) = (let whole : i * (64 * width) ≡ 64 * (i * width) = grind arith in omega (arith, whole)) in
    let n : i * (64 * width) / 8 + min 64 (64 * suc d) / 8 - i * (64 * width) / 8 ≡ 8 = omega arith in
    let there = h (omega arith) in
    ap₂ (λ a m. from_digits 256 (take m (drop a bs))) at n ∙ word_of_bytes (i * width) bs there.0 ∙ there.1

-- the lowest n of m bytes from byte b on
low_bytes : (b n m : ℕ) (bs : List ℕ) → n ≤ m → AreBelow 256 bs → b + n ≤ length bs → from_digits 256 (take n (drop b bs)) ≡ from_digits 256 (take m (drop b bs)) % 2 ^ (8 * n)
low_bytes b n m bs le small l =
    let ds : List ℕ = take m (drop b bs) in
    ap (from_digits 256) (sym (take-take n m (drop b bs) le))
    ∙ sym (cut 256 n ds (below_take 256 m (drop b bs) (below_drop 256 b bs small)) (omega (arith, le, l, length-take m (drop b bs), length-drop b bs))).first
    ∙ ap (λ p. from_digits 256 ds % p) (pow_pow 8 n)

-- The n bytes from the start of element i on are the lowest of its data.
abbrev IsLow : ElementSize → StructSize → ℕ → ℕ → List ℕ → Type 0
IsLow size sections i n bs = from_digits 256 (take (i * step_bits size sections / 8 + n - i * step_bits size sections / 8) (drop (i * step_bits size sections / 8) bs)) ≡ low_data size sections bs i % 2 ^ (8 * n)

low_at : (b n m : ℕ) (bs : List ℕ) → n ≤ m → AreBelow 256 bs → b + n ≤ length bs → from_digits 256 (take (b + n - b) (drop b bs)) ≡ from_digits 256 (take (b + m - b) (drop b bs)) % 2 ^ (8 * n)
low_at b n m bs le small l = ap (λ k. from_digits 256 (take k (drop b bs))) (let e : b + n - b ≡ n = omega arith in e) ∙ low_bytes b n (b + m - b) bs (omega (arith, le)) small l

low_part : (size : ElementSize) (sections : StructSize) (i n : ℕ) (bs : List ℕ) → 0 < n → n ≤ 8 → 8 * n ≤ data_bits size sections → AreBelow 256 bs → i * step_bits size sections / 8 + n ≤ length bs → IsLow size sections i n bs
low_part InlineComposite sections i n bs some few wide small l = low_at (i * (64 * (sections.data_words + sections.pointers)) / 8) n (min 64 (64 * sections.data_words) / 8) bs (omega (arith, few, wide)) small l
low_part Byte sections i n bs some few wide small l = low_at (i * 8 / 8) n 1 bs (omega (arith, wide)) small l
low_part TwoBytes sections i n bs some few wide small l = low_at (i * 16 / 8) n 2 bs (omega (arith, wide)) small l
low_part FourBytes sections i n bs some few wide small l = low_at (i * 32 / 8) n 4 bs (omega (arith, wide)) small l
low_part EightBytes sections i n bs some few wide small l = low_at (i * 64 / 8) n 8 bs (omega (arith, wide)) small l
low_part Void sections i n bs some few wide small l = absurd (omega (arith, wide, some))
low_part Bit sections i n bs some few wide small l = absurd (omega (arith, wide, some))
low_part Pointer sections i n bs some few wide small l = absurd (omega (arith, wide, some))

-- the lowest bit of element i
first_bit : (size : ElementSize) (sections : StructSize) (i : ℕ) (bs : List ℕ) → 8 ≤ data_bits size sections → AreBelow 256 bs → i * step_bits size sections / 8 < length bs → bit_at bs (i * step_bits size sections) ≡ low_data size sections bs i % 2
first_bit size sections i bs wide small l =
    let b : ℕ = step_bits size sections / 8 in
    let starts : i * step_bits size sections ≡ 8 * (i * b) = rw (whole_step size sections wide) (grind arith) in
    let at : ℕ = i * step_bits size sections / 8 in
    let low : IsLow size sections i 1 bs = low_part size sections i 1 bs (omega arith) (omega arith) wide small (omega arith) in
    let byte : get_or bs at 0 ≡ low_data size sections bs i % 2 ^ 8 = byte_as_digit at bs l ∙ ap (λ k. from_digits 256 (take k (drop at bs))) (let e : 1 ≡ at + 1 - at = omega arith in e) ∙ low in
    let none : i * step_bits size sections % 8 ≡ 0 = omega (arith, starts) in
    ap (λ k. get_or bs at 0 / 2 ^ k % 2) none ∙ ap (λ x. x / 1 % 2) byte ∙ omega arith

low_bit : (size : ElementSize) (sections : StructSize) (i : ℕ) (bs : List ℕ) → 1 ≤ data_bits size sections → AreBelow 256 bs → i * step_bits size sections / 8 < length bs → bit_at bs (i * step_bits size sections) ≡ low_data size sections bs i % 2
low_bit Bit sections i bs wide small l = ap (bit_at bs) (let e : i * 1 ≡ i = omega arith in e) ∙ omega arith
low_bit InlineComposite sections i bs wide small l = first_bit InlineComposite sections i bs (omega (arith, wide)) small l
low_bit Byte sections i bs wide small l = first_bit Byte sections i bs (omega arith) small l
low_bit TwoBytes sections i bs wide small l = first_bit TwoBytes sections i bs (omega arith) small l
low_bit FourBytes sections i bs wide small l = first_bit FourBytes sections i bs (omega arith) small l
low_bit EightBytes sections i bs wide small l = first_bit EightBytes sections i bs (omega arith) small l
low_bit Void sections i bs wide small l = absurd (omega (arith, wide))
low_bit Pointer sections i bs wide small l = absurd (omega (arith, wide))

alone : (w n i : ℕ) (bs : List ℕ) → n ≡ w / 8 → w ≡ 8 * n → from_digits 256 (take (i * n + n - i * n) (drop (i * n) bs)) ≡ from_digits 256 (take (i * w / 8 + n - i * w / 8) (drop (i * w / 8) bs))
alone w n i bs e f = let bits : i * w ≡ 8 * (i * n) = rw f (grind arith) in let at : i * w / 8 ≡ i * n = omega (arith, bits) in ap (λ a. from_digits 256 (take (a + n - a) (drop a bs))) (sym at)

as_number : (b : Bool) (x : ℕ) → b ≡ nat_eq (x % 2) 1 → cond b 1 0 ≡ x % 2
as_number true x e = sym (eqb-true (x % 2) 1 (sym e))
as_number false x e = let zero : x % 2 ≡ 1 → ⊥ = λ one. absurd (let yes = eq-eqb (x % 2) 1 one in cc (e, yes)) in omega (arith, zero)

-- the w bits of a number that are inside, and those that aren't
inside_field : (bits x b w : ℕ) → b + w ≤ bits → field_of_number bits x b w ≡ x / 2 ^ b % 2 ^ w
inside_field bits x b w l = ap (λ (c : Bool). cond c (x / 2 ^ b % 2 ^ w) 0) (le-leb (b + w) bits l)

no_field : (bits x b w : ℕ) → bits < b + w → field_of_number bits x b w ≡ 0
no_field bits x b w l = ap (λ (c : Bool). cond c (x / 2 ^ b % 2 ^ w) 0) (lt-leb (b + w) bits l)

module _ {A : Type 0} (g : Ghosts A) where
  -- the words of the elements of structs
  word_of_structs : (r : ListReader A g) (j : ℕ) → r.element_size ≡ InlineComposite → j < r.count * (r.struct_size.data_words + r.struct_size.pointers) →
      (8 * j + 8 ≤ length r.content.now) × (get_or (words_of r.content.now) j 0 ≡ get_or (segment (first_element g r).segments r.start.segment) (r.start.at + j) 0)
  word_of_structs r j size l =
      let n : ℕ = r.count * (r.struct_size.data_words + r.struct_size.pointers) in
      let all : elements_words r.element_size r.count (r.struct_size.data_words + r.struct_size.pointers) ≡ n = ap (λ s. elements_words s r.count (r.struct_size.data_words + r.struct_size.pointers)) size in
      let bs : List ℕ = r.start.bytes.now in
      let part : r.content.now ≡ take (bytes_for (64 * n)) (drop (8 * r.start.at) bs) = r.content_is.0 ∙ ap (λ m. take (bytes_for (64 * m)) (drop (8 * r.start.at) bs)) all in (
        omega (arith, r.content_is.1, all, l),
        ap (λ xs. get_or (words_of xs) j 0) part
            ∙ ap (λ ws. get_or ws j 0) (words_of-part r.start.at n (8 * r.start.at) (bytes_for (64 * n)) bs refl (omega arith) (omega (arith, r.inside, all, r.held.1)))
            ∙ get_or-take n (drop r.start.at (words_of bs)) j 0 l
            ∙ get_or-drop r.start.at (words_of bs) j 0
            ∙ ap (λ ws. get_or ws (r.start.at + j) 0) r.held.0,
      )

  struct_number : (r : ListReader A g) (i d q : ℕ) (es : Elements) (k : ℕ) → i < r.count → r.element_size ≡ InlineComposite → r.struct_size ≡ sized d q → r.count ≡ element_count es →
      MeansElements (first_element g r).segments (first_element g r).levels (first_element g r).segment (first_element g r).at d q es k → low_data InlineComposite r.struct_size r.content.now i ≡ get_or (struct_data (struct_at es i)) 0 0
  struct_number r i d q es k inside size sections counts all =
      let x = first_element g r in
      let e = element_there x d q es k i (omega (arith, inside, counts)) all in
      let w : ℕ = r.struct_size.data_words + r.struct_size.pointers in
      let width : w ≡ d + q = ap (λ (s : StructSize). s.data_words + s.pointers) sections in
      ap (λ s. low_data InlineComposite s r.content.now i) sections
      ∙ first_data d q i r.content.now e.words e.long (λ some.
      let there = word_of_structs r (i * w) size (omega (arith, words_within w r.count i inside, width, some)) in
      let at : i * w ≡ i * (d + q) = ap (λ y. i * y) width in
      let first : get_or e.words 0 0 ≡ get_or (segment x.segments x.segment) (x.at + i * (d + q)) 0 =
      ap (λ ws. get_or ws 0 0) (sym e.has) ∙ get_or-take (length e.words) (drop (x.at + i * (d + q)) (segment x.segments x.segment)) 0 0 (omega (arith, e.long, some)) ∙ get_or-drop (x.at + i * (d + q)) (segment x.segments x.segment) 0 0 ∙ ap (λ j. get_or (segment x.segments x.segment) j 0) (omega arith) in
      (omega (arith, there.0, at), ap (λ j. get_or (words_of r.content.now) j 0) (sym at) ∙ there.1 ∙ ap (λ j. get_or (segment x.segments x.segment) (x.at + j) 0) at ∙ sym first))
      ∙ ap (λ t. get_or (struct_data t) 0 0) (sym e.is)

  -- a pointer has no data
  pointer_number : (sections : StructSize) (bs : List ℕ) (i : ℕ) → low_data Pointer sections bs i ≡ 0
  pointer_number sections bs i = ap (λ n. from_digits 256 (take n (drop (i * 64 / 8) bs))) (let n : i * 64 / 8 + 0 - i * 64 / 8 ≡ 0 = omega arith in n)

  pub number_value : (r : ListReader A g) (i : ℕ) {x : ℕ} → i < r.count → ((j : ℕ) → get_or r.content.now j 0 < 256) → x ≡ low_data r.element_size r.struct_size r.content.now i →
      (t : Tree) → ShowsListOf g r t → x ≡ element_number t i
  number_value r i inside small is Null shows = (let none = shows.shown.0 in absurd (omega (arith, inside, none)))
  number_value r i inside small is (Flat size ns) shows =
      let (of_size, counts, numbers, cost, flat) = shows.shown in
      let width : ℕ = r.struct_size.data_words + r.struct_size.pointers in
      let long : length r.content.now ≡ 8 * elements_words r.element_size r.count width = omega (arith, r.content_is.1) in
      let number : from_digits 256 r.content.now ≡ from_digits (2 ^ 64) (words_of r.content.now) = sym (words_are_bytes (elements_words r.element_size r.count width) r.content.now long) in
      is
      ∙ number_in r.element_size r.struct_size i r.count width r.content.now inside (omega (arith, flat, of_size)) (below_each 256 r.content.now small) r.content_is.1
      ∙ ap₂ (λ y e. y / 2 ^ (element_bits e * i) % 2 ^ element_bits e) number of_size
      ∙ sym (element_is_bits size (length ns) i (words_of r.content.now) (omega (arith, inside, counts)))
      ∙ ap (λ xs. get_or xs i 0) (sym numbers)
  number_value r i inside small is (Pointers ts) shows = is ∙ ap (λ s. low_data s r.struct_size r.content.now i) shows.shown.0 ∙ pointer_number r.struct_size r.content.now i
  number_value r i inside small is (Structs d q es) shows =
      let (size, sections, counts, all) = shows.shown in
      is ∙ ap (λ s. low_data s r.struct_size r.content.now i) size ∙ struct_number r i d q es shows.cost inside size sections counts all
  number_value r i inside small is (Capability j) shows = absurd shows.shown
  number_value r i inside small is (Struct ws ts) shows = absurd shows.shown

  pub low_number : (r : ListReader A g) (i n : ℕ) {x : ℕ} → i < r.count → 0 < n → n ≤ 8 → 8 * n ≤ data_bits r.element_size r.struct_size → ((j : ℕ) → get_or r.content.now j 0 < 256) → i * step_bits r.element_size r.struct_size / 8 + n ≤ length r.content.now →
      x ≡ from_digits 256 (take (i * step_bits r.element_size r.struct_size / 8 + n - i * step_bits r.element_size r.struct_size / 8) (drop (i * step_bits r.element_size r.struct_size / 8) r.content.now)) → (t : Tree) → ShowsListOf g r t → x ≡ element_number t i % 2 ^ (8 * n)
  low_number r i n inside some few wide small l is t shows =
      is ∙ low_part r.element_size r.struct_size i n r.content.now some few wide (below_each 256 r.content.now small) l ∙ ap (λ y. y % 2 ^ (8 * n)) (number_value r i inside small refl t shows)

  pub bit_number : (r : ListReader A g) (i : ℕ) (b : Bool) → i < r.count → 1 ≤ data_bits r.element_size r.struct_size → ((j : ℕ) → get_or r.content.now j 0 < 256) → b ≡ nat_eq (bit_at r.content.now (i * step_bits r.element_size r.struct_size)) 1 →
      (t : Tree) → ShowsListOf g r t → cond b 1 0 ≡ element_number t i % 2
  bit_number r i b inside wide small is t shows =
      let bit : bit_at r.content.now (i * step_bits r.element_size r.struct_size) ≡ element_number t i % 2 =
      low_bit r.element_size r.struct_size i r.content.now wide (below_each 256 r.content.now small) (bit_within g r inside wide refl) ∙ ap (λ y. y % 2) (number_value r i inside small refl t shows) in
      as_number b (element_number t i) (is ∙ ap (λ y. nat_eq y 1) bit)

  -- a number of a list, as a struct
  number_alone : (size : ElementSize) (sections : StructSize) (i : ℕ) (bs : List ℕ) → size_number size ≤ 5 → size_number size ≢ 1 →
      from_digits 256 (take (i * (element_bits (size_number size) / 8) + element_bits (size_number size) / 8 - i * (element_bits (size_number size) / 8)) (drop (i * (element_bits (size_number size) / 8)) bs)) ≡ low_data size sections bs i
  number_alone Void sections i bs flat whole = alone 0 0 i bs refl refl
  number_alone Byte sections i bs flat whole = alone 8 1 i bs refl refl
  number_alone TwoBytes sections i bs flat whole = alone 16 2 i bs refl refl
  number_alone FourBytes sections i bs flat whole = alone 32 4 i bs refl refl
  number_alone EightBytes sections i bs flat whole = alone 64 8 i bs refl refl
  number_alone Bit sections i bs flat whole = absurd (whole refl)
  number_alone Pointer sections i bs flat whole = absurd (omega (arith, flat))
  number_alone InlineComposite sections i bs flat whole = absurd (omega (arith, flat))

  shows_number : (size : ElementSize) (list : ListReader A g) (i : ℕ) (r : StructReader A g) → size_number size ≤ 5 → ShowsElement g size list i r →
      (r.bits ≡ element_bits (size_number size)) × (r.content.now ≡ take (i * (r.bits / 8) + r.bits / 8 - i * (r.bits / 8)) (drop (i * (r.bits / 8)) list.content.now)) × (r.pointer_count ≡ 0)
  shows_number Void list i r flat (bits, byte, content, none) = (bits, content, none)
  shows_number Bit list i r flat (bits, byte, content, none) = (bits, content, none)
  shows_number Byte list i r flat (bits, byte, content, none) = (bits, content, none)
  shows_number TwoBytes list i r flat (bits, byte, content, none) = (bits, content, none)
  shows_number FourBytes list i r flat (bits, byte, content, none) = (bits, content, none)
  shows_number EightBytes list i r flat (bits, byte, content, none) = (bits, content, none)
  shows_number Pointer list i r flat shows = absurd (omega (arith, flat))
  shows_number InlineComposite list i r flat shows = absurd (omega (arith, flat))

  pub element_alone : (list : ListReader A g) (i : ℕ) (r : StructReader A g) → i < list.count → size_number list.element_size ≢ 1 → ((j : ℕ) → get_or list.content.now j 0 < 256) → ShowsElement g list.element_size list i r →
      (size : ℕ) (ns : List ℕ) → ShowsListOf g list (Flat size ns) → ShowsNumber g r (element_bits size) (get_or ns i 0)
  element_alone list i r inside whole small shows size ns is =
      let flat : size_number list.element_size ≤ 5 = omega (arith, is.shown.0, is.shown.4) in
      let (bits, content, none) = shows_number list.element_size list i r flat shows in
      record {
        bits_are = bits ∙ ap element_bits is.shown.0;
        number_is =
            ap (from_digits 256) (content ∙ ap (λ b. take (i * (b / 8) + b / 8 - i * (b / 8)) (drop (i * (b / 8)) list.content.now)) bits)
            ∙ number_alone list.element_size list.struct_size i list.content.now flat whole
            ∙ number_value list i inside small refl (Flat size ns) is;
        no_pointers = none;
      }

  -- fields of a number
  pub field_alone : (n k : ℕ) {x : ℕ} (r : StructReader A g) → 0 < n → ((i : ℕ) → get_or r.content.now i 0 < 256) → (IsInside r.bits (8 * n) k → x ≡ from_digits 256 (take (k * n + n - k * n) (drop (k * n) r.content.now))) → ((IsInside r.bits (8 * n) k → ⊥) → x ≡ 0) →
      (bits y : ℕ) → ShowsNumber g r bits y → x ≡ field_of_number bits y (8 * n * k) (8 * n)
  field_alone n k r some small inside outside bits y shows = elim (within_or_not ((k + 1) * (8 * n)) r.bits) [
    | inl within ↦ (
        let fits : 8 * n * k + 8 * n ≤ bits = omega (arith, within, shows.bits_are) in
        inside within
        ∙ ap (λ m. from_digits 256 (take m (drop (k * n) r.content.now))) (let e : k * n + n - k * n ≡ n = omega arith in e)
        ∙ part_of_digits (k * n) n r.content.now (below_each 256 r.content.now small) (omega (arith, within, r.content_is.1))
        ∙ ap₂ (λ z p. z / 2 ^ p % 2 ^ (8 * n)) shows.number_is (let e : 8 * (k * n) ≡ 8 * n * k = omega arith in e)
        ∙ sym (inside_field bits y (8 * n * k) (8 * n) fits))
    | inr past ↦ outside (λ within. omega (arith, within, past)) ∙ sym (no_field bits y (8 * n * k) (8 * n) (omega (arith, past, shows.bits_are)))
  ]

  pub bit_alone : (b : ℕ) {x : Bool} (r : StructReader A g) → ((i : ℕ) → get_or r.content.now i 0 < 256) → (IsTrue x ↔ (b < r.bits) × (bit_at r.content.now b ≡ 1)) → (bits y : ℕ) → ShowsNumber g r bits y → IsTrue x ↔ (field_of_number bits y b 1 ≡ 1)
  bit_alone b {x} r small is bits y shows =
      let there : b < r.bits → bit_at r.content.now b ≡ field_of_number bits y b 1 = λ within.
      bit_in b r.content.now (below_each 256 r.content.now small) (omega (arith, within, r.content_is.1))
      ∙ ap₂ (λ z p. z / 2 ^ p % 2 ^ 1) shows.number_is (let e : 1 * b ≡ b = omega arith in e)
      ∙ sym (inside_field bits y b 1 (omega (arith, within, shows.bits_are))) in (
        (λ yes. sym (there (is.0 yes).0) ∙ (is.0 yes).1),
        (λ one. elim (within_or_not r.bits b) [
          | inl past ↦ absurd (let none = no_field bits y b 1 (omega (arith, past, shows.bits_are)) in omega (arith, one, none))
          | inr within ↦ is.1 (within, there within ∙ one)
        ]),
      )
