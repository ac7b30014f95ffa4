-- An element of a list that was found means an element of its value.
use Rattle.std.proofs.Common.{◌≡◌, ◌≢◌, ℕ, zero, suc, ◌+◌, ◌-◌, ◌*◌, ◌/◌, ◌%◌, ◌^◌, ◌<◌, ◌≤◌, List, [], length, take, drop, get_or, refl, sym, ap, ap₂, ◌∙◌, subst, arith, length-take, length-drop, drop-drop}
use Rattle.std.proofs.lemmas.List.{drop-take, take-take}
use Rattle.std.specs.Borrow.{Bor}
use Rattle.capnp_format.specs.Bytes.{words_of}
use Rattle.capnp_format.specs.Numbers.{element_bits, from_digits, words_for}
use Rattle.capnp_format.specs.Segments.{Segments, segment, words_at}
use Rattle.capnp_format.specs.Tree.{Tree, Null, Capability, Struct, Flat, Pointers, Structs, element_count}
use Rattle.capnp_format.proofs.Bounds.{below_each}
use Rattle.capnp_format.proofs.BytesLemmas.{words_are_bytes}
use Rattle.capnp_format.proofs.FieldBytes.{part_of_digits}
use Rattle.capnp_format.proofs.LawLemmas.{element_is_bits}
use Rattle.capnp_format.proofs.WordsOf.{words_of-part}
use Rattle.capnp_pointers.specs.Reading.{Reading}
use Rattle.capnp_readers.specs.Values.{HasStructs, struct_element, tree_cost}
use Rattle.capnp_readers.proofs.ListValues.{ElementThere, element_there}
use Rattle.capnp_readers.proofs.NumberValues.{bit_in}
use Rattle.capnp_readers.proofs.Sections.{words_within}
use Rattle.capnp_readers.proofs.Values.{tree_means}
use Rattle.capnp_layout_c.specs.Found.{IsElementOf, IsFoundList, IsFoundStruct, element_byte}
use Rattle.capnp_layout_c.specs.Lent.{lent, lent_pointer}
use Rattle.capnp_layout_c.specs.declared.found.FoundList.{FoundList}
use Rattle.capnp_layout_c.specs.declared.found.FoundStruct.{FoundStruct}

-- words inside of words that are inside of others
words_inside : (n a d p : ℕ) (ws : List ℕ) → a + d ≤ n → take d (drop a (take n (drop p ws))) ≡ take d (drop (p + a) ws)
words_inside n a d p ws l =
    let e : a + (n - a) ≡ n = omega arith in
    ap (λ m. take d (drop a (take m (drop p ws)))) (sym e) ∙ ap (take d) (drop-take a (n - a) (drop p ws)) ∙ take-take d (n - a) (drop a (drop p ws)) (omega arith) ∙ ap (take d) (drop-drop a p ws)

-- where element i of n elements of d data words and q pointers is
starts_at : (l : FoundList) (d q i : ℕ) → l.data_bits ≡ 64 * d → l.pointers ≡ q → (element_byte l i ≡ 8 * (i * (d + q))) × (l.data_bits / 8 ≡ 8 * d)
starts_at l d q i bits many =
    let bytes : l.data_bits / 8 ≡ 8 * d = omega (arith, bits) in
    let wide : l.data_bits / 8 + 8 * l.pointers ≡ 8 * (d + q) = omega (arith, bytes, many) in
    let start : i * (8 * (d + q)) ≡ 8 * (i * (d + q)) = grind arith in
    (ap (λ z. i * z) wide ∙ start, bytes)

pub element_found : (list : List (Bor (List ℕ))) (l : FoundList) (s : FoundStruct) (t : Tree) (k i : ℕ) → IsFoundList (lent list) l t k → HasStructs t → i < l.count → IsElementOf l i s →
    (c : ℕ) × IsFoundStruct (lent list) s (struct_element t i) c
element_found list l s Null k i found are inside e = absurd (omega (arith, inside, found.0))
element_found list l s (Pointers ts) k i found are inside e =
    let r : Reading = lent_pointer list l.segment l.at l.nesting in
    let there = tree_means ts r k i (omega (arith, inside, found.2)) found.3 in
    let at = starts_at l 0 1 i found.0 found.1 in
    let start : s.pointers_at ≡ l.at + i = omega (arith, e.start_is, at.0, at.1) in
    let none : s.data.now ≡ [] = e.data_is ∙ ap (λ n. take n (drop (element_byte l i) l.data.now)) at.1 in
    let cost : ℕ = tree_cost r ts k found.3 i in (
      cost,
      record {
        is_struct = tt;
        size_is = ap length none;
        words_are = ap words_of none;
        pointers_are = e.pointers_are ∙ found.1;
        children_are = (cost, 0, rw (e.segment_is, start, e.nesting_is) there, refl, omega arith);
      },
    )
element_found list l s (Structs d q es) k i found are inside e =
    let S : Segments = lent list in
    let n : ℕ = element_count es in
    let r : Reading = lent_pointer list l.segment l.at l.nesting in
    let x : ElementThere r d q es i = element_there r d q es k i (omega (arith, inside, found.2)) found.3 in
    let at = starts_at l d q i found.0 found.1 in
    let within : i * (d + q) + (d + q) ≤ n * (d + q) = words_within (d + q) n i (omega (arith, inside, found.2)) in
    let start : s.pointers_at ≡ l.at + (i * (d + q) + d) = omega (arith, e.start_is, at.0, at.1) in
    let cut : s.data.now ≡ take (8 * d) (drop (8 * (i * (d + q))) l.data.now) = e.data_is ∙ ap₂ (λ a b. take a (drop b l.data.now)) at.1 at.0 in
    let words : words_of s.data.now ≡ x.words =
    ap words_of cut
    ∙ words_of-part (i * (d + q)) d (8 * (i * (d + q))) (8 * d) l.data.now refl refl (omega (arith, within, found.4))
    ∙ ap (λ ws. take d (drop (i * (d + q)) ws)) found.5
    ∙ words_inside (n * (d + q)) (i * (d + q)) d l.at (segment S l.segment) (omega (arith, within))
    ∙ ap (words_at S l.segment (l.at + i * (d + q))) (sym x.long)
    ∙ x.has in
    let long : length s.data.now ≡ 8 * d = ap length cut ∙ omega (arith, length-take (8 * d) (drop (8 * (i * (d + q))) l.data.now), length-drop (8 * (i * (d + q))) l.data.now, within, found.4) in (
      x.cost,
      subst (λ u. IsFoundStruct S s u x.cost) (sym x.is)
          (record {
            is_struct = tt;
            size_is = omega (arith, long, x.long);
            words_are = words;
            pointers_are = e.pointers_are ∙ found.1 ∙ sym x.many;
            children_are = rw (e.segment_is, start, e.nesting_is) x.means;
          }),
    )
element_found list l s (Struct ws ts) k i found are inside e = absurd found
element_found list l s (Capability j) k i found are inside e = absurd found
element_found list l s (Flat size ns) k i found are inside e = absurd are

-- numbers other than bits have whole bytes
whole_bytes : (size : ℕ) → size ≢ 1 → element_bits size ≡ 8 * (element_bits size / 8)
whole_bytes zero h = refl
whole_bytes (suc zero) h = absurd (h refl)
whole_bytes (suc (suc zero)) h = refl
whole_bytes (suc (suc (suc zero))) h = refl
whole_bytes (suc (suc (suc (suc zero)))) h = refl
whole_bytes (suc (suc (suc (suc (suc zero))))) h = refl
whole_bytes (suc (suc (suc (suc (suc (suc n)))))) h = refl

pub number_found : (S : Segments) (l : FoundList) (s : FoundStruct) (size : ℕ) (ns : List ℕ) (k i : ℕ) → IsFoundList S l (Flat size ns) k → ((j : ℕ) → get_or l.data.now j 0 < 256) → size ≢ 1 → i < l.count → IsElementOf l i s →
    (8 * length s.data.now ≡ element_bits size) × (from_digits 256 s.data.now ≡ get_or ns i 0) × (s.pointers ≡ 0)
number_found S l s size ns k i found small plain inside e =
    let bits : ℕ = element_bits size in
    let w : ℕ = bits / 8 in
    let whole : bits ≡ 8 * w = whole_bytes size plain in
    let within : i * bits + bits ≤ length ns * bits = words_within bits (length ns) i (omega (arith, inside, found.2)) in
    let starts : i * bits ≡ 8 * (i * w) = ap (λ z. i * z) whole ∙ (let f : i * (8 * w) ≡ 8 * (i * w) = grind arith in f) in
    let long : i * w + w ≤ length l.data.now = omega (arith, within, starts, whole, found.5) in
    let size_is : l.data_bits / 8 ≡ w = ap (λ b. b / 8) found.0 in
    let wide : l.data_bits / 8 + 8 * l.pointers ≡ w = omega (arith, size_is, found.1) in
    let cut : s.data.now ≡ take w (drop (i * w) l.data.now) = e.data_is ∙ ap₂ (λ a b. take a (drop (i * b) l.data.now)) size_is wide in (
      omega (arith, whole, ap length cut, length-take w (drop (i * w) l.data.now), length-drop (i * w) l.data.now, long),
      ap (from_digits 256) cut
          ∙ part_of_digits (i * w) w l.data.now (below_each 256 l.data.now small) long
          ∙ ap₂ (λ a b. from_digits 256 l.data.now / 2 ^ a % 2 ^ b) (sym starts ∙ (let f : i * bits ≡ bits * i = grind arith in f)) (sym whole)
          ∙ ap (λ y. y / 2 ^ (bits * i) % 2 ^ bits) (sym (words_are_bytes (words_for size (length ns)) l.data.now found.5))
          ∙ sym (element_is_bits size (length ns) i (words_of l.data.now) (omega (arith, inside, found.2)))
          ∙ ap (λ xs. get_or xs i 0) (sym found.3),
      e.pointers_are ∙ found.1,
    )

pub bit_found : (S : Segments) (l : FoundList) (ns : List ℕ) (k i : ℕ) → IsFoundList S l (Flat 1 ns) k → ((j : ℕ) → get_or l.data.now j 0 < 256) → i < l.count →
    get_or l.data.now (i / 8) 0 / 2 ^ (i % 8) % 2 ≡ get_or ns i 0
bit_found S l ns k i found small inside =
    bit_in i l.data.now (below_each 256 l.data.now small) (omega (arith, inside, found.2, found.5))
    ∙ ap (λ y. y / 2 ^ (1 * i) % 2 ^ 1) (sym (words_are_bytes (words_for 1 (length ns)) l.data.now found.5))
    ∙ sym (element_is_bits 1 (length ns) i (words_of l.data.now) (omega (arith, inside, found.2)))
    ∙ ap (λ xs. get_or xs i 0) (sym found.3)
