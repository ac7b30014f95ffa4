-- What a struct of a message has in its segment: its data words, and the pointers of its children.
use Rattle.std.proofs.Common.{◌≡◌, ℕ, pred, ◌+◌, ◌*◌, ◌/◌, ◌%◌, ◌^◌, ◌<◌, List, length, get_or, drop, sym, ap, ap₂, ◌∙◌, subst, arith}
use Rattle.std.proofs.lemmas.List.{get_or-take, get_or-drop}
use Rattle.capnp_format.specs.Fields.{field_in}
use Rattle.capnp_format.specs.Forest.{target, target_in}
use Rattle.capnp_format.specs.Means.{Means}
use Rattle.capnp_format.specs.Path.{put_struct, tree_at}
use Rattle.capnp_format.specs.Segments.{HasWords, Segments, Target, segment, word_at}
use Rattle.capnp_format.specs.Tree.{Null, Struct, Structs, Trees, count}
use Rattle.capnp_format.proofs.ZeroWords.{zero_is_null}
use Rattle.capnp_allocation.specs.Stored.{IsStored}
use Rattle.capnp_allocation.proofs.FillingElements.{put_struct-count, put_struct-here}
use Rattle.capnp_in_place.proofs.Fields.FieldWritten.{element_has_words}
use Rattle.capnp_readers.specs.Sections.{IsInside}
use Rattle.capnp_readers.specs.declared.readers.struct_reader.StructPlace.{StructPlace}
use Rattle.capnp_builders.specs.Held.{Lead, directly, as_element, HasStruct, Holder, LeadsToSections, held_start, held_tree, struct_held}
use Rattle.capnp_builders.proofs.HeldMade.{number_starts}
use Rattle.capnp_builders.proofs.HeldStructs.{child_stored}
use Rattle.capnp_builders.proofs.StructPlaces.{struct_starts}

-- the data words of the struct

words_led : (S : Segments) (s p : ℕ) (lead : Lead) (ws : List ℕ) (ts : Trees) → LeadsToSections lead (length ws) (count ts) → IsStored S s p (held_tree lead ws ts) → HasWords S (target S s p).segment (held_start lead (target S s p).start) ws
words_led S s p directly ws ts sizes y = (let m = y.means in there m.0 m.1 m.2)
  where
    there : (n c : ℕ) → Means S n s p (Struct ws ts) c → HasWords S (target S s p).segment (target S s p).start ws
    there n c (b, k, some, o, claim, words, all, g) = subst (λ (t : Target). HasWords S t.segment t.start ws) (sym (ap target_in o.leads_to.1)) words
words_led S s p (as_element d q es i) ws ts (less, wide, many) y = (let m = y.means in there m.0 m.1 m.2)
  where
    there : (n c : ℕ) → Means S n s p (Structs d q (put_struct es i (Struct ws ts))) c → HasWords S (target S s p).segment ((target S s p).start + 1 + i * (d + q)) ws
    there n c (b, m, k, some, o, claim, tag, fits, all, g) =
        let range = (let e = put_struct-count es i ws ts in subst (λ z. i < z) (sym e) less) in
        subst (λ (t : Target). HasWords S t.segment (t.start + 1 + i * (d + q)) ws) (sym (ap target_in o.leads_to.1)) (element_has_words S (pred n) b.segment (b.start + 1) d q (put_struct es i (Struct ws ts)) k i ws ts all range (put_struct-here es i ws ts less)).1

word_of_words : (S : Segments) (s p j : ℕ) (ws : List ℕ) → HasWords S s p ws → j < length ws → word_at S s (p + j) ≡ get_or ws j 0
word_of_words S s p j ws h l =
    sym (get_or-drop p (segment S s) j 0) ∙ sym (get_or-take (length ws) (drop p (segment S s)) j 0 l) ∙ ap (λ xs. get_or xs j 0) h

-- a field of the data section is in its segment
pub field_held : (S : Segments) (x : Holder) (place : StructPlace) (ws : List ℕ) (ts : Trees) (b w : ℕ) → b < place.bits → HasStruct S x place ws ts → field_in (segment S place.segment) (8 * place.byte + b) w ≡ field_in ws b w
field_held S x place ws ts b w inside h =
    let a : Target = target S x.segment x.at in
    let start : ℕ = held_start x.lead a.start in
    let (of_segment, of_byte, of_bits, of_pointers, of_count) = struct_starts place (struct_held S x (length ws) (count ts)) h.is_place in
    let words = words_led S x.segment x.at x.lead ws ts h.sizes h.stored in
    let at : (8 * place.byte + b) / 64 ≡ start + b / 64 = omega (arith, of_byte) in
    let rest : (8 * place.byte + b) % 64 ≡ b % 64 = omega (arith, of_byte) in
    let word : get_or (segment S place.segment) ((8 * place.byte + b) / 64) 0 ≡ get_or ws (b / 64) 0 =
    ap₂ (λ u k. get_or (segment S u) k 0) of_segment at ∙ word_of_words S a.segment start (b / 64) ws words (omega (arith, inside, of_bits)) in
    ap₂ (λ y o. y / 2 ^ o % 2 ^ w) word rest

pub number_held : (S : Segments) (x : Holder) (place : StructPlace) (ws : List ℕ) (ts : Trees) (k n : ℕ) → 0 < n → IsInside place.bits (8 * n) k → HasStruct S x place ws ts → field_in (segment S place.segment) (8 * (place.byte + k * n)) (8 * n) ≡ field_in ws (8 * (k * n)) (8 * n)
number_held S x place ws ts k n some inside h =
    let e : 8 * (place.byte + k * n) ≡ 8 * place.byte + 8 * (k * n) = omega arith in
    ap (λ b. field_in (segment S place.segment) b (8 * n)) e ∙ field_held S x place ws ts (8 * (k * n)) (8 * n) (number_starts place.bits k n some inside) h

-- a pointer of the struct is zero exactly if its child is Null
pub null_held : (S : Segments) (x : Holder) (place : StructPlace) (ws : List ℕ) (ts : Trees) (i : ℕ) → i < place.pointers → HasStruct S x place ws ts → word_at S place.segment (place.pointers_at + i) ≡ 0 → tree_at ts i ≡ Null
null_held S x place ws ts i inside h zero =
    let m = (child_stored S x place ws ts i inside h).means in
    zero_is_null S place.segment (place.pointers_at + i) (tree_at ts i) m.0 m.1 zero m.2

pub null_zero : (S : Segments) (x : Holder) (place : StructPlace) (ws : List ℕ) (ts : Trees) (i : ℕ) → i < place.pointers → HasStruct S x place ws ts → tree_at ts i ≡ Null → word_at S place.segment (place.pointers_at + i) ≡ 0
null_zero S x place ws ts i inside h null =
    let m = (child_stored S x place ws ts i inside h).means in
    let z : Means S m.0 place.segment (place.pointers_at + i) Null m.1 = subst (λ t. Means S m.0 place.segment (place.pointers_at + i) t m.1) null m.2 in
    z.0
