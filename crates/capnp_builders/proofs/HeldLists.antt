-- What becomes of a list of numbers that a pointer leads to, and of the struct that has the pointer,
-- if an element is written.
use Rattle.std.proofs.Common.{◌≡◌, ℕ, zero, suc, ◌+◌, ◌*◌, ◌^◌, ◌<◌, ◌≤◌, List, length, set, refl, sym, ap, ap₂, ◌∙◌, subst, arith}
use Rattle.std.proofs.lemmas.List.{length-set}
use Rattle.capnp_words.specs.declared.wire_pointer.ElementSize.{ElementSize}
use Rattle.capnp_words.specs.declared.wire_pointer.ElementSize.TheVariants.{Void, Bit, Byte, TwoBytes, FourBytes, EightBytes, Pointer, InlineComposite}
use Rattle.capnp_words.specs.declared.wire_pointer.StructSize.{StructSize}
use Rattle.capnp_words.specs.Sizes.{size_number}
use Rattle.capnp_format.specs.Forest.{target}
use Rattle.capnp_format.specs.Numbers.{element_bits}
use Rattle.capnp_format.specs.Segments.{Segments, Target}
use Rattle.capnp_format.specs.Tree.{Tree, Flat, Trees, no_trees, tree, count}
use Rattle.capnp_allocation.specs.Fields.{with_field}
use Rattle.capnp_format.specs.Path.{put_tree, tree_at}
use Rattle.capnp_allocation.specs.Stored.{IsReplaced}
use Rattle.capnp_allocation.proofs.Replace.{put_tree-count}
use Rattle.capnp_in_place.proofs.Fields.FieldWritten.{flat_element_stays, flat_element_written}
use Rattle.capnp_readers.specs.Sections.{data_bits, step_bits}
use Rattle.capnp_readers.specs.declared.readers.list_reader.ListPlace.{ListPlace}
use Rattle.capnp_readers.specs.declared.readers.struct_reader.StructPlace.{StructPlace}
use Rattle.capnp_builders.specs.Held.{HasList, HasStruct, Holder, struct_held}
use Rattle.capnp_builders.proofs.HeldStructs.{child_set}
use Rattle.capnp_builders.proofs.StructPlaces.{struct_starts}
use Rattle.capnp_in_place.proofs.WiderObjects.WhichList.{flat_width}

step_of : (size : ElementSize) (sizes : StructSize) → size_number size ≤ 5 → step_bits size sizes ≡ element_bits (size_number size)
step_of Void sizes l = refl
step_of Bit sizes l = refl
step_of Byte sizes l = refl
step_of TwoBytes sizes l = refl
step_of FourBytes sizes l = refl
step_of EightBytes sizes l = refl
step_of Pointer sizes l = absurd (omega arith)
step_of InlineComposite sizes l = absurd (omega arith)

pub plain_bits : (size : ElementSize) (sizes : StructSize) → size_number size ≤ 5 → data_bits size sizes ≡ element_bits (size_number size)
plain_bits Void sizes l = refl
plain_bits Bit sizes l = refl
plain_bits Byte sizes l = refl
plain_bits TwoBytes sizes l = refl
plain_bits FourBytes sizes l = refl
plain_bits EightBytes sizes l = refl
plain_bits Pointer sizes l = absurd (omega arith)
plain_bits InlineComposite sizes l = absurd (omega arith)

-- elements that hold a number aren't pointers or structs
pub flat_size : (size : ElementSize) → 0 < element_bits (size_number size) → size_number size ≤ 5
flat_size Void some = omega arith
flat_size Bit some = omega arith
flat_size Byte some = omega arith
flat_size TwoBytes some = omega arith
flat_size FourBytes some = omega arith
flat_size EightBytes some = omega arith
flat_size Pointer some = absurd (omega arith)
flat_size InlineComposite some = absurd (omega arith)

-- element k of the list is written, w bits with the number v
pub record WritesElement (S R : Segments) (list : ListPlace) (k w v : ℕ) : Type 0 where
  pub range : k < list.count
  pub width : element_bits (size_number list.size) ≡ w
  pub some : 0 < w
  pub small : v < 2 ^ w
  pub written : R ≡ with_field S list.segment (8 * list.byte + k * step_bits list.size list.struct_size) w v

some_size : (n : ℕ) → 0 < element_bits n → 0 < n
some_size zero some = some
some_size (suc n) some = omega arith

there : {S R : Segments} {list : ListPlace} {k w v : ℕ} (s p n : ℕ) (ns : List ℕ) → WritesElement S R list k w v → HasList S s p list (Flat n ns) → R ≡ with_field S (target S s p).segment (64 * (target S s p).start + k * element_bits n) (element_bits n) v
there {S} {R} {list} {k} {w} {v} s p n ns e h =
    let a : Target = target S s p in
    let (size, many) = h.plain in
    let seg : list.segment ≡ a.segment = ap (λ (l : ListPlace). l.segment) h.is_place in
    let byte : list.byte ≡ 8 * a.start = ap (λ (l : ListPlace). l.byte) h.is_place in
    let step : step_bits list.size list.struct_size ≡ element_bits n = step_of list.size list.struct_size (omega (arith, size, flat_width S s p n ns h.stored)) ∙ ap element_bits size in
    let wide : w ≡ element_bits n = sym e.width ∙ ap element_bits size in
    e.written ∙ ap₂ (λ z b. with_field S z b w v) seg (let f : 8 * list.byte + k * step_bits list.size list.struct_size ≡ 64 * a.start + k * element_bits n = rw step (omega (arith, byte)) in f) ∙ ap (λ z. with_field S a.segment (64 * a.start + k * element_bits n) z v) wide

pub element_replaced : {S R : Segments} {list : ListPlace} {k w v : ℕ} (s p n : ℕ) (ns : List ℕ) → WritesElement S R list k w v → HasList S s p list (Flat n ns) → IsReplaced S R s p (Flat n ns) (Flat n (set ns k v))
element_replaced {S} {R} {list} {k} {w} {v} s p n ns e h =
    let (size, many) = h.plain in
    let wide : w ≡ element_bits n = sym e.width ∙ ap element_bits size in
    flat_element_written S R s p n ns k v h.stored (some_size n (omega (arith, e.some, wide))) (omega (arith, e.range, many)) (rw wide at e.small) (there s p n ns e h)

pub element_set : {S R : Segments} {list : ListPlace} {k w v : ℕ} (s p n : ℕ) (ns : List ℕ) → WritesElement S R list k w v → HasList S s p list (Flat n ns) → HasList R s p list (Flat n (set ns k v))
element_set {S} {R} {list} {k} {w} {v} s p n ns e h =
    let (size, many) = h.plain in
    let wide : w ≡ element_bits n = sym e.width ∙ ap element_bits size in
    let to_a : target R s p ≡ target S s p = flat_element_stays S R s p n ns k v h.stored (some_size n (omega (arith, e.some, wide))) (omega (arith, e.range, many)) (rw wide at e.small) (there s p n ns e h) in
    record {
      stored = (element_replaced s p n ns e h).stored;
      plain = (size, many ∙ sym (length-set ns k v));
      is_place = rw to_a h.is_place;
    }

-- the struct that has the pointer

put_tree-here : (ts : Trees) (i : ℕ) (u : Tree) → i < count ts → tree_at (put_tree ts i u) i ≡ u
put_tree-here no_trees i u l = absurd (omega arith)
put_tree-here (tree t ts) zero u l = refl
put_tree-here (tree t ts) (suc i) u l = put_tree-here ts i u (omega arith)

put_tree-again : (ts : Trees) (i : ℕ) (u w : Tree) → put_tree (put_tree ts i u) i w ≡ put_tree ts i w
put_tree-again no_trees i u w = refl
put_tree-again (tree t ts) zero u w = refl
put_tree-again (tree t ts) (suc i) u w = ap (tree t) (put_tree-again ts i u w)

pub element_set_within : {S R : Segments} {list : ListPlace} {k w v : ℕ} (x : Holder) (place : StructPlace) (ws : List ℕ) (ts : Trees) (i n : ℕ) (ns : List ℕ) → WritesElement S R list k w v → i < place.pointers → HasList S place.segment (place.pointers_at + i) list (Flat n ns) →
    HasStruct S x place ws (put_tree ts i (Flat n ns)) → HasStruct R x place ws (put_tree ts i (Flat n (set ns k v)))
element_set_within {S} {R} {list} {k} {w} {v} x place ws ts i n ns e inside list_there h =
    let u : Tree = Flat n ns in
    let y : Tree = Flat n (set ns k v) in
    let (of_segment, of_byte, of_bits, of_pointers, of_count) = struct_starts place (struct_held S x (length ws) (count (put_tree ts i u))) h.is_place in
    let here : tree_at (put_tree ts i u) i ≡ u = put_tree-here ts i u (omega (arith, inside, of_count, put_tree-count ts i u)) in
    let one : IsReplaced S R place.segment (place.pointers_at + i) u y = element_replaced place.segment (place.pointers_at + i) n ns e list_there in
    subst (λ X. HasStruct R x place ws X) (put_tree-again ts i u y) (child_set S R x place ws (put_tree ts i u) i y inside (subst (λ t. IsReplaced S R place.segment (place.pointers_at + i) t y) (sym here) one) h)
