-- The test for canonical form, step by step: what it finds and pays if the answer is yes, when
-- there is no value, and where it stops.
use Rattle.std.proofs.Common.{◌≡◌, ◌≢◌, ℕ, zero, suc, pred, ◌+◌, ◌*◌, ◌^◌, slice_index, ◌<◌, ◌≤◌, ◌↔◌, ◌⊎◌, inl, inr, List, length, refl, sym, ap, ap₂, ◌∙◌, subst, arith}
use Rattle.capnp_format.specs.Word.{kind, offset_bits, data_words, pointer_count, element_size, list_count}
use Rattle.capnp_format.specs.Bytes.{words_of}
use Rattle.capnp_format.specs.Numbers.{words_for, unpacked}
use Rattle.capnp_format.specs.Segments.{Segments, segment, word_at, words_at, Target}
use Rattle.capnp_format.specs.Tree.{Null, Struct, Flat, Pointers, Structs, Trees, no_trees, Elements, no_elements, element_count, depth_all, depth_elements}
use Rattle.capnp_format.specs.Means.{Claims, StructAt, ListAt, IsTag, count_cost}
use Rattle.capnp_format.specs.Canonical.{word_count_elements, charge, charge_all, charge_elements, data_width, pointer_width}
use Rattle.capnp_words.specs.declared.wire_pointer.StructSize.{StructSize}
use Rattle.capnp_words.specs.Meter.{Meter}
use Rattle.std.proofs.Common.{IsTrue, Bool}
use Rattle.capnp_pointers.specs.Demands.{claimed_words, tag, own_charge, element_words}
use Rattle.capnp_pointers.specs.Faults.{LeadsTo, child_at}
use Rattle.capnp_pointers.specs.Outcomes.{Entered}
use Rattle.capnp_pointers.specs.Reading.{Reading, word_of, segment_read, tag_size}
use Rattle.capnp_pointers.specs.Spending.{Paid, pointers_in_all, pointers_in_elements}
use Rattle.capnp_format.proofs.Slices.{length_words}
use Rattle.capnp_format.proofs.Digits.{length-digits}
use Rattle.capnp_format.proofs.Unique.{for_offset}
use Rattle.capnp_pointers.proofs.Budget.PaidAndLeft.{paid_both, paid_own}
use Rattle.capnp_pointers.proofs.WholeValue.ObjectsRead.{own_struct, own_flat, own_pointers, own_structs}
use Rattle.capnp_pointers.proofs.OneObject.PartsMeant.{claim_struct, claim_list, claim_flat}
use Rattle.capnp_pointers.proofs.WholeValue.WordsAdded.{paid_none, beginning}
use Rattle.capnp_pointers.specs.declared.object.Object.{Object}
use Rattle.capnp_pointers.specs.declared.object.Object.TheVariants.{Null as ObjectNull, Capability as ObjectCapability, Struct as ObjectStruct, Flat as ObjectFlat, Pointers as ObjectPointers, Structs as ObjectStructs}
use Rattle.capnp_pointers.specs.declared.object.Place.{Place}
use Rattle.capnp_pointers.specs.Objects.{IsObject}
use Rattle.capnp_pointers.specs.declared.object.Purpose.TheVariants.{Value}
use Rattle.capnp_pointers.specs.Standing.{HasBodiesAt, EndsUsed, IsPadded}
use Rattle.capnp_pointers.proofs.CanonicalForm.ElementsStand.{ElementsStand}
use Rattle.capnp_pointers.specs.Checking.{Progress, progress, FindsAll, IsFound, AreFound, IsCanonicalAt, AreCanonicalAt, IsTested}
use Rattle.capnp_pointers.proofs.CanonicalForm.CanonicalIfAccepted.{IsNear, near_to, null_stands, empty_stands, struct_stands, pointers_stand, flat_stands, structs_stand}
use Rattle.capnp_pointers.proofs.CanonicalForm.AcceptedIfCanonical.{struct_found, pointers_found, flat_found, structs_found}
use Rattle.capnp_pointers.proofs.CanonicalForm.AcceptedExactly.{ElementsAccept, structs_of_tag}
use Rattle.capnp_pointers.proofs.Following.LeadsWhereFollowed.{entered_leads}

pub not_far : (r : Reading) → kind (word_of r) < 2 → kind (word_at r.segments r.segment r.at) ≢ 2
not_far r less = λ e. omega (arith, e, less)

pub near_object : (r : Reading) {a : Target} → kind (word_of r) < 2 → LeadsTo r a → IsNear r.segments r.segment r.at a
near_object r {a} less l = near_to r.segments r.segment r.at a (not_far r less) l.1

one_level_more : (l n : ℕ) → 0 < n → l ≤ pred n → 1 + l ≤ n
one_level_more l zero some h = absurd (omega arith)
one_level_more l (suc n) some h = omega arith

-- The place that is tested, from the bytes that are read there.
pub tested : (r : Reading) (bytes : List ℕ) → words_of bytes ≡ segment_read r → ((i : ℕ) → slice_index (words_of bytes) i < 2 ^ 64) → r.at < length (words_of bytes) → kind (slice_index (words_of bytes) r.at) < 2 → IsTested r
tested r bytes e small at near = record {
  small = λ p. subst (λ ws. slice_index ws p < 2 ^ 64) e (small p);
  there = subst (λ ws. r.at < length ws) e at;
  near = subst (λ ws. kind (slice_index ws r.at) < 2) e near;
}

-- Canonical words in a segment and from positions on, if these have other names.
pub all_at : {s u p q h i : ℕ} (S : Segments) (ts : Trees) → s ≡ u → p ≡ q → h ≡ i → HasBodiesAt S s p h ts → HasBodiesAt S u q i ts
all_at {s} {u} {p} {q} {h} {i} S ts e f g a = subst (λ x. HasBodiesAt S x q i ts) e (subst (λ x. HasBodiesAt S s x i ts) f (subst (λ x. HasBodiesAt S s p x ts) g a))

pub used_at : {s u p q n m : ℕ} (S : Segments) → s ≡ u → p ≡ q → n ≡ m → EndsUsed S s p n → EndsUsed S u q m
used_at {s} {u} {p} {q} {n} {m} S e f g a = subst (λ x. EndsUsed S x q m) e (subst (λ x. EndsUsed S s x m) f (subst (λ x. EndsUsed S s p x) g a))

-- Consecutive children.

pub finds_none : (r : Reading) (from : Progress) → FindsAll r from from no_trees
finds_none r from = record { stand = tt; levels = omega arith; paid = paid_none r from.meter; head_is = omega arith }

-- Consecutive elements.

-- The canonical words of es are at the pointers of elements of this size, and at the head: as for
-- one pointer.
pub record FindsElements (r : Reading) (size : StructSize) (from to : Progress) (es : Elements)
    : Type 0 where
  pub stand : ElementsStand r.segments r.segment r.at size.data_words size.pointers from.head es
  pub levels : depth_elements es ≤ r.levels
  pub paid : Paid r.charging from.meter to.meter (charge_elements es) (pointers_in_elements es)
  pub head_is : to.head ≡ from.head + word_count_elements es

pub finds_no_element : (r : Reading) (size : StructSize) (from : Progress) → FindsElements r size from from no_elements
finds_no_element r size from = record { stand = tt; levels = omega arith; paid = paid_none r from.meter; head_is = omega arith }

-- Objects: what is found.

pub null_found_at : {r : Reading} {from : Progress} {m' : Meter} → IsTested r → word_of r ≡ 0 → m' ≡ from.meter → IsFound r from (progress from.head m')
null_found_at {r} {from} {m'} ready z e = (
  Null,
  record {
    stands = null_stands r.segments r.segment r.at from.head ready.there z;
    inside = tt;
    levels = omega arith;
    paid = subst (λ m. Paid r.charging from.meter m 0 0) (sym e) (paid_none r from.meter);
    head_is = omega arith;
  },
)

pub struct_at : {r : Reading} {m m' : Meter} {a : Target} → Entered Value r m m' a → kind a.word ≡ 0 → StructAt r.segments r.segment r.at a (data_words a.word) (pointer_count a.word)
struct_at o z = record { leads_to = entered_leads o; is_struct = z; data_of = refl; pointers = refl }

pub list_at : {r : Reading} {m m' : Meter} {a : Target} (size : ℕ) → Entered Value r m m' a → kind a.word ≡ 1 → element_size a.word ≡ size → ListAt r.segments r.segment r.at a size (list_count a.word)
list_at size o z e = record { leads_to = entered_leads o; is_list = z; is_size = e; counts = refl }

pub empty_found_at : {r : Reading} {from : Progress} {m' : Meter} {a : Target} → IsTested r → Entered Value r from.meter m' a → kind a.word ≡ 0 → data_words a.word + pointer_count a.word ≡ 0 → a.start ≡ r.at → IsFound r from (progress from.head m')
empty_found_at {r} {from} {m'} {a} ready o z none start =
    let near = near_object r ready.near (entered_leads o) in
    let its : StructAt r.segments r.segment r.at a 0 0 = record { leads_to = entered_leads o; is_struct = z; data_of = omega (arith, none); pointers = omega (arith, none) } in
    let free : own_charge Value r.segments a ≡ 0 = omega (arith, own_struct r.segments a z, near.no_pads, none) in (
      Struct _ no_trees,
      record {
        stands = empty_stands r.segments r.segment r.at from.head a ready.there (not_far r ready.near) its start;
        inside = tt;
        levels = omega (arith, o.meets.levels);
        paid = subst (λ c. Paid r.charging from.meter m' c 1) free (paid_own o);
        head_is = omega arith;
      },
    )

-- Each of the two sections of a struct is empty or ends in a word that isn't zero.
abbrev SectionsUsed : Reading → Target → Type 0
SectionsUsed r a = EndsUsed r.segments a.segment a.start (data_words a.word) × EndsUsed r.segments a.segment (a.start + data_words a.word) (pointer_count a.word)

-- The reading of the pointers of a struct, and of a list of pointers.
abbrev pub struct_pointers : Reading → Target → Reading
struct_pointers r a = child_at r a (pred r.levels) (a.start + data_words a.word)

abbrev pub list_pointers : Reading → Target → Reading
list_pointers r a = child_at r a (pred r.levels) a.start

abbrev pub list_elements : Reading → Target → Reading
list_elements r a = child_at r a (pred r.levels) (a.start + 1)

pub struct_finds : {r : Reading} {from to : Progress} {m' : Meter} {a : Target} → IsTested r → Entered Value r from.meter m' a → kind a.word ≡ 0 → a.start ≡ from.head → 0 < data_words a.word + pointer_count a.word → SectionsUsed r a →
    AreFound (struct_pointers r a) (pointer_count a.word) (progress (a.start + data_words a.word + pointer_count a.word) m') to → IsFound r from to
struct_finds {r} {from} {to} {m'} {a} ready o z start some used (ts, len, all) =
    let S : Segments = r.segments in
    let h : ℕ = from.head in
    let d : ℕ = data_words a.word in
    let q : ℕ = pointer_count a.word in
    let near = near_object r ready.near (entered_leads o) in
    let seg = near.same_segment in
    let claimed : claimed_words a.word ≡ d + q = claim_struct a.word z in
    let claims : Claims S a (d + q) = omega (arith, o.meets.claims, claimed) in
    let room : h + d ≤ length (segment S r.segment) = omega (arith, claims, start, ap (λ x. length (segment S x)) seg) in
    let ws : List ℕ = words_at S r.segment h d in
    let long : length ws ≡ d = length_words S r.segment h d room in
    let there : HasBodiesAt S r.segment (h + d) (h + d + q) ts = all_at S ts seg (omega (arith, start)) (omega (arith, start)) all.stand in
    let cost : own_charge Value S a + charge_all ts ≡ charge (Struct ws ts) = omega (arith, own_struct S a z, near.no_pads, long, len) in (
      Struct ws ts,
      record {
        stands = struct_stands S r.segment r.at h a d q ts ready.small ready.there (not_far r ready.near) (struct_at o z) start claims some (used_at S seg start refl used.0) (used_at S seg (omega (arith, start)) refl used.1) len there;
        inside = for_offset (Struct ws ts) (h ≤ length (segment_read r)) (omega (arith, room));
        levels = one_level_more (depth_all ts) r.levels o.meets.levels all.levels;
        paid = subst (λ c. Paid r.charging from.meter to.meter c (1 + pointers_in_all ts)) cost (paid_both (paid_own o) all.paid);
        head_is = omega (arith, all.head_is, start, long, len);
      },
    )

pub pointers_find : {r : Reading} {from to : Progress} {m' : Meter} {a : Target} → IsTested r → Entered Value r from.meter m' a → kind a.word ≡ 1 → element_size a.word ≡ 6 → a.start ≡ from.head →
    AreFound (list_pointers r a) (list_count a.word) (progress (a.start + list_count a.word) m') to → IsFound r from to
pointers_find {r} {from} {to} {m'} {a} ready o z six start (ts, len, all) =
    let S : Segments = r.segments in
    let h : ℕ = from.head in
    let n : ℕ = list_count a.word in
    let near = near_object r ready.near (entered_leads o) in
    let seg = near.same_segment in
    let claims : Claims S a n = omega (arith, o.meets.claims, claim_list a.word 6 z six) in
    let there : HasBodiesAt S r.segment h (h + n) ts = all_at S ts seg start (omega (arith, start)) all.stand in
    let cost : own_charge Value S a + charge_all ts ≡ charge (Pointers ts) = omega (arith, own_pointers S a z six, near.no_pads, len) in (
      Pointers ts,
      record {
        stands = pointers_stand S r.segment r.at h a n ts ready.small ready.there (not_far r ready.near) (list_at 6 o z six) start claims len there;
        inside = for_offset (Pointers ts) (h ≤ length (segment_read r)) (omega (arith, claims, start, ap (λ x. length (segment S x)) seg));
        levels = one_level_more (depth_all ts) r.levels o.meets.levels all.levels;
        paid = subst (λ c. Paid r.charging from.meter to.meter c (1 + pointers_in_all ts)) cost (paid_both (paid_own o) all.paid);
        head_is = omega (arith, all.head_is, start, len);
      },
    )

pub flat_finds : {r : Reading} {from : Progress} {m' : Meter} {a : Target} → IsTested r → Entered Value r from.meter m' a → kind a.word ≡ 1 → element_size a.word ≤ 5 → a.start ≡ from.head →
    IsPadded r.segments a.segment a.start (element_size a.word) (list_count a.word) → IsFound r from (progress (a.start + words_for (element_size a.word) (list_count a.word)) m')
flat_finds {r} {from} {m'} {a} ready o z small start padded =
    let S : Segments = r.segments in
    let h : ℕ = from.head in
    let size : ℕ = element_size a.word in
    let n : ℕ = list_count a.word in
    let near = near_object r ready.near (entered_leads o) in
    let seg = near.same_segment in
    let claimed : claimed_words a.word ≡ words_for size n = claim_list a.word size z refl ∙ claim_flat size n small in
    let claims : Claims S a (words_for size n) = omega (arith, o.meets.claims, claimed) in
    let there : IsPadded S r.segment h size n = subst (λ x. IsPadded S x h size n) seg (subst (λ x. IsPadded S a.segment x size n) start padded) in
    let ns : List ℕ = unpacked size n (words_at S r.segment h (words_for size n)) in
    let long : length ns ≡ n = length-digits _ n _ in
    let cost : own_charge Value S a ≡ charge (Flat size ns) = own_flat S a z small ∙ (let e : a.pads + words_for size n + count_cost size n ≡ words_for size n + count_cost size n = omega (arith, near.no_pads) in e) ∙ ap (λ i. words_for size i + count_cost size i) (sym long) in (
      Flat size ns,
      record {
        stands = flat_stands S r.segment r.at h a size n ready.small ready.there (not_far r ready.near) (list_at size o z refl) small start claims there;
        inside = for_offset (Flat size ns) (h ≤ length (segment_read r)) (omega (arith, claims, start, ap (λ x. length (segment S x)) seg));
        levels = omega (arith, o.meets.levels);
        paid = subst (λ c. Paid r.charging from.meter m' c 1) cost (paid_own o);
        head_is = ap₂ (λ x y. x + words_for size y) start (sym long);
      },
    )

-- Consecutive elements are canonical, and no smaller size of elements would do.
abbrev pub AreFoundRows : Reading → StructSize → ℕ → Progress → Progress → Type 0
AreFoundRows r size n from to = (es : Elements) × (element_count es ≡ n) × (data_width es ≡ size.data_words) × (pointer_width es ≡ size.pointers) × FindsElements r size from to es

pub structs_find : {r : Reading} {from to : Progress} {m' : Meter} {a : Target} → IsTested r → Entered Value r from.meter m' a → kind a.word ≡ 1 → element_size a.word ≡ 7 → a.start ≡ from.head → element_words (tag r.segments a) ≡ list_count a.word →
    AreFoundRows (list_elements r a) (tag_size r.segments a) (offset_bits (tag r.segments a)) (progress (a.start + 1 + list_count a.word) m') to → IsFound r from to
structs_find {r} {from} {to} {m'} {a} ready o z seven start exact (es, len, dw, pw, all) =
    let S : Segments = r.segments in
    let h : ℕ = from.head in
    let m : ℕ = list_count a.word in
    let d : ℕ = data_words (tag S a) in
    let q : ℕ = pointer_count (tag S a) in
    let near = near_object r ready.near (entered_leads o) in
    let seg = near.same_segment in
    let claims : Claims S a (m + 1) = omega (arith, o.meets.claims, claim_list a.word 7 z seven) in
    let its : tag S a ≡ word_at S r.segment h = ap₂ (λ x y. word_at S x y) seg start in
    let there : ElementsStand S r.segment (h + 1) d q (h + 1 + m) es =
    subst (λ x. ElementsStand S x (h + 1) d q (h + 1 + m) es) seg (subst (λ x. ElementsStand S a.segment (x + 1) d q (x + 1 + m) es) start all.stand) in
    let tagged : IsTag (word_at S r.segment h) (element_count es) d q = subst (λ w. IsTag w (element_count es) d q) its (record { is_struct = (o.meets.tagged (z, seven)).0; counts = sym len; data_of = refl; pointers = refl }) in
    let words : element_count es * (d + q) ≡ m = ap (λ i. i * (d + q)) len ∙ exact in
    let cost : own_charge Value S a + charge_elements es ≡ charge (Structs d q es) =
    ap (λ x. x + charge_elements es) (own_structs S a z seven ∙ ap₂ (λ i j. a.pads + (i + 1) + count_cost (d + q) j) (sym words) (sym len)) ∙ omega (arith, near.no_pads) in (
      Structs d q es,
      record {
        stands = structs_stand S r.segment r.at h a m (element_count es) d q es ready.small ready.there (not_far r ready.near) (list_at 7 o z seven) start claims tagged words refl dw pw there;
        inside = for_offset (Structs d q es) (h ≤ length (segment_read r)) (omega (arith, claims, start, ap (λ x. length (segment S x)) seg));
        levels = one_level_more (depth_elements es) r.levels o.meets.levels all.levels;
        paid = subst (λ c. Paid r.charging from.meter to.meter c (1 + pointers_in_elements es)) cost (paid_both (paid_own o) all.paid);
        head_is = omega (arith, all.head_is, start, words);
      },
    )

-- Objects: when there is no value.

pub struct_never : {r : Reading} {m m' : Meter} {a : Target} (h : ℕ) → IsTested r → Entered Value r m m' a → kind a.word ≡ 0 → 0 < data_words a.word + pointer_count a.word →
    (SectionsUsed r a × AreCanonicalAt (struct_pointers r a) (pointer_count a.word) (a.start + data_words a.word + pointer_count a.word) → ⊥) → IsCanonicalAt r h → ⊥
struct_never {r} {a = a} h ready o z some fails (t, stands) =
    let S : Segments = r.segments in
    let f = struct_found S r.segment r.at h a (data_words a.word) (pointer_count a.word) t stands (struct_at o z) some in
    let (ts, len, all, same) = f.children in
    let seg = sym f.same_segment in
    let start = sym f.start in
    fails ((used_at S seg start refl f.data_used, used_at S seg (omega (arith, start)) refl f.pointers_used), (ts, len, all_at S ts seg (omega (arith, start)) (omega (arith, start)) all))

pub pointers_never : {r : Reading} {m m' : Meter} {a : Target} (h : ℕ) → IsTested r → Entered Value r m m' a → kind a.word ≡ 1 → element_size a.word ≡ 6 →
    (AreCanonicalAt (list_pointers r a) (list_count a.word) (a.start + list_count a.word) → ⊥) → IsCanonicalAt r h → ⊥
pointers_never {r} {a = a} h ready o z six fails (t, stands) =
    let S : Segments = r.segments in
    let f = pointers_found S r.segment r.at h a (list_count a.word) t stands (list_at 6 o z six) in
    let (ts, len, all, same) = f.children in
    let start = sym f.start in
    fails (ts, len, all_at S ts (sym f.same_segment) start (omega (arith, start)) all)

pub flat_never : {r : Reading} {m m' : Meter} {a : Target} (h : ℕ) → IsTested r → Entered Value r m m' a → kind a.word ≡ 1 → element_size a.word ≤ 5 →
    (IsPadded r.segments a.segment a.start (element_size a.word) (list_count a.word) → ⊥) → IsCanonicalAt r h → ⊥
flat_never {r} {a = a} h ready o z small fails (t, stands) =
    let size : ℕ = element_size a.word in
    let n : ℕ = list_count a.word in
    let f = flat_found r.segments r.segment r.at h a size n t stands (list_at size o z refl) small in
    fails (subst (λ x. IsPadded r.segments x a.start size n) (sym f.same_segment) (subst (λ x. IsPadded r.segments r.segment x size n) (sym f.start) f.padded))

pub structs_never : {r : Reading} {m m' : Meter} {a : Target} (h : ℕ) → IsTested r → Entered Value r m m' a → kind a.word ≡ 1 → element_size a.word ≡ 7 →
    (element_words (tag r.segments a) ≡ list_count a.word →
    ElementsAccept r.segments a.segment (a.start + 1) (data_words (tag r.segments a)) (pointer_count (tag r.segments a)) (a.start + 1 + list_count a.word) (offset_bits (tag r.segments a)) → ⊥) →
    IsCanonicalAt r h → ⊥
structs_never {r} {a = a} h ready o z seven fails (t, stands) =
    let S : Segments = r.segments in
    let n : ℕ = offset_bits (tag S a) in
    let d : ℕ = data_words (tag S a) in
    let q : ℕ = pointer_count (tag S a) in
    let m : ℕ = list_count a.word in
    let (e, g, fs, same, f) = structs_found S r.segment r.at h a m t stands (list_at 7 o z seven) in
    let seg = f.same_segment in
    let start = f.start in
    let its : tag S a ≡ word_at S r.segment h = ap₂ (λ x y. word_at S x y) seg start in
    let tagged : IsTag (word_at S r.segment h) n d q = subst (λ w. IsTag w n d q) its (record { is_struct = (o.meets.tagged (z, seven)).0; counts = refl; data_of = refl; pointers = refl }) in
    let (exact, es, len, dw, pw, all) = (structs_of_tag S r.segment r.at h a m n d q ready.small ready.there (not_far r ready.near) (list_at 7 o z seven) start f.claim tagged).0 (t, stands) in
    fails exact (es, len, dw, pw, subst (λ x. ElementsStand S x (a.start + 1) d q (a.start + 1 + m) es) (sym seg) (subst (λ x. ElementsStand S r.segment (x + 1) d q (x + 1 + m) es) (sym start) all))

-- Objects: the answers of the test, once their own parts are tested.

-- Children: when there are no values.

-- Elements: how far their test has come.

either : {P Q R : Type 0} (b c : Bool) → IsTrue b ↔ P → IsTrue c ↔ (IsTrue b ⊎ Q) → (R ↔ (P ⊎ Q)) → IsTrue c ↔ R
either b c f g h = (
  (λ t. h.1 (elim (g.0 t) [
    | inl x ↦ inl (f.0 x)
    | inr y ↦ inr y
  ])),
  (λ x. g.1 (elim (h.0 x) [
    | inl p ↦ inl (f.1 p)
    | inr q ↦ inr q
  ])),
)

-- Objects: the test ends at one of their pointers.

-- A list of any kind.
abbrev pub IsList : Object → Type 0
IsList ObjectNull = ⊥
IsList (ObjectCapability i) = ⊥
IsList (ObjectStruct start size) = ⊥
IsList (ObjectFlat start size n) = Unit {0}
IsList (ObjectPointers start n) = Unit {0}
IsList (ObjectStructs start size n) = Unit {0}

-- An object is in the segment of its pointer.
pub pointers_here : {r : Reading} {m m' : Meter} (start : Place) (n : ℕ) → IsTested r → IsObject Value r m m' (ObjectPointers start n) → r.segment ≡ start.segment
pointers_here {r} start n ready (a, o, z, six, (held, seg, at), many) = sym (seg ∙ (near_object r ready.near (entered_leads o)).same_segment)

pub structs_here : {r : Reading} {m m' : Meter} (start : Place) (size : StructSize) (n : ℕ) → IsTested r → IsObject Value r m m' (ObjectStructs start size n) → r.segment ≡ start.segment
structs_here {r} start size n ready (a, o, z, seven, (held, seg, at), many, wide, pointers) = sym (seg ∙ (near_object r ready.near (entered_leads o)).same_segment)

-- The words of an object are there.

pub struct_room : {r : Reading} {m m' : Meter} (start : Place) (size : StructSize) → IsObject Value r m m' (ObjectStruct start size) → start.at + (size.data_words + size.pointers) ≤ length (segment_read (beginning r start))
struct_room {r} start size (a, o, z, (held, seg, at), wide, many) = omega (arith, o.meets.claims, claim_struct a.word z, at, wide, many, ap (λ s. length (segment r.segments s)) seg)

pub structs_room : {r : Reading} {m m' : Meter} (start : Place) (size : StructSize) (n : ℕ) → kind (word_of r) < 2 → IsObject Value r m m' (ObjectStructs start size n) → start.at + list_count (word_of r) ≤ length (segment_read (beginning r start))
structs_room {r} start size n near (a, o, z, seven, (held, seg, at), many, wide, pointers) =
    let claimed : list_count (word_of r) ≡ list_count a.word = ap list_count (sym (near_object r near (entered_leads o)).same_word) in
    omega (arith, o.meets.claims, claim_list a.word 7 z seven, at, claimed, ap (λ s. length (segment r.segments s)) seg)

-- Flags: what was seen stays seen, and what wasn't seen is tested.

pub pointers_room : {r : Reading} {m m' : Meter} (start : Place) (n : ℕ) → IsObject Value r m m' (ObjectPointers start n) → start.at + n ≤ length (segment_read (beginning r start))
pointers_room {r} start n (a, o, z, six, (held, seg, at), many) = omega (arith, o.meets.claims, claim_list a.word 6 z six, at, many, ap (λ s. length (segment r.segments s)) seg)
