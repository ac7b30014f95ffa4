-- A place means exactly what `decode` reads there.
use Rattle.std.proofs.Common.{◌≡◌, ◌≢◌, ℕ, zero, suc, ◌+◌, ◌*◌, ◌%◌, ◌^◌, ◌≤◌, Bool, true, cond, nat_eq, nat_le, List, length, Option, Some, refl, sym, ap, ap₂, ◌∙◌, arith, ne_eqb, le-leb, eq-eqb}
use Rattle.capnp_format.specs.Word.{kind, data_words, pointer_count, upper_half, offset_bits}
use Rattle.capnp_format.specs.Numbers.{words_for, unpacked}
use Rattle.capnp_format.specs.Segments.{Segments, word_at, words_at, HasWords, Target, leads, ◌>>=◌, given}
use Rattle.capnp_format.specs.Tree.{Tree, Null, Capability, Struct, Flat, Pointers, Structs, Trees, no_trees, tree, Elements, no_elements, element, count, element_count}
use Rattle.capnp_format.specs.Means.{Leads, Claims, StructAt, ListAt, count_cost, IsTag, Means}
use Rattle.capnp_format.proofs.Meant.{AllMeant, ElementsMeant}
use Rattle.capnp_format.specs.Decode.{Read, read_all, read_elements, within, struct_of, read_struct, read_flat, read_pointers, read_structs, read_list, read_object, read_place, decode}

bind_some : {A B : Type 0} (o : Option A) (x : A) (f : A → Option B) → o ≡ Some x → (o >>= f) ≡ f x
bind_some o x f e = ap (λ r. r >>= f) e

given_true : {A : Type 0} (b : Bool) (x : A) → b ≡ true → given b x ≡ Some x
given_true b x e = ap (λ r. given r x) e

pub object_at : {a : Target} (S : Segments) (f : Target → Read Tree) (s p : ℕ) → Leads S s p a → a.word % 2 ^ 32 ≢ 3 → read_place S f s p ≡ f a
object_at {a = a} S f s p h other =
    ap (λ b. cond b (Some (Null, 0)) (leads S s p >>= λ a. cond (nat_eq (a.word % 2 ^ 32) 3) (Some (Capability (upper_half a.word), a.pads)) (f a))) (ne_eqb _ _ h.0)
    ∙ bind_some (leads S s p) a _ h.1
    ∙ ap (λ b. cond b (Some (Capability (upper_half a.word), a.pads)) (f a)) (ne_eqb _ _ other)

within_true : (S : Segments) (a : Target) (n : ℕ) → Claims S a n → within S a n ≡ true
within_true S a n h = le-leb _ _ h

struct_there : {S : Segments} {s p k c : ℕ} {a : Target} {ws : List ℕ} {ts : Trees} (f : ℕ → ℕ → Read Tree) → StructAt S s p a (length ws) (count ts) →
    Claims S a (length ws + count ts) → HasWords S a.segment a.start ws →
    read_all (f a.segment) (count ts) (a.start + length ws) ≡ Some (ts, k) →
    c ≡ a.pads + (length ws + count ts) + k → read_struct S f a ≡ Some (Struct ws ts, c)
struct_there {S = S} {k = k} {a = a} {ws = ws} {ts = ts} f o claim e r g =
    ap₂ (struct_of S f a) o.data_of o.pointers
    ∙ ap (λ b. given b (words_at S a.segment a.start (length ws)) >>= λ vs.
    read_all (f a.segment) (count ts) (a.start + length ws) >>= λ x. Some (Struct vs x.0, a.pads + (length ws + count ts) + x.1)) (within_true S a _ claim)
    ∙ bind_some _ (ts, k) (λ x. Some (Struct (words_at S a.segment a.start (length ws)) x.0, a.pads + (length ws + count ts) + x.1)) r
    ∙ cc (e, g)

flat_there : {S : Segments} {s p size n c : ℕ} {a : Target} {ns : List ℕ} → ListAt S s p a size n →
    Claims S a (words_for size n) → ns ≡ unpacked size n (words_at S a.segment a.start (words_for size n)) →
    c ≡ a.pads + words_for size n + count_cost size n → read_flat S size n a ≡ Some (Flat size ns, c)
flat_there {S = S} {a = a} o claim e g = given_true _ _ (within_true S a _ claim) ∙ cc (e, g)

pointers_there : {S : Segments} {s p size n k c : ℕ} {a : Target} {ts : Trees} (f : ℕ → ℕ → Read Tree) → ListAt S s p a size n →
    Claims S a n → read_all (f a.segment) n a.start ≡ Some (ts, k) → c ≡ a.pads + n + k → read_pointers S f n a ≡ Some (Pointers ts, c)
pointers_there {S = S} {n = n} {k = k} {a = a} {ts = ts} f o claim r g =
    bind_some _ n (λ m. read_all (f a.segment) m a.start >>= λ x. Some (Pointers x.0, a.pads + n + x.1)) (given_true _ _ (within_true S a n claim))
    ∙ bind_some _ (ts, k) (λ x. Some (Pointers x.0, a.pads + n + x.1)) r
    ∙ cc g

-- n words after the tag of a list of structs are in the segment, and hold its elements es
record RowsAt (S : Segments) (a : Target) (n d q : ℕ) (es : Elements) : Type 0 where
  claims : Claims S a (n + 1)
  tag : IsTag (word_at S a.segment a.start) (element_count es) d q
  fits : element_count es * (d + q) ≤ n

-- a tag's word, its count and its two widths
record Tag : Type 0 where
  word : ℕ
  elements : ℕ
  data_of : ℕ
  pointers : ℕ

-- reading the elements after a tag
abbrev tagged : Segments → (ℕ → ℕ → Read Tree) → ℕ → Target → Tag → Read Tree
tagged S f n a g =
    given (nat_eq (kind g.word) 0) g.elements >>= λ _.
    given (nat_le (g.elements * (g.data_of + g.pointers)) n) g.elements >>= λ k.
    read_elements S (f a.segment) a.segment g.data_of g.pointers k (a.start + 1) >>= λ x.
    Some (Structs g.data_of g.pointers x.0, a.pads + (n + 1) + count_cost (g.data_of + g.pointers) g.elements + x.1)

elements_there : {S : Segments} {n d q k c : ℕ} {a : Target} {es : Elements} (f : ℕ → ℕ → Read Tree) → RowsAt S a n d q es →
    read_elements S (f a.segment) a.segment d q (element_count es) (a.start + 1) ≡ Some (es, k) →
    c ≡ a.pads + (n + 1) + count_cost (d + q) (element_count es) + k →
    tagged S f n a (record { word = word_at S a.segment a.start; elements = element_count es; data_of = d; pointers = q }) ≡ Some (Structs d q es, c)
elements_there {S = S} {n = n} {d = d} {q = q} {k = k} {a = a} {es = es} f o r e =
    bind_some _ (element_count es) (λ _. given (nat_le (element_count es * (d + q)) n) (element_count es) >>= λ k.
    read_elements S (f a.segment) a.segment d q k (a.start + 1) >>= λ x. Some (Structs d q x.0, a.pads + (n + 1) + count_cost (d + q) (element_count es) + x.1)) (given_true _ _ (eq-eqb _ _ o.tag.is_struct))
    ∙ bind_some _ (element_count es) (λ k.
    read_elements S (f a.segment) a.segment d q k (a.start + 1) >>= λ x. Some (Structs d q x.0, a.pads + (n + 1) + count_cost (d + q) (element_count es) + x.1)) (given_true _ _ (le-leb _ _ o.fits))
    ∙ bind_some _ (es, k) (λ x. Some (Structs d q x.0, a.pads + (n + 1) + count_cost (d + q) (element_count es) + x.1)) r
    ∙ cc e

structs_there : {S : Segments} {n d q k c : ℕ} {a : Target} {es : Elements} (f : ℕ → ℕ → Read Tree) → RowsAt S a n d q es →
    read_elements S (f a.segment) a.segment d q (element_count es) (a.start + 1) ≡ Some (es, k) →
    c ≡ a.pads + (n + 1) + count_cost (d + q) (element_count es) + k → read_structs S f n a ≡ Some (Structs d q es, c)
structs_there {S = S} {n = n} {d = d} {q = q} {a = a} {es = es} f o r g =
    let g' = word_at S a.segment a.start in
    bind_some _ g' (λ g. tagged S f n a (record { word = g; elements = offset_bits g; data_of = data_words g; pointers = pointer_count g })) (given_true _ _ (within_true S a (n + 1) o.claims))
    ∙ ap (λ m. tagged S f n a (record { word = g'; elements = m; data_of = data_words g'; pointers = pointer_count g' })) o.tag.counts
    ∙ ap (λ d. tagged S f n a (record { word = g'; elements = element_count es; data_of = d; pointers = pointer_count g' })) o.tag.data_of
    ∙ ap (λ q. tagged S f n a (record { word = g'; elements = element_count es; data_of = d; pointers = q })) o.tag.pointers
    ∙ elements_there f o r g

null_found : {c : ℕ} (S : Segments) (f : Target → Read Tree) (s p : ℕ) → word_at S s p ≡ 0 → c ≡ 0 → read_place S f s p ≡ Some (Null, c)
null_found S f s p e g =
    ap (λ b. cond b (Some (Null, 0)) (leads S s p >>= λ a. cond (nat_eq (a.word % 2 ^ 32) 3) (Some (Capability (upper_half a.word), a.pads)) (f a))) (eq-eqb _ _ e) ∙ cc g

-- a capability has the same meaning with any number of levels
capability_found : {i c : ℕ} (S : Segments) (f : Target → Read Tree) (s p : ℕ) → Means S 0 s p (Capability i) c → read_place S f s p ≡ Some (Capability i, c)
capability_found {i = i} S f s p (a, h, e, g) =
    let is_i : upper_half a.word ≡ i = omega arith in
    let low : a.word % 2 ^ 32 ≡ 3 = omega arith in
    ap (λ b. cond b (Some (Null, 0)) (leads S s p >>= λ a. cond (nat_eq (a.word % 2 ^ 32) 3) (Some (Capability (upper_half a.word), a.pads)) (f a))) (ne_eqb _ _ h.0)
    ∙ bind_some (leads S s p) a _ h.1
    ∙ ap (λ b. cond b (Some (Capability (upper_half a.word), a.pads)) (f a)) (eq-eqb _ _ low)
    ∙ cc (is_i, g)

flat_list : (S : Segments) (f : ℕ → ℕ → Read Tree) (size n : ℕ) (a : Target) → size ≤ 5 → read_list S f size n a ≡ read_flat S size n a
flat_list S f zero n a h = refl
flat_list S f (suc zero) n a h = refl
flat_list S f (suc (suc zero)) n a h = refl
flat_list S f (suc (suc (suc zero))) n a h = refl
flat_list S f (suc (suc (suc (suc zero)))) n a h = refl
flat_list S f (suc (suc (suc (suc (suc zero))))) n a h = refl
flat_list S f (suc (suc (suc (suc (suc (suc m)))))) n a h = absurd (omega arith)

list_object : {S : Segments} {s p size m : ℕ} {a : Target} (n : ℕ) → ListAt S s p a size m → decode S (suc n) s p ≡ read_list S (decode S n) size m a
unfolding decode
list_object {S = S} {s = s} {p = p} {a = a} n o =
    object_at S (λ a. read_object S (decode S n) (kind a.word) a) s p o.leads_to (omega (arith, o.is_list))
    ∙ ap (λ k. read_object S (decode S n) k a) o.is_list
    ∙ ap₂ (λ i j. read_list S (decode S n) i j a) o.is_size o.counts

mutual
  unfolding decode

  pub decode_finds : {c : ℕ} (S : Segments) (n s p : ℕ) (t : Tree) → Means S n s p t c → decode S n s p ≡ Some (t, c)
  decode_finds S zero s p Null (e, g) = null_found S _ s p e g
  decode_finds S (suc n) s p Null (e, g) = null_found S _ s p e g
  decode_finds S zero s p (Capability i) h = capability_found S _ s p h
  decode_finds S (suc n) s p (Capability i) h = capability_found S _ s p h
  decode_finds S zero s p (Struct ws ts) h = absurd (omega arith)
  decode_finds S (suc n) s p (Struct ws ts) (a, k, _, o, claim, e, all, g) =
      object_at S (λ a. read_object S (decode S n) (kind a.word) a) s p o.leads_to (omega (arith, o.is_struct))
      ∙ ap (λ m. read_object S (decode S n) m a) o.is_struct
      ∙ struct_there (decode S n) o claim e (all_found ts (record { means = all })) g
  decode_finds S zero s p (Flat size ns) h = absurd (omega arith)
  decode_finds S (suc n) s p (Flat size ns) (a, _, small, o, claim, e, g) =
      list_object n o
      ∙ flat_list S (decode S n) size (length ns) a small
      ∙ flat_there o claim e g
  decode_finds S zero s p (Pointers ts) h = absurd (omega arith)
  decode_finds S (suc n) s p (Pointers ts) (a, k, _, o, claim, all, g) =
      list_object n o
      ∙ pointers_there (decode S n) o claim (all_found ts (record { means = all })) g
  decode_finds S zero s p (Structs d q es) h = absurd (omega arith)
  decode_finds S (suc n) s p (Structs d q es) (a, m, k, _, o, claim, tag, fits, all, g) =
      list_object n o
      ∙ structs_there (decode S n) (let rows : RowsAt S a m d q es = record { claims = claim; tag = tag; fits = fits } in rows) (elements_found es (record { means = all })) g

  all_found : {S : Segments} {n s p c : ℕ} (ts : Trees) → AllMeant S n s p ts c → read_all (decode S n s) (count ts) p ≡ Some (ts, c)
  all_found no_trees h = cc h.means
  all_found {S = S} {n = n} {s = s} {p = p} (tree t ts) h =
      let (k, l, one, rest, g) = h.means in
      bind_some _ (t, k) (λ x. read_all (decode S n s) (count ts) (p + 1) >>= λ y. Some (tree x.0 y.0, x.1 + y.1)) (decode_finds S n s p t one)
      ∙ bind_some _ (ts, l) (λ y. Some (tree t y.0, k + y.1)) (all_found ts (record { means = rest }))
      ∙ cc g

  elements_found : {S : Segments} {n s p d q c : ℕ} (es : Elements) → ElementsMeant S n s p d q es c → read_elements S (decode S n s) s d q (element_count es) p ≡ Some (es, c)
  elements_found no_elements h = cc h.means
  elements_found {S = S} {n = n} {s = s} {p = p} {d = d} {q = q} (element ws ts es) h =
      let (k, l, long, len, e, all, rest, g) = h.means in
      let here : words_at S s p d ≡ ws = rw long at e in
      bind_some _ (ts, k) (λ x. read_elements S (decode S n s) s d q (element_count es) (p + d + q) >>= λ y. Some (element (words_at S s p d) x.0 y.0, x.1 + y.1))
      (ap (λ m. read_all (decode S n s) m (p + d)) (sym len) ∙ all_found ts (record { means = all }))
      ∙ bind_some _ (es, l) (λ y. Some (element (words_at S s p d) ts y.0, k + y.1)) (elements_found es (record { means = rest }))
      ∙ cc (here, g)
