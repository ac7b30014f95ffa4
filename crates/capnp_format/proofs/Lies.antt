-- If a value's pointer and body are at a place, the place means the value.
use Rattle.std.proofs.Common.{◌≡◌, ◌≢◌, inl, inr, ℕ, zero, suc, pred, ◌+◌, ◌-◌, ◌*◌, ◌^◌, ◌<◌, ◌≤◌, cond, nat_eq, List, [], ◌∷◌, ◌++◌, length, Some, refl, sym, ap, ◌∙◌, subst, arith, length-append, pow-add, pow_mono, pow-suc, lt_of_lt_of_le, ne_eqb, mul-zero}
use Rattle.std.proofs.lemmas.Bool.{cases_lt}
use Rattle.std.proofs.Math.Nat.{pow-zero}
use Rattle.capnp_format.specs.Word.{kind, offset_bits, capability_word, struct_word, list_word, is_double}
use Rattle.capnp_format.specs.Numbers.{words_for, unpacked, packed, element_bits, from_digits, digits}
use Rattle.capnp_format.specs.Segments.{Segments, segment, word_at, words_at, HasWords, near, far, ◌>>=◌}
use Rattle.capnp_format.specs.Tree.{Tree, Null, Capability, Struct, Flat, Pointers, Structs, Trees, no_trees, tree, Elements, no_elements, element, count, element_count, depth, depth_all, depth_elements}
use Rattle.capnp_format.specs.Means.{Leads, StructAt, ListAt, IsTag, Means, MeansAll, MeansElements}
use Rattle.capnp_format.specs.Canonical.{word_count, word_count_all, pointer, pointers, rows, body, bodies, element_bodies, ForOffset, OffsetsFit, RowsFit, IsEncodable, AreEncodable, AreEncodableElements, offset_to, Reaches, HasBodyAt, charge, charge_all, charge_elements}
use Rattle.capnp_format.specs.Value.{AreBelow, IsValue, AreValues, AreElements}
use Rattle.capnp_format.proofs.Digits.{length-digits, digits-from_digits, from_digits-below, from_digits-digits}
use Rattle.capnp_format.proofs.Lengths.{length-body, length-bodies, length-pointers, length-rows}
use Rattle.capnp_format.proofs.Slices.{has_words_first, has_words_rest, has_words_head, has_words_tail, has_words_within, moved}
use Rattle.capnp_format.proofs.Following.{IsOffsetTo, offset_at}

pub reaches_offset : (p h : ℕ) → Reaches p h → IsOffsetTo p (offset_to p h) h
reaches_offset p h r =
    elim (cases_lt h (p + 1)) [
      | inl l ↦ inr (backward_large p h r l, backward p h r l)
      | inr l ↦ inl (ahead_small p h r l, ahead p h r l)
    ]
  where
    ahead_small : (p h : ℕ) → Reaches p h → p + 1 ≤ h → offset_to p h < 2 ^ 29
    ahead_small p h r l = omega arith

    ahead : (p h : ℕ) → Reaches p h → p + 1 ≤ h → h ≡ p + 1 + offset_to p h
    ahead p h r l = omega arith

    backward_large : (p h : ℕ) → Reaches p h → h < p + 1 → 2 ^ 29 ≤ offset_to p h
    backward_large p h r l = omega arith

    backward : (p h : ℕ) → Reaches p h → h < p + 1 → h + 2 ^ 30 ≡ p + 1 + offset_to p h
    backward p h r l = omega arith

-- the offset of the word x, read at p, leads to h, which is inside the segment
pub record LandsAt (S : Segments) (s p x h : ℕ) : Type 0 where
  pub inside : h ≤ length (segment S s)
  pub offset : IsOffsetTo p (offset_bits x) h

pub near_leads : {S : Segments} {s p x h : ℕ} → word_at S s p ≡ x → kind x ≢ 2 → x ≢ 0 → LandsAt S s p x h → Leads S s p (record { word = x; segment = s; start = h; pads = 0 })
near_leads {S = S} {s = s} {p = p} {x = x} {h = h} e k z o = (
  (λ q. z (sym e ∙ q)),
  ap (λ y. cond (nat_eq (kind y) 2) (far S y (is_double y)) (near S s p y 0)) e
      ∙ ap (λ b. cond b (far S x (is_double x)) (near S s p x 0)) (ne_eqb _ _ k)
      ∙ ap (λ r. r >>= λ b. Some (record { word = x; segment = s; start = b; pads = 0 })) (offset_at (length (segment S s)) p (offset_bits x) h o.inside o.offset),
)

pub pow_pow : (b n : ℕ) → (2 ^ b) ^ n ≡ 2 ^ (b * n)
pow_pow b zero = pow-zero (2 ^ b) ∙ sym (pow-zero 2) ∙ ap (λ e. 2 ^ e) (sym (mul-zero b))
pow_pow b (suc n) = pow-suc (2 ^ b) n ∙ ap (λ x. x * 2 ^ b) (pow_pow b n) ∙ sym (pow-add 2 (b * n) b) ∙ ap (λ e. 2 ^ e) (let q : b * n + b ≡ b * suc n = omega arith in q)

pub unpacked-packed : (size : ℕ) (ns : List ℕ) → AreBelow (2 ^ element_bits size) ns → unpacked size (length ns) (packed size ns) ≡ ns
unpacked-packed size ns h =
    let x = from_digits (2 ^ element_bits size) ns in
    let small : x < 2 ^ (element_bits size * length ns) = rw pow_pow at (from_digits-below (2 ^ element_bits size) ns h) in
    let room : element_bits size * length ns ≤ 64 * words_for size (length ns) = omega arith in
    let fits : x < (2 ^ 64) ^ words_for size (length ns) = rw (pow_pow 64 (words_for size (length ns))) (lt_of_lt_of_le small (pow_mono room)) in
    ap (digits (2 ^ element_bits size) (length ns)) (from_digits-digits (2 ^ 64) (words_for size (length ns)) x (omega arith) fits)
    ∙ digits-from_digits (2 ^ element_bits size) ns h

-- the pointer of a value with its body k words after it has the offset k
offset_ahead : (p k : ℕ) → k < 2 ^ 29 → offset_to p (p + 1 + k) ≡ k
offset_ahead p k l = omega arith

pub pointer_ahead : (t : Tree) (p k : ℕ) → ForOffset t (k < 2 ^ 29) → pointer t (offset_to p (p + 1 + k)) ≡ pointer t k
pointer_ahead Null p k l = refl
pointer_ahead (Capability i) p k l = refl
pointer_ahead (Struct [] no_trees) p k l = refl
pointer_ahead (Struct [] (tree t ts)) p k l = ap (pointer (Struct [] (tree t ts))) (offset_ahead p k l)
pointer_ahead (Struct (x ∷ xs) ts) p k l = ap (pointer (Struct (x ∷ xs) ts)) (offset_ahead p k l)
pointer_ahead (Flat size ns) p k l = ap (pointer (Flat size ns)) (offset_ahead p k l)
pointer_ahead (Pointers ts) p k l = ap (pointer (Pointers ts)) (offset_ahead p k l)
pointer_ahead (Structs d q es) p k l = ap (pointer (Structs d q es)) (offset_ahead p k l)

reach_ahead : (p k : ℕ) → k < 2 ^ 29 → Reaches p (p + 1 + k)
reach_ahead p k l = (omega arith, omega arith)

pub reaches_ahead : (t : Tree) (p k : ℕ) → ForOffset t (k < 2 ^ 29) → ForOffset t (Reaches p (p + 1 + k))
reaches_ahead Null p k l = tt
reaches_ahead (Capability i) p k l = tt
reaches_ahead (Struct [] no_trees) p k l = tt
reaches_ahead (Struct [] (tree t ts)) p k l = reach_ahead p k l
reaches_ahead (Struct (x ∷ xs) ts) p k l = reach_ahead p k l
reaches_ahead (Flat size ns) p k l = reach_ahead p k l
reaches_ahead (Pointers ts) p k l = reach_ahead p k l
reaches_ahead (Structs d q es) p k l = reach_ahead p k l

-- a pointer at p reaches the body at h, which is inside the segment
record ReachesHead (S : Segments) (s p h : ℕ) : Type 0 where
  inside : h ≤ length (segment S s)
  reaches : Reaches p h

-- a struct's word, and where it leads
struct_at : {S : Segments} {s p h d q : ℕ} → d < 2 ^ 16 → q < 2 ^ 16 → 0 < d + q → ReachesHead S s p h → word_at S s p ≡ struct_word (offset_to p h) d q →
    StructAt S s p (record { word = struct_word (offset_to p h) d q; segment = s; start = h; pads = 0 }) d q
struct_at {S = S} {s = s} {p = p} {h = h} {d = d} {q = q} ld lq some r e =
    let x = struct_word (offset_to p h) d q in
    let small : offset_to p h < 2 ^ 30 = omega arith in
    let is_o : offset_bits x ≡ offset_to p h = omega arith in
    let lands : LandsAt S s p x h = record { inside = r.inside; offset = rw is_o (reaches_offset p h r.reaches) } in
    record { leads_to = near_leads e (omega arith) (omega arith) lands; is_struct = omega arith; data_of = omega arith; pointers = omega arith }

list_at : {S : Segments} {s p h size n : ℕ} → size < 8 → ReachesHead S s p h → word_at S s p ≡ list_word (offset_to p h) size n →
    ListAt S s p (record { word = list_word (offset_to p h) size n; segment = s; start = h; pads = 0 }) size n
list_at {S = S} {s = s} {p = p} {h = h} {size = size} {n = n} ls r e =
    let x = list_word (offset_to p h) size n in
    let small : offset_to p h < 2 ^ 30 = omega arith in
    let is_o : offset_bits x ≡ offset_to p h = omega arith in
    let lands : LandsAt S s p x h = record { inside = r.inside; offset = rw is_o (reaches_offset p h r.reaches) } in
    record { leads_to = near_leads e (omega arith) (omega arith) lands; is_list = omega arith; is_size = omega arith; counts = omega arith }

pub tag_is : (n d q : ℕ) → n < 2 ^ 30 → d < 2 ^ 16 → q < 2 ^ 16 → IsTag (struct_word n d q) n d q
tag_is n d q a b c = record { is_struct = omega arith; counts = omega arith; data_of = omega arith; pointers = omega arith }

-- S has the pointer of t at (s, p) and its body at h, both inside the segment
pub record LiesAt (S : Segments) (s p h : ℕ) (t : Tree) : Type 0 where
  pub place : p < length (segment S s)
  pub inside : h ≤ length (segment S s)
  pub lies : HasBodyAt S s p h t

-- the children mean ts with one level less than n
record InnerMeant (S : Segments) (n s p : ℕ) (ts : Trees) (c : ℕ) : Type 0 where
  some_levels : 0 < n
  means : MeansAll S (pred n) s p ts c

-- a struct's pointer and words, after its children are read
struct_lies : {S : Segments} {n s p h : ℕ} {ws : List ℕ} {ts : Trees} → length ws < 2 ^ 16 → count ts < 2 ^ 16 → LiesAt S s p h (Struct ws ts) →
    h + (length ws + count ts) ≤ length (segment S s) → InnerMeant S n s (h + length ws) ts (charge_all ts) → Means S n s p (Struct ws ts) (charge (Struct ws ts))
struct_lies {S = S} {s = s} {p = p} {ws = []} {ts = no_trees} lw lt at claim inner =
    let is_place = at.place in
    let lands : LandsAt S s p (struct_word (2 ^ 30 - 1) 0 0) p = record { inside = omega arith; offset = inr (omega arith, omega arith) } in (
      record { word = struct_word (2 ^ 30 - 1) 0 0; segment = s; start = p; pads = 0 },
      0,
      inner.some_levels,
      record { leads_to = near_leads at.lies.1 (omega arith) (omega arith) lands; is_struct = refl; data_of = refl; pointers = refl },
      omega arith,
      refl,
      refl,
      refl,
    )
struct_lies {S = S} {s = s} {p = p} {h = h} {ws = []} {ts = tree t ts} lw lt at claim inner =
    let head : ReachesHead S s p h = record { inside = at.inside; reaches = at.lies.0 } in (
      record { word = struct_word (offset_to p h) 0 (count (tree t ts)); segment = s; start = h; pads = 0 },
      charge_all (tree t ts),
      inner.some_levels,
      struct_at (omega arith) lt (omega arith) head at.lies.1,
      claim,
      refl,
      inner.means,
      omega arith,
    )
struct_lies {S = S} {s = s} {p = p} {h = h} {ws = x ∷ xs} {ts = ts} lw lt at claim inner =
    let head : ReachesHead S s p h = record { inside = at.inside; reaches = at.lies.0 } in (
      record { word = struct_word (offset_to p h) (length (x ∷ xs)) (count ts); segment = s; start = h; pads = 0 },
      charge_all ts,
      inner.some_levels,
      struct_at lw lt (omega arith) head at.lies.1,
      claim,
      has_words_first S s h (x ∷ xs) (pointers 0 ts) (has_words_first S s h ((x ∷ xs) ++ pointers 0 ts) (bodies ts) at.lies.2),
      inner.means,
      omega arith,
    )

-- the pointers of ts from p on, and their bodies k words after them
record AllLie (S : Segments) (s p k : ℕ) (ts : Trees) : Type 0 where
  fit : OffsetsFit k ts
  words : HasWords S s p (pointers k ts)
  behind : HasWords S s (p + count ts + k) (bodies ts)
  inside : p + count ts + k ≤ length (segment S s)

-- elements from p on, and the bodies of their children k words after them
record RowsLie (S : Segments) (s p d q k : ℕ) (es : Elements) : Type 0 where
  fit : RowsFit d q k es
  words : HasWords S s p (rows d q k es)
  behind : HasWords S s (p + element_count es * (d + q) + k) (element_bodies es)
  inside : p + element_count es * (d + q) + k ≤ length (segment S s)

mutual
  pub lies_means : {S : Segments} {s p h : ℕ} (n : ℕ) (t : Tree) → IsValue t → IsEncodable t → depth t ≤ n → LiesAt S s p h t → Means S n s p t (charge t)
  lies_means n Null v f levels at = (at.lies.1, refl)
  lies_means {S = S} {s = s} {p = p} {h = h} n (Capability i) v f levels at =
      let place = at.place in
      let l = at.inside in
      let lies = at.lies in
      let lands : LandsAt S s p (capability_word i) (p + 1) = record { inside = omega arith; offset = inl (omega arith, omega arith) } in (
        record { word = capability_word i; segment = s; start = p + 1; pads = 0 },
        near_leads lies.1 (omega arith) (omega arith) lands,
        refl,
        refl,
      )
  lies_means {S = S} {s = s} {p = p} {h = h} n (Struct ws ts) v f levels at =
      let place = at.place in
      let l = at.inside in
      let lies = at.lies in
      let object = has_words_first S s h (ws ++ pointers 0 ts) (bodies ts) lies.2 in
      let rest = has_words_rest S s h (ws ++ pointers 0 ts) (bodies ts) lies.2 in
      let heads = has_words_rest S s h ws (pointers 0 ts) object in
      let long = length-pointers 0 ts in
      let both : length (ws ++ pointers 0 ts) ≡ length ws + count ts = omega (arith, length-append ws (pointers 0 ts), long) in
      let claim : h + (length ws + count ts) ≤ length (segment S s) = omega (arith, both, has_words_within S s h (ws ++ pointers 0 ts) object l) in
      let all : AllLie S s (h + length ws) 0 ts = record {
        fit = f.0;
        words = heads;
        behind = moved S s (h + length (ws ++ pointers 0 ts)) (h + length ws + count ts + 0) (bodies ts) (omega (arith, both)) rest;
        inside = omega arith;
      } in
      let inner : InnerMeant S n s (h + length ws) ts (charge_all ts) = record { some_levels = omega arith; means = all_lie (pred n) ts v.3 f.1 (omega arith) all } in
      struct_lies v.0 v.1 at claim inner
  lies_means {S = S} {s = s} {p = p} {h = h} n (Flat size ns) v f levels at =
      let place = at.place in
      let l = at.inside in
      let lies = at.lies in
      let long : length (packed size ns) ≡ words_for size (length ns) = length-digits _ (words_for size (length ns)) _ in
      let here : words_at S s h (words_for size (length ns)) ≡ packed size ns = rw long at lies.2 in
      let head : ReachesHead S s p h = record { inside = l; reaches = lies.0 } in (
        record { word = list_word (offset_to p h) size (length ns); segment = s; start = h; pads = 0 },
        omega arith,
        v.0,
        list_at (omega (arith, v.0)) head lies.1,
        rw long at (has_words_within S s h (packed size ns) lies.2 l),
        sym (unpacked-packed size ns v.2) ∙ ap (unpacked size (length ns)) (sym here),
        omega arith,
      )
  lies_means {S = S} {s = s} {p = p} {h = h} n (Pointers ts) v f levels at =
      let place = at.place in
      let l = at.inside in
      let lies = at.lies in
      let first = has_words_first S s h (pointers 0 ts) (bodies ts) lies.2 in
      let rest = has_words_rest S s h (pointers 0 ts) (bodies ts) lies.2 in
      let long = length-pointers 0 ts in
      let claim : h + count ts ≤ length (segment S s) = omega (arith, long, has_words_within S s h (pointers 0 ts) first l) in
      let head : ReachesHead S s p h = record { inside = l; reaches = lies.0 } in
      let all : AllLie S s h 0 ts = record {
        fit = f.0;
        words = first;
        behind = moved S s (h + length (pointers 0 ts)) (h + count ts + 0) (bodies ts) (omega (arith, long)) rest;
        inside = omega arith;
      } in (
        record { word = list_word (offset_to p h) 6 (count ts); segment = s; start = h; pads = 0 },
        charge_all ts,
        omega arith,
        list_at (omega arith) head lies.1,
        claim,
        all_lie (pred n) ts v.1 f.1 (omega arith) all,
        omega arith,
      )
  lies_means {S = S} {s = s} {p = p} {h = h} n (Structs d q es) v f levels at =
      let place = at.place in
      let l = at.inside in
      let lies = at.lies in
      let g = struct_word (element_count es) d q in
      let object = has_words_first S s h (g ∷ rows d q 0 es) (element_bodies es) lies.2 in
      let rest = has_words_rest S s h (g ∷ rows d q 0 es) (element_bodies es) lies.2 in
      let long : length (rows d q 0 es) ≡ element_count es * (d + q) = length-rows d q 0 es v.4 in
      let claim : h + (element_count es * (d + q) + 1) ≤ length (segment S s) = omega (arith, long, has_words_within S s h (g ∷ rows d q 0 es) object l) in
      let head : ReachesHead S s p h = record { inside = l; reaches = lies.0 } in
      let row_words : RowsLie S s (h + 1) d q 0 es = record {
        fit = f.0;
        words = has_words_tail S s h g (rows d q 0 es) object;
        behind = moved S s (h + length (g ∷ rows d q 0 es)) (h + 1 + element_count es * (d + q) + 0) (element_bodies es) (omega (arith, long)) rest;
        inside = omega arith;
      } in (
        record { word = list_word (offset_to p h) 7 (element_count es * (d + q)); segment = s; start = h; pads = 0 },
        element_count es * (d + q),
        charge_elements es,
        omega arith,
        list_at (omega arith) head lies.1,
        claim,
        subst (λ x. IsTag x (element_count es) d q) (sym (has_words_head S s h g (rows d q 0 es) object)) (tag_is (element_count es) d q v.2 v.0 v.1),
        omega arith,
        rows_lie (pred n) es v.4 f.1 (omega arith) row_words,
        omega arith,
      )

  all_lie : {S : Segments} {s p k : ℕ} (n : ℕ) (ts : Trees) → AreValues ts → AreEncodable ts → depth_all ts ≤ n → AllLie S s p k ts → MeansAll S n s p ts (charge_all ts)
  all_lie n no_trees v f levels all = refl
  all_lie {S = S} {s = s} {p = p} {k = k} n (tree t ts) v f levels all =
      let l = all.inside in
      let j = count ts + k in
      let h = p + 1 + j in
      let x = has_words_head S s p (pointer t j) (pointers (k + word_count t) ts) all.words in
      let after = moved S s (p + suc (count ts) + k) h (body t ++ bodies ts) (omega arith) all.behind in
      let first = has_words_first S s h (body t) (bodies ts) after in
      let rest = has_words_rest S s h (body t) (bodies ts) after in
      let long = length-body t v.0 in
      let others : AllLie S s (p + 1) (k + word_count t) ts = record {
        fit = all.fit.1;
        words = has_words_tail S s p (pointer t j) (pointers (k + word_count t) ts) all.words;
        behind = moved S s (h + length (body t)) (p + 1 + count ts + (k + word_count t)) (bodies ts) (omega (arith, long)) rest;
        inside = omega (arith, long, has_words_within S s h (body t) first (omega arith));
      } in
      let at : LiesAt S s p h t = record { place = omega arith; inside = omega arith; lies = (reaches_ahead t p j all.fit.0, x ∙ sym (pointer_ahead t p j all.fit.0), first) } in (
        charge t,
        charge_all ts,
        lies_means n t v.0 f.0 (omega arith) at,
        all_lie n ts v.1 f.1 (omega arith) others,
        refl,
      )

  rows_lie : {S : Segments} {s p d q k : ℕ} (n : ℕ) (es : Elements) → AreElements d q es → AreEncodableElements es → depth_elements es ≤ n → RowsLie S s p d q k es →
      MeansElements S n s p d q es (charge_elements es)
  rows_lie n no_elements v f levels all = refl
  rows_lie {S = S} {s = s} {p = p} {d = d} {q = q} {k = k} n (element ws ts es) v f levels all =
      let l = all.inside in
      let more = element_count es * (d + q) in
      let row = has_words_first S s p (ws ++ pointers (more + k) ts) (rows d q (k + word_count_all ts) es) all.words in
      let others = has_words_rest S s p (ws ++ pointers (more + k) ts) (rows d q (k + word_count_all ts) es) all.words in
      let data_here = has_words_first S s p ws (pointers (more + k) ts) row in
      let heads = has_words_rest S s p ws (pointers (more + k) ts) row in
      let h = p + d + count ts + (more + k) in
      let long_row : length (ws ++ pointers (more + k) ts) ≡ d + q = omega (arith, length-append ws (pointers (more + k) ts), length-pointers (more + k) ts) in
      let after = moved S s (p + suc (element_count es) * (d + q) + k) h (bodies ts ++ element_bodies es) (omega arith) all.behind in
      let first = has_words_first S s h (bodies ts) (element_bodies es) after in
      let rest = has_words_rest S s h (bodies ts) (element_bodies es) after in
      let long = length-bodies ts v.3 in
      let children : AllLie S s (p + d) (more + k) ts = record {
        fit = all.fit.0;
        words = moved S s (p + length ws) (p + d) (pointers (more + k) ts) (omega arith) heads;
        behind = first;
        inside = omega arith;
      } in
      let next_rows : RowsLie S s (p + d + q) d q (k + word_count_all ts) es = record {
        fit = all.fit.1;
        words = moved S s (p + length (ws ++ pointers (more + k) ts)) (p + d + q) (rows d q (k + word_count_all ts) es) (omega (arith, long_row)) others;
        behind = moved S s (h + length (bodies ts)) (p + d + q + more + (k + word_count_all ts)) (element_bodies es) (omega (arith, long)) rest;
        inside = omega (arith, long, has_words_within S s h (bodies ts) first (omega arith));
      } in (
        charge_all ts,
        charge_elements es,
        v.0,
        v.1,
        data_here,
        all_lie n ts v.3 f.0 (omega arith) children,
        rows_lie n es v.4 f.1 (omega arith) next_rows,
        refl,
      )
