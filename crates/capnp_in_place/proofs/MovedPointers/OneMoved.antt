-- One pointer is moved.
use Rattle.std.proofs.Common.{List, None, Some, [], ap, arith, cond, eq-eqb, inl, inr, le_of_eq, le_trans, length, ne_eqb, refl, subst, sym, ℕ, ◌%◌, ◌*◌, ◌++◌, ◌+◌, ◌<◌, ◌^◌, ◌∙◌, ◌∷◌, ◌≡◌, ◌≢◌, ◌≤◌, ◌⊎◌}
use Rattle.std.proofs.lemmas.Bool.{cases_eq}
use Rattle.std.proofs.lemmas.List.{get_or_past}
use Rattle.capnp_format.specs.Word.{far_position, is_double, kind, offset_bits, upper_half}
use Rattle.capnp_format.specs.Segments.{Grows, Segments, Target, offset_leads, segment, word_at}
use Rattle.capnp_format.specs.Numbers.{words_for}
use Rattle.capnp_format.specs.Tree.{Capability, Flat, Null, Pointers, Struct, Structs, Tree, count, element_count}
use Rattle.capnp_format.specs.Means.{Leads, Means}
use Rattle.capnp_format.specs.Forest.{Interval, cover, cover_all, cover_elements, object_of, pads_of, target, times}
use Rattle.capnp_format.proofs.Following.{offset_is}
use Rattle.capnp_format.proofs.Frame.{Agree, frame, leads_agree, times-append}
use Rattle.capnp_arena_traits.specs.Written.{with_word}
use Rattle.capnp_format.specs.Path.{word_interval}
use Rattle.capnp_allocation.specs.Made.{IsShape}
use Rattle.capnp_allocation.specs.declared.making.Shape.{Shape}
use Rattle.capnp_allocation.specs.declared.making.Shape.TheVariants.{List as ListShape, Struct as StructShape}
use Rattle.capnp_arena_traits.specs.declared.arena.WordPlace.{WordPlace}
use Rattle.capnp_allocation.proofs.Extents.{once_held, times-first}
use Rattle.capnp_allocation.proofs.MadeWords.{is_far, not_far, once_row, word_put}
use Rattle.capnp_in_place.specs.Moved.{AreMoved, CanMove, HasValueInside, IsMoved, SameObject, fresh_pads}
use Rattle.capnp_in_place.specs.Pointed.{PointsTo}
use Rattle.capnp_in_place.proofs.MovedPointers.SameObjectSameValue.{copied_far_leads, near_found, near_leads}
use Rattle.capnp_in_place.proofs.WiderObjects.RemadeElsewhere.{own_pads}
use Rattle.capnp_in_place.proofs.WiderObjects.Statements.{Extends, IsPointed, SameStart, a_move, is_pointed}

-- A far pointer is copied unchanged.
pub moved_far : (S : Segments) (s p v r : ℕ) (a : Target) → Leads S s p a → kind (word_at S s p) ≡ 2 → word_at S v r ≡ word_at S s p → IsMoved S s p v r
moved_far S s p v r a l far e = inr (a, a, l, copied_far_leads S s p v r a e far l, record { same_kind = refl; same_sizes = refl; capability = λ low. low; same_start = inl (refl, refl) })

no_offset : (x : ℕ) → x % 2 ^ 32 ≡ 3 → (kind x ≡ 3) × (offset_bits x ≡ 0)
no_offset x low = (omega arith, omega arith)

-- A near capability is copied unchanged.
pub moved_capability : (S : Segments) (s p v r : ℕ) (a : Target) → Leads S s p a → kind (word_at S s p) ≢ 2 → a.word % 2 ^ 32 ≡ 3 → word_at S v r ≡ word_at S s p → r < length (segment S v) → IsMoved S s p v r
moved_capability S s p v r a l near low e place =
    let n = near_found S s p a near l.1 in
    let x = word_at S v r in
    let same : x ≡ a.word = e ∙ sym n.0 in
    let its : x % 2 ^ 32 ≡ 3 = ap (λ y. y % 2 ^ 32) same ∙ low in
    let f = no_offset x its in
    let there = near_leads S v r (r + 1) (λ z. l.0 (sym e ∙ z)) (λ z. omega (arith, f.0)) (omega arith) (inl (omega (arith, f.1), omega (arith, f.1))) in
    inr (a, record { word = x; segment = v; start = r + 1; pads = 0 }, l, there, record { same_kind = ap kind same; same_sizes = ap upper_half same; capability = λ z. its; same_start = inr (inr low) })

-- Later writes elsewhere leave a moved pointer moved.
pub moved_kept : (S R : Segments) (s p v r : ℕ) → Grows S R → word_at R s p ≡ word_at S s p → word_at R v r ≡ word_at S v r → Agree S R (pads_of (word_at S s p)) → Agree S R (pads_of (word_at S v r)) → IsMoved S s p v r → IsMoved R s p v r
moved_kept S R s p v r grows e f here there (inl (y, z)) = inl (e ∙ y, f ∙ z)
moved_kept S R s p v r grows e f here there (inr (a, b, l, k, same)) =
    inr (
      a,
      b,
      leads_agree (record { grows = grows; same = e }) here l,
      leads_agree (record { grows = grows; same = f }) there k,
      record {
        same_kind = same.same_kind;
        same_sizes = same.same_sizes;
        capability = same.capability;
        same_start = start same.same_start;
      },
    )
  where
    start : SameStart S a b → SameStart R a b
    start (inl same) = inl same
    start (inr (inl (y, z, w))) = inr (inl (y, z, le_trans w (grows.words b.segment)))
    start (inr (inr y)) = inr (inr y)

-- A value inside B is also in each message R that extends B.
pub stands_later : (B R : Segments) (s p : ℕ) → Extends B R → HasValueInside B s p → (t : Tree) × (n : ℕ) × (c : ℕ) × Means R n s p t c × (word_at R s p ≡ word_at B s p)
stands_later B R s p e (t, n, c, m, inside) =
    let whole = times-first (word_interval s p) (cover B s p t) in
    let same : word_at R s p ≡ word_at B s p = e.kept s p (inside s p (omega (arith, whole s p, once_held s p))) in
    (t, n, c, (frame B R n s p t c e.grows same (λ v r l. e.kept v r (inside v r (omega (arith, whole v r)))) m).0, same)

-- The landing pads of a pointer that means a value are part of what the value covers.
pub pads_covered : (S : Segments) (n s p : ℕ) (t : Tree) (c : ℕ) → Means S n s p t c → (x y : ℕ) → times (pads_of (word_at S s p)) x y ≤ times (cover S s p t) x y
pads_covered S n s p Null c m x y = omega (arith, ap (λ w. times (pads_of w) x y) m.0)
pads_covered S n s p (Capability i) c m x y = omega arith
pads_covered S n s p (Struct ws ts) c m x y =
    omega (arith, times-append (pads_of (word_at S s p)) (object_of (target S s p) (length ws + count ts) ∷ cover_all S (target S s p).segment ((target S s p).start + length ws) ts) x y)
pads_covered S n s p (Flat size ns) c m x y = omega (arith, times-append (pads_of (word_at S s p)) (object_of (target S s p) (words_for size (length ns)) ∷ []) x y)
pads_covered S n s p (Pointers ts) c m x y =
    omega (arith, times-append (pads_of (word_at S s p)) (object_of (target S s p) (count ts) ∷ cover_all S (target S s p).segment (target S s p).start ts) x y)
pads_covered S n s p (Structs d q es) c m x y =
    omega (arith, times-append (pads_of (word_at S s p)) (object_of (target S s p) (1 + element_count es * (d + q)) ∷ cover_elements S (target S s p).segment ((target S s p).start + 1) d q es) x y)

-- The landing pads of a pointer of B that means a value are inside B.
pub old_pads_inside : (B S : Segments) (s p : ℕ) → Extends B S → HasValueInside B s p → (x y : ℕ) → 0 < times (pads_of (word_at S s p)) x y → y < length (segment B x)
old_pads_inside B S s p e (t, n, c, m, inside) x y h =
    let here = inside s p (omega (arith, times-first (word_interval s p) (cover B s p t) s p, once_held s p)) in
    inside x y (omega (arith, times-first (word_interval s p) (cover B s p t) x y, pads_covered B n s p t c m x y, ap (λ w. times (pads_of w) x y) (e.kept s p here)))

-- What a pointer leads to that means a value and isn't null.
pub means_leads : (S : Segments) (n s p : ℕ) (t : Tree) (c : ℕ) → word_at S s p ≢ 0 → Means S n s p t c → (a : Target) × Leads S s p a × ((kind a.word < 2) ⊎ (a.word % 2 ^ 32 ≡ 3))
means_leads S n s p Null c some m = absurd (some m.0)
means_leads S n s p (Capability i) c some (a, l, e, g) = (a, l, inr (omega arith))
means_leads S n s p (Struct ws ts) c some (a, k, levels, o, claim, e, all, g) = (a, o.leads_to, inl (omega (arith, o.is_struct)))
means_leads S n s p (Flat size ns) c some (a, levels, small, o, claim, e, g) = (a, o.leads_to, inl (omega (arith, o.is_list)))
means_leads S n s p (Pointers ts) c some (a, k, levels, o, claim, all, g) = (a, o.leads_to, inl (omega (arith, o.is_list)))
means_leads S n s p (Structs d q es) c some (a, m, k, levels, o, claim, tag, fits, all, g) = (a, o.leads_to, inl (omega (arith, o.is_list)))

-- Words of one shape have the same kind and sizes.
pub same_shape : (shape : Shape) (x y : ℕ) → IsShape shape x → IsShape shape y → (kind y ≡ kind x) × (upper_half y ≡ upper_half x) × (kind x < 2)
same_shape (StructShape size) x y (a, b, c) (d, e, f) = (omega arith, omega arith, omega arith)
same_shape (ListShape size n) x y (a, b, c) (d, e, f) = (omega arith, omega arith, omega arith)

-- The pads of one pointer.
own_of_far : (R : Segments) (s p v r : ℕ) → kind (word_at R s p) ≡ 2 → own_pads R (a_move s p v r) ≡ []
own_of_far R s p v r far = ap (λ b. cond b [] (pads_of (word_at R v r))) (eq-eqb (kind (word_at R s p)) 2 far)

own_of_near : (R : Segments) (s p v r : ℕ) → kind (word_at R s p) ≢ 2 → own_pads R (a_move s p v r) ≡ pads_of (word_at R v r)
own_of_near R s p v r near = ap (λ b. cond b [] (pads_of (word_at R v r))) (ne_eqb (kind (word_at R s p)) 2 near)

pub pads_once : (x v r : ℕ) → times (pads_of x) v r ≤ 1
pads_once x v r = elim (cases_eq (kind x) 2) [
  | inl far ↦ omega (arith, ap (λ js. times js v r) (is_far x far), once_row (upper_half x) (far_position x) (1 + is_double x) v r)
  | inr near ↦ omega (arith, ap (λ js. times js v r) (not_far x near))
]

alone : (is : List Interval) (v r : ℕ) → times (is ++ []) v r ≡ times is v r
alone is v r = omega (arith, times-append is [] v r)

-- The old place is inside B, and the new one isn't.
pub apart_places : (B S : Segments) (s p v r : ℕ) → CanMove B S (a_move s p v r ∷ []) → times (word_interval v r ∷ []) s p ≡ 0
apart_places B S s p v r c = elim (cases_eq (times (word_interval v r ∷ []) s p) 0) [
  | inl e ↦ e
  | inr e ↦ (let (t, n, k, m, inside) = c.stand.0 in absurd (omega (arith, inside s p (omega (arith, times-first (word_interval s p) (cover B s p t) s p, once_held s p)), (c.behind s p (omega arith)).0)))
]

pub place_there : (B S : Segments) (s p v r : ℕ) → CanMove B S (a_move s p v r ∷ []) → (p < length (segment B s)) × (r < length (segment S v)) × (word_at S v r ≡ 0)
place_there B S s p v r c =
    let (t, n, k, m, inside) = c.stand.0 in
    let b = c.behind v r (omega (arith, once_held v r)) in
    (inside s p (omega (arith, times-first (word_interval s p) (cover B s p t) s p, once_held s p)), b.1, b.2)

-- A far pointer or a capability is copied unchanged.
pub copied_moves : (B S R : Segments) (s p v r : ℕ) → word_at S s p ≢ 0 → 2 ≤ kind (word_at S s p) → R ≡ with_word S v r (word_at S s p) → CanMove B S (a_move s p v r ∷ []) → AreMoved S R (a_move s p v r ∷ [])
copied_moves B S R s p v r some other e c =
    let x = word_at S s p in
    let here = place_there B S s p v r c in
    let put = word_put S R v r x here.1 e in
    let old : word_at R s p ≡ x = put.kept s p (apart_places B S s p v r c) in
    let (t, n, k, m, stays) = stands_later B S s p (record { grows = c.grows; kept = c.kept }) c.stand.0 in
    let (a, l, what) = means_leads S n s p t k some m in
    let grows : Grows S R = record { segments = le_of_eq (sym put.segments); words = λ y. le_of_eq (sym (put.words y)) } in
    let untouched = λ (y z : ℕ) (w : z < length (segment B y)). (let f : word_at R y z ≡ word_at S y z = put.kept y z (not_behind y z w) in f) in
    let pads_stay : Agree S R (pads_of (word_at S s p)) = λ y z h. untouched y z (pads_inside y z h) in
    let l' : Leads R s p a = leads_agree (record { grows = grows; same = old }) pads_stay l in
    let ends = λ (moved : IsMoved R s p v r) (own : (y z : ℕ) → times (own_pads R (a_move s p v r)) y z ≡ 0) (same : (y z : ℕ) → times (pads_of (word_at R v r)) y z ≡ times (pads_of (word_at R s p)) y z).
    (let no_fresh = λ (y z : ℕ). (let f : times (fresh_pads R (a_move s p v r ∷ [])) y z ≡ 0 = omega (arith, alone (own_pads R (a_move s p v r)) y z, own y z) in f) in
    let done : AreMoved S R (a_move s p v r ∷ []) = record {
      grows = grows;
      moved = (moved, tt);
      kept = λ y z h w. put.kept y z h;
      sums = λ y z. omega (arith, no_fresh y z, alone (pads_of (word_at R v r)) y z, alone (pads_of (word_at R s p)) y z, same y z);
      fresh = λ y z w. absurd (omega (arith, no_fresh y z));
      once = λ y z. omega (arith, no_fresh y z);
      zero = λ y z h w. get_or_past (segment R y) z 0 (omega (arith, put.words y));
    } in done) in
    elim (cases_eq (kind x) 2) [
      | inl far ↦ ends (moved_far R s p v r a l' (ap kind old ∙ far) (put.here ∙ sym old)) (λ y z. ap (λ js. times js y z) (own_of_far R s p v r (ap kind old ∙ far))) (λ y z. ap (λ w. times (pads_of w) y z) (put.here ∙ sym old))
      | inr near ↦ (
          let found = near_found S s p a near l.1 in
          let cap : a.word % 2 ^ 32 ≡ 3 = elim what [ inl w ↦ absurd (omega (arith, ap kind found.0)) | inr w ↦ w ] in
          let not_two : kind (word_at R s p) ≢ 2 = λ f. near (ap kind (sym old) ∙ f) in
          let none = λ (y z : ℕ). (let f : times (pads_of (word_at R v r)) y z ≡ 0 = ap (λ w. times (pads_of w) y z) put.here ∙ ap (λ js. times js y z) (not_far x near) in f) in
          ends (moved_capability R s p v r a l' not_two cap (put.here ∙ sym old) (omega (arith, here.1, put.words v))) (λ y z. ap (λ js. times js y z) (own_of_near R s p v r not_two) ∙ none y z) (λ y z. ap (λ w. times (pads_of w) y z) (put.here ∙ sym old))
          )
    ]
  where
    not_behind : (y z : ℕ) → z < length (segment B y) → times (word_interval v r ∷ []) y z ≡ 0
    not_behind y z w = elim (cases_eq (times (word_interval v r ∷ []) y z) 0) [
      | inl f ↦ f
      | inr f ↦ absurd (omega (arith, (c.behind y z (omega arith)).0))
    ]

    pads_inside : (y z : ℕ) → 0 < times (pads_of (word_at S s p)) y z → z < length (segment B y)
    pads_inside y z h = old_pads_inside B S s p (record { grows = c.grows; kept = c.kept }) c.stand.0 y z h

-- A near pointer is rewritten to where it leads.
pub near_moves : (B S R : Segments) (s p v r start : ℕ) (shape : Shape) (h at : WordPlace) → word_at S s p ≢ 0 → IsShape shape (word_at S s p) → offset_leads (length (segment S s)) p (offset_bits (word_at S s p)) ≡ Some start →
    h.segment ≡ s → h.at ≡ start → at.segment ≡ v → at.at ≡ r → PointsTo S R shape h at → CanMove B S (a_move s p v r ∷ []) → AreMoved S R (a_move s p v r ∷ [])
near_moves B S R s p v r start shape h at some shaped goes hs ha vs rs points c =
    let b = points.object in
    let w = is_pointed points in
    let kind_of = points.is_shape in
    let lies = points.starts in
    let x = word_at S s p in
    let here = place_there B S s p v r c in
    let w' : IsPointed S R v r b = subst (λ z. IsPointed S R z r b) vs (subst (λ z. IsPointed S R at.segment z b) rs w) in
    let same = same_shape shape x b.word shaped kind_of in
    let near : kind x ≢ 2 = λ e. omega (arith, same.2) in
    let o = offset_is (length (segment S s)) p (offset_bits x) start goes in
    let a : Target = record { word = x; segment = s; start = start; pads = 0 } in
    let l : Leads S s p a = near_leads S s p start some near o.0 o.1 in
    let long : p < length (segment S s) = omega (arith, here.0, c.grows.words s) in
    let old : word_at R s p ≡ x = w'.kept s p (apart_places B S s p v r c) long in
    let l' : Leads R s p a = leads_agree (record { grows = w'.grows; same = old }) (λ y z m. absurd (omega (arith, ap (λ js. times js y z) (not_far x near)))) l in
    let not_two : kind (word_at R s p) ≢ 2 = λ f. near (ap kind (sym old) ∙ f) in
    let own = own_of_near R s p v r not_two in
    let none = λ (y z : ℕ). (let f : times (pads_of (word_at R s p)) y z ≡ 0 = ap (λ u. times (pads_of u) y z) old ∙ ap (λ js. times js y z) (not_far x near) in f) in
    let all = λ (y z : ℕ). (let f : times (fresh_pads R (a_move s p v r ∷ [])) y z ≡ times (pads_of (word_at R v r)) y z = alone (own_pads R (a_move s p v r)) y z ∙ ap (λ js. times js y z) own in f) in
    let object : SameObject R a b = record {
      same_kind = same.0;
      same_sizes = same.1;
      capability = λ low. absurd (omega (arith, same.2));
      same_start = elim lies [
        | inl (i, j) ↦ inl (i ∙ hs, j ∙ ha)
        | inr (i, j) ↦ inr (inl (sym same.0 ∙ i, sym same.1 ∙ j, w'.inside))
      ];
    } in
    record {
      grows = w'.grows;
      moved = (inr (a, b, l', w'.leads_there, object), tt);
      kept = λ y z g m. w'.kept y z (omega (arith, g)) m;
      sums = λ y z. omega (arith, all y z, alone (pads_of (word_at R v r)) y z, alone (pads_of (word_at R s p)) y z, none y z);
      fresh = λ y z m. w'.fresh y z (omega (arith, all y z));
      once = λ y z. omega (arith, all y z, pads_once (word_at R v r) y z);
      zero = λ y z g m. w'.zero y z (omega (arith, all y z)) m;
    }

-- A near pointer that leads nowhere means nothing.
pub means_nothing : (B S : Segments) (s p v r : ℕ) → word_at S s p ≢ 0 → kind (word_at S s p) ≢ 2 → offset_leads (length (segment S s)) p (offset_bits (word_at S s p)) ≡ None → CanMove B S (a_move s p v r ∷ []) → ⊥
means_nothing B S s p v r some near goes c =
    let (t, n, k, m, stays) = stands_later B S s p (record { grows = c.grows; kept = c.kept }) c.stand.0 in
    let (a, l, what) = means_leads S n s p t k some m in
    let found = near_found S s p a near l.1 in
    let e = goes in
    let f = found.3 in
    cc
