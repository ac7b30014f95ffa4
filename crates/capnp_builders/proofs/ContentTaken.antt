-- A struct that takes content is stored as one struct: its data is written, its pointers become
-- null, and the first of these are filled. A pointer leads to it, or it is part of a value, such as
-- an element of a list.
use Rattle.std.proofs.Common.{◌≡◌, inl, inr, ℕ, zero, suc, pred, ◌+◌, ◌-◌, ◌*◌, ◌/◌, ◌%◌, ◌^◌, ◌<◌, ◌≤◌, min, List, [], ◌∷◌, length, get_or, slice_index, refl, sym, ap, ap₂, ◌∙◌, subst, le_of_eq, arith}
use Rattle.std.proofs.lemmas.Bool.{cases_eq}
use Rattle.std.proofs.lemmas.List.{length-set}
use Rattle.std.proofs.lemmas.Nat.{mod_below, pow_pos}
use Rattle.std.proofs.Math.Nat.{pow-le-pow_right}
use Rattle.capnp_format.specs.Forest.{target, target_in}
use Rattle.capnp_format.specs.Means.{Means, Leads}
use Rattle.capnp_format.specs.Segments.{Segments, segment, Target}
use Rattle.capnp_format.specs.Tree.{Tree, Null, Struct, Trees, no_trees, tree, count}
use Rattle.capnp_allocation.specs.Fields.{with_field}
use Rattle.capnp_format.specs.Fields.{with_bits, put_field, field_in}
use Rattle.capnp_allocation.specs.Filled.{AreFilled}
use Rattle.capnp_allocation.specs.Made.{nulls}
use Rattle.capnp_format.specs.Path.{Step, Child, tree_at, put_tree}
use Rattle.capnp_allocation.specs.Stored.{IsStored, IsReplaced}
use Rattle.capnp_allocation.proofs.Extents.{word_within}
use Rattle.capnp_in_place.proofs.Fields.BitsRead.{read_back, other_stays}
use Rattle.capnp_in_place.proofs.Fields.FieldWritten.{data_field_written}
use Rattle.capnp_allocation.proofs.Filling.{IsHolder, Holds, unchanged, still_leads, struct_holder, holder_put, holder_filled, put_from, null_at}
use Rattle.capnp_allocation.proofs.MadeWords.{IsPut, word_put}
use Rattle.capnp_allocation.proofs.Placed.{count-nulls}
use Rattle.capnp_allocation.proofs.Replace.{put_tree-count}
use Rattle.capnp_allocation.proofs.Replaced.{replaced_again}
use Rattle.capnp_readers.specs.declared.readers.struct_reader.StructPlace.{StructPlace}
use Rattle.capnp_builders.specs.Content.{content_byte, with_fields, fields_from, with_content, AreCleared, HoldContent, up_to, TakesBytes}
use Rattle.capnp_in_place.specs.Opening.{existing_struct}
use Rattle.capnp_builders.specs.Places.{struct_place}
use Rattle.capnp_builders.proofs.StructPlaces.{StructStartsAt, struct_starts}
use Rattle.capnp_allocation.specs.Memory.{start_of}

-- From S to R the value at a place that leads to a is replaced by another struct, and the place
-- still leads to a.
abbrev pub Turns : Segments → Segments → ℕ → ℕ → Target → Tree → Tree → Type 0
Turns S R s p a t u = IsReplaced S R s p t u × Leads R s p a

turns_again : {S R Q : Segments} {s p : ℕ} {a : Target} {t u w : Tree} → Turns S R s p a t u → Turns R Q s p a u w → Turns S Q s p a t w
turns_again {S} {R} {Q} {s} {p} {a} {t} {u} {w} x y = (replaced_again S R Q s p t u w x.0 y.0, y.1)

-- where the pointer to a stored struct leads
pub leads_of : (S : Segments) (s p : ℕ) (ws : List ℕ) (ts : Trees) → IsStored S s p (Struct ws ts) → Leads S s p (target S s p) × ((target S s p).start + (length ws + count ts) ≤ length (segment S (target S s p).segment))
leads_of S s p ws ts y = let m = y.means in leads_there m.0 m.1 m.2
  where
    leads_there : (n c : ℕ) → Means S n s p (Struct ws ts) c → Leads S s p (target S s p) × ((target S s p).start + (length ws + count ts) ≤ length (segment S (target S s p).segment))
    leads_there n c (b, k, some, o, claim, words, all, g) =
        subst (λ (t : Target). Leads S s p t × (t.start + (length ws + count ts) ≤ length (segment S t.segment))) (sym (ap target_in o.leads_to.1)) (o.leads_to, claim)

-- writing a field of the data section
field_put : (S : Segments) (s p : ℕ) (a : Target) (ws : List ℕ) (ts : Trees) (b w v : ℕ) → Holds (Struct ws) S s p a ts → b < 64 * length ws →
    Turns S (with_field S a.segment (64 * a.start + b) w v) s p a (Struct ws ts) (Struct (put_field ws b w v) ts)
field_put S s p a ws ts b w v h l =
    let R : Segments = with_field S a.segment (64 * a.start + b) w v in
    let at : ℕ = (64 * a.start + b) / 64 in
    let to_a = ap target_in h.leads.1 in
    let long : a.start + (length ws + count ts) ≤ length (segment S a.segment) =
    subst (λ (t : Target). t.start + (length ws + count ts) ≤ length (segment S t.segment)) to_a (leads_of S s p ws ts h.stored).1 in
    let put : IsPut S R a.segment at _ = word_put S R a.segment at _ (omega (arith, long, l)) refl in
    let done : IsReplaced S R s p (Struct ws ts) (Struct (put_field ws b w v) ts) =
    data_field_written S R s p ws ts b w v h.stored l (sym (ap (λ (t : Target). with_field S t.segment (64 * t.start + b) w v) to_a)) in
    let holder = struct_holder s p (count ts) a ws in
    let (more, parts, below) = holder.covers S ts refl h.leads in (
      done,
      still_leads S R s p (length ws + count ts) a (Struct ws ts) more h.leads h.stored parts (record { segments = le_of_eq (sym put.segments); words = λ u. le_of_eq (sym (put.words u)) })
          (λ v r z m. put.kept v r (omega (arith, z, word_within a (length ws + count ts) at v r (omega arith) (omega (arith, l))))),
    )

-- the data words after consecutive bytes were written
abbrev put_bytes : List ℕ → (ℕ → ℕ) → ℕ → List ℕ
put_bytes ws f zero = ws
put_bytes ws f (suc n) = put_field (put_bytes ws f n) (n * 8) 8 (f n)

put_bytes-length : (ws : List ℕ) (f : ℕ → ℕ) (n : ℕ) → length (put_bytes ws f n) ≡ length ws
put_bytes-length ws f zero = refl
put_bytes-length ws f (suc n) =
    let vs : List ℕ = put_bytes ws f n in
    length-set vs (n * 8 / 64) (with_bits (get_or vs (n * 8 / 64) 0) (n * 8 % 64) 8 (f n)) ∙ put_bytes-length ws f n

put_bytes-read : (ws : List ℕ) (f : ℕ → ℕ) (n i : ℕ) → ((j : ℕ) → f j < 2 ^ 8) → n ≤ 8 * length ws → i < n → field_in (put_bytes ws f n) (8 * i) 8 ≡ f i
put_bytes-read ws f zero i small fits l = absurd (omega arith)
put_bytes-read ws f (suc n) i small fits l =
    let vs : List ℕ = put_bytes ws f n in
    let there : n * 8 / 64 < length vs = omega (arith, fits, put_bytes-length ws f n) in
    elim (cases_eq i n) [
      | inl e ↦ (
          ap (λ b. field_in (put_field vs (n * 8) 8 (f n)) b 8) (let q : 8 * i ≡ n * 8 = omega (arith, e) in q) ∙ read_back vs (n * 8) 8 (f n) there (small n) ∙ ap f (sym e))
      | inr other ↦ (
          other_stays vs (n * 8) 8 (f n) (8 * i) 8 there (small n) (inr (omega (arith, l, other))) ∙ put_bytes-read ws f n i small (omega (arith, fits)) (omega (arith, l, other)))
    ]

-- A place holds the value F ws ts, which has a struct whose d data words start at position c, with
-- its q pointers after them; ws and ts are these words and children.
pub record IsContent (F : List ℕ → Trees → Tree) (path : ℕ → List Step) (s p d q : ℕ) (a : Target) (c n : ℕ) : Type 0 where
  pub holder : (ws : List ℕ) → length ws ≡ d → IsHolder (F ws) path s p q a (c + d) n
  pub field :
      (S : Segments) (ws : List ℕ) (ts : Trees) (b w v : ℕ) →
      Holds (F ws) S s p a ts →
      length ws ≡ d →
      count ts ≡ q →
      b < 64 * d →
      Turns S (with_field S a.segment (64 * c + b) w v) s p a (F ws ts) (F (put_field ws b w v) ts)

bytes_put : (F : List ℕ → Trees → Tree) (path : ℕ → List Step) (S : Segments) (s p d q : ℕ) (a : Target) (c o : ℕ) (ws : List ℕ) (ts : Trees) (f : ℕ → ℕ) (n : ℕ) → IsContent F path s p d q a c o → Holds (F ws) S s p a ts → length ws ≡ d → count ts ≡ q → n ≤ 8 * d →
    Turns S (with_fields S a.segment (fields_from (64 * c) 8 f) n) s p a (F ws ts) (F (put_bytes ws f n) ts)
bytes_put F path S s p d q a c o ws ts f zero h y long len fits = (unchanged S s p (F ws ts) y.stored, y.leads)
bytes_put F path S s p d q a c o ws ts f (suc n) h y long len fits =
    let before = bytes_put F path S s p d q a c o ws ts f n h y long len (omega (arith, fits)) in
    turns_again before
    (h.field (with_fields S a.segment (fields_from (64 * c) 8 f) n) (put_bytes ws f n) ts (n * 8) 8 (f n) (record { stored = before.0.stored; leads = before.1 }) (put_bytes-length ws f n ∙ long) len (omega (arith, fits)))

-- the first n children become null
abbrev clear_first : Trees → ℕ → Trees
clear_first X zero = X
clear_first X (suc n) = put_tree (clear_first X n) n Null

clear_first-count : (X : Trees) (n : ℕ) → count (clear_first X n) ≡ count X
clear_first-count X zero = refl
clear_first-count X (suc n) = put_tree-count (clear_first X n) n Null ∙ clear_first-count X n

clear_behind : (x : Tree) (X : Trees) (n : ℕ) → clear_first (tree x X) (suc n) ≡ tree Null (clear_first X n)
clear_behind x X zero = refl
clear_behind x X (suc n) = ap (λ Y. put_tree Y (suc n) Null) (clear_behind x X n)

clear_all : (X : Trees) → clear_first X (count X) ≡ nulls (count X)
clear_all no_trees = refl
clear_all (tree x X) = clear_behind x X (count X) ∙ ap (tree Null) (clear_all X)

cleared_first : (F : Trees → Tree) (path : ℕ → List Step) (S R : Segments) (s p q : ℕ) (a : Target) (b o : ℕ) (X : Trees) (n : ℕ) → IsHolder F path s p q a b o → Holds F S s p a X → count X ≡ q → n ≤ q → AreCleared S R a.segment b n →
    Turns S R s p a (F X) (F (clear_first X n))
cleared_first F path S R s p q a b o X zero h y len fits same = subst (λ T. Turns S T s p a (F X) (F X)) (sym same) (unchanged S s p (F X) y.stored, y.leads)
cleared_first F path S R s p q a b o X (suc n) h y len fits (M, first, last) =
    let before = cleared_first F path S M s p q a b o X n h y len (omega (arith, fits)) first in
    turns_again before
    (holder_put F path M R s p q a b o (clear_first X n) n Null h (record { stored = before.0.stored; leads = before.1 }) (clear_first-count X n ∙ len) (omega (arith, fits)) (last (tree_at (clear_first X n) n)))

-- children that replace nulls one after another
put_behind : (X us : Trees) (x : Tree) (i : ℕ) → put_from (tree x X) (suc i) us ≡ tree x (put_from X i us)
put_behind X no_trees x i = refl
put_behind X (tree u us) x i =
    ap (λ j. put_from (tree x (put_tree X i u)) j us) (let e : suc i + 1 ≡ suc (i + 1) = omega arith in e) ∙ put_behind (put_tree X i u) us x (i + 1)

put_up_to : (n : ℕ) (us : Trees) → count us ≤ n → put_from (nulls n) 0 us ≡ up_to n us
put_up_to n no_trees fits = refl
put_up_to zero (tree u us) fits = absurd (omega arith)
put_up_to (suc n) (tree u us) fits = put_behind (nulls n) us u 0 ∙ ap (tree u) (put_up_to n us (omega arith))

up_to-count : (n : ℕ) (us : Trees) → count us ≤ n → count (up_to n us) ≡ n
up_to-count n no_trees fits = count-nulls n
up_to-count zero (tree u us) fits = absurd (omega arith)
up_to-count (suc n) (tree u us) fits = ap suc (up_to-count n us (omega arith))

up_to-null : (n : ℕ) (us : Trees) → tree_at (up_to n us) (count us) ≡ Null
up_to-null n no_trees = null_at n 0
up_to-null n (tree u us) = up_to-null (pred n) us

up_to-put : (n : ℕ) (us : Trees) → put_tree (up_to n us) (count us) Null ≡ up_to n us
up_to-put zero no_trees = refl
up_to-put (suc n) no_trees = refl
up_to-put n (tree u us) = ap (tree u) (up_to-put (pred n) us)

-- all of this, at the place of the pointer that leads to the struct

small_content : (bits : ℕ) (bytes : List ℕ) (i : ℕ) → content_byte bits bytes i < 2 ^ 8
small_content bits bytes i =
    let k : ℕ = min 8 (bits - 8 * i) in
    omega (arith, mod_below (slice_index bytes i) (2 ^ k) (pow_pos k), pow-le-pow_right {n = 2} (omega arith) {i = k} {j = 8} (omega arith))

-- From S to R the value F ws ts becomes one with data words vs, which are those of the content, and
-- with these children.
abbrev pub HasTaken : (List ℕ → Trees → Tree) → Segments → Segments → ℕ → ℕ → ℕ → ℕ → Target → List ℕ → Trees → Trees → ℕ → List ℕ → Type 0
HasTaken F S R s p d q a ws ts us bits bytes = (vs : List ℕ) × HoldContent vs d bits bytes × Turns S R s p a (F ws ts) (F vs (up_to q us))

pub filled : (F : List ℕ → Trees → Tree) (path : ℕ → List Step) (S M R : Segments) (s p d q : ℕ) (a : Target) (c n : ℕ) (ws : List ℕ) (ts us : Trees) (place : StructPlace) (bits : ℕ) (bytes : List ℕ) → IsContent F path s p d q a c n → Holds (F ws) S s p a ts →
    length ws ≡ d → count ts ≡ q → StructStartsAt place a.segment c d q → TakesBytes S M place bits bytes → AreFilled M R place.segment place.pointers_at us → count us ≤ q → HasTaken F S R s p d q a ws ts us bits bytes
filled F path S M R s p d q a c n ws ts us place bits bytes h y wide len (of_segment, of_byte, of_bits, of_pointers, of_count) takes fills few =
    let f : ℕ → ℕ = content_byte bits bytes in
    let vs : List ℕ = put_bytes ws f (8 * d) in
    let T : Segments = with_fields S a.segment (fields_from (64 * c) 8 f) (8 * d) in
    let long : length vs ≡ d = put_bytes-length ws f (8 * d) ∙ wide in
    let content : with_content S place bits bytes ≡ T =
    ap (λ k. with_fields (with_fields S place.segment (fields_from (8 * place.byte) 8 f) (place.bits / 8)) place.segment (fields_from (8 * place.byte + place.bits / 8 * 8) 1 (λ j. f (place.bits / 8) / 2 ^ j % 2)) k) (let e : place.bits % 8 ≡ 0 = omega (arith, of_bits) in e)
    ∙ ap (λ z. with_fields S z (fields_from (8 * place.byte) 8 f) (place.bits / 8)) of_segment
    ∙ ap₂ (λ b k. with_fields S a.segment (fields_from b 8 f) k) (let e : 8 * place.byte ≡ 64 * c = omega (arith, of_byte) in e) (let e : place.bits / 8 ≡ 8 * d = omega (arith, of_bits) in e) in
    let holder : IsHolder (F vs) path s p q a (c + d) n = h.holder vs long in
    let first : Turns S T s p a (F ws ts) (F vs ts) = bytes_put F path S s p d q a c n ws ts f (8 * d) h y wide len (omega arith) in
    let clears : AreCleared T M a.segment (c + d) q = rw (content, of_segment, of_pointers, of_count) at takes in
    let then : Turns T M s p a (F vs ts) (F vs (nulls q)) =
    subst (λ X. Turns T M s p a (F vs ts) (F vs X)) (ap (clear_first ts) (sym len) ∙ clear_all ts ∙ ap nulls len)
    (cleared_first (F vs) path T M s p q a (c + d) n ts q holder (record { stored = first.0.stored; leads = first.1 }) len (omega arith) clears) in
    let fills_there : AreFilled M R a.segment (c + d) us = rw (of_segment, of_pointers) at fills in
    let last : Turns M R s p a (F vs (nulls q)) (F vs (put_from (nulls q) 0 us)) =
    holder_filled (F vs) path M R s p q a (c + d) n us holder (record { stored = then.0.stored; leads = then.1 }) few fills_there in (
      vs,
      (long, λ i l. put_bytes-read ws f (8 * d) i (small_content bits bytes) (omega (arith, wide)) l),
      turns_again first (turns_again then (subst (λ X. Turns M R s p a (F vs (nulls q)) (F vs X)) (put_up_to q us few) last)),
    )

-- the copy after the first ones is refused
pub stopped : (F : List ℕ → Trees → Tree) (path : ℕ → List Step) (S M K R : Segments) (s p d q : ℕ) (a : Target) (c n : ℕ) (ws : List ℕ) (ts us : Trees) (place : StructPlace) (bits : ℕ) (bytes : List ℕ) → IsContent F path s p d q a c n → Holds (F ws) S s p a ts →
    length ws ≡ d → count ts ≡ q → StructStartsAt place a.segment c d q → TakesBytes S M place bits bytes → AreFilled M K place.segment place.pointers_at us → count us < q →
    IsReplaced K R place.segment (place.pointers_at + count us) Null Null → HasTaken F S R s p d q a ws ts us bits bytes
stopped F path S M K R s p d q a c n ws ts us place bits bytes h y wide len (of_segment, of_byte, of_bits, of_pointers, of_count) takes fills fewer null =
    let (vs, hold, turns) = filled F path S M K s p d q a c n ws ts us place bits bytes h y wide len (of_segment, of_byte, of_bits, of_pointers, of_count) takes fills (omega (arith, fewer)) in
    let at : place.pointers_at + count us ≡ c + d + count us = omega (arith, of_pointers) in
    let null_there : IsReplaced K R a.segment (c + d + count us) Null Null = rw (of_segment, at) at null in
    let last : Turns K R s p a (F vs (up_to q us)) (F vs (put_tree (up_to q us) (count us) Null)) =
    holder_put (F vs) path K R s p q a (c + d) n (up_to q us) (count us) Null (h.holder vs hold.0) (record { stored = turns.0.stored; leads = turns.1 }) (up_to-count q us (omega (arith, fewer))) fewer
    (λ z. subst (λ t. IsReplaced K R a.segment (c + d + count us) t Null) (sym (up_to-null q us)) null_there) in
    (vs, hold, turns_again turns (subst (λ X. Turns K R s p a (F vs (up_to q us)) (F vs X)) (up_to-put q us) last))

-- a struct that a pointer leads to
pub struct_content : (s p d q : ℕ) (a : Target) → IsContent Struct (λ i. Child i ∷ []) s p d q a a.start (d + q)
struct_content s p d q a = record {
  holder = λ ws long. subst (λ k. IsHolder (Struct ws) (λ i. Child i ∷ []) s p q a (a.start + k) (k + q)) long (struct_holder s p q a ws);
  field = λ S ws ts b w v y long len l. field_put S s p a ws ts b w v y (omega (arith, l, long));
}

pub content_taken :
    (S M R : Segments) (s p : ℕ) (ws : List ℕ) (ts us : Trees) (place : StructPlace) (bits : ℕ)
    (bytes : List ℕ) → IsStored S s p (Struct ws ts)
    → place ≡ struct_place (existing_struct (start_of (target S s p))
    (record { data_words = length ws; pointers = count ts })) → TakesBytes S M place bits bytes
    → AreFilled M R place.segment place.pointers_at us → count us ≤ count ts
    → (vs : List ℕ) × HoldContent vs (length ws) bits bytes ×
    IsReplaced S R s p (Struct ws ts) (Struct vs (up_to (count ts) us)) ×
    (target R s p ≡ target S s p)
content_taken S M R s p ws ts us place bits bytes y is takes fills few =
    let a : Target = target S s p in
    let (vs, hold, turns) =
    filled Struct (λ i. Child i ∷ []) S M R s p (length ws) (count ts) a a.start (length ws + count ts) ws ts us place bits bytes (struct_content s p (length ws) (count ts) a) (record { stored = y; leads = (leads_of S s p ws ts y).0 }) refl refl (struct_starts place (existing_struct (start_of a) (record { data_words = length ws; pointers = count ts })) is) takes fills few in
    (vs, hold, turns.0, ap target_in turns.1.1)

pub content_stopped :
    (S M F R : Segments) (s p : ℕ) (ws : List ℕ) (ts us : Trees) (place : StructPlace) (bits : ℕ)
    (bytes : List ℕ) → IsStored S s p (Struct ws ts)
    → place ≡ struct_place (existing_struct (start_of (target S s p))
    (record { data_words = length ws; pointers = count ts })) → TakesBytes S M place bits bytes
    → AreFilled M F place.segment place.pointers_at us → count us < count ts →
    IsReplaced F R place.segment (place.pointers_at + count us) Null Null
    → (vs : List ℕ) × HoldContent vs (length ws) bits bytes ×
    IsReplaced S R s p (Struct ws ts) (Struct vs (up_to (count ts) us)) ×
    (target R s p ≡ target S s p)
content_stopped S M K R s p ws ts us place bits bytes y is takes fills fewer null =
    let a : Target = target S s p in
    let (vs, hold, turns) =
    stopped Struct (λ i. Child i ∷ []) S M K R s p (length ws) (count ts) a a.start (length ws + count ts) ws ts us place bits bytes (struct_content s p (length ws) (count ts) a) (record { stored = y; leads = (leads_of S s p ws ts y).0 }) refl refl (struct_starts place (existing_struct (start_of a) (record { data_words = length ws; pointers = count ts })) is) takes fills fewer null in
    (vs, hold, turns.0, ap target_in turns.1.1)
