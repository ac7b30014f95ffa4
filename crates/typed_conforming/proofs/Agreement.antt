-- The walk succeeds exactly if the value can be read and conforms; then it leaves what reading the
-- value leaves.
use Rattle.std.proofs.Common.{◌≡◌, ◌⊎◌, inl, inr, ℕ, zero, suc, pred, ◌+◌, ◌<◌, Option, Some, None, Result, Ok, Err, true, false, nat_eq, List, [], refl, sym, ap, ◌∙◌, subst, arith, add-zero, eq-eqb}
use Rattle.std.proofs.lemmas.Bool.{ne_eqb}
use Rattle.capnp_words.specs.declared.error.ErrorKind.{ErrorKind}
use Rattle.capnp_words.specs.Meter.{Meter}
use Rattle.capnp_format.specs.Word.{kind, data_words, pointer_count, element_size, list_count, offset_bits, upper_half}
use Rattle.capnp_format.specs.Segments.{Target}
use Rattle.capnp_format.specs.Tree.{Tree, Null, Capability, Struct, Pointers, Structs, tree, element}
use Rattle.capnp_pointers.specs.declared.object.Purpose.TheVariants.{Value}
use Rattle.capnp_pointers.specs.Demands.{tag}
use Rattle.capnp_pointers.specs.Enter.{Shape, nothing, capability, struct, flat, pointers, structs, shape}
use Rattle.capnp_pointers.specs.Metered.{Metered, answer, onward}
use Rattle.capnp_pointers.specs.Outcomes.{Entered}
use Rattle.capnp_pointers.specs.Reading.{Reading, place_past, word_of, words_from}
use Rattle.capnp_pointers.specs.Spending.{after_charge}
use Rattle.capnp_pointers.specs.Values.{read_values, read_element_values, object_value, value_within, value}
use Rattle.capnp_pointers.specs.Wanted.{plain}
use Rattle.capnp_pointers.proofs.OneObject.ReadAsStated.{null_is, capability_is, entering_is, stopped_is}
use Rattle.capnp_pointers.proofs.Decided.{same_or_not}
use Rattle.capnp_pointers.proofs.OneObject.ReadInOneWay.{Ends, at_capability, at_object, refused, ends}
use Rattle.capnp_pointers.proofs.WholeValue.ValueAgrees.{leaf_is, refusal_is, value_is}
use Rattle.typed_conforming.specs.declared.conforms.SchemaPointer.{SchemaPointer}
use Rattle.typed_conforming.specs.declared.schema.Misfit.{Misfit}
use Rattle.typed_conforming.specs.Tables.{row_below, table_below, wanted}
use Rattle.typed_conforming.specs.Conforms.{Conforms, ConformAll, ConformEach, ConformElements}
use Rattle.typed_conforming.specs.Walk.{PointerTest, TestOutcome, and_then, check_elements, check_place, check_pointers, check_within, misfit_at, schema_pointer}
use Rattle.typed_conforming.specs.Misfits.{kind_misfit}
use Rattle.typed_conforming.proofs.Fitting.{capability_fits, fits_capability, fits_flat, fits_pointers, fits_struct, fits_structs, flat_fits, null_conforms_to, pointers_fit, struct_fits, structs_fit}
use Rattle.typed_conforming.proofs.Steps.{children_test, leaf, null_conforms, opened, unfit, unread}

abbrev pub Outcome : Type 0 → Type 0
Outcome A = Result A ErrorKind × Meter

-- The walk has failed.
abbrev pub Failed : TestOutcome → Type 0
Failed o = (e : Misfit) × (m : Meter) × (o ≡ (Err e, m))

-- What the walk makes of what is read: it succeeds exactly if that has the property P.
abbrev pub Agrees : {A : Type 0} → (A → Type 0) → Outcome A → TestOutcome → Type 0
Agrees P (Ok x, m) o = ((o ≡ (Ok tt, m)) × P x) ⊎ (Failed o × (P x → ⊥))
Agrees P (Err e, m) o = Failed o

failed_on : (g : Meter → TestOutcome) (o : TestOutcome) → Failed o → Failed (and_then g o)
failed_on g o (e, m, is) = (e, m, ap (and_then g) is)

-- What is read is part of a value.
mapped : {A : Type 0} (P : A → Type 0) (Q : Tree → Type 0) (g : A → Tree) → ((x : A) → P x → Q (g x)) → ((x : A) → Q (g x) → P x) → (x : Outcome A) (o : TestOutcome) → Agrees P x o → Agrees Q (onward (λ y. answer (g y)) x) o
mapped P Q g there back (Ok x, m) o (inl (e, h)) = inl (e, there x h)
mapped P Q g there back (Ok x, m) o (inr (failed, h)) = inr (failed, λ q. h (back x q))
mapped P Q g there back (Err e, m) o failed = failed

never : {A : Type 0} (Q : Tree → Type 0) (g : A → Tree) → ((x : A) → Q (g x) → ⊥) → (x : Outcome A) (o : TestOutcome) → Failed o → Agrees Q (onward (λ y. answer (g y)) x) o
never Q g h (Ok x, m) o failed = inr (failed, h x)
never Q g h (Err e, m) o failed = failed

-- Two things are read, one after the other.
module _ {A B C : Type 0} (P : A → Type 0) (Q : B → Type 0) (R : C → Type 0) (g : A → B → C) (make : (a : A) (b : B) → P a → Q b → R (g a b)) (one : (a : A) (b : B) → R (g a b) → P a) (two : (a : A) (b : B) → R (g a b) → Q b) (w : Meter → TestOutcome) where
  join : (a : A) → P a → (x : Outcome B) (y : TestOutcome) → Agrees Q x y → Agrees R (onward (λ b. answer (g a b)) x) y
  join a p (Ok b, m) y (inl (e, q)) = inl (e, make a b p q)
  join a p (Ok b, m) y (inr (failed, not)) = inr (failed, λ r. not (two a b r))
  join a p (Err e, m) y failed = failed

  lost : (a : A) → (P a → ⊥) → (x : Outcome B) (y : TestOutcome) → Failed y → Agrees R (onward (λ b. answer (g a b)) x) y
  lost a not (Ok b, m) y failed = inr (failed, λ r. not (one a b r))
  lost a not (Err e, m) y failed = failed

  paired : (f : Metered B) → ((m : Meter) → Agrees Q (f m) (w m)) → (x : Outcome A) (o : TestOutcome) → Agrees P x o → Agrees R (onward (λ a m. onward (λ b. answer (g a b)) (f m)) x) (and_then w o)
  paired f h (Ok a, m) o (inl (e, p)) = subst (λ y. Agrees R (onward (λ b. answer (g a b)) (f m)) (and_then w y)) (sym e) (join a p (f m) (w m) (h m))
  paired f h (Ok a, m) o (inr (failed, not)) = lost a not (f m) (and_then w o) (failed_on w o failed)
  paired f h (Err e, m) o failed = failed_on w o failed

-- Consecutive pointers, of a struct and of a list; elements.
module _ (T : List ℕ) (row : ℕ) (f : Reading → Metered Tree) (w : PointerTest) (r : Reading) (h : (p : SchemaPointer) (at : ℕ) (m : Meter) → Agrees (Conforms T p.kind) (f (record r { at = at }) m) (w p (record r { at = at }) m)) where
  all_agree : (ws : List ℕ) (i q at : ℕ) (m : Meter) → Agrees (ConformAll T row ws i) (read_values f q (record r { at = at }) m) (check_pointers w (schema_pointer T row ws) i q (record r { at = at }) m)
  all_agree ws i zero at m = inl (refl, tt)
  all_agree ws i (suc q) at m =
      paired (Conforms T (wanted T row ws i)) (ConformAll T row ws (suc i)) (ConformAll T row ws i) tree (λ t ts x y. (x, y)) (λ t ts x. x.0) (λ t ts x. x.1)
      (check_pointers w (schema_pointer T row ws) (suc i) q (record r { at = at + 1 })) (read_values f q (record r { at = at + 1 })) (all_agree ws (suc i) q (at + 1))
      (f (record r { at = at }) m) (w (schema_pointer T row ws i) (record r { at = at }) m) (h (schema_pointer T row ws i) at m)

  answered : (o : TestOutcome) → and_then (λ m. (Ok tt, m)) o ≡ o
  answered (Ok x, m) = refl
  answered (Err e, m) = refl

  one_row : (d q : ℕ) (s : Reading) (m : Meter) → check_elements w (schema_pointer T row) d q 1 s m ≡ check_pointers w (schema_pointer T row (words_from s d)) 0 q (place_past s d) m
  one_row d q s m = answered (check_pointers w (schema_pointer T row (words_from s d)) 0 q (place_past s d) m)

  elements_agree : (d q n at : ℕ) (m : Meter) → Agrees (ConformElements T row) (read_element_values f d q n (record r { at = at }) m) (check_elements w (schema_pointer T row) d q n (record r { at = at }) m)
  elements_agree d q zero at m = inl (refl, tt)
  elements_agree d q (suc n) at m =
      let ws : List ℕ = words_from (record r { at = at }) d in
      paired (ConformAll T row ws 0) (ConformElements T row) (ConformElements T row) (λ ts es. element ws ts es) (λ ts es x y. (x, y)) (λ ts es x. x.0) (λ ts es x. x.1)
      (check_elements w (schema_pointer T row) d q n (record r { at = at + (d + q) })) (read_element_values f d q n (record r { at = at + (d + q) })) (elements_agree d q n (at + (d + q)))
      (read_values f q (record r { at = at + d }) m) (check_pointers w (schema_pointer T row ws) 0 q (record r { at = at + d }) m) (all_agree ws 0 q (at + d) m)

  each_is : (n at : ℕ) (m : Meter) → check_elements w (schema_pointer T row) 0 1 (suc n) (record r { at = at }) m ≡ and_then (check_elements w (schema_pointer T row) 0 1 n (record r { at = at + 1 })) (w (schema_pointer T row [] 0) (record r { at = at }) m)
  each_is n at m =
      ap (λ s. and_then (check_elements w (schema_pointer T row) 0 1 n (record r { at = at + 1 })) (and_then (λ m. (Ok tt, m)) (w (schema_pointer T row [] 0) (record r { at = s }) m))) (add-zero at)
      ∙ ap (and_then (check_elements w (schema_pointer T row) 0 1 n (record r { at = at + 1 }))) (answered (w (schema_pointer T row [] 0) (record r { at = at }) m))

  each_agree : (n at : ℕ) (m : Meter) → Agrees (ConformEach T row) (read_values f n (record r { at = at }) m) (check_elements w (schema_pointer T row) 0 1 n (record r { at = at }) m)
  each_agree zero at m = inl (refl, tt)
  each_agree (suc n) at m =
      rw (each_is n at m)
      (paired (Conforms T (wanted T row [] 0)) (ConformEach T row) (ConformEach T row) tree (λ t ts x y. (x, y)) (λ t ts x. x.0) (λ t ts x. x.1)
      (check_elements w (schema_pointer T row) 0 1 n (record r { at = at + 1 })) (read_values f n (record r { at = at + 1 })) (each_agree n (at + 1))
      (f (record r { at = at }) m) (w (schema_pointer T row [] 0) (record r { at = at }) m) (h (schema_pointer T row [] 0) at m))

-- An object that is entered, by its kind.
abbrev contents : Reading → Shape → Metered Tree
contents r = object_value (value_within plain (pred r.levels)) (λ s p. record r { levels = pred r.levels; segment = s; at = p })

abbrev Below : List ℕ → Reading → Type 0
Below T r = (p : SchemaPointer) (s at : ℕ) (m : Meter) → Agrees (Conforms T p.kind) (value_within plain (pred r.levels) (record r { levels = pred r.levels; segment = s; at = at }) m) (check_within T (pred r.levels) p (record r { levels = pred r.levels; segment = s; at = at }) m)

-- What the walk does: goes on if the object is what is wanted, and fails otherwise.
abbrev GoesOn : List ℕ → SchemaPointer → Reading → Meter → Meter → Shape → Type 0
GoesOn T k r m m' o = (kind_misfit k.kind r.segments o ≡ None → check_place T k r m ≡ children_test T k (pred r.levels) r o m') × ((e : ErrorKind) → kind_misfit k.kind r.segments o ≡ Some e → Failed (check_place T k r m))

-- There is an error, or none.
abbrev HasError : Option ErrorKind → Type 0
HasError o = (e : ErrorKind) × (o ≡ Some e)

decide : (o : Option ErrorKind) → (o ≡ None) ⊎ HasError o
decide None = inl refl
decide (Some e) = inr (e, refl)

not_both : {o : Option ErrorKind} → HasError o → o ≡ None → ⊥
not_both x f = let both = sym x.1 ∙ f in cc both

struct_agrees : (T : List ℕ) (k : SchemaPointer) (r : Reading) (m m' : Meter) (s p d q : ℕ) → Below (table_below T k.kind) r → GoesOn T k r m m' (struct s p d q) → Agrees (Conforms T k.kind) (contents r (struct s p d q) m') (check_place T k r m)
struct_agrees T k r m m' s p d q h on = elim (decide (kind_misfit k.kind r.segments (struct s p d q))) [
  | inl e ↦
      let c : Reading = record r { levels = pred r.levels; segment = s } in
      let f = value_within plain (pred r.levels) in
      let ws : List ℕ = words_from (record c { at = p }) d in
      rw (on.0 e ∙ one_row (table_below T k.kind) (row_below k.kind) (value_within plain (pred r.levels)) (check_within (table_below T k.kind) (pred r.levels)) c (λ k p m. h k s p m) d q (record c { at = p }) m')
      (mapped (ConformAll (table_below T k.kind) (row_below k.kind) ws 0) (Conforms T k.kind) (λ ts. Struct ws ts) (λ ts x. (struct_fits k.kind r.segments s p d q ws ts e, x)) (λ ts x. x.1) _ _ (all_agree (table_below T k.kind) (row_below k.kind) (value_within plain (pred r.levels)) (check_within (table_below T k.kind) (pred r.levels)) c (λ k p m. h k s p m) ws 0 q (p + d) m'))
  | inr e ↦ never (Conforms T k.kind) (λ ts. Struct (words_from (record r { levels = pred r.levels; segment = s; at = p }) d) ts) (λ ts x. not_both e (fits_struct k.kind r.segments s p d q _ ts x.0)) _ _ (on.1 e.0 e.1)
]

pointers_agree : (T : List ℕ) (k : SchemaPointer) (r : Reading) (m m' : Meter) (s p n : ℕ) → Below (table_below T k.kind) r → GoesOn T k r m m' (pointers s p n) → Agrees (Conforms T k.kind) (contents r (pointers s p n) m') (check_place T k r m)
pointers_agree T k r m m' s p n h on = elim (decide (kind_misfit k.kind r.segments (pointers s p n))) [
  | inl e ↦
      let c : Reading = record r { levels = pred r.levels; segment = s } in
      rw (on.0 e)
      (mapped (ConformEach (table_below T k.kind) (row_below k.kind)) (Conforms T k.kind) (λ ts. Pointers ts) (λ ts x. (pointers_fit k.kind r.segments s p n ts e, x)) (λ ts x. x.1) _ _ (each_agree (table_below T k.kind) (row_below k.kind) (value_within plain (pred r.levels)) (check_within (table_below T k.kind) (pred r.levels)) c (λ k p m. h k s p m) n p m'))
  | inr e ↦ never (Conforms T k.kind) (λ ts. Pointers ts) (λ ts x. not_both e (fits_pointers k.kind r.segments s p n ts x.0)) _ _ (on.1 e.0 e.1)
]

structs_agree : (T : List ℕ) (k : SchemaPointer) (r : Reading) (m m' : Meter) (s p d q n : ℕ) → Below (table_below T k.kind) r → GoesOn T k r m m' (structs s p d q n) → Agrees (Conforms T k.kind) (contents r (structs s p d q n) m') (check_place T k r m)
structs_agree T k r m m' s p d q n h on = elim (decide (kind_misfit k.kind r.segments (structs s p d q n))) [
  | inl e ↦
      let c : Reading = record r { levels = pred r.levels; segment = s } in
      rw (on.0 e)
      (mapped (ConformElements (table_below T k.kind) (row_below k.kind)) (Conforms T k.kind) (λ es. Structs d q es) (λ es x. (structs_fit k.kind r.segments s p d q n es e, x)) (λ es x. x.1) _ _ (elements_agree (table_below T k.kind) (row_below k.kind) (value_within plain (pred r.levels)) (check_within (table_below T k.kind) (pred r.levels)) c (λ k p m. h k s p m) d q n p m'))
  | inr e ↦ never (Conforms T k.kind) (λ es. Structs d q es) (λ es x. not_both e (fits_structs k.kind r.segments s p d q n es x.0)) _ _ (on.1 e.0 e.1)
]

flat_agrees : (T : List ℕ) (k : SchemaPointer) (r : Reading) (m m' : Meter) (s p size n : ℕ) → GoesOn T k r m m' (flat s p size n) → Agrees (Conforms T k.kind) (contents r (flat s p size n) m') (check_place T k r m)
flat_agrees T k r m m' s p size n on = elim (decide (kind_misfit k.kind r.segments (flat s p size n))) [
  | inl e ↦ inl (on.0 e, flat_fits k.kind r.segments s p size n e)
  | inr e ↦ inr (on.1 e.0 e.1, λ x. not_both e (fits_flat k.kind r.segments s p size n x))
]

object_agrees : (T : List ℕ) (k : SchemaPointer) (r : Reading) (m m' : Meter) (a : Target) → Entered Value r m m' a → Below (table_below T k.kind) r → GoesOn T k r m m' (shape r.segments a) → Agrees (Conforms T k.kind) (contents r (shape r.segments a) m') (check_place T k r m)
object_agrees T k r m m' a o h on = elim (same_or_not (kind a.word) 0) [
  | inl z ↦
      let is_struct : nat_eq (kind a.word) 0 ≡ true = eq-eqb _ _ z in
      rw is_struct (struct_agrees T k r m m' a.segment a.start (data_words a.word) (pointer_count a.word) h (rw is_struct at on))
  | inr other ↦
      let one : kind a.word ≡ 1 = let object = o.meets.is_object in omega (arith, object, other) in
      let list : nat_eq (kind a.word) 0 ≡ false = ne_eqb _ _ other in
      elim (same_or_not (element_size a.word) 7) [
        | inl seven ↦ let is_seven : nat_eq (element_size a.word) 7 ≡ true = eq-eqb _ _ seven in rw (list, is_seven) (structs_agree T k r m m' a.segment (a.start + 1) (data_words (tag r.segments a)) (pointer_count (tag r.segments a)) (offset_bits (tag r.segments a)) h (rw (list, is_seven) at on))
        | inr no_structs ↦
            let not_seven : nat_eq (element_size a.word) 7 ≡ false = ne_eqb _ _ no_structs in
            elim (same_or_not (element_size a.word) 6) [
              | inl six ↦ let is_six : nat_eq (element_size a.word) 6 ≡ true = eq-eqb _ _ six in rw (list, not_seven, is_six) (pointers_agree T k r m m' a.segment a.start (list_count a.word) h (rw (list, not_seven, is_six) at on))
              | inr no_pointers ↦
                  let not_six : nat_eq (element_size a.word) 6 ≡ false = ne_eqb _ _ no_pointers in
                  rw (list, not_seven, not_six) (flat_agrees T k r m m' a.segment a.start (element_size a.word) (list_count a.word) (rw (list, not_seven, not_six) at on))
            ]
      ]
]

place_agrees : (T : List ℕ) (k : SchemaPointer) (r : Reading) (m : Meter) → (0 < r.levels → Below (table_below T k.kind) r) → Agrees (Conforms T k.kind) (value plain r m) (check_place T k r m)
place_agrees T k r m h = elim (same_or_not (word_of r) 0) [
  | inl none ↦ rw (leaf_is plain r.levels r m m nothing (Ok Null, m) (null_is Value r m none) (λ f at. refl), null_conforms T k r m none) (inl (refl, null_conforms_to k.kind))
  | inr some ↦ go (ends Value r m some)
]
  where
    go : Ends Value r m → Agrees (Conforms T k.kind) (value plain r m) (check_place T k r m)
    go (at_capability a f low covered) =
        let o : Shape = capability (upper_half a.word) in
        let e = capability_is Value r a m (λ e. absurd (cc e)) f low covered in
        rw (leaf_is plain r.levels r m (after_charge r.charging m a.pads 1) o (Ok (Capability (upper_half a.word)), after_charge r.charging m a.pads 1) e (λ f at. refl))
        (elim (decide (kind_misfit k.kind r.segments o)) [
          | inl yes1 ↦ inl (leaf T k r m (after_charge r.charging m a.pads 1) o (λ f ps s m. refl) e yes1, capability_fits k.kind r.segments (upper_half a.word) yes1)
          | inr no1 ↦ inr ((_, _, unfit T k r m (after_charge r.charging m a.pads 1) o no1.0 e no1.1), λ x. not_both no1 (fits_capability k.kind r.segments (upper_half a.word) x))
        ])
    go (at_object a m' o) =
        let e = entering_is Value r m m' a o in
        rw (value_is plain r.levels r m m' (shape r.segments a) e o.meets.levels)
        (object_agrees T k r m m' a o (h o.meets.levels) (opened T k r m m' (shape r.segments a) o.meets.levels e, λ x e1. (_, _, unfit T k r m m' (shape r.segments a) x e e1)))
    go (refused x m' stopped) =
        let e = stopped_is Value r m m' x (λ e. absurd (cc e)) stopped in
        rw (refusal_is plain r.levels r m m' x e) (misfit_at k r x, m', unread T k r m m' x e)

agrees : (T : List ℕ) (n : ℕ) (k : SchemaPointer) (r : Reading) (m : Meter) → r.levels ≡ n → Agrees (Conforms T k.kind) (value plain r m) (check_place T k r m)
agrees T zero k r m e = place_agrees T k r m (λ some. absurd (omega (arith, some, e)))
agrees T (suc n) k r m e = place_agrees T k r m (λ some u s p m1. agrees (table_below T k.kind) n u (record r { levels = pred r.levels; segment = s; at = p }) m1 (omega (arith, e)))

-- at every place
pub place_conforms : (T : List ℕ) (k : SchemaPointer) (r : Reading) (m : Meter) → Agrees (Conforms T k.kind) (value plain r m) (check_place T k r m)
place_conforms T k r m = agrees T r.levels k r m refl
