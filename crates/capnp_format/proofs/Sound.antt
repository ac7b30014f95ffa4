-- A place means what `decode` reads there.
use Rattle.std.proofs.Common.{◌≡◌, ℕ, zero, suc, ◌+◌, ◌*◌, ◌%◌, ◌^◌, ◌≤◌, Bool, true, false, cond, nat_eq, length, Option, Some, None, IfSome, refl, sym, ap, subst, arith, eqb-true, leb-true}
use Rattle.std.proofs.lemmas.Bool.{eqb-false}
use Rattle.capnp_format.specs.Word.{kind, data_words, pointer_count, element_size, list_count, upper_half, offset_bits}
use Rattle.capnp_format.specs.Numbers.{words_for, unpacked}
use Rattle.capnp_format.specs.Segments.{Segments, segment, word_at, words_at, Target, leads, ◌>>=◌, given}
use Rattle.capnp_format.specs.Tree.{Tree, Null, Capability, Struct, Flat, Pointers, Structs, tree, element, count, element_count}
use Rattle.capnp_format.specs.Means.{Leads, ListAt, count_cost, Means, MeansAll, MeansElements}
use Rattle.capnp_format.proofs.Digits.{length-digits}
use Rattle.capnp_format.proofs.Slices.{length_words}
use Rattle.capnp_format.proofs.Meanings.{struct_meaning, flat_meaning, pointers_meaning}
use Rattle.capnp_format.specs.Decode.{Read, read_all, read_elements, within, read_struct, read_flat, read_pointers, read_structs, read_list, read_object, read_place, decode}

pub if_bind : {A B : Type 0} (P : B → Type 0) (o : Option A) (f : A → Option B) → ((x : A) → o ≡ Some x → IfSome (f x) P) → IfSome (o >>= f) P
if_bind P (Some x) f h = h x refl
if_bind P None f h = tt

pub if_given : {A B : Type 0} (P : B → Type 0) (b : Bool) (x : A) (f : A → Option B) → (b ≡ true → IfSome (f x) P) → IfSome (given b x >>= f) P
if_given P true x f h = h refl
if_given P false x f h = tt

pub if_cond : {A : Type 0} (P : A → Type 0) (b : Bool) (x : A) (o : Option A) → (b ≡ true → P x) → (b ≡ false → IfSome o P) → IfSome (cond b (Some x) o) P
if_cond P true x o yes_case no_case = yes_case refl
if_cond P false x o yes_case no_case = no_case refl

pub if_cond_only : {A : Type 0} (P : A → Type 0) (b : Bool) (x : A) → (b ≡ true → P x) → IfSome (given b x) P
if_cond_only P true x h = h refl
if_cond_only P false x h = tt

pub at_some : {A : Type 0} (P : A → Type 0) (o : Option A) (x : A) → o ≡ Some x → IfSome o P → P x
at_some P (Some y) x e h = rw (let q : y ≡ x = cc e in q) at h
at_some P None x e h = absurd (cc e)

-- each value that f reads at a place is meant there, within n levels
record GivesMeant (S : Segments) (n : ℕ) (f : ℕ → ℕ → Read Tree) : Type 0 where
  at : (s p : ℕ) → IfSome (f s p) (λ r. Means S n s p r.0 r.1)

-- m elements of d data words and q pointers are inside their segment
record HasRows (S : Segments) (s p d q m : ℕ) : Type 0 where
  fits : p + m * (d + q) ≤ length (segment S s)

all_means : {S : Segments} {n : ℕ} {f : ℕ → ℕ → Read Tree} → GivesMeant S n f → (s m p : ℕ) → IfSome (read_all (f s) m p) (λ r. (count r.0 ≡ m) × MeansAll S n s p r.0 r.1)
all_means h s zero p = (refl, refl)
all_means {S = S} {n = n} {f = f} h s (suc m) p =
    if_bind _ (f s p) (λ x. read_all (f s) m (p + 1) >>= λ y. Some (tree x.0 y.0, x.1 + y.1)) (λ x e.
    if_bind (λ r. (count r.0 ≡ suc m) × MeansAll S n s p r.0 r.1) (read_all (f s) m (p + 1)) (λ y. Some (tree x.0 y.0, x.1 + y.1)) (λ y g.
    let rest = at_some _ _ y g (all_means h s m (p + 1)) in
    (ap suc rest.0, (x.1, y.1, at_some _ _ x e (h.at s p), rest.1, refl))))

elements_means : {S : Segments} {n s p d q : ℕ} {f : ℕ → ℕ → Read Tree} → GivesMeant S n f → (m : ℕ) → HasRows S s p d q m →
    IfSome (read_elements S (f s) s d q m p) (λ r. (element_count r.0 ≡ m) × MeansElements S n s p d q r.0 r.1)
elements_means h zero rows = (refl, refl)
elements_means {S = S} {n = n} {s = s} {p = p} {d = d} {q = q} {f = f} h (suc m) rows =
    if_bind _ (read_all (f s) q (p + d)) (λ x. read_elements S (f s) s d q m (p + d + q) >>= λ y. Some (element (words_at S s p d) x.0 y.0, x.1 + y.1)) (λ x e.
    if_bind (λ r. (element_count r.0 ≡ suc m) × MeansElements S n s p d q r.0 r.1) (read_elements S (f s) s d q m (p + d + q)) (λ y. Some (element (words_at S s p d) x.0 y.0, x.1 + y.1)) (λ y g.
    let others : HasRows S s (p + d + q) d q m = record { fits = omega (arith, rows.fits) } in
    let rest = at_some _ _ y g (elements_means {p = p + d + q} h m others) in
    let first = at_some _ _ x e (all_means h s q (p + d)) in
    let long : length (words_at S s p d) ≡ d = length_words S s p d (omega (arith, rows.fits)) in
    (ap suc rest.0, (x.1, y.1, long, first.0, rw long refl, first.1, rest.1, refl))))

struct_means : {S : Segments} {n : ℕ} {f : ℕ → ℕ → Read Tree} {a : Target} (s p : ℕ) → GivesMeant S n f → Leads S s p a → kind a.word ≡ 0 →
    IfSome (read_struct S f a) (λ r. Means S (suc n) s p r.0 r.1)
struct_means {S = S} {n = n} {f = f} {a = a} s p h l z =
    if_given _ _ (words_at S a.segment a.start (data_words a.word)) (λ ws. read_all (f a.segment) (pointer_count a.word) (a.start + data_words a.word) >>= λ x. Some (Struct ws x.0, a.pads + (data_words a.word + pointer_count a.word) + x.1)) (λ fits.
    if_bind (λ r. Means S (suc n) s p r.0 r.1) (read_all (f a.segment) (pointer_count a.word) (a.start + data_words a.word)) (λ x. Some (Struct (words_at S a.segment a.start (data_words a.word)) x.0, a.pads + (data_words a.word + pointer_count a.word) + x.1)) (λ x e.
    let all = at_some _ _ x e (all_means h a.segment (pointer_count a.word) (a.start + data_words a.word)) in
    let claim = leb-true (a.start + (data_words a.word + pointer_count a.word)) (length (segment S a.segment)) fits in
    struct_meaning S (suc n) s p a (data_words a.word) (pointer_count a.word) (words_at S a.segment a.start (data_words a.word)) x.0 x.1 _ (omega arith) (record { leads_to = l; is_struct = z; data_of = refl; pointers = refl })
    (length_words S a.segment a.start (data_words a.word) (omega (arith, claim))) all.0 claim refl all.1 refl))

flat_means : {S : Segments} {s p size : ℕ} {a : Target} (n : ℕ) → ListAt S s p a size (list_count a.word) → size ≤ 5 →
    IfSome (read_flat S size (list_count a.word) a) (λ r. Means S (suc n) s p r.0 r.1)
flat_means {S = S} {s = s} {p = p} {size = size} {a = a} n o small =
    let w = words_for size (list_count a.word) in
    if_cond_only (λ r. Means S (suc n) s p r.0 r.1) (within S a w) (Flat size (unpacked size (list_count a.word) (words_at S a.segment a.start w)), a.pads + w + count_cost size (list_count a.word))
    (λ fits. flat_meaning S (suc n) s p a size (list_count a.word) _ _ (omega arith) small o (length-digits _ (list_count a.word) _) (leb-true _ _ fits) refl refl)

pointers_mean : {S : Segments} {n s p : ℕ} {f : ℕ → ℕ → Read Tree} {a : Target} → GivesMeant S n f → ListAt S s p a 6 (list_count a.word) →
    IfSome (read_pointers S f (list_count a.word) a) (λ r. Means S (suc n) s p r.0 r.1)
pointers_mean {S = S} {n = n} {s = s} {p = p} {f = f} {a = a} h o =
    if_given _ _ (list_count a.word) (λ m. read_all (f a.segment) m a.start >>= λ x. Some (Pointers x.0, a.pads + list_count a.word + x.1)) (λ fits.
    if_bind (λ r. Means S (suc n) s p r.0 r.1) (read_all (f a.segment) (list_count a.word) a.start) (λ x. Some (Pointers x.0, a.pads + list_count a.word + x.1)) (λ x e.
    let all = at_some _ _ x e (all_means h a.segment (list_count a.word) a.start) in
    pointers_meaning S (suc n) s p a (list_count a.word) x.0 x.1 _ (omega arith) o all.0 (leb-true _ _ fits) all.1 refl))

structs_mean : {S : Segments} {n s p : ℕ} {f : ℕ → ℕ → Read Tree} {a : Target} → GivesMeant S n f → ListAt S s p a 7 (list_count a.word) →
    IfSome (read_structs S f (list_count a.word) a) (λ r. Means S (suc n) s p r.0 r.1)
structs_mean {S = S} {n = n} {s = s} {p = p} {f = f} {a = a} h o =
    let N = list_count a.word in
    let g = word_at S a.segment a.start in
    let m = offset_bits g in
    let d = data_words g in
    let q = pointer_count g in
    if_given {B = Tree × ℕ} _ _ g _ (λ claim.
    if_given {B = Tree × ℕ} _ _ m _ (λ zero_kind.
    if_given {B = Tree × ℕ} _ _ m (λ k. read_elements S (f a.segment) a.segment d q k (a.start + 1) >>= λ x. Some (Structs d q x.0, a.pads + (N + 1) + count_cost (d + q) m + x.1)) (λ fits.
    if_bind (λ r. Means S (suc n) s p r.0 r.1) (read_elements S (f a.segment) a.segment d q m (a.start + 1)) (λ x. Some (Structs d q x.0, a.pads + (N + 1) + count_cost (d + q) m + x.1)) (λ x e.
    let rows : HasRows S a.segment (a.start + 1) d q m = record { fits = omega (arith, leb-true (m * (d + q)) N fits, leb-true (a.start + (N + 1)) (length (segment S a.segment)) claim) } in
    let all = at_some _ _ x e (elements_means h m rows) in (
      a,
      N,
      x.1,
      omega arith,
      o,
      leb-true _ _ claim,
      record { is_struct = eqb-true _ _ zero_kind; counts = sym all.0; data_of = refl; pointers = refl },
      subst (λ i. i * (d + q) ≤ N) (sym all.0) (leb-true _ _ fits),
      all.1,
      ap (λ i. a.pads + (N + 1) + count_cost (d + q) i + x.1) (sym all.0),
    )))))

list_means : {S : Segments} {n s p : ℕ} {f : ℕ → ℕ → Read Tree} {a : Target} → GivesMeant S n f → (size : ℕ) → ListAt S s p a size (list_count a.word) →
    IfSome (read_list S f size (list_count a.word) a) (λ r. Means S (suc n) s p r.0 r.1)
list_means {n = n} h zero o = flat_means n o (omega arith)
list_means {n = n} h (suc zero) o = flat_means n o (omega arith)
list_means {n = n} h (suc (suc zero)) o = flat_means n o (omega arith)
list_means {n = n} h (suc (suc (suc zero))) o = flat_means n o (omega arith)
list_means {n = n} h (suc (suc (suc (suc zero)))) o = flat_means n o (omega arith)
list_means {n = n} h (suc (suc (suc (suc (suc zero))))) o = flat_means n o (omega arith)
list_means h (suc (suc (suc (suc (suc (suc zero)))))) o = pointers_mean h o
list_means {S = S} {s = s} {p = p} {a = a} h (suc (suc (suc (suc (suc (suc (suc i))))))) o =
    let structs : ListAt S s p a 7 (list_count a.word) = record { leads_to = o.leads_to; is_list = o.is_list; is_size = omega (arith, o.is_size); counts = refl } in
    structs_mean h structs

object_means : {S : Segments} {n : ℕ} {f : ℕ → ℕ → Read Tree} {a : Target} (s p : ℕ) → GivesMeant S n f → Leads S s p a →
    (k : ℕ) → kind a.word ≡ k → IfSome (read_object S f k a) (λ r. Means S (suc n) s p r.0 r.1)
object_means s p h l zero e = struct_means s p h l e
object_means {S = S} {a = a} s p h l (suc zero) e =
    let o : ListAt S s p a (element_size a.word) (list_count a.word) = record { leads_to = l; is_list = e; is_size = refl; counts = refl } in
    list_means h (element_size a.word) o
object_means s p h l (suc (suc _)) e = tt

place_means : (S : Segments) (n s p : ℕ) (f : Target → Read Tree) → ((a : Target) → Leads S s p a → IfSome (f a) (λ r. Means S n s p r.0 r.1)) → IfSome (read_place S f s p) (λ r. Means S n s p r.0 r.1)
place_means S n s p f h =
    if_cond (λ r. Means S n s p r.0 r.1) (nat_eq (word_at S s p) 0) (Null, 0) _ (λ e. (eqb-true _ _ e, refl)) (λ other.
    if_bind (λ r. Means S n s p r.0 r.1) (leads S s p) (λ a. cond (nat_eq (a.word % 2 ^ 32) 3) (Some (Capability (upper_half a.word), a.pads)) (f a)) (λ a e.
    if_cond (λ r. Means S n s p r.0 r.1) (nat_eq (a.word % 2 ^ 32) 3) (Capability (upper_half a.word), a.pads) (f a)
    (λ three. (a, (eqb-false _ _ other, e), (let low : a.word % 2 ^ 32 ≡ 3 = eqb-true _ _ three in omega arith), refl))
    (λ _. h a (eqb-false _ _ other, e))))

pub decode_means : (S : Segments) (n s p : ℕ) → IfSome (decode S n s p) (λ r. Means S n s p r.0 r.1)
unfolding decode
decode_means S zero s p = place_means S zero s p (λ a. None) (λ a l. tt)
decode_means S (suc n) s p = place_means S (suc n) s p (λ a. read_object S (decode S n) (kind a.word) a) (λ a l.
    let reader : GivesMeant S n (decode S n) = record { at = λ u v. decode_means S n u v } in
    object_means s p reader l (kind a.word) refl)
