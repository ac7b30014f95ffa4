-- What a call expects is there, if the place means such a value, and the limiter covers its cost.
use Rattle.std.proofs.Common.{◌≡◌, ◌≢◌, ℕ, ◌<◌, ◌≤◌, nat_eq, cond, Some, None, refl, ap, ap₂, ◌∙◌, subst, arith, eq-eqb}
use Rattle.std.proofs.lemmas.Bool.{ne_eqb}
use Rattle.capnp_words.specs.Meter.{Meter, Affords}
use Rattle.capnp_words.specs.declared.error.ErrorKind.{ErrorKind}
use Rattle.capnp_words.specs.declared.wire_pointer.ElementSize.{ElementSize}
use Rattle.capnp_format.specs.Segments.{Target}
use Rattle.capnp_format.specs.Tree.{Tree, Null, Capability, Struct, Flat, Pointers, Structs}
use Rattle.capnp_format.specs.Word.{kind, element_size}
use Rattle.capnp_pointers.specs.Demands.{own_charge}
use Rattle.capnp_pointers.specs.Expected.{struct_expected, list_expected, narrow_structs, narrow_elements, HasExpected, null_pointer, fitting}
use Rattle.capnp_pointers.specs.Faults.{LeadsTo}
use Rattle.capnp_pointers.specs.Outcomes.{MeansThere, Entered}
use Rattle.capnp_pointers.specs.Reading.{Reading, word_of, tag_size}
use Rattle.capnp_words.specs.Sizes.{sized}
use Rattle.capnp_pointers.specs.Spending.{after_charge}
use Rattle.capnp_pointers.specs.declared.object.Purpose.TheVariants.{Value}
use Rattle.capnp_pointers.proofs.OneObject.ExpectedBySteps.{one_level}
use Rattle.capnp_pointers.proofs.Following.FaultlessWhereMeant.{same_target}
use Rattle.capnp_pointers.proofs.Following.LeadsWhereFollowed.{leads_to}
use Rattle.capnp_pointers.proofs.OneObject.PartsMeant.{Inner, Parts, is_null, is_capability, is_inner, means_parts}
use Rattle.capnp_pointers.proofs.WholeValue.UnreadableIfRefused.{affords_less}
use Rattle.capnp_readers.specs.Values.{IsStructOrNull, FitsSize}

-- a call isn't refused for the level or the kind if there is what it expects
some_level : (k : ErrorKind) (n : ℕ) → 0 < n → cond (nat_eq n 0) (Some k) None ≡ None
some_level k n l = ap (λ b. cond b (Some k) None) (ne_eqb n 0 (λ e. omega (arith, e, l)))

right_kind : (k : ErrorKind) (n i : ℕ) → n ≡ i → cond (nat_eq n i) None (Some k) ≡ None
right_kind k n i e = ap (λ b. cond b None (Some k)) (eq-eqb n i e)

-- the object of a value can be entered, with one level, if the limiter covers the value's cost
pub entered_value : (r : Reading) (t : Tree) (c : ℕ) (m : Meter) (a : Target) → LeadsTo r a → kind a.word < 2 → MeansThere r t c → Affords r.charging m c →
    Entered Value (one_level r) m (after_charge r.charging m (own_charge Value r.segments a) 1) a
entered_value r t c m a leads object means covers = go (means_parts r t c means)
  where
    go : {n : ℕ} → Parts r n c → Entered Value (one_level r) m (after_charge r.charging m (own_charge Value r.segments a) 1) a
    go (is_null null) = absurd (leads.0 null)
    go (is_capability b there low some cost) =
        absurd (let same : a ≡ b = same_target r.segments r.segment r.at leads.1 there.1 in let two = subst (λ (x : Target). kind x.word < 2) same object in omega (arith, low, two))
    go {n} (is_inner b there inner) =
        let same : b ≡ a = same_target r.segments r.segment r.at there.1 leads.1 in
        let here : Inner r a n c = subst (λ (x : Target). Inner r x n c) same inner in
        record {
          follows = leads_to r a leads;
          meets = record { levels = omega arith; is_object = object; claims = here.meets.claims; tagged = here.meets.tagged };
          covers = affords_less r.charging m (own_charge Value r.segments a) c here.cost covers;
          spent = refl;
        }

-- the place of a value that isn't null isn't zero
pub not_null : (r : Reading) (t : Tree) (c : ℕ) → MeansThere r t c → t ≢ Null → word_of r ≢ 0
not_null r Null c means other = absurd (other refl)
not_null r (Capability i) c (a, leads, is, cost) other = leads.0
not_null r (Struct ws ts) c (a, k, some, at, claim, has, all, cost) other = at.leads_to.0
not_null r (Flat size ns) c (a, some, small, at, claims, numbers, cost) other = at.leads_to.0
not_null r (Pointers ts) c (a, k, some, at, claims, all, cost) other = at.leads_to.0
not_null r (Structs d q es) c (a, n, k, some, at, claims, is_tag, fits, all, cost) other = at.leads_to.0

pub struct_suits : (r : Reading) (t : Tree) (c : ℕ) (m : Meter) → IsStructOrNull t → MeansThere r t c → Affords r.charging m c → HasExpected struct_expected r m
struct_suits r Null c m is means covers = null_pointer means.0
struct_suits r (Struct ws ts) c m is means covers =
    let a : Target = means.0 in
    let some : 0 < r.levels = means.2 in
    let at = means.3 in
    fitting a (some_level _ r.levels some) (right_kind _ (kind a.word) 0 at.is_struct) (entered_value r (Struct ws ts) c m a at.leads_to (omega (arith, at.is_struct)) means covers) refl
struct_suits r (Capability i) c m is means covers = absurd is
struct_suits r (Flat size ns) c m is means covers = absurd is
struct_suits r (Pointers ts) c m is means covers = absurd is
struct_suits r (Structs d q es) c m is means covers = absurd is

-- a list whose elements fit
list_suits_at : (size : ElementSize) (r : Reading) (t : Tree) (c : ℕ) (m : Meter) (a : Target) → 0 < r.levels → LeadsTo r a → kind a.word ≡ 1 →
    cond (nat_eq (element_size a.word) 7) (narrow_structs size (tag_size r.segments a)) (narrow_elements size (element_size a.word)) ≡ None → MeansThere r t c → Affords r.charging m c → HasExpected (list_expected size) r m
list_suits_at size r t c m a some leads one fits means covers =
    fitting a (some_level _ r.levels some) (right_kind _ (kind a.word) 1 one) (entered_value r t c m a leads (omega (arith, one)) means covers) fits

plain_fits : (size : ElementSize) (r : Reading) (a : Target) (n : ℕ) → element_size a.word ≡ n → n ≤ 6 → narrow_elements size n ≡ None →
    cond (nat_eq (element_size a.word) 7) (narrow_structs size (tag_size r.segments a)) (narrow_elements size (element_size a.word)) ≡ None
plain_fits size r a n is small fits =
    ap (λ b. cond b (narrow_structs size (tag_size r.segments a)) (narrow_elements size (element_size a.word))) (ne_eqb (element_size a.word) 7 (λ e. omega (arith, e, is, small))) ∙ ap (narrow_elements size) is ∙ fits

pub list_suits : (size : ElementSize) (r : Reading) (t : Tree) (c : ℕ) (m : Meter) → FitsSize size t → MeansThere r t c → Affords r.charging m c → HasExpected (list_expected size) r m
list_suits size r Null c m fits means covers = null_pointer means.0
list_suits size r (Flat n ns) c m fits means covers =
    let a : Target = means.0 in
    let some : 0 < r.levels = means.1 in
    let small : n ≤ 5 = means.2 in
    let at = means.3 in
    list_suits_at size r (Flat n ns) c m a some at.leads_to at.is_list (plain_fits size r a n at.is_size (omega (arith, small)) fits) means covers
list_suits size r (Pointers ts) c m fits means covers =
    let a : Target = means.0 in
    let some : 0 < r.levels = means.2 in
    let at = means.3 in
    list_suits_at size r (Pointers ts) c m a some at.leads_to at.is_list (plain_fits size r a 6 at.is_size (omega arith) fits) means covers
list_suits size r (Structs d q es) c m fits means covers =
    let a : Target = means.0 in
    let some : 0 < r.levels = means.3 in
    let at = means.4 in
    let is_tag = means.6 in
    let sections : tag_size r.segments a ≡ sized d q = ap₂ (λ i j. sized i j) is_tag.data_of is_tag.pointers in
    let fits_there : cond (nat_eq (element_size a.word) 7) (narrow_structs size (tag_size r.segments a)) (narrow_elements size (element_size a.word)) ≡ None =
    ap (λ b. cond b (narrow_structs size (tag_size r.segments a)) (narrow_elements size (element_size a.word))) (eq-eqb (element_size a.word) 7 at.is_size) ∙ ap (narrow_structs size) sections ∙ fits in
    list_suits_at size r (Structs d q es) c m a some at.leads_to at.is_list fits_there means covers
list_suits size r (Capability i) c m fits means covers = absurd fits
list_suits size r (Struct ws ts) c m fits means covers = absurd fits
