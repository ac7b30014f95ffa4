-- The walk that validates a value, a step at a time: what it makes of an object that the program has
-- read.
use Rattle.std.proofs.Common.{◌≡◌, ℕ, zero, suc, pred, ◌+◌, ◌<◌, ◌≤◌, Result, Ok, Err, IsErr, refl, ap, ◌∙◌, subst, arith}
use Rattle.std.proofs.lemmas.Bool.{false≢true}
use Rattle.capnp_words.specs.declared.error.ErrorKind.{ErrorKind}
use Rattle.capnp_words.specs.Meter.{Meter}
use Rattle.capnp_format.specs.Word.{kind, data_words, pointer_count, element_size, list_count}
use Rattle.capnp_format.specs.Numbers.{words_for}
use Rattle.capnp_pointers.specs.declared.object.Object.{Object}
use Rattle.capnp_pointers.specs.declared.object.Purpose.TheVariants.{Value}
use Rattle.capnp_pointers.specs.Enter.{Shape, nothing, struct, flat, object_shape, read}
use Rattle.capnp_pointers.specs.Metered.{Metered, answer, onward}
use Rattle.capnp_pointers.specs.Objects.{EntersNear, IsObject, near_at}
use Rattle.capnp_pointers.specs.Reading.{Reading, word_of}
use Rattle.capnp_pointers.specs.Refusals.{NotRead}
use Rattle.capnp_pointers.proofs.OneObject.ReadAsStated.{entering_is, null_is, object_is, stopped_is}
use Rattle.capnp_pointers.specs.Measure.{fold_children, fold_elements, fold_pointers}
use Rattle.capnp_pointers.specs.Sizes.{HasRows, IsWordAt}
use Rattle.capnp_pointers.specs.Validation.{tally_shape, tally_words, validate_place, validate_within, validation_result}
use Rattle.capnp_pointers.specs.declared.object.ChildRows.{ChildRows}
use Rattle.capnp_pointers.specs.declared.pointers.validate.Tally.{Tally}
use Rattle.capnp_pointers.specs.declared.pointers.validate.Validation.{Validation}
use Rattle.capnp_pointers.proofs.Sizes.MeasuredBySteps.{children_in_rows, near_flat, near_struct, no_children}

-- The object is refused.
pub unread : {r : Reading} (z : Tally) {m m' : Meter} {k : ErrorKind} → NotRead Value r m m' k → validate_place r z m ≡ (Err k, m')
unfolding validate_within
unread {r} z {m} {m'} {k} refusal = go r.levels (stopped_is Value r m m' k (λ e. absurd (cc e)) refusal)
  where
    go : (n : ℕ) → read Value (record r { levels = n }) m ≡ (Err k, m') → validate_within n r z m ≡ (Err k, m')
    go zero e = ap (onward (λ o. answer (tally_shape zero o z))) e
    go (suc n) e = ap (onward _) e

-- The object is read, and has children; or it has none.
pub opened : (r : Reading) (z : Tally) (m m' : Meter) (o : Shape) → 0 < r.levels → read Value r m ≡ (Ok o, m') →
    validate_place r z m ≡ fold_children (validate_within (pred r.levels)) (record r { levels = pred r.levels }) o (tally_shape (pred r.levels) o z) m'
unfolding validate_within
opened r z m m' o some e = go r.levels some e
  where
    go : (n : ℕ) → 0 < n → read Value (record r { levels = n }) m ≡ (Ok o, m') → validate_within n r z m ≡ fold_children (validate_within (pred n)) (record r { levels = pred n }) o (tally_shape (pred n) o z) m'
    go zero some e = absurd (omega arith)
    go (suc n) some e = ap (onward _) e

pub leaf : (r : Reading) (z : Tally) (m m' : Meter) (o : Shape) → ((f : Reading → Tally → Metered Tally) (s : Reading) (y : Tally) → fold_children f s o y m' ≡ (Ok y, m')) → read Value r m ≡ (Ok o, m') →
    validate_place r z m ≡ (Ok (tally_shape (pred r.levels) o z), m')
unfolding validate_within
leaf r z m m' o none e = go r.levels e
  where
    go : (n : ℕ) → read Value (record r { levels = n }) m ≡ (Ok o, m') → validate_within n r z m ≡ (Ok (tally_shape (pred n) o z), m')
    go zero e = ap (onward (λ o. answer (tally_shape zero o z))) e
    go (suc n) e = ap (onward _) e ∙ none (validate_within n) (record r { levels = n }) (tally_shape n o z)

pub null_valid : (r : Reading) (z : Tally) (m : Meter) → word_of r ≡ 0 → validate_place r z m ≡ (Ok z, m)
null_valid r z m none = leaf r z m m nothing (λ f s y. refl) (null_is Value r m none)

-- The program's objects, by the levels n that are left inside of them, and the tally y after them.
pub object_ends : (r : Reading) (m m' : Meter) (x : Object) (z y : Tally) (n : ℕ) → n ≡ pred r.levels → y ≡ tally_shape n (object_shape x) z → IsObject Value r m m' x → ((rows : ChildRows) → HasRows x rows → ⊥) → validate_place r z m ≡ (Ok y, m')
object_ends r m m' x z y n level is object none =
    leaf r z m m' (object_shape x) (λ f s y. no_children f s x y m' none) (object_is Value r m m' x object) ∙ rw (is, level) refl

pub object_opens : (r : Reading) (m m' : Meter) (x : Object) (z y : Tally) (n : ℕ) (rows : ChildRows) → 0 < r.levels → n ≡ pred r.levels → y ≡ tally_shape n (object_shape x) z → IsObject Value r m m' x → HasRows x rows →
    validate_place r z m ≡ fold_elements (validate_within n) rows.data_words rows.pointers rows.count (record r { levels = n; segment = rows.start.segment; at = rows.start.at }) y m'
object_opens r m m' x z y n rows some level is object has =
    opened r z m m' (object_shape x) some (object_is Value r m m' x object)
    ∙ children_in_rows (validate_within (pred r.levels)) (record r { levels = pred r.levels }) x rows (tally_shape (pred r.levels) (object_shape x) z) m' has ∙ rw (is, level) refl

pub struct_opens : {w : ℕ} {r : Reading} {m m' : Meter} {p : ℕ} (z y : Tally) (n d q : ℕ) → IsWordAt w r → kind w ≡ 0 → EntersNear Value r m m' p → d ≡ data_words w → q ≡ pointer_count w → n ≡ pred r.levels → y ≡ tally_words n (d + q) z →
    validate_place r z m ≡ fold_pointers (validate_within n) q (record r { levels = n; at = p + d }) y m'
struct_opens {w} {r} {m} {m'} {p} z y n d q word is_struct o wide many level is =
    opened r z m m' (struct r.segment p (data_words (word_of r)) (pointer_count (word_of r))) o.meets.levels
    (entering_is Value r m m' (near_at r p) o ∙ ap (λ x. (Ok x, m')) (near_struct r p (subst (λ x. kind x ≡ 0) word.there is_struct)))
    ∙ rw (is, wide, many, level, word.there) refl

pub flat_ends : {w : ℕ} {r : Reading} {m m' : Meter} {p : ℕ} (z y : Tally) (n words : ℕ) → IsWordAt w r → kind w ≡ 1 → element_size w ≤ 5 → EntersNear Value r m m' p → words ≡ words_for (element_size w) (list_count w) → n ≡ pred r.levels → y ≡ tally_words n words z →
    validate_place r z m ≡ (Ok y, m')
flat_ends {w} {r} {m} {m'} {p} z y n words word is_list small o many level is =
    leaf r z m m' (flat r.segment p (element_size (word_of r)) (list_count (word_of r))) (λ f s y. refl)
    (entering_is Value r m m' (near_at r p) o ∙ ap (λ x. (Ok x, m')) (near_flat r p (subst (λ x. kind x ≡ 1) word.there is_list) (subst (λ x. element_size x ≤ 5) word.there small)))
    ∙ rw (is, many, level, word.there) refl

-- What a call leaves that stops.
pub stopped_result : {A E : Type 0} (result : Result A E) (w : Validation) → IsErr result → validation_result result w ≡ Err w.refusal
stopped_result (Ok x) w is = absurd (false≢true is)
stopped_result (Err k) w is = refl
