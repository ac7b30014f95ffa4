-- The count of the words that a copy makes, a step at a time: what it makes of an object that the
-- program has read, and of one that is refused.
use Rattle.std.proofs.Common.{◌≡◌, ℕ, zero, suc, pred, ◌+◌, ◌*◌, ◌<◌, ◌≤◌, List, take, drop, length, Result, Ok, Err, refl, sym, ap, ◌∙◌, subst, arith}
use Rattle.capnp_words.specs.declared.error.ErrorKind.{ErrorKind}
use Rattle.capnp_words.specs.declared.error.ErrorKind.TheVariants.{CannotCreateACanonicalMessageWithACapability}
use Rattle.capnp_words.specs.declared.wire_pointer.StructSize.{StructSize}
use Rattle.capnp_words.specs.Meter.{Meter}
use Rattle.capnp_format.specs.Bytes.{words_of}
use Rattle.capnp_format.specs.Canonical.{used_words}
use Rattle.capnp_format.specs.Segments.{Segments, segment}
use Rattle.capnp_pointers.specs.declared.object.Object.{Object}
use Rattle.capnp_pointers.specs.declared.object.Object.TheVariants.{Null as ObjectNull, Capability as ObjectCapability, Struct as ObjectStruct, Flat as ObjectFlat, Pointers as ObjectPointers, Structs as ObjectStructs}
use Rattle.capnp_pointers.specs.declared.object.Place.{Place}
use Rattle.capnp_pointers.specs.declared.object.Purpose.TheVariants.{Value}
use Rattle.capnp_pointers.specs.Enter.{Shape, nothing, capability, struct, flat, pointers, structs, object_shape, read}
use Rattle.capnp_pointers.specs.Measure.{fold_children, fold_elements, fold_pointers}
use Rattle.capnp_pointers.specs.Metered.{Metered, onward}
use Rattle.capnp_pointers.specs.Objects.{IsFew, IsHeld, IsObject}
use Rattle.capnp_pointers.specs.Reading.{Reading}
use Rattle.capnp_pointers.specs.Values.{permit}
use Rattle.capnp_pointers.specs.Wanted.{canonical}
use Rattle.capnp_pointers.proofs.OneObject.ReadAsStated.{object_is}
use Rattle.capnp_pointers.proofs.Sizes.MeasuredBySteps.{one_row}
use Rattle.capnp_pointers.proofs.Budget.OneLevelLess.{object_inside}
use Rattle.capnp_copies.specs.Widths.{most_used}
use Rattle.capnp_messages.specs.Fitting.{made_words}
use Rattle.capnp_messages.specs.MadeWords.{IsInBytes, IsObjectInBytes, has_copy, made_place, made_within, words_of_copy, sum_within}

pub permitted : (o : Shape) (m : Meter) → has_copy o ≡ Ok tt → permit canonical o m ≡ (Ok o, m)
permitted nothing m e = refl
permitted (capability i) m e = absurd (cc e)
permitted (struct s p d q) m e = refl
permitted (flat s p size n) m e = refl
permitted (pointers s p n) m e = refl
permitted (structs s p d q n) m e = refl

not_permitted : (o : Shape) (m : Meter) (k : ErrorKind) → has_copy o ≡ Err k → permit canonical o m ≡ (Err k, m)
not_permitted nothing m k e = absurd (cc e)
not_permitted (capability i) m k e = (let same : CannotCreateACanonicalMessageWithACapability ≡ k = cc e in ap (λ x. (Err x, m)) same)
not_permitted (struct s p d q) m k e = absurd (cc e)
not_permitted (flat s p size n) m k e = absurd (cc e)
not_permitted (pointers s p n) m k e = absurd (cc e)
not_permitted (structs s p d q n) m k e = absurd (cc e)

-- The object isn't read, or has no copy, or its words are too many.
pub unread : (room : ℕ) (r : Reading) (z : ℕ) (m m' : Meter) (k : ErrorKind) → read Value r m ≡ (Err k, m') → made_place room r z m ≡ (Err k, m')
unfolding made_within
unread room r z m m' k e = go r.levels e
  where
    go : (n : ℕ) → read Value (record r { levels = n }) m ≡ (Err k, m') → made_within room n r z m ≡ (Err k, m')
    go zero e = ap (onward _) (ap (onward (permit canonical)) e)
    go (suc n) e = ap (onward _) (ap (onward (permit canonical)) e)

pub no_copy : (room : ℕ) (r : Reading) (z : ℕ) (m m' : Meter) (o : Shape) (k : ErrorKind) → read Value r m ≡ (Ok o, m') → has_copy o ≡ Err k → made_place room r z m ≡ (Err k, m')
unfolding made_within
no_copy room r z m m' o k e f = go r.levels e
  where
    go : (n : ℕ) → read Value (record r { levels = n }) m ≡ (Ok o, m') → made_within room n r z m ≡ (Err k, m')
    go zero e = ap (onward _) (ap (onward (permit canonical)) e ∙ not_permitted o m' k f)
    go (suc n) e = ap (onward _) (ap (onward (permit canonical)) e ∙ not_permitted o m' k f)

pub too_many : (room : ℕ) (r : Reading) (z : ℕ) (m m' : Meter) (o : Shape) (k : ErrorKind) → read Value r m ≡ (Ok o, m') → has_copy o ≡ Ok tt → sum_within room z (made_words r.segments o) m' ≡ (Err k, m') → made_place room r z m ≡ (Err k, m')
unfolding made_within
too_many room r z m m' o k e f over = go r.levels e
  where
    go : (n : ℕ) → read Value (record r { levels = n }) m ≡ (Ok o, m') → made_within room n r z m ≡ (Err k, m')
    go zero e = ap (onward _) (ap (onward (permit canonical)) e ∙ permitted o m' f) ∙ over
    go (suc n) e = ap (onward _) (ap (onward (permit canonical)) e ∙ permitted o m' f) ∙ ap (onward (fold_children (made_within room n) (record r { levels = n }) o)) over

-- The object has no children; or the count goes on with them.
pub leaf : (room : ℕ) (r : Reading) (z y : ℕ) (m m' : Meter) (o : Shape) → ((f : Reading → ℕ → Metered ℕ) (s : Reading) (x : ℕ) → fold_children f s o x m' ≡ (Ok x, m')) → read Value r m ≡ (Ok o, m') → has_copy o ≡ Ok tt →
    sum_within room z (made_words r.segments o) m' ≡ (Ok y, m') → made_place room r z m ≡ (Ok y, m')
unfolding made_within
leaf room r z y m m' o none e f sum = go r.levels e
  where
    go : (n : ℕ) → read Value (record r { levels = n }) m ≡ (Ok o, m') → made_within room n r z m ≡ (Ok y, m')
    go zero e = ap (onward _) (ap (onward (permit canonical)) e ∙ permitted o m' f) ∙ sum
    go (suc n) e = ap (onward _) (ap (onward (permit canonical)) e ∙ permitted o m' f) ∙ ap (onward (fold_children (made_within room n) (record r { levels = n }) o)) sum ∙ none (made_within room n) (record r { levels = n }) y

pub opened : (room : ℕ) (r : Reading) (z : ℕ) (m m' : Meter) (o : Shape) → 0 < r.levels → read Value r m ≡ (Ok o, m') → has_copy o ≡ Ok tt →
    made_place room r z m ≡ onward (fold_children (made_within room (pred r.levels)) (record r { levels = pred r.levels }) o) (sum_within room z (made_words r.segments o) m')
unfolding made_within
opened room r z m m' o some e f = go r.levels some e
  where
    go : (n : ℕ) → 0 < n → read Value (record r { levels = n }) m ≡ (Ok o, m') → made_within room n r z m ≡ onward (fold_children (made_within room (pred n)) (record r { levels = pred n }) o) (sum_within room z (made_words r.segments o) m')
    go zero some e = absurd (omega arith)
    go (suc n) some e = ap (onward _) (ap (onward (permit canonical)) e ∙ permitted o m' f)

-- The program's objects: their words are those of their shapes, and inside their bytes.
pub object_made_is : (r : Reading) (m m' : Meter) (x : Object) → IsObject Value r m m' x → words_of_copy x ≡ made_words r.segments (object_shape x)
object_made_is r m m' ObjectNull h = refl
object_made_is r m m' (ObjectCapability i) h = refl
object_made_is r m m' (ObjectStruct start size) (a, o, z, (held, seg, at), wide, many) =
    ap (λ (ws : List ℕ). used_words (take size.data_words (drop start.at ws)) + used_words (take size.pointers (drop (start.at + size.data_words) ws))) held.0
object_made_is r m m' (ObjectFlat start size n) h = refl
object_made_is r m m' (ObjectPointers start n) h = refl
object_made_is r m m' (ObjectStructs start size n) (a, o, z, seven, (held, seg, at), len, wide, many) =
    ap (λ (ws : List ℕ). 1 + n * (most_used ws start.at size.data_words (size.data_words + size.pointers) n + most_used ws (start.at + size.data_words) size.pointers (size.data_words + size.pointers) n)) held.0

in_bytes : (S : Segments) (start : Place) (n : ℕ) → IsHeld S start → start.at + n ≤ length (segment S start.segment) → IsInBytes start n
in_bytes S start n held inside = rw held.0 (held.1, inside)

pub object_in_bytes : (r : Reading) (m m' : Meter) (x : Object) → IsObject Value r m m' x → IsFew x → IsObjectInBytes x
object_in_bytes r m m' ObjectNull h few = tt
object_in_bytes r m m' (ObjectCapability i) h few = tt
object_in_bytes r m m' (ObjectStruct start size) h few =
    let inside = object_inside {rows = record { start = start; data_words = size.data_words; pointers = size.pointers; count = 1 }} (ObjectStruct start size) (record { is_read = h; has = (refl, refl, refl, refl) }) in
    in_bytes r.segments start (size.data_words + size.pointers) h.3.0 (omega (arith, inside))
object_in_bytes r m m' (ObjectFlat start size n) h few = few
object_in_bytes r m m' (ObjectPointers start n) h few = tt
object_in_bytes r m m' (ObjectStructs start size n) h few =
    let inside = object_inside {rows = record { start = start; data_words = size.data_words; pointers = size.pointers; count = n }} (ObjectStructs start size n) (record { is_read = h; has = (refl, refl, refl, refl) }) in
    (in_bytes r.segments start (n * (size.data_words + size.pointers)) h.4.0 inside, few)

-- An object that the program has read, which has a copy, and the sum y with its words.
pub record Counted (room z : ℕ) (r : Reading) (m m' : Meter) (x : Object) (y : ℕ) : Type 0 where
  pub is_read : IsObject Value r m m' x
  pub permits : has_copy (object_shape x) ≡ Ok tt
  pub sum : sum_within room z (words_of_copy x) m' ≡ (Ok y, m')

by_shape : (room z : ℕ) (r : Reading) (m m' : Meter) (x : Object) {o : Result ℕ ErrorKind × Meter} → IsObject Value r m m' x → sum_within room z (words_of_copy x) m' ≡ o → sum_within room z (made_words r.segments (object_shape x)) m' ≡ o
by_shape room z r m m' x {o} h e = subst (λ n. sum_within room z n m' ≡ o) (object_made_is r m m' x h) e

pub sum_over : (room z : ℕ) (r : Reading) (m m' : Meter) (x : Object) (k : ErrorKind) → IsObject Value r m m' x → has_copy (object_shape x) ≡ Ok tt → sum_within room z (words_of_copy x) m' ≡ (Err k, m') → made_place room r z m ≡ (Err k, m')
sum_over room z r m m' x k h permits over = too_many room r z m m' (object_shape x) k (object_is Value r m m' x h) permits (by_shape room z r m m' x h over)

pub leaf_counted : {room z : ℕ} {r : Reading} {m m' : Meter} {y : ℕ} (x w : Object) → x ≡ w → ((f : Reading → ℕ → Metered ℕ) (s : Reading) (n : ℕ) → fold_children f s (object_shape w) n m' ≡ (Ok n, m')) → Counted room z r m m' x y → made_place room r z m ≡ (Ok y, m')
leaf_counted {room} {z} {r} {m} {m'} {y} x w is none c =
    leaf room r z y m m' (object_shape x) (λ f s n. subst (λ v. fold_children f s (object_shape v) n m' ≡ (Ok n, m')) (sym is) (none f s n)) (object_is Value r m m' x c.is_read) c.permits (by_shape room z r m m' x c.is_read c.sum)

pub struct_counted : {room z : ℕ} {r : Reading} {m m' : Meter} {y n : ℕ} (x : Object) (start : Place) (size : StructSize) → x ≡ ObjectStruct start size → Counted room z r m m' x y → n ≡ pred r.levels →
    made_place room r z m ≡ fold_elements (made_within room n) size.data_words size.pointers 1 (record r { levels = n; segment = start.segment; at = start.at }) y m'
struct_counted {room} {z} {r} {m} {m'} {y} x start size is c level =
    let d : Counted room z r m m' (ObjectStruct start size) y = subst (λ (v : Object). Counted room z r m m' v y) is c in
    opened room r z m m' (object_shape (ObjectStruct start size)) d.is_read.1.meets.levels (object_is Value r m m' (ObjectStruct start size) d.is_read) d.permits
    ∙ ap (onward (fold_children (made_within room (pred r.levels)) (record r { levels = pred r.levels }) (object_shape (ObjectStruct start size)))) (by_shape room z r m m' (ObjectStruct start size) d.is_read d.sum)
    ∙ rw level (sym (one_row (made_within room (pred r.levels)) (record r { levels = pred r.levels; segment = start.segment; at = start.at }) size.data_words size.pointers y m'))

pub pointers_counted : {room z : ℕ} {r : Reading} {m m' : Meter} {y n : ℕ} (x : Object) (start : Place) (i : ℕ) → x ≡ ObjectPointers start i → Counted room z r m m' x y → n ≡ pred r.levels →
    made_place room r z m ≡ fold_pointers (made_within room n) i (record r { levels = n; segment = start.segment; at = start.at }) y m'
pointers_counted {room} {z} {r} {m} {m'} {y} x start i is c level =
    let d : Counted room z r m m' (ObjectPointers start i) y = subst (λ (v : Object). Counted room z r m m' v y) is c in
    opened room r z m m' (object_shape (ObjectPointers start i)) d.is_read.1.meets.levels (object_is Value r m m' (ObjectPointers start i) d.is_read) d.permits
    ∙ ap (onward (fold_children (made_within room (pred r.levels)) (record r { levels = pred r.levels }) (object_shape (ObjectPointers start i)))) (by_shape room z r m m' (ObjectPointers start i) d.is_read d.sum)
    ∙ rw level refl

pub structs_counted : {room z : ℕ} {r : Reading} {m m' : Meter} {y n : ℕ} (x : Object) (start : Place) (size : StructSize) (i : ℕ) → x ≡ ObjectStructs start size i → Counted room z r m m' x y → n ≡ pred r.levels →
    made_place room r z m ≡ fold_elements (made_within room n) size.data_words size.pointers i (record r { levels = n; segment = start.segment; at = start.at }) y m'
structs_counted {room} {z} {r} {m} {m'} {y} x start size i is c level =
    let d : Counted room z r m m' (ObjectStructs start size i) y = subst (λ (v : Object). Counted room z r m m' v y) is c in
    opened room r z m m' (object_shape (ObjectStructs start size i)) d.is_read.1.meets.levels (object_is Value r m m' (ObjectStructs start size i) d.is_read) d.permits
    ∙ ap (onward (fold_children (made_within room (pred r.levels)) (record r { levels = pred r.levels }) (object_shape (ObjectStructs start size i)))) (by_shape room z r m m' (ObjectStructs start size i) d.is_read d.sum)
    ∙ rw level refl

pub structs_level : (r : Reading) (m m' : Meter) (x : Object) (start : Place) (size : StructSize) (i : ℕ) → x ≡ ObjectStructs start size i → IsObject Value r m m' x → 0 < r.levels
structs_level r m m' x start size i is object = (subst (IsObject Value r m m') is object).1.meets.levels

pub structs_inside : (r : Reading) (m m' : Meter) (x : Object) (start : Place) (size : StructSize) (i : ℕ) → x ≡ ObjectStructs start size i → IsObject Value r m m' x → start.at + i * (size.data_words + size.pointers) ≤ length (segment r.segments start.segment)
structs_inside r m m' x start size i is object =
    object_inside {rows = record { start = start; data_words = size.data_words; pointers = size.pointers; count = i }} (ObjectStructs start size i) (record { is_read = subst (IsObject Value r m m') is object; has = (refl, refl, refl, refl) })
