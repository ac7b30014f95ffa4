-- The walk, a step at a time: what it makes of an object that the program has read, of consecutive
-- pointers and of elements.
use Rattle.std.proofs.Common.{◌≡◌, ℕ, zero, suc, pred, ◌+◌, ◌*◌, ◌<◌, ◌≤◌, List, length, Some, None, Ok, Err, refl, sym, subst, ap, ap₂, ◌∙◌, arith}
use Rattle.capnp_words.specs.declared.error.ErrorKind.{ErrorKind}
use Rattle.capnp_words.specs.Meter.{Meter}
use Rattle.capnp_format.specs.Numbers.{words_for}
use Rattle.capnp_format.specs.Segments.{segment}
use Rattle.capnp_format.specs.Word.{kind, element_size, list_count}
use Rattle.capnp_pointers.specs.declared.object.Object.{Object}
use Rattle.capnp_pointers.specs.declared.object.Object.TheVariants.{Null as ObjectNull, Capability as ObjectCapability, Struct as ObjectStruct, Flat as ObjectFlat, Pointers as ObjectPointers, Structs as ObjectStructs}
use Rattle.capnp_pointers.specs.declared.object.Purpose.TheVariants.{Value}
use Rattle.capnp_words.specs.declared.wire_pointer.StructSize.{StructSize}
use Rattle.capnp_pointers.specs.declared.object.Place.{Place}
use Rattle.capnp_pointers.specs.Enter.{Shape, flat, nothing, object_shape, read}
use Rattle.capnp_pointers.specs.Entering.{IsObjectHeld}
use Rattle.capnp_pointers.specs.Objects.{EntersNear, IsObject, near_at}
use Rattle.capnp_pointers.specs.Sizes.{IsWordAt}
use Rattle.capnp_pointers.specs.Reading.{Reading, place_past, segment_read, word_of, words_from}
use Rattle.capnp_pointers.specs.Refusals.{NotRead}
use Rattle.capnp_pointers.proofs.CanonicalTest.FoundBySteps.{pointers_room, struct_room}
use Rattle.capnp_pointers.proofs.Sizes.MeasuredBySteps.{near_flat}
use Rattle.capnp_pointers.proofs.OneObject.PartsMeant.{claim_flat, claim_list}
use Rattle.capnp_pointers.proofs.OneObject.ReadAsStated.{entering_is, null_is, object_is, stopped_is}
use Rattle.capnp_pointers.proofs.WholeValue.WordsAdded.{beginning}
use Rattle.typed_conforming.specs.declared.conforms.ObjectElements.{ObjectElements}
use Rattle.typed_conforming.specs.declared.schema.Kind.{Kind}
use Rattle.typed_conforming.specs.declared.schema.Kind.TheVariants.{Any, AnyList, Capability, Data, List as ListKind, Struct, Text, Utf8}
use Rattle.typed_conforming.specs.declared.schema.Misfit.{Misfit}
use Rattle.typed_conforming.specs.declared.conforms.SchemaPointer.{SchemaPointer}
use Rattle.typed_conforming.specs.Tables.{row_below, table_below}
use Rattle.typed_conforming.specs.Rows.{AreElementsOf}
use Rattle.typed_conforming.specs.Misfits.{kind_misfit}
use Rattle.typed_conforming.specs.Walk.{PointerTest, TestOutcome, and_then, check_children, check_elements, check_place, check_pointers, check_read, check_within, misfit_at, schema_pointer}

-- The object is refused, or isn't what is wanted.
pub unread : (T : List ℕ) (p : SchemaPointer) (r : Reading) (m m' : Meter) (e : ErrorKind) → read Value r m ≡ (Err e, m') → check_place T p r m ≡ (Err (misfit_at p r e), m')
unfolding check_within
unread T p r m m' e h = go r.levels h
  where
    go : (n : ℕ) → read Value (record r { levels = n }) m ≡ (Err e, m') → check_within T n p r m ≡ (Err (misfit_at p r e), m')
    go zero h = ap (check_read p r _) h
    go (suc n) h = ap (check_read p r _) h

pub not_read : (T : List ℕ) (p : SchemaPointer) (r : Reading) (m m' : Meter) (e : ErrorKind) → NotRead Value r m m' e → check_place T p r m ≡ (Err (misfit_at p r e), m')
not_read T p r m m' e refusal = unread T p r m m' e (stopped_is Value r m m' e (λ e. absurd (cc e)) refusal)

pub unfit : (T : List ℕ) (p : SchemaPointer) (r : Reading) (m m' : Meter) (o : Shape) (e : ErrorKind) → read Value r m ≡ (Ok o, m') → kind_misfit p.kind r.segments o ≡ Some e → check_place T p r m ≡ (Err (misfit_at p r e), m')
unfolding check_within
unfit T p r m m' o e h misses = go r.levels h
  where
    go : (n : ℕ) → read Value (record r { levels = n }) m ≡ (Ok o, m') → check_within T n p r m ≡ (Err (misfit_at p r e), m')
    go zero h = ap (check_read p r _) h ∙ rw misses refl
    go (suc n) h = ap (check_read p r _) h ∙ rw misses refl

-- The test of the children of what the pointer p leads to, which are read with n levels.
abbrev pub children_test : List ℕ → SchemaPointer → ℕ → Reading → Shape → Meter → TestOutcome
children_test T p n r = check_children (check_within (table_below T p.kind) n) (schema_pointer (table_below T p.kind) (row_below p.kind)) (record r { levels = n })

-- The object is what is wanted, and has children; or it has none.
pub opened : (T : List ℕ) (p : SchemaPointer) (r : Reading) (m m' : Meter) (o : Shape) → 0 < r.levels → read Value r m ≡ (Ok o, m') → kind_misfit p.kind r.segments o ≡ None →
    check_place T p r m ≡ children_test T p (pred r.levels) r o m'
unfolding check_within
opened T p r m m' o some h suits = go r.levels some h
  where
    go : (n : ℕ) → 0 < n → read Value (record r { levels = n }) m ≡ (Ok o, m') → check_within T n p r m ≡ children_test T p (pred n) r o m'
    go zero some h = absurd (omega arith)
    go (suc n) some h = ap (check_read p r _) h ∙ rw suits refl

pub closed : (T : List ℕ) (p : SchemaPointer) (r : Reading) (m m' : Meter) (o : Shape) → r.levels ≡ 0 → read Value r m ≡ (Ok o, m') → kind_misfit p.kind r.segments o ≡ None → check_place T p r m ≡ (Ok tt, m')
unfolding check_within
closed T p r m m' o none h suits = go r.levels none h
  where
    go : (n : ℕ) → n ≡ 0 → read Value (record r { levels = n }) m ≡ (Ok o, m') → check_within T n p r m ≡ (Ok tt, m')
    go zero none h = ap (check_read p r _) h ∙ rw suits refl
    go (suc n) none h = absurd (omega arith)

pub leaf : (T : List ℕ) (p : SchemaPointer) (r : Reading) (m m' : Meter) (o : Shape) → ((f : PointerTest) (ps : List ℕ → ℕ → SchemaPointer) (s : Reading) (m : Meter) → check_children f ps s o m ≡ (Ok tt, m)) → read Value r m ≡ (Ok o, m') → kind_misfit p.kind r.segments o ≡ None →
    check_place T p r m ≡ (Ok tt, m')
unfolding check_within
leaf T p r m m' o none h suits = go r.levels h
  where
    go : (n : ℕ) → read Value (record r { levels = n }) m ≡ (Ok o, m') → check_within T n p r m ≡ (Ok tt, m')
    go zero h = ap (check_read p r _) h ∙ rw suits refl
    go (suc n) h = ap (check_read p r _) h ∙ rw suits (none (check_within (table_below T p.kind) n) (schema_pointer (table_below T p.kind) (row_below p.kind)) (record r { levels = n }) m')

null_fits : (k : Kind) (r : Reading) → kind_misfit k r.segments nothing ≡ None
null_fits Any r = refl
null_fits Capability r = refl
null_fits Text r = refl
null_fits Utf8 r = refl
null_fits Data r = refl
null_fits (Struct row) r = refl
null_fits AnyList r = refl
null_fits (ListKind size row) r = refl

pub null_conforms : (T : List ℕ) (p : SchemaPointer) (r : Reading) (m : Meter) → word_of r ≡ 0 → check_place T p r m ≡ (Ok tt, m)
null_conforms T p r m none = leaf T p r m m nothing (λ f ps s m. refl) (null_is Value r m none) (null_fits p.kind r)

-- One of several consecutive pointers is tested, or stops the walk.
pub one_more : (f : PointerTest) (ps : ℕ → SchemaPointer) (r : Reading) (i k : ℕ) (m m' : Meter) → f (ps i) (place_past r i) m ≡ (Ok tt, m') →
    check_pointers f ps i (suc k) (place_past r i) m ≡ check_pointers f ps (i + 1) k (place_past r (i + 1)) m'
one_more f ps r i k m m' h = ap (and_then _) h ∙ ap₂ (λ n p. check_pointers f ps n k (record r { at = p }) m') (let e : suc i ≡ i + 1 = omega arith in e) (let e : r.at + i + 1 ≡ r.at + (i + 1) = omega arith in e)

pub one_stops : (f : PointerTest) (ps : ℕ → SchemaPointer) (r : Reading) (i k : ℕ) (m m' : Meter) (e : Misfit) → f (ps i) r m ≡ (Err e, m') → check_pointers f ps i (suc k) r m ≡ (Err e, m')
one_stops f ps r i k m m' e h = ap (and_then _) h

-- One of several consecutive elements is tested, or stops the walk.
pub row_more : (f : PointerTest) (ps : List ℕ → ℕ → SchemaPointer) (r : Reading) (d q i k : ℕ) (m m' : Meter) →
    check_pointers f (ps (words_from (place_past r (i * (d + q))) d)) 0 q (place_past (place_past r (i * (d + q))) d) m ≡ (Ok tt, m') →
    check_elements f ps d q (suc k) (place_past r (i * (d + q))) m ≡ check_elements f ps d q k (place_past r ((i + 1) * (d + q))) m'
row_more f ps r d q i k m m' h = ap (and_then _) h ∙ ap (λ p. check_elements f ps d q k (record r { at = p }) m') (let e : r.at + i * (d + q) + (d + q) ≡ r.at + (i + 1) * (d + q) = omega arith in e)

pub row_stops : (f : PointerTest) (ps : List ℕ → ℕ → SchemaPointer) (r : Reading) (d q k : ℕ) (m m' : Meter) (e : Misfit) → check_pointers f (ps (words_from r d)) 0 q (place_past r d) m ≡ (Err e, m') → check_elements f ps d q (suc k) r m ≡ (Err e, m')
row_stops f ps r d q k m m' e h = ap (and_then _) h

pub no_pointers : (f : PointerTest) (ps : List ℕ → ℕ → SchemaPointer) (r : Reading) (d n : ℕ) (m : Meter) → check_elements f ps d 0 n r m ≡ (Ok tt, m)
no_pointers f ps r d zero m = refl
no_pointers f ps r d (suc n) m = no_pointers f ps (place_past r (d + 0)) d n m

-- The program's objects.
pub no_children : (f : PointerTest) (ps : List ℕ → ℕ → SchemaPointer) (r : Reading) (x : Object) (m : Meter) → ((rows : ObjectElements) → AreElementsOf x rows → ⊥) → check_children f ps r (object_shape x) m ≡ (Ok tt, m)
no_children f ps r ObjectNull m h = refl
no_children f ps r (ObjectCapability i) m h = refl
no_children f ps r (ObjectFlat start size i) m h = refl
no_children f ps r (ObjectStruct start size) m h = absurd (h (record { start = start; data_words = size.data_words; pointers = size.pointers; count = 1 }) (refl, refl, refl, refl))
no_children f ps r (ObjectPointers start i) m h = absurd (h (record { start = start; data_words = 0; pointers = 1; count = i }) (refl, refl, refl, refl))
no_children f ps r (ObjectStructs start size i) m h = absurd (h (record { start = start; data_words = size.data_words; pointers = size.pointers; count = i }) (refl, refl, refl, refl))

pub children_are : (f : PointerTest) (ps : List ℕ → ℕ → SchemaPointer) (r : Reading) (x : Object) (rows : ObjectElements) (m : Meter) → AreElementsOf x rows →
    check_children f ps r (object_shape x) m ≡ check_elements f ps rows.data_words rows.pointers rows.count (record r { segment = rows.start.segment; at = rows.start.at }) m
children_are f ps r (ObjectStruct start size) rows m (a, d, q, i) = rw (a, d, q, i) refl
children_are f ps r (ObjectPointers start len) rows m (a, d, q, i) = rw (a, d, q, i) refl
children_are f ps r (ObjectStructs start size len) rows m (a, d, q, i) = rw (a, d, q, i) refl
children_are f ps r ObjectNull rows m h = absurd h
children_are f ps r (ObjectCapability i) rows m h = absurd h
children_are f ps r (ObjectFlat start size i) rows m h = absurd h

pub object_ends : (T : List ℕ) (p : SchemaPointer) (r : Reading) (m m' : Meter) (x : Object) → IsObject Value r m m' x → kind_misfit p.kind r.segments (object_shape x) ≡ None → ((rows : ObjectElements) → AreElementsOf x rows → ⊥) → check_place T p r m ≡ (Ok tt, m')
object_ends T p r m m' x object suits none = leaf T p r m m' (object_shape x) (λ f ps s m. no_children f ps s x m none) (object_is Value r m m' x object) suits

pub object_unfit : (T : List ℕ) (p : SchemaPointer) (r : Reading) (m m' : Meter) (x : Object) (e : ErrorKind) → IsObject Value r m m' x → kind_misfit p.kind r.segments (object_shape x) ≡ Some e → check_place T p r m ≡ (Err (misfit_at p r e), m')
object_unfit T p r m m' x e object misses = unfit T p r m m' (object_shape x) e (object_is Value r m m' x object) misses

pub object_opens : (T : List ℕ) (p : SchemaPointer) (r : Reading) (m m' : Meter) (x : Object) (n : ℕ) (rows : ObjectElements) → 0 < r.levels → n ≡ pred r.levels → IsObject Value r m m' x → kind_misfit p.kind r.segments (object_shape x) ≡ None → AreElementsOf x rows →
    check_place T p r m ≡ check_elements (check_within (table_below T p.kind) n) (schema_pointer (table_below T p.kind) (row_below p.kind)) rows.data_words rows.pointers rows.count (record r { levels = n; segment = rows.start.segment; at = rows.start.at }) m'
object_opens T p r m m' x n rows some level object suits has =
    opened T p r m m' (object_shape x) some (object_is Value r m m' x object) suits
    ∙ children_are (check_within (table_below T p.kind) (pred r.levels)) (schema_pointer (table_below T p.kind) (row_below p.kind)) (record r { levels = pred r.levels }) x rows m' has ∙ rw level refl

-- What is known of an object that was read: its bytes, the level it took, and where its elements end.
pub held : (r : Reading) (m m' : Meter) (x : Object) → IsObject Value r m m' x → IsObjectHeld r.segments x
held r m m' ObjectNull o = tt
held r m m' (ObjectCapability i) o = tt
held r m m' (ObjectStruct start size) (a, o, z, starts, wide, many) = starts.0
held r m m' (ObjectFlat start size i) (a, o, z, small, starts, is, len) = starts.0
held r m m' (ObjectPointers start i) (a, o, z, six, starts, len) = starts.0
held r m m' (ObjectStructs start size i) (a, o, z, seven, starts, len, wide, many) = starts.0

structs_inside : {r : Reading} {m m' : Meter} (start : Place) (size : StructSize) (i : ℕ) → IsObject Value r m m' (ObjectStructs start size i) → start.at + i * (size.data_words + size.pointers) ≤ length (segment r.segments start.segment)
structs_inside {r} start size i (a, o, z, seven, (held, seg, at), len, wide, many) =
    let room = o.meets.claims in
    rw (seg, len, wide, many) (omega (arith, room, at, claim_list a.word 7 z seven, (o.meets.tagged (z, seven)).1))

pub level : (r : Reading) (m m' : Meter) (rows : ObjectElements) (x : Object) → IsObject Value r m m' x → AreElementsOf x rows → 0 < r.levels
level r m m' rows (ObjectStruct start size) o has = o.1.meets.levels
level r m m' rows (ObjectPointers start i) o has = o.1.meets.levels
level r m m' rows (ObjectStructs start size i) o has = o.1.meets.levels
level r m m' rows ObjectNull o has = absurd has
level r m m' rows (ObjectCapability i) o has = absurd has
level r m m' rows (ObjectFlat start size i) o has = absurd has

pub inside : (r : Reading) (m m' : Meter) (rows : ObjectElements) (x : Object) → IsObject Value r m m' x → AreElementsOf x rows → rows.start.at + rows.count * (rows.data_words + rows.pointers) ≤ length (segment_read (beginning r rows.start))
inside r m m' rows (ObjectStruct start size) o (a, d, q, n) = rw (a, d, q, n) (let room = struct_room {r = r} {m = m} {m' = m'} start size o in omega (arith, room))
inside r m m' rows (ObjectStructs start size i) o (a, d, q, n) = rw (a, d, q, n) (structs_inside {r = r} {m = m} {m' = m'} start size i o)
inside r m m' rows (ObjectPointers start i) o (a, d, q, n) = rw (a, d, q, n) (let room = pointers_room {r = r} {m = m} {m' = m'} start i o in omega (arith, room))
inside r m m' rows ObjectNull o has = absurd has
inside r m m' rows (ObjectCapability i) o has = absurd has
inside r m m' rows (ObjectFlat start size i) o has = absurd has

-- A list of bits or numbers in the pointer's own segment.
near_read : {w : ℕ} {r : Reading} {m m' : Meter} {p : ℕ} → IsWordAt w r → kind w ≡ 1 → element_size w ≤ 5 → EntersNear Value r m m' p → read Value r m ≡ (Ok (flat r.segment p (element_size w) (list_count w)), m')
near_read {w} {r} {m} {m'} {p} word is_list small o =
    entering_is Value r m m' (near_at r p) o
    ∙ ap (λ x. (Ok x, m')) (near_flat r p (subst (λ x. kind x ≡ 1) word.there is_list) (subst (λ x. element_size x ≤ 5) word.there small))
    ∙ ap (λ x. (Ok (flat r.segment p (element_size x) (list_count x)), m')) (sym word.there)

pub flat_unfit : {w : ℕ} {r : Reading} {m m' : Meter} {at : ℕ} (T : List ℕ) (p : SchemaPointer) (e : ErrorKind) (size n : ℕ) → IsWordAt w r → kind w ≡ 1 → element_size w ≤ 5 → EntersNear Value r m m' at → size ≡ element_size w → n ≡ list_count w → kind_misfit p.kind r.segments (flat r.segment at size n) ≡ Some e →
    check_place T p r m ≡ (Err (misfit_at p r e), m')
flat_unfit {w} {r} {m} {m'} {at} T p e size n word is_list small o wide many misses =
    unfit T p r m m' (flat r.segment at (element_size w) (list_count w)) e (near_read word is_list small o) (rw (wide, many) at misses)

pub flat_ends : {w : ℕ} {r : Reading} {m m' : Meter} {at : ℕ} (T : List ℕ) (p : SchemaPointer) (size n : ℕ) → IsWordAt w r → kind w ≡ 1 → element_size w ≤ 5 → EntersNear Value r m m' at → size ≡ element_size w → n ≡ list_count w → kind_misfit p.kind r.segments (flat r.segment at size n) ≡ None →
    check_place T p r m ≡ (Ok tt, m')
flat_ends {w} {r} {m} {m'} {at} T p size n word is_list small o wide many suits =
    leaf T p r m m' (flat r.segment at (element_size w) (list_count w)) (λ f ps s m. refl) (near_read word is_list small o) (rw (wide, many) at suits)

-- The bytes of such a list are there.
pub flat_at_hand : {w : ℕ} {r : Reading} {m m' : Meter} {p : ℕ} (bytes : List ℕ) (size n : ℕ) → IsWordAt w r → kind w ≡ 1 → element_size w ≤ 5 → EntersNear Value r m m' p → size ≡ element_size w → n ≡ list_count w → length bytes ≡ 8 * length (segment r.segments r.segment) →
    (size ≤ 5) × (0 < size → 8 * (p + words_for size n) ≤ length bytes)
flat_at_hand {w} {r} {m} {m'} {p} bytes size n word is_list small o wide many long =
    let claims = o.meets.claims in
    let list = subst (λ x. kind x ≡ 1) word.there is_list in
    let same : element_size w ≡ element_size (word_of r) = ap element_size word.there in
    let few : list_count w ≡ list_count (word_of r) = ap list_count word.there in
    let room : p + words_for (element_size (word_of r)) (list_count (word_of r)) ≤ length (segment r.segments r.segment) = omega (arith, claims, claim_list (word_of r) (element_size (word_of r)) list refl, claim_flat (element_size (word_of r)) (list_count (word_of r)) (subst (λ x. element_size x ≤ 5) word.there small)) in
    rw (wide, many, same, few) (omega (arith, small, same), λ some. omega (arith, room, long))
