-- The copy of what a pointer means, to a message of any number of segments, once its object was
-- read.
use Rattle.std.proofs.Common.{◌≡◌, ◌⊎◌, inl, inr, ℕ, pred, ◌+◌, ◌*◌, ◌^◌, ◌<◌, List, length, take, drop, length-take, refl, append-nil, set, sym, ap, ap₂, ◌∙◌, subst, arith, Result, Ok, Err, IsOk, OnOk, OnErr, IfOk, IfErr}
use Rattle.capnp_words.specs.declared.error.ErrorKind.{ErrorKind}
use Rattle.capnp_words.specs.declared.error.ErrorKind.TheVariants.{CannotCreateACanonicalMessageWithACapability, UnknownPointerType}
use Rattle.capnp_words.specs.Meter.{Meter}
use Rattle.capnp_words.specs.declared.wire_pointer.ElementSize.{ElementSize}
use Rattle.capnp_words.specs.declared.wire_pointer.StructSize.{StructSize}
use Rattle.capnp_words.specs.Sizes.{size_number}
use Rattle.capnp_format.specs.Bytes.{words_of}
use Rattle.capnp_format.specs.Numbers.{words_for, unpacked}
use Rattle.capnp_format.specs.Segments.{segment, word_at, words_at, IsPlace}
use Rattle.capnp_format.specs.Tree.{Tree, Null, Capability, Flat}
use Rattle.capnp_format.specs.Word.{capability_word}
use Rattle.capnp_format.specs.Canonical.{word_count}
use Rattle.capnp_arena_traits.specs.View.{View}
use Rattle.capnp_arena_traits.specs.Written.{with_word, with_segment}
use Rattle.capnp_allocation.specs.Memory.{KeepsMemory, SpendsMemory, RefusesWords}
use Rattle.capnp_allocation.specs.Near.{HasOwnRoom}
use Rattle.capnp_allocation.specs.Stored.{IsReplaced}
use Rattle.capnp_allocation.proofs.Memory.{not_the_allocator, keeps_itself, keeps_written, spends_nothing}
use Rattle.capnp_allocation.proofs.PlacedStructs.{capability_made}
use Rattle.capnp_pointers.specs.Objects.{IsObject}
use Rattle.capnp_pointers.specs.Outcomes.{Reads}
use Rattle.capnp_pointers.specs.Refusals.{Stopped, here}
use Rattle.capnp_pointers.specs.Reading.{Reading, place_past, words_from}
use Rattle.capnp_pointers.specs.Wanted.{Form, plain, canonical, of_default}
use Rattle.capnp_pointers.specs.declared.object.Place.{Place}
use Rattle.capnp_pointers.specs.declared.object.Object.TheVariants.{Null as ObjectNull, Capability as ObjectCapability, Struct as ObjectStruct, Flat as ObjectFlat, Pointers as ObjectPointers, Structs as ObjectStructs}
use Rattle.capnp_pointers.specs.declared.object.Purpose.TheVariants.{Value}
use Rattle.capnp_pointers.proofs.WholeValue.RefusalsNamed.{not_for_memory}
use Rattle.capnp_pointers.proofs.WholeValue.ObjectsRead.{read_null, read_flat, read_struct, read_pointers, read_structs}
use Rattle.capnp_pointers.proofs.WholeValue.UnreadableIfRefused.{stops_struct, stops_pointers, stops_structs}
use Rattle.capnp_copies.specs.Changes.{as_numbers, copy_call, IsCopiedInRoom, StayInSegment, MakesCopy}
use Rattle.capnp_copies.proofs.Copying.{StopsHalfway}
use Rattle.capnp_copies.specs.Forms.{kept}
use Rattle.capnp_copies.proofs.InPlace.{IsCopied}
use Rattle.capnp_copies.specs.Originals.{value_original, sections_original, pointers_original, structs_original}
use Rattle.capnp_copies.proofs.KeptForms.{kept_count-le}
use Rattle.capnp_copies.proofs.FilledObjects.{nothing_left}
use Rattle.capnp_copies.proofs.FlatRead.{word_count-flat}
use Rattle.capnp_copies.proofs.NoRoom.{entered_comes, struct_value_comes, pointers_value_comes, structs_value_comes}
use Rattle.capnp_copies.proofs.TooLarge.{struct_value_too_large, pointers_value_too_large, structs_value_too_large, flat_too_large}
use Rattle.capnp_copies.proofs.Originals.{halfway, sections_beyond, pointers_beyond, structs_beyond}
use Rattle.capnp_copies.proofs.StructsCopied.{null_written}
use Rattle.capnp_copies.proofs.ObjectsRead.{inside, capability_stopped, default_stopped, flat_held}
use Rattle.capnp_pointers.proofs.WholeValue.ValueAgrees.{stopped_form}
use Rattle.capnp_pointers.proofs.Following.LeadsWhereFollowed.{leads_there}
use Rattle.capnp_allocation.specs.Makes.{call_at}

pub object_stops : {r : Reading} {b : Form} {s p : ℕ} {v : View} {m m' : Meter} {k : ErrorKind} → IsPlace v.words s p → word_at v.words s p ≡ 0 → Stopped Value b r m m' k → StopsHalfway (value_original r) (copy_call b (call_at s p v v) m m') k
object_stops {r} {b} {s} {p} {v} {m} {m'} {k} place null h =
    halfway (inr (inl (here h)))
    ((Null, nothing_left v.words v.words s p place null refl), spends_nothing v v k (not_the_allocator k (λ e. not_for_memory (here (subst (Stopped Value b r m m') e h)))) (keeps_itself v))

pub read_stops : {r : Reading} {b : Form} {s p : ℕ} {v : View} {m m' : Meter} {k : ErrorKind} → IsPlace v.words s p → word_at v.words s p ≡ 0 → Stopped Value plain r m m' k → StopsHalfway (value_original r) (copy_call b (call_at s p v v) m m') k
read_stops {b = b} place null h = object_stops place null (stopped_form b h)

-- Null pointers and capabilities.

kept_null : (b : Form) → kept b Null ≡ Null
kept_null canonical = refl
kept_null _ = refl

pub null_copied : {r : Reading} {b : Form} {s p : ℕ} {v : View} {m m' : Meter} → IsObject Value r m m' ObjectNull → IsPlace v.words s p → word_at v.words s p ≡ 0 → MakesCopy (value_original r) (copy_call b (call_at s p v v) m m')
null_copied {r} {b} {s} {p} {v} {m} {m'} object place null = record {
  value = Null;
  is_read = subst (λ x. Reads b r m x Null) (sym object.1) (read_null m object.0);
  made = subst (IsReplaced v.words v.words s p Null) (sym (kept_null b)) (nothing_left v.words v.words s p place null refl);
  memory = keeps_itself v;
  stands = subst (λ t. StayInSegment v v s (word_count t) → IsCopied v.words v.words s p t) (sym (kept_null b)) (λ fits. null_written v.words s p null);
}

unfoldable pub capability_read : {r : Reading} (m m' : Meter) (i : ℕ) → IsObject Value r m m' (ObjectCapability i) → Reads plain r m m' (Capability i)
capability_read {r} m m' i (a, l, low, e, covers, spent) =
    record { cost = a.pads; means = (a, leads_there r a l (λ f. omega (arith, f, low)), (let f : a.word ≡ capability_word i = omega (arith, low, e) in f), refl); takes = λ f. absurd (f refl); covers = covers; spent = spent }

pub capability_copied : {r : Reading} {s p i : ℕ} {old new : View} {m m' : Meter} → IsObject Value r m m' (ObjectCapability i) → IsPlace old.words s p → new ≡ record old { words = with_word old.words s p (capability_word i) } → MakesCopy (value_original r) (copy_call plain (call_at s p old new) m m')
capability_copied {r} {s} {p} {i} {old} {new} {m} {m'} object place writes = record {
  value = Capability i;
  is_read = capability_read m m' i object;
  made = capability_made old.words new.words s p i place (ap (λ (v : View). v.words) writes);
  memory = keeps_written old new _ writes;
  stands = λ fits. ap (λ (v : View). v.words) writes ∙ ap (λ ws. with_segment old.words s (set ws p (capability_word i))) (sym (append-nil (segment old.words s)));
}

pub capability_stops : {r : Reading} {s p i : ℕ} {v : View} {m m' : Meter} → IsObject Value r m m' (ObjectCapability i) → IsPlace v.words s p → word_at v.words s p ≡ 0 → StopsHalfway (value_original r) (copy_call canonical (call_at s p v v) m m') CannotCreateACanonicalMessageWithACapability
capability_stops {i = i} {m = m} {m'} object place null = object_stops place null (capability_stopped m m' i object)

pub default_stops : {r : Reading} {s p i : ℕ} {v : View} {m m' : Meter} → IsObject Value r m m' (ObjectCapability i) → IsPlace v.words s p → word_at v.words s p ≡ 0 → StopsHalfway (value_original r) (copy_call of_default (call_at s p v v) m m') UnknownPointerType
default_stops {i = i} {m = m} {m'} object place null = object_stops place null (default_stopped m m' i object)

-- The call that copies a capability.
pub record CapabilityCopied (result : Result (Unit {0}) ErrorKind) (b : Form) (s p i : ℕ) (old new : View) : Type 0 where
  pub as_it_stands : OnOk result (b ≡ plain)
  pub copied : OnOk result (new ≡ record old { words = with_word old.words s p (capability_word i) })
  pub refused : IfErr result (λ k. ((b ≡ canonical) × (k ≡ CannotCreateACanonicalMessageWithACapability)) ⊎ ((b ≡ of_default) × (k ≡ UnknownPointerType)))
  pub unchanged : OnErr result (new ≡ old)

pub capability_value : {b : Form} {s p i : ℕ} {old new : View} (r : Reading) (m m' : Meter) (result : Result (Unit {0}) ErrorKind) → IsObject Value r m m' (ObjectCapability i) → IsPlace old.words s p → CapabilityCopied result b s p i old new →
    IfOk result (λ _. MakesCopy (value_original r) (copy_call b (call_at s p old new) m m'))
capability_value {b} {s} {p} {i} {old} {new} r m m' (Ok x) object place o =
    subst (λ f. MakesCopy (value_original r) (copy_call f (call_at s p old new) m m')) (sym o.as_it_stands) (capability_copied object place o.copied)
capability_value r m m' (Err k) object place o = tt

pub capability_value_stops : {b : Form} {s p i : ℕ} {old new : View} (r : Reading) (m m' : Meter) (result : Result (Unit {0}) ErrorKind) → IsObject Value r m m' (ObjectCapability i) → IsPlace old.words s p → word_at old.words s p ≡ 0 → CapabilityCopied result b s p i old new →
    IfErr result (StopsHalfway (value_original r) (copy_call b (call_at s p old new) m m'))
capability_value_stops r m m' (Ok x) object place null o = tt
capability_value_stops {b} {s} {p} {i} {old} {new} r m m' (Err k) object place null o = elim o.refused [
  | inl x ↦ rw (x.0, x.1, o.unchanged) (capability_stops object place null)
  | inr x ↦ rw (x.0, x.1, o.unchanged) (default_stops object place null)
]

-- A struct.

pub struct_value : {r : Reading} {b : Form} {s p levels : ℕ} {old new : View} {m m' m'' : Meter} {size : StructSize} (start : Place) → (0 < r.levels → levels ≡ pred r.levels) → IsObject Value r m m' (ObjectStruct start size) →
    MakesCopy (sections_original (words_from (inside r levels start) size.data_words) (place_past (inside r levels start) size.data_words) size.pointers) (copy_call b (call_at s p old new) m' m'') → MakesCopy (value_original r) (copy_call b (call_at s p old new) m m'')
struct_value {r} {b} {m = m} {m'' = m''} {size = size} start less (a, o, z, (held, es, eb), ed, eq) struct =
    let en = less o.meets.levels in
    let e : start.at ≡ a.start = omega arith in
    let (ts, is, counts, read) = struct.is_read in
    record {
      value = struct.value;
      is_read = subst (Reads b r m m'') (sym is) (rw (es, e, ed) (read_struct o z (counts ∙ eq) (rw (en, es, e, ed) at read)));
      made = struct.made;
      memory = struct.memory;
      stands = struct.stands;
    }

pub struct_value_stops : {r : Reading} {b : Form} {s p levels : ℕ} {old new : View} {m m' m'' : Meter} {size : StructSize} {k : ErrorKind} (start : Place) → (0 < r.levels → levels ≡ pred r.levels) → IsObject Value r m m' (ObjectStruct start size) →
    StopsHalfway (sections_original (words_from (inside r levels start) size.data_words) (place_past (inside r levels start) size.data_words) size.pointers) (copy_call b (call_at s p old new) m' m'') k → StopsHalfway (value_original r) (copy_call b (call_at s p old new) m m'') k
struct_value_stops {r} {b} {s} {levels = levels} {old = old} {new = new} {m = m} {m'' = m''} {size = size} {k = k} start less (a, o, z, (held, es, eb), ed, eq) (t, stop) =
    let ws : List ℕ = words_from (inside r levels start) size.data_words in
    let en = less o.meets.levels in
    let e : start.at ≡ a.start = omega arith in (
      t,
      record {
        why = elim stop.why [
          | inl x ↦ inl (
            struct_value_comes old new start less (a, o, z, (held, es, eb), ed, eq) x.0,
            struct_value_too_large b (length (segment old.words s)) (old.room s) start less (a, o, z, (held, es, eb), ed, eq) (sections_beyond b ws (place_past (inside r levels start) size.data_words) size.pointers (length (segment old.words s)) (old.room s) x.1),
          )
          | inr x ↦ elim x [
            | inl refused ↦ inr (inl (stops_struct o z (rw (en, es, e, ed, eq) at refused)))
            | inr wide ↦ absurd (omega (arith, wide.0, kept_count-le b ws, length-take size.data_words (drop start.at (segment r.segments start.segment)), ed))
          ]
        ];
        left = stop.left;
        memory = stop.memory;
      },
    )

-- A list of pointers.

pub pointers_value : {r : Reading} {b : Form} {s p levels i : ℕ} {old new : View} {m m' m'' : Meter} (start : Place) → (0 < r.levels → levels ≡ pred r.levels) → IsObject Value r m m' (ObjectPointers start i) →
    MakesCopy (pointers_original i (inside r levels start)) (copy_call b (call_at s p old new) m' m'') → MakesCopy (value_original r) (copy_call b (call_at s p old new) m m'')
pointers_value {r} {b} {m = m} {m'' = m''} start less (a, o, z, six, (held, es, eb), ei) list =
    let en = less o.meets.levels in
    let e : start.at ≡ a.start = omega arith in
    let (ts, is, counts, read) = list.is_read in
    record { value = list.value; is_read = subst (Reads b r m m'') (sym is) (read_pointers o z six (counts ∙ ei) (rw (en, es, e) at read)); made = list.made; memory = list.memory; stands = list.stands }

pub pointers_value_stops : {r : Reading} {b : Form} {s p levels i : ℕ} {old new : View} {m m' m'' : Meter} {k : ErrorKind} (start : Place) → (0 < r.levels → levels ≡ pred r.levels) → IsObject Value r m m' (ObjectPointers start i) → i < 2 ^ 29 →
    StopsHalfway (pointers_original i (inside r levels start)) (copy_call b (call_at s p old new) m' m'') k → StopsHalfway (value_original r) (copy_call b (call_at s p old new) m m'') k
pointers_value_stops {r} {b} {s} {levels = levels} {i} {old = old} {new = new} {m = m} start less (a, o, z, six, (held, es, eb), ei) few (t, stop) =
    let en = less o.meets.levels in
    let e : start.at ≡ a.start = omega arith in (
      t,
      record {
        why = elim stop.why [
          | inl x ↦ inl (
            pointers_value_comes old new start less (a, o, z, six, (held, es, eb), ei) x.0,
            pointers_value_too_large b (length (segment old.words s)) (old.room s) start less (a, o, z, six, (held, es, eb), ei) (pointers_beyond b (inside r levels start) i (length (segment old.words s)) (old.room s) x.1),
          )
          | inr x ↦ elim x [ inl refused ↦ inr (inl (stops_pointers o z six (rw (en, es, e, ei) at refused))) | inr long ↦ absurd (long.0 few) ]
        ];
        left = stop.left;
        memory = stop.memory;
      },
    )

-- A list of structs.

pub structs_value : {r : Reading} {b : Form} {s p levels i : ℕ} {old new : View} {m m' m'' : Meter} {size : StructSize} (start : Place) → (0 < r.levels → levels ≡ pred r.levels) → IsObject Value r m m' (ObjectStructs start size i) →
    MakesCopy (structs_original size i (inside r levels start)) (copy_call b (call_at s p old new) m' m'') → MakesCopy (value_original r) (copy_call b (call_at s p old new) m m'')
structs_value {r} {b} {m = m} {m'' = m''} {size = size} start less (a, o, z, seven, (held, eu, eb), ei, ed, eq) list =
    let en = less o.meets.levels in
    let e : start.at ≡ a.start + 1 = omega arith in
    let (es, is, counts, read) = list.is_read in
    record {
      value = list.value;
      is_read = subst (Reads b r m m'') (sym is) (rw (ed, eq) (read_structs o z seven (counts ∙ ei) (rw (en, eu, e, ed, eq) at read)));
      made = list.made;
      memory = list.memory;
      stands = list.stands;
    }

pub structs_value_stops : {r : Reading} {b : Form} {s p levels i : ℕ} {old new : View} {m m' m'' : Meter} {size : StructSize} {k : ErrorKind} (start : Place) → (0 < r.levels → levels ≡ pred r.levels) → IsObject Value r m m' (ObjectStructs start size i) → (i < 2 ^ 30) × (i * (size.data_words + size.pointers) < 2 ^ 29) →
    StopsHalfway (structs_original size i (inside r levels start)) (copy_call b (call_at s p old new) m' m'') k → StopsHalfway (value_original r) (copy_call b (call_at s p old new) m m'') k
structs_value_stops {r} {b} {s} {levels = levels} {i} {old = old} {new = new} {m = m} {size = size} start less (a, o, z, seven, (held, eu, eb), ei, ed, eq) few (t, stop) =
    let en = less o.meets.levels in
    let e : start.at ≡ a.start + 1 = omega arith in (
      t,
      record {
        why = elim stop.why [
          | inl x ↦ inl (
            structs_value_comes old new start less (a, o, z, seven, (held, eu, eb), ei, ed, eq) x.0,
            structs_value_too_large b (length (segment old.words s)) (old.room s) start less (a, o, z, seven, (held, eu, eb), ei, ed, eq) (structs_beyond b (inside r levels start) size i (length (segment old.words s)) (old.room s) x.1),
          )
          | inr x ↦ elim x [ inl refused ↦ inr (inl (stops_structs o z seven (rw (en, eu, e, ed, eq, ei) at refused))) | inr long ↦ absurd (long.0 few) ]
        ];
        left = stop.left;
        memory = stop.memory;
      },
    )

-- A list of numbers.

pub kept_flat : (b : Form) (size : ℕ) (ns : List ℕ) → kept b (Flat size ns) ≡ Flat size ns
kept_flat canonical size ns = refl
kept_flat _ size ns = refl

flat_read_in : {r : Reading} {m m' : Meter} {i n : ℕ} {ws : List ℕ} (b : Form) (start : Place) (size : ElementSize) → IsObject Value r m m' (ObjectFlat start size i) → n ≡ words_for (size_number size) i → ws ≡ take n (drop start.at (words_of start.bytes.now)) →
    Reads b r m m' (Flat (size_number size) (unpacked (size_number size) i ws))
flat_read_in {r} {m} {m'} {i} {n} {ws} b start size (a, o, z, small, (held, es, eb), ez, ei) words part =
    let f : start.at ≡ a.start = omega arith in
    let here : ws ≡ words_at r.segments start.segment start.at (words_for (size_number size) i) = part ∙ ap₂ (λ k xs. take k (drop start.at xs)) words (flat_held m m' start size i (a, o, z, small, (held, es, eb), ez, ei)) in
    rw here (rw (ez, ei, es, f) (read_flat o z small))

-- The copy of these elements is made if `result` is Ok; otherwise the arena refuses it.
pub record FlatOutcome (result : Result (Unit {0}) ErrorKind) (s p n : ℕ) (old new : View) (t : Tree) : Type 0 where
  pub copied : OnOk result (IsReplaced old.words new.words s p Null t)
  pub granted : OnOk result (KeepsMemory old new)
  pub refused : IfErr result (RefusesWords old new n)
  pub kept : OnErr result (new.words ≡ old.words)
  pub memory : IfErr result (SpendsMemory old new)
  pub stands : OnOk result (IsCopiedInRoom old new s p t)
  pub fits : HasOwnRoom old s (word_count t) → IsOk result

pub flat_value : {r : Reading} {s p i n : ℕ} {old new : View} {m m' : Meter} {ws : List ℕ} (b : Form) (result : Result (Unit {0}) ErrorKind) (start : Place) (size : ElementSize) → IsObject Value r m m' (ObjectFlat start size i) → n ≡ words_for (size_number size) i →
    ws ≡ take n (drop start.at (words_of start.bytes.now)) → FlatOutcome result s p (words_for (size_number size) i) old new (Flat (size_number size) (unpacked (size_number size) i ws)) → IfOk result (λ _. MakesCopy (value_original r) (copy_call b (call_at s p old new) m m'))
flat_value {s = s} {p = p} {i = i} {old = old} {new = new} {m = m} {m' = m'} {ws = ws} b (Ok x) start size object words part f = record {
  value = Flat (size_number size) (unpacked (size_number size) i ws);
  is_read = flat_read_in b start size object words part;
  made = subst (IsReplaced old.words new.words s p Null) (sym (kept_flat b (size_number size) (unpacked (size_number size) i ws))) f.copied;
  memory = f.granted;
  stands = subst (λ t. StayInSegment old new s (word_count t) → IsCopied old.words new.words s p t) (sym (kept_flat b (size_number size) (unpacked (size_number size) i ws))) f.stands;
}
flat_value b (Err k) start size object words part f = tt

pub flat_stops : {r : Reading} {s p i n : ℕ} {old new : View} {m m' : Meter} {ws : List ℕ} (b : Form) (result : Result (Unit {0}) ErrorKind) (start : Place) (size : ElementSize) → IsObject Value r m m' (ObjectFlat start size i) → n ≡ words_for (size_number size) i →
    ws ≡ take n (drop start.at (words_of start.bytes.now)) → IsPlace old.words s p × (word_at old.words s p ≡ 0) → FlatOutcome result s p (words_for (size_number size) i) old new (Flat (size_number size) (unpacked (size_number size) i ws)) → IfErr result (StopsHalfway (value_original r) (copy_call b (call_at s p old new) m m'))
flat_stops b (Ok x) start size object words part (place, null) f = tt
flat_stops {s = s} {p = p} {i = i} {old = old} {new = new} {m = m} {m' = m'} {ws = ws} b (Err k) start size (a, o, z, small, held, ez, ei) words part (place, null) f =
    let full : HasOwnRoom old s (word_count (Flat (size_number size) (unpacked (size_number size) i ws))) → ⊥ = λ room. (let is = f.fits room in cc is) in
    halfway (inl (
      inr (entered_comes {n = words_for (size_number size) i} (copy_call b (call_at s p old new) m m') k o (as_numbers z small (ap₂ words_for ez ei)) refl (f.refused, omega (arith, full, word_count-flat (size_number size) i ws))),
      flat_too_large b (length (segment old.words s)) (old.room s) (flat_read_in b start size (a, o, z, small, held, ez, ei) words part) (λ room. full (omega (arith, room, ap word_count (kept_flat b (size_number size) (unpacked (size_number size) i ws))))),
    )) ((Null, nothing_left old.words new.words s p place null f.kept), f.memory)
