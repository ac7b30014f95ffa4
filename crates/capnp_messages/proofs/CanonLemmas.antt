-- What a copy to the root of a fresh message leaves, and what a refused one states about the
-- message that was read.
use Rattle.std.proofs.Common.{◌≡◌, ◌⊎◌, inl, inr, Some, None, ℕ, ◌+◌, ◌<◌, ◌≤◌, [], ◌∷◌, length, drop, Bool, IsTrue, Option, IfSome, IsNone, refl, ap, ap₂, sym, ◌∙◌, subst, arith, length-set, length-take}
use Rattle.capnp_words.specs.declared.error.ErrorKind.{ErrorKind}
use Rattle.capnp_words.specs.declared.error.ErrorKind.TheVariants.{AllocationFailed}
use Rattle.capnp_format.specs.Segments.{Segments, IsPlace, segment, word_at}
use Rattle.capnp_words.specs.Meter.{Meter, unused, less, FitsIn}
use Rattle.capnp_pointers.specs.Refusals.{Refused}
use Rattle.capnp_pointers.specs.Reading.{Reading, place_past, segment_read, words_from}
use Rattle.capnp_pointers.specs.Wanted.{canonical}
use Rattle.capnp_format.specs.Canonical.{encoding, trim, word_count}
use Rattle.capnp_format.specs.Tree.{Tree, Null, Struct}
use Rattle.capnp_format.proofs.Trimming.{used_words-le}
use Rattle.capnp_format.proofs.Levels.{one_value}
use Rattle.std.proofs.lemmas.Bool.{cases_lt}
use Rattle.capnp_allocation.specs.Memory.{KeepsMemory}
use Rattle.capnp_copies.specs.Changes.{ComesToObject, MakesCopy, StopsCopy, copy_call}
use Rattle.capnp_copies.specs.Originals.{value_original}
use Rattle.capnp_copies.proofs.Copying.{fresh_made}
use Rattle.capnp_copies.proofs.ElementsLaid.{one_row}
use Rattle.capnp_copies.proofs.Originals.{ExceedsRoom, sections_beyond, value_beyond}
use Rattle.capnp_messages.specs.Copies.{HoldsCanonicalWords, LacksMemoryOr, RefusesCopyAnywhere}
use Rattle.capnp_messages.specs.EndValues.{EndMeans, EndReads, IsElementPlace, IsEndThere, end_original}
use Rattle.capnp_messages.specs.Parts.{PathEnd, to_element, to_pointer}
use Rattle.capnp_messages.proofs.EndRefusals.{MeansMore, StopsAnywhere, stops_anywhere}
use Rattle.capnp_messages.proofs.EndValueLemmas.{EndStopsAs}
use Rattle.capnp_pointers.specs.Outcomes.{Reads}
use Rattle.capnp_arena_traits.specs.Allocations.{one_more}
use Rattle.capnp_arena_traits.specs.View.{View}
use Rattle.capnp_allocation.specs.Makes.{call_at}
use Rattle.capnp_format.proofs.Slices.{only_segment}
use Rattle.capnp_allocation.proofs.Memory.{words_named}

-- the root of a fresh message is its only word, which is zero
root_alone : (S : Segments) → S ≡ (0 ∷ []) ∷ [] → segment S 0 ≡ 0 ∷ []
root_alone S fresh = ap (λ (M : Segments). segment M 0) fresh

pub root_there : (S : Segments) → S ≡ (0 ∷ []) ∷ [] → IsPlace S 0 0
root_there S fresh = omega (arith, ap length (root_alone S fresh))

pub root_null : (S : Segments) → S ≡ (0 ∷ []) ∷ [] → word_at S 0 0 ≡ 0
root_null S fresh = ap (λ (M : Segments). word_at M 0 0) fresh

-- what is read of the end of a path
pub end_reads : (e : PathEnd) (m m' : Meter) (t : Tree) → IsEndThere e → (end_original e).reads canonical m m' t → EndReads e m m' t
end_reads (to_pointer r) m m' t there reads = reads
end_reads (to_element r d q) m m' t there reads = (there, reads)

-- a copy to the root is the whole message, if the message has one segment afterwards
pub end_copied : (e : PathEnd) (left : Option ℕ) (old made : View) (l m : Meter) → IsEndThere e → old.words ≡ (0 ∷ []) ∷ [] → l ≡ unused left →
    MakesCopy (end_original e) (copy_call canonical (call_at 0 0 old made) l m) → (t : Tree) × EndReads e (unused left) m t × (length made.words ≡ 1 → HoldsCanonicalWords made t)
end_copied e left old made l m there fresh begun copied =
    let t = copied.value in
    let place = root_there old.words fresh in
    let only = root_alone old.words fresh in (
      t,
      subst (λ (x : Meter). EndReads e x m t) begun (end_reads e l m t there copied.is_read),
      λ one. only_segment made.words (encoding (trim t)) one (fresh_made old.words 0 0 (trim t) (place, only) (copied.stands (inr one))),
    )

-- the end of a path means at most one value
one_end_value : (e : PathEnd) (l m : Meter) (t u : Tree) (c : ℕ) → EndReads e l m t → EndMeans e u c → t ≡ u
one_end_value (to_pointer r) l m t u c reads means = (one_value r.segments r.levels r.levels r.segment r.at t u reads.cost c reads.means means).0
one_end_value (to_element r d q) l m t u c (there, (ts, is, counts, reads)) (ws, us, is_too, long, many, here, means) =
    let words : words_from r d ≡ ws = ap (λ n. words_from r n) (sym long) ∙ here in
    is ∙ ap₂ (λ vs rest. Struct vs rest) words (one_row (place_past r d) ts us (reads.cost, reads.means) (c, means) (counts ∙ sym many)) ∙ sym is_too

-- if it has more, not all words fit in the first
pub end_spread : (e : PathEnd) (old new : View) (l m : Meter) → IsEndThere e → old.words ≡ (0 ∷ []) ∷ [] →
    MakesCopy (end_original e) (copy_call canonical (call_at 0 0 old new) l m) → (length new.words ≡ 1) ⊎ MeansMore e (old.room 0)
end_spread e old new l m there fresh copied =
    let t = copied.value in
    let reads : EndReads e l m t = end_reads e l m t there copied.is_read in
    elim (cases_lt (old.room 0) (1 + word_count (trim t))) [
      | inl beyond ↦ inr (λ u c means. (let same = ap (λ v. word_count (trim v)) (one_end_value e l m t u c reads means) in omega (arith, same, beyond)))
      | inr fits ↦
          let used : length (segment old.words 0) ≡ 1 = ap length (root_alone old.words fresh) in
          let same = copied.stands (inl (omega (arith, fits, used))) in
          inl (ap length same ∙ length-set old.words 0 _ ∙ ap length fresh)
    ]

-- a copy leaves the room of its first segment unchanged
pub kept_room : (old new : View) → old.words ≡ (0 ∷ []) ∷ [] → KeepsMemory old new → new.room 0 ≡ old.room 0
kept_room old new fresh kept =
    let some : 0 < length old.words = omega (arith, ap length fresh) in
    kept.1 0 some

-- why a copy to the root of a fresh message is refused
refused_pointer : (r : Reading) (left : Option ℕ) (old new : View) (l m : Meter) (t : Tree) (k : ErrorKind) → old.words ≡ (0 ∷ []) ∷ [] → l ≡ unused left →
    StopsCopy (value_original r) (copy_call canonical (call_at 0 0 old new) l m) t k → StopsAnywhere (to_pointer r) left (old.room 0) k
refused_pointer r left old new l m t k fresh begun stop =
    let used : length (segment old.words 0) ≡ 1 = ap length (root_alone old.words fresh) in
    elim stop.why [
      | inl (inl none, large) ↦ absurd none.2
      | inl (inr (n, stops, (refused, full)), large) ↦
          let out : ComesToObject (value_original r) canonical l m (λ i all. old.room 0 < 1 + all) = (n, stops, omega (arith, full, used)) in
          inl (
            words_named old new n k refused,
            λ t c means. (let beyond = value_beyond canonical r (length (segment old.words 0)) (old.room 0) large t c means in omega (arith, beyond, used)),
            inr (m, subst (λ (x : Meter). ComesToObject (value_original r) canonical x m (λ i all. old.room 0 < 1 + all)) begun out),
          )
      | inr y ↦ elim y [ inl refused ↦ inr (m, subst (λ (x : Meter). Refused canonical r x m k) begun refused) | inr none ↦ absurd none ]
    ]

-- the same of a copy of what a pointer means
pub made_copy : (r : Reading) (left : Option ℕ) (old made : View) (l m : Meter) → old.words ≡ (0 ∷ []) ∷ [] → l ≡ unused left →
    MakesCopy (value_original r) (copy_call canonical (call_at 0 0 old made) l m) → (t : Tree) × Reads canonical r (unused left) m t × (length made.words ≡ 1 → HoldsCanonicalWords made t)
made_copy r left old made l m fresh begun copied = end_copied (to_pointer r) left old made l m tt fresh begun copied

pub spread_copy : (r : Reading) (old new : View) (l m : Meter) → old.words ≡ (0 ∷ []) ∷ [] →
    MakesCopy (value_original r) (copy_call canonical (call_at 0 0 old new) l m) → (length new.words ≡ 1) ⊎ MeansMore (to_pointer r) (old.room 0)
spread_copy r old new l m fresh copied = end_spread (to_pointer r) old new l m tt fresh copied

pub refused_copy : (r : Reading) (left : Option ℕ) (old new : View) (l m : Meter) (k : ErrorKind) → old.words ≡ (0 ∷ []) ∷ [] → l ≡ unused left →
    StopsCopy (value_original r) (copy_call canonical (call_at 0 0 old new) l m) Null k → RefusesCopyAnywhere (to_pointer r) left (old.room 0) k
refused_copy r left old new l m k fresh begun stop = stops_anywhere (to_pointer r) left (old.room 0) k tt (refused_pointer r left old new l m Null k fresh begun stop)

-- an element's words are too many for a room, if what is copied of it is too large
element_needs : (r : Reading) (d q : ℕ) (used room : ℕ) → used ≡ 1 → ExceedsRoom canonical (end_original (to_element r d q)) used room → MeansMore (to_element r d q) room
element_needs r d q used room one large t c (ws, ts, is, long, many, here, means) =
    let beyond = sections_beyond canonical (words_from r d) (place_past r d) q used room large ts c many means in
    let words : ws ≡ words_from r d = sym here ∙ ap (λ n. words_from r n) long in
    let same : word_count (trim t) ≡ word_count (trim (Struct (words_from r d) ts)) = ap (λ u. word_count (trim u)) (is ∙ ap (λ vs. Struct vs ts) words) in
    omega (arith, beyond, same, one)

refused_element : (r : Reading) (d q : ℕ) (left : Option ℕ) (old new : View) (l m : Meter) (t : Tree) (k : ErrorKind) → IsElementPlace r d q → old.words ≡ (0 ∷ []) ∷ [] → l ≡ unused left →
    StopsCopy (end_original (to_element r d q)) (copy_call canonical (call_at 0 0 old new) l m) t k → StopsAnywhere (to_element r d q) left (old.room 0) k
refused_element r d q left old new l m t k there fresh begun stop =
    let used : length (segment old.words 0) ≡ 1 = ap length (root_alone old.words fresh) in
    elim stop.why [
      | inl (inl (n, same, makes, (refused, full)), large) ↦
          inl (words_named old new n k refused, element_needs r d q (length (segment old.words 0)) (old.room 0) used large, inl (n, makes, omega (arith, full, used)))
      | inl (inr (n, stops, (refused, full)), large) ↦
          let out : ComesToObject (end_original (to_element r d q)) canonical l m (λ i all. old.room 0 < 1 + all) = (n, stops, omega (arith, full, used)) in
          inl (
            words_named old new n k refused,
            element_needs r d q (length (segment old.words 0)) (old.room 0) used large,
            inr (m, subst (λ (x : Meter). ComesToObject (end_original (to_element r d q)) canonical x m (λ i all. old.room 0 < 1 + all)) begun out),
          )
      | inr y ↦ elim y [
        | inl refused ↦ inr (m, subst (λ (x : Meter). EndStopsAs canonical (to_element r d q) x m k) begun refused)
        | inr (wide, named) ↦ absurd (let few : length (words_from r d) ≤ d = omega (arith, length-take d (drop r.at (segment_read r))) in omega (arith, wide, used_words-le (words_from r d), few, there.few_words))
      ]
    ]

pub end_refused : (e : PathEnd) (left : Option ℕ) (old new : View) (l m : Meter) (t : Tree) (k : ErrorKind) → IsEndThere e → old.words ≡ (0 ∷ []) ∷ [] → l ≡ unused left →
    StopsCopy (end_original e) (copy_call canonical (call_at 0 0 old new) l m) t k → StopsAnywhere e left (old.room 0) k
end_refused (to_pointer r) left old new l m t k there fresh begun stop = refused_pointer r left old new l m t k fresh begun stop
end_refused (to_element r d q) left old new l m t k there fresh begun stop = refused_element r d q left old new l m t k there fresh begun stop

-- allocating words leaves the room unchanged, whether there is room for them or not
pub room_kept : (o : Option ℕ) {old new : View} (P : ℕ → Type 0) (words : Segments) → IfSome o (λ at. P at × (new ≡ record old { words = words })) → (IsNone o → new ≡ old) → new.room ≡ old.room
room_kept (Some at) P words some none = ap (λ (v : View). v.room) some.1
room_kept None P words some none = ap (λ (v : View). v.room) (none refl)

-- and leaves unchanged what may be offered for more of them
pub offers_kept : (o : Option ℕ) {old new : View} (P : ℕ → Type 0) (words : Segments) → IfSome o (λ at. P at × (new ≡ record old { words = words })) → (IsNone o → new ≡ old) → new.offers ≡ old.offers
offers_kept (Some at) P words some none = ap (λ (v : View). v.offers) some.1
offers_kept None P words some none = ap (λ (v : View). v.offers) (none refl)

-- what is offered for a request, with the room written in another form
pub moved_offer : {old new : ℕ → ℕ → Bool} (asked : ℕ) {room there : ℕ} → old ≡ new → room ≡ there → IsTrue (old asked there) → IsTrue (new asked room)
moved_offer {new = new} asked {there = there} same kept offered =
    subst (λ n. IsTrue (new asked n)) (sym kept) (subst (λ (offers : ℕ → ℕ → Bool). IsTrue (offers asked there)) same offered)

pub moved_try : {old new old' new' : ℕ} {k : ErrorKind} {P : Type 0} → old ≡ old' → new' ≡ new → LacksMemoryOr old new k P → LacksMemoryOr old' new' k P
moved_try before after (inl (named, risen)) = inl (named, after ∙ risen ∙ ap one_more before)
moved_try before after (inr (refused, same)) = inr (refused, after ∙ same ∙ before)

-- a lack of memory that was counted is a lack of memory
pub or_memory : {old new : ℕ} {k : ErrorKind} {P : Type 0} → LacksMemoryOr old new k P → (k ≡ AllocationFailed) ⊎ P
or_memory (inl memory) = inl memory.0
or_memory (inr refused) = inr refused.0

-- a budget that covers the word of the root pointer, and then c words, covers 1 + c
pub covers_root : (budget : Option ℕ) (c : ℕ) → FitsIn budget 1 → FitsIn (less budget 1) c → FitsIn budget (1 + c)
covers_root None c one rest = tt
covers_root (Some b) c one rest = omega arith

-- a budget that covers 1 + c words covers c after the root pointer
pub covers_rest : (budget : Option ℕ) (c : ℕ) → FitsIn budget (1 + c) → FitsIn (less budget 1) c
covers_rest None c h = tt
covers_rest (Some b) c h = omega arith
