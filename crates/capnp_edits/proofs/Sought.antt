-- Searches: what they leave, with a default or without one.
use Rattle.std.proofs.Common.{◌≡◌, ◌⊎◌, inl, inr, ℕ, ◌+◌, ◌-◌, ◌*◌, ◌/◌, ◌^◌, ◌<◌, ◌≤◌, Bool, true, false, cond, ◌&&◌, nat_eq, nat_le, nat_lt, List, [], ◌∷◌, length, Option, Some, None, unwrap_or, Result, Ok, Err, IsOk, IfErr, OnOk, refl, sym, ap, ◌∙◌, subst, arith}
use Rattle.std.specs.Prelude.{IsTrue, MatchOption, is_some, ⊤}
use Rattle.std.proofs.lemmas.List.{length-replicate}
use Rattle.std.proofs.lemmas.Bool.{cases_lt}
use Rattle.std.proofs.lemmas.Bool.Decides.{nat_tests}
use Rattle.std.specs.Borrow.{Bor}
use Rattle.capnp_words.specs.declared.error.ErrorKind.{ErrorKind}
use Rattle.capnp_words.specs.declared.error.ErrorKind.TheVariants.{ExistingPointerIsNotAList, MessageContainsOutOfBoundsPointer, NoSuchPlace}
use Rattle.capnp_words.specs.Meter.{unused}
use Rattle.capnp_words.specs.Sizes.{size_number}
use Rattle.capnp_words.specs.declared.wire_pointer.ElementSize.{ElementSize}
use Rattle.capnp_words.specs.declared.wire_pointer.StructSize.{StructSize}
use Rattle.capnp_format.specs.Bytes.{words_of}
use Rattle.capnp_format.specs.Forest.{target}
use Rattle.capnp_format.specs.Segments.{Segments, Target, segment, word_at, IsPlace}
use Rattle.capnp_format.specs.Word.{struct_word}
use Rattle.capnp_format.specs.Tree.{Tree, Null, Capability, Struct, Flat, Pointers, Structs, capabilities, count}
use Rattle.capnp_arena_traits.specs.View.{View}
use Rattle.capnp_in_place.specs.declared.existing.ExistingBytes.{ExistingBytes}
use Rattle.capnp_in_place.specs.declared.existing.ExistingList.{ExistingList}
use Rattle.capnp_in_place.specs.Existing.{is_unfound, list_in, data_in, text_in}
use Rattle.capnp_allocation.specs.Made.{nulls, words_of_zero, zero_struct}
use Rattle.capnp_allocation.specs.Memory.{HasRoom, KeepsMemory, SpendsMemory}
use Rattle.capnp_allocation.proofs.Placed.{count-nulls}
use Rattle.capnp_allocation.specs.Stored.{IsStored, IsReplaced}
use Rattle.capnp_allocation.proofs.Filling.{unchanged as stays}
use Rattle.capnp_allocation.proofs.FillingMade.{null_stored}
use Rattle.capnp_allocation.proofs.Replaced.{replaced_again}
use Rattle.capnp_pointers.specs.Faults.{HasFault}
use Rattle.capnp_pointers.specs.Follow.{◌>=>◌}
use Rattle.capnp_pointers.specs.Wanted.{of_default}
use Rattle.capnp_pointers.proofs.Following.FaultlessWhereMeant.{no_fault}
use Rattle.capnp_copies.specs.Rooms.{CanBeCopied}
use Rattle.capnp_copies.specs.Originals.{value_original}
use Rattle.capnp_copies.proofs.Originals.{refused_words}
use Rattle.capnp_pointers.specs.declared.pointers.PointerPlace.{PointerPlace}
use Rattle.capnp_readers.specs.declared.readers.list_reader.ListPlace.{ListPlace}
use Rattle.capnp_readers.specs.declared.readers.struct_reader.StructPlace.{StructPlace}
use Rattle.capnp_allocation.specs.Makes.{CallAt, call_at}
use Rattle.capnp_in_place.specs.Opening.{IsNoWider, Opens, OpensStruct, struct_opened}
use Rattle.capnp_in_place.specs.Rooms.{HasRoomFor, OpeningFits, direct_pointers, widened_words}
use Rattle.capnp_words.specs.Names.{is_allocation_name}
use Rattle.capnp_in_place.specs.RowsRemade.{RefusesWider}
use Rattle.capnp_in_place.specs.Widened.{list_widened, widened}
use Rattle.capnp_in_place.proofs.Room.GrowthRefused.{growth_named}
use Rattle.capnp_builders.specs.Defaults.{IsIgnoredDefault, IsShortDefault, DefaultUse, ignored, denied as is_denied_by, copied as is_copied_from, default_use, default_root, RefusesDefault, WithDefault, DefaultFits, FitsWithDefault, object_default, blob_default}
use Rattle.capnp_builders.proofs.DefaultRooms.{use_of_words}
use Rattle.capnp_builders.proofs.DefaultCopies.{default_copy}
use Rattle.capnp_builders.specs.Found.{list_given, bytes_given, FindsList, FindsBytes}
use Rattle.capnp_builders.specs.Opening.{IsStructGiven, IsListGiven, OpensList, FindsStruct, FindsStructs, StructFindFits, StructsFindFits}
use Rattle.capnp_edits.specs.declared.edit.path.PathEnd.TheVariants.{Pointer as AtPointer}
use Rattle.capnp_edits.specs.declared.edit.tasks.Task.TheVariants.{Search}
use Rattle.capnp_edits.specs.declared.edit.tasks.NewObject.TheVariants.{ZeroStruct}
use Rattle.capnp_edits.specs.declared.edit.tasks.Sought.{Sought}
use Rattle.capnp_edits.specs.declared.edit.tasks.Sought.TheVariants.{Struct as ForStruct, List as ForList, StructList as ForStructs, Text as ForText, Data as ForData}
use Rattle.capnp_edits.specs.Tasks.{is_small_default, is_in_range}
use Rattle.capnp_edits.specs.Edits.{refusal_of, Effect, gives, elements_of, data_length, text_length, looked_for, defaults, default_for, is_of_path, HasEffect}
use Rattle.capnp_builders.proofs.FoundLists.{GivesFoundList}
use Rattle.capnp_builders.proofs.FoundBytes.{GivesFoundBytes}
use Rattle.capnp_edits.specs.Steps.{FitsAt, FindsSought, opening, LeadsThere, IsDoneAt, result_of}
use Rattle.capnp_edits.proofs.Applied.{Does, never_refused, of_allocation, of_no_place}
use Rattle.capnp_edits.proofs.Contents.{list_refusal_of, data_refusal_of, text_refusal_of}
use Rattle.capnp_edits.proofs.Names.{is_nowhere, unfound_of_path, elsewhere, struct_elsewhere, structs_elsewhere, list_elsewhere, data_elsewhere, text_elsewhere, fault_elsewhere, unfound_name, list_unfound, data_unfound, text_unfound}
use Rattle.capnp_edits.proofs.Steps.{same_some}
use Rattle.capnp_edits.proofs.Ways.{DoesAt, Way, becomes, yielded, default_denied, default_dropped, default_ignored, default_put, is_denied, is_done, is_not_allocated}
use Rattle.capnp_in_place.proofs.WiderObjects.WhichList.{same_tree}
use Rattle.capnp_builders.proofs.Openings.{same_error}

-- a small default has few words
pub few_words : (default : Option (Bor (List ℕ))) → is_small_default default ≡ true → IsShortDefault default
few_words None e = tt
few_words (Some d) e = few (length d.now / 8) e
  where
    few : (n : ℕ) → nat_lt n (2 ^ 32) ≡ true → n < 2 ^ 32
    few n e = grind (arith, nat_tests)

-- the place where a call is made
abbrev pub place_in : CallAt → PointerPlace
place_in c = record { segment = c.segment; word = c.at }

same_words : {a b : View} → a ≡ b → a.words ≡ b.words
same_words e = ap (λ (v : View). v.words) e

-- From S to R a call with outcome r does what this makes of the value t: what it leaves replaces t,
-- if anything is changed.
record DoesAs (S R : Segments) (place : PointerPlace) (making : Effect) (t : Tree) (r : Option ErrorKind) : Type 0 where
  left : Option Tree
  yields : Way making r left
  stands : MatchOption left (R ≡ S) (IsReplaced S R place.segment place.word t)

-- the same for each call and value that satisfy P
abbrev DoesSo : {B : Type 0} → (CallAt → Tree → Type 0) → (Tree → Effect) → Result B ErrorKind → Type 0
DoesSo P made_of result = (c : CallAt) (t : Tree) → IsStored c.old.words c.segment c.at t → P c t → DoesAs c.old.words c.new.words (place_in c) (made_of t) t (refusal_of result)

-- what is opened replaces the value that was there, or that stays
opened_so : {B : Type 0} (result : Result B ErrorKind) (size : StructSize) (Given : Segments → ℕ → ℕ → Tree → B → Type 0) (c : CallAt) (t : Tree) (q : Result Tree ErrorKind) → Opens size Given c t q result →
    DoesAs c.old.words c.new.words (place_in c) (gives (Some t) q) t (refusal_of result)
opened_so (Ok b) size Given c t (Ok u) h = record { left = Some u; yields = is_done u refl refl refl; stands = h.replaced }
opened_so (Err k) size Given c t (Ok u) h =
    record { left = Some t; yields = is_not_allocated t u k refl (growth_named c.old c.new (widened_words u) (direct_pointers t) k h.full) refl refl; stands = h.stands }
opened_so result size Given c t (Err k) h = record { left = None; yields = is_denied k refl (ap refusal_of h.0) refl; stands = same_words h.1 }

struct_so : (result : Result StructPlace ErrorKind) (size : StructSize) → DoesSo (OpensStruct IsStructGiven size result) (looked_for (ForStruct size)) result
struct_so result size c t stored h = opened_so result size IsStructGiven c t (struct_opened size t) h

-- a value that is only looked for stays
kept_so : {A B : Type 0} (q : Result A ErrorKind) (result : Result B ErrorKind) (c : CallAt) (t : Tree) → IsStored c.old.words c.segment c.at t → refusal_of result ≡ refusal_of q → c.new ≡ c.old →
    DoesAs c.old.words c.new.words (place_in c) (gives None (q >=> (λ x. Ok t))) t (refusal_of result)
kept_so (Ok x) result c t stored e same =
    record { left = Some t; yields = is_done t refl e refl; stands = subst (λ Q. IsReplaced c.old.words Q c.segment c.at t t) (sym (same_words same)) (stays c.old.words c.segment c.at t stored) }
kept_so (Err k) result c t stored e same = record { left = None; yields = is_denied k refl e refl; stands = same_words same }

null_so : (result : Result ListPlace ErrorKind) (c : CallAt) → IsStored c.old.words c.segment c.at Null → refusal_of result ≡ None → c.new ≡ c.old → DoesAs c.old.words c.new.words (place_in c) (becomes Null) Null (refusal_of result)
null_so result c stored e same =
    record { left = Some Null; yields = is_done Null refl e refl; stands = subst (λ Q. IsReplaced c.old.words Q c.segment c.at Null Null) (sym (same_words same)) (stays c.old.words c.segment c.at Null stored) }

structs_so : (result : Result ListPlace ErrorKind) (size : StructSize) → DoesSo (OpensList size result) (looked_for (ForStructs size)) result
structs_so result size c Null stored h = null_so result c stored (ap refusal_of h.0) h.1
structs_so result size c t stored h = opened_so result size IsListGiven c t (list_widened size.data_words size.pointers t) h

list_refusal : (id : ℕ) (q : Result (Option ExistingList) ErrorKind) → refusal_of (list_given id q) ≡ refusal_of q
list_refusal id (Ok (Some l)) = refl
list_refusal id (Ok None) = refl
list_refusal id (Err k) = refl

bytes_refusal : (id : ℕ) (q : Result (Option ExistingBytes) ErrorKind) → refusal_of (bytes_given id q) ≡ refusal_of q
bytes_refusal id (Ok (Some b)) = refl
bytes_refusal id (Ok None) = refl
bytes_refusal id (Err k) = refl

list_named : (result : Result ListPlace ErrorKind) (size : ElementSize) (c : CallAt) (t : Tree) → GivesFoundList size result c t → refusal_of result ≡ refusal_of (elements_of size t)
list_named result size c t h =
    let a : Target = target c.old.words c.segment c.at in
    ap refusal_of h.0 ∙ list_refusal c.segment (list_in a size t) ∙ list_refusal_of a size t

data_named : (result : Result ExistingBytes ErrorKind) (c : CallAt) (t : Tree) → GivesFoundBytes data_in result c t → refusal_of result ≡ refusal_of (data_length t)
data_named result c t h =
    let a : Target = target c.old.words c.segment c.at in
    ap refusal_of h.0 ∙ bytes_refusal c.segment (data_in a t) ∙ data_refusal_of a t

text_named : (result : Result ExistingBytes ErrorKind) (c : CallAt) (t : Tree) → GivesFoundBytes text_in result c t → refusal_of result ≡ refusal_of (text_length t)
text_named result c t h =
    let a : Target = target c.old.words c.segment c.at in
    ap refusal_of h.0 ∙ bytes_refusal c.segment (text_in a t) ∙ text_refusal_of a t

list_so : (result : Result ListPlace ErrorKind) (size : ElementSize) → DoesSo (GivesFoundList size result) (looked_for (ForList size)) result
list_so result size c t stored h = kept_so (elements_of size t) result c t stored (list_named result size c t h) h.1

data_so : (result : Result ExistingBytes ErrorKind) → DoesSo (GivesFoundBytes data_in result) (looked_for ForData) result
data_so result c t stored h = kept_so (data_length t) result c t stored (data_named result c t h) h.1

text_so : (result : Result ExistingBytes ErrorKind) → DoesSo (GivesFoundBytes text_in result) (looked_for ForText) result
text_so result c t stored h = kept_so (text_length t) result c t stored (text_named result c t h) h.1

-- what is done with the value that is there
as_stands : (S R : Segments) (place : PointerPlace) (made_of : Tree → Effect) (t : Tree) (r : Option ErrorKind) → DoesAs S R place (made_of t) t r → DoesAt S R place (defaults ignored made_of t) t r
as_stands S R place made_of t r d = (d.left, default_ignored made_of t r d.left (yielded d.yields), d.stands)

-- what is done with a default's value, which first replaces null
replaced_if : (S M R : Segments) (place : PointerPlace) (d : Tree) (left : Option Tree) → IsReplaced S M place.segment place.word Null d → MatchOption left (R ≡ M) (IsReplaced M R place.segment place.word d) → IsReplaced S R place.segment place.word Null (unwrap_or left d)
replaced_if S M R place d (Some u) put next = replaced_again S M R place.segment place.word Null d u put next
replaced_if S M R place d None put same = subst (λ Q. IsReplaced S Q place.segment place.word Null d) (sym same) put

dropped_name : (bytes : List ℕ) (id at : ℕ) (old new : View) (k : ErrorKind) → RefusesDefault bytes (call_at id at old new) k → (is_allocation_name k ≡ true) ⊎ HasFault of_default (default_root bytes) k
dropped_name bytes id at old new k (inl fault) = inr fault
dropped_name bytes id at old new k (inr (lacks, large)) =
    let x = refused_words (value_original (default_root bytes)) (default_copy id at old new) k lacks in
    inl (of_allocation old new (length new.words) (x.0 + 1) k x.1.0)

null_does : {B : Type 0} (result : Result B ErrorKind) (used : DefaultUse) (made_of : Tree → Effect) (P : CallAt → Tree → Type 0) (c : CallAt) → IsStored c.old.words c.segment c.at Null → DoesSo P made_of result → WithDefault used c Null P result →
    DoesAt c.old.words c.new.words (place_in c) (defaults used made_of Null) Null (refusal_of result)
null_does result ignored made_of P c stored does h = as_stands c.old.words c.new.words (place_in c) made_of Null (refusal_of result) (does c Null stored h)
null_does result (is_denied_by k) made_of P c stored does h = (None, default_denied k made_of Null (refusal_of result) (ap refusal_of h.0), same_words h.1)
null_does result (is_copied_from bytes) made_of P c stored does (inl on) =
    let then = does (record c { old = on.0 }) on.1 on.2.replaced.stored on.3 in (
      Some (unwrap_or then.left on.1),
      default_put bytes made_of on.1 (refusal_of result) then.left (on.2.meant.0, on.2.meant.1, on.2.plain) then.yields,
      replaced_if c.old.words on.0.words c.new.words (place_in c) on.1 then.left on.2.replaced then.stands,
    )
null_does (Err k) (is_copied_from bytes) made_of P c stored does (inr drops) =
    (Some Null, default_dropped bytes made_of k (dropped_name bytes c.segment c.at c.old c.new k drops.named), drops.replaced)
null_does (Ok x) (is_copied_from bytes) made_of P c stored does (inr drops) = absurd drops

-- a default is used only for null
null_or_ignored : (of_null : DefaultUse) (default : Option (Bor (List ℕ))) (t : Tree) → (t ≡ Null) ⊎ (default_use of_null default t ≡ ignored)
null_or_ignored of_null None t = inr refl
null_or_ignored of_null (Some d) Null = inl refl
null_or_ignored of_null (Some d) t = inr refl

with_does : {B : Type 0} (result : Result B ErrorKind) (of_null : DefaultUse) (default : Option (Bor (List ℕ))) (made_of : Tree → Effect) (P : CallAt → Tree → Type 0) (c : CallAt) (t : Tree) → IsStored c.old.words c.segment c.at t → DoesSo P made_of result →
    WithDefault (default_use of_null default t) c t P result → DoesAt c.old.words c.new.words (place_in c) (defaults (default_use of_null default t) made_of t) t (refusal_of result)
with_does result of_null default made_of P c t stored does h = elim (null_or_ignored of_null default t) [
  | inl null ↦
      subst (λ x. DoesAt c.old.words c.new.words (place_in c) (defaults (default_use of_null default x) made_of x) x (refusal_of result)) (sym null)
      (null_does result (default_use of_null default Null) made_of P c (subst (IsStored c.old.words c.segment c.at) null stored) does (subst (λ x. WithDefault (default_use of_null default x) c x P result) null h))
  | inr plain ↦
      subst (λ u. DoesAt c.old.words c.new.words (place_in c) (defaults u made_of t) t (refusal_of result)) (sym plain)
      (as_stands c.old.words c.new.words (place_in c) made_of t (refusal_of result) (does c t stored (subst (λ u. WithDefault u c t P result) plain h)))
]

-- Where P holds for a call that is refused with k, k isn't NoSuchPlace.
abbrev NeverSo : (CallAt → Tree → Type 0) → ErrorKind → Type 0
NeverSo P k = (c : CallAt) (t : Tree) → P c t → k ≡ NoSuchPlace → ⊥

never_opened : {B : Type 0} (k : ErrorKind) (size : StructSize) (Given : Segments → ℕ → ℕ → Tree → B → Type 0) (c : CallAt) (t : Tree) (q : Result Tree ErrorKind) → is_nowhere q ≡ false → Opens size Given c t q (Err k) → k ≡ NoSuchPlace → ⊥
never_opened k size Given c t (Ok u) e h is = of_no_place k (growth_named c.old c.new (widened_words u) (direct_pointers t) k h.full) is
never_opened k size Given c t (Err j) e h is = elsewhere {A = Tree} (Err j) k e (ap Err (sym (same_error k j h.0))) is

struct_never : (size : StructSize) (k : ErrorKind) → NeverSo (OpensStruct IsStructGiven size (Err k)) k
struct_never size k c t h is = never_opened k size IsStructGiven c t (struct_opened size t) (struct_elsewhere size t) h is

structs_never : (size : StructSize) (k : ErrorKind) → NeverSo (OpensList size (Err k)) k
structs_never size k c Null h is = absurd (let e = h.0 in cc)
structs_never size k c t h is = never_opened k size IsListGiven c t (list_widened size.data_words size.pointers t) (structs_elsewhere size.data_words size.pointers t) h is

list_err : (id : ℕ) (q : Result (Option ExistingList) ErrorKind) (k : ErrorKind) → Err k ≡ list_given id q → q ≡ Err k
list_err id (Ok (Some l)) k e = absurd (cc)
list_err id (Ok None) k e = absurd (cc)
list_err id (Err j) k e = ap Err (let same : j ≡ k = cc in same)

bytes_err : (id : ℕ) (q : Result (Option ExistingBytes) ErrorKind) (k : ErrorKind) → Err k ≡ bytes_given id q → q ≡ Err k
bytes_err id (Ok (Some b)) k e = absurd (cc)
bytes_err id (Ok None) k e = absurd (cc)
bytes_err id (Err j) k e = ap Err (let same : j ≡ k = cc in same)

list_never : (size : ElementSize) (k : ErrorKind) → NeverSo (GivesFoundList size (Err k)) k
list_never size k c t h is = elsewhere (list_in (target c.old.words c.segment c.at) size t) k (list_elsewhere (target c.old.words c.segment c.at) size t) (list_err c.segment (list_in (target c.old.words c.segment c.at) size t) k h.0) is

data_never : (k : ErrorKind) → NeverSo (GivesFoundBytes data_in (Err k)) k
data_never k c t h is = elsewhere (data_in (target c.old.words c.segment c.at) t) k (data_elsewhere (target c.old.words c.segment c.at) t) (bytes_err c.segment (data_in (target c.old.words c.segment c.at) t) k h.0) is

text_never : (k : ErrorKind) → NeverSo (GivesFoundBytes text_in (Err k)) k
text_never k c t h is = elsewhere (text_in (target c.old.words c.segment c.at) t) k (text_elsewhere (target c.old.words c.segment c.at) t) (bytes_err c.segment (text_in (target c.old.words c.segment c.at) t) k h.0) is

-- A search that is refused with NoSuchPlace changes nothing: with a default, and at a place that
-- doesn't store null.
never_used : (B : Type 0) (k : ErrorKind) (used : DefaultUse) (P : CallAt → Tree → Type 0) (c : CallAt) (t : Tree) → NeverSo P k → WithDefault {B = B} used c t P (Err k) → k ≡ NoSuchPlace → c.new ≡ c.old
never_used B k ignored P c t never h is = absurd (never c t h is)
never_used B k (is_denied_by j) P c t never h is = h.1
never_used B k (is_copied_from bytes) P c t never (inl on) is = absurd (never (record c { old = on.0 }) on.1 on.3 is)
never_used B k (is_copied_from bytes) P c t never (inr drops) is = absurd (elim (dropped_name bytes c.segment c.at c.old c.new k drops.named) [
  | inl memory ↦ of_no_place k memory is
  | inr fault ↦ fault_elsewhere of_default (subst (HasFault of_default (default_root bytes)) is fault)
])

abbrev KeepsHeld : Sought → View → View → ErrorKind → Type 0
KeepsHeld sought old new k = (new ≡ old) ⊎ (IsTrue (is_some (opening sought)) × IsTrue (is_allocation_name k) × SpendsMemory old new k)

never_held : (sought : Sought) (c : CallAt) (k : ErrorKind) → KeepsHeld sought c.old c.new k → k ≡ NoSuchPlace → c.new ≡ c.old
never_held sought c k (inl same) is = same
never_held sought c k (inr h) is = absurd (of_no_place k h.1 is)

-- A search finds what is sought, by its outcome r.
abbrev FindsThere : Sought → Option (Bor (List ℕ)) → Option ErrorKind → CallAt → Tree → Type 0
FindsThere sought default r c t = WithDefault (default_for sought default t) c t (FindsSought sought r) (result_of r)

by_outcome : {B : Type 0} (result : Result B ErrorKind) (used : DefaultUse) (P Q : CallAt → Tree → Type 0) (c : CallAt) (t : Tree) → ((d : CallAt) (u : Tree) → P d u → Q d u) → WithDefault used c t P result → WithDefault used c t Q (result_of (refusal_of result))
by_outcome result ignored P Q c t so h = so c t h
by_outcome {B} result (is_denied_by k) P Q c t so h = (ap (λ (r : Result B ErrorKind). result_of (refusal_of r)) h.0, h.1)
by_outcome result (is_copied_from bytes) P Q c t so (inl on) = inl (on.0, on.1, on.2, so (record c { old = on.0 }) on.1 on.3)
by_outcome (Ok x) (is_copied_from bytes) P Q c t so (inr drops) = absurd drops
by_outcome (Err k) (is_copied_from bytes) P Q c t so (inr drops) = inr drops

opens_so : {B : Type 0} (result : Result B ErrorKind) (size : StructSize) (Given : Segments → ℕ → ℕ → Tree → B → Type 0) (c : CallAt) (t : Tree) (q : Result Tree ErrorKind) → Opens size Given c t q result → Opens size (λ S s p u b. ⊤) c t q (result_of (refusal_of result))
opens_so (Ok b) size Given c t (Ok u) h = record { replaced = h.replaced; leads = tt; memory = h.memory; unchanged = h.unchanged; anew = h.anew }
opens_so (Err k) size Given c t (Ok u) h = h
opens_so {B} result size Given c t (Err k) h = (ap (λ (r : Result B ErrorKind). result_of (refusal_of r)) h.0, h.1)

structs_found : (result : Result ListPlace ErrorKind) (size : StructSize) (c : CallAt) (t : Tree) → OpensList size result c t → FindsSought (ForStructs size) (refusal_of result) c t
structs_found result size c Null h = (ap refusal_of h.0, h.1)
structs_found result size c t h = opens_so result size IsListGiven c t (list_widened size.data_words size.pointers t) h

yields_so : {A : Type 0} (q : Result A ErrorKind) (r : Option ErrorKind) (t : Tree) → r ≡ refusal_of q → (o : Option Tree) × HasEffect (gives None (q >=> (λ x. Ok t))) r o
yields_so (Ok x) r t e = (Some t, yielded (is_done t refl e refl))
yields_so (Err k) r t e = (None, yielded (is_denied k refl e refl))

list_found : (result : Result ListPlace ErrorKind) (size : ElementSize) (c : CallAt) (t : Tree) → GivesFoundList size result c t → FindsSought (ForList size) (refusal_of result) c t
list_found result size c t h =
    let (o, yields) = yields_so (elements_of size t) (refusal_of result) t (list_named result size c t h) in
    (o, yields, h.1)

data_found : (result : Result ExistingBytes ErrorKind) (c : CallAt) (t : Tree) → GivesFoundBytes data_in result c t → FindsSought ForData (refusal_of result) c t
data_found result c t h =
    let (o, yields) = yields_so (data_length t) (refusal_of result) t (data_named result c t h) in
    (o, yields, h.1)

text_found : (result : Result ExistingBytes ErrorKind) (c : CallAt) (t : Tree) → GivesFoundBytes text_in result c t → FindsSought ForText (refusal_of result) c t
text_found result c t h =
    let (o, yields) = yields_so (text_length t) (refusal_of result) t (text_named result c t h) in
    (o, yields, h.1)

-- The room for what is opened is what the call requires: for null, the room for a new struct.
fits_with : (used : DefaultUse) (v : View) (s p : ℕ) (P Q : View → Type 0) → ((m : View) → P m → Q m) → FitsWithDefault used v s p P → FitsWithDefault used v s p Q
fits_with ignored v s p P Q so h = so v h
fits_with (is_denied_by k) v s p P Q so h = h
fits_with (is_copied_from bytes) v s p P Q so h = (h.0, λ m u put. so m (h.1 m u put))

opened_fits : (v : View) (s p : ℕ) (size : StructSize) (t u : Tree) → IsStored v.words s p t → struct_opened size t ≡ Ok u → HasRoomFor v s p t u → OpeningFits v s p size
opened_fits v s p size Null u stored is room = inl (stored.means.2.0, new_room room)
  where
    words : widened_words u ≡ size.data_words + size.pointers
    words = ap widened_words (sym (same_tree (zero_struct size) u is)) ∙ (let e : length (words_of_zero size.data_words) + count (nulls size.pointers) ≡ size.data_words + size.pointers = omega (arith, length-replicate {A = ℕ} size.data_words 0, count-nulls size.pointers) in e)

    new_room : HasRoomFor v s p Null u → HasRoom v s (size.data_words + size.pointers)
    new_room h =
        let a = (target v.words s p).segment in
        subst (HasRoom v s) (let e : widened_words u + 2 * (0 - (v.room a - length (segment v.words a))) ≡ size.data_words + size.pointers = omega (arith, words) in e) h
opened_fits v s p size (Struct ws ts) u stored is room = inr (ws, ts, stored, subst (HasRoomFor v s p (Struct ws ts)) (sym (same_tree (widened size ws ts) u is)) room)
opened_fits v s p size (Capability i) u stored is room = absurd (cc)
opened_fits v s p size (Flat z ns) u stored is room = absurd (cc)
opened_fits v s p size (Pointers ts) u stored is room = absurd (cc)
opened_fits v s p size (Structs d q es) u stored is room = absurd (cc)

struct_room : (size : StructSize) (default : Option (Bor (List ℕ))) (v : View) (place : PointerPlace) → FitsAt v (Search (ForStruct size) default) (AtPointer place) → StructFindFits size default v place.segment place.word
struct_room size default v place (t, stored, fits) =
    (t, stored, fits_with (object_default default t) v place.segment place.word _ (λ m. OpeningFits m place.segment place.word size) (λ m h. opened_fits m place.segment place.word size h.0 h.1 h.2 h.3 h.4) fits)

-- a struct without words replaces null: its pointer has offset -1
abbrev OpensThere : CallAt → Sought → Option (Bor (List ℕ)) → Option ErrorKind → Type 0
OpensThere c (ForStruct size) default r = word_at c.old.words c.segment c.at ≡ 0 → IsIgnoredDefault default → size.data_words + size.pointers ≡ 0 → r ≡ None → word_at c.new.words c.segment c.at ≡ struct_word (2 ^ 30 - 1) 0 0
OpensThere c sought default r = ⊤

opens_there : {B : Type 0} (result : Result B ErrorKind) (c : CallAt) (size : StructSize) (default : Option (Bor (List ℕ))) →
    (word_at c.old.words c.segment c.at ≡ 0 → IsIgnoredDefault default → size.data_words + size.pointers ≡ 0 → OnOk result (word_at c.new.words c.segment c.at ≡ struct_word (2 ^ 30 - 1) 0 0)) → OpensThere c (ForStruct size) default (refusal_of result)
opens_there (Ok x) c size default empty = λ null none nothing e. empty null none nothing
opens_there (Err k) c size default empty = λ null none nothing e. absurd (cc)

opens_at : (c : CallAt) (sought : Sought) (default : Option (Bor (List ℕ))) (r : Option ErrorKind) → OpensThere c sought default r → (size : StructSize) → sought ≡ ForStruct size → word_at c.old.words c.segment c.at ≡ 0 → IsIgnoredDefault default → r ≡ None →
    size.data_words + size.pointers ≡ 0 → LeadsThere c (ZeroStruct size)
opens_at c sought default r opens size is null plain done none = subst (λ s. OpensThere c s default r) is opens null plain none done

-- a place that doesn't store null isn't null
not_null : (c : CallAt) → IsPlace c.old.words c.segment c.at → (IsStored c.old.words c.segment c.at Null → ⊥) → word_at c.old.words c.segment c.at ≡ 0 → ⊥
not_null c there none null = none (null_stored c.old.words c.segment c.at there null)

-- what a call leaves, refused or not
search_done : {B : Type 0} (result : Result B ErrorKind) (sought : Sought) (default : Option (Bor (List ℕ))) (c : CallAt) → Does c.old.words c.new.words (place_in c) (Search sought default) (refusal_of result) → OnOk result (KeepsMemory c.old c.new) →
    IfErr result (SpendsMemory c.old c.new) → IfErr result (λ k. k ≡ NoSuchPlace → c.new ≡ c.old) → ((IsStored c.old.words c.segment c.at Null → ⊥) → IfErr result (KeepsHeld sought c.old c.new)) → (FitsAt c.old (Search sought default) (AtPointer (place_in c)) → IfErr result (λ k. is_of_path k ≡ true)) →
    ((t : Tree) → IsStored c.old.words c.segment c.at t → FindsThere sought default (refusal_of result) c t) → OpensThere c sought default (refusal_of result) → IsDoneAt c.old c.new (AtPointer (place_in c)) (Search sought default) (refusal_of result)
search_done (Ok x) sought default c does granted memory never held fits finds opens = record {
  done = does;
  counted = ap (λ (v : View). v.refusals) granted.0;
  fits = λ room k e. absurd (cc);
  nowhere = λ e. absurd (cc);
  ends = λ some. (finds, λ set. tt, opens_at c sought default None opens);
}
search_done (Err k) sought default c does granted memory never held fits finds opens = record {
  done = does;
  counted = memory.2;
  fits = λ room j e. subst (λ x. is_of_path x ≡ true) (same_some k j e) (fits room);
  nowhere = λ e. never (same_some k NoSuchPlace e);
  ends = λ some. (finds, held, opens_at c sought default (Some k) opens);
}

-- If a default's value has no fault and fits, the search is refused only for what is found.
abbrev NamedSo : (CallAt → Tree → Type 0) → ErrorKind → Type 0
NamedSo P k = (c : CallAt) (t : Tree) → P c t → is_unfound k ≡ true

list_name : (size : ElementSize) (k : ErrorKind) → NamedSo (GivesFoundList size (Err k)) k
list_name size k c t h = unfound_name (list_in (target c.old.words c.segment c.at) size t) k (list_unfound (target c.old.words c.segment c.at) size t) (list_err c.segment (list_in (target c.old.words c.segment c.at) size t) k h.0)

data_name : (k : ErrorKind) → NamedSo (GivesFoundBytes data_in (Err k)) k
data_name k c t h = unfound_name (data_in (target c.old.words c.segment c.at) t) k (data_unfound (target c.old.words c.segment c.at) t) (bytes_err c.segment (data_in (target c.old.words c.segment c.at) t) k h.0)

text_name : (k : ErrorKind) → NamedSo (GivesFoundBytes text_in (Err k)) k
text_name k c t h = unfound_name (text_in (target c.old.words c.segment c.at) t) k (text_unfound (target c.old.words c.segment c.at) t) (bytes_err c.segment (text_in (target c.old.words c.segment c.at) t) k h.0)

-- the copy of a default isn't refused if it can be made
never_dropped : (bytes : List ℕ) (id at : ℕ) (old new : View) (k : ErrorKind) → CanBeCopied (value_original (default_root bytes)) of_default (unused None) old id → RefusesDefault bytes (call_at id at old new) k → ⊥
never_dropped bytes id at old new k can (inl fault) = no_fault of_default k fault (capabilities can.value) can.is_read.takes (can.value, can.is_read.cost, can.is_read.means, omega arith)
never_dropped bytes id at old new k can (inr (lacks, large)) = let more = large of_default (unused None) can.after can.value can.is_read in omega (arith, more, can.room)

abbrev IsDenied : DefaultUse → Type 0
IsDenied ignored = Unit {0}
IsDenied (is_denied_by k) = is_of_path k ≡ true
IsDenied (is_copied_from bytes) = ⊥

used_fits : (B : Type 0) (k : ErrorKind) (of_null : DefaultUse) (bytes ws : List ℕ) (P : CallAt → Tree → Type 0) (c : CallAt) → IsDenied of_null → NamedSo P k →
    CanBeCopied (value_original (default_root bytes)) of_default (unused None) c.old c.segment → WithDefault {B = B} (use_of_words of_null bytes ws) c Null P (Err k) → is_of_path k ≡ true
used_fits B k of_null bytes [] P c plain name room h = ap is_of_path (same_error k MessageContainsOutOfBoundsPointer h.0)
used_fits B k of_null bytes (x ∷ xs) P c plain name room h = by_first (nat_eq x 0) of_null plain h
  where
    by_first : (b : Bool) (used : DefaultUse) → IsDenied used → WithDefault {B = B} (cond b used (is_copied_from bytes)) c Null P (Err k) → is_of_path k ≡ true
    by_first true ignored d g = unfound_of_path k (name c Null g)
    by_first true (is_denied_by j) d g = ap is_of_path (same_error k j g.0) ∙ d
    by_first true (is_copied_from other) d g = absurd d
    by_first false used d (inl on) = unfound_of_path k (name (record c { old = on.0 }) on.1 on.3)
    by_first false used d (inr drops) = absurd (never_dropped bytes c.segment c.at c.old c.new k room drops.named)

found_fits : {B : Type 0} (result : Result B ErrorKind) (of_null : DefaultUse) (default : Option (Bor (List ℕ))) (P : Result B ErrorKind → CallAt → Tree → Type 0) (c : CallAt) → IsPlace c.old.words c.segment c.at → ((bytes : List ℕ) → IsDenied of_null) →
    ((k : ErrorKind) → NamedSo (P (Err k)) k) → ((t : Tree) → IsStored c.old.words c.segment c.at t → WithDefault (default_use of_null default t) c t (P result) result) →
    ((word_at c.old.words c.segment c.at ≡ 0 → ⊥) → IfErr result (λ k. is_unfound k ≡ true)) → DefaultFits default c.old c.segment → IfErr result (λ k. is_of_path k ≡ true)
found_fits (Ok x) of_null default P c there plain name found set room = tt
found_fits {B} (Err k) of_null default P c there plain name found set room = elim (cases_lt 0 (word_at c.old.words c.segment c.at)) [
  | inl some ↦ unfound_of_path k (set (λ null. absurd (omega (arith, some, null))))
  | inr none ↦ at_null default room (found Null (null_stored c.old.words c.segment c.at there (omega (arith, none))))
]
  where
    at_null : (default : Option (Bor (List ℕ))) → DefaultFits default c.old c.segment → WithDefault {B = B} (default_use of_null default Null) c Null (P (Err k)) (Err k) → is_of_path k ≡ true
    at_null None fits h = unfound_of_path k (name k c Null h)
    at_null (Some d) fits h = used_fits B k of_null d.now (words_of d.now) (P (Err k)) c (plain d.now) (name k) fits.1 h

-- a place that is null stores null; for any other place the call says what it leaves
never_if : {B : Type 0} (result : Result B ErrorKind) (of_null : DefaultUse) (default : Option (Bor (List ℕ))) (sought : Sought) (P : Result B ErrorKind → CallAt → Tree → Type 0) (c : CallAt) → IsPlace c.old.words c.segment c.at → ((k : ErrorKind) → NeverSo (P (Err k)) k) →
    ((t : Tree) → IsStored c.old.words c.segment c.at t → WithDefault (default_use of_null default t) c t (P result) result) → ((IsStored c.old.words c.segment c.at Null → ⊥) → IfErr result (KeepsHeld sought c.old c.new)) →
    IfErr result (λ k. k ≡ NoSuchPlace → c.new ≡ c.old)
never_if (Ok x) of_null default sought P c there never found held = tt
never_if {B} (Err k) of_null default sought P c there never found held = λ is. elim (cases_lt 0 (word_at c.old.words c.segment c.at)) [
  | inl some ↦ never_held sought c k (held (λ stored. omega (arith, some, stored.means.2.0))) is
  | inr none ↦ never_used B k (default_use of_null default Null) (P (Err k)) c Null (never k) (found Null (null_stored c.old.words c.segment c.at there (omega (arith, none)))) is
]

-- what a call leaves at a place that isn't null
set_struct : {B : Type 0} (result : Result B ErrorKind) (c : CallAt) (size : StructSize) → IfErr result (IsNoWider size c) → IfErr result (KeepsHeld (ForStruct size) c.old c.new)
set_struct (Ok x) c size h = tt
set_struct (Err k) c size (inl h) = inl h.1
set_struct (Err k) c size (inr h) = inr (refl, h.name, h.memory)

set_structs : {B : Type 0} (result : Result B ErrorKind) (c : CallAt) (size : StructSize) → IfErr result (RefusesWider (IsStored c.old.words c.segment c.at) size c.old c.new) → IfErr result (KeepsHeld (ForStructs size) c.old c.new)
set_structs (Ok x) c size h = tt
set_structs (Err k) c size (inl h) = inl h.0
set_structs (Err k) c size (inr h) = inr (refl, h.name, h.memory)

set_same : {B : Type 0} (result : Result B ErrorKind) (sought : Sought) (c : CallAt) → c.new ≡ c.old → IfErr result (KeepsHeld sought c.old c.new)
set_same (Ok x) sought c same = tt
set_same (Err k) sought c same = inl same

-- the calls
pub struct_sought : (result : Result StructPlace ErrorKind) (size : StructSize) (default : Option (Bor (List ℕ))) (c : CallAt) → IsPlace c.old.words c.segment c.at →
    ((t : Tree) → IsStored c.old.words c.segment c.at t → FindsStruct size default result c t) → ((word_at c.old.words c.segment c.at ≡ 0 → ⊥) → IfErr result (IsNoWider size c)) →
    OnOk result (KeepsMemory c.old c.new) → IfErr result (SpendsMemory c.old c.new) → (StructFindFits size default c.old c.segment c.at → IsOk result) →
    (word_at c.old.words c.segment c.at ≡ 0 → IsIgnoredDefault default → size.data_words + size.pointers ≡ 0 → OnOk result (word_at c.new.words c.segment c.at ≡ struct_word (2 ^ 30 - 1) 0 0)) →
    IsDoneAt c.old c.new (AtPointer (place_in c)) (Search (ForStruct size) default) (refusal_of result)
struct_sought result size default c there found set granted memory fits empty =
    search_done result (ForStruct size) default c
    (λ t stored. with_does result ignored default (looked_for (ForStruct size)) (OpensStruct IsStructGiven size result) c t stored (struct_so result size) (found t stored)) granted memory
    (never_if result ignored default (ForStruct size) (OpensStruct IsStructGiven size) c there (struct_never size) found (λ none. set_struct result c size (set (not_null c there none)))) (λ none. set_struct result c size (set (not_null c there none))) (λ room. never_refused result (fits (struct_room size default c.old (place_in c) room)))
    (λ t stored. by_outcome result (object_default default t) (OpensStruct IsStructGiven size result) (FindsSought (ForStruct size) (refusal_of result)) c t (λ d u. opens_so result size IsStructGiven d u (struct_opened size u)) (found t stored))
    (opens_there result c size default empty)

pub structs_sought : (result : Result ListPlace ErrorKind) (size : StructSize) (default : Option (Bor (List ℕ))) (c : CallAt) → IsPlace c.old.words c.segment c.at →
    ((t : Tree) → IsStored c.old.words c.segment c.at t → FindsStructs size default result c t) → ((word_at c.old.words c.segment c.at ≡ 0 → ⊥) → IfErr result (RefusesWider (IsStored c.old.words c.segment c.at) size c.old c.new)) →
    OnOk result (KeepsMemory c.old c.new) → IfErr result (SpendsMemory c.old c.new) → (StructsFindFits size default c.old c.segment c.at → IsOk result) →
    IsDoneAt c.old c.new (AtPointer (place_in c)) (Search (ForStructs size) default) (refusal_of result)
structs_sought result size default c there found set granted memory fits =
    search_done result (ForStructs size) default c
    (λ t stored. with_does result ignored default (looked_for (ForStructs size)) (OpensList size result) c t stored (structs_so result size) (found t stored)) granted memory
    (never_if result ignored default (ForStructs size) (OpensList size) c there (structs_never size) found (λ none. set_structs result c size (set (not_null c there none)))) (λ none. set_structs result c size (set (not_null c there none))) (λ room. never_refused result (fits room))
    (λ t stored. by_outcome result (object_default default t) (OpensList size result) (FindsSought (ForStructs size) (refusal_of result)) c t (structs_found result size) (found t stored)) tt

pub list_sought : (result : Result ListPlace ErrorKind) (size : ElementSize) (default : Option (Bor (List ℕ))) (c : CallAt) → IsPlace c.old.words c.segment c.at →
    ((t : Tree) → IsStored c.old.words c.segment c.at t → FindsList size default result c t) → ((word_at c.old.words c.segment c.at ≡ 0 → ⊥) → (c.new ≡ c.old) × IfErr result (λ k. is_unfound k ≡ true)) →
    OnOk result (KeepsMemory c.old c.new) → IfErr result (SpendsMemory c.old c.new) → IsDoneAt c.old c.new (AtPointer (place_in c)) (Search (ForList size) default) (refusal_of result)
list_sought result size default c there found set granted memory =
    search_done result (ForList size) default c
    (λ t stored. with_does result ignored default (looked_for (ForList size)) (GivesFoundList size result) c t stored (list_so result size) (found t stored)) granted memory
    (never_if result ignored default (ForList size) (GivesFoundList size) c there (list_never size) found (λ none. set_same result (ForList size) c (set (not_null c there none)).0)) (λ none. set_same result (ForList size) c (set (not_null c there none)).0)
    (λ room. found_fits result ignored default (GivesFoundList size) c there (λ b. tt) (list_name size) found (λ some. (set some).1) room)
    (λ t stored. by_outcome result (object_default default t) (GivesFoundList size result) (FindsSought (ForList size) (refusal_of result)) c t (list_found result size) (found t stored)) tt

pub data_sought : (result : Result ExistingBytes ErrorKind) (default : Option (Bor (List ℕ))) (c : CallAt) → IsPlace c.old.words c.segment c.at →
    ((t : Tree) → IsStored c.old.words c.segment c.at t → FindsBytes data_in default result c t) → ((word_at c.old.words c.segment c.at ≡ 0 → ⊥) → (c.new ≡ c.old) × IfErr result (λ k. is_unfound k ≡ true)) →
    OnOk result (KeepsMemory c.old c.new) → IfErr result (SpendsMemory c.old c.new) → IsDoneAt c.old c.new (AtPointer (place_in c)) (Search ForData default) (refusal_of result)
data_sought result default c there found set granted memory =
    let of_null : DefaultUse = is_denied_by ExistingPointerIsNotAList in
    search_done result ForData default c
    (λ t stored. with_does result of_null default (looked_for ForData) (GivesFoundBytes data_in result) c t stored (data_so result) (found t stored)) granted memory
    (never_if result of_null default ForData (GivesFoundBytes data_in) c there data_never found (λ none. set_same result ForData c (set (not_null c there none)).0)) (λ none. set_same result ForData c (set (not_null c there none)).0)
    (λ room. found_fits result of_null default (GivesFoundBytes data_in) c there (λ b. refl) data_name found (λ some. (set some).1) room)
    (λ t stored. by_outcome result (blob_default default t) (GivesFoundBytes data_in result) (FindsSought ForData (refusal_of result)) c t (data_found result) (found t stored)) tt

pub text_sought : (result : Result ExistingBytes ErrorKind) (default : Option (Bor (List ℕ))) (c : CallAt) → IsPlace c.old.words c.segment c.at →
    ((t : Tree) → IsStored c.old.words c.segment c.at t → FindsBytes text_in default result c t) → ((word_at c.old.words c.segment c.at ≡ 0 → ⊥) → (c.new ≡ c.old) × IfErr result (λ k. is_unfound k ≡ true)) →
    OnOk result (KeepsMemory c.old c.new) → IfErr result (SpendsMemory c.old c.new) → IsDoneAt c.old c.new (AtPointer (place_in c)) (Search ForText default) (refusal_of result)
text_sought result default c there found set granted memory =
    let of_null : DefaultUse = is_denied_by ExistingPointerIsNotAList in
    search_done result ForText default c
    (λ t stored. with_does result of_null default (looked_for ForText) (GivesFoundBytes text_in result) c t stored (text_so result) (found t stored)) granted memory
    (never_if result of_null default ForText (GivesFoundBytes text_in) c there text_never found (λ none. set_same result ForText c (set (not_null c there none)).0)) (λ none. set_same result ForText c (set (not_null c there none)).0)
    (λ room. found_fits result of_null default (GivesFoundBytes text_in) c there (λ b. refl) text_name found (λ some. (set some).1) room)
    (λ t stored. by_outcome result (blob_default default t) (GivesFoundBytes text_in result) (FindsSought ForText (refusal_of result)) c t (text_found result) (found t stored)) tt

-- the ranges of the numbers of a search for a list
pub list_range : (size : ElementSize) (default : Option (Bor (List ℕ))) → is_in_range (Search (ForList size) default) ≡ true → (size_number size ≤ 6) × (is_small_default default ≡ true)
list_range size default e = both (nat_le (size_number size) 6) (is_small_default default) refl e
  where
    both : (b c : Bool) → nat_le (size_number size) 6 ≡ b → b && c ≡ true → (size_number size ≤ 6) × (c ≡ true)
    both true c is e = (within (size_number size) is, e)
      where
        within : (n : ℕ) → nat_le n 6 ≡ true → n ≤ 6
        within n e = grind (arith, nat_tests)
    both false c is e = absurd (cc)
