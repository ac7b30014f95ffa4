-- What a struct becomes if one of its children is opened for writing, and what the call returns.
use Rattle.std.proofs.Common.{◌≡◌, ◌⊎◌, inl, inr, ℕ, zero, suc, ◌+◌, ◌*◌, ◌/◌, ◌^◌, ◌<◌, ◌≤◌, max, Bool, true, false, if◌then◌else◌, nat_lt, List, length, Some, None, Result, Ok, Err, IfOk, OnOk, OnErr, refl, sym, ap, ap₂, ◌∙◌, subst, arith}
use Rattle.std.proofs.lemmas.Bool.{cases_lt}
use Rattle.capnp_words.specs.Sizes.{size_number, sized}
use Rattle.capnp_words.specs.declared.error.ErrorKind.{ErrorKind}
use Rattle.capnp_words.specs.declared.error.ErrorKind.TheVariants.{MessageTooLarge}
use Rattle.capnp_words.specs.declared.wire_pointer.ElementSize.{ElementSize}
use Rattle.capnp_words.specs.declared.wire_pointer.ElementSize.TheVariants.{Void, Bit, Byte, TwoBytes, FourBytes, EightBytes, Pointer, InlineComposite}
use Rattle.capnp_words.specs.declared.wire_pointer.StructSize.{StructSize}
use Rattle.capnp_format.specs.Forest.{target}
use Rattle.capnp_format.specs.Path.{put_struct, put_tree, struct_at, tree_at}
use Rattle.capnp_format.specs.Segments.{IsPlace, Segments, Target}
use Rattle.capnp_format.specs.Tree.{Tree, Null, Capability, Struct, Flat, Pointers, Structs, Trees, no_trees, tree, Elements, count, element_count}
use Rattle.capnp_arena_traits.specs.View.{View}
use Rattle.capnp_in_place.specs.Existing.{list_in, plain_list, struct_list}
use Rattle.capnp_allocation.specs.Made.{zero_elements}
use Rattle.capnp_allocation.specs.Makes.{CallAt}
use Rattle.capnp_allocation.specs.Stored.{IsReplaced, IsStored}
use Rattle.capnp_allocation.proofs.Filling.{unchanged}
use Rattle.capnp_allocation.proofs.FillingMade.{null_stored}
use Rattle.capnp_in_place.specs.Opening.{Opens, OpensStruct, struct_opened}
use Rattle.capnp_in_place.specs.Rooms.{OpeningFits, WiderListFits}
use Rattle.capnp_in_place.specs.Widened.{fill_elements, limited, list_widened, struct_for_each, struct_for_each_tree}
use Rattle.capnp_in_place.proofs.WiderObjects.WhichList.{structs_stay, structs_widen}
use Rattle.capnp_readers.specs.Readers.{IsListPlace}
use Rattle.capnp_readers.specs.Values.{struct_children, struct_data}
use Rattle.capnp_readers.specs.declared.readers.list_reader.ListPlace.{ListPlace}
use Rattle.capnp_readers.specs.declared.readers.struct_reader.StructPlace.{StructPlace}
use Rattle.capnp_builders.specs.Found.{list_given, void_list}
use Rattle.capnp_builders.specs.Held.{HasList, HasStruct, Holder, IsPlainList, call_in, element_of, held_tree, pointer_to}
use Rattle.capnp_builders.specs.Opening.{IsListGiven, IsStructGiven, OpensList, StructFindFits, StructsFindFits}
use Rattle.capnp_builders.specs.Places.{IsAligned, element_place, list_place, struct_place}
use Rattle.capnp_builders.proofs.ElementContent.{element_long, put_struct-same}
use Rattle.capnp_builders.proofs.HeldStructs.{child_replaced, child_set, child_stored}
use Rattle.typed_building.specs.Opened.{HasElements, OpensChild, becomes_or, opened_list, opened_struct}
use Rattle.typed_building.specs.There.{HasListPlace, HasStructPlace, HasStructsPlace, call_on}

same_ok : (x y : ListPlace) → ◌≡◌ {A = Result ListPlace ErrorKind} (Ok x) (Ok y) → x ≡ y
same_ok x y e = cc

no_error : {A : Type 0} (x : A) (k : ErrorKind) → ◌≡◌ {A = Result A ErrorKind} (Ok x) (Err k) → ⊥
no_error x k e = cc

-- the value that is there afterwards

-- From old to new u replaces t at (s, p) on a success, and t stays there after a refusal.
pub record Turned {B : Type 0} (r : Result B ErrorKind) (c : CallAt) (t u : Tree) : Type 0 where
  pub replaced : OnOk r (IsReplaced c.old.words c.new.words c.segment c.at t u)
  pub stays : OnErr r (IsReplaced c.old.words c.new.words c.segment c.at t t)

same_view : (c : CallAt) (t : Tree) → IsStored c.old.words c.segment c.at t → c.new ≡ c.old → IsReplaced c.old.words c.new.words c.segment c.at t t
same_view c t stored same = subst (λ (v : View). IsReplaced c.old.words v.words c.segment c.at t t) (sym same) (unchanged c.old.words c.segment c.at t stored)

pub opened_turns : {B : Type 0} (size : StructSize) (Given : Segments → ℕ → ℕ → Tree → B → Type 0) (c : CallAt) (t : Tree) (r : Result Tree ErrorKind) (o : Result B ErrorKind) → IsStored c.old.words c.segment c.at t → Opens size Given c t r o → Turned o c t (becomes_or t r)
opened_turns size Given c t (Ok u) (Ok b) stored h = record { replaced = h.replaced; stays = tt }
opened_turns size Given c t (Ok u) (Err k) stored h = record { replaced = tt; stays = h.stands }
opened_turns size Given c t (Err k) (Ok b) stored h = absurd (no_error b k h.0)
opened_turns size Given c t (Err k) (Err l) stored h = record { replaced = tt; stays = same_view c t stored h.1 }

-- the struct that has the child

put_same : (ts : Trees) (i : ℕ) → put_tree ts i (tree_at ts i) ≡ ts
put_same no_trees i = refl
put_same (tree t ts) zero = refl
put_same (tree t ts) (suc i) = ap (tree t) (put_same ts i)

pub child_opened : {B : Type 0} (o : Result B ErrorKind) (old new : View) (place : StructPlace) (i : ℕ) (opened : Tree → Tree) → i < place.pointers →
    ((t : Tree) → IsStored old.words place.segment (place.pointers_at + i) t → Turned o (call_on place i old new) t (opened t)) → OpensChild o (call_in place old.words new.words) i opened
child_opened (Ok b) old new place i opened inside turns =
    let turned = λ (x : Holder) (ws : List ℕ) (ts : Trees) (h : HasStruct old.words x place ws ts). (turns (tree_at ts i) (child_stored old.words x place ws ts i inside h)).replaced in
    record {
      sets = λ x ws ts h. child_set old.words new.words x place ws ts i (opened (tree_at ts i)) inside (turned x ws ts h) h;
      replaces = λ x ws ts h. child_replaced old.words new.words x place ws ts i (opened (tree_at ts i)) inside (turned x ws ts h) h;
      refused = λ x ws ts h. tt;
      stays = λ x ws ts h. tt;
    }
child_opened (Err k) old new place i opened inside turns =
    let turned = λ (x : Holder) (ws : List ℕ) (ts : Trees) (h : HasStruct old.words x place ws ts). (turns (tree_at ts i) (child_stored old.words x place ws ts i inside h)).stays in
    record {
      sets = λ x ws ts h. tt;
      replaces = λ x ws ts h. tt;
      refused = λ x ws ts h. subst (HasStruct new.words x place ws) (put_same ts i) (child_set old.words new.words x place ws ts i (tree_at ts i) inside (turned x ws ts h) h);
      stays = λ x ws ts h. subst (λ us. IsReplaced old.words new.words x.segment x.at (held_tree x.lead ws ts) (held_tree x.lead ws us)) (put_same ts i) (child_replaced old.words new.words x place ws ts i (tree_at ts i) inside (turned x ws ts h) h);
    }

-- what the call returns

pub leads_opened : {B : Type 0} (size : StructSize) (Given : Segments → ℕ → ℕ → Tree → B → Type 0) (c : CallAt) (t : Tree) (r : Result Tree ErrorKind) (b : B) → Opens size Given c t r (Ok b) → Given c.new.words c.segment c.at (becomes_or t r) b × IsStored c.new.words c.segment c.at (becomes_or t r) × (r ≡ Ok (becomes_or t r))
leads_opened size Given c t (Ok u) b h = (h.leads, h.replaced.stored, refl)
leads_opened size Given c t (Err k) b h = absurd (no_error b k h.0)

struct_there : (S : Segments) (s p : ℕ) (u : Tree) (place : StructPlace) → IsStored S s p u → IsStructGiven S s p u place → HasStruct S (pointer_to s p) place (struct_data u) (struct_children u)
struct_there S s p (Struct ws ts) place stored given = record { stored = stored; sizes = tt; is_place = given.0 }
struct_there S s p Null place stored given = absurd given.0
struct_there S s p (Capability i) place stored given = absurd given.0
struct_there S s p (Flat size ns) place stored given = absurd given.0
struct_there S s p (Pointers ts) place stored given = absurd given.0
struct_there S s p (Structs d q es) place stored given = absurd given.0

pub struct_made : (o : Result StructPlace ErrorKind) (size : StructSize) (c : CallAt) (t : Tree) → OpensStruct IsStructGiven size o c t → IfOk o (λ inner. HasStruct c.new.words (pointer_to c.segment c.at) inner (struct_data (opened_struct size t)) (struct_children (opened_struct size t)))
struct_made (Ok inner) size c t opens =
    let (given, stored, is) = leads_opened size IsStructGiven c t (struct_opened size t) inner opens in
    struct_there c.new.words c.segment c.at (opened_struct size t) inner stored given
struct_made (Err k) size c t opens = tt

pub struct_inside : (o : Result StructPlace ErrorKind) (size : StructSize) (c : CallAt) (t : Tree) → OpensStruct IsStructGiven size o c t → IfOk o IsAligned → IfOk o (λ inner. (64 * size.data_words ≤ inner.bits) × (size.pointers ≤ inner.pointers)) → IfOk o (HasStructPlace c.new.words size)
struct_inside (Ok inner) size c t opens aligned wide =
    let (given, stored, is) = leads_opened size IsStructGiven c t (struct_opened size t) inner opens in
    record { inside = given.1; aligned = aligned; wide = wide.0; many = wide.1 }
struct_inside (Err k) size c t opens aligned wide = tt

-- a list of structs

list_turned : (o : Result ListPlace ErrorKind) (c : CallAt) → IsStored c.old.words c.segment c.at Null → c.new ≡ c.old → Turned o c Null Null
list_turned (Ok list) c stored same = record { replaced = same_view c Null stored same; stays = tt }
list_turned (Err k) c stored same = record { replaced = tt; stays = same_view c Null stored same }

pub list_turns : (o : Result ListPlace ErrorKind) (size : StructSize) (c : CallAt) (t : Tree) → IsStored c.old.words c.segment c.at t → OpensList size o c t → Turned o c t (opened_list size t)
list_turns o size c Null stored h = list_turned o c stored h.1
list_turns o size c (Capability i) stored h = opened_turns size IsListGiven c (Capability i) (list_widened size.data_words size.pointers (Capability i)) o stored h
list_turns o size c (Struct ws ts) stored h = opened_turns size IsListGiven c (Struct ws ts) (list_widened size.data_words size.pointers (Struct ws ts)) o stored h
list_turns o size c (Flat n ns) stored h = opened_turns size IsListGiven c (Flat n ns) (list_widened size.data_words size.pointers (Flat n ns)) o stored h
list_turns o size c (Pointers ts) stored h = opened_turns size IsListGiven c (Pointers ts) (list_widened size.data_words size.pointers (Pointers ts)) o stored h
list_turns o size c (Structs d q es) stored h = opened_turns size IsListGiven c (Structs d q es) (list_widened size.data_words size.pointers (Structs d q es)) o stored h

-- The list that a call returns is the value that is stored, which was made of t.
record IsListOpened (S : Segments) (s p : ℕ) (size : StructSize) (t : Tree) (list : ListPlace) : Type 0 where
  stored : IsStored S s p (opened_list size t)
  given : list_given s (list_in (target S s p) Void (opened_list size t)) ≡ Ok list
  inside : IsListPlace S list
  made : list_widened size.data_words size.pointers t ≡ Ok (opened_list size t)

list_leads : (size : StructSize) (c : CallAt) (t : Tree) (list : ListPlace) → Opens size IsListGiven c t (list_widened size.data_words size.pointers t) (Ok list) → IsListOpened c.new.words c.segment c.at size t list
list_leads size c t list h =
    let (given, stored, is) = leads_opened size IsListGiven c t (list_widened size.data_words size.pointers t) list h in
    record { stored = stored; given = given.0; inside = given.1; made = is }

list_is_opened : (size : StructSize) (c : CallAt) (t : Tree) (list : ListPlace) → c.segment < length c.old.words → IsStored c.old.words c.segment c.at t → OpensList size (Ok list) c t → IsListOpened c.new.words c.segment c.at size t list
list_is_opened size c Null list there stored h =
    let void : list ≡ void_list c.segment = same_ok list (void_list c.segment) h.0 in
    let same : c.new.words ≡ c.old.words = ap (λ (v : View). v.words) h.1 in
    record {
      stored = subst (λ S. IsStored S c.segment c.at Null) (sym same) stored;
      given = sym h.0;
      inside = subst (IsListPlace c.new.words) (sym void) (omega (arith, there, ap length same), refl, omega arith);
      made = refl;
    }
list_is_opened size c (Capability i) list there stored h = list_leads size c (Capability i) list h
list_is_opened size c (Struct ws ts) list there stored h = list_leads size c (Struct ws ts) list h
list_is_opened size c (Flat n ns) list there stored h = list_leads size c (Flat n ns) list h
list_is_opened size c (Pointers ts) list there stored h = list_leads size c (Pointers ts) list h
list_is_opened size c (Structs d q es) list there stored h = list_leads size c (Structs d q es) list h

-- The value is null, or a list of structs of at least this size.
abbrev AreWide : StructSize → Tree → Type 0
AreWide size t = (t ≡ Null) ⊎ ((d : ℕ) × (q : ℕ) × (es : Elements) × (t ≡ Structs d q es) × (size.data_words ≤ d) × (size.pointers ≤ q))

within_limit : (n : ℕ) (x u : Tree) → limited n x ≡ Ok u → x ≡ u
within_limit n x u h = chosen (nat_lt n (2 ^ 29)) h
  where
    chosen : (b : Bool) → ◌≡◌ {A = Result Tree ErrorKind} (if b then Ok x else Err (MessageTooLarge n)) (Ok u) → x ≡ u
    chosen true e = cc
    chosen false e = cc

made_wide : (size : StructSize) (n d q : ℕ) (es : Elements) (u : Tree) → size.data_words ≤ d → size.pointers ≤ q → limited n (Structs d q es) ≡ Ok u → AreWide size u
made_wide size n d q es u wide many h = inr (d, q, es, sym (within_limit n (Structs d q es) u h), wide, many)

widened_wide : (size : StructSize) (t u : Tree) → list_widened size.data_words size.pointers t ≡ Ok u → AreWide size u
widened_wide size Null u h = inl (let e : Null ≡ u = cc in sym e)
widened_wide size (Capability i) u h = cc
widened_wide size (Struct ws ts) u h = cc
widened_wide size (Flat zero ns) u h = made_wide size (length ns * (size.data_words + size.pointers)) size.data_words size.pointers (zero_elements size.data_words size.pointers (length ns)) u (omega arith) (omega arith) h
widened_wide size (Flat (suc zero) ns) u h = cc
widened_wide size (Flat (suc (suc n)) ns) u h = made_wide size (length ns * (max 1 size.data_words + size.pointers)) (max 1 size.data_words) size.pointers (struct_for_each size.data_words size.pointers ns) u (omega arith) (omega arith) h
widened_wide size (Pointers ts) u h = made_wide size (count ts * (size.data_words + max 1 size.pointers)) size.data_words (max 1 size.pointers) (struct_for_each_tree size.data_words size.pointers ts) u (omega arith) (omega arith) h
widened_wide size (Structs e k es) u h =
    let d : ℕ = size.data_words in
    let q : ℕ = size.pointers in
    let widens : (d ≤ e → q ≤ k → ⊥) → AreWide size u = λ narrow. made_wide size (element_count es * (max e d + max k q)) (max e d) (max k q) (fill_elements d q es) u (omega arith) (omega arith) (sym (structs_widen d q e k es narrow) ∙ h) in
    elim (cases_lt e d) [
      | inl less ↦ widens (λ wide many. omega (arith, less, wide))
      | inr wide ↦ elim (cases_lt k q) [
        | inl less ↦ widens (λ w many. omega (arith, less, many))
        | inr many ↦ inr (e, k, es, (let same : ◌≡◌ {A = Result Tree ErrorKind} (Ok (Structs e k es)) (Ok u) = sym (structs_stay d q e k es wide many) ∙ h in let is : Structs e k es ≡ u = cc in sym is), wide, many)
      ]
    ]

structs_given : (S : Segments) (s p d q : ℕ) (es : Elements) (u : Tree) (list : ListPlace) → u ≡ Structs d q es → list_given s (list_in (target S s p) Void u) ≡ Ok list → list ≡ list_place (struct_list (target S s p) d q (element_count es))
structs_given S s p d q es u list is given =
    let h : list_given s (list_in (target S s p) Void (Structs d q es)) ≡ Ok list = subst (λ z. list_given s (list_in (target S s p) Void z) ≡ Ok list) is given in
    same_ok list (list_place (struct_list (target S s p) d q (element_count es))) (sym h)

pub list_inside : (o : Result ListPlace ErrorKind) (size : StructSize) (c : CallAt) (t : Tree) → c.segment < length c.old.words → IsStored c.old.words c.segment c.at t → OpensList size o c t → IfOk o (HasStructsPlace c.new.words size)
list_inside (Err k) size c t there stored opens = tt
list_inside (Ok list) size c t there stored opens =
    let h = list_is_opened size c t list there stored opens in
    elim (widened_wide size t (opened_list size t) h.made) [
      | inl null ↦ (let void : list ≡ void_list c.segment = same_ok list (void_list c.segment) (sym (subst (λ z. list_given c.segment (list_in (target c.new.words c.segment c.at) Void z) ≡ Ok list) null h.given)) in
          let none : list.count ≡ 0 = ap (λ (l : ListPlace). l.count) void in
          record { inside = h.inside; structs = λ some. absurd (omega (arith, none, some)); wide = λ some. absurd (omega (arith, none, some)); many = λ some. absurd (omega (arith, none, some)) })
      | inr (d, q, es, is, wide, many) ↦ (let place = structs_given c.new.words c.segment c.at d q es (opened_list size t) list is h.given in
          record {
            inside = h.inside;
            structs = λ some. ap (λ (l : ListPlace). l.size) place;
            wide = λ some. omega (arith, wide, ap (λ (l : ListPlace). l.struct_size.data_words) place);
            many = λ some. omega (arith, many, ap (λ (l : ListPlace). l.struct_size.pointers) place);
          })
    ]

pub element_opened : (o : Result ListPlace ErrorKind) (size : StructSize) (c : CallAt) (t : Tree) (d q : ℕ) (es : Elements) (i : ℕ) (vs : List ℕ) (us : Trees) → c.segment < length c.old.words → IsStored c.old.words c.segment c.at t → OpensList size o c t →
    opened_list size t ≡ Structs d q es → i < element_count es → struct_at es i ≡ Struct vs us → IfOk o (λ list. HasStruct c.new.words (element_of c.segment c.at (sized d q) es i) (element_place list.size list i) vs us)
element_opened (Err k) size c t d q es i vs us there stored opens is less here = tt
element_opened (Ok list) size c t d q es i vs us there stored opens is less here =
    let S : Segments = c.new.words in
    let a : Target = target S c.segment c.at in
    let h = list_is_opened size c t list there stored opens in
    let stands : IsStored S c.segment c.at (Structs d q es) = subst (IsStored S c.segment c.at) is h.stored in
    let place = structs_given S c.segment c.at d q es (opened_list size t) list is h.given in
    let same : put_struct es i (Struct vs us) ≡ es = put_struct-same es i vs us here in
    let (long, many) = element_long S c.segment c.at d q es i vs us stands less here in
    record {
      stored = subst (λ X. IsStored S c.segment c.at (Structs d q X)) (sym same) stands;
      sizes = (less, long, many);
      is_place = ap (λ (l : ListPlace). element_place l.size l i) place ∙ ap₂ (λ k z. struct_place (record { segment = a.segment; start = k; size = z })) (let e : 8 * (a.start + 1) / 8 + i * (d + q) ≡ a.start + 1 + i * (d + q) = omega arith in e) (ap₂ sized (sym long) (sym many));
    }

-- a list that is only looked for

found_flat : (a : Target) (size : ElementSize) (ns : List ℕ) → size_number size ≤ 6 → list_in a size (Flat (size_number size) ns) ≡ Ok (Some (plain_list a size (length ns)))
found_flat a Void ns plain = refl
found_flat a Bit ns plain = refl
found_flat a Byte ns plain = refl
found_flat a TwoBytes ns plain = refl
found_flat a FourBytes ns plain = refl
found_flat a EightBytes ns plain = refl
found_flat a Pointer ns plain = refl
found_flat a InlineComposite ns plain = absurd (omega arith)

of_pointers : (size : ElementSize) → size_number size ≡ 6 → size ≡ Pointer
of_pointers Pointer is = refl
of_pointers Void is = absurd (omega arith)
of_pointers Bit is = absurd (omega arith)
of_pointers Byte is = absurd (omega arith)
of_pointers TwoBytes is = absurd (omega arith)
of_pointers FourBytes is = absurd (omega arith)
of_pointers EightBytes is = absurd (omega arith)
of_pointers InlineComposite is = absurd (omega arith)

-- The place of the list t, with elements of this size.
record IsListFound (S : Segments) (s p : ℕ) (size : ElementSize) (t : Tree) (r : Result ListPlace ErrorKind) : Type 0 where
  list : ListPlace
  is : r ≡ Ok list
  of_size : list.size ≡ size
  plain : IsPlainList list t
  is_place : list ≡ list_place (plain_list (target S s p) list.size list.count)

is_found : (S : Segments) (s p : ℕ) (size : ElementSize) (t : Tree) (r : Result ListPlace ErrorKind) → size_number size ≤ 6 → r ≡ list_given s (list_in (target S s p) size t) → HasElements size t → IsListFound S s p size t r
is_found S s p size (Flat n ns) r plain h same =
    let found : list_in (target S s p) size (Flat n ns) ≡ Ok (Some (plain_list (target S s p) size (length ns))) = subst (λ k. list_in (target S s p) size (Flat k ns) ≡ Ok (Some (plain_list (target S s p) size (length ns)))) same (found_flat (target S s p) size ns plain) in
    record {
      list = list_place (plain_list (target S s p) size (length ns));
      is = h ∙ ap (list_given s) found;
      of_size = refl;
      plain = (same, refl);
      is_place = refl;
    }
is_found S s p size (Pointers ts) r plain h same =
    let pointer : size ≡ Pointer = of_pointers size same in
    record {
      list = list_place (plain_list (target S s p) Pointer (count ts));
      is = h ∙ ap (λ z. list_given s (list_in (target S s p) z (Pointers ts))) pointer;
      of_size = sym pointer;
      plain = (refl, refl);
      is_place = refl;
    }
is_found S s p size Null r plain h same = absurd same
is_found S s p size (Capability i) r plain h same = absurd same
is_found S s p size (Struct ws ts) r plain h same = absurd same
is_found S s p size (Structs d q es) r plain h same = absurd same

pub list_found : (S : Segments) (s p : ℕ) (size : ElementSize) (t : Tree) (r : Result ListPlace ErrorKind) → size_number size ≤ 6 → IsStored S s p t → r ≡ list_given s (list_in (target S s p) size t) → HasElements size t → IfOk r (λ list. HasList S s p list t)
list_found S s p size t r plain stored h same =
    let f = is_found S s p size t r plain h same in
    subst (λ z. IfOk z (λ list. HasList S s p list t)) (sym f.is) (record { stored = stored; plain = f.plain; is_place = f.is_place })

pub list_there : (S : Segments) (s p : ℕ) (size : ElementSize) (t : Tree) (r : Result ListPlace ErrorKind) → size_number size ≤ 6 → r ≡ list_given s (list_in (target S s p) size t) → HasElements size t → IfOk r (IsListPlace S) → IfOk r (HasListPlace S size)
list_there S s p size t r plain h same inside =
    let f = is_found S s p size t r plain h same in
    subst (λ z. IfOk z (HasListPlace S size)) (sym f.is) (record { inside = subst (λ z. IfOk z (IsListPlace S)) f.is inside; is_size = f.of_size })

pub none_found : (s : ℕ) (a : Target) (size : ElementSize) (t : Tree) (r : Result ListPlace ErrorKind) → r ≡ list_given s (list_in a size t) → t ≡ Null → IfOk r (λ list. list.count ≡ 0)
none_found s a size t r h null =
    let void : r ≡ Ok (void_list s) = h ∙ ap (λ z. list_given s (list_in a size z)) null in
    subst (λ z. IfOk z (λ (list : ListPlace). list.count ≡ 0)) (sym void) refl

-- the room that opening takes

pub struct_fits : (v : View) (s p : ℕ) (size : StructSize) → IsPlace v.words s p → OpeningFits v s p size → StructFindFits size None v s p
struct_fits v s p size there (inl (null, room)) = (Null, null_stored v.words s p there null, inl (null, room))
struct_fits v s p size there (inr (ws, ts, stored, room)) = (Struct ws ts, stored, inr (ws, ts, stored, room))

pub list_fits : (v : View) (s p : ℕ) (size : StructSize) → WiderListFits (IsStored v.words s p) v s p size → StructsFindFits size None v s p
list_fits v s p size (t, u, stored, made, room) = (t, stored, (t, u, stored, made, room))
