-- The place that a call reads is one place: the pointer's own, or a default's.
use Rattle.std.proofs.Common.{◌≡◌, ◌≢◌, ◌⊎◌, IfSome, length, ◌↔◌, inl, inr, ℕ, zero, suc, ◌<◌, ◌≤◌, Bool, true, false, not, ◌&&◌, ◌||◌, cond, nat_eq, nat_lt, eqb-true, eq-eqb, lt-ltb, List, Option, Some, None, Result, Ok, Err, ℤ, refl, sym, ap, ap₂, ◌∙◌, subst, arith}
use Rattle.std.specs.Borrow.{Bor}
use Rattle.std.proofs.lemmas.Bool.{ne_eqb}
use Rattle.capnp_words.specs.declared.error.ErrorKind.{ErrorKind}
use Rattle.capnp_words.specs.Meter.{Meter}
use Rattle.capnp_arena_traits.specs.declared.arena.reader_arena.ReaderArena.{Ghosts}
use Rattle.capnp_pointers.specs.declared.object.Expected.TheVariants.{Struct as ExpectsStruct, List as ExpectsList}
use Rattle.capnp_pointers.specs.declared.object.Object.{Object}
use Rattle.capnp_pointers.specs.declared.source.Source.TheVariants.{Default}
use Rattle.capnp_words.specs.declared.wire_pointer.StructSize.{StructSize}
use Rattle.capnp_words.specs.Sizes.{size_number}
use Rattle.capnp_pointers.proofs.Decided.{within_or_not}
use Rattle.capnp_words.specs.declared.wire_pointer.ElementSize.{ElementSize}
use Rattle.capnp_words.specs.declared.wire_pointer.ElementSize.TheVariants.{Void, Bit, Byte, TwoBytes, FourBytes, EightBytes, Pointer, InlineComposite}
use Rattle.capnp_pointers.specs.Expected.{Expectation, list_expected, HasExpected, IsExpected, narrow_elements, narrow_structs}
use Rattle.capnp_format.specs.Numbers.{element_bits}
use Rattle.capnp_pointers.specs.Reading.{source_start, word_of, tag_size}
use Rattle.capnp_pointers.specs.Source.{default_segment, levels}
use Rattle.capnp_readers.specs.Readers.{read_by, IsTargetList, IsTarget}
use Rattle.capnp_readers.specs.Calls.{Call, IsRead, of_pointer, of_default, short_default, of_null_default, WhereRead, IsRefused}
use Rattle.capnp_readers.specs.Sections.{HoldsPointer, data_bits}
use Rattle.capnp_readers.specs.Values.{place_read}
use Rattle.capnp_readers.specs.declared.readers.PointerReader.{PointerReader}
use Rattle.capnp_readers.specs.declared.readers.list_reader.ListReader.{ListReader}
use Rattle.capnp_readers.specs.declared.readers.struct_reader.StructReader.{StructReader}
use Rattle.capnp_readers.specs.declared.readers.target.Target.{Target as ReadTarget}
use Rattle.capnp_readers.specs.declared.readers.target.Target.TheVariants.{Null as NullTarget, Cap as CapTarget, Struct as StructTarget, List as ListTarget}
use Rattle.capnp_pointers.proofs.OneObject.ExpectedAsStated.{not_withheld}
use Rattle.capnp_pointers.proofs.OneObject.ExpectedBySteps.{IsReadAt, struct_or_null, list_or_null, given_fits}
use Rattle.capnp_pointers.proofs.Following.FaultlessWhereMeant.{same_target}
use Rattle.capnp_pointers.proofs.Following.LeadsWhereFollowed.{entered_leads, leads_there}

-- Elements of the size `found`, with these sections if they are structs, are at least as wide as
-- those of the expected size.
abbrev IsWide : ElementSize → ElementSize → StructSize → Type 0
IsWide expected found sections = (element_bits (size_number expected) ≤ data_bits found sections) × (size_number expected ≡ 6 → HoldsPointer found sections) × (size_number found ≡ 1 → size_number expected ≡ 1)

-- what holds of a default, if there is one
pub of_some : (P : Bor (List ℕ) → Type 0) (default : Option (Bor (List ℕ))) → IfSome default P → (bytes : Bor (List ℕ)) → default ≡ Some bytes → P bytes
of_some P default h bytes e = subst (λ (d : Option (Bor (List ℕ))). IfSome d P) e h

-- elements and structs that aren't too narrow
both_none : (k j : ErrorKind) (b c : Bool) → cond b (Some k) (cond c (Some j) None) ≡ None → (b ≡ false) × (c ≡ false)
both_none k j true c e = absurd (cc e)
both_none k j false true e = absurd (cc e)
both_none k j false false e = (refl, refl)

but_not : (b c : Bool) → (b && not c) ≡ false → b ≡ true → c ≡ true
but_not true true e f = refl
but_not true false e f = absurd (cc e)
but_not false c e f = absurd (cc f)

neither : (b c : Bool) → (b || c) ≡ false → (b ≡ false) × (c ≡ false)
neither false false e = (refl, refl)
neither false true e = absurd (cc e)
neither true c e = absurd (cc e)

not_less : (x y : ℕ) → nat_lt x y ≡ false → y ≤ x
not_less x y e = elim (within_or_not y x) [ inl le ↦ le | inr lt ↦ absurd (let f = lt-ltb x y lt in cc (e, f)) ]

wide_elements : (size : ElementSize) (found : ℕ) → narrow_elements size found ≡ None → (element_bits (size_number size) ≤ element_bits found) × (size_number size ≡ 6 → found ≡ 6) × (found ≡ 1 → size_number size ≡ 1)
wide_elements size found e =
    let n : ℕ = size_number size in
    let off = both_none _ _ (nat_eq found 1 && not (nat_eq n 1)) (nat_lt (element_bits found) (element_bits n) || nat_eq n 6 && not (nat_eq found 6)) e in
    let two = neither (nat_lt (element_bits found) (element_bits n)) (nat_eq n 6 && not (nat_eq found 6)) off.1 in (
      not_less (element_bits found) (element_bits n) two.0,
      (λ six. eqb-true found 6 (but_not (nat_eq n 6) (nat_eq found 6) two.1 (eq-eqb n 6 six))),
      (λ one. eqb-true n 1 (but_not (nat_eq found 1) (nat_eq n 1) off.0 (eq-eqb found 1 one))),
    )

some_words : (k : ErrorKind) (n : ℕ) → cond (nat_eq n 0) (Some k) None ≡ None → 0 < n
some_words k zero e = absurd (cc e)
some_words k (suc n) e = omega arith

wide_structs : (size : ElementSize) (sections : StructSize) → narrow_structs size sections ≡ None → IsWide size InlineComposite sections
wide_structs Void sections e = (omega arith, λ six. absurd (omega (arith, six)), λ one. absurd (omega (arith, one)))
wide_structs Bit sections e = absurd (cc e)
wide_structs Byte sections e = let some = some_words _ sections.data_words e in (omega (arith, some), λ six. absurd (omega (arith, six)), λ one. absurd (omega (arith, one)))
wide_structs TwoBytes sections e = let some = some_words _ sections.data_words e in (omega (arith, some), λ six. absurd (omega (arith, six)), λ one. absurd (omega (arith, one)))
wide_structs FourBytes sections e = let some = some_words _ sections.data_words e in (omega (arith, some), λ six. absurd (omega (arith, six)), λ one. absurd (omega (arith, one)))
wide_structs EightBytes sections e = let some = some_words _ sections.data_words e in (omega (arith, some), λ six. absurd (omega (arith, six)), λ one. absurd (omega (arith, one)))
wide_structs Pointer sections e = (omega arith, λ six. some_words _ sections.pointers e, λ one. absurd (omega (arith, one)))
wide_structs InlineComposite sections e = (omega arith, λ six. absurd (omega (arith, six)), λ one. absurd (omega (arith, one)))

module _ {A : Type 0} (g : Ghosts A) where
  -- the call's own default
  pub read_default : {from : PointerReader A g} {expected : Expectation} {default : Option (Bor (List ℕ))} (bytes : Bor (List ℕ)) {x : Result (PointerReader A g) ErrorKind} → default ≡ Some bytes →
      IsRead g (record { from = from; expected = expected; default = Some bytes }) x → IsRead g (record { from = from; expected = expected; default = default }) x
  read_default {from} {expected} bytes {x} e h = subst (λ (d : Option (Bor (List ℕ))). IsRead g (record { from = from; expected = expected; default = d }) x) (sym e) h

  -- the pointer of a default, as it is read
  default_read : (p : PointerReader A g) (bytes : Bor (List ℕ)) (n : ℤ) → p.source ≡ Default bytes → p.place.segment ≡ default_segment → p.place.at ≡ 0 → p.nesting_limit ≡ n →
      read_by g p ≡ record (source_start g (Default bytes)) { levels = levels n }
  default_read p bytes n source segment first nesting = rw (source, segment, first, nesting) refl

  -- a pointer that isn't null is read at its own place
  own_place : (from : PointerReader A g) (default : Option (Bor (List ℕ))) → word_of (read_by g from) ≢ 0 → read_by g from ≡ place_read g from default
  own_place from None some = refl
  own_place from (Some bytes) some = ap (λ b. cond b (record (source_start g (Default bytes)) { levels = levels from.nesting_limit }) (read_by g from)) (sym (ne_eqb (word_of (read_by g from)) 0 some))

  -- in place of a null pointer, the default's is read
  default_place : (from : PointerReader A g) (bytes : Bor (List ℕ)) → word_of (read_by g from) ≡ 0 → place_read g from (Some bytes) ≡ record (source_start g (Default bytes)) { levels = levels from.nesting_limit }
  default_place from bytes null = ap (λ b. cond b (record (source_start g (Default bytes)) { levels = levels from.nesting_limit }) (read_by g from)) (eq-eqb (word_of (read_by g from)) 0 null)

  -- the place that a call reads
  pub read_at : {c : Call g} {p : PointerReader A g} → IsRead g c (Ok p) → read_by g p ≡ place_read g c.from c.default
  read_at {c} {p} (of_pointer (inl none) e) = let same : p ≡ c.from = cc in ap (read_by g) same ∙ ap (place_read g c.from) (sym none)
  read_at {c} {p} (of_pointer (inr some) e) = let same : p ≡ c.from = cc in ap (read_by g) same ∙ own_place c.from c.default some
  read_at {c} {p} (of_default {bytes = bytes} {p = x} null has whole source segment first nesting may e) =
      let same : p ≡ x = cc (e) in
      ap (read_by g) same ∙ default_read x bytes c.from.nesting_limit source segment first nesting ∙ sym (default_place c.from bytes null) ∙ ap (place_read g c.from) (sym has)
  read_at (short_default null has less e) = absurd (cc (e))
  read_at (of_null_default null has whole none named e) = absurd (cc (e))

  -- a call reads at one place
  pub one_read : {c : Call g} {p q : PointerReader A g} → IsRead g c (Ok p) → IsRead g c (Ok q) → read_by g p ≡ read_by g q
  one_read here there = read_at here ∙ sym (read_at there)

  pub not_unread : {c : Call g} {p : PointerReader A g} {k : ErrorKind} → IsRead g c (Ok p) → IsRead g c (Err k) → ⊥
  not_unread h (of_pointer w f) = absurd (cc (f))
  not_unread h (of_default null has whole source segment first nesting may f) = absurd (cc (f))
  not_unread (of_pointer (inl none) e) (short_default null has less f) = absurd (cc (none, has))
  not_unread (of_pointer (inr some) e) (short_default null has less f) = some null
  not_unread (of_default {bytes = bytes} null has whole source segment first nesting may e) (short_default {bytes = again} unset given less f) =
      let same : bytes ≡ again = cc (has, given) in omega (arith, whole, rw (← same) at less)
  not_unread (of_pointer (inl none) e) (of_null_default null has whole unset named f) = absurd (cc (none, has))
  not_unread (of_pointer (inr some) e) (of_null_default null has whole unset named f) = some null
  not_unread (of_default null has whole source segment first nesting (inl same) e) (of_null_default unset given long none named f) = absurd (cc (same, named))
  not_unread {c} (of_default {bytes = bytes} {p = x} null has whole source segment first nesting (inr some) e) (of_null_default {bytes = again} unset given long none named f) =
      let same : bytes ≡ again = cc (has, given) in
      some (ap word_of (default_read x bytes c.from.nesting_limit source segment first nesting) ∙ rw same none)
  not_unread (short_default null has less e) h = absurd (cc (e))
  not_unread (of_null_default null has whole none named e) h = absurd (cc (e))

  -- A default has a whole word, which isn't zero if the call refuses a null default.
  abbrev pub HasDefault : Call g → Type 0
  HasDefault c = (bytes : Bor (List ℕ)) → c.default ≡ Some bytes → (8 ≤ length bytes.now) × ((c.expected.null_default ≡ None) ⊎ (word_of (place_read g c.from c.default) ≢ 0))

  -- a call isn't refused if there is what it expects
  pub never_refused : (c : Call g) {m m' : Meter} {k : ErrorKind} → IsRefused g c m m' k → HasDefault c → HasExpected c.expected (place_read g c.from c.default) m → ⊥
  never_refused c (inl (of_pointer w e, same)) whole can = absurd (cc (e))
  never_refused c (inl (of_default null has long source segment first nesting might e, same)) whole can = absurd (cc (e))
  never_refused c (inl (short_default {bytes = bytes} null has less e, same)) whole can = (let there = (whole bytes has).0 in omega (arith, less, there))
  never_refused c (inl (of_null_default {bytes = bytes} null has long empty named e, same)) whole can = elim ((whole bytes has).1) [
    | inl none ↦ absurd (cc (none, named))
    | inr some ↦ some (ap (λ d. word_of (place_read g c.from d)) has ∙ ap word_of (default_place c.from bytes null) ∙ empty)
  ]
  never_refused c {m} {m'} {k} (inr (p, there, withheld)) whole can =
      not_withheld c.expected (read_by g p) m m' k (subst (λ r. HasExpected c.expected r m) (sym (read_at there)) can) withheld

  -- a call is answered exactly if it can be answered at the place that it reads
  pub answered : {c : Call g} {p : PointerReader A g} (m : Meter) {B : Type 0} → IsRead g c (Ok p) → (B ↔ HasExpected c.expected (read_by g p) m) → B ↔ WhereRead g c (λ q. HasExpected c.expected (read_by g q) m)
  answered {c} {p = p} m there same =
      ((λ b. (p, there, same.0 b)), (λ (q, here, can). same.1 (subst (λ r. HasExpected c.expected r m) (one_read here there) can)))

  -- what can be returned at the pointer that is read
  pub given_there : {c : Call g} {p : PointerReader A g} (m : Meter) → IsRead g c (Ok p) → WhereRead g c (λ q. HasExpected c.expected (read_by g q) m) → HasExpected c.expected (read_by g p) m
  given_there {c} m there (q, here, can) = subst (λ r. HasExpected c.expected r m) (one_read here there) can

  -- The object x was read through the pointer p, from m to m', and is shown as the target t.
  pub record IsShown (p : PointerReader A g) (m m' : Meter) (x : Object) (t : ReadTarget A g) : Type 0 where
    pub read : IsReadAt (read_by g p) m m' x
    pub target : IsTarget g p m m' t

  -- if the target isn't of the kind that was expected, the pointer is null
  pub no_struct : {p : PointerReader A g} {m m' : Meter} {x : Object} (t : ReadTarget A g) → IsExpected ExpectsStruct (read_by g p).levels x → IsShown p m m' x t → ((r : StructReader A g) → t ≡ StructTarget r → ⊥) → (word_of (read_by g p) ≡ 0) × (m' ≡ m)
  no_struct NullTarget given h other = h.target
  no_struct {p} {x = x} (CapTarget i) given h other = elim (struct_or_null x given h.read) [
    | inl null ↦ null
    | inr (b, there, z) ↦ absurd (let leads = leads_there (read_by g p) h.target.0 h.target.1 (λ f. let low = h.target.2 in omega (arith, f, low)) in let same : h.target.0 ≡ b = same_target (read_by g p).segments (read_by g p).segment (read_by g p).at leads.1 there.1 in let k = rw (← same) at z in let low = h.target.2 in omega (arith, k, low))
  ]
  no_struct (StructTarget r) given h other = absurd (other r refl)
  no_struct {p} {x = x} (ListTarget r) given h other = elim (struct_or_null x given h.read) [
    | inl null ↦ null
    | inr (b, there, z) ↦ absurd (let same : h.target.0 ≡ b = same_target (read_by g p).segments (read_by g p).segment (read_by g p).at (entered_leads h.target.1).1 there.1 in let k = rw (← same) at z in let one = h.target.2 in omega (arith, k, one))
  ]

  pub no_list : (size : ElementSize) {p : PointerReader A g} {m m' : Meter} {x : Object} (t : ReadTarget A g) → IsExpected (ExpectsList size) (read_by g p).levels x → IsShown p m m' x t → ((r : ListReader A g) → t ≡ ListTarget r → ⊥) → (word_of (read_by g p) ≡ 0) × (m' ≡ m)
  no_list size NullTarget given h other = h.target
  no_list size {p} {x = x} (CapTarget i) given h other = elim (list_or_null size x given h.read) [
    | inl null ↦ null
    | inr (b, there, z) ↦ absurd (let leads = leads_there (read_by g p) h.target.0 h.target.1 (λ f. let low = h.target.2 in omega (arith, f, low)) in let same : h.target.0 ≡ b = same_target (read_by g p).segments (read_by g p).segment (read_by g p).at leads.1 there.1 in let k = rw (← same) at z in let low = h.target.2 in omega (arith, k, low))
  ]
  no_list size {p} {x = x} (StructTarget r) given h other = elim (list_or_null size x given h.read) [
    | inl null ↦ null
    | inr (b, there, z) ↦ absurd (let same : h.target.0 ≡ b = same_target (read_by g p).segments (read_by g p).segment (read_by g p).at (entered_leads h.target.1).1 there.1 in let k = rw (← same) at z in let first = h.target.2 in omega (arith, k, first))
  ]
  no_list size (ListTarget r) given h other = absurd (other r refl)

  -- the elements of a list that fits are wide enough
  wide_list : (size : ElementSize) {p : PointerReader A g} {m m' : Meter} {x : Object} {r : ListReader A g} (h : IsShown p m m' x (ListTarget r)) (found : ElementSize) → (list_expected size).misfit (read_by g p).segments h.target.0 ≡ None →
      IsTargetList g found (read_by g p).segments r h.target.0 → IsWide size found r.struct_size
  wide_list size {p} {r = r} h InlineComposite fits list =
      (let sections : r.struct_size ≡ tag_size (read_by g p).segments h.target.0 = ap₂ (λ i j. record { data_words = i; pointers = j }) list.1.data_of list.1.pointers_of in wide_structs size r.struct_size (rw sections (rw list.0 at fits)))
  wide_list size h Void fits list = let wide = wide_elements size 0 (rw list.0 at fits) in (wide.0, λ six. absurd (omega (arith, wide.1 six)), wide.2)
  wide_list size h Bit fits list = let wide = wide_elements size 1 (rw list.0 at fits) in (wide.0, λ six. absurd (omega (arith, wide.1 six)), wide.2)
  wide_list size h Byte fits list = let wide = wide_elements size 2 (rw list.0 at fits) in (wide.0, λ six. absurd (omega (arith, wide.1 six)), wide.2)
  wide_list size h TwoBytes fits list = let wide = wide_elements size 3 (rw list.0 at fits) in (wide.0, λ six. absurd (omega (arith, wide.1 six)), wide.2)
  wide_list size h FourBytes fits list = let wide = wide_elements size 4 (rw list.0 at fits) in (wide.0, λ six. absurd (omega (arith, wide.1 six)), wide.2)
  wide_list size h EightBytes fits list = let wide = wide_elements size 5 (rw list.0 at fits) in (wide.0, λ six. absurd (omega (arith, wide.1 six)), wide.2)
  wide_list size h Pointer fits list = let wide = wide_elements size 6 (rw list.0 at fits) in (wide.0, λ six. tt, wide.2)

  pub wide_target : (size : ElementSize) {p : PointerReader A g} {m m' : Meter} {x : Object} {r : ListReader A g} → HasExpected (list_expected size) (read_by g p) m → IsShown p m m' x (ListTarget r) → IsWide size r.element_size r.struct_size
  wide_target size {p} {m} {r = r} can h = wide_list size h r.element_size (given_fits (list_expected size) (read_by g p) m h.target.0 can (entered_leads h.target.1)) h.target.3
