-- The sections of a struct that was read, and the places of its pointers.
use Rattle.std.proofs.Common.{◌≡◌, ◌↔◌, inl, inr, ℕ, pos, Bool, ◌+◌, ◌-◌, ◌*◌, ◌^◌, ◌<◌, ◌≤◌, List, [], ◌∷◌, length, lt-ltb, refl, ap, ap₂, ◌∙◌, Result, Ok, Err, IfOk, subst, sym, arith}
use Rattle.std.proofs.lemmas.Bool.{le-ltb}
use Rattle.std.specs.Prelude.{IsTrue}
use Rattle.capnp_format.specs.Bytes.{words_of}
use Rattle.capnp_format.specs.Segments.{Target, word_at, words_at}
use Rattle.capnp_format.specs.Tree.{Tree, Null, Capability, Struct, Flat, Pointers, Structs, count}
use Rattle.capnp_format.specs.Word.{data_words, pointer_count}
use Rattle.capnp_words.specs.declared.error.ErrorKind.{ErrorKind}
use Rattle.capnp_words.specs.Meter.{Meter}
use Rattle.capnp_arena_traits.specs.declared.arena.reader_arena.ReaderArena.{Ghosts}
use Rattle.capnp_pointers.specs.declared.source.Source.TheVariants.{Nothing}
use Rattle.capnp_pointers.proofs.Decided.{within_or_not}
use Rattle.capnp_pointers.proofs.Following.FaultlessWhereMeant.{same_target}
use Rattle.capnp_pointers.proofs.Following.LeadsWhereFollowed.{entered_leads}
use Rattle.capnp_pointers.specs.Outcomes.{MeansThere}
use Rattle.capnp_pointers.specs.Reading.{Reading, source_start, word_of}
use Rattle.capnp_pointers.specs.Expected.{struct_expected}
use Rattle.capnp_readers.specs.Calls.{WhereRead, IsStructRead}
use Rattle.capnp_words.specs.Sizes.{sized}
use Rattle.capnp_readers.specs.Readers.{ShowsElement, ShowsStruct, read_by}
use Rattle.capnp_readers.specs.Values.{IsStructOrNull}
use Rattle.capnp_readers.specs.declared.readers.PointerReader.{PointerReader}
use Rattle.capnp_readers.specs.declared.readers.list_reader.ListReader.{ListReader}
use Rattle.capnp_readers.specs.declared.readers.struct_reader.StructReader.{StructReader}
use Rattle.capnp_readers.proofs.Answering.{read_at}
use Rattle.typed_reading.proofs.Outcomes.{plain_call}
use Rattle.typed_reading.specs.Sections.{ElementHasSections, LeadsToSectionsOf, ShowsSectionsOf, pointer_field}

-- no bytes have no words
no_words : (bytes : List ℕ) → length bytes ≡ 0 → words_of bytes ≡ []
no_words [] e = refl
no_words (b ∷ bytes) e = absurd (omega arith)

-- what a pointer means has its sections
pub sections_meant : (r : Reading) (t : Tree) (c : ℕ) → IsStructOrNull t → MeansThere r t c → LeadsToSectionsOf r t
sections_meant r Null c is means = means.0
sections_meant r (Struct ws ts) c is (a, k, some, at, claim, has, all, cost) = (a, at, has)
sections_meant r (Capability i) c is means = absurd is
sections_meant r (Flat size ns) c is means = absurd is
sections_meant r (Pointers ts) c is means = absurd is
sections_meant r (Structs d q es) c is means = absurd is

module _ {A : Type 0} (g : Ghosts A) where
  -- where a pointer of a struct is read
  pub field_read : (r : StructReader A g) (i : ℕ) (p : PointerReader A g) → (i < r.pointer_count → p.source ≡ r.source) → (i < r.pointer_count → (p.place.segment ≡ r.pointers.segment) × (p.place.at ≡ r.pointers.at + i)) →
      (i < r.pointer_count → p.nesting_limit ≡ r.nesting_limit) → (r.pointer_count ≤ i → (p.source ≡ Nothing) × (p.nesting_limit ≡ pos (2 ^ 31 - 1))) → (r.pointer_count ≤ i → (p.place.segment ≡ 0) × (p.place.at ≡ 0)) → read_by g p ≡ pointer_field g r i
  unfolding pointer_field
  field_read r i p source place nesting nothing nowhere = elim (within_or_not r.pointer_count i) [
    | inl past ↦ rw (le-ltb i r.pointer_count past, (nothing past).0, (nothing past).1, (nowhere past).0, (nowhere past).1) refl
    | inr inside ↦ rw (lt-ltb i r.pointer_count inside, source inside, (place inside).0, (place inside).1, nesting inside) refl
  ]

  -- the struct that was read has the sections that the pointer leads to
  sections_there : (p : PointerReader A g) (m m' : Meter) (r : StructReader A g) (t : Tree) → IsStructRead g p m m' r → LeadsToSectionsOf (read_by g p) t → ShowsSectionsOf g r t
  sections_there p m m' r Null (inl (null, same, nothing, bits, none, nesting)) z = record {
    bits_are = bits;
    words_are = no_words r.content.now (omega (arith, bits, r.content_is.1));
    pointers_are = none;
  }
  sections_there p m m' r Null (inr (b, o, k, shows, source, nesting)) z = absurd ((entered_leads o).0 z)
  sections_there p m m' r (Struct ws ts) (inl (null, same, nothing, bits, none, nesting)) (a, at, has) = absurd (at.leads_to.0 null)
  sections_there p m m' r (Struct ws ts) (inr (b, o, k, shows, source, nesting)) (a, at, has) =
      let x : Reading = read_by g p in
      let same : b ≡ a = same_target x.segments x.segment x.at (entered_leads o).1 at.leads_to.1 in
      let wide : data_words b.word ≡ length ws = ap (λ (y : Target). data_words y.word) same ∙ at.data_of in
      let many : pointer_count b.word ≡ count ts = ap (λ (y : Target). pointer_count y.word) same ∙ at.pointers in
      record {
        bits_are = shows.bits_are ∙ ap (λ i. 64 * i) wide;
        words_are = shows.words_are ∙ ap₂ (λ (y : Target) (i : ℕ). words_at x.segments y.segment y.start i) same wide ∙ has;
        pointers_are = shows.pointers_are ∙ many;
      }
  sections_there p m m' r (Capability i) read leads = absurd leads
  sections_there p m m' r (Flat size ns) read leads = absurd leads
  sections_there p m m' r (Pointers ts) read leads = absurd leads
  sections_there p m m' r (Structs d q es) read leads = absurd leads

  pub sections_if : (p : PointerReader A g) (x : Reading) → read_by g p ≡ x → (m m' : Meter) (result : Result (StructReader A g) ErrorKind) → IfOk result (λ r. WhereRead g (plain_call g p struct_expected) (λ q. IsStructRead g q m m' r)) →
      (t : Tree) → LeadsToSectionsOf x t → IfOk result (λ r. ShowsSectionsOf g r t)
  sections_if p x at m m' (Ok r) (q, is, read) t leads = sections_there q m m' r t read (subst (λ y. LeadsToSectionsOf y t) (sym (read_at g is ∙ at)) leads)
  sections_if p x at m m' (Err k) read t leads = tt

  -- whether a pointer of a struct is null
  pub null_field : (r : StructReader A g) (i : ℕ) (b : Bool) → (IsTrue b ↔ (i < r.pointer_count → word_at (source_start g r.source).segments r.pointers.segment (r.pointers.at + i) ≡ 0)) → IsTrue b ↔ (word_of (pointer_field g r i) ≡ 0)
  unfolding pointer_field
  null_field r i b is = elim (within_or_not r.pointer_count i) [
    | inl past ↦ rw (le-ltb i r.pointer_count past) ((λ yes. refl), (λ e. is.1 (λ l. absurd (omega (arith, l, past)))))
    | inr inside ↦ rw (lt-ltb i r.pointer_count inside) ((λ yes. is.0 yes inside), (λ e. is.1 (λ l. e)))
  ]

  -- an element of a list has the sections that the list's words say
  pub element_sections : (list : ListReader A g) (i : ℕ) (r : StructReader A g) (t : Tree) → ShowsElement g list.element_size list i r → ElementHasSections g list i t → ShowsSectionsOf g r t
  element_sections list i r t shows has =
      let d : ℕ = list.struct_size.data_words in
      let q : ℕ = list.struct_size.pointers in
      let at : ℕ = list.start.at + i * (d + q) in
      let s : ShowsStruct g (source_start g list.source).segments r list.start.segment at (sized d q) = subst (λ z. ShowsElement g z list i r) has.of_structs shows in
      record {
        bits_are = s.bits_are ∙ ap (λ n. 64 * n) has.data_of;
        words_are = s.words_are ∙ ap (λ n. words_at (source_start g list.source).segments list.start.segment at n) has.data_of ∙ has.words_are;
        pointers_are = s.pointers_are ∙ has.pointers_of;
      }
