-- What the getters of a struct that conforms find.
use Rattle.std.proofs.Common.{◌≡◌, inl, inr, ◌<◌, ◌≤◌, [], ◌∷◌, length, ◌∙◌, ℕ, zero, suc, ◌+◌, Bool, true, false, None, Option, Some, Ok, Err, Result, IsOk, MatchResult, List, refl, sym, ap, subst, arith}
use Rattle.std.proofs.lemmas.Bool.{le-ltb}
use Rattle.std.proofs.Math.Logic.{∥∥₁_elim}
use mathlib.Core.Bool.{Bool-set}
use Rattle.capnp_words.specs.Meter.{Affords, FitsIn, Meter, charged, less}
use Rattle.capnp_format.specs.Tree.{Tree, Null, Capability, Struct, Flat, Pointers, Structs, Trees, no_trees, tree, count, Elements, no_elements, element}
use Rattle.capnp_format.specs.Path.{struct_at, tree_at}
use Rattle.std.specs.Prelude.{slice_index}
use Rattle.std.specs.Result.{result_err}
use Rattle.capnp_arena_traits.specs.declared.arena.reader_arena.ReaderArena.{Ghosts}
use Rattle.capnp_format.specs.Bytes.{words_of}
use Rattle.capnp_format.specs.Numbers.{element_bits}
use Rattle.capnp_words.specs.declared.wire_pointer.ElementSize.{ElementSize}
use Rattle.capnp_words.specs.declared.error.ErrorKind.{ErrorKind}
use Rattle.capnp_pointers.specs.Expected.{Expectation}
use Rattle.capnp_pointers.specs.Reading.{word_of}
use Rattle.capnp_readers.specs.Sections.{bytes_for}
use Rattle.capnp_readers.specs.declared.readers.list_reader.ListReader.{ListReader}
use Rattle.capnp_readers.specs.declared.readers.struct_reader.StructReader.{StructReader}
use Rattle.capnp_readers.specs.Values.{FitsSize, HasStructs, IsStructOrNull, IsText, ShowsListOf, ShowsNumber, ShowsStructOf, struct_children, struct_data, struct_element}
use Rattle.typed_reading.specs.Outcomes.{reading_outcome}
use Rattle.typed_reading.specs.Sections.{pointer_field}
use Rattle.typed_reading.specs.Values.{child}
use Rattle.typed_reading.proofs.Outcomes.{null_outcome}
use Rattle.typed_conforming.specs.declared.schema.Kind.{Kind}
use Rattle.typed_conforming.specs.declared.schema.Kind.TheVariants.{Any, AnyList, Capability as CapabilityKind, Data, Text, Utf8, Struct as StructKind, List as ListKind}
use Rattle.typed_conforming.specs.Tables.{elements_wanted, is_text_kind, wanted}
use Rattle.typed_conforming.specs.Conforms.{Conforms, ConformAll, ConformEach, ConformElements, IsOfKind}
use Rattle.typed_conforming.specs.Checked.{ElementsConform, IsChecked, IsCheckedList}
use Rattle.typed_conforming.proofs.Fitting.{null_conforms_to}

-- A limiter without a limit affords everything.
pub affords_all : (b : Bool) (m : Meter) (c : ℕ) → m.left ≡ None → Affords b m c
affords_all true m c none = rw none tt
affords_all false m c none = tt

-- A value that conforms is what is wanted.
pub kind_of : (T : List ℕ) (k : Kind) (t : Tree) → Conforms T k t → IsOfKind k t
kind_of T k Null h = h
kind_of T k (Capability i) h = h
kind_of T k (Struct ws ts) h = h.0
kind_of T k (Flat size ns) h = h
kind_of T k (Pointers ts) h = h.0
kind_of T k (Structs d q es) h = h.0

-- A list of elements of this size.
pub elements_fit : (T : List ℕ) (k : Kind) (size : ElementSize) (t : Tree) → elements_wanted k ≡ Some size → Conforms T k t → FitsSize size t
elements_fit T (ListKind found row) size t e h = subst (λ z. FitsSize z t) (let same : found ≡ size = cc e in same) (kind_of T (ListKind found row) t h)
elements_fit T Any size t e h = absurd (cc e)
elements_fit T AnyList size t e h = absurd (cc e)
elements_fit T CapabilityKind size t e h = absurd (cc e)
elements_fit T Text size t e h = absurd (cc e)
elements_fit T Utf8 size t e h = absurd (cc e)
elements_fit T Data size t e h = absurd (cc e)
elements_fit T (StructKind row) size t e h = absurd (cc e)

-- A text.
pub text_fits : (T : List ℕ) (k : Kind) (t : Tree) → is_text_kind k ≡ true → Conforms T k t → IsText t
text_fits T Text t e h = kind_of T Text t h
text_fits T Utf8 t e h = (kind_of T Utf8 t h).0
text_fits T Any t e h = absurd (cc e)
text_fits T AnyList t e h = absurd (cc e)
text_fits T CapabilityKind t e h = absurd (cc e)
text_fits T Data t e h = absurd (cc e)
text_fits T (StructKind row) t e h = absurd (cc e)
text_fits T (ListKind size row) t e h = absurd (cc e)

-- Child j of several that conform from index i on.
child_of : (T : List ℕ) (row : ℕ) (ws : List ℕ) (i j n : ℕ) (ts : Trees) → n ≡ i + j → ConformAll T row ws i ts → Conforms T (wanted T row ws n) (tree_at ts j)
child_of T row ws i j n no_trees e h = null_conforms_to (wanted T row ws n)
child_of T row ws i zero n (tree t ts) e h = subst (λ x. Conforms T (wanted T row ws x) t) (let f : i ≡ n = omega (arith, e) in f) h.0
child_of T row ws i (suc j) n (tree t ts) e h = child_of T row ws (suc i) j n ts (omega (arith, e)) h.1

pub child_conforms : (T : List ℕ) (row : ℕ) (i : ℕ) (t : Tree) → IsStructOrNull t → ConformAll T row (struct_data t) 0 (struct_children t) → Conforms T (wanted T row (struct_data t) i) (child i t)
child_conforms T row i (Struct ws ts) is h = child_of T row ws 0 i i ts (omega arith) h
child_conforms T row i Null is h = null_conforms_to (wanted T row (struct_data Null) i)
child_conforms T row i (Capability n) is h = absurd is
child_conforms T row i (Flat size ns) is h = absurd is
child_conforms T row i (Pointers ts) is h = absurd is
child_conforms T row i (Structs d q es) is h = absurd is

-- The children of a struct that conforms.
pub children_conform : (T : List ℕ) (row : ℕ) (t : Tree) → Conforms T (StructKind row) t → ConformAll T row (struct_data t) 0 (struct_children t)
children_conform T row Null h = tt
children_conform T row (Struct ws ts) h = h.1
children_conform T row (Capability n) h = absurd h
children_conform T row (Flat size ns) h = absurd h
children_conform T row (Pointers ts) h = absurd h.0
children_conform T row (Structs d q es) h = absurd h.0

-- What follows from a truncated fact: that a result is Ok.
pub ok_from : {A E : Type 0} {S : Type 0} (r : Result A E) → ∥ S ∥₁ → (S → IsOk r) → IsOk r
ok_from r fact f = ∥∥₁_elim fact (let p : IsProp (IsOk r) = hlevel (Bool-set) in p) f

-- What follows from what a result says in both cases.
pub ok_unless : {A E : Type 0} (P : A → Type 0) (Q : E → Type 0) (r : Result A E) → MatchResult r P Q → ((e : E) → Q e → ⊥) → IsOk r
ok_unless P Q (Ok x) h never = refl
ok_unless P Q (Err e) h never = absurd (never e h)

-- There is no child past the last one.
tree_past : (i : ℕ) (ts : Trees) → count ts ≤ i → tree_at ts i ≡ Null
tree_past i no_trees h = refl
tree_past zero (tree t ts) h = absurd (omega arith)
tree_past (suc i) (tree t ts) h = tree_past i ts (omega arith)

pub child_past : (i : ℕ) (t : Tree) → count (struct_children t) ≤ i → child i t ≡ Null
child_past i (Struct ws ts) h = tree_past i ts h
child_past i Null h = refl
child_past i (Capability n) h = refl
child_past i (Flat size ns) h = refl
child_past i (Pointers ts) h = refl
child_past i (Structs d q es) h = refl

-- The elements of a list that conforms.
pub elements_conform : (T : List ℕ) (size : ElementSize) (row : ℕ) (t : Tree) → Conforms T (ListKind size row) t → ElementsConform T row t
elements_conform T size row Null h = tt
elements_conform T size row (Struct ws ts) h = tt
elements_conform T size row (Capability n) h = tt
elements_conform T size row (Flat z ns) h = tt
elements_conform T size row (Pointers ts) h = h.1
elements_conform T size row (Structs d q es) h = h.1

each_of : (T : List ℕ) (row : ℕ) (i : ℕ) (ts : Trees) → ConformEach T row ts → Conforms T (wanted T row [] 0) (tree_at ts i)
each_of T row i no_trees h = null_conforms_to (wanted T row [] 0)
each_of T row zero (tree t ts) h = h.0
each_of T row (suc i) (tree t ts) h = each_of T row i ts h.1

element_of : (T : List ℕ) (row : ℕ) (i : ℕ) (es : Elements) → ConformElements T row es → ConformAll T row (struct_data (struct_at es i)) 0 (struct_children (struct_at es i))
element_of T row i no_elements h = tt
element_of T row zero (element ws ts es) h = h.0
element_of T row (suc i) (element ws ts es) h = element_of T row i es h.1

-- An element of a list that conforms, as a struct.
pub element_conforms : (T : List ℕ) (size : ElementSize) (row i : ℕ) (t : Tree) → Conforms T (ListKind size row) t → ConformAll T row (struct_data (struct_element t i)) 0 (struct_children (struct_element t i))
element_conforms T size row i Null h = tt
element_conforms T size row i (Struct ws ts) h = tt
element_conforms T size row i (Capability n) h = tt
element_conforms T size row i (Flat z ns) h = tt
element_conforms T size row i (Pointers ts) h = (each_of T row i ts h.1, tt)
element_conforms T size row i (Structs d q es) h = element_of T row i es h.1

-- A limiter that affords a word, and then c words, affords both.
fits_both : (left : Option ℕ) (c : ℕ) → FitsIn left 1 → FitsIn (less left 1) c → FitsIn left (1 + c)
fits_both None c one rest = tt
fits_both (Some left) c one rest = omega (arith, one, rest)

pub affords_both : (charging : Bool) (m : Meter) (c : ℕ) → Affords charging m 1 → Affords charging (charged charging m 1) c → Affords charging m (1 + c)
affords_both true m c one rest = fits_both m.left c one rest
affords_both false m c one rest = tt

module _ {A : Type 0} (g : Ghosts A) where
  -- A call that reads a pointer which a struct doesn't have succeeds.
  pub read_past : {B : Type 0} (r : StructReader A g) (i : ℕ) (e : Expectation) (m m' : Meter) (result : Result B ErrorKind) → r.pointer_count ≡ 0 → reading_outcome e (pointer_field g r i) m ≡ (result_err result, m') → IsOk result
  unfolding pointer_field
  read_past r i e m m' result none is =
      let word : word_of (pointer_field g r i) ≡ 0 = rw (le-ltb i r.pointer_count (omega (arith, none))) refl in
      go result (ap (λ x. x.0) (sym is ∙ null_outcome e (pointer_field g r i) m word))
    where
      go : {B : Type 0} (result : Result B ErrorKind) → result_err result ≡ None → IsOk result
      go (Ok x) e = refl
      go (Err k) e = absurd (cc e)

  -- A struct without sections shows null.
  pub empty_shows : (r : StructReader A g) → r.bits ≡ 0 → r.pointer_count ≡ 0 → ShowsStructOf g r Null
  empty_shows r none few =
      let short : length r.content.now ≡ 0 = r.content_is.1 ∙ ap bytes_for none in
      record { is_struct = tt; bits_are = none; words_are = ap words_of (length_zero r.content.now short); pointers_are = few; cost = 0; children_are = refl }
    where
      length_zero : (xs : List ℕ) → length xs ≡ 0 → xs ≡ []
      length_zero [] e = refl
      length_zero (x ∷ xs) e = absurd (omega arith)

  -- A list without elements shows null.
  pub empty_list : (r : ListReader A g) → r.count ≡ 0 → ShowsListOf g r Null
  empty_list r none = record { cost = 0; shown = (none, refl) }

  -- An element of a list whose elements conform.
  pub element_checked : (T : List ℕ) (row : ℕ) (l : ListReader A g) (i : ℕ) (x : StructReader A g) → i < l.count →
      ((t : Tree) → ShowsListOf g l t → HasStructs t → ShowsStructOf g x (struct_element t i)) →
      ((size : ℕ) (ns : List ℕ) → ShowsListOf g l (Flat size ns) → ShowsNumber g x (element_bits size) (slice_index ns i)) →
      IsCheckedList g T row l → IsChecked g T row x
  element_checked T row l i x inside structs number s = go s.list s.shows s.conforms
    where
      go : (t : Tree) → ShowsListOf g l t → ElementsConform T row t → IsChecked g T row x
      go Null shows h = absurd (let none : l.count ≡ 0 = shows.shown.0 in omega (arith, none, inside))
      go (Flat size ns) shows h = inr (number size ns shows).no_pointers
      go (Pointers ts) shows h = inl (record { struct = Struct [] (tree (tree_at ts i) no_trees); shows = structs (Pointers ts) shows tt; conforms = (each_of T row i ts h, tt) })
      go (Structs d q es) shows h = inl (record { struct = struct_at es i; shows = structs (Structs d q es) shows tt; conforms = element_of T row i es h })
      go (Capability n) shows h = absurd shows.shown
      go (Struct ws ts) shows h = absurd shows.shown
