-- A call for the kind of a value that conforms isn't refused with no limit; and where the next calls find what conforms.
use Rattle.std.proofs.Common.{◌≡◌, ◌≢◌, ℕ, ℤ, ◌+◌, ◌<◌, ◌≤◌, Option, Some, List, refl, subst, arith}
use Rattle.std.proofs.lemmas.Bool.{ne_eqb}
use Rattle.std.specs.Borrow.{Bor}
use Rattle.capnp_words.specs.Meter.{unused}
use Rattle.capnp_words.specs.declared.wire_pointer.ElementSize.{ElementSize}
use Rattle.capnp_format.specs.Path.{Child, next}
use Rattle.capnp_format.specs.Segments.{AreWords}
use Rattle.capnp_format.specs.Tree.{Tree, Null, Capability, Struct, Flat, Pointers, Structs}
use Rattle.capnp_format.specs.Word.{kind, lower_half}
use Rattle.capnp_arena_traits.specs.Limits.{AreSmall}
use Rattle.capnp_pointers.specs.declared.object.Expected.{Expected}
use Rattle.capnp_pointers.specs.declared.object.Expected.TheVariants.{Struct as ExpectsStruct, List as ExpectsList, Text as ExpectsText, Data as ExpectsData}
use Rattle.capnp_pointers.specs.Expected.{HasExpected, expectation}
use Rattle.capnp_pointers.specs.Outcomes.{MeansThere}
use Rattle.capnp_pointers.specs.Reading.{Reading, word_of}
use Rattle.capnp_readers.specs.Values.{HasStructs, struct_children, struct_data, struct_element}
use Rattle.capnp_readers.proofs.Given.{list_suits, struct_suits}
use Rattle.capnp_readers.proofs.Texts.{data_suits, text_suits}
use Rattle.typed_conforming.specs.declared.schema.Kind.{Kind}
use Rattle.typed_conforming.specs.declared.schema.Kind.TheVariants.{Any, AnyList, Text, Utf8, Data, Capability as CapabilityKind, Struct as StructKind, List as ListKind}
use Rattle.typed_conforming.specs.Conforms.{ConformAll, Conforms, IsOfKind}
use Rattle.typed_conforming.specs.Tables.{wanted}
use Rattle.typed_conforming.proofs.Checking.{child_conforms, element_conforms, kind_of}
use Rattle.capnp_layout_c.specs.Checking.{call_for}
use Rattle.capnp_layout_c.specs.Found.{IsElementOf, IsFoundList, IsFoundStruct}
use Rattle.capnp_layout_c.specs.Lent.{lent, lent_pointer, no_limit}
use Rattle.capnp_layout_c.specs.declared.found.FoundList.{FoundList}
use Rattle.capnp_layout_c.specs.declared.found.FoundStruct.{FoundStruct}
use Rattle.capnp_layout_c.proofs.Children.{child_there}
use Rattle.capnp_layout_c.proofs.ElementsFound.{element_found}
use Rattle.capnp_layout_c.proofs.NoLimit.{leads_near, unlimited}

-- The call for a kind reads a value that conforms to it.
pub read_unlimited : (T : List ℕ) (k : Kind) (e : Expected) (list : List (Bor (List ℕ))) (s p : ℕ) (nesting : ℤ) (t : Tree) (c : ℕ) → AreSmall list → AreWords (lent list) → call_for k ≡ Some e → Conforms T k t →
    MeansThere (lent_pointer list s p nesting) t c → HasExpected (expectation e) (lent_pointer list s p nesting) (unused (Some no_limit))
read_unlimited T k e list s p nesting t c small words is h means = unlimited e list s p nesting (unused (Some c)) small words (go k e is (kind_of T k t h))
  where
    r : Reading
    r = lent_pointer list s p nesting

    go : (k : Kind) (e : Expected) → call_for k ≡ Some e → IsOfKind k t → HasExpected (expectation e) r (unused (Some c))
    go (StructKind row) e is fits = let same : ExpectsStruct ≡ e = cc is in subst (λ x. HasExpected (expectation x) r (unused (Some c))) same (struct_suits r t c (unused (Some c)) fits means (omega arith))
    go (ListKind size row) e is fits = let same : ExpectsList size ≡ e = cc is in subst (λ x. HasExpected (expectation x) r (unused (Some c))) same (list_suits size r t c (unused (Some c)) fits means (omega arith))
    go Text e is fits = let same : ExpectsText ≡ e = cc is in subst (λ x. HasExpected (expectation x) r (unused (Some c))) same (text_suits r t c (unused (Some c)) fits means (omega arith))
    go Utf8 e is fits = let same : ExpectsText ≡ e = cc is in subst (λ x. HasExpected (expectation x) r (unused (Some c))) same (text_suits r t c (unused (Some c)) fits.0 means (omega arith))
    go Data e is fits = let same : ExpectsData ≡ e = cc is in subst (λ x. HasExpected (expectation x) r (unused (Some c))) same (data_suits r t c (unused (Some c)) fits means (omega arith))
    go Any e is fits = absurd (cc is)
    go AnyList e is fits = absurd (cc is)
    go CapabilityKind e is fits = absurd (cc is)

-- A pointer that isn't far, and leads to a capability, is one.
pub capability_there : (T : List ℕ) (r : Reading) (t : Tree) (c : ℕ) → Conforms T CapabilityKind t → MeansThere r t c → word_of r ≢ 0 → kind (word_of r) ≢ 2 → lower_half (word_of r) ≡ 3
capability_there T r Null c h means some near = absurd (some means.0)
capability_there T r (Capability i) c h (a, l, is, free) some plain = omega (arith, is, (leads_near r.segments r.segment r.at a l.1 (ne_eqb (kind (word_of r)) 2 plain)).0)
capability_there T r (Struct ws ts) c h means some near = absurd h.0
capability_there T r (Flat size ns) c h means some near = absurd h
capability_there T r (Pointers ts) c h means some near = absurd h.0
capability_there T r (Structs d q es) c h means some near = absurd h.0

-- A pointer of a struct that conforms means a value that conforms to its kind.
pub child_checked : (T : List ℕ) (row : ℕ) (list : List (Bor (List ℕ))) (s : FoundStruct) (t : Tree) (k i : ℕ) → IsFoundStruct (lent list) s t k → ConformAll T row (struct_data t) 0 (struct_children t) → i < s.pointers →
    (c : ℕ) × MeansThere (lent_pointer list s.segment (s.pointers_at + i) s.nesting) (next t (Child i)) c × Conforms T (wanted T row (struct_data t) i) (next t (Child i))
child_checked T row list s t k i found h less =
    let (c, means) = child_there list s t k i found less in
    (c, means, child_conforms T row i t found.is_struct h)

-- An element of a list that conforms is a struct that conforms.
pub element_checked : (T : List ℕ) (size : ElementSize) (row : ℕ) (list : List (Bor (List ℕ))) (l : FoundList) (s : FoundStruct) (t : Tree) (k i : ℕ) → IsFoundList (lent list) l t k → Conforms T (ListKind size row) t → HasStructs t → i < l.count → IsElementOf l i s →
    (c : ℕ) × IsFoundStruct (lent list) s (struct_element t i) c × ConformAll T row (struct_data (struct_element t i)) 0 (struct_children (struct_element t i))
element_checked T size row list l s t k i found h are less is =
    let (c, there) = element_found list l s t k i found are less is in
    (c, there, element_conforms T size row i t h)
