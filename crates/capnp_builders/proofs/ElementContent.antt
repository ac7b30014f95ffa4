-- An element of a list of structs that takes content: the pointer to the list stores the list with
-- that element.
use Rattle.std.proofs.Common.{◌≡◌, ℕ, zero, suc, pred, ◌+◌, ◌*◌, ◌/◌, ◌<◌, ◌≤◌, List, [], ◌∷◌, length, refl, sym, ap, ◌∙◌, subst, le_of_eq, arith}
use Rattle.capnp_format.specs.Forest.{target, target_in}
use Rattle.capnp_format.specs.Means.{Means, MeansElements}
use Rattle.capnp_format.specs.Segments.{Segments, segment, Target}
use Rattle.capnp_format.specs.Tree.{Tree, Null, Struct, Structs, Trees, Elements, no_elements, element, count, element_count}
use Rattle.capnp_allocation.specs.Fields.{with_field}
use Rattle.capnp_format.specs.Fields.{put_field}
use Rattle.capnp_allocation.specs.Filled.{AreFilled}
use Rattle.capnp_format.specs.Path.{Child, Element, struct_at, put_struct}
use Rattle.capnp_allocation.specs.Stored.{IsStored, IsReplaced}
use Rattle.capnp_allocation.proofs.Extents.{word_within}
use Rattle.capnp_in_place.proofs.Fields.FieldWritten.{element_field_written}
use Rattle.capnp_allocation.proofs.Filling.{Holds, still_leads}
use Rattle.capnp_allocation.proofs.FillingElements.{put_struct-count, put_struct-here, put_struct-again, row_high, element_holder, structs_claim}
use Rattle.capnp_allocation.proofs.MadeWords.{IsPut, word_put}
use Rattle.capnp_builders.specs.Content.{up_to, HoldContent, TakesBytes}
use Rattle.capnp_builders.proofs.ContentTaken.{Turns, IsContent, filled, stopped}
use Rattle.capnp_builders.specs.Places.{struct_place}
use Rattle.capnp_readers.specs.declared.readers.struct_reader.StructPlace.{StructPlace}
use Rattle.capnp_builders.proofs.StructPlaces.{struct_starts}
use Rattle.capnp_allocation.proofs.FillingMade.{structs_lead}

pub put_struct-same : (X : Elements) (i : ℕ) (ws : List ℕ) (ts : Trees) → struct_at X i ≡ Struct ws ts → put_struct X i (Struct ws ts) ≡ X
put_struct-same no_elements i ws ts e = refl
put_struct-same (element xs us X) zero ws ts e = let f : element ws ts X ≡ element xs us X = cc in f
put_struct-same (element xs us X) (suc i) ws ts e = ap (element xs us) (put_struct-same X i ws ts e)

sections_there : (S : Segments) (n s p d q : ℕ) (X : Elements) (c i : ℕ) (ws : List ℕ) (ts : Trees) → MeansElements S n s p d q X c → i < element_count X → struct_at X i ≡ Struct ws ts → (length ws ≡ d) × (count ts ≡ q)
sections_there S n s p d q no_elements c i ws ts m l e = absurd (omega arith)
sections_there S n s p d q (element vs us X) c zero ws ts (a, b, long, number, words, all, rest, g) l e =
    let same : vs ≡ ws = cc in
    let like : us ≡ ts = cc in
    (ap length (sym same) ∙ long, ap count (sym like) ∙ number)
sections_there S n s p d q (element vs us X) c (suc i) ws ts (a, b, long, number, words, all, rest, g) l e = sections_there S n s (p + d + q) d q X b i ws ts rest (omega arith) e

pub element_long : (S : Segments) (s p d q : ℕ) (X : Elements) (i : ℕ) (ws : List ℕ) (ts : Trees) → IsStored S s p (Structs d q X) → i < element_count X → struct_at X i ≡ Struct ws ts → (length ws ≡ d) × (count ts ≡ q)
element_long S s p d q X i ws ts y l is = let m = y.means in long_there m.0 m.1 m.2
  where
    long_there : (n c : ℕ) → Means S n s p (Structs d q X) c → (length ws ≡ d) × (count ts ≡ q)
    long_there n c (b, m, k, some, o, claim, tag, fits, all, g) = sections_there S (pred n) b.segment (b.start + 1) d q X k i ws ts all l is

-- writing a field of an element's data section
element_put : (S : Segments) (s p d q : ℕ) (a : Target) (X : Elements) (i : ℕ) (ws : List ℕ) (ts : Trees) (b w v : ℕ) → Holds (λ us. Structs d q (put_struct X i (Struct ws us))) S s p a ts → i < element_count X → length ws ≡ d → count ts ≡ q → b < 64 * d →
    Turns S (with_field S a.segment (64 * (a.start + 1 + i * (d + q)) + b) w v) s p a (Structs d q (put_struct X i (Struct ws ts))) (Structs d q (put_struct X i (Struct (put_field ws b w v) ts)))
element_put S s p d q a X i ws ts b w v y less long len l =
    let c : ℕ = a.start + 1 + i * (d + q) in
    let E : Elements = put_struct X i (Struct ws ts) in
    let R : Segments = with_field S a.segment (64 * c + b) w v in
    let n : ℕ = 1 + element_count X * (d + q) in
    let at : ℕ = (64 * c + b) / 64 in
    let to_a = ap target_in y.leads.1 in
    let many : element_count E ≡ element_count X = put_struct-count X i ws ts in
    let high = row_high i (element_count X) d q less in
    let claim = structs_claim S s p d q a E y.stored y.leads in
    let claimed : a.start + 1 + element_count X * (d + q) ≤ length (segment S a.segment) = subst (λ k. a.start + 1 + k * (d + q) ≤ length (segment S a.segment)) many claim in
    let put : IsPut S R a.segment at _ = word_put S R a.segment at _ (omega (arith, claimed, high, l)) refl in
    let done : IsReplaced S R s p (Structs d q E) (Structs d q (put_struct E i (Struct (put_field ws b w v) ts))) =
    element_field_written S R s p d q E i ws ts b w v y.stored (omega (arith, many, less)) (put_struct-here X i ws ts less) (omega (arith, l, long))
    (sym (ap (λ (t : Target). with_field S t.segment (64 * (t.start + 1 + i * (d + q)) + b) w v) to_a)) in
    let holder = element_holder s p d q a X i ws less in
    let (more, parts, below) = holder.covers S ts len y.leads in (
      subst (λ Y. IsReplaced S R s p (Structs d q E) (Structs d q Y)) (put_struct-again X i ws (put_field ws b w v) ts ts) done,
      still_leads S R s p n a (Structs d q E) more y.leads y.stored parts (record { segments = le_of_eq (sym put.segments); words = λ u. le_of_eq (sym (put.words u)) })
          (λ v r z m. put.kept v r (omega (arith, z, word_within a n at v r (omega arith) (omega (arith, l, high))))),
    )

pub element_content : (s p d q : ℕ) (a : Target) (X : Elements) (i : ℕ) → i < element_count X →
    IsContent (λ ws ts. Structs d q (put_struct X i (Struct ws ts))) (λ j. Element i ∷ Child j ∷ []) s p d q a (a.start + 1 + i * (d + q)) (1 + element_count X * (d + q))
element_content s p d q a X i less = record {
  holder = λ ws long. element_holder s p d q a X i ws less;
  field = λ S ws ts b w v y long len l. element_put S s p d q a X i ws ts b w v y less long len l;
}

pub element_content_taken :
    (S M R : Segments) (s p d q : ℕ) (es : Elements) (i : ℕ) (ws : List ℕ) (ts us : Trees)
    (place : StructPlace) (bits : ℕ) (bytes : List ℕ) → IsStored S s p (Structs d q es)
    → i < element_count es → struct_at es i ≡ Struct ws ts →
    place ≡ struct_place (record {
      segment = (target S s p).segment;
      start = (target S s p).start + 1 + i * (d + q);
      size = record { data_words = d; pointers = q };
    })
    → TakesBytes S M place bits bytes
    → AreFilled M R place.segment place.pointers_at us → count us ≤ q
    → (vs : List ℕ) × HoldContent vs d bits bytes ×
    IsReplaced S R s p (Structs d q es) (Structs d q (put_struct es i (Struct vs (up_to q us))))
element_content_taken S M R s p d q es i ws ts us place bits bytes y less is placed takes fills few =
    let a : Target = target S s p in
    let F : List ℕ → Trees → Tree = λ vs os. Structs d q (put_struct es i (Struct vs os)) in
    let own : put_struct es i (Struct ws ts) ≡ es = put_struct-same es i ws ts is in
    let long = element_long S s p d q es i ws ts y less is in
    let held : Holds (F ws) S s p a ts = record { stored = subst (λ X. IsStored S s p (Structs d q X)) (sym own) y; leads = structs_lead S s p d q es y } in
    let (vs, hold, turns) =
    filled F (λ j. Element i ∷ Child j ∷ []) S M R s p d q a (a.start + 1 + i * (d + q)) (1 + element_count es * (d + q)) ws ts us place bits bytes (element_content s p d q a es i less) held long.0 long.1 (struct_starts place (record { segment = a.segment; start = a.start + 1 + i * (d + q); size = record { data_words = d; pointers = q } }) placed) takes fills few in
    (vs, hold, subst (λ X. IsReplaced S R s p (Structs d q X) (F vs (up_to q us))) own turns.0)

pub element_content_stopped :
    (S M F R : Segments) (s p d q : ℕ) (es : Elements) (i : ℕ) (ws : List ℕ) (ts us : Trees)
    (place : StructPlace) (bits : ℕ) (bytes : List ℕ) → IsStored S s p (Structs d q es)
    → i < element_count es → struct_at es i ≡ Struct ws ts →
    place ≡ struct_place (record {
      segment = (target S s p).segment;
      start = (target S s p).start + 1 + i * (d + q);
      size = record { data_words = d; pointers = q };
    })
    → TakesBytes S M place bits bytes
    → AreFilled M F place.segment place.pointers_at us → count us < q →
    IsReplaced F R place.segment (place.pointers_at + count us) Null Null
    → (vs : List ℕ) × HoldContent vs d bits bytes ×
    IsReplaced S R s p (Structs d q es) (Structs d q (put_struct es i (Struct vs (up_to q us))))
element_content_stopped S M K R s p d q es i ws ts us place bits bytes y less is placed takes fills fewer null =
    let a : Target = target S s p in
    let F : List ℕ → Trees → Tree = λ vs os. Structs d q (put_struct es i (Struct vs os)) in
    let own : put_struct es i (Struct ws ts) ≡ es = put_struct-same es i ws ts is in
    let long = element_long S s p d q es i ws ts y less is in
    let held : Holds (F ws) S s p a ts = record { stored = subst (λ X. IsStored S s p (Structs d q X)) (sym own) y; leads = structs_lead S s p d q es y } in
    let (vs, hold, turns) =
    stopped F (λ j. Element i ∷ Child j ∷ []) S M K R s p d q a (a.start + 1 + i * (d + q)) (1 + element_count es * (d + q)) ws ts us place bits bytes (element_content s p d q a es i less) held long.0 long.1 (struct_starts place (record { segment = a.segment; start = a.start + 1 + i * (d + q); size = record { data_words = d; pointers = q } }) placed) takes fills fewer null in
    (vs, hold, subst (λ X. IsReplaced S R s p (Structs d q X) (F vs (up_to q us))) own turns.0)
