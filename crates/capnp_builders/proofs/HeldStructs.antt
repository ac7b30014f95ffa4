-- What becomes of a struct that a pointer holds, if a field of it is written, or a child of it is
-- replaced.
use Rattle.std.proofs.Common.{◌≡◌, ℕ, ◌+◌, ◌*◌, ◌/◌, ◌%◌, ◌<◌, List, [], ◌∷◌, length, get_or, refl, sym, ap, ap₂, ◌∙◌, subst, arith}
use Rattle.std.proofs.lemmas.List.{length-set}
use Rattle.capnp_format.specs.Forest.{target, target_in}
use Rattle.capnp_format.specs.Segments.{Segments, Target}
use Rattle.capnp_format.specs.Tree.{Tree, Struct, Trees, count, element_count}
use Rattle.capnp_allocation.specs.Fields.{with_field}
use Rattle.capnp_format.specs.Fields.{with_bits, put_field}
use Rattle.capnp_format.specs.Path.{Step, Child, Element, put_struct, put_tree, tree_at}
use Rattle.capnp_allocation.specs.Stored.{IsStored, IsReplaced}
use Rattle.capnp_allocation.proofs.Filling.{Holds, holder_put}
use Rattle.capnp_allocation.proofs.Replace.{put_tree-count}
use Rattle.capnp_allocation.proofs.Replaced.{stored_within}
use Rattle.capnp_readers.specs.declared.readers.struct_reader.StructPlace.{StructPlace}
use Rattle.capnp_builders.specs.Held.{Lead, directly, as_element, Holder, held_tree, held_start, LeadsToSections, HasStruct, struct_held}
use Rattle.capnp_builders.proofs.ContentTaken.{IsContent, Turns, leads_of, struct_content}
use Rattle.capnp_builders.proofs.ElementContent.{element_content}
use Rattle.capnp_allocation.proofs.FillingMade.{structs_lead}
use Rattle.capnp_builders.proofs.StructPlaces.{struct_starts}

-- the struct is part of the value that its pointer has
record IsPartOf (s p : ℕ) (lead : Lead) (a : Target) (n k : ℕ) : Type 0 where
  path : ℕ → List Step
  words : ℕ
  content : IsContent (held_tree lead) path s p n k a (held_start lead a.start) words

part_of : (s p : ℕ) (lead : Lead) (a : Target) (n k : ℕ) → LeadsToSections lead n k → IsPartOf s p lead a n k
part_of s p directly a n k sizes = record { path = λ j. Child j ∷ []; words = n + k; content = struct_content s p n k a }
part_of s p (as_element d q es i) a n k (less, wide, many) =
    let path : ℕ → List Step = λ j. Element i ∷ Child j ∷ [] in
    let F : List ℕ → Trees → Tree = held_tree (as_element d q es i) in
    let c : ℕ = a.start + 1 + i * (d + q) in
    let m : ℕ = 1 + element_count es * (d + q) in
    record {
      path = path;
      words = m;
      content = subst (λ z. IsContent F path s p z k a c m) (sym wide) (subst (λ z. IsContent F path s p d z a c m) (sym many) (element_content s p d q a es i less));
    }

held : (S : Segments) (s p : ℕ) (lead : Lead) (ws : List ℕ) (ts : Trees) → IsStored S s p (held_tree lead ws ts) → Holds (held_tree lead ws) S s p (target S s p) ts
held S s p directly ws ts y = record { stored = y; leads = (leads_of S s p ws ts y).0 }
held S s p (as_element d q es i) ws ts y = record { stored = y; leads = structs_lead S s p d q (put_struct es i (Struct ws ts)) y }

-- the struct is where it was, with other data words and children
stays : (S R : Segments) (x : Holder) (place : StructPlace) (ws vs : List ℕ) (ts us : Trees) → length vs ≡ length ws → count us ≡ count ts → HasStruct S x place ws ts → Turns S R x.segment x.at (target S x.segment x.at) (held_tree x.lead ws ts) (held_tree x.lead vs us) → HasStruct R x place vs us
stays S R x place ws vs ts us long len h turns =
    let to_a : target R x.segment x.at ≡ target S x.segment x.at = ap target_in turns.1.1 in
    record { stored = turns.0.stored; sizes = rw (long, len) h.sizes; is_place = rw (to_a, long, len) h.is_place }

-- a field of the struct is written

put_field-length : (ws : List ℕ) (b w v : ℕ) → length (put_field ws b w v) ≡ length ws
put_field-length ws b w v = length-set ws (b / 64) (with_bits (get_or ws (b / 64) 0) (b % 64) w v)

field_turns : (S R : Segments) (x : Holder) (place : StructPlace) (ws : List ℕ) (ts : Trees) (b w v : ℕ) → b < place.bits → R ≡ with_field S place.segment (8 * place.byte + b) w v → HasStruct S x place ws ts →
    Turns S R x.segment x.at (target S x.segment x.at) (held_tree x.lead ws ts) (held_tree x.lead (put_field ws b w v) ts)
field_turns S R x place ws ts b w v inside is h =
    let a : Target = target S x.segment x.at in
    let part = part_of x.segment x.at x.lead a (length ws) (count ts) h.sizes in
    let (of_segment, of_byte, of_bits, of_pointers, of_count) = struct_starts place (struct_held S x (length ws) (count ts)) h.is_place in
    let there : R ≡ with_field S a.segment (64 * held_start x.lead a.start + b) w v = is ∙ ap₂ (λ z e. with_field S z e w v) of_segment (let e : 8 * place.byte + b ≡ 64 * held_start x.lead a.start + b = omega (arith, of_byte) in e) in
    subst (λ T. Turns S T x.segment x.at a (held_tree x.lead ws ts) (held_tree x.lead (put_field ws b w v) ts)) (sym there) (part.content.field S ws ts b w v (held S x.segment x.at x.lead ws ts h.stored) refl refl (omega (arith, inside, of_bits)))

pub field_replaced : (S R : Segments) (x : Holder) (place : StructPlace) (ws : List ℕ) (ts : Trees) (b w v : ℕ) → b < place.bits → R ≡ with_field S place.segment (8 * place.byte + b) w v → HasStruct S x place ws ts →
    IsReplaced S R x.segment x.at (held_tree x.lead ws ts) (held_tree x.lead (put_field ws b w v) ts)
field_replaced S R x place ws ts b w v inside is h = (field_turns S R x place ws ts b w v inside is h).0

pub field_set : (S R : Segments) (x : Holder) (place : StructPlace) (ws : List ℕ) (ts : Trees) (b w v : ℕ) → b < place.bits → R ≡ with_field S place.segment (8 * place.byte + b) w v → HasStruct S x place ws ts → HasStruct R x place (put_field ws b w v) ts
field_set S R x place ws ts b w v inside is h = stays S R x place ws (put_field ws b w v) ts ts (put_field-length ws b w v) refl h (field_turns S R x place ws ts b w v inside is h)

-- the value of a child
pub child_stored : (S : Segments) (x : Holder) (place : StructPlace) (ws : List ℕ) (ts : Trees) (i : ℕ) → i < place.pointers → HasStruct S x place ws ts → IsStored S place.segment (place.pointers_at + i) (tree_at ts i)
child_stored S x place ws ts i inside h =
    let a : Target = target S x.segment x.at in
    let part = part_of x.segment x.at x.lead a (length ws) (count ts) h.sizes in
    let (of_segment, of_byte, of_bits, of_pointers, of_count) = struct_starts place (struct_held S x (length ws) (count ts)) h.is_place in
    let holds = held S x.segment x.at x.lead ws ts h.stored in
    let c : ℕ = held_start x.lead a.start + length ws + i in
    let way = (part.content.holder ws refl).leads S ts i holds.leads refl (omega (arith, inside, of_count)) in
    let there : IsStored S a.segment c (tree_at ts i) = stored_within S x.segment x.at (held_tree x.lead ws ts) (part.path i) a.segment c (tree_at ts i) way h.stored in
    let at : c ≡ place.pointers_at + i = omega (arith, of_pointers) in
    subst (λ z. IsStored S z (place.pointers_at + i) (tree_at ts i)) (sym of_segment) (subst (λ z. IsStored S a.segment z (tree_at ts i)) at there)

-- a child of the struct is replaced

child_turns : (S R : Segments) (x : Holder) (place : StructPlace) (ws : List ℕ) (ts : Trees) (i : ℕ) (u : Tree) → i < place.pointers → IsReplaced S R place.segment (place.pointers_at + i) (tree_at ts i) u → HasStruct S x place ws ts →
    Turns S R x.segment x.at (target S x.segment x.at) (held_tree x.lead ws ts) (held_tree x.lead ws (put_tree ts i u))
child_turns S R x place ws ts i u inside puts h =
    let a : Target = target S x.segment x.at in
    let part = part_of x.segment x.at x.lead a (length ws) (count ts) h.sizes in
    let (of_segment, of_byte, of_bits, of_pointers, of_count) = struct_starts place (struct_held S x (length ws) (count ts)) h.is_place in
    let c : ℕ = held_start x.lead a.start + length ws in
    let at : place.pointers_at + i ≡ c + i = omega (arith, of_pointers) in
    let there : IsReplaced S R a.segment (c + i) (tree_at ts i) u = subst (λ z. IsReplaced S R z (c + i) (tree_at ts i) u) of_segment (subst (λ z. IsReplaced S R place.segment z (tree_at ts i) u) at puts) in
    holder_put (held_tree x.lead ws) part.path S R x.segment x.at (count ts) a c part.words ts i u (part.content.holder ws refl) (held S x.segment x.at x.lead ws ts h.stored) refl (omega (arith, inside, of_count)) (λ y. there)

pub child_replaced : (S R : Segments) (x : Holder) (place : StructPlace) (ws : List ℕ) (ts : Trees) (i : ℕ) (u : Tree) → i < place.pointers → IsReplaced S R place.segment (place.pointers_at + i) (tree_at ts i) u → HasStruct S x place ws ts →
    IsReplaced S R x.segment x.at (held_tree x.lead ws ts) (held_tree x.lead ws (put_tree ts i u))
child_replaced S R x place ws ts i u inside puts h = (child_turns S R x place ws ts i u inside puts h).0

pub child_set : (S R : Segments) (x : Holder) (place : StructPlace) (ws : List ℕ) (ts : Trees) (i : ℕ) (u : Tree) → i < place.pointers → IsReplaced S R place.segment (place.pointers_at + i) (tree_at ts i) u → HasStruct S x place ws ts → HasStruct R x place ws (put_tree ts i u)
child_set S R x place ws ts i u inside puts h = stays S R x place ws ws ts (put_tree ts i u) refl (put_tree-count ts i u) h (child_turns S R x place ws ts i u inside puts h)
