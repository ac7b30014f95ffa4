-- Values put at the root of a forest, and at a pointer of the root's struct.
use Rattle.std.proofs.Common.{◌≡◌, ℕ, zero, suc, ◌+◌, ◌*◌, ◌<◌, List, [], ◌∷◌, length, refl, sym, ap, arith}
use Rattle.std.proofs.lemmas.List.{length-replicate}
use Rattle.capnp_format.specs.Segments.{Segments}
use Rattle.capnp_format.specs.Tree.{Tree, Null, Struct}
use Rattle.capnp_format.specs.Forest.{IsForest, target}
use Rattle.capnp_words.specs.declared.wire_pointer.StructSize.{StructSize}
use Rattle.capnp_readers.specs.declared.readers.struct_reader.StructPlace.{StructPlace}
use Rattle.capnp_allocation.specs.Made.{words_of_zero, nulls, zero_struct}
use Rattle.capnp_allocation.specs.Memory.{start_of}
use Rattle.capnp_format.specs.Path.{Child, node, PathLeads, Step, put_tree, tree_at, update}
use Rattle.capnp_allocation.specs.Stored.{Puts}
use Rattle.capnp_allocation.proofs.Placed.{count-nulls}
use Rattle.capnp_allocation.proofs.Paths.{node_of_parts}
use Rattle.capnp_allocation.proofs.Replaced.{forest_stored, forest_updated, stored_within}
use Rattle.capnp_in_place.specs.Opening.{existing_struct}
use Rattle.capnp_allocation.specs.Makes.{CallAt}
use Rattle.capnp_builders.specs.Places.{IsStructOf, struct_place}

pub root_put : (S R : Segments) (t y : Tree) → IsForest S t → Puts S R 0 0 y → IsForest R y
root_put S R t y forest puts = forest_updated S R t [] 0 0 t y forest refl (puts t (forest_stored S t forest))

null_first : (q : ℕ) → tree_at (nulls q) 0 ≡ Null
null_first zero = refl
null_first (suc q) = refl

pub field_put : (S M R : Segments) (t y : Tree) (size : StructSize) (place : StructPlace) → IsForest S t → Puts S M 0 0 (zero_struct size) → place ≡ struct_place (existing_struct (start_of (target M 0 0)) size) → 0 < size.pointers → Puts M R place.segment (place.pointers_at) y →
    IsForest R (Struct (words_of_zero size.data_words) (put_tree (nulls size.pointers) 0 y))
field_put S M R t y size place forest first leads some puts =
    let is_segment = ap (λ (p : StructPlace). p.segment) leads in
    let is_pointers = ap (λ (p : StructPlace). p.pointers_at) leads in
    let made = root_put S M t (zero_struct size) forest first in
    let long : length (words_of_zero size.data_words) ≡ size.data_words = length-replicate {A = ℕ} size.data_words 0 in
    let at : (target M 0 0).start + length (words_of_zero size.data_words) + 0 ≡ place.pointers_at = omega (arith, is_pointers, long) in
    let path : PathLeads M (node 0 0 (zero_struct size)) (Child 0 ∷ []) (node place.segment (place.pointers_at) Null) = (omega (arith, count-nulls size.pointers), node_of_parts (sym is_segment) at (null_first size.pointers)) in
    forest_updated M R (zero_struct size) (Child 0 ∷ []) place.segment (place.pointers_at) Null y made path (puts Null (stored_within M 0 0 (zero_struct size) (Child 0 ∷ []) place.segment (place.pointers_at) Null path (forest_stored M (zero_struct size) made)))

-- what is put at a pointer anywhere in a tree
pub put_where_it_leads : (S R : Segments) (s p : ℕ) (y : Tree) → Puts S R s p y → (t x : Tree) (path : List Step) → IsForest S t → PathLeads S (node 0 0 t) path (node s p x) → IsForest R (update t path y)
put_where_it_leads S R s p y puts t x path forest leads = forest_updated S R t path s p x y forest leads (puts x (stored_within S 0 0 t path s p x leads (forest_stored S t forest)))

-- where the sections of a struct are, if a pointer leads to it
pub place_leads : {c : CallAt} {size : StructSize} {place : StructPlace} → IsStructOf c size place →
    (place.segment ≡ (target c.new.words c.segment c.at).segment) × (place.byte ≡ 8 * (target c.new.words c.segment c.at).start) × (place.bits ≡ 64 * size.data_words) ×
    (place.pointers_at ≡ (target c.new.words c.segment c.at).start + size.data_words) × (place.pointers ≡ size.pointers)
place_leads is = (
  ap (λ (p : StructPlace). p.segment) is.is,
  ap (λ (p : StructPlace). p.byte) is.is,
  ap (λ (p : StructPlace). p.bits) is.is,
  ap (λ (p : StructPlace). p.pointers_at) is.is,
  ap (λ (p : StructPlace). p.pointers) is.is,
)
