-- Canonical words determine their value.
use Rattle.std.proofs.Common.{◌≡◌, ℕ, ◌≤◌, List, [], ◌∷◌, ◌++◌, length, refl, subst, arith, take_at}
use Rattle.capnp_format.specs.Segments.{Segments, segment}
use Rattle.capnp_format.specs.Tree.{Tree, Null, Capability, Struct, Flat, Pointers, Structs, no_trees, tree, depth}
use Rattle.capnp_format.specs.Canonical.{body, encoding, ForOffset, IsEncodable, Reaches, HasCanonicalAt, charge}
use Rattle.capnp_format.specs.Value.{IsValue}
use Rattle.capnp_format.specs.Means.{Means}
use Rattle.capnp_format.proofs.Lies.{LiesAt, lies_means}
use Rattle.capnp_format.proofs.Levels.{one_value}

pub for_offset : (t : Tree) (P : Type 0) → P → ForOffset t P
for_offset Null P h = tt
for_offset (Capability i) P h = tt
for_offset (Struct [] no_trees) P h = tt
for_offset (Struct [] (tree t ts)) P h = h
for_offset (Struct (x ∷ xs) ts) P h = h
for_offset (Flat size ns) P h = h
for_offset (Pointers ts) P h = h
for_offset (Structs d q es) P h = h

-- canonical words at the front of a segment mean their value
pub encoding_means : (t : Tree) (more : List ℕ) → IsValue t → IsEncodable t → Means ((encoding t ++ more) ∷ []) (depth t) 0 0 t (charge t)
encoding_means t more v f =
    let at : LiesAt ((encoding t ++ more) ∷ []) 0 0 1 t = record {
      place = omega arith;
      inside = omega arith;
      lies = (for_offset t (Reaches 0 1) (omega arith, omega arith), refl, take_at (body t) more (length (body t)) refl);
    } in
    lies_means (depth t) t v f (omega arith) at

-- ws begin with the canonical words of t, which is a value and encodable
pub record BeginsWith (ws : List ℕ) (t : Tree) : Type 0 where
  pub is_value : IsValue t
  pub encodable : IsEncodable t
  pub more : List ℕ
  pub begins : encoding t ++ more ≡ ws

-- the canonical words of one value don't begin those of another
pub one_encoding : {ws : List ℕ} {t u : Tree} → BeginsWith ws t → BeginsWith ws u → t ≡ u
one_encoding {ws = ws} {t = t} {u = u} a b =
    (one_value (ws ∷ []) (depth t) (depth u) 0 0 t u (charge t) (charge u)
    (subst (λ vs. Means (vs ∷ []) (depth t) 0 0 t (charge t)) a.begins (encoding_means t a.more a.is_value a.encodable))
    (subst (λ vs. Means (vs ∷ []) (depth u) 0 0 u (charge u)) b.begins (encoding_means u b.more b.is_value b.encodable))).0

-- a place with canonical words of t means t, at t's cost
pub stands_means : (S : Segments) (n s p h : ℕ) (t : Tree) → depth t ≤ n → h ≤ length (segment S s) → HasCanonicalAt S s p h t → Means S n s p t (charge t)
stands_means S n s p h t levels l a =
    let at : LiesAt S s p h t = record { place = a.0; inside = l; lies = a.5 } in
    lies_means n t a.1 a.4 levels at

-- S has canonical words of t at (s, p), with the body at h
pub record Standing (S : Segments) (s p h : ℕ) (t : Tree) : Type 0 where
  pub stands : HasCanonicalAt S s p h t

-- a place has canonical words of at most one value
pub one_stands : {S : Segments} {s p h : ℕ} {t u : Tree} → h ≤ length (segment S s) → Standing S s p h t → Standing S s p h u → t ≡ u
one_stands {S = S} {s = s} {p = p} {h = h} {t = t} {u = u} l a b =
    (one_value S (depth t) (depth u) s p t u (charge t) (charge u) (stands_means S (depth t) s p h t (omega arith) l a.stands) (stands_means S (depth u) s p h u (omega arith) l b.stands)).0
