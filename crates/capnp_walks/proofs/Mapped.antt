-- What a map of collections makes of a walk.
use Rattle.std.proofs.Common.{◌≡◌, ℕ, zero, suc, ◌+◌, Some, None, Option, Result, Ok, Err, refl, ap, ap₂, ◌∙◌}
use Rattle.capnp_words.specs.declared.error.ErrorKind.{ErrorKind}
use Rattle.capnp_words.specs.Meter.{Meter}
use Rattle.capnp_pointers.specs.declared.object.Purpose.TheVariants.{Value}
use Rattle.capnp_pointers.specs.Enter.{Shape, nothing, capability, struct, flat, pointers, structs, read}
use Rattle.capnp_pointers.specs.Metered.{Metered, answer, onward}
use Rattle.capnp_pointers.specs.Reading.{Reading, place_past}
use Rattle.capnp_pointers.specs.Measure.{fold_children, fold_elements, fold_pointers}
use Rattle.capnp_walks.specs.Listing.{Collector, collected, walked_object}
use Rattle.capnp_walks.specs.Walks.{Walking, added, unless_stopped, walk_on, walk_within}
use Rattle.capnp_walks.specs.declared.walks.listing.WalkedObject.{WalkedObject}

-- A result, with k of its answer.
abbrev pub kept : {S T : Type 0} → (S → T) → Result S ErrorKind × Meter → Result T ErrorKind × Meter
kept k (Ok s, m) = (Ok (k s), m)
kept k (Err e, m) = (Err e, m)

-- The answer of a result; d if it is refused.
abbrev pub answered : {S : Type 0} → S → Result S ErrorKind → S
answered d (Ok s) = s
answered d (Err e) = d

next : {S T : Type 0} (k : S → T) (F : S → Metered S) (G : T → Metered T) (o : Result S ErrorKind × Meter) → ((s : S) (m : Meter) → G (k s) m ≡ kept k (F s m)) → onward G (kept k o) ≡ kept k (onward F o)
next k F G (Ok s, m) same = same s m
next k F G (Err e, m) same = refl

-- If k carries each step of one walk over to the other, it does so for pointers, elements, children.
module _ {S T : Type 0} (k : S → T) (f : Reading → S → Metered S) (g : Reading → T → Metered T) (same : (r : Reading) (s : S) (m : Meter) → g r (k s) m ≡ kept k (f r s m)) where
  pub pointers_kept : (i : ℕ) (r : Reading) (s : S) (m : Meter) → fold_pointers g i r (k s) m ≡ kept k (fold_pointers f i r s m)
  pointers_kept zero r s m = refl
  pointers_kept (suc i) r s m =
      ap (onward (fold_pointers g i (place_past r 1))) (same r s m) ∙ next k (fold_pointers f i (place_past r 1)) (fold_pointers g i (place_past r 1)) (f r s m) (pointers_kept i (place_past r 1))

  pub elements_kept : (d q n : ℕ) (r : Reading) (s : S) (m : Meter) → fold_elements g d q n r (k s) m ≡ kept k (fold_elements f d q n r s m)
  elements_kept d q zero r s m = refl
  elements_kept d q (suc n) r s m =
      ap (onward (fold_elements g d q n (place_past r (d + q)))) (pointers_kept q (place_past r d) s m)
      ∙ next k (fold_elements f d q n (place_past r (d + q))) (fold_elements g d q n (place_past r (d + q))) (fold_pointers f q (place_past r d) s m) (elements_kept d q n (place_past r (d + q)))

  pub children_kept : (r : Reading) (o : Shape) (s : S) (m : Meter) → fold_children g r o (k s) m ≡ kept k (fold_children f r o s m)
  children_kept r nothing s m = refl
  children_kept r (capability i) s m = refl
  children_kept r (struct t p d q) s m = pointers_kept q (record r { segment = t; at = p + d }) s m
  children_kept r (flat t p size n) s m = refl
  children_kept r (pointers t p n) s m = pointers_kept n (record r { segment = t; at = p }) s m
  children_kept r (structs t p d q n) s m = elements_kept d q n (record r { segment = t; at = p }) s m

-- h of a collection collects as the collection does.
pub record Maps {X Y : Type 0} (c : Collector X) (d : Collector Y) (h : X → Y) : Type 0 where
  pub collects : (o : WalkedObject) (x : X) → d.collect o (h x) ≡ h (c.collect o x)
  pub nexts : (x : X) → d.next (h x) ≡ c.next x

-- What h makes of a walk.
abbrev pub through : {X Y : Type 0} → (X → Y) → Walking X → Walking Y
through h (x, s) = (h x, s)

unless_mapped : {X Y : Type 0} (h : X → Y) (f : Reading → X → Metered (Walking X)) (g : Reading → Y → Metered (Walking Y)) → ((r : Reading) (x : X) (m : Meter) → g r (h x) m ≡ kept (through h) (f r x m)) →
    (r : Reading) (s : Walking X) (m : Meter) → unless_stopped g r (through h s) m ≡ kept (through h) (unless_stopped f r s m)
unless_mapped h f g same r (x, None) m = same r x m
unless_mapped h f g same r (x, Some p) m = refl

module _ {X Y : Type 0} {c : Collector X} {d : Collector Y} (h : X → Y) (maps : Maps c d h) where
  collected_mapped : (w : Option WalkedObject) (x : X) → collected d w (h x) ≡ h (collected c w x)
  collected_mapped None x = refl
  collected_mapped (Some o) x = maps.collects o x

  added_mapped : (parent : ℕ) (r : Reading) (o : Shape) (x : X) → added d parent r o (h x) ≡ h (added c parent r o x)
  added_mapped parent r o x = collected_mapped (walked_object parent r.segment r.at o) x

  pub walk_mapped : (n parent : ℕ) (r : Reading) (x : X) (m : Meter) → walk_within d n parent r (h x) m ≡ kept (through h) (walk_within c n parent r x m)
  unfolding walk_within
  walk_mapped zero parent r x m = go (read Value (record r { levels = zero }) m)
    where
      go : (w : Result Shape ErrorKind × Meter) → walk_on r (λ o y. answer (added d parent r o y, None)) (h x) w ≡ kept (through h) (walk_on r (λ o y. answer (added c parent r o y, None)) x w)
      go (Ok o, m') = ap (λ y. (Ok (y, None), m')) (added_mapped parent r o x)
      go (Err k, m') = refl
  walk_mapped (suc n) parent r x m = go (walk_mapped n (c.next x)) (read Value (record r { levels = suc n }) m)
    where
      go : ((s : Reading) (y : X) (m1 : Meter) → walk_within d n (c.next x) s (h y) m1 ≡ kept (through h) (walk_within c n (c.next x) s y m1)) → (w : Result Shape ErrorKind × Meter) → walk_on r (λ o y. fold_children (unless_stopped (walk_within d n (d.next y))) (record r { levels = n }) o (added d parent r o y, None)) (h x) w
          ≡ kept (through h) (walk_on r (λ o y. fold_children (unless_stopped (walk_within c n (c.next y))) (record r { levels = n }) o (added c parent r o y, None)) x w)
      go below (Ok o, m') =
          ap₂ (λ i y. fold_children (unless_stopped (walk_within d n i)) (record r { levels = n }) o (y, None) m') (maps.nexts x) (added_mapped parent r o x)
          ∙ children_kept (through h) (unless_stopped (walk_within c n (c.next x))) (unless_stopped (walk_within d n (c.next x)))
          (unless_mapped h (walk_within c n (c.next x)) (walk_within d n (c.next x)) below) (record r { levels = n }) o (added c parent r o x, None) m'
      go below (Err k, m') = refl
