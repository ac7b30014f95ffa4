-- A walk stops at the pointer that a search finds.
use Rattle.std.proofs.Common.{◌≡◌, ℕ, zero, suc, true, None, Some, Result, Ok, Err, refl}
use Rattle.capnp_words.specs.declared.error.ErrorKind.{ErrorKind}
use Rattle.capnp_words.specs.Meter.{Meter}
use Rattle.capnp_pointers.specs.declared.object.Purpose.TheVariants.{Value}
use Rattle.capnp_pointers.specs.Enter.{Shape, read}
use Rattle.capnp_pointers.specs.Metered.{Metered, answer, onward, outcome, ◌>>>◌}
use Rattle.capnp_pointers.specs.Reading.{Reading}
use Rattle.capnp_pointers.specs.Measure.{fold_children}
use Rattle.capnp_refusals.specs.Search.{Finding, of_values, permitted, search_on, search_within, unless_found}
use Rattle.capnp_walks.specs.Listing.{Collector}
use Rattle.capnp_walks.specs.Walks.{Walking, added, unless_stopped, walk_on, walk_within}
use Rattle.capnp_walks.proofs.Mapped.{children_kept, kept}

-- Where a walk has stopped.
abbrev pub stop : {X : Type 0} → Walking X → Finding
stop s = s.1

unless_same : {X : Type 0} (f : Reading → X → Metered (Walking X)) (g : Reading → Metered Finding) → ((r : Reading) (x : X) (m : Meter) → g r m ≡ kept stop (f r x m)) →
    (r : Reading) (s : Walking X) (m : Meter) → unless_found g r (stop s) m ≡ kept stop (unless_stopped f r s m)
unless_same f g same r (x, None) m = same r x m
unless_same f g same r (x, Some p) m = refl

pub stops_as_search : {X : Type 0} (c : Collector X) (n parent : ℕ) (r : Reading) (x : X) (m : Meter) → search_within (of_values true) n r m ≡ kept stop (walk_within c n parent r x m)
unfolding walk_within search_within
stops_as_search c zero parent r x m = go (read Value (record r { levels = zero }) m)
  where
    go : (w : Result Shape ErrorKind × Meter) → search_on r (λ o. answer None) (onward (λ o. outcome (permitted true o) >>> λ _. answer o) w) ≡ kept stop (walk_on r (λ o y. answer (added c parent r o y, None)) x w)
    go (Ok o, m') = refl
    go (Err k, m') = refl
stops_as_search {X} c (suc n) parent r x m = go (stops_as_search c n (c.next x)) (read Value (record r { levels = suc n }) m)
  where
    go : ((s : Reading) (y : X) (m1 : Meter) → search_within (of_values true) n s m1 ≡ kept stop (walk_within c n (c.next x) s y m1)) → (w : Result Shape ErrorKind × Meter) → search_on r (λ o. fold_children (unless_found (search_within (of_values true) n)) (record r { levels = n }) o None) (onward (λ o. outcome (permitted true o) >>> λ _. answer o) w)
        ≡ kept stop (walk_on r (λ o y. fold_children (unless_stopped (walk_within c n (c.next y))) (record r { levels = n }) o (added c parent r o y, None)) x w)
    go below (Ok o, m') =
        children_kept stop (unless_stopped (walk_within c n (c.next x))) (unless_found (search_within (of_values true) n))
        (unless_same (walk_within c n (c.next x)) (search_within (of_values true) n) below) (record r { levels = n }) o (added c parent r o x, None) m'
    go below (Err k, m') = refl
