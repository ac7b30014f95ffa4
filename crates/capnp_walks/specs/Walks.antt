-- The walk that lists the objects of a message: a function of the place and the limiter. It reads
-- the objects in the order of their pointers, like the function that reads the value, and ends at a
-- pointer whose object is refused.
use Rattle.std.specs.Prelude.{ℕ, zero, suc, List, [], ◌++◌, Some, None, Result, Ok, Err, length, take, drop}
use Rattle.capnp_words.specs.declared.error.ErrorKind.{ErrorKind}
use Rattle.capnp_words.specs.Meter.{Meter, unused}
use Rattle.capnp_format.specs.Segments.{Segments}
use Rattle.capnp_arena.specs.declared.arena.reader_arena_impl.ReaderOptions.{ReaderOptions}
use Rattle.capnp_pointers.specs.declared.object.Purpose.TheVariants.{Value}
use Rattle.capnp_pointers.specs.Enter.{Shape, read}
use Rattle.capnp_pointers.specs.Metered.{Metered, answer}
use Rattle.capnp_pointers.specs.Reading.{Reading}
use Rattle.capnp_pointers.specs.Source.{levels}
use Rattle.capnp_pointers.specs.Measure.{fold_children, fold_elements, fold_pointers}
use Rattle.capnp_messages.specs.Roots.{message_root, read_message_root}
use Rattle.capnp_refusals.specs.Search.{Finding, refused_at}
use Rattle.capnp_walks.specs.Listing.{Collector, into_list, no_parent, noted}
use Rattle.capnp_walks.specs.declared.walks.listing.WalkedObject.{WalkedObject}

-- What a walk has collected, and the pointer at which it has stopped; None if it goes on.
abbrev pub Walking : Type 0 → Type 0
Walking X = X × Finding

-- f of what was read at the place r. If that is refused, the walk stops at the pointer at r.
abbrev pub walk_on :
    {A X : Type 0} → Reading → (A → X → Metered (Walking X)) → X → Result A ErrorKind × Meter →
    Result (Walking X) ErrorKind × Meter
walk_on r f x (Ok o, m) = f o x m
walk_on r f x (Err k, m) = (Ok (x, Some (refused_at r k)), m)

-- The walk f of a place, unless it was stopped before.
abbrev pub unless_stopped :
    {X : Type 0} → (Reading → X → Metered (Walking X)) → Reading → Walking X → Metered (Walking X)
unless_stopped f r (x, None) = f r x
unless_stopped f r (x, Some p) = answer (x, Some p)

-- Adds the object of this shape, whose pointer is at r, to x.
abbrev pub added : {X : Type 0} → Collector X → ℕ → Reading → Shape → X → X
added c parent r o x = noted c parent r.segment r.at o x

-- Adds the objects of the value at r to x, each before those that its pointers lead to. The pointer
-- at r is in the object with the index `parent`. The value is read with n levels; without a level,
-- it is null or a capability.
unfoldable pub walk_within :
    {X : Type 0} → Collector X → ℕ → ℕ → Reading → X → Metered (Walking X)
walk_within c zero parent r x m =
    walk_on r (λ o y. answer (added c parent r o y, None)) x
    (read Value (record r { levels = zero }) m)
walk_within c (suc n) parent r x m =
    walk_on r
    (λ o y. fold_children (unless_stopped (walk_within c n (c.next y))) (record r { levels = n }) o
    (added c parent r o y, None))
    x (read Value (record r { levels = suc n }) m)

-- The same with the levels of r; then for i consecutive pointers from r on, and for the pointers of
-- n consecutive elements of d data words and q pointers.
abbrev pub walk_place : {X : Type 0} → Collector X → ℕ → Reading → X → Metered (Walking X)
walk_place c parent r x = walk_within c r.levels parent r x

abbrev pub walk_pointers : {X : Type 0} → Collector X → ℕ → ℕ → Reading → X → Metered (Walking X)
walk_pointers c parent i r x =
    fold_pointers (unless_stopped (walk_within c r.levels parent)) i r (x, None)

abbrev pub walk_elements :
    {X : Type 0} → Collector X → ℕ → (d q n : ℕ) → Reading → X → Metered (Walking X)
walk_elements c parent d q n r x =
    fold_elements (unless_stopped (walk_within c r.levels parent)) d q n r (x, None)

-- Lists the objects of S within n levels: reads the root pointer, and then walks what it leads to.
abbrev pub walk_root : Segments → ℕ → Metered (Walking (List WalkedObject))
walk_root S n m =
    walk_on (message_root S n) (walk_place into_list no_parent) [] (read_message_root S n m)

-- What a walk has collected at its end. It is never refused.
abbrev pub at_end : Result (Walking (List WalkedObject)) ErrorKind → Walking (List WalkedObject)
at_end (Ok x) = x
at_end (Err k) = ([], None)

-- The objects of S within the limits, in the order of their pointers, each before those that its
-- own pointers lead to; and the pointer at which the walk stops, None if S is read to its end.
abbrev pub walk_message : Segments → ReaderOptions → Walking (List WalkedObject)
walk_message S limits =
    at_end (walk_root S (levels limits.nesting_limit) (unused limits.traversal_limit_in_words)).0

-- The array ys whose first entries are replaced by xs; those that have no room are left out.
abbrev pub written_over : {X : Type 0} → (xs ys : List X) → List X
written_over xs ys = take (length ys) xs ++ drop (length xs) ys
