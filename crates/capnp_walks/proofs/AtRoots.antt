-- The walk of a message is that of what its root leads to.
use Rattle.std.proofs.Common.{◌≡◌, inl, inr, ℕ, ◌+◌, ◌-◌, ◌^◌, ◌≤◌, arith, true, Option, None, Some, Result, Ok, Err, List, [], length, map, refl, sym, ap, ◌∙◌, subst}
use Rattle.capnp_words.specs.declared.error.ErrorKind.{ErrorKind}
use Rattle.capnp_words.specs.Meter.{FitsIn, Meter, less, unused}
use Rattle.capnp_format.specs.Segments.{Segments}
use Rattle.capnp_arena.specs.declared.arena.reader_arena_impl.ReaderOptions.{ReaderOptions}
use Rattle.capnp_pointers.specs.Reading.{Reading}
use Rattle.capnp_pointers.specs.Source.{levels}
use Rattle.capnp_pointers.specs.Spending.{after_charge, pointers_in}
use Rattle.capnp_pointers.specs.Wanted.{plain}
use Rattle.capnp_pointers.proofs.WholeValue.ValueAsStated.{reads_is}
use Rattle.capnp_pointers.specs.Extents.{capped}
use Rattle.capnp_messages.specs.Messages.{IsReadable, left_of, root_within}
use Rattle.capnp_messages.specs.Roots.{CoversRoot, RefusesRoot}
use Rattle.capnp_messages.specs.declared.messages.command.Command.TheVariants.{Validate}
use Rattle.capnp_messages.proofs.CanonLemmas.{covers_rest}
use Rattle.capnp_messages.proofs.MessageLemmas.{AtRoot}
use Rattle.capnp_messages.proofs.SizeLemmas.{root_is, root_or_not, root_stops}
use Rattle.capnp_refusals.specs.RefusedPointers.{finding, refused_pointer}
use Rattle.capnp_refusals.specs.Search.{Finding, of_values, refused_at, search_on, search_place}
use Rattle.capnp_walks.specs.Figures.{figures, objects_of}
use Rattle.capnp_walks.specs.Listing.{into_array, into_list, no_parent}
use Rattle.capnp_walks.specs.Walks.{Walking, at_end, written_over, walk_message, walk_on, walk_place}
use Rattle.capnp_walks.specs.declared.walks.listing.WalkedObject.{WalkedObject}
use Rattle.capnp_walks.proofs.Bounded.{Within, walk_bounded}
use Rattle.capnp_walks.proofs.Arrays.{in_array, maps_in_array, none_written}
use Rattle.capnp_walks.proofs.Mapped.{answered, kept, through, walk_mapped}
use Rattle.capnp_walks.proofs.Stops.{stop, stops_as_search}
use Rattle.capnp_walks.proofs.Told.{objects_listed}

abbrev InArray : Type 0
InArray = Walking (List WalkedObject × ℕ)

abbrev Outcome : Type 0
Outcome = Result (Walking (List WalkedObject)) ErrorKind × Meter

-- A walk at the root, or at a root pointer that is refused.
at_root : (S : Segments) (limits : ReaderOptions) (o : Outcome) → CoversRoot S limits.traversal_limit_in_words → walk_place into_list no_parent (root_within S limits) [] (unused (left_of limits)) ≡ o → walk_message S limits ≡ at_end o.0
at_root S limits o covers e =
    ap (λ x. at_end (walk_on (root_within S limits) (walk_place into_list no_parent) [] x).0) (root_is S (levels limits.nesting_limit) limits.traversal_limit_in_words covers) ∙ ap (λ x. at_end x.0) e

at_pointer : (S : Segments) (limits : ReaderOptions) (k : ErrorKind) → RefusesRoot S limits.traversal_limit_in_words k → walk_message S limits ≡ ([], Some (refused_at (root_within S limits) k))
at_pointer S limits k refused =
    ap (λ x. at_end (walk_on (root_within S limits) (walk_place into_list no_parent) [] x).0) (root_stops S (levels limits.nesting_limit) limits.traversal_limit_in_words k refused)

-- A walk into an array leaves there what the walk of the message lists.
pub record Leaves (S : Segments) (limits : ReaderOptions) (old new : List WalkedObject) (n : ℕ) (found : Finding) : Type 0 where
  pub objects : new ≡ written_over (walk_message S limits).0 old
  pub count : n ≡ capped (length (walk_message S limits).0)
  pub refused : found ≡ (walk_message S limits).1

leaves_all : (S : Segments) (limits : ReaderOptions) (old new : List WalkedObject) (n : ℕ) (found : Finding) (m' : Meter) (o : Outcome) → kept (through (in_array old)) o ≡ (Ok ((new, n), found), m') → walk_message S limits ≡ at_end o.0 → Leaves S limits old new n found
leaves_all S limits old new n found m' (Ok (xs, s), m1) e is =
    let array : written_over xs old ≡ new = ap (λ (x : Result InArray ErrorKind × Meter). (answered {S = InArray} ((new, n), found) x.0).0.0) e in
    let counted : capped (length xs) ≡ n = ap (λ (x : Result InArray ErrorKind × Meter). (answered {S = InArray} ((new, n), found) x.0).0.1) e in
    let stops : s ≡ found = ap (λ (x : Result InArray ErrorKind × Meter). (answered {S = InArray} ((new, n), found) x.0).1) e in
    record {
      objects = sym array ∙ ap (λ w. written_over w.0 old) (sym is);
      count = sym counted ∙ ap (λ w. capped (length w.0)) (sym is);
      refused = sym stops ∙ ap (λ w. w.1) (sym is);
    }
leaves_all S limits old new n found m' (Err k, m1) e is = let results : ◌≡◌ {A = Result InArray ErrorKind} (Err k) (Ok ((new, n), found)) = ap (λ x. x.0) e in absurd (cc results)

pub walked_at_root : {S : Segments} {limits : ReaderOptions} {r : Reading} {m m' : Meter} (old new : List WalkedObject) (n : ℕ) (found : Finding) → length old ≤ 2 ^ 64 - 1 →
    AtRoot S limits r m → walk_place into_array no_parent r (old, 0) m ≡ (Ok ((new, n), found), m') → Leaves S limits old new n found
walked_at_root {S} {limits} {r} {m} {m'} old new n found small root e =
    let placed = subst (λ (x : Reading). walk_place into_array no_parent x (old, 0) m ≡ (Ok ((new, n), found), m')) root.place e in
    let read = subst (λ (x : Meter). walk_place into_array no_parent (root_within S limits) (old, 0) x ≡ (Ok ((new, n), found), m')) root.left placed in
    let mapped = walk_mapped (in_array old) (maps_in_array old small) (levels limits.nesting_limit) no_parent (root_within S limits) [] (unused (left_of limits)) in
    let begun = ap (λ ys. walk_place into_array no_parent (root_within S limits) (ys, 0) (unused (left_of limits))) (none_written old) in
    leaves_all S limits old new n found m' _ (sym mapped ∙ begun ∙ read) (at_root S limits _ root.covers refl)

pub walked_without_root : (limits : ReaderOptions) {S T : Segments} {before : Meter} {k : ErrorKind} (old : List WalkedObject) →
    T ≡ S → before ≡ unused limits.traversal_limit_in_words → RefusesRoot T before.left k → Leaves S limits old old 0 (Some (refused_at (root_within S limits) k))
walked_without_root limits {S} {T} {before} {k} old same begun refused =
    let there = subst (λ (X : Segments). RefusesRoot X before.left k) same refused in
    let here : RefusesRoot S limits.traversal_limit_in_words k = subst (λ (x : Meter). RefusesRoot S x.left k) begun there in
    let is = at_pointer S limits k here in
    record {
      objects = sym (none_written old) ∙ ap (λ w. written_over w.0 old) (sym is);
      count = ap (λ w. capped (length w.0)) (sym is);
      refused = ap (λ w. w.1) (sym is);
    }

-- The walk of a message stops where its validation does.
pub stops_as_validation : (S : Segments) (limits : ReaderOptions) → (walk_message S limits).1 ≡ refused_pointer Validate S limits
stops_as_validation S limits = elim (root_or_not S limits.traversal_limit_in_words) [
  | inr (k, refused) ↦
      ap (λ w. w.1) (at_pointer S limits k refused)
      ∙ sym (ap (λ o. finding (search_on (root_within S limits) (search_place (of_values true)) o).0) (root_stops S (levels limits.nesting_limit) limits.traversal_limit_in_words k refused))
  | inl covers ↦
      ap (λ w. w.1) (at_root S limits _ covers refl)
      ∙ ended (walk_place into_list no_parent (root_within S limits) [] (unused (left_of limits)))
      ∙ sym (ap (λ o. finding o.0) (stops_as_search into_list (levels limits.nesting_limit) no_parent (root_within S limits) [] (unused (left_of limits))))
      ∙ sym (ap (λ o. finding (search_on (root_within S limits) (search_place (of_values true)) o).0) (root_is S (levels limits.nesting_limit) limits.traversal_limit_in_words covers))
]
  where
    ended : (o : Outcome) → (at_end o.0).1 ≡ finding (kept stop o).0
    ended (Ok x, m) = refl
    ended (Err k, m) = refl

-- If the message is readable, the walk lists all objects of its value.
pub lists_value : (S : Segments) (limits : ReaderOptions) (readable : IsReadable S limits) → (map figures (walk_message S limits).0 ≡ objects_of readable.value) × ((walk_message S limits).1 ≡ None)
lists_value S limits readable =
    let e = reads_is plain (root_within S limits) (unused (left_of limits)) (after_charge true (unused (left_of limits)) readable.cost (pointers_in readable.value)) readable.value (record { cost = readable.cost; means = readable.means; takes = λ e. absurd (e refl); covers = covers_rest limits.traversal_limit_in_words readable.cost readable.covered; spent = refl }) in
    let listed = objects_listed no_parent (root_within S limits) (unused (left_of limits)) (after_charge true (unused (left_of limits)) readable.cost (pointers_in readable.value)) readable.value e in
    let is = at_root S limits _ readable.root listed.is in
    (ap (λ w. map figures w.0) is ∙ listed.told, ap (λ w. w.1) is)

-- A walk with a limit of x words lists at most x objects.
pub few_objects : (S : Segments) (limits : ReaderOptions) (x : ℕ) → limits.traversal_limit_in_words ≡ Some x → length (walk_message S limits).0 ≤ x
few_objects S limits x e = elim (root_or_not S limits.traversal_limit_in_words) [
  | inr (k, refused) ↦ (let none : length (walk_message S limits).0 ≡ 0 = ap (λ w. length w.0) (at_pointer S limits k refused) in omega (arith, none))
  | inl covers ↦
      let some : FitsIn (Some x) 1 = subst (λ (o : Option ℕ). FitsIn o 1) e covers.covered in
      let left : left_of limits ≡ Some (x - 1) = ap (λ (o : Option ℕ). less o 1) e in
      let few = bounded (walk_place into_list no_parent (root_within S limits) [] (unused (left_of limits))) (walk_bounded (levels limits.nesting_limit) no_parent (root_within S limits) [] (unused (left_of limits)) (x - 1) refl refl left) in
      let is = ap (λ w. length w.0) (at_root S limits _ covers refl) in
      omega (arith, few, is, some)
]
  where
    bounded : (o : Outcome) → Within (0 + (x - 1) + 1) o → length (at_end o.0).0 ≤ x - 1 + 1
    bounded (Ok (xs, s), m) (left, is, few) = omega (arith, few)
    bounded (Err k, m) w = omega arith
