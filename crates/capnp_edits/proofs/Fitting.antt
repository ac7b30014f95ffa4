-- Edits whose words fit in the first segment.
use Rattle.std.proofs.Common.{◌≡◌, ◌⊎◌, inl, inr, ℕ, ◌+◌, ◌<◌, ◌≤◌, true, [], ◌∷◌, length, Option, Some, None, IfSome, refl, sym, ap, ◌∙◌, subst, arith, map, All, List}
use Rattle.std.proofs.lemmas.Bool.{cases_eq}
use Rattle.std.specs.List.{sum_by}
use Rattle.std.proofs.lemmas.List.Sums.{sum_by-cons}
use Rattle.std.proofs.lemmas.List.Elements.{All-cons, All-head, All-nil, All-tail}
use Rattle.capnp_words.specs.declared.error.ErrorKind.{ErrorKind}
use Rattle.capnp_words.specs.declared.error.ErrorKind.TheVariants.{AllocationFailed, MessageTooLarge, NoSuchPlace}
use Rattle.capnp_arena_traits.specs.View.{View}
use Rattle.capnp_format.specs.Canonical.{word_count}
use Rattle.capnp_format.specs.Forest.{IsForest, cover}
use Rattle.capnp_format.specs.Segments.{Segments, segment}
use Rattle.capnp_format.specs.Tree.{Tree}
use Rattle.capnp_allocation.specs.Memory.{KeepsMemory, TakesWords}
use Rattle.capnp_format.specs.Path.{word_interval}
use Rattle.capnp_allocation.specs.Stored.{IsStored}
use Rattle.capnp_allocation.proofs.Extents.{once_held, times-first}
use Rattle.capnp_allocation.proofs.Replaced.{forest_stored, stored_within}
use Rattle.capnp_in_place.specs.Anew.{OnlyWrites}
use Rattle.capnp_words.specs.Names.{is_allocation_name}
use Rattle.capnp_pointers.specs.declared.pointers.PointerPlace.{PointerPlace}
use Rattle.capnp_edits.specs.declared.edit.Edit.{Edit}
use Rattle.capnp_edits.specs.declared.edit.path.PathEnd.{PathEnd}
use Rattle.capnp_edits.specs.declared.edit.path.PathEnd.TheVariants.{Pointer as AtPointer, Element as AtElement}
use Rattle.capnp_edits.specs.declared.edit.tasks.NewObject.{NewObject}
use Rattle.capnp_edits.specs.declared.edit.tasks.Task.{Task}
use Rattle.capnp_edits.specs.declared.edit.tasks.Task.TheVariants.{Make, Point, InStruct, Write, Search, CopyRoot}
use Rattle.capnp_edits.specs.declared.edit.tasks.StructChange.TheVariants.{Bits, Content}
use Rattle.capnp_edits.specs.Edits.{InTurn, is_of_path, value_of}
use Rattle.capnp_edits.specs.Fitting.{words_asked, AsksNoMore, AreInFirst, IsNoneOfMemory}
use Rattle.capnp_edits.specs.Paths.{IsPathFound, step_of}
use Rattle.capnp_edits.specs.Steps.{FitsAt, IsStep, EndsAt}
use Rattle.capnp_edits.specs.Tasks.{task_of}
use Rattle.capnp_in_place.specs.declared.existing.ExistingStruct.{ExistingStruct}
use Rattle.capnp_edits.specs.declared.edit.tasks.Part.{Part}
use Rattle.capnp_edits.proofs.Applied.{of_memory}
use Rattle.capnp_edits.proofs.Steps.{same_some}
use Rattle.capnp_edits.proofs.Taken.{EndsPlainly, bits_ended}

-- What edits leave in the first segment if they request n words in all: no more are allocated, all
-- words are there, it has as much room as before, and the allocator has refused nothing.
record StaysInFirst (old new : View) (n : ℕ) : Type 0 where
  words : length (segment new.words 0) ≤ length (segment old.words 0) + n
  first : AreInFirst new.words
  room : new.room 0 ≡ old.room 0
  refusals : new.refusals ≡ old.refusals

-- a place that stores a value is in the first segment
held_first : (S : Segments) (u q : ℕ) (x : Tree) → AreInFirst S → IsStored S u q x → u ≡ 0
held_first S u q x first stored = elim (cases_eq u 0) [
  | inl e ↦ e
  | inr other ↦ absurd (omega (arith, first u other, stored.inside u q (omega (arith, times-first (word_interval u q) (cover S u q x) u q, once_held u q))))
]

-- an error of memory isn't an error of a path
not_of_path : (k : ErrorKind) → is_allocation_name k ≡ true → is_of_path k ≡ true → ⊥
not_of_path AllocationFailed h e = absurd (cc)
not_of_path (MessageTooLarge n) h e = absurd (cc)
not_of_path k h e = absurd (cc)

-- nothing is changed
same_first : (old new : View) (n : ℕ) → AreInFirst old.words → new ≡ old → StaysInFirst old new n
same_first old new n first same = subst (λ (v : View). StaysInFirst old v n) (sym same) (record { words = omega arith; first = first; room = refl; refusals = refl })

-- no words are allocated
kept_first : (old new : View) (n : ℕ) → AreInFirst old.words → OnlyWrites old new → StaysInFirst old new n
kept_first old new n first x = record {
  words = omega (arith, x.words 0);
  first = λ k other. x.words k ∙ first k other;
  room = ap (λ (v : View). v.room 0) x.limits;
  refusals = ap (λ (v : View). v.refusals) x.limits;
}

-- then only words are written
then_kept : (old mid new : View) (n : ℕ) → StaysInFirst old mid n → OnlyWrites mid new → StaysInFirst old new n
then_kept old mid new n x only = record {
  words = omega (arith, only.words 0, x.words);
  first = λ k other. only.words k ∙ x.first k other;
  room = ap (λ (v : View). v.room 0) only.limits ∙ x.room;
  refusals = ap (λ (v : View). v.refusals) only.limits ∙ x.refusals;
}

-- the words of an object are allocated
made_first : (old new : View) (place : PointerPlace) (n : ℕ) → 0 < length old.words → AreInFirst old.words → place.segment ≡ 0 → length (segment old.words 0) + n ≤ old.room 0 → TakesWords old new place.segment n → KeepsMemory old new → StaysInFirst old new n
made_first old new place n there first here fits takes keeps =
    let near = takes.near (subst (λ s. length (segment old.words s) + n ≤ old.room s) (sym here) fits) in
    let gained = subst (λ s. length (segment new.words s) ≡ length (segment old.words s) + n) here near.gained in
    record {
      words = omega (arith, gained);
      first = λ k other. near.others k (λ e. other (e ∙ here)) ∙ first k other;
      room = keeps.1 0 there;
      refusals = ap (λ (v : View). v.refusals) keeps.0;
    }

-- What is known of an edit at its place.
record Fact (old new : View) (there : PathEnd) (task : Task) (r : Option ErrorKind) : Type 0 where
  fits : FitsAt old task there → (k : ErrorKind) → r ≡ Some k → is_of_path k ≡ true
  nowhere : r ≡ Some NoSuchPlace → new ≡ old
  ends : (r ≡ Some NoSuchPlace → ⊥) → EndsAt old new task r there

-- an error is NoSuchPlace, or it isn't
is_missing : (k : ErrorKind) → (k ≡ NoSuchPlace) ⊎ (k ≡ NoSuchPlace → ⊥)
is_missing NoSuchPlace = inl refl
is_missing k = inr (λ e. cc)

another : (k : ErrorKind) → (k ≡ NoSuchPlace → ⊥) → Some k ≡ Some NoSuchPlace → ⊥
another k other e = other (same_some k NoSuchPlace e)

-- a task that takes no words leaves all words in the first segment
without_words : (old new : View) (n : ℕ) (r : Option ErrorKind) → AreInFirst old.words → IsNoneOfMemory r → (r ≡ Some NoSuchPlace → new ≡ old) → ((r ≡ Some NoSuchPlace → ⊥) → EndsPlainly old new r) → IsNoneOfMemory r × StaysInFirst old new n
without_words old new n None first none nowhere ends = (none, kept_first old new n first (ends (λ e. cc)))
without_words old new n (Some k) first none nowhere ends = (none, same_first old new n first (elim (is_missing k) [ inl is ↦ nowhere (ap Some is) | inr other ↦ (ends (another k other)).1 ]))

with_object : (old new : View) (place : PointerPlace) (object : NewObject) (r : Option ErrorKind) → 0 < length old.words → AreInFirst old.words → place.segment ≡ 0 → length (segment old.words 0) + word_count (value_of object) ≤ old.room 0 → Fact old new (AtPointer place) (Make object) r →
    IsNoneOfMemory r × StaysInFirst old new (word_count (value_of object))
with_object old new place object None there first here fits f =
    let (made, leads) = f.ends (λ e. cc) in
    let n : ℕ = word_count (value_of object) in
    let begun : StaysInFirst old made.begun n = made_first old made.begun place n there first here fits made.object made.kept in
    (f.fits (inl (subst (λ s. length (segment old.words s) + n ≤ old.room s) (sym here) fits)), then_kept old made.begun new n begun made.pads)
with_object old new place object (Some k) there first here fits f =
    let n : ℕ = word_count (value_of object) in
    let none : IsNoneOfMemory (Some k) = f.fits (inl (subst (λ s. length (segment old.words s) + n ≤ old.room s) (sym here) fits)) in (
      none,
      same_first old new n first (elim (is_missing k) [
        | inl is ↦ f.nowhere (ap Some is)
        | inr other ↦ (let (why, same, only) = f.ends (another k other) in absurd (not_of_path k (of_memory old new n k (why, same)) (none k refl)))
      ]),
    )

-- such tasks
made_plainly : (old new : View) (object : NewObject) (r : Option ErrorKind) (e : ExistingStruct) → EndsAt old new (Make object) r (AtElement e) → EndsPlainly old new r
made_plainly old new object None e h = h
made_plainly old new object (Some k) e h = h

pointed_plainly : (old new : View) (i : Option ℕ) (r : Option ErrorKind) (there : PathEnd) → EndsAt old new (Point i) r there → EndsPlainly old new r
pointed_plainly old new i None there h = h
pointed_plainly old new i (Some k) there h = h

part_plainly : (old new : View) (part : Part) (r : Option ErrorKind) (there : PathEnd) → EndsAt old new (Write part) r there → EndsPlainly old new r
part_plainly old new part None there h = h
part_plainly old new part (Some k) there h = h

at_place : (old new : View) (there : PathEnd) (task : Task) (r : Option ErrorKind) → 0 < length old.words → AreInFirst old.words → ((place : PointerPlace) → there ≡ AtPointer place → place.segment ≡ 0) → AsksNoMore (Some task) →
    length (segment old.words 0) + words_asked (Some task) ≤ old.room 0 → Fact old new there task r → IsNoneOfMemory r × StaysInFirst old new (words_asked (Some task))
at_place old new (AtPointer place) (Make object) r there first here asks fits f = with_object old new place object r there first (here place refl) fits f
at_place old new (AtElement e) (Make object) r there first here asks fits f = without_words old new _ r first (f.fits tt) f.nowhere (λ some. made_plainly old new object r e (f.ends some))
at_place old new (AtPointer place) (Point i) r there first here asks fits f = without_words old new _ r first (f.fits tt) f.nowhere (λ some. pointed_plainly old new i r (AtPointer place) (f.ends some))
at_place old new (AtElement e) (Point i) r there first here asks fits f = without_words old new _ r first (f.fits tt) f.nowhere (λ some. pointed_plainly old new i r (AtElement e) (f.ends some))
at_place old new (AtPointer place) (Write part) r there first here asks fits f = without_words old new _ r first (f.fits tt) f.nowhere (λ some. part_plainly old new part r (AtPointer place) (f.ends some))
at_place old new (AtElement e) (Write part) r there first here asks fits f = without_words old new _ r first (f.fits tt) f.nowhere (λ some. part_plainly old new part r (AtElement e) (f.ends some))
at_place old new (AtPointer place) (InStruct (Bits n)) r there first here asks fits f = without_words old new _ r first (f.fits tt) f.nowhere (λ some. bits_ended old new n r (AtPointer place) (f.ends some))
at_place old new (AtElement e) (InStruct (Bits n)) r there first here asks fits f = without_words old new _ r first (f.fits tt) f.nowhere (λ some. bits_ended old new n r (AtElement e) (f.ends some))
at_place old new there (InStruct (Content source)) r some first here asks fits f = absurd asks
at_place old new there (Search sought default) r some first here asks fits f = absurd asks
at_place old new there (CopyRoot c) r some first here asks fits f = absurd asks

-- an edit without a place or a task
nowhere_first : (old new : View) (edit : Edit) (r : Option ErrorKind) (n : ℕ) → AreInFirst old.words → IsStep edit r old new → r ≡ Some NoSuchPlace → IsNoneOfMemory r × StaysInFirst old new n
nowhere_first old new edit r n first s e = (subst IsNoneOfMemory (sym e) (λ k is. ap is_of_path (same_name k is)), same_first old new n first (s.nowhere e))
  where
    same_name : (k : ErrorKind) → Some NoSuchPlace ≡ Some k → k ≡ NoSuchPlace
    same_name k is = cc

-- one edit
one_fits : (old new : View) (edit : Edit) (r : Option ErrorKind) (t : Tree) → IsForest old.words t → AreInFirst old.words → AsksNoMore (task_of edit.op) → length (segment old.words 0) + words_asked (task_of edit.op) ≤ old.room 0 → IsStep edit r old new →
    IsNoneOfMemory r × StaysInFirst old new (words_asked (task_of edit.op))
one_fits old new edit r t forest first asks fits s = by_task s.path_end (task_of edit.op) refl refl asks fits
  where
    by_task : (o : Option PathEnd) (w : Option Task) → s.path_end ≡ o → task_of edit.op ≡ w → AsksNoMore w → length (segment old.words 0) + words_asked w ≤ old.room 0 → IsNoneOfMemory r × StaysInFirst old new (words_asked w)
    by_task None w none is asks fits = nowhere_first old new edit r (words_asked w) first s (s.missing none)
    by_task (Some there) None found is asks fits = nowhere_first old new edit r 0 first s (s.out_of_range is)
    by_task (Some there) (Some task) found is asks fits =
        let stored = forest_stored old.words t forest in
        let root : 0 < length (segment old.words 0) = omega (arith, stored.inside 0 0 (omega (arith, times-first (word_interval 0 0) (cover old.words 0 0 t) 0 0, once_held 0 0))) in
        let leads : IsPathFound old.words (record { segment = 0; word = 0 }) t (map step_of edit.path.now) (Some there) = subst (IsPathFound old.words (record { segment = 0; word = 0 }) t (map step_of edit.path.now)) found (s.leads t stored) in
        at_place old new there task r (some_segment old.words root) first (λ place e. place_first place (subst (λ x. IsPathFound old.words (record { segment = 0; word = 0 }) t (map step_of edit.path.now) (Some x)) e leads)) asks fits (record {
          fits = λ room. s.fits (subst (λ x. IfSome x (λ y. IfSome (task_of edit.op) (λ z. FitsAt old z y))) (sym found) (subst (λ x. IfSome x (λ z. FitsAt old z there)) (sym is) room));
          nowhere = s.nowhere;
          ends = λ some. subst (λ x. IfSome x (λ z. EndsAt old new z r there)) is (subst (λ x. IfSome x (λ y. IfSome (task_of edit.op) (λ z. EndsAt old new z r y))) found (s.ends some));
        })
      where
        some_segment : (S : Segments) → 0 < length (segment S 0) → 0 < length S
        some_segment [] h = absurd (omega (arith, h))
        some_segment (x ∷ S) h = omega arith

        place_first : (place : PointerPlace) → IsPathFound old.words (record { segment = 0; word = 0 }) t (map step_of edit.path.now) (Some (AtPointer place)) → place.segment ≡ 0
        place_first place f =
            held_first old.words place.segment place.word f.0 first (stored_within old.words 0 0 t (map step_of edit.path.now) place.segment place.word f.0 f.1 (forest_stored old.words t forest))

-- several edits
abbrev all_asked : List Edit → ℕ
all_asked edits = sum_by (λ e. words_asked (task_of e.op)) edits

edits_fit : (old new : View) (edits : List Edit) (rs : List (Option ErrorKind)) (t : Tree) → IsForest old.words t → AreInFirst old.words → All (λ e. AsksNoMore (task_of e.op)) edits →
    length (segment old.words 0) + all_asked edits ≤ old.room 0 → InTurn IsStep edits rs old new → All IsNoneOfMemory rs × StaysInFirst old new (all_asked edits)
edits_fit old new [] [] t forest first asks fits same = (All-nil IsNoneOfMemory, same_first old new 0 first same)
edits_fit old new [] (r ∷ rs) t forest first asks fits none = absurd none
edits_fit old new (e ∷ es) [] t forest first asks fits none = absurd none
edits_fit old new (e ∷ es) (r ∷ rs) t forest first asks fits (mid, s, steps) =
    let total : all_asked (e ∷ es) ≡ words_asked (task_of e.op) + all_asked es = sum_by-cons (λ (d : Edit). words_asked (task_of d.op)) e es in
    let (none, one) = one_fits old mid e r t forest first (All-head (λ (d : Edit). AsksNoMore (task_of d.op)) e es asks) (omega (arith, fits, total)) s in
    let (u, then, takes) = s.applied t forest in
    let (others, all) = edits_fit mid new es rs u then one.first (All-tail (λ (d : Edit). AsksNoMore (task_of d.op)) e es asks) (omega (arith, fits, one.words, one.room, total)) steps in (
      All-cons IsNoneOfMemory r rs none others,
      record { words = omega (arith, one.words, all.words, total); first = all.first; room = all.room ∙ one.room; refusals = all.refusals ∙ one.refusals },
    )

pub fitting_edits : (old new : View) (edits : List Edit) (rs : List (Option ErrorKind)) (t : Tree) → IsForest old.words t → AreInFirst old.words → All (λ e. AsksNoMore (task_of e.op)) edits →
    length (segment old.words 0) + all_asked edits ≤ old.room 0 → InTurn IsStep edits rs old new →
    All IsNoneOfMemory rs × (length (segment new.words 0) ≤ length (segment old.words 0) + all_asked edits) × AreInFirst new.words × (new.room 0 ≡ old.room 0) × (new.refusals ≡ old.refusals)
fitting_edits old new edits rs t forest first asks fits steps = let (none, all) = edits_fit old new edits rs t forest first asks fits steps in (none, all.words, all.first, all.room, all.refusals)
