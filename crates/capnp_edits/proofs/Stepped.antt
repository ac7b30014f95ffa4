-- Steps: one edit at its place, and edits one after another.
use Rattle.std.proofs.Common.{◌≡◌, ℕ, ◌+◌, ◌*◌, ◌≤◌, true, List, [], ◌∷◌, length, Option, Some, None, IfSome, refl, sym, ap, ap₂, ◌∙◌, subst, arith, map}
use Rattle.std.proofs.lemmas.List.{append-nil}
use Rattle.capnp_words.specs.declared.error.ErrorKind.{ErrorKind}
use Rattle.capnp_words.specs.declared.error.ErrorKind.TheVariants.{NoSuchPlace}
use Rattle.capnp_arena_traits.specs.View.{View}
use Rattle.capnp_format.specs.Forest.{IsForest, target, cover}
use Rattle.capnp_format.specs.Segments.{Segments, segment}
use Rattle.capnp_format.specs.Tree.{Tree, Struct, Pointers, Structs, element_count}
use Rattle.capnp_allocation.proofs.Extents.{once_held, times-first}
use Rattle.capnp_allocation.proofs.Paths.{same_node}
use Rattle.capnp_allocation.proofs.Replaced.{forest_stored}
use Rattle.capnp_format.specs.Path.{Step, Child, Element, tree_at, struct_at, next, node, PathLeads, word_interval}
use Rattle.capnp_allocation.specs.Stored.{IsStored}
use Rattle.capnp_edits.specs.declared.edit.Edit.{Edit}
use Rattle.capnp_edits.specs.declared.edit.tasks.Task.{Task}
use Rattle.capnp_edits.specs.declared.edit.path.PathEnd.{PathEnd}
use Rattle.capnp_edits.specs.declared.edit.path.PathEnd.TheVariants.{Pointer as AtPointer, Element as AtElement}
use Rattle.capnp_edits.specs.Edits.{is_of_path, IsApplied, refusals_after, EditTakes}
use Rattle.capnp_edits.specs.Paths.{PointerTo, ElementOf, found, IsPathFound, step_of}
use Rattle.capnp_edits.specs.Steps.{DoesThere, FitsAt, EndsAt, IsStep}
use Rattle.capnp_edits.specs.Tasks.{task_of}
use Rattle.capnp_edits.proofs.Applied.{no_forest}
use Rattle.capnp_edits.proofs.Steps.{first, same_some}
use Rattle.capnp_edits.proofs.Walks.{found-append, leads_value, list_end}

-- an edit at its place
pub step_at : (old new : View) (edit : Edit) (there : PathEnd) (task : Task) (r : Option ErrorKind) → task_of edit.op ≡ Some task → 1 ≤ length (segment old.words 0) → IsApplied (EditTakes edit r) old.words new.words → new.refusals ≡ refusals_after r old.refusals →
    ((t : Tree) → IsStored old.words 0 0 t → IsPathFound old.words (record { segment = 0; word = 0 }) t (map step_of edit.path.now) (Some there)) →
    (FitsAt old task there → (k : ErrorKind) → r ≡ Some k → is_of_path k ≡ true) → (r ≡ Some NoSuchPlace → new ≡ old) → ((r ≡ Some NoSuchPlace → ⊥) → EndsAt old new task r there) → DoesThere old new there task r → IsStep edit r old new
step_at old new edit there task r is root applied counted leads fits nowhere ends done = record {
  applied = applied;
  counted = counted;
  path_end = Some there;
  done = subst (λ o. IfSome o (λ x. DoesThere old new there x r)) (sym is) done;
  leads = leads;
  missing = λ e. absurd (cc);
  out_of_range = λ e. absurd (no_task task (sym is ∙ e));
  rootless = λ e. absurd (omega (arith, root, e));
  nowhere = nowhere;
  fits = λ room. fits (subst (λ o. IfSome o (λ x. FitsAt old x there)) is room);
  ends = λ some. subst (λ o. IfSome o (λ x. EndsAt old new x r there)) (sym is) (ends some);
}
  where
    no_task : (task : Task) → Some task ≡ None → ⊥
    no_task task e = cc

-- an edit without a place
of_missing : (k : ErrorKind) → Some NoSuchPlace ≡ Some k → is_of_path k ≡ true
of_missing k e = sym (ap is_of_path (same_some NoSuchPlace k e))

pub nothing_done : (v : View) (edit : Edit) (place : Option PathEnd) → IsApplied (EditTakes edit (Some NoSuchPlace)) v.words v.words → ((t : Tree) → IsStored v.words 0 0 t → IsPathFound v.words (record { segment = 0; word = 0 }) t (map step_of edit.path.now) place) →
    IfSome place (λ there. IfSome (task_of edit.op) (λ task. DoesThere v v there task (Some NoSuchPlace))) → IsStep edit (Some NoSuchPlace) v v
nothing_done v edit place applied leads done = record {
  applied = applied;
  counted = refl;
  path_end = place;
  done = done;
  leads = leads;
  missing = λ e. refl;
  out_of_range = λ e. refl;
  rootless = λ e. refl;
  nowhere = λ e. refl;
  fits = λ room k e. of_missing k e;
  ends = λ other. absurd (other refl);
}

-- the root of a stored value has a word
root_held : (S : Segments) (t : Tree) → IsStored S 0 0 t → 1 ≤ length (segment S 0)
root_held S t stored = omega (arith, stored.inside 0 0 (omega (arith, times-first (word_interval 0 0) (cover S 0 0 t) 0 0, once_held 0 0)))

pub rootless_done : (v : View) (edit : Edit) → (1 ≤ length (segment v.words 0) → ⊥) → IsStep edit (Some NoSuchPlace) v v
rootless_done v edit empty = nothing_done v edit None (no_forest v.words edit (Some NoSuchPlace) empty) (λ t stored. absurd (empty (root_held v.words t stored))) tt

-- a path leads to one place
same_end : (S : Segments) (s p : ℕ) (t : Tree) (path : List Step) (u q : ℕ) (x : Tree) (v r : ℕ) (y : Tree) → PathLeads S (node s p t) path (node u q x) → PathLeads S (node s p t) path (node v r y) → (u ≡ v) × (q ≡ r)
same_end S s p t [] u q x v r y h k =
    let a = same_node h in
    let b = same_node k in
    (sym a.0 ∙ b.0, sym a.1 ∙ b.1)
same_end S s p (Struct ws ts) (Child i ∷ path) u q x v r y h k = same_end S (target S s p).segment ((target S s p).start + length ws + i) (tree_at ts i) path u q x v r y h.1 k.1
same_end S s p (Pointers ts) (Element i ∷ path) u q x v r y h k = same_end S (target S s p).segment ((target S s p).start + i) (tree_at ts i) path u q x v r y h.1 k.1
same_end S s p (Structs d w es) (Element i ∷ Child j ∷ path) u q x v r y h k =
    same_end S (target S s p).segment ((target S s p).start + 1 + i * (d + w) + d + j) (next (struct_at es i) (Child j)) path u q x v r y h.2 k.2
same_end S s p t (step ∷ path) u q x v r y h k = absurd h

no_value : (x : Tree) → Some (PointerTo x) ≡ None → ⊥
no_value x e = cc

no_element : (x y : Tree) → Some (PointerTo x) ≡ Some (ElementOf y) → ⊥
no_element x y e = cc

-- a step is done where its path leads
pub step_is_there : (old new : View) (edit : Edit) (r : Option ErrorKind) (t x : Tree) (u q : ℕ) (s : IsStep edit r old new) → IsForest old.words t → PathLeads old.words (node 0 0 t) (map step_of edit.path.now) (node u q x) →
    s.path_end ≡ Some (AtPointer (record { segment = u; word = q }))
step_is_there old new edit r t x u q s forest leads = go s.path_end (s.leads t (forest_stored old.words t forest))
  where
    path : List Step
    path = map step_of edit.path.now

    end_value : found t path ≡ Some (PointerTo x)
    end_value = leads_value old.words 0 0 t path u q x leads

    go : (place : Option PathEnd) → IsPathFound old.words (record { segment = 0; word = 0 }) t path place → place ≡ Some (AtPointer (record { segment = u; word = q }))
    go None none = absurd (no_value x (sym end_value ∙ ap (found t) (sym (append-nil path)) ∙ none []))
    go (Some (AtPointer place)) f =
        let same = same_end old.words 0 0 t path place.segment place.word f.0 u q x f.1 leads in
        ap₂ (λ v w. Some (AtPointer (record { segment = v; word = w }))) same.0 same.1
    go (Some (AtElement e)) f =
        let list = Structs e.size.data_words e.size.pointers f.elements in
        absurd (no_element x (struct_at f.elements f.index) (
        sym end_value ∙ ap (found t) f.path_is ∙ found-append t f.front (Element f.index ∷ []) list (list_end f) ∙ first f.index (element_count f.elements) _ _ f.counts
        ))
