-- The ways in which an edit ends, one by one; and what an operation makes, by its task.
use Rattle.std.proofs.Common.{◌≡◌, ◌⊎◌, inl, inr, ℕ, true, ◌*◌, ◌<◌, min, List, length, Option, Some, None, unwrap_or, refl, sym, subst, map}
use Rattle.std.specs.Option.{option_map_or}
use Rattle.std.specs.Prelude.{MatchOption, Ok, Err}
use Rattle.capnp_words.specs.declared.error.ErrorKind.{ErrorKind}
use Rattle.capnp_words.specs.declared.error.ErrorKind.TheVariants.{NoSuchPlace}
use Rattle.capnp_format.specs.Canonical.{HasNoCapabilities}
use Rattle.capnp_format.specs.Tree.{Tree, Null, Struct, count}
use Rattle.capnp_format.specs.Path.{update}
use Rattle.capnp_format.specs.Segments.{Segments}
use Rattle.capnp_allocation.specs.Stored.{IsReplaced}
use Rattle.capnp_pointers.specs.declared.pointers.PointerPlace.{PointerPlace}
use Rattle.capnp_pointers.specs.Faults.{HasFault}
use Rattle.capnp_pointers.specs.Outcomes.{MeansThere}
use Rattle.capnp_pointers.specs.Wanted.{of_default}
use Rattle.capnp_words.specs.Names.{is_allocation_name}
use Rattle.capnp_builders.specs.Content.{HoldContent, up_to}
use Rattle.capnp_builders.specs.Defaults.{default_root, ignored, denied as is_denied_by, copied as is_copied_from}
use Rattle.capnp_edits.specs.declared.edit.Edit.{Edit}
use Rattle.capnp_edits.specs.declared.edit.Source.{Source}
use Rattle.capnp_edits.specs.declared.edit.copying.Copying.{Copying}
use Rattle.capnp_edits.specs.declared.edit.copying.Wanted.TheVariants.{Struct as AStruct}
use Rattle.capnp_edits.specs.declared.edit.tasks.Task.{Task}
use Rattle.capnp_edits.specs.declared.edit.tasks.Task.TheVariants.{Write}
use Rattle.capnp_edits.specs.declared.edit.tasks.Part.{Part}
use Rattle.capnp_edits.specs.Paths.{EndValue, PointerTo, found, step_of}
use Rattle.capnp_edits.specs.Sources.{Copies, ContentRead, HasNothingToCopy, IsNextUnreadable, IsUnreadable}
use Rattle.capnp_edits.specs.Tasks.{task_of}
use Rattle.capnp_edits.specs.Edits.{Effect, EditTakes, HasEffect, copies, defaults, fills, gives, effect_of_task}

-- A value that is made without new words; and a refusal that changes nothing.
abbrev pub becomes : Tree → Effect
becomes u = gives None (Ok u)

abbrev pub denied : ErrorKind → Effect
denied k = gives None (Err k)

-- u is a struct of d data words and q pointers after the content c was copied over it.
abbrev pub Fills : (source : Source) → ContentRead source → ℕ → ℕ → Tree → Type 0
Fills source c d q u = (section : List ℕ) × HoldContent section d (64 * length c.from.words) c.bytes × (u ≡ Struct section (up_to q c.children))

-- What an operation that makes this leaves, with outcome r, way by way. o replaces the value, if
-- anything is changed.
pub data Way (making : Effect) (r : Option ErrorKind) (o : Option Tree) : Type 0 where
  is_done : {left : Option Tree} (u : Tree) → making ≡ gives left (Ok u) → r ≡ None → o ≡ Some u → Way making r o
  is_denied : {left : Option Tree} (k : ErrorKind) → making ≡ gives left (Err k) → r ≡ Some k → o ≡ None → Way making r o
  is_not_allocated : (t u : Tree) (k : ErrorKind) → making ≡ gives (Some t) (Ok u) → is_allocation_name k ≡ true → r ≡ Some k → o ≡ Some t → Way making r o
  is_copied : (c : Copying) (u : Tree) → making ≡ copies c → Copies c u → r ≡ None → o ≡ Some u → Way making r o
  is_not_copied : (c : Copying) (k : ErrorKind) → making ≡ copies c → ((j : ErrorKind) → HasNothingToCopy c.source c.wanted j → ⊥) → (is_allocation_name k ≡ true) ⊎ IsUnreadable c k → r ≡ Some k → o ≡ Some Null → Way making r o
  is_unread : (c : Copying) (k : ErrorKind) → making ≡ copies c → HasNothingToCopy c.source c.wanted k → r ≡ Some k → o ≡ None → Way making r o
  is_filled : (source : Source) (d q : ℕ) (u : Tree) → making ≡ fills source d q →
      (c : ContentRead source) × Fills source c d q u × (count c.children ≡ min q c.from.pointers) → r ≡ None → o ≡ Some u → Way making r o
  is_half_filled : (source : Source) (d q : ℕ) (k : ErrorKind) (u : Tree) → making ≡ fills source d q →
      (c : ContentRead source) × Fills source c d q u × (count c.children < min q c.from.pointers) × ((is_allocation_name k ≡ true) ⊎ IsNextUnreadable source c k) →
      r ≡ Some k → o ≡ Some u → Way making r o
  is_not_filled : (source : Source) (d q : ℕ) (k : ErrorKind) → making ≡ fills source d q → HasNothingToCopy source AStruct k → r ≡ Some k → o ≡ None → Way making r o

-- an effect, with its outcome and what it leaves, is shown for equal ones
shown : {making m : Effect} {r q : Option ErrorKind} {o p : Option Tree} → making ≡ m → r ≡ q → o ≡ p → HasEffect m q p → HasEffect making r o
shown {m = m} {r = r} {q = q} {o = o} is same left h = subst (λ x. HasEffect x r o) (sym is) (subst (λ x. HasEffect m x o) (sym same) (subst (HasEffect m q) (sym left) h))

pub yielded : {making : Effect} {r : Option ErrorKind} {o : Option Tree} → Way making r o → HasEffect making r o
unfolding HasEffect
yielded (is_done u is done left) = shown is done left refl
yielded (is_denied k is named left) = shown is named left (refl, refl)
yielded (is_not_allocated t u k is lacks named left) = shown is named left (lacks, refl)
yielded (is_copied c u is copied done left) = shown is done left (u, copied, refl)
yielded (is_not_copied c k is some why named left) = shown is named left (refl, some, why)
yielded (is_unread c k is unread named left) = shown is named left unread
yielded (is_filled source d q u is h done left) = shown is done left (h.0, h.1.0, h.1.1, h.1.2, h.2)
yielded (is_half_filled source d q k u is h named left) = shown is named left (h.0, h.1.0, h.1.1, h.1.2, (h.2, h.3))
yielded (is_not_filled source d q k is unread named left) = shown is named left unread

-- what is left of a default's value
pub default_put : (bytes : List ℕ) (made_of : Tree → Effect) (d : Tree) (r : Option ErrorKind) (left : Option Tree) → (n : ℕ) × MeansThere (default_root bytes) d n × HasNoCapabilities d → Way (made_of d) r left →
    HasEffect (defaults (is_copied_from bytes) made_of Null) r (Some (unwrap_or left d))
unfolding HasEffect
default_put bytes made_of d r left (n, means, free) way = inl (d, n, left, means, free, yielded way, refl)

pub default_dropped : (bytes : List ℕ) (made_of : Tree → Effect) (k : ErrorKind) → (is_allocation_name k ≡ true) ⊎ HasFault of_default (default_root bytes) k → HasEffect (defaults (is_copied_from bytes) made_of Null) (Some k) (Some Null)
unfolding HasEffect
default_dropped bytes made_of k why = inr (why, refl)

-- a default that isn't used, or is denied
pub default_ignored : (made_of : Tree → Effect) (t : Tree) (r : Option ErrorKind) (o : Option Tree) → HasEffect (made_of t) r o → HasEffect (defaults ignored made_of t) r o
unfolding HasEffect
default_ignored made_of t r o h = h

pub default_denied : (k : ErrorKind) (made_of : Tree → Effect) (t : Tree) (r : Option ErrorKind) → r ≡ Some k → HasEffect (defaults (is_denied_by k) made_of t) r None
unfolding HasEffect
default_denied k made_of t r named = (named, refl)

-- From S to R an operation that makes this is done at a pointer that means t, with outcome r.
abbrev pub DoesAt : Segments → Segments → PointerPlace → Effect → Tree → Option ErrorKind → Type 0
DoesAt S R place making t r = (left : Option Tree) × HasEffect making r left × MatchOption left (R ≡ S) (IsReplaced S R place.segment place.word t)

-- What is made if a part of a list, a text or data is written.
abbrev pub part_written : Part → Tree → Effect
part_written part t = effect_of_task (Write part) (PointerTo t)

-- Where an edit's path leads, and what is left there; or that it leads nowhere.
pub data Reaches (e : Edit) (r : Option ErrorKind) (t u : Tree) : Type 0 where
  leads_to : (there : EndValue) (o : Option Tree) → found t (map step_of e.path.now) ≡ Some there →
      HasEffect (option_map_or (λ (x : Task). effect_of_task x there) (task_of e.op) (denied NoSuchPlace)) r o →
      u ≡ option_map_or (update t (map step_of e.path.now)) o t → Reaches e r t u
  leads_nowhere : found t (map step_of e.path.now) ≡ None → r ≡ Some NoSuchPlace → u ≡ t → Reaches e r t u

pub takes : (e : Edit) (r : Option ErrorKind) (t : Tree) {u : Tree} → Reaches e r t u → EditTakes e r t u
unfolding EditTakes
takes e r t {u} (leads_to there o is left stands) =
    subst (λ (f : Option EndValue). MatchOption f ((r ≡ Some NoSuchPlace) × (u ≡ t)) (λ x. (o : Option Tree) × HasEffect (option_map_or (λ (y : Task). effect_of_task y x) (task_of e.op) (denied NoSuchPlace)) r o × (u ≡ option_map_or (update t (map step_of e.path.now)) o t)))
    (sym is) (o, left, stands)
takes e r t {u} (leads_nowhere is named same) =
    subst (λ (f : Option EndValue). MatchOption f ((r ≡ Some NoSuchPlace) × (u ≡ t)) (λ x. (o : Option Tree) × HasEffect (option_map_or (λ (y : Task). effect_of_task y x) (task_of e.op) (denied NoSuchPlace)) r o × (u ≡ option_map_or (update t (map step_of e.path.now)) o t)))
    (sym is) (named, same)
