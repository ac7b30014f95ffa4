use Rattle.std.proofs.Common.{◌≤◌, inl, inr, sym, ◌∙◌, rules}
use Rattle.capnp_format.specs.Tree.{Null, Struct}
use Rattle.capnp_allocation.proofs.FillingMade.{null_stored}
use Rattle.capnp_in_place.proofs.WiderObjects.StructBySteps.{no_struct}
use Rattle.capnp_in_place.proofs.OpenedForWriting.StructsOpened.{struct_wide, some_struct, no_truth}
use Rattle.capnp_in_place.proofs.opening.open_struct.Goals as goal

-- The struct that is there is large enough.
pub returns-then-is_wide_enough-clause-opened : goal.returns-then-is_wide_enough-clause-opened
returns-then-is_wide_enough-clause-opened g c = λ t stored.
    (let wide : (c.args.size.data_words ≤ c.in-Some.old.size.data_words) × (c.args.size.pointers ≤ c.in-Some.old.size.pointers) = c.is_wide_enough.ensures.0 (search rules) in
    struct_wide (g.A.BuilderArena.view c.args.arena.now) c.args.id c.args.at t c.in-Some.old c.args.size stored (sym (c.in-Some.ensures.found t stored)) wide.0 wide.1)

-- A struct is found, so the pointer isn't null.
pub returns-else-is_wide_enough-clause-fits : goal.returns-else-is_wide_enough-clause-fits
returns-else-is_wide_enough-clause-fits g c = λ h. elim h [
  | inl (null, room) ↦ absurd (some_struct _ (c.in-Some.ensures.found Null (null_stored (g.A.BuilderArena.view c.args.arena.now).words c.args.id c.args.at c.requires.place null)))
  | inr fits ↦ c.open_narrow_struct.ensures.fits fits
]

-- No struct is found, and the pointer isn't null.
pub returns-then-not-is_null-clause-fits : goal.returns-then-not-is_null-clause-fits
returns-then-not-is_null-clause-fits g c = λ h. absurd (elim h [
  | inl (null, room) ↦ no_truth c.is_null.result (search rules) (c.is_null.ensures.1 (c.pointer_word.ensures ∙ null))
  | inr (ws, ts, x, room) ↦ no_struct _ (c.in-None.ensures.found (Struct ws ts) x)
])

-- The pointer is null.
pub returns-else-not-is_null-clause-fits : goal.returns-else-not-is_null-clause-fits
returns-else-not-is_null-clause-fits g c = λ h. elim h [
  | inl (null, room) ↦ c.new_struct.ensures.fits room
  | inr (ws, ts, x, room) ↦ absurd (no_struct _ (c.in-None.ensures.found (Struct ws ts) x))
]

-- If the pointer is null, no struct is found.
pub returns-then-is_wide_enough-clause-taken : goal.returns-then-is_wide_enough-clause-taken
returns-then-is_wide_enough-clause-taken g c = λ null. absurd (some_struct _ (c.in-Some.ensures.found Null (null_stored (g.A.BuilderArena.view c.args.arena.now).words c.args.id c.args.at c.requires.place null)))

pub returns-else-is_wide_enough-clause-taken : goal.returns-else-is_wide_enough-clause-taken
returns-else-is_wide_enough-clause-taken g c = λ null. absurd (some_struct _ (c.in-Some.ensures.found Null (null_stored (g.A.BuilderArena.view c.args.arena.now).words c.args.id c.args.at c.requires.place null)))

pub returns-else-is_wide_enough-clause-refused : goal.returns-else-is_wide_enough-clause-refused
returns-else-is_wide_enough-clause-refused g c = λ null. absurd (some_struct _ (c.in-Some.ensures.found Null (null_stored (g.A.BuilderArena.view c.args.arena.now).words c.args.id c.args.at c.requires.place null)))

pub returns-then-is_wide_enough-clause-empty : goal.returns-then-is_wide_enough-clause-empty
returns-then-is_wide_enough-clause-empty g c = λ null none. absurd (some_struct _ (c.in-Some.ensures.found Null (null_stored (g.A.BuilderArena.view c.args.arena.now).words c.args.id c.args.at c.requires.place null)))

pub returns-else-is_wide_enough-clause-empty : goal.returns-else-is_wide_enough-clause-empty
returns-else-is_wide_enough-clause-empty g c = λ null none. absurd (some_struct _ (c.in-Some.ensures.found Null (null_stored (g.A.BuilderArena.view c.args.arena.now).words c.args.id c.args.at c.requires.place null)))

pub returns-then-is_wide_enough-clause-behind : goal.returns-then-is_wide_enough-clause-behind
returns-then-is_wide_enough-clause-behind g c = λ null. absurd (some_struct _ (c.in-Some.ensures.found Null (null_stored (g.A.BuilderArena.view c.args.arena.now).words c.args.id c.args.at c.requires.place null)))

pub returns-else-is_wide_enough-clause-behind : goal.returns-else-is_wide_enough-clause-behind
returns-else-is_wide_enough-clause-behind g c = λ null. absurd (some_struct _ (c.in-Some.ensures.found Null (null_stored (g.A.BuilderArena.view c.args.arena.now).words c.args.id c.args.at c.requires.place null)))
