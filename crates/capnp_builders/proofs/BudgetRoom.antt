-- With a budget for which the place's segment has room, a copy comes to no object without room.
use Rattle.std.proofs.Common.{◌≡◌, inl, inr, true, Some, ℕ, ◌+◌, arith}
use Rattle.capnp_words.specs.declared.error.ErrorKind.{ErrorKind}
use Rattle.capnp_allocation.specs.Near.{HasOwnRoom}
use Rattle.capnp_pointers.specs.Reading.{Reading}
use Rattle.capnp_pointers.specs.Refusals.{Refused}
use Rattle.capnp_copies.specs.Changes.{CopyCall, RefusesToCopy}
use Rattle.capnp_copies.specs.Originals.{value_original}
use Rattle.capnp_copies.specs.Costs.{spent_until}
use Rattle.capnp_copies.proofs.Growth.{covered_by}
use Rattle.capnp_copies.proofs.WithinBudget.{covered_wanted}

pub budget_has_room : (r : Reading) (c : CopyCall) (x : ℕ) (k : ErrorKind) → r.charging ≡ true → c.before.left ≡ Some x → HasOwnRoom c.old c.segment x → RefusesToCopy (value_original r) c k → Refused c.form r c.before c.after k
budget_has_room r c x k charged budget room why = elim why [
  | inl (lacks, large) ↦ absurd (elim lacks [
    | inl none ↦ none.2
    | inr (n, stops, (refused, full)) ↦ (let paid = covered_by r.charging c.before ((spent_until stops).words + n) x charged budget (covered_wanted n stops) in omega (arith, paid, full, room))
  ])
  | inr (inl refused) ↦ refused
  | inr (inr none) ↦ absurd none
]
