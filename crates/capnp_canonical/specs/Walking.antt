-- What C is told of the objects of a message.
use Rattle.std.specs.Prelude.{◌≡◌, ℕ, List, Some, None, length, if◌then◌else◌, nat_lt}
use Rattle.capnp_pointers.specs.Extents.{capped}
use Rattle.capnp_refusals.specs.Search.{Finding}
use Rattle.capnp_walks.specs.Walks.{Walking, written_over}
use Rattle.capnp_walks.specs.declared.walks.listing.WalkedObject.{WalkedObject}
use Rattle.capnp_canonical.specs.Calls.{IsNumberWhere}
use Rattle.capnp_numbers.specs.Numbers.{error_number}
use Rattle.capnp_canonical.specs.declared.refusal.Refusal.{Refusal}

-- The answer for a walk that has stopped there, or at the end of the message, with this number of
-- objects, for an array of this length.
abbrev pub walk_answer : Finding → (count room : ℕ) → ℕ
walk_answer (Some p) n room = error_number p.refusal
walk_answer None n room = if nat_lt room n then 1 else 0

-- What a walk leaves in the array `old`, the number of its objects, and its answer.
abbrev pub c_walk : Walking (List WalkedObject) → List WalkedObject → List WalkedObject × ℕ × ℕ
c_walk w old =
    let n = capped (length w.0) in
    (written_over w.0 old, n, walk_answer w.1 n (length old))

-- There is no message, for a reason that satisfies P and that the answer has: no objects are
-- written or counted.
abbrev pub NotWalked : (Refusal → Type 0) → (old new : List WalkedObject) → (n answer : ℕ) → Type 0
NotWalked P old new n answer = IsNumberWhere answer P × (new ≡ old) × (n ≡ 0)
