-- Messages in canonical form, and the test for it ("Canonicalization").
use Rattle.std.specs.Prelude.{◌≡◌, ℕ, ◌+◌, ◌≤◌, [], ◌∷◌, true}
use Rattle.capnp_words.specs.Meter.{Meter, FitsIn}
use Rattle.capnp_format.specs.Segments.{Segments}
use Rattle.capnp_format.specs.Tree.{Tree, depth}
use Rattle.capnp_format.specs.Value.{IsValue}
use Rattle.capnp_format.specs.Canonical.{IsEncodable, HasNoCapabilities, IsTrimmed, charge, encoding}
use Rattle.capnp_pointers.specs.Spending.{Paid, pointers_in}

-- S is the canonical message of t: one segment, which holds t's canonical words and nothing else
-- ("Canonicalization").
pub record IsCanonicalOf (S : Segments) (t : Tree) : Type 0 where
  pub value : IsValue t
  pub trimmed : IsTrimmed t
  pub free : HasNoCapabilities t
  pub encodable : IsEncodable t
  pub is : S ≡ encoding t ∷ []

-- S is the canonical message of some value ("Canonicalization").
abbrev pub IsCanonicalMessage : Segments → Type 0
IsCanonicalMessage S = (t : Tree) × IsCanonicalOf S t

-- S is the canonical message of a value t, and the limiter goes from m to m' by the charge of its
-- test: what reading t costs, and one word for the root pointer. Each pointer is counted.
abbrev pub IsPaid : Segments → Meter → Meter → Type 0
IsPaid S m m' = (t : Tree) × IsCanonicalOf S t × Paid true m m' (1 + charge t) (pointers_in t)

-- If S is the canonical message of a value, the value is at most n levels deep.
abbrev pub IsWithinLevels : Segments → ℕ → Type 0
IsWithinLevels S n = (t : Tree) → IsCanonicalOf S t → depth t ≤ n

-- S is the canonical message of a value at most n levels deep, and the limiter m has enough left
-- for its test.
abbrev pub CanBeTested : Segments → ℕ → Meter → Type 0
CanBeTested S n m = (t : Tree) × IsCanonicalOf S t × (depth t ≤ n) × FitsIn m.left (1 + charge t)
