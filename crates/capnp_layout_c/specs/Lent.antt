-- The message that C lends, and its pointers as places that are read.
use Rattle.std.specs.Prelude.{◌≡◌, ℕ, ℤ, ◌+◌, ◌-◌, ◌^◌, List, map, Bool, true, false, Option, Some, None, if◌then◌else◌, nat_lt}
use Rattle.std.specs.Borrow.{Bor}
use Rattle.capnp_format.specs.Bytes.{message}
use Rattle.capnp_format.specs.Segments.{Segments}
use Rattle.capnp_arena_traits.specs.Limits.{whole}
use Rattle.capnp_pointers.specs.Reading.{Reading}
use Rattle.capnp_pointers.specs.Source.{levels}

-- The message of the whole words of these segments.
abbrev pub lent : List (Bor (List ℕ)) → Segments
lent list = message (map whole (map (λ s. s.now) list))

-- A pointer of that message, within this nesting limit.
abbrev pub lent_pointer : List (Bor (List ℕ)) → ℕ → ℕ → ℤ → Reading
lent_pointer list segment word nesting = record {
  segments = lent list;
  charging = true;
  of_default = false;
  levels = levels nesting;
  segment = segment;
  at = word;
}

-- The number that stands for no traversal limit.
abbrev pub no_limit : ℕ
no_limit = 2 ^ 64 - 1

-- The words that a limiter has left.
abbrev pub words_left : Option ℕ → ℕ
words_left None = 0
words_left (Some n) = n

-- The words left after a call that had `old`, if its limiter has this left. Without a limit they stay.
abbrev pub left_over : ℕ → Option ℕ → ℕ
left_over old left = if nat_lt old no_limit then words_left left else old

-- The words left after the root pointer was charged.
abbrev pub root_left : ℕ → ℕ
root_left old = left_over old (Some (old - 1))

-- A call has taken c words: `old` were left, and now `new` are. Without a limit they stay.
abbrev pub LeavesIf : Bool → ℕ → ℕ → ℕ → Type 0
LeavesIf true old new c = new + c ≡ old
LeavesIf false old new c = new ≡ old

abbrev pub Leaves : ℕ → ℕ → ℕ → Type 0
Leaves old new c = LeavesIf (nat_lt old no_limit) old new c
