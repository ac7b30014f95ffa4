-- Objects that replace what a pointer led to before, and where they start.
use Rattle.std.specs.Prelude.{ℕ, Result, IfOk, OnOk}
use Rattle.capnp_format.specs.Tree.{Tree}
use Rattle.capnp_words.specs.declared.error.ErrorKind.{ErrorKind}
use Rattle.capnp_allocation.specs.Makes.{CallAt, MakesObject, ObjectStartsAt}
use Rattle.capnp_allocation.specs.Stored.{PutsOnceZeroed}
use Rattle.capnp_arena_traits.specs.declared.arena.WordPlace.{WordPlace}

-- The call makes an object of n words, whose value is t, in place of what it zeroes first, and
-- returns where it starts; or it is refused.
pub record GivesObject (result : Result WordPlace ErrorKind) (c : CallAt) (t : Tree) (n : ℕ) : Type 0 where
  pub object : MakesObject result c t n
  pub once_zeroed : OnOk result (PutsOnceZeroed c.old.words c.new.words c.segment c.at t)
  pub start : IfOk result (ObjectStartsAt c n)
