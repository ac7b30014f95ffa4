-- What a call leaves of an allocator: how often it has refused memory, and what it offers.
use Rattle.std.specs.Prelude.{◌≡◌, Result, OnOk, IfErr, OnErr}
use Rattle.capnp_words.specs.declared.error.ErrorKind.{ErrorKind}
use Rattle.capnp_words.specs.declared.error.ErrorKind.TheVariants.{AllocationFailed}
use Rattle.capnp_arena_traits.specs.Allocations.{one_more}
use Rattle.capnp_arena.specs.declared.arena.allocator.Allocator.{Ghosts}

module _ {A S : Type 0} (g : Ghosts A S) where
  -- From old to new the allocator has refused nothing more, and offers the same.
  pub record RefusesNothing (old new : A) : Type 0 where
    pub refusals : g.refusals new ≡ g.refusals old
    pub offers : g.offers new ≡ g.offers old

  -- An error of r is a refusal of memory, which the allocator has counted from old to new. It
  -- offers the same.
  pub record CountsRefusal {T : Type 0} (old new : A) (r : Result T ErrorKind) : Type 0 where
    pub granted : OnOk r (g.refusals new ≡ g.refusals old)
    pub named : IfErr r (λ e. e ≡ AllocationFailed)
    pub counted : OnErr r (g.refusals new ≡ one_more (g.refusals old))
    pub offers : g.offers new ≡ g.offers old
