-- What a call with a default does: it puts the default first, and then does its own work with the
-- value that is there.
use Rattle.std.proofs.Common.{◌≡◌, inl, inr, ℕ, Result, Ok, Err, sym, subst}
use Rattle.capnp_words.specs.declared.error.ErrorKind.{ErrorKind}
use Rattle.capnp_format.specs.Tree.{Tree}
use Rattle.capnp_arena_traits.specs.View.{View}
use Rattle.capnp_allocation.specs.Stored.{IsStored}
use Rattle.capnp_allocation.specs.Makes.{CallAt, call_at}
use Rattle.capnp_builders.specs.Defaults.{DefaultUse, ignored, denied, copied, WithDefault, PutsDefaultOver}

-- a result isn't both a success and a refusal
no_refusal : (x : Unit {0}) (k : ErrorKind) → ◌≡◌ {A = Result (Unit {0}) ErrorKind} (Ok x) (Err k) → ⊥
no_refusal x k e = cc

-- the default is put, and then the call does as P says
pub then_does : {B : Type 0} (w : DefaultUse) (s p : ℕ) (a m b : View) (t : Tree) (x : Unit {0}) (r : Result B ErrorKind) (P : CallAt → Tree → Type 0) → IsStored a.words s p t → PutsDefaultOver w (call_at s p a m) t (Ok x) →
    ((u : Tree) → IsStored m.words s p u → P (call_at s p m b) u) → WithDefault w (call_at s p a b) t P r
then_does ignored s p a m b t x r P stored (ok, same) f =
    subst (λ (v : View). P (call_at s p v b) t) same (f t (subst (λ (v : View). IsStored v.words s p t) (sym same) stored))
then_does (denied k) s p a m b t x r P stored (e, same) f = absurd (no_refusal x k e)
then_does (copied bytes) s p a m b t x r P stored (inl (mid, value, put, (ok, same))) f =
    inl (mid, value, put, subst (λ (v : View). P (call_at s p v b) value) same (f value (subst (λ (v : View). IsStored v.words s p value) (sym same) put.replaced.stored)))
then_does (copied bytes) s p a m b t x r P stored (inr e) f = absurd e
