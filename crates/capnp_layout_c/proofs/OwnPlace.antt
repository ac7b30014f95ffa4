-- A call without a default reads its own pointer.
use Rattle.std.proofs.Common.{◌≡◌, inl, inr, ℕ, ◌-◌, Bool, true, false, Option, Some, None, Ok, Err, refl, sym, ap, ◌∙◌, subst, arith}
use Rattle.std.specs.Prelude.{◌+◌, ⊤}
use Rattle.capnp_words.specs.declared.error.ErrorKind.{ErrorKind}
use Rattle.capnp_words.specs.Meter.{Meter, unused}
use Rattle.capnp_arena_traits.specs.declared.arena.reader_arena.ReaderArena.{Ghosts}
use Rattle.capnp_pointers.specs.Expected.{Expectation, HasExpected, RefusesExpected}
use Rattle.capnp_pointers.specs.Reading.{Reading}
use Rattle.capnp_pointers.specs.Spending.{Paid}
use Rattle.capnp_readers.specs.Calls.{Call, IsRead, of_pointer, of_default, short_default, of_null_default, WhereRead, IsRefused}
use Rattle.capnp_readers.specs.Readers.{read_by}
use Rattle.capnp_readers.specs.declared.readers.PointerReader.{PointerReader}
use Rattle.capnp_readers.proofs.Answering.{read_at}
use Rattle.capnp_layout_c.specs.Lent.{words_left}

-- what is left of a limit once c words were taken
abbrev pub Rest : Option ℕ → ℕ → ℕ → Type 0
Rest None new c = ⊤
Rest (Some old) new c = new + c ≡ old

-- what was granted is what is missing afterwards
pub paid_left : (old : Option ℕ) (new g : ℕ) (charging : Bool) (m : Meter) → charging ≡ true → Paid charging (unused old) m g 1 → new ≡ words_left m.left → Rest old new g
paid_left None new g true m is paid e = tt
paid_left (Some old) new g true m is paid e =
    let left : words_left m.left ≡ old - g = ap (λ (x : Meter). words_left x.left) paid.spent in
    omega (arith, paid.covers, left, e)
paid_left old new g false m is paid e = absurd (cc is)

module _ {A : Type 0} (g : Ghosts A) where
  -- the call of a pointer that has no default
  abbrev pub own_call : PointerReader A g → Expectation → Call g
  own_call from expected = record { from = from; expected = expected; default = None }

  pub own : {from p : PointerReader A g} {expected : Expectation} → IsRead g (own_call from expected) (Ok p) → p ≡ from
  own (of_pointer w e) = cc e
  own (of_default null has whole source segment first nesting may e) = absurd (cc has)
  own (short_default null has less e) = absurd (cc has)
  own (of_null_default null has whole none named e) = absurd (cc has)

  pub own_read : (from : PointerReader A g) (expected : Expectation) → IsRead g (own_call from expected) (Ok from)
  own_read from expected = of_pointer (inl refl) refl

  never_err : {from : PointerReader A g} {expected : Expectation} {k : ErrorKind} → IsRead g (own_call from expected) (Err k) → ⊥
  never_err (of_pointer w e) = cc e
  never_err (of_default null has whole source segment first nesting may e) = cc has
  never_err (short_default null has less e) = cc has
  never_err (of_null_default null has whole none named e) = cc has

  pub expected_at : {from : PointerReader A g} {expected : Expectation} {r : Reading} {m n : Meter} → read_by g from ≡ r → m ≡ n →
      WhereRead g (own_call from expected) (λ p. HasExpected expected (read_by g p) m) → HasExpected expected r n
  expected_at {expected = expected} {r = r} {m = m} place same (p, is, can) =
      subst (λ k. HasExpected expected r k) same (subst (λ x. HasExpected expected x m) (read_at g is ∙ place) can)

  pub expected_there : {from : PointerReader A g} {expected : Expectation} {r : Reading} {m n : Meter} → read_by g from ≡ r → m ≡ n →
      HasExpected expected r n → WhereRead g (own_call from expected) (λ p. HasExpected expected (read_by g p) m)
  expected_there {from} {expected} {m = m} {n = n} place same can =
      (from, own_read from expected, subst (λ k. HasExpected expected (read_by g from) k) (sym same) (subst (λ x. HasExpected expected x n) (sym place) can))

  pub refused_at : {from : PointerReader A g} {expected : Expectation} {r : Reading} {m n m' : Meter} {k : ErrorKind} → read_by g from ≡ r → m ≡ n →
      IsRefused g (own_call from expected) m m' k → RefusesExpected expected r n m' k
  refused_at place same (inl (unread, none)) = absurd (never_err unread)
  refused_at {expected = expected} {r = r} {m = m} {m' = m'} {k = k} place same (inr (p, is, refuses)) =
      subst (λ n. RefusesExpected expected r n m' k) same (subst (λ x. RefusesExpected expected x m m' k) (read_at g is ∙ place) refuses)
