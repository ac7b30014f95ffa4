-- What a call allocates, if words are written before it.
use Rattle.std.proofs.Common.{◌≡◌, inl, inr, ℕ, ◌+◌, length, Result, ap, ◌∙◌, subst, arith}
use Rattle.capnp_words.specs.declared.error.ErrorKind.{ErrorKind}
use Rattle.capnp_arena_traits.specs.Allocations.{one_more}
use Rattle.capnp_arena_traits.specs.Taking.{IsAllocationRefusal}
use Rattle.capnp_arena_traits.specs.View.{View}
use Rattle.capnp_allocation.specs.Makes.{Allocates, call_at}
use Rattle.capnp_allocation.specs.Memory.{HasRoom, IsRefusedFor, KeepsMemory, TakesWords}
use Rattle.capnp_allocation.proofs.Memory.{keeps_both}
use Rattle.capnp_allocation.proofs.Outcomes.{if_err_so, on_made_so}
use Rattle.capnp_in_place.specs.Anew.{OnlyWrites}
use Rattle.capnp_in_place.proofs.MovedPointers.RewrittenInTurn.{keeps_writes, taken_before}

room_written : (a b : View) (id n : ℕ) → OnlyWrites a b → HasRoom a id n → HasRoom b id n
room_written a b id n w (inl fits) = inl (omega (arith, fits, w.words id, ap (λ (v : View). v.room id) w.limits))
room_written a b id n w (inr (k, first)) =
    let same : (j : ℕ) → b.room j ≡ a.room j = λ j. ap (λ (v : View). v.room j) w.limits in
    inr (k, (omega (arith, first.0, w.segments), omega (arith, first.1, w.words k, same k), λ j less. omega (arith, first.2 j less, w.words j, same j)))

refusal_written : (a b c : View) (n m : ℕ) (k : ErrorKind) → b.refusals ≡ a.refusals → IsAllocationRefusal b c n m k → IsAllocationRefusal a c n m k
refusal_written a b c n m k same (inl (e, f, g, h)) = inl (e, f, g, h ∙ ap one_more same)
refusal_written a b c n m k same (inr (inl (e, f, g, h))) = inr (inl (e, f, g, h ∙ same))
refusal_written a b c n m k same (inr (inr (e, f, h))) = inr (inr (e, f, h ∙ same))

refused_written : (a b c : View) (n : ℕ) (k : ErrorKind) → OnlyWrites a b → IsRefusedFor b c n k → IsRefusedFor a c n k
refused_written a b c n k w (r, e) = (
  subst (λ i. IsAllocationRefusal a c i (n + 1) k) w.segments (refusal_written a b c (length b.words) (n + 1) k (ap (λ (v : View). v.refusals) w.limits) r),
  e ∙ ap (λ (v : View). record v { words = c.words; refusals = c.refusals }) w.limits,
)

-- The call has room and takes words as if nothing had been written.
pub allocates_written : {V : Type 0} (r : Result V ErrorKind) (a b c : View) (s p n : ℕ) → OnlyWrites a b → Allocates r (call_at s p b c) n → Allocates r (call_at s p a c) n
allocates_written r a b c s p n w x = record {
  fits = λ room. x.fits (room_written a b s n w room);
  granted = on_made_so r (KeepsMemory b c) (KeepsMemory a c) x.granted (λ kept. keeps_both a b c (omega (arith, w.segments)) (keeps_writes a b w) kept);
  taken = on_made_so r (TakesWords b c s n) (TakesWords a c s n) x.taken (λ taken. taken_before a b c s n w taken);
  named = if_err_so r (IsRefusedFor b c n) (IsRefusedFor a c n) x.named (λ k named. refused_written a b c n k w named);
}
