-- Where an object starts.
use Rattle.std.proofs.Common.{ℕ, Result, Ok, Err, IfOk, sym, ap, ◌∙◌}
use Rattle.capnp_words.specs.declared.error.ErrorKind.{ErrorKind}
use Rattle.capnp_format.specs.Forest.{target_in}
use Rattle.capnp_arena_traits.specs.View.{View}
use Rattle.capnp_allocation.specs.Makes.{IsMadeAt, ObjectStartsAt, call_at}
use Rattle.capnp_allocation.specs.Memory.{ComesAfter}
use Rattle.capnp_allocation.specs.declared.making.Shape.{Shape}
use Rattle.capnp_arena_traits.specs.declared.arena.WordPlace.{WordPlace}

-- What is made at a place starts where its pointer leads.
pub made_starts : (result : Result WordPlace ErrorKind) (old new : View) (id at n : ℕ) (shape : Shape) → IfOk result (IsMadeAt (call_at id at old new) shape n) → IfOk result (ComesAfter old id n) → IfOk result (ObjectStartsAt (call_at id at old new) n)
made_starts (Ok h) old new id at n shape (a, m, is, is_segment, is_start) behind =
    let same = ap target_in m.leads_there.1 in
    record {
      leads = (is_segment ∙ sym (ap (λ b. b.segment) same), is_start ∙ sym (ap (λ b. b.start) same));
      inside = rw (is_segment, is_start) (m.exists, m.claims);
      behind = behind;
    }
made_starts (Err k) old new id at n shape made behind = tt
