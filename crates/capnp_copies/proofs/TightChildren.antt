-- Children in place after the words of their pointers' segment: one more child.
use Rattle.std.proofs.Common.{◌≡◌, ℕ, ◌+◌, ◌<◌, ◌≤◌, ◌^◌, length, ap, ◌∙◌, arith}
use Rattle.capnp_words.specs.Meter.{Meter}
use Rattle.capnp_format.specs.Segments.{segment, IsPlace}
use Rattle.capnp_format.specs.Tree.{Tree, Trees}
use Rattle.capnp_format.specs.Canonical.{word_count, word_count_all}
use Rattle.capnp_format.proofs.Children.{with_last}
use Rattle.capnp_arena_traits.specs.View.{View}
use Rattle.capnp_allocation.specs.Memory.{KeepsMemory}
use Rattle.capnp_pointers.specs.Reading.{Reading, place_past}
use Rattle.capnp_pointers.specs.Wanted.{Form}
use Rattle.capnp_copies.specs.Changes.{copy_call, StayInSegment, MakesCopy, CopiesChildren}
use Rattle.capnp_copies.specs.Originals.{value_original}
use Rattle.capnp_copies.specs.Forms.{kept, kept_each}
use Rattle.capnp_copies.proofs.InPlace.{IsCopied, AreCopied}
use Rattle.capnp_copies.proofs.CopiesNear.{call_of, CopiesValue as ValueCopied, CopiesChildren as ChildrenCopied}
use Rattle.capnp_copies.proofs.ChildrenSteps.{child_put, now, now_long}
use Rattle.capnp_copies.proofs.Copying.{there}
use Rattle.capnp_copies.proofs.KeptChildren.{kept_words-with_last}
use Rattle.capnp_copies.proofs.StayingNear.{stay_first, stay_later}
use Rattle.capnp_allocation.specs.Makes.{call_at}

-- A segment that existed keeps its room.
pub room_kept : (old new : View) (s p : ℕ) → IsPlace old.words s p → KeepsMemory old new → new.room s ≡ old.room s
room_kept old new s p place memory = memory.1 s (there old.words s p place)

pub child_tight : {r : Reading} {s p i : ℕ} {old mid new : View} {m m' m'' : Meter} (b : Form) → IsPlace old.words s (p + i) → length (segment mid.words s) < 2 ^ 29 → length old.words ≤ length mid.words → length mid.words ≤ length new.words → (first : CopiesChildren r i (copy_call b (call_at s p old mid) m m')) →
    (next : MakesCopy (value_original (place_past r i)) (copy_call b (call_at s (p + i) mid new) m' m'')) → StayInSegment old new s (word_count_all (kept_each b (with_last first.children next.value))) → AreCopied old.words new.words s p (kept_each b (with_last first.children next.value))
child_tight {r} {s} {p} {i} {old} {mid} {new} {m} {m'} {m''} b place few grows more first next fits =
    let ts : Trees = first.children in
    let u : Tree = next.value in
    let words = kept_words-with_last b ts u in
    let stand : AreCopied old.words mid.words s p (kept_each b ts) = first.stands (stay_first old mid new s (p + i) (word_count_all (kept_each b (with_last ts u))) (word_count_all (kept_each b ts)) (omega (arith, words)) place grows more fits) in
    let one : ChildrenCopied r i (call_of b old mid s m m') p = record { children = ts; counts = first.counts; are_read = first.are_read; made = stand } in
    let long : length (segment mid.words s) ≡ length (segment old.words s) + word_count_all (kept_each b ts) = ap length (now place one) ∙ now_long (omega (arith, place)) one in
    let room : mid.room s ≡ old.room s = room_kept old mid s (p + i) place first.memory in
    let stands : IsCopied mid.words new.words s (p + i) (kept b u) = next.stands (stay_later old mid new s s (word_count_all (kept_each b (with_last ts u))) (word_count (kept b u)) (λ f. omega (arith, f, words, long, room)) fits) in
    let two : ValueCopied (place_past r i) (call_of b mid new s m' m'') (p + i) = record { value = u; is_read = next.is_read; made = stands } in
    child_put place few one two
