-- Consecutive pointers that are copied into their own segment: one more child.
use Rattle.std.proofs.Common.{◌≡◌, ℕ, ◌+◌, ◌<◌, ◌≤◌, ◌^◌, List, length, sym, ap, ◌∙◌, arith}
use Rattle.capnp_words.specs.Meter.{Meter}
use Rattle.capnp_format.specs.Segments.{segment, IsPlace}
use Rattle.capnp_format.specs.Tree.{Tree, Trees, count}
use Rattle.capnp_format.specs.Canonical.{word_count_all}
use Rattle.capnp_format.proofs.Children.{with_last}
use Rattle.capnp_arena_traits.specs.View.{View}
use Rattle.capnp_arena_traits.specs.Written.{with_segment}
use Rattle.capnp_pointers.specs.Reading.{Reading, place_past}
use Rattle.capnp_pointers.specs.Wanted.{Form}
use Rattle.capnp_copies.specs.Copied.{with_children}
use Rattle.capnp_copies.proofs.Copied.{copied}
use Rattle.capnp_copies.proofs.InPlace.{AreCopied}
use Rattle.capnp_copies.proofs.CopiesNear.{Call, call_of, CopiesValue, CopiesChildren}
use Rattle.capnp_copies.specs.Forms.{kept, kept_each}
use Rattle.capnp_copies.proofs.ChildrenCopied.{length_children, child_added}
use Rattle.capnp_copies.proofs.KeptChildren.{kept_each-count, kept_each-with_last, kept_each-shaped}
use Rattle.capnp_copies.proofs.Copying.{there}
use Rattle.capnp_copies.proofs.SegmentsWritten.{then_written, words_written}
use Rattle.capnp_copies.proofs.Shapes.{AreShaped, all_shaped}

shaped : {r : Reading} {i at : ℕ} {c : Call} (first : CopiesChildren r i c at) → AreShaped (kept_each c.form first.children)
shaped {r} {c = c} first = kept_each-shaped c.form first.children (all_shaped r first.children first.are_read.cost first.are_read.means)

-- The words of the segment once the first children are copied.
pub now : {b : Form} {r : Reading} {old mid : View} {id i at : ℕ} {m m' : Meter} → IsPlace old.words id (at + i) → (first : CopiesChildren r i (call_of b old mid id m m') at) → segment mid.words id ≡ with_children (segment old.words id) at (kept_each b first.children)
now {b} {r} {old} {mid} {id} {i} {at} place first = words_written old.words mid.words id (with_children (segment old.words id) at (kept_each b first.children)) (there old.words id (at + i) place) first.made

pub now_long : {b : Form} {r : Reading} {old mid : View} {id i at : ℕ} {m m' : Meter} → at + i ≤ length (segment old.words id) → (first : CopiesChildren r i (call_of b old mid id m m') at) →
    length (with_children (segment old.words id) at (kept_each b first.children)) ≡ length (segment old.words id) + word_count_all (kept_each b first.children)
now_long {b = b} {old = old} {id = id} {at = at} le first = length_children (segment old.words id) at (kept_each b first.children) (shaped first) (omega (arith, first.counts, kept_each-count b first.children))

-- The next child, once it is copied.
pub child_put : {b : Form} {r : Reading} {old mid new : View} {id i at : ℕ} {m m' m'' : Meter} → IsPlace old.words id (at + i) → length (segment mid.words id) < 2 ^ 29 → (first : CopiesChildren r i (call_of b old mid id m m') at) → (next : CopiesValue (place_past r i) (call_of b mid new id m' m'') (at + i)) →
    AreCopied old.words new.words id at (kept_each b (with_last first.children next.value))
child_put {b} {r} {old} {mid} {new} {id} {i} {at} {m} {m'} {m''} place few first next =
    let W : List ℕ = segment old.words id in
    let ts : Trees = first.children in
    let u : Tree = next.value in
    let X : List ℕ = with_children W at (kept_each b ts) in
    let long : count ts ≡ i = first.counts in
    let put : new.words ≡ with_segment mid.words id (copied (segment mid.words id) (at + count ts) (kept b u)) = rw long next.made in
    let n : at + count (kept_each b ts) ≡ at + count ts = ap (λ j. at + j) (kept_each-count b ts) in
    let fits : length X < 2 ^ 29 = omega (arith, ap length (now place first)) in
    then_written old.words id X (λ xs. copied xs (at + count ts) (kept b u)) (there old.words id (at + i) place, first.made) put
    ∙ ap (with_segment old.words id)
    (ap (λ j. copied X j (kept b u)) (sym n) ∙ child_added W at (kept_each b ts) (kept b u) (shaped first) (omega arith, fits) ∙ ap (with_children W at) (sym (kept_each-with_last b ts u)))
