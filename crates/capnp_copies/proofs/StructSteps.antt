-- A struct and a list of pointers that are copied into the segment of their pointer, once their
-- words are allocated: their children.
use Rattle.std.proofs.Common.{◌≡◌, ℕ, ◌+◌, ◌<◌, ◌++◌, List, length, set, replicate, sym, ap, ap₂, ◌∙◌, arith, append_assoc, length-append}
use Rattle.capnp_words.specs.declared.wire_pointer.StructSize.{StructSize}
use Rattle.capnp_words.specs.Meter.{Meter}
use Rattle.capnp_format.specs.Word.{struct_word, list_word}
use Rattle.capnp_format.specs.Segments.{Segments, segment, IsPlace}
use Rattle.capnp_format.specs.Tree.{Struct, Pointers, Trees, count}
use Rattle.capnp_format.specs.Canonical.{pointer, pointers, bodies, offset_to}
use Rattle.capnp_arena_traits.specs.View.{View}
use Rattle.capnp_arena_traits.specs.Written.{with_segment, with_word}
use Rattle.capnp_pointers.specs.Reading.{Reading}
use Rattle.capnp_pointers.specs.Wanted.{Form}
use Rattle.capnp_pointers.proofs.CanonicalForm.CanonicalIfAccepted.{struct_pointer}
use Rattle.capnp_copies.specs.Forms.{kept_each}
use Rattle.capnp_copies.specs.Copied.{with_children}
use Rattle.capnp_copies.proofs.Copied.{copied}
use Rattle.capnp_copies.proofs.InPlace.{IsCopied}
use Rattle.capnp_copies.proofs.CopiesNear.{TakesWords}
use Rattle.capnp_copies.proofs.CopiesNear.{call_of, CopiesChildren}
use Rattle.capnp_copies.proofs.Copying.{there}
use Rattle.capnp_copies.proofs.KeptChildren.{kept_each-count}
use Rattle.capnp_copies.proofs.SegmentsWritten.{then_written}
use Rattle.capnp_copies.proofs.StructsCopied.{object_children}

-- A list of pointers.

-- The pointers of a list and what they lead to, once they are written, and the list's pointer.
pub pointers_put : {b : Form} {r : Reading} {old mid last new : View} {id at head q x : ℕ} {m m' : Meter} → IsPlace old.words id at → TakesWords old mid id head (replicate q 0) → (children : CopiesChildren r q (call_of b mid last id m m') head) → x ≡ list_word (offset_to at (length (segment old.words id))) 6 q →
    new ≡ record last { words = with_word last.words id at x } → IsCopied old.words new.words id at (Pointers (kept_each b children.children))
pointers_put {b} {r} {old} {mid} {last} {new} {id} {at} {head} {q} {x} place taken children word writes =
    let M : Segments = old.words in
    let W : List ℕ = segment M id in
    let ts : Trees = kept_each b children.children in
    let id_there : id < length M = there M id at place in
    let len : count ts ≡ q = kept_each-count b children.children ∙ children.counts in
    let put : last.words ≡ with_segment mid.words id (with_children (segment mid.words id) (length W) ts) = rw (sym taken.starts) children.made in
    let is : x ≡ pointer (Pointers ts) (offset_to at (length W)) = word ∙ ap (list_word (offset_to at (length W)) 6) (sym len) in
    let second = then_written M id (W ++ replicate q 0) (λ xs. with_children xs (length W) ts) (id_there, ap (λ (v : View). v.words) taken.extends) put in
    then_written M id (with_children (W ++ replicate q 0) (length W) ts) (λ xs. set xs at x) (id_there, second) (ap (λ (v : View). v.words) writes)
    ∙ ap (with_segment M id) (ap₂ (λ xs y. set xs at y) (object_children W q ts len) is)

-- A struct.

-- The words of a struct are allocated: these data words, and null pointers.
pub record StructBegun (us : List ℕ) (used : StructSize) (old mid : View) (id at head : ℕ) : Type 0 where
  pub long : length us ≡ used.data_words
  pub place : IsPlace old.words id at
  pub taken : TakesWords old mid id head (us ++ replicate used.pointers 0)

-- The words of a struct and of its children, once they are written, and its pointer.
pub struct_put : {b : Form} {us : List ℕ} {r : Reading} {used : StructSize} {old mid last new : View} {id at head x : ℕ} {m m' : Meter} → StructBegun us used old mid id at head → 0 < used.data_words + used.pointers →
    (children : CopiesChildren r used.pointers (call_of b mid last id m m') (head + used.data_words)) → x ≡ struct_word (offset_to at (length (segment old.words id))) used.data_words used.pointers →
    new ≡ record last { words = with_word last.words id at x } → new.words ≡ with_segment old.words id (copied (segment old.words id) at (Struct us (kept_each b children.children)))
struct_put {b} {us} {r} {used} {old} {mid} {last} {new} {id} {at} {head} {x} begun some children word writes =
    let M : Segments = old.words in
    let W : List ℕ = segment M id in
    let q : ℕ = used.pointers in
    let zeros : List ℕ = replicate q 0 in
    let ts : Trees = kept_each b children.children in
    let front : List ℕ = W ++ us in
    let id_there : id < length M = there M id at begun.place in
    let long : length us ≡ used.data_words = begun.long in
    let len : count ts ≡ q = kept_each-count b children.children ∙ children.counts in
    let put : last.words ≡ with_segment mid.words id (with_children (segment mid.words id) (length W + length us) ts) = rw (long, sym begun.taken.starts) children.made in
    let shape : W ++ (us ++ zeros) ≡ front ++ zeros = simp append_assoc in
    let filled : with_children (W ++ (us ++ zeros)) (length W + length us) ts ≡ front ++ (pointers 0 ts ++ bodies ts) =
    ap₂ (λ xs i. with_children xs i ts) shape (sym (length-append W us)) ∙ object_children front q ts len in
    let whole : front ++ (pointers 0 ts ++ bodies ts) ≡ W ++ (us ++ pointers 0 ts ++ bodies ts) = simp append_assoc in
    let is : x ≡ pointer (Struct us ts) (offset_to at (length W)) =
    word ∙ ap₂ (struct_word (offset_to at (length W))) (sym long) (sym len) ∙ sym (struct_pointer us ts (offset_to at (length W)) (omega (arith, len, long))) in
    let second = then_written M id (W ++ (us ++ zeros)) (λ xs. with_children xs (length W + length us) ts) (id_there, ap (λ (v : View). v.words) begun.taken.extends) put in
    then_written M id (with_children (W ++ (us ++ zeros)) (length W + length us) ts) (λ xs. set xs at x) (id_there, second) (ap (λ (v : View). v.words) writes)
    ∙ ap (with_segment M id) (ap₂ (λ xs y. set xs at y) (filled ∙ whole) is)
