-- The words of a segment whose bytes are lent, and those of the message after they were written.
use Rattle.std.proofs.Common.{◌≡◌, ℕ, ◌/◌, List, length, replicate, set, Some, slice_get, sym, ap, ◌∙◌}
use Rattle.std.proofs.lemmas.List.{length-replicate, map-set}
use borrow.Rule.Slice.PartMut.{put_mid}
use Rattle.capnp_format.specs.Bytes.{words_of, message}
use Rattle.capnp_format.specs.Segments.{Segments, segment}
use Rattle.capnp_format.proofs.WordsOf.{words}
use Rattle.capnp_arena_traits.specs.View.{View}
use Rattle.capnp_arena_traits.specs.Written.{overwritten, with_segment}
use Rattle.capnp_arena_traits.proofs.MessageLemmas.{segment-message}

-- The number of words of a segment, from that of its bytes.
pub words_lent : (S : Segments) (B : List (List ℕ)) (s : ℕ) (bs : List ℕ) → S ≡ message B → slice_get B s ≡ Some bs → length (segment S s) ≡ length bs / 8
words_lent S B s bs e f = ap (λ (T : Segments). length (segment T s)) e ∙ ap length (segment-message B s bs f) ∙ words bs

-- An arena after the bytes of a segment were replaced: its words are changed as those of the bytes.
pub lent_written : (old new : View) (B C : List (List ℕ)) (id : ℕ) (bs ws : List ℕ) (f : List ℕ → List ℕ) → new ≡ record old { words = new.words } → old.words ≡ message B → new.words ≡ message C →
    slice_get B id ≡ Some bs → C ≡ set B id ws → words_of ws ≡ f (words_of bs) → new ≡ record old { words = with_segment old.words id (f (segment old.words id)) }
lent_written old new B C id bs ws f only before after there replaced e =
    only ∙ ap (λ (W : Segments). record old { words = W }) (
    after ∙ ap message replaced ∙ map-set words_of B id ws
    ∙ ap (set (message B) id) (e ∙ ap f (sym (segment-message B id bs there)))
    ∙ ap (λ (M : Segments). with_segment M id (f (segment M id))) (sym before)
    )

-- Words after some of them were zeroed, by their number.
pub zeros_over : {ws : List ℕ} (xs : List ℕ) (at n : ℕ) → ws ≡ put_mid at n xs (replicate n 0) → ws ≡ overwritten xs at (replicate n 0)
zeros_over xs at n e = e ∙ ap (λ k. put_mid at k xs (replicate n 0)) (sym (length-replicate n 0))
