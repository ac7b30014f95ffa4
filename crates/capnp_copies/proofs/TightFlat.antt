-- A list of numbers, in place after the words of its pointer's segment.
use Rattle.std.proofs.Common.{◌≡◌, ℕ, ◌++◌, List, length, set, replicate, refl, sym, ap, ◌∙◌}
use Rattle.std.proofs.lemmas.List.{set-append_left}
use Rattle.capnp_format.specs.Numbers.{words_for, packed}
use Rattle.capnp_format.specs.Segments.{Segments, segment, IsPlace}
use Rattle.capnp_format.specs.Tree.{Flat}
use Rattle.capnp_format.specs.Word.{list_word}
use Rattle.capnp_arena_traits.specs.Written.{with_segment, with_word, with_words, extended}
use Rattle.capnp_allocation.specs.Near.{offset_to_end, with_object}
use Rattle.capnp_allocation.proofs.NearMade.{long_as}
use Rattle.capnp_copies.proofs.Copied.{copied}
use Rattle.capnp_copies.proofs.Copying.{there}
use Rattle.capnp_copies.proofs.Padding.{all_written}
use Rattle.capnp_copies.proofs.PointersFirst.{place_kept}
use Rattle.capnp_copies.proofs.SegmentsWritten.{then_written}

pub flat_near : {R : Segments} (S : Segments) (s p size : ℕ) (ns ws : List ℕ) → IsPlace S s p → length ws ≡ words_for size (length ns) → ws ≡ packed size ns →
    R ≡ with_words (with_object S s p (list_word (offset_to_end S s p) size (length ns)) (replicate (words_for size (length ns)) 0)) s (length (segment S s)) ws → R ≡ with_segment S s (copied (segment S s) p (Flat size ns))
flat_near {R} S s p size ns ws l long packs made =
    let x : ℕ = list_word (offset_to_end S s p) size (length ns) in
    let P : Segments = with_word S s p x in
    let W : List ℕ = segment S s in
    let extends : R ≡ extended P s ws = made ∙ all_written P s ws (there P s p (place_kept S s p x l)) (sym (long_as S s p x)) long in
    then_written S s _ (λ xs. xs ++ ws) (there S s p l, refl) extends ∙ ap (with_segment S s) (sym (set-append_left W ws p x l) ∙ ap (λ ys. set (W ++ ys) p x) packs)
