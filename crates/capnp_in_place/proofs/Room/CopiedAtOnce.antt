-- Words copied over others at once.
use Rattle.std.proofs.Common.{◌≡◌, ℕ, ◌+◌, ◌≤◌, [], ◌∷◌, length, get_or, sym, ap, ◌∙◌, subst, arith}
use Rattle.capnp_format.specs.Segments.{Segments, segment, word_at, words_at}
use Rattle.capnp_format.specs.Forest.{times}
use Rattle.capnp_format.proofs.Slices.{length_words, word_in_part}
use Rattle.capnp_arena_traits.specs.Written.{with_word, with_words}
use Rattle.capnp_allocation.specs.Zeroed.{row}
use Rattle.capnp_allocation.proofs.MadeWords.{word_put}
use Rattle.capnp_allocation.proofs.WordsPut.{words_put}
use Rattle.capnp_in_place.specs.Housed.{AreWordsCopied}

pub copied_at_once : (S R : Segments) (s p v r n : ℕ) → p + n ≤ length (segment S s) → r + n ≤ length (segment S v) → R ≡ with_words S v r (words_at S s p n) → AreWordsCopied S R (record { segment = s; at = p }) (record { segment = v; at = r }) n
copied_at_once S R s p v r n there inside e =
    let ws = words_at S s p n in
    let long : length ws ≡ n = length_words S s p n there in
    let put = words_put S R v r ws (omega (arith, inside, long)) e in
    let now : words_at R v r n ≡ ws = subst (λ m. words_at R v r m ≡ ws) long put.here in
    record {
      segments = put.long.segments;
      words = put.long.words;
      here = λ i l. sym (word_in_part R v r n i l) ∙ ap (λ xs. get_or xs i 0) now ∙ word_in_part S s p n i l;
      kept = λ x y h. put.kept x y (subst (λ m. times (row v r m ∷ []) x y ≡ 0) (sym long) h);
    }

-- One word is copied by itself.
pub word_copied : (S R : Segments) (s p v r x n : ℕ) → n ≡ 1 → r + n ≤ length (segment S v) → x ≡ word_at S s p → R ≡ with_word S v r x → AreWordsCopied S R (record { segment = s; at = p }) (record { segment = v; at = r }) n
word_copied S R s p v r x n one inside read e =
    let put = word_put S R v r x (omega (arith, one, inside)) e in
    subst (λ m. AreWordsCopied S R (record { segment = s; at = p }) (record { segment = v; at = r }) m) (sym one) (record {
      segments = put.segments;
      words = put.words;
      here = λ i l.
          (let first : i ≡ 0 = omega (arith, l) in
          let there : r + i ≡ r = omega (arith, first) in
          let from : p ≡ p + i = omega (arith, first) in
          ap (word_at R v) there ∙ put.here ∙ read ∙ ap (word_at S s) from);
      kept = put.kept;
    })
