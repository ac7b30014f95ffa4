-- The worked examples: each is computed.
use Rattle.std.proofs.Common.{inr, get_or, ap, ◌≡◌, ℕ, zero, suc, length, ◌<◌, ◌≤◌, List, [], ◌∷◌, Option, Some, None, option_map, refl, subst, arith}
use Rattle.std.proofs.lemmas.Option.{some_pair_parts}
use Rattle.std.proofs.lemmas.Bool.Decides.{nat_tests}
use Rattle.capnp_format.specs.Segments.{Segments, segment, word_at}
use Rattle.capnp_format.specs.Tree.{Tree, Struct, no_trees, tree}
use Rattle.capnp_format.specs.Means.{Means}
use Rattle.capnp_format.specs.Decode.{decode}
use Rattle.capnp_format.specs.Canonical.{trim, encoding}
use Rattle.capnp_format.specs.Forest.{times, cover, root, IsForest}
use Rattle.capnp_format.specs.Examples.{HasCanonicalWords, MeansNothing, shared_child}
use Rattle.capnp_format.proofs.laws.examples.worked_examples.Goals as goal
use Rattle.capnp_format.proofs.Levels.{one_value}
use Rattle.capnp_format.proofs.Sound.{decode_means, at_some}
use Rattle.capnp_format.proofs.Nulls.{decode_none}
use Rattle.capnp_format.proofs.ManyEmpty.{many_means}

-- the canonical words and the cost of a value that was read
abbrev words_and_cost : Option (Tree × ℕ) → Option (List ℕ × ℕ)
words_and_cost o = option_map {U = List ℕ × ℕ} (λ x. (encoding (trim x.0), x.1)) o

from_read : {c : ℕ} {words : List ℕ} (S : Segments) (n : ℕ) (o : Option (Tree × ℕ)) → decode S n 0 0 ≡ o → words_and_cost o ≡ Some (words, c) → HasCanonicalWords S n c words
from_read {c = c} {words = words} S n (Some x) e h =
    let both = some_pair_parts (encoding (trim x.0)) words x.1 c h in
    (x.0, subst (λ k. Means S n 0 0 x.0 k) both.1 (at_some _ (decode S n 0 0) x e (decode_means S n 0 0)), both.0)
from_read S n None e h = absurd (cc h)

canonical_words : (S : Segments) (n c : ℕ) (words : List ℕ) → words_and_cost (decode S n 0 0) ≡ Some (words, c) → HasCanonicalWords S n c words
canonical_words S n c words h = from_read S n (decode S n 0 0) refl h

means_nothing : (S : Segments) (n : ℕ) → decode S n 0 0 ≡ None → MeansNothing S n
means_nothing S n e t c h = decode_none {S = S} {n = n} {s = 0} {p = 0} {c = c} {t = t} e (record { means = h })

-- two equal children, and the message of one struct, which has one word
abbrev two_children : Tree
two_children = Struct [] (tree (Struct (9 ∷ []) no_trees) (tree (Struct (9 ∷ []) no_trees) no_trees))

abbrev one_word : Segments
one_word = (0x00000001_00000000 ∷ 9 ∷ 0 ∷ []) ∷ []

twice_meant : Means shared_child 2 0 0 two_children 4
unfolding decode
twice_meant = at_some (λ (x : Tree × ℕ). Means shared_child 2 0 0 x.0 x.1) (decode shared_child 2 0 0) (two_children, 4) refl (decode_means shared_child 2 0 0)

not_apart : (t : Tree) → IsForest shared_child t → ⊥
not_apart t h =
    let same = (one_value shared_child h.means.0 2 0 0 t two_children h.means.1 4 h.means.2 twice_meant).0 in
    let most : times (root ∷ cover shared_child 0 0 two_children) 0 3 ≤ 1 = subst (λ u. times (root ∷ cover shared_child 0 0 u) 0 3 ≤ 1) same (h.apart 0 3) in
    omega arith

-- a struct of one word after the root, and a word of zero
once : (u q : ℕ) → times (root ∷ cover one_word 0 0 (Struct (9 ∷ []) no_trees)) u q ≤ 1
once u q = grind (arith, nat_tests)

held_inside : (u q : ℕ) → 0 < times (root ∷ cover one_word 0 0 (Struct (9 ∷ []) no_trees)) u q → q < length (segment one_word u)
held_inside zero q l = grind (arith, nat_tests)
held_inside (suc u) q l = absurd (grind (arith, nat_tests))

zero_elsewhere : (u q : ℕ) → times (root ∷ cover one_word 0 0 (Struct (9 ∷ []) no_trees)) u q ≡ 0 → word_at one_word u q ≡ 0
zero_elsewhere zero zero e = absurd (omega (arith, e))
zero_elsewhere zero (suc zero) e = absurd (omega (arith, e))
zero_elsewhere zero (suc (suc zero)) e = refl
zero_elsewhere zero (suc (suc (suc q))) e = refl
zero_elsewhere (suc u) q e = refl

one_word_meant : Means one_word 1 0 0 (Struct (9 ∷ []) no_trees) 1
unfolding decode
one_word_meant = at_some (λ (x : Tree × ℕ). Means one_word 1 0 0 x.0 x.1) (decode one_word 1 0 0) (Struct (9 ∷ []) no_trees, 1) refl (decode_means one_word 1 0 0)

no_word : (u q : ℕ) → word_at ([] ∷ []) u q ≡ 0
no_word zero q = refl
no_word (suc u) q = refl

pub returns : goal.returns
unfolding decode
returns c = record {
  null_root = canonical_words _ 0 _ _ refl;
  trimmed_struct = canonical_words _ 64 _ _ refl;
  narrowed_struct_list = canonical_words _ 64 _ _ refl;
  widest_element = canonical_words _ 64 _ _ refl;
  empty_struct = canonical_words _ 64 _ _ refl;
  empty_struct_elsewhere = canonical_words _ 64 _ _ refl;
  bit_padding = canonical_words _ 64 _ _ refl;
  far_pointer = canonical_words _ 64 _ _ refl;
  far_to_zero_pad = canonical_words _ 64 _ _ refl;
  double_far = canonical_words _ 64 _ _ refl;
  double_far_outside = means_nothing _ 64 refl;
  own_child = means_nothing _ 64 refl;
  pointer_list = (canonical_words _ 2 _ _ refl, means_nothing _ 1 refl);
  backward_pointer = canonical_words _ 64 _ _ refl;
  claim_outside = means_nothing _ 64 refl;
  three_segments = canonical_words _ 64 _ _ refl;
  shared_child = canonical_words _ 64 _ _ refl;
  crossed_children = canonical_words _ 64 _ _ refl;
  inner_struct = (canonical_words _ 2 _ _ refl, means_nothing _ 1 refl);
  capability = (record { word = 0x00000005_00000003; segment = 0; start = 1; pads = 0 }, (λ q. omega arith, refl), refl, refl);
  many_structs = many_means 1073741823 refl;
  struct_kind = refl;
  struct_offset = refl;
  struct_data = refl;
  struct_pointers = refl;
  struct_made = refl;
  negative_offset = refl;
  list_kind = refl;
  list_of_bits = refl;
  eleven_elements = refl;
  list_made = refl;
  tag_elements = refl;
  far_kind = refl;
  far_segment = refl;
  single = refl;
  double = refl;
  double_position = refl;
  far_made = refl;
  capability_kind = refl;
  capability_made = refl;
  lowest_byte_first = refl;
  two_segments = refl;
  sizes = refl;
  number_of_digits = refl;
  digits_of_number = refl;
  bits = refl;
  bits_packed = refl;
  bytes = refl;
  two_bytes = refl;
  four_bytes = refl;
  eight_bytes = refl;
  nothing = refl;
  nothing_packed = refl;
  sixty_five_bits = refl;
  nine_bytes = refl;
  second_segment = refl;
  no_third_segment = refl;
  second_word = refl;
  no_second_word = refl;
  last_words = refl;
  has_words = refl;
  place = omega arith;
  no_place = λ h. absurd (omega (arith, h));
  forward = refl;
  backward = refl;
  to_the_end = refl;
  past_the_end = refl;
  to_the_front = refl;
  before_the_front = refl;
  in_its_segment = refl;
  by_one_pad = refl;
  by_two_pads = refl;
  far_to_far = refl;
  no_such_segment = refl;
  second_pad_outside = refl;
  two_elements = refl;
  three_children = refl;
  two_levels = refl;
  one_capability = refl;
  three_levels = refl;
  is_value = (omega arith, omega arith, (omega arith, tt), tt);
  too_large_a_byte = λ h. absurd (omega (arith, h.2.0));
  another_width = λ h. absurd (omega (arith, h.4.0));
  inner_zero_stays = refl;
  nulls_at_the_end = refl;
  cut_at_the_ends = refl;
  least_widths = refl;
  no_elements_no_widths = refl;
  pointer_list_keeps_nulls = refl;
  words_of_struct = refl;
  words_of_elements = refl;
  cost_of_elements = refl;
  cost_of_no_width = refl;
  cost_of_void = refl;
  null_pointer = refl;
  empty_struct_pointer = refl;
  struct_pointer = refl;
  void_list_pointer = refl;
  body_of_elements = refl;
  canonical_words = refl;
  offset_behind = refl;
  offset_before = refl;
  farthest_forward = (omega arith, omega arith);
  too_far_forward = λ h. absurd (omega (arith, h.0));
  farthest_back = (omega arith, omega arith);
  too_far_back = λ h. absurd (omega (arith, h.1));
  offsets_fit = ((tt, (omega arith, (tt, tt))), (tt, (tt, (tt, tt))));
  stands = (omega arith, (omega arith, omega arith, (omega arith, tt), tt), refl, refl, (tt, tt), ((omega arith, omega arith), refl, refl));
  stands_nowhere_else = λ h. absurd (let e : 0x00000001_00000000 ≡ 0x00000001_00000004 = h.5.1 in omega arith);
  far_cover = refl;
  held_once_and_twice = (refl, refl);
  no_forest = not_apart;
  untidy_padding = λ h. absurd (let e : 0x00000000_00000fee ≡ 0x00000000_000007ee = ap (λ ws. get_or ws 0 0) h in omega arith);
  tidy_padding = refl;
  forest = record { means = (1, 1, one_word_meant); apart = once; inside = held_inside; zero_elsewhere = zero_elsewhere; tidy = tt };
  no_words_yet = inr (refl, refl, no_word);
}
