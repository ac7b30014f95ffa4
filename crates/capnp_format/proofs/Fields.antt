-- Words that are composed again from their fields, and offsets with a sign.
use Rattle.std.proofs.Common.{◌≡◌, ℕ, ℤ, pos, negsuc, ◌^◌, ◌<◌, ap, ◌∙◌, arith}
use Rattle.std.proofs.lemmas.Bool.Decides.{nat_tests}
use Rattle.capnp_format.specs.Word.{kind, offset_bits, signed, offset_field, IsOffset, lower_half, upper_half, data_words, pointer_count, element_size, list_count, is_double, far_position, struct_word, list_word, far_word, capability_word}

pub signed-offset_field : (z : ℤ) → IsOffset z → signed (offset_field z) ≡ z
signed-offset_field (pos n) h = grind (arith, nat_tests)
signed-offset_field (negsuc n) h = grind (arith, nat_tests)

pub offset_field-signed : (b : ℕ) → b < 2 ^ 30 → offset_field (signed b) ≡ b
offset_field-signed b h = grind (arith, nat_tests)

-- a word is composed of its fields, for each kind
pub struct_again : (x : ℕ) → kind x ≡ 0 → struct_word (offset_field (signed (offset_bits x))) (data_words x) (pointer_count x) ≡ x
struct_again x h = ap (λ b. struct_word b (data_words x) (pointer_count x)) (offset_field-signed (offset_bits x) (omega arith)) ∙ omega arith

pub list_again : (x : ℕ) → kind x ≡ 1 → list_word (offset_field (signed (offset_bits x))) (element_size x) (list_count x) ≡ x
list_again x h = ap (λ b. list_word b (element_size x) (list_count x)) (offset_field-signed (offset_bits x) (omega arith)) ∙ omega arith

pub far_again : (x : ℕ) → kind x ≡ 2 → far_word (is_double x) (far_position x) (upper_half x) ≡ x
far_again x h = omega arith

pub capability_again : (x : ℕ) → lower_half x ≡ 3 → capability_word (upper_half x) ≡ x
capability_again x h = omega arith

pub ruleset fields = (signed-offset_field, offset_field-signed, struct_again, list_again, far_again, capability_again)
