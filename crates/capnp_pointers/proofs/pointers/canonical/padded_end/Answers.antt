use Rattle.std.proofs.Common.{◌≡◌, ◌+◌, ◌*◌, ◌/◌, ℕ, [], ◌∷◌, sym, ap, ap₂, ◌∙◌, mul_comm, arith}
use Rattle.std.proofs.lemmas.Bool.{false≢true}
use Rattle.capnp_format.specs.Bytes.{words_of}
use Rattle.capnp_format.specs.Numbers.{element_bits}
use Rattle.capnp_words.specs.Sizes.{size_number}
use Rattle.capnp_format.proofs.WordsOf.{words, small_word}
use Rattle.capnp_format.proofs.Padding.{no_rest, some_rest}
use Rattle.capnp_pointers.proofs.pointers.canonical.padded_end.Goals as goal

pub word_at-requires : goal.word_at-requires
word_at-requires c =
    let sz : ℕ = size_number c.args.size in
    let bits : c.from.result * c.from-2.result ≡ element_bits sz * c.args.count = ap₂ (λ x y. x * y) c.from.ensures (c.from-2.ensures ∙ c.data_bits_per_element.ensures) ∙ mul_comm c.args.count (element_bits sz) in
    let told = some_rest (words_of c.args.bytes.now ∷ []) 0 c.args.start sz c.args.count (small_word c.args.bytes.now (λ i. omega (arith, c.type_inv.bytes i))) c.requires.inside (rw bits at c.if-rest-eq0.false) in
    omega (arith, told.0, bits, c.requires.inside, words c.args.bytes.now)

pub returns-then-rest-eq0-clause-tells : goal.returns-then-rest-eq0-clause-tells
returns-then-rest-eq0-clause-tells c =
    let sz : ℕ = size_number c.args.size in
    let bits : c.from.result * c.from-2.result ≡ element_bits sz * c.args.count = ap₂ (λ x y. x * y) c.from.ensures (c.from-2.ensures ∙ c.data_bits_per_element.ensures) ∙ mul_comm c.args.count (element_bits sz) in
    let told = no_rest (words_of c.args.bytes.now ∷ []) 0 c.args.start sz c.args.count (small_word c.args.bytes.now (λ i. omega (arith, c.type_inv.bytes i))) c.requires.inside (rw bits at c.if-rest-eq0.true) in
    (told.0, ap (λ b. c.args.start + b / 64) bits ∙ ap (λ w. c.args.start + w) (sym told.1))

pub returns-clause-tells : goal.returns-clause-tells
returns-clause-tells c =
    let sz : ℕ = size_number c.args.size in
    let bits : c.from.result * c.from-2.result ≡ element_bits sz * c.args.count = ap₂ (λ x y. x * y) c.from.ensures (c.from-2.ensures ∙ c.data_bits_per_element.ensures) ∙ mul_comm c.args.count (element_bits sz) in
    let told = some_rest (words_of c.args.bytes.now ∷ []) 0 c.args.start sz c.args.count (small_word c.args.bytes.now (λ i. omega (arith, c.type_inv.bytes i))) c.requires.inside (rw bits at c.if-rest-eq0.false) in
    (told.1.1 (rw (c.word_at.ensures, bits) at (c.is_zero_from.ensures.0 c.if-not-is_zero_from.false)), omega (arith, told.0, bits))

pub returns-then-not-is_zero_from-clause-never : goal.returns-then-not-is_zero_from-clause-never
returns-then-not-is_zero_from-clause-never c =
    let sz : ℕ = size_number c.args.size in
    let bits : c.from.result * c.from-2.result ≡ element_bits sz * c.args.count = ap₂ (λ x y. x * y) c.from.ensures (c.from-2.ensures ∙ c.data_bits_per_element.ensures) ∙ mul_comm c.args.count (element_bits sz) in
    let told = some_rest (words_of c.args.bytes.now ∷ []) 0 c.args.start sz c.args.count (small_word c.args.bytes.now (λ i. omega (arith, c.type_inv.bytes i))) c.requires.inside (rw bits at c.if-rest-eq0.false) in
    λ padded. false≢true (sym c.if-not-is_zero_from.true ∙ c.is_zero_from.ensures.1 (rw (c.word_at.ensures, bits) (told.1.0 padded)))

pub returns-then-not-is_zero_from-clause-word : goal.returns-then-not-is_zero_from-clause-word
returns-then-not-is_zero_from-clause-word c =
    let sz : ℕ = size_number c.args.size in
    let bits : c.from.result * c.from-2.result ≡ element_bits sz * c.args.count = ap₂ (λ x y. x * y) c.from.ensures (c.from-2.ensures ∙ c.data_bits_per_element.ensures) ∙ mul_comm c.args.count (element_bits sz) in
    let told = some_rest (words_of c.args.bytes.now ∷ []) 0 c.args.start sz c.args.count (small_word c.args.bytes.now (λ i. omega (arith, c.type_inv.bytes i))) c.requires.inside (rw bits at c.if-rest-eq0.false) in
    omega (arith, told.0, bits)
