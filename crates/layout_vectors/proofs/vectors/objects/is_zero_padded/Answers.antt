use Rattle.std.proofs.Common.{refl, ◌≡◌, ◌*◌, ℕ, [], ◌∷◌, ap₂, ◌∙◌, mul_comm, arith}
use Rattle.std.proofs.lemmas.Bool.{false≢true}
use Rattle.capnp_format.specs.Bytes.{words_of}
use Rattle.capnp_format.specs.Numbers.{element_bits}
use Rattle.capnp_words.specs.Sizes.{size_number}
use Rattle.capnp_format.proofs.WordsOf.{words, small_word}
use Rattle.capnp_format.proofs.Padding.{no_rest, some_rest}
use Rattle.layout_vectors.proofs.vectors.objects.is_zero_padded.Goals as goal

pub word_at-requires : goal.word_at-requires
word_at-requires c =
    let sz : ℕ = size_number c.args.size in
    let bits : c.from.result * c.from-2.result ≡ element_bits sz * c.args.count = ap₂ (λ x y. x * y) c.from.ensures (c.from-2.ensures ∙ c.data_bits_per_element.ensures) ∙ mul_comm c.args.count (element_bits sz) in
    let told = some_rest (words_of c.args.bytes.now ∷ []) 0 c.args.start sz c.args.count (small_word c.args.bytes.now (λ i. omega (arith, c.type_inv.bytes i))) c.requires.inside (rw bits at c.if-rest-eq0.false) in
    omega (arith, told.0, bits, c.requires.inside, words c.args.bytes.now)

pub returns-then-rest-eq0-clause-exactly : goal.returns-then-rest-eq0-clause-exactly
returns-then-rest-eq0-clause-exactly c =
    let sz : ℕ = size_number c.args.size in
    let bits : c.from.result * c.from-2.result ≡ element_bits sz * c.args.count = ap₂ (λ x y. x * y) c.from.ensures (c.from-2.ensures ∙ c.data_bits_per_element.ensures) ∙ mul_comm c.args.count (element_bits sz) in
    let told = no_rest (words_of c.args.bytes.now ∷ []) 0 c.args.start sz c.args.count (small_word c.args.bytes.now (λ i. omega (arith, c.type_inv.bytes i))) c.requires.inside (rw bits at c.if-rest-eq0.true) in
    (λ _. told.0, λ _. refl)

pub returns-then-word_at-rest-eq0-clause-exactly : goal.returns-then-word_at-rest-eq0-clause-exactly
returns-then-word_at-rest-eq0-clause-exactly c =
    let sz : ℕ = size_number c.args.size in
    let bits : c.from.result * c.from-2.result ≡ element_bits sz * c.args.count = ap₂ (λ x y. x * y) c.from.ensures (c.from-2.ensures ∙ c.data_bits_per_element.ensures) ∙ mul_comm c.args.count (element_bits sz) in
    let told = some_rest (words_of c.args.bytes.now ∷ []) 0 c.args.start sz c.args.count (small_word c.args.bytes.now (λ i. omega (arith, c.type_inv.bytes i))) c.requires.inside (rw bits at c.if-rest-eq0.false) in
    (λ _. told.1.1 (rw (c.word_at.ensures, bits) at c.if-word_at-rest-eq0.true), λ _. refl)

pub returns-clause-exactly : goal.returns-clause-exactly
returns-clause-exactly c =
    let sz : ℕ = size_number c.args.size in
    let bits : c.from.result * c.from-2.result ≡ element_bits sz * c.args.count = ap₂ (λ x y. x * y) c.from.ensures (c.from-2.ensures ∙ c.data_bits_per_element.ensures) ∙ mul_comm c.args.count (element_bits sz) in
    let told = some_rest (words_of c.args.bytes.now ∷ []) 0 c.args.start sz c.args.count (small_word c.args.bytes.now (λ i. omega (arith, c.type_inv.bytes i))) c.requires.inside (rw bits at c.if-rest-eq0.false) in
    (λ no. absurd (false≢true no), λ padded. absurd ((rw (c.word_at.ensures, bits) at c.if-word_at-rest-eq0.false) (told.1.0 padded)))

pub returns-then-rest-eq0-clause-small : goal.returns-then-rest-eq0-clause-small
returns-then-rest-eq0-clause-small c = small_word c.args.bytes.now (λ i. omega (arith, c.type_inv.bytes i))

pub returns-then-word_at-rest-eq0-clause-small : goal.returns-then-word_at-rest-eq0-clause-small
returns-then-word_at-rest-eq0-clause-small c = small_word c.args.bytes.now (λ i. omega (arith, c.type_inv.bytes i))

pub returns-clause-small : goal.returns-clause-small
returns-clause-small c = small_word c.args.bytes.now (λ i. omega (arith, c.type_inv.bytes i))
