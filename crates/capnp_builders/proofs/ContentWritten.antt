-- Content written over the data section of a struct: how long the segments are after that, and its
-- bits.
use Rattle.std.proofs.Common.{◌≡◌, ℕ, zero, suc, ◌+◌, ◌-◌, ◌*◌, ◌/◌, ◌%◌, ◌^◌, ◌<◌, min, bit_and, cond, nat_eq, List, length, get_or, refl, ap, ◌∙◌, le_trans, arith, Result, Ok, Err, IfOk, IfErr}
use Rattle.std.proofs.Math.Nat.{mod-eq_of_lt}
use Rattle.std.proofs.lemmas.Nat.{and_mask, pow_below}
use Rattle.std.proofs.lemmas.List.{length-set}
use Rattle.capnp_words.specs.declared.error.ErrorKind.{ErrorKind}
use Rattle.capnp_format.specs.Segments.{Segments, Grows, segment}
use Rattle.capnp_format.specs.Fields.{with_bits, put_field}
use Rattle.capnp_allocation.specs.Zeroed.{IsPruned}
use Rattle.capnp_allocation.proofs.FillingChains.{filled_grows}
use Rattle.capnp_allocation.proofs.Zeros.{lengths_kept}
use Rattle.capnp_pointers.specs.Reading.{Reading}
use Rattle.capnp_copies.specs.Changes.{CopyCall, CopiesChildren, CopiesFirst}
use Rattle.capnp_copies.specs.Forms.{kept_each}
use Rattle.capnp_readers.specs.declared.readers.struct_reader.StructPlace.{StructPlace}
use Rattle.capnp_builders.specs.Content.{content_byte, with_fields, fields_from, with_content}

-- writing fields changes no length

pub fields_long : (S : Segments) (s b w : ℕ) (f : ℕ → ℕ) (n v : ℕ) → length (segment (with_fields S s (fields_from b w f) n) v) ≡ length (segment S v)
fields_long S s b w f zero v = refl
fields_long S s b w f (suc n) v =
    let T : Segments = with_fields S s (fields_from b w f) n in
    let at : ℕ = b + n * w in
    lengths_kept T s (put_field (segment T s) at w (f n)) (length-set (segment T s) (at / 64) (with_bits (get_or (segment T s) (at / 64) 0) (at % 64) w (f n))) v ∙ fields_long S s b w f n v

pub fields_many : (S : Segments) (s b w : ℕ) (f : ℕ → ℕ) (n : ℕ) → length (with_fields S s (fields_from b w f) n) ≡ length S
fields_many S s b w f zero = refl
fields_many S s b w f (suc n) =
    let T : Segments = with_fields S s (fields_from b w f) n in
    length-set T s (put_field (segment T s) (b + n * w) w (f n)) ∙ fields_many S s b w f n

pub content_long : (S : Segments) (place : StructPlace) (bits : ℕ) (bytes : List ℕ) (v : ℕ) → length (segment (with_content S place bits bytes) v) ≡ length (segment S v)
content_long S place bits bytes v =
    fields_long (with_fields S place.segment (fields_from (8 * place.byte) 8 (content_byte bits bytes)) (place.bits / 8)) place.segment (8 * place.byte + place.bits / 8 * 8) 1 (λ j. content_byte bits bytes (place.bits / 8) / 2 ^ j % 2) (place.bits % 8) v
    ∙ fields_long S place.segment (8 * place.byte) 8 (content_byte bits bytes) (place.bits / 8) v

pub content_many : (S : Segments) (place : StructPlace) (bits : ℕ) (bytes : List ℕ) → length (with_content S place bits bytes) ≡ length S
content_many S place bits bytes =
    fields_many (with_fields S place.segment (fields_from (8 * place.byte) 8 (content_byte bits bytes)) (place.bits / 8)) place.segment (8 * place.byte + place.bits / 8 * 8) 1 (λ j. content_byte bits bytes (place.bits / 8) / 2 ^ j % 2) (place.bits % 8)
    ∙ fields_many S place.segment (8 * place.byte) 8 (content_byte bits bytes) (place.bits / 8)

-- the bits of a byte that count

pub byte_masked : (x r : ℕ) → r < 8 → bit_and x (1 * 2 ^ r % 256 - 1) ≡ x % 2 ^ min 8 r
byte_masked x r l =
    let one : 1 * 2 ^ r % 256 ≡ 2 ^ r = ap (λ y. y % 256) (let e : 1 * 2 ^ r ≡ 2 ^ r = omega arith in e) ∙ mod-eq_of_lt (pow_below r 8 l) in
    ap (λ y. bit_and x (y - 1)) one ∙ and_mask x r ∙ ap (λ k. x % 2 ^ k) (let e : r ≡ min 8 r = omega arith in e)

lowest : (y : ℕ) → y < 2 → cond (nat_eq y 1) 1 0 ≡ y
lowest zero l = refl
lowest (suc zero) l = refl
lowest (suc (suc y)) l = absurd (omega arith)

pub bit_is : (x : ℕ) → cond (nat_eq (bit_and x 1) 1) 1 0 ≡ x % 2
bit_is x = ap (λ y. cond (nat_eq y 1) 1 0) (and_mask x 1) ∙ lowest (x % 2) (omega arith)

-- the segments after pointers were copied or one was refused
pub each_grows : (r : Reading) (n : ℕ) (c : CopyCall) (result : Result (Unit {0}) ErrorKind) → IfOk result (λ _. CopiesChildren r n c) → IfErr result (CopiesFirst r n c) → Grows c.old.words c.new.words
each_grows r n c (Ok x) copied refused = filled_grows c.old.words c.new.words c.segment c.at (kept_each c.form copied.children) copied.made
each_grows r n c (Err k) copied refused =
    let first = filled_grows c.old.words refused.filled c.segment c.at refused.first refused.made in
    record { segments = le_trans first.segments refused.cleared.segments; words = λ v. le_trans (first.words v) (refused.cleared.words v) }

-- no segment becomes shorter while a struct's content is written, its pointers become null, and the
-- segments grow
pub content_grows : (S M R : Segments) (place : StructPlace) (bits : ℕ) (bytes : List ℕ) → IsPruned (with_content S place bits bytes) M → Grows M R → Grows S R
content_grows S M R place bits bytes pruned grows = record {
  segments = omega (arith, content_many S place bits bytes, pruned.segments, grows.segments);
  words = λ v. omega (arith, content_long S place bits bytes v, pruned.words v, grows.words v);
}
