-- The words of a segment that was looked up in C's list.
use Rattle.std.proofs.Common.{◌≡◌, ℕ, ◌+◌, ◌*◌, ◌/◌, ◌^◌, ◌<◌, ◌≤◌, List, [], ◌∷◌, zero, suc, ◌-◌, length, map, get_or, take, refl, arith}
use Rattle.std.proofs.lemmas.List.{length-map, get_or_past}
use Rattle.std.specs.Borrow.{Bor}
use Rattle.capnp_format.specs.Bytes.{words_of}
use Rattle.capnp_format.specs.Segments.{segment}
use Rattle.capnp_arena_traits.specs.Checks.{total_words}
use Rattle.capnp_arena_traits.specs.Limits.{whole, IsSmall}
use Rattle.capnp_arena_traits.proofs.MessageLemmas.{count-wholes, get-wholes, total-more, length-message, length-whole, length-wholes, words-wholes}
use Rattle.capnp_arena.proofs.Looked.{bytes_of, looked_bytes}
use Rattle.capnp_layout_c.specs.Lent.{lent}

pub lent_words : (B : List (Bor (List ℕ))) (id : ℕ) (s : Bor (List ℕ)) → id < length B → s ≡ get_or B id s → words_of (whole s.now) ≡ segment (lent B) id
lent_words B id s there is = words-wholes (bytes_of B) id s.now (looked_bytes B id s there is)

pub lent_length : (B : List (Bor (List ℕ))) (id : ℕ) (s : Bor (List ℕ)) → id < length B → s ≡ get_or B id s → length (whole s.now) ≡ 8 * length (segment (lent B) id)
lent_length B id s there is = length-wholes (bytes_of B) id s.now (looked_bytes B id s there is)

pub lent_small : (B : List (Bor (List ℕ))) (id : ℕ) (s : Bor (List ℕ)) → IsSmall (bytes_of B) → id < length B → s ≡ get_or B id s → length (whole s.now) < 8 * 2 ^ 32
lent_small B id s small there is =
    omega (arith, length-whole s.now, small.1 id s.now (looked_bytes B id s there is))

pub lent_none : (B : List (Bor (List ℕ))) (id : ℕ) → length B ≤ id → segment (lent B) id ≡ []
lent_none B id beyond =
    get_or_past (lent B) id [] (omega (arith, length-message (map whole (bytes_of B)), count-wholes (bytes_of B), length-map B (λ (b : Bor (List ℕ)). b.now), beyond))

same_read : (B : List (Bor (List ℕ))) (i : ℕ) (d e : Bor (List ℕ)) → i < length B → get_or B i d ≡ get_or B i e
same_read [] i d e h = absurd (omega arith)
same_read (b ∷ B) zero d e h = refl
same_read (b ∷ B) (suc i) d e h = same_read B i d e (omega arith)

-- the words of one segment more
pub record OneMore (B : List (Bor (List ℕ))) (i words n : ℕ) : Type 0 where
  pub counted : words + n ≡ total_words (take (i + 1) (map whole (bytes_of B)))
  pub bounded : words + n ≤ (2 ^ 32 - 1) * (i + 1)
  pub fits : words + n < 2 ^ 64

pub one_more : (B : List (Bor (List ℕ))) (i words : ℕ) (d : Bor (List ℕ)) → i < length B → IsSmall (bytes_of B) → words ≡ total_words (take i (map whole (bytes_of B))) → words ≤ (2 ^ 32 - 1) * i → OneMore B i words (length (get_or B i d).now / 8)
one_more B i words d there small counted bounded =
    let s : Bor (List ℕ) = get_or B i d in
    let at = looked_bytes B i s there (same_read B i d s there) in
    let more = total-more (map whole (bytes_of B)) i (whole s.now) (get-wholes (bytes_of B) i s.now at) in
    let few = small.1 i s.now at in
    let many : length (map (λ (b : Bor (List ℕ)). b.now) B) < 2 ^ 32 = small.0 in
    record {
      counted = omega (arith, more, counted, length-whole s.now);
      bounded = omega (arith, few, bounded);
      fits = omega (arith, few, bounded, there, many, length-map B (λ (b : Bor (List ℕ)). b.now));
    }
