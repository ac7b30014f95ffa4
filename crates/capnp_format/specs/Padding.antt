-- The bits after the elements of a list ("Lists").
use Rattle.std.specs.Prelude.{ℕ, ◌*◌, ◌<◌, ◌^◌}
use Rattle.capnp_format.specs.Numbers.{from_digits, element_bits, words_for}
use Rattle.capnp_format.specs.Segments.{Segments, words_at}

-- The n elements of this size, in the words from (s, h) on, have only zero bits after them.
abbrev pub IsPadded : Segments → ℕ → ℕ → ℕ → ℕ → Type 0
IsPadded S s h size n =
    from_digits (2 ^ 64) (words_at S s h (words_for size n)) < 2 ^ (element_bits size * n)
