-- The packed form of words that C++ and Rust write (the encoding specification's "Packing"): a run
-- is as long as it can be. Other packed bytes can stand for the same words.
use Rattle.std.specs.Prelude.{ℕ, zero, suc, ◌+◌, ◌*◌, Bool, if◌then◌else◌, ◌&&◌, nat_eq, nat_le}
use Rattle.std.specs.Prelude.{List, [], ◌∷◌, ◌++◌, length, take, drop}
use Rattle.std.specs.Int.RustNames.{count_ones}
use Rattle.capnp_packing.specs.Packing.{nonzero_bytes, tag_of_word}

-- The tag of the first word.
abbrev pub first_tag : List ℕ → ℕ
first_tag bytes = tag_of_word (take 8 bytes)

-- Whether there is a first word, and from `least` to `most` of its bytes aren't zero.
abbrev pub has_word : ℕ → ℕ → List ℕ → Bool
has_word least most bytes =
    nat_le 8 (length bytes)
    && (nat_le least (count_ones (first_tag bytes)) && nat_le (count_ones (first_tag bytes)) most)

-- The number of such words at the front, at most n.
unfoldable pub run : ℕ → ℕ → ℕ → List ℕ → ℕ
run least most zero bytes = 0
run least most (suc n) bytes =
    if has_word least most bytes then suc (run least most n (drop 8 bytes)) else 0

-- The number of words that are packed together with the first one: zero words after a zero word;
-- after a word without a zero byte, words that have at most one.
unfoldable pub words_behind : ℕ → List ℕ → ℕ
words_behind tag bytes =
    if nat_eq tag 0 then run 0 0 255 bytes else if nat_eq tag 255 then run 7 8 255 bytes else 0

abbrev pub first_run : List ℕ → ℕ
first_run bytes = words_behind (first_tag bytes) (drop 8 bytes)

-- What a word is packed to, with its tag and the number of words that follow it unpacked.
abbrev pub group_of : ℕ → ℕ → List ℕ → List ℕ → List ℕ
group_of tag n word behind =
    if nat_eq tag 0 then 0 ∷ n ∷ []
    else if nat_eq tag 255 then 255 ∷ (word ++ n ∷ take (8 * n) behind)
    else tag ∷ nonzero_bytes word

abbrev pub first_group : List ℕ → List ℕ
first_group bytes = group_of (first_tag bytes) (first_run bytes) (take 8 bytes) (drop 8 bytes)

-- What bytes are packed to, after the first few of them, which are packed already.
unfoldable pub packed_after : List ℕ → ℕ → List ℕ
packed_after [] skipped = []
packed_after (b ∷ bytes) zero =
    first_group (b ∷ bytes) ++ packed_after bytes (7 + 8 * first_run (b ∷ bytes))
packed_after (b ∷ bytes) (suc skipped) = packed_after bytes skipped

-- What whole words are packed to.
abbrev pub packed_words : List ℕ → List ℕ
packed_words bytes = packed_after bytes 0
