-- Messages, and where a pointer word leads ("Messages", "Inter-Segment Pointers"). A message is a
-- list of segments, and a segment a list of words. A place (s, p) is a segment's number s and a
-- word position p in it. All functions here are total: a missing segment has no words, a missing
-- word is 0, and the result for a pointer that leads nowhere is None.
use Rattle.std.specs.Prelude.{◌≡◌, ℕ, ◌+◌, ◌-◌, ◌<◌, ◌≤◌, ◌^◌, zero, suc, Bool, if◌then◌else◌, ◌&&◌}
use Rattle.std.specs.Prelude.{List, [], length, get_or, take, drop, nat_lt, nat_le, nat_eq, Option}
use Rattle.std.specs.Prelude.{Some, None}
use Rattle.capnp_format.specs.Word.{kind, offset_bits, is_double, far_position, upper_half}

-- A message: its segments in order, each as its words ("Messages").
abbrev pub Segments : Type 0
Segments = List (List ℕ)

-- The words of segment s; none if there is no such segment ("Messages").
abbrev pub segment : Segments → ℕ → List ℕ
segment S s = get_or S s []

-- The word at (s, p); 0 if there is none ("Messages").
abbrev pub word_at : Segments → ℕ → ℕ → ℕ
word_at S s p = get_or (segment S s) p 0

-- The n words from (s, p) on; fewer if the segment ends before ("Messages").
abbrev pub words_at : Segments → ℕ → ℕ → ℕ → List ℕ
words_at S s p n = take n (drop p (segment S s))

-- The words from (s, p) on are ws ("Messages").
abbrev pub HasWords : Segments → ℕ → ℕ → List ℕ → Type 0
HasWords S s p ws = words_at S s p (length ws) ≡ ws

-- There is a word at (s, p) ("Messages").
abbrev pub IsPlace : Segments → ℕ → ℕ → Type 0
IsPlace S s p = p < length (segment S s)

-- Each word of the message has 64 bits ("Messages").
abbrev pub AreWords : Segments → Type 0
AreWords S = (s p : ℕ) → word_at S s p < 2 ^ 64

-- Each word of segment s has 64 bits.
abbrev pub HasSmallWords : Segments → ℕ → Type 0
HasSmallWords S s = (p : ℕ) → word_at S s p < 2 ^ 64

-- R has at least the segments of S, each at least as long.
pub record Grows (S R : Segments) : Type 0 where
  pub segments : length S ≤ length R
  pub words : (u : ℕ) → length (segment S u) ≤ length (segment R u)

-- What a pointer leads to: the word that describes the object (the pointer itself, or the pad or
-- tag of a far pointer), the segment and position where the object starts, and the number of words
-- of landing pads that were read ("Structs", "Lists", "Inter-Segment Pointers").
pub record Target : Type 0 where
  pub word : ℕ
  pub segment : ℕ
  pub start : ℕ
  pub pads : ℕ

-- The result of f on x; None if there is no x.
infixl 10 ◌>>=◌
abbrev pub ◌>>=◌ : {A B : Type 0} → Option A → (A → Option B) → Option B
(Some x) >>= f = f x
None >>= f = None

-- x if the test b passes; otherwise None.
abbrev pub given : {A : Type 0} → Bool → A → Option A
given b x = if b then Some x else None

-- Where an offset with these 30 bits leads, from position p of a segment of n words. It is signed
-- and counts from the word after the pointer. The object may start anywhere from word 0 to the end
-- of the segment, inclusive ("Structs").
abbrev pub offset_leads : ℕ → ℕ → ℕ → Option ℕ
offset_leads n p bits =
    let there = p + 1 + bits in
    if nat_lt bits (2 ^ 29) then given (nat_le there n) there
    else given (nat_le (2 ^ 30) there && nat_le there (n + 2 ^ 30)) (there - 2 ^ 30)

-- Where the word x at (s, p) leads, if x isn't a far pointer and `pads` words of landing pads were
-- read before it ("Structs", "Lists").
abbrev pub near : Segments → ℕ → ℕ → ℕ → ℕ → Option Target
near S s p x pads = offset_leads (length (segment S s)) p (offset_bits x) >>= λ b.
    Some (record { word = x; segment = s; start = b; pads = pads })

-- The first word of the landing pad of the far pointer x, if it and the n words after it are inside
-- their segment ("Inter-Segment Pointers").
abbrev pub pad : Segments → ℕ → ℕ → Option ℕ
pad S x n =
    given (nat_lt (far_position x + n) (length (segment S (upper_half x))))
    (word_at S (upper_half x) (far_position x))

-- Where the far pointer x leads ("Inter-Segment Pointers"). If its landing pad is one word, that is
-- an ordinary pointer, read at the pad's own place. If it is two, the first names the segment and
-- position of the object in the form of a far pointer, whose kind and flag are ignored; the second
-- is a tag that describes the object, and its offset is ignored. The segment that the first names
-- must exist. Neither the pad of one word nor the tag may itself be a far pointer.
abbrev pub far : Segments → ℕ → ℕ → Option Target
far S x zero =
    pad S x 0 >>= λ w.
    if nat_eq (kind w) 2 then None else near S (upper_half x) (far_position x) w 1
far S x (suc _) =
    pad S x 1 >>= λ f.
    let w = word_at S (upper_half x) (far_position x + 1) in
    if nat_eq (kind w) 2 then None else given (nat_lt (upper_half f) (length S))
    (record { word = w; segment = upper_half f; start = far_position f; pads = 2 })

-- Where the word at (s, p) leads, if it isn't zero ("Structs", "Lists", "Inter-Segment Pointers").
abbrev pub leads : Segments → ℕ → ℕ → Option Target
leads S s p =
    let x = word_at S s p in
    if nat_eq (kind x) 2 then far S x (is_double x) else near S s p x 0
