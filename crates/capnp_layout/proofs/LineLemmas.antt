-- Lines are cut from a text one after another.
use Rattle.std.proofs.Common.{◌≡◌, ℕ, suc, zero, ◌+◌, ◌-◌, ◌<◌, ◌≤◌, ◌==◌, not, cond, if◌then◌else◌, Bool, true, false, List, [], ◌∷◌, ◌++◌, length, take, drop, Option, Some, None, Result, Ok, Err, IsErr, refl, ap, sym, ◌∙◌, arith, subst, ◌/◌, ◌^◌, map}
use Rattle.std.specs.List.{All, slice_get, position, position_or_len, prefix_len}
use Rattle.std.proofs.lemmas.Grind.{common_steps}
use Rattle.capnp_layout.specs.Lines.{lines_of, onto_line, segments_of_lines, segments_of, onto_segments}
use Rattle.hex.specs.Hex.{decode_of}
use Rattle.hex.specs.declared.error.FromHexError.{FromHexError}
use Rattle.std.proofs.Common.{rules}

-- some segments, and then those that still have to be read
abbrev pub in_front : List (List ℕ) → Option (List (List ℕ)) → Option (List (List ℕ))
in_front read (Some more) = Some (read ++ more)
in_front read None = None

one-add : (n : ℕ) → 1 + n ≡ suc n
one-add n = omega arith

abbrev feed : ℕ → Bool
feed c = c == 10

lines-at : (xs : List ℕ) → position_or_len feed xs < length xs → lines_of xs ≡ take (position_or_len feed xs) xs ∷ lines_of (drop (suc (position_or_len feed xs)) xs)
unfolding lines_of
lines-at [] h = absurd (omega arith)
lines-at (c ∷ xs) h =
    elim (c == 10) as (λ v. (cond (not v) (1 + position_or_len feed xs) 0 < suc (length xs)) → (if v then [] ∷ lines_of xs else onto_line c (lines_of xs)) ≡ take (cond (not v) (1 + position_or_len feed xs) 0) (c ∷ xs) ∷ lines_of (drop (suc (cond (not v) (1 + position_or_len feed xs) 0)) (c ∷ xs))) [
      | true ↦ λ g. refl
      | false ↦ λ g. rw (one-add) (ap (onto_line c) (lines-at xs (omega arith)))
    ] h

lines-last : (xs : List ℕ) → 0 < length xs → length xs ≤ position_or_len feed xs → lines_of xs ≡ xs ∷ []
unfolding lines_of
lines-last [] some h = absurd (omega arith)
lines-last (c ∷ []) some h =
    elim (c == 10) as (λ v. (1 ≤ cond (not v) 1 0) → (if v then [] ∷ [] else onto_line c []) ≡ (c ∷ []) ∷ []) [
      | true ↦ λ g. absurd (omega arith)
      | false ↦ λ g. refl
    ] h
lines-last (c ∷ d ∷ xs) some h =
    elim (c == 10) as (λ v. (suc (length (d ∷ xs)) ≤ cond (not v) (1 + position_or_len feed (d ∷ xs)) 0) → (if v then [] ∷ lines_of (d ∷ xs) else onto_line c (lines_of (d ∷ xs))) ≡ (c ∷ d ∷ xs) ∷ []) [
      | true ↦ λ g. absurd (omega arith)
      | false ↦ λ g. ap (onto_line c) (lines-last (d ∷ xs) (omega arith) (omega arith))
    ] h

pub last_line : (xs : List ℕ) (n : ℕ) → n ≡ position_or_len feed xs → length xs ≤ n → 0 < length xs → lines_of xs ≡ xs ∷ lines_of []
unfolding lines_of
last_line xs n e h some = lines-last xs some (omega arith)

pub cut_line : (xs : List ℕ) (n : ℕ) → n ≡ position_or_len feed xs → n < length xs → lines_of xs ≡ take n xs ∷ lines_of (take (length xs - (n + 1)) (drop (n + 1) xs))
cut_line xs n e h =
    let below : position_or_len feed xs < length xs = omega arith in
    let whole : take (length xs - (n + 1)) (drop (n + 1) xs) ≡ drop (suc n) xs = grind (arith, common_steps) in
    rw whole (rw e (lines-at xs below))

pub feed_found : (xs : List ℕ) (n : ℕ) → position feed xs ≡ Some n → n ≡ position_or_len feed xs
feed_found xs n e = grind (arith, common_steps)

pub no_feed : (xs : List ℕ) → position feed xs ≡ None → length xs ≡ position_or_len feed xs
no_feed xs e = let most = prefix_len-le (λ c. not (feed c)) xs in grind (arith, common_steps)
  where
    prefix_len-le : (p : ℕ → Bool) (ys : List ℕ) → prefix_len p ys ≤ length ys
    prefix_len-le p [] = omega arith
    prefix_len-le p (y ∷ ys) = elim (p y) as (λ v. cond v (1 + prefix_len p ys) 0 ≤ suc (length ys)) [ true ↦ omega (arith, prefix_len-le p ys) | false ↦ omega arith ]

-- All segments are these and those of a text, whose first line and rest are known.
pub record AtLine (done : List (List ℕ)) (line rest text : List ℕ) (all : Option (List (List ℕ))) : Type 0 where
  pub read : all ≡ in_front done (segments_of text)
  pub lines : lines_of text ≡ line ∷ lines_of rest

at_line : {done : List (List ℕ)} {line rest text : List ℕ} {all : Option (List (List ℕ))} → AtLine done line rest text all → all ≡ in_front done (onto_segments (decode_of line) (segments_of rest))
unfolding segments_of_lines
at_line {done = done} h = h.read ∙ ap (λ (ls : List (List ℕ)). in_front done (segments_of_lines ls)) h.lines

-- one line is read, and the others still have to be read
pub next_line : {done : List (List ℕ)} {line segment rest text : List ℕ} {all : Option (List (List ℕ))} → AtLine done line rest text all → decode_of line ≡ Ok segment → all ≡ in_front (done ++ segment ∷ []) (segments_of rest)
next_line {done = done} {segment = segment} {rest = rest} h decoded =
    at_line h ∙ ap (λ r. in_front done (onto_segments r (segments_of rest))) decoded ∙ step (segments_of rest)
  where
    step : (o : Option (List (List ℕ))) → in_front done (onto_segments (Ok segment) o) ≡ in_front (done ++ segment ∷ []) o
    step (Some more) = grind (arith, common_steps)
    step None = refl

-- a line that isn't pairs of hex digits makes the text invalid
pub bad_line : {done : List (List ℕ)} {line rest text : List ℕ} {all : Option (List (List ℕ))} → AtLine done line rest text all → IsErr (decode_of line) → all ≡ None
bad_line {done = done} {line = line} {rest = rest} h bad = at_line h ∙ ap (in_front done) (spoiled (decode_of line) bad)
  where
    spoiled : (r : Result (List ℕ) FromHexError) → IsErr r → onto_segments r (segments_of rest) ≡ None
    spoiled (Ok x) bad = absurd (search rules)
    spoiled (Err k) bad = refl

-- nothing is left to read
pub all_lines : (done : List (List ℕ)) (all : Option (List (List ℕ))) (rest : List ℕ) → all ≡ in_front done (segments_of rest) → length rest ≡ 0 → all ≡ Some done
unfolding lines_of segments_of_lines
all_lines done all [] e none = e ∙ ap Some (append-nil done)
  where
    append-nil : (xs : List (List ℕ)) → xs ++ [] ≡ xs
    append-nil [] = refl
    append-nil (x ∷ xs) = ap (λ (ys : List (List ℕ)). x ∷ ys) (append-nil xs)
all_lines done all (c ∷ rest) e none = absurd (omega arith)

-- a line is read, and its segment was added after the others
pub kept_line : {A : Type 0} (f : A → List ℕ) (rows : List A) {new : List A} (row : A) {line rest text : List ℕ} {all : Option (List (List ℕ))}
    → new ≡ rows ++ row ∷ [] → AtLine (map f rows) line rest text all → decode_of line ≡ Ok (f row) → all ≡ in_front (map f new) (segments_of rest)
kept_line {A} f rows row {rest = rest} e h decoded = next_line h decoded ∙ ap (λ (xs : List (List ℕ)). in_front xs (segments_of rest)) (sym (ap (map f) e ∙ snoc rows))
  where
    snoc : (xs : List A) → map f (xs ++ row ∷ []) ≡ map f xs ++ f row ∷ []
    snoc [] = refl
    snoc (x ∷ xs) = ap (λ (ys : List (List ℕ)). f x ∷ ys) (snoc xs)

-- the limits of a reader, by the rows that the segments are kept in
pub small_at : {A : Type 0} (f : A → List ℕ) (rows : List A) → All (λ r. length (f r) / 8 < 2 ^ 32) rows
    → (k : ℕ) (s : List ℕ) → slice_get (map f rows) k ≡ Some s → length s / 8 < 2 ^ 32
small_at f [] small k s e = cc
small_at f (r ∷ rows) small zero s e = let same : f r ≡ s = cc in subst (λ (x : List ℕ). length x / 8 < 2 ^ 32) same (small 0 r (omega arith))
small_at f (r ∷ rows) small (suc k) s e = small_at f rows (λ j d less. small (suc j) d (omega arith)) k s e

pub small_all : {A : Type 0} (f : A → List ℕ) (rows : List A) → ((k : ℕ) (s : List ℕ) → slice_get (map f rows) k ≡ Some s → length s / 8 < 2 ^ 32)
    → All (λ r. length (f r) / 8 < 2 ^ 32) rows
small_all f [] small k d less = absurd (omega arith)
small_all f (r ∷ rows) small zero d less = small 0 (f r) refl
small_all f (r ∷ rows) small (suc k) d less = small_all f rows (λ j s e. small (suc j) s e) k d (omega arith)

pub as_many : {A : Type 0} (f : A → List ℕ) (rows : List A) → length (map f rows) ≡ length rows
as_many f [] = refl
as_many f (r ∷ rows) = ap suc (as_many f rows)
