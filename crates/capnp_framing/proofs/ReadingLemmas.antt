-- What is read in pieces is read as a whole.
use Rattle.std.proofs.Common.{Bool, true, false, ◌≡◌, ℕ, zero, suc, ◌+◌, ◌-◌, ◌*◌, ◌/◌, ◌^◌, ◌<◌, ◌≤◌, inl, inr, List, [], ◌∷◌, ◌++◌, length, get_or, take, drop, replicate, refl, sym, ap, ap₂, ◌∙◌, subst, arith, length-append, length-take, length-drop, get_or-drop, append-nil, append_assoc, take-add, take_at, drop_at, drop-drop, take-append-drop, slice_get, Option, Some, None, IfSome}
use Rattle.std.specs.List.{All}
use Rattle.std.specs.Int.{from_le_bytes, to_le_bytes, w32, w64}
use Rattle.std.specs.Io.KnownBytes.{Consumes}
use Rattle.std.proofs.lemmas.Grind.{common_steps}
use Rattle.std.proofs.lemmas.List.{take-append-le, drop-append-le, length-replicate}
use Rattle.std.proofs.lemmas.Nat.{from_le_bytes-to_le_bytes_4, le_bytes_4}
use Rattle.capnp_format.specs.Bytes.{message, words_of}
use Rattle.capnp_framing.proofs.TableLemmas.{length-lengths}
use borrow.Rule.Slice.PartMut.{put_mid}
use Rattle.capnp_format.specs.Segments.{Segments}
use Rattle.capnp_format.proofs.WordsOf.{words}
use Rattle.std.proofs.lemmas.List.Elements.{All-head, All-tail}
use Rattle.capnp_framing.specs.Frames.{AreSegmentWords, IsFrameOf, bytes_of_words, contents, frame, frame_with, lengths, padding_size}
use Rattle.capnp_framing.specs.Reading.{HasTable, NoFrame, WhyUnread, words_in_table, segments_told, table_size, count_cut, table_cut, too_long, too_many, total, words_cut, words_told}
use Rattle.capnp_framing.specs.declared.framing.frame_error.FrameError.TheVariants.{MessageTooLong, Truncated}
use Rattle.capnp_framing.specs.declared.devices.Input.{Ghosts}
use Rattle.capnp_framing.specs.declared.framing.frame_error.FrameError.{FrameError}

-- some bytes are read, and then more
pub consumes_both : (a b c : Option (List ℕ)) (first more : List ℕ) → Consumes a b first → Consumes b c more → Consumes a c (first ++ more)
consumes_both None b c first more f g = tt
consumes_both (Some x) None c first more f g = absurd f
consumes_both (Some x) (Some y) None first more f g = absurd g
consumes_both (Some x) (Some y) (Some z) first more f g = grind (arith, common_steps)

-- an input that ends too early after some bytes ends too early for these and more
cut_later : (a b : Option (List ℕ)) (xs : List ℕ) (n m : ℕ) → Consumes a b xs → length xs + n ≤ m → IfSome b (λ bytes. length bytes < n) → IfSome a (λ bytes. length bytes < m)
cut_later None b xs n m f l h = tt
cut_later (Some x) None xs n m f l h = absurd f
cut_later (Some x) (Some y) xs n m f l h = omega (arith, ap length f, length-append xs y, h)

module _ {R : Type 0} (g : Ghosts R) where
  -- fewer bytes came than were requested, after some that had come
  pub unread_later : (from mid to : R) (xs : List ℕ) (n m : ℕ) (e : FrameError) → Consumes (g.remaining from) (g.remaining mid) xs → length xs + n ≤ m → WhyUnread g mid to n e → WhyUnread g from to m e
  unread_later from mid to xs n m e f l h = record {
    why = elim h.why [
      | inl a ↦ inl a
      | inr u ↦ elim u [
        | inl short ↦ inr (inl (short.0, cut_later (g.remaining from) (g.remaining mid) xs n m f l short.1))
        | inr failed ↦ inr (inr failed)
      ]
    ];
    failed = h.failed;
    cut = h.cut;
  }

-- a call that works hasn't failed
pub not_failed : {P : Type 0} (b : Bool) → b ≡ false → b ≡ true → P
not_failed b works failed = absurd (let wrong : ⊥ = cc in wrong)

-- k more bytes are read over those after the first n
pub read_on : (a b c : Option (List ℕ)) (n k : ℕ) (xs part : List ℕ) → n ≤ length xs → Consumes a b (take n xs) → Consumes b c (take k part) → Consumes a c (take (n + k) (take n xs ++ part))
read_on a b c n k xs part l f h =
    let size : length (take n xs) ≡ n = omega (arith, length-take n xs) in
    subst (Consumes a c) (sym (take-add n k (take n xs ++ part) ∙ ap₂ (λ (us vs : List ℕ). us ++ take k vs) (take_at (take n xs) part n size) (drop_at (take n xs) part n size)))
    (consumes_both a b c (take n xs) (take k part) f h)

pub read_over : (a b c : Option (List ℕ)) (n k m : ℕ) (xs part : List ℕ) → n ≤ length xs → k ≤ length part → Consumes a b (take n xs) → Consumes b c (take k part) → Consumes a c (take (n + k) (put_mid n m xs part))
read_over a b c n k m xs part l h f g = read_on a b c n k xs (part ++ drop m (drop n xs)) l f (subst (Consumes b c) (sym (take-append-le k part (drop m (drop n xs)) h)) g)

-- bytes after the first n are read, and the first n stay
pub read_more : (a b c : Option (List ℕ)) (n end : ℕ) (xs ys : List ℕ) → n ≤ end → take n ys ≡ take n xs → Consumes a b (take n xs) → Consumes b c (take (end - n) (drop n ys)) → Consumes a c (take end ys)
read_more a b c n end xs ys l same f g =
    subst (Consumes a c) (sym (ap (λ k. take k ys) (let e : end ≡ n + (end - n) = omega arith in e) ∙ take-add n (end - n) ys))
    (consumes_both a b c (take n ys) (take (end - n) (drop n ys)) (subst (Consumes a b) (sym same) f) g)

-- bytes are read into the room after the first n, which was made longer and lent
pub filled_behind : (a b c : Option (List ℕ)) (n end len : ℕ) (old room lent xs : List ℕ) → length xs ≡ len → n ≤ end → take n xs ≡ take n lent → lent ≡ room → take n room ≡ take n old →
    Consumes a b (take n old) → Consumes b c (take (end - n) (drop n xs)) → Consumes a c (take end (take len (xs ++ drop (length xs) room)))
filled_behind a b c n end len old room lent xs long less front value kept f g =
    let same : take n xs ≡ take n old = front ∙ ap (take n) value ∙ kept in
    subst (λ (ys : List ℕ). Consumes a c (take end ys)) (sym (take_at xs (drop (length xs) room) len long)) (read_more a b c n end old xs less same f g)

pub told_fewer : (i n : ℕ) (bs : List ℕ) → i ≤ n → words_told i bs ≤ words_told n bs
told_fewer zero n bs h = omega arith
told_fewer (suc i) zero bs h = absurd (omega arith)
told_fewer (suc i) (suc n) bs h = omega (arith, told_fewer i n (drop 4 bs) (omega arith))

-- the number of words with one more length
pub told_more : (i : ℕ) (bs : List ℕ) → words_told (i + 1) bs ≡ words_told i bs + from_le_bytes w32 (take 4 (drop (4 * i) bs))
told_more i bs = rw (let e : i + 1 ≡ suc i = omega arith in e) (go i bs)
  where
    go : (i : ℕ) (bs : List ℕ) → words_told (suc i) bs ≡ words_told i bs + from_le_bytes w32 (take 4 (drop (4 * i) bs))
    go zero bs = omega arith
    go (suc i) bs =
        let there : drop (4 * i) (drop 4 bs) ≡ drop (4 * suc i) bs = drop-drop (4 * i) 4 bs ∙ ap (λ n. drop n bs) (let e : 4 + 4 * i ≡ 4 * suc i = omega arith in e) in
        let h : words_told (suc i) (drop 4 bs) ≡ words_told i (drop 4 bs) + from_le_bytes w32 (take 4 (drop (4 * suc i) bs)) =
        go i (drop 4 bs) ∙ ap (λ (xs : List ℕ). words_told i (drop 4 bs) + from_le_bytes w32 (take 4 xs)) there in
        omega (arith, h)

below_drop : (n : ℕ) (bs : List ℕ) → ((i : ℕ) → get_or bs i 0 < 256) → (i : ℕ) → get_or (drop n bs) i 0 < 256
below_drop n bs l i = omega (arith, get_or-drop n bs i 0, l (n + i))

-- only the lengths themselves are read
pub told_front : (n : ℕ) (xs ys zs : List ℕ) → 4 * n ≤ length xs → words_told n (xs ++ ys) ≡ words_told n (xs ++ zs)
told_front zero xs ys zs h = refl
told_front (suc n) xs ys zs h =
    ap₂ (λ us k. from_le_bytes w32 us + k)
    (take-append-le 4 xs ys (omega arith) ∙ sym (take-append-le 4 xs zs (omega arith)))
    (ap (words_told n) (drop-append-le 4 xs ys (omega arith)) ∙ told_front n (drop 4 xs) ys zs (omega (arith, length-drop 4 xs)) ∙ ap (words_told n) (sym (drop-append-le 4 xs zs (omega arith))))

-- The bytes of a message up to its table: the number of segments less one, the lengths and the
-- padding, and then others.
pub record AtTable (first tab : List ℕ) (n : ℕ) : Type 0 where
  pub four : length first ≡ 4
  pub told : n ≡ from_le_bytes w32 first + 1
  pub few : n ≤ 512
  pub size : length tab ≡ 4 * n + padding_size n

table_told : {first tab : List ℕ} {n : ℕ} (rest : List ℕ) → AtTable first tab n → segments_told (first ++ (tab ++ rest)) ≡ n
table_told {first} {tab} rest h = ap (λ xs. from_le_bytes w32 xs + 1) (take_at first (tab ++ rest) 4 h.four) ∙ sym h.told

has_table : {first tab : List ℕ} {n : ℕ} (rest : List ℕ) → AtTable first tab n → HasTable (first ++ (tab ++ rest))
has_table {first} {tab} {n} rest h =
    let long : length (first ++ (tab ++ rest)) ≡ 4 + (4 * n + padding_size n) + length rest = omega (arith, length-append first (tab ++ rest), length-append tab rest, h.four, h.size) in
    let told = table_told rest h in
    record { count = omega (arith, long); few = omega (arith, told, h.few); table = subst (λ k. table_size k ≤ length (first ++ (tab ++ rest))) (sym told) (omega (arith, long)) }

table_words : {first tab : List ℕ} {n : ℕ} (rest zs : List ℕ) → AtTable first tab n → words_in_table (first ++ (tab ++ rest)) ≡ words_told n (tab ++ zs)
table_words {first} {tab} {n} rest zs h = ap₂ words_told (table_told rest h) (drop_at first (tab ++ rest) 4 h.four) ∙ told_front n tab rest zs (omega (arith, h.size))

-- these bytes are as long as a table
pub table_long : {first tab : List ℕ} {n : ℕ} → AtTable first tab n → length (first ++ tab) ≡ table_size (segments_told (first ++ tab))
table_long {first} {tab} {n} h =
    let told : segments_told (first ++ tab) ≡ n = ap (λ xs. from_le_bytes w32 xs + 1) (take_at first tab 4 h.four) ∙ sym h.told in
    let long : length (first ++ tab) ≡ table_size n = omega (arith, length-append first tab, h.four, h.size) in
    long ∙ ap table_size (sym told)

pub long_table : {first tab : List ℕ} {n : ℕ} (rest zs : List ℕ) (w most : ℕ) → AtTable first tab n → w ≡ words_told n (tab ++ zs) → most < w → NoFrame (first ++ (tab ++ rest)) most (MessageTooLong w)
long_table rest zs w most h e l = let same = table_words rest zs h in too_long (has_table rest h) (omega (arith, same, e)) (ap MessageTooLong (e ∙ sym same))

pub cut_table : {first tab : List ℕ} {n : ℕ} (rest zs : List ℕ) (w most : ℕ) → AtTable first tab n → w ≡ words_told n (tab ++ zs) → w ≤ most → length rest < 8 * w → NoFrame (first ++ (tab ++ rest)) most Truncated
cut_table {first} {tab} {n} rest zs w most h e l cut =
    let same = table_words rest zs h in
    let long : length (first ++ (tab ++ rest)) ≡ 4 + (4 * n + padding_size n) + length rest = omega (arith, length-append first (tab ++ rest), length-append tab rest, h.four, h.size) in
    words_cut (has_table rest h) (omega (arith, same, e)) (subst (λ k. length (first ++ (tab ++ rest)) < table_size k + 8 * words_in_table (first ++ (tab ++ rest))) (sym (table_told rest h)) (omega (arith, long, same, e))) refl

-- what was read from known bytes, and what is left of them
pub read_so : (a b c : Option (List ℕ)) (first tab : List ℕ) (Q P : List ℕ → Type 0) → Consumes a b first → Consumes b c tab → IfSome c Q → ((rest : List ℕ) → Q rest → P (first ++ (tab ++ rest))) → IfSome a P
read_so None b c first tab Q P f g q h = tt
read_so (Some x) None c first tab Q P f g q h = absurd f
read_so (Some x) (Some y) None first tab Q P f g q h = absurd g
read_so (Some x) (Some y) (Some z) first tab Q P f g q h = subst P (sym (f ∙ ap (λ (ys : List ℕ). first ++ ys) g)) (h z q)

pub whatever : (a : Option (List ℕ)) → IfSome a (λ _. Unit {0})
whatever None = tt
whatever (Some x) = tt

-- all pieces are a frame
pub frame_read : {first tab : List ℕ} {n : ℕ} (zs : List ℕ) (S : Segments) → AtTable first tab n → ((i : ℕ) → get_or first i 0 < 256) → length S ≡ n → lengths S ≡ take (4 * n) (tab ++ zs) →
    All (λ ws. length ws < 2 ^ 32) S → All AreSegmentWords S → IsFrameOf S (first ++ (tab ++ contents S))
frame_read {first} {tab} {n} zs S h below count told short words = record {
  message = record { some = omega (arith, count, h.told); few = omega (arith, count, h.few); short = short; words = words };
  padding = drop (4 * n) tab;
  padded = omega (arith, length-drop (4 * n) tab, h.size) ∙ ap padding_size (sym count);
  is =
      let number : to_le_bytes w32 (length S - 1) ≡ first = le_bytes_4 first (length S - 1) h.four below (omega (arith, count, h.told)) in
      let front : lengths S ≡ take (4 * n) tab = told ∙ take-append-le (4 * n) tab zs (omega (arith, h.size)) in
      let table : tab ++ contents S ≡ lengths S ++ (drop (4 * n) tab ++ contents S) =
      ap (λ (xs : List ℕ). xs ++ contents S) (sym (take-append-drop (4 * n) tab) ∙ ap (λ (xs : List ℕ). xs ++ drop (4 * n) tab) (sym front)) ∙ append_assoc (lengths S) (drop (4 * n) tab) (contents S) in
      ap₂ (λ (xs ys : List ℕ). xs ++ ys) (sym number) table;
}

pub small_from_short : (bytes : List (List ℕ)) → All (λ ws. length ws < 2 ^ 32) (message bytes) → (k : ℕ) (s : List ℕ) → slice_get bytes k ≡ Some s → length s / 8 < 2 ^ 32
small_from_short [] h k s e = absurd (cc e)
small_from_short (b ∷ bs) h zero s e = let same : b ≡ s = cc in let l = All-head (λ (ws : List ℕ). length ws < 2 ^ 32) (words_of b) (message bs) h in omega (arith, words b, ap length same, l)
small_from_short (b ∷ bs) h (suc k) s e = small_from_short bs (All-tail (λ (ws : List ℕ). length ws < 2 ^ 32) (words_of b) (message bs) h) k s e

-- a frame is never refused for what it holds

lengths_told : (S : Segments) (zs : List ℕ) → All (λ ws. length ws < 2 ^ 32) S → words_told (length S) (lengths S ++ zs) ≡ total S
lengths_told [] zs h = refl
lengths_told (ws ∷ S) zs h =
    let four : List ℕ = to_le_bytes w32 (length ws) in
    let same : (four ++ lengths S) ++ zs ≡ four ++ (lengths S ++ zs) = append_assoc four (lengths S) zs in
    let first : from_le_bytes w32 (take 4 (four ++ (lengths S ++ zs))) ≡ length ws = from_le_bytes-to_le_bytes_4 (length ws) (All-head (λ (ws : List ℕ). length ws < 2 ^ 32) ws S h) in
    let rest : words_told (length S) (drop 4 (four ++ (lengths S ++ zs))) ≡ total S = lengths_told S zs (All-tail (λ (ws : List ℕ). length ws < 2 ^ 32) ws S h) in
    ap (words_told (suc (length S))) same ∙ ap₂ (λ x y. x + y) first rest

pub bytes-length : (ws : List ℕ) → length (bytes_of_words ws) ≡ 8 * length ws
bytes-length [] = refl
bytes-length (w ∷ ws) = omega (arith, bytes-length ws, length-append (to_le_bytes w64 w) (bytes_of_words ws))

contents-length : (S : Segments) → length (contents S) ≡ 8 * total S
contents-length [] = refl
contents-length (ws ∷ S) = omega (arith, contents-length S, bytes-length ws, length-append (bytes_of_words ws) (contents S))

-- the number of bytes of a frame
pub length-frame_with : (padding : List ℕ) (S : Segments) → length padding ≡ padding_size (length S) → length (frame_with padding S) ≡ table_size (length S) + 8 * total S
length-frame_with padding S padded =
    omega (
      arith,
      length-append (to_le_bytes w32 (length S - 1)) (lengths S ++ (padding ++ contents S)),
      length-append (lengths S) (padding ++ contents S),
      length-append padding (contents S),
      length-lengths S,
      contents-length S,
      padded,
    )

pub frames_as_long : (S : Segments) (bytes : List ℕ) → IsFrameOf S bytes → length bytes ≡ length (frame S)
frames_as_long S bytes f =
    ap length f.is
    ∙ length-frame_with f.padding S f.padded
    ∙ sym (length-frame_with (replicate (padding_size (length S)) 0) S (length-replicate (padding_size (length S)) 0))

-- what a frame tells, with any bytes after it
pub record ToldByFrame (S : Segments) (xs : List ℕ) (behind : ℕ) : Type 0 where
  pub segments : segments_told xs ≡ length S
  pub words : words_in_table xs ≡ total S
  pub long : length xs ≡ table_size (length S) + 8 * total S + behind

pub told_by_frame : (S : Segments) (bytes rest : List ℕ) → IsFrameOf S bytes → ToldByFrame S (bytes ++ rest) (length rest)
told_by_frame S bytes rest f =
    let n : ℕ = length S in
    let first : List ℕ = to_le_bytes w32 (n - 1) in
    let tab : List ℕ = lengths S ++ f.padding in
    let behind : List ℕ = contents S ++ rest in
    let some = f.message.some in
    let few = f.message.few in
    let h : AtTable first tab n = record {
      four = refl;
      told = (let k : n ≡ n - 1 + 1 = omega (arith, some) in k ∙ ap (λ x. x + 1) (sym (from_le_bytes-to_le_bytes_4 (n - 1) (omega (arith, few)))));
      few = few;
      size = omega (arith, length-append (lengths S) f.padding, length-lengths S, f.padded);
    } in
    let shape : bytes ++ rest ≡ first ++ (tab ++ behind) =
    ap (λ (xs : List ℕ). xs ++ rest) f.is
    ∙ append_assoc first (lengths S ++ (f.padding ++ contents S)) rest
    ∙ ap (λ (xs : List ℕ). first ++ xs) (append_assoc (lengths S) (f.padding ++ contents S) rest ∙ ap (λ (xs : List ℕ). lengths S ++ xs) (append_assoc f.padding (contents S) rest) ∙ sym (append_assoc (lengths S) f.padding behind)) in
    let long : length (first ++ (tab ++ behind)) ≡ table_size n + 8 * total S + length rest =
    omega (arith, length-append first (tab ++ behind), length-append tab behind, length-append (contents S) rest, contents-length S, h.four, h.size) in
    record {
      segments = ap segments_told shape ∙ table_told behind h;
      words = ap words_in_table shape ∙ table_words behind [] h ∙ ap (words_told n) (append-nil tab) ∙ lengths_told S f.padding f.message.short;
      long = ap length shape ∙ long;
    }

pub frame_is_read : (S : Segments) (bytes rest : List ℕ) (most : ℕ) (e : FrameError) → IsFrameOf S bytes → total S ≤ most → NoFrame (bytes ++ rest) most e → ⊥
frame_is_read S bytes rest most e f small wrong =
    let t = told_by_frame S bytes rest f in
    refused wrong t.segments t.words t.long (ap table_size t.segments)
  where
    refused : {xs : List ℕ} → NoFrame xs most e → segments_told xs ≡ length S → words_in_table xs ≡ total S → length xs ≡ table_size (length S) + 8 * total S + length rest → table_size (segments_told xs) ≡ table_size (length S) → ⊥
    refused (count_cut some less k) told words long whole = omega (arith, long, less)
    refused (too_many there more k) told words long whole = let few = f.message.few in omega (arith, told, more, few)
    refused (table_cut there few less k) told words long whole = omega (arith, long, less, whole)
    refused (too_long there more k) told words long whole = omega (arith, words, more, small)
    refused (words_cut there fits less k) told words long whole = omega (arith, long, less, whole, words)
