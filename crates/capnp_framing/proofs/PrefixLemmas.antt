-- What the bytes at the front of a frame tell of its size.
use Rattle.std.proofs.Common.{◌≡◌, ℕ, ◌+◌, ◌*◌, ◌<◌, ◌≤◌, nat_lt, Bool, true, false, List, [], ◌++◌, length, take, drop, refl, sym, ap, ap₂, ◌∙◌, arith, length-append, length-drop, append-nil}
use Rattle.std.proofs.lemmas.List.{take-append-le, drop-append-le}
use Rattle.std.proofs.lemmas.Bool.{ltb-true, ltb-false}
use Rattle.std.specs.Int.{from_le_bytes, w32}
use Rattle.capnp_format.specs.Segments.{Segments}
use Rattle.capnp_framing.specs.Frames.{IsFrameOf, max_frame_segments}
use Rattle.capnp_framing.specs.Prefix.{TellsSize}
use Rattle.capnp_framing.specs.Reading.{segments_told, table_size, total, words_in_table, words_told}
use Rattle.capnp_framing.proofs.ReadingLemmas.{ToldByFrame, told_by_frame, told_front}

-- the number of segments is told by the first four bytes
same_segments : (prefix rest : List ℕ) → 4 ≤ length prefix → segments_told (prefix ++ rest) ≡ segments_told prefix
same_segments prefix rest four = ap (λ (xs : List ℕ). from_le_bytes w32 xs + 1) (take-append-le 4 prefix rest four)

-- the number of words is told by the table
same_words : (prefix rest : List ℕ) → 4 ≤ length prefix → 4 + 4 * segments_told prefix ≤ length prefix → words_in_table (prefix ++ rest) ≡ words_in_table prefix
same_words prefix rest four there =
    ap₂ words_told (same_segments prefix rest four) (drop-append-le 4 prefix rest four)
    ∙ told_front (segments_told prefix) (drop 4 prefix) rest [] (omega (arith, length-drop 4 prefix, there))
    ∙ ap (words_told (segments_told prefix)) (append-nil (drop 4 prefix))

pub sizes_from_prefixes : (S : Segments) (bytes behind prefix rest : List ℕ) (most : ℕ) → IsFrameOf S bytes → total S ≤ most → bytes ++ behind ≡ prefix ++ rest → TellsSize prefix most (length bytes)
sizes_from_prefixes S bytes behind prefix rest most f small same = begun (nat_lt (length prefix) 4) refl
  where
    frame_told : ToldByFrame S (bytes ++ behind) (length behind)
    frame_told = told_by_frame S bytes behind f

    size : length bytes ≡ table_size (length S) + 8 * total S
    size = let t = frame_told in omega (arith, t.long, length-append bytes behind)

    segments : 4 ≤ length prefix → segments_told prefix ≡ length S
    segments four = sym (same_segments prefix rest four) ∙ ap segments_told (sym same) ∙ frame_told.segments

    words : 4 ≤ length prefix → table_size (segments_told prefix) ≤ length prefix → words_in_table prefix ≡ total S
    words four there = sym (same_words prefix rest four (omega (arith, there))) ∙ ap words_in_table (sym same) ∙ frame_told.words

    fits : (b : Bool) → nat_lt (length prefix) 4 ≡ false → nat_lt max_frame_segments (segments_told prefix) ≡ false → nat_lt (length prefix) (table_size (segments_told prefix)) ≡ false → nat_lt most (words_in_table prefix) ≡ b →
        TellsSize prefix most (length bytes)
    fits true e few there b =
        let all = words (ltb-false _ _ e) (ltb-false _ _ there) in
        let over = ltb-true _ _ b in absurd (omega (arith, over, all, small))
    fits false e few there b =
        let all = words (ltb-false _ _ e) (ltb-false _ _ there) in
        let exact : table_size (segments_told prefix) + 8 * words_in_table prefix ≡ length bytes = ap₂ (λ n k. table_size n + 8 * k) (segments (ltb-false _ _ e)) all ∙ sym size in
        record { told = table_size (segments_told prefix) + 8 * words_in_table prefix; is = rw e (rw few (rw there (rw b refl))); least = omega (arith, exact); whole = λ _. exact }

    tabled : (b : Bool) → nat_lt (length prefix) 4 ≡ false → nat_lt max_frame_segments (segments_told prefix) ≡ false → nat_lt (length prefix) (table_size (segments_told prefix)) ≡ b → TellsSize prefix most (length bytes)
    tabled true e few b =
        let n = ap table_size (segments (ltb-false _ _ e)) in
        let cut = ltb-true _ _ b in
        record { told = table_size (segments_told prefix); is = rw e (rw few (rw b refl)); least = omega (arith, n, size); whole = λ l. absurd (omega (arith, cut, l)) }
    tabled false e few b = fits (nat_lt most (words_in_table prefix)) e few b refl

    counted : (b : Bool) → nat_lt (length prefix) 4 ≡ false → nat_lt max_frame_segments (segments_told prefix) ≡ b → TellsSize prefix most (length bytes)
    counted true e b =
        let n = segments (ltb-false _ _ e) in
        let many = ltb-true _ _ b in
        let few = f.message.few in absurd (omega (arith, many, n, few))
    counted false e b = tabled (nat_lt (length prefix) (table_size (segments_told prefix))) e b refl

    begun : (b : Bool) → nat_lt (length prefix) 4 ≡ b → TellsSize prefix most (length bytes)
    begun true e =
        let some = f.message.some in
        let cut = ltb-true _ _ e in
        record { told = 8; is = rw e refl; least = omega (arith, size, some); whole = λ l. absurd (omega (arith, cut, l)) }
    begun false e = counted (nat_lt max_frame_segments (segments_told prefix)) e refl
