-- A frame that should be whole, by the size that its bytes tell.
use Rattle.std.proofs.Common.{◌≡◌, ℕ, ◌+◌, ◌*◌, ◌<◌, ◌≤◌, nat_lt, Bool, true, false, List, length, Result, Ok, Err, refl, arith}
use Rattle.std.proofs.lemmas.Bool.{ltb-true, ltb-false}
use Rattle.capnp_framing.specs.Frames.{max_frame_segments}
use Rattle.capnp_framing.specs.Prefix.{size_from_prefix}
use Rattle.capnp_framing.specs.Reading.{HasTable, NoFrame, count_cut, segments_told, table_cut, table_size, words_cut, words_in_table}
use Rattle.capnp_framing.specs.declared.framing.frame_error.FrameError.{FrameError}
use Rattle.capnp_framing.specs.declared.framing.frame_error.FrameError.TheVariants.{MessageTooLong, TooManySegments, Truncated}

-- What the answer to a prefix says: how far the bytes tell the size, or why there is no frame.
pub data Told (b : List ℕ) (most : ℕ) (r : Result ℕ FrameError) : Type 0 where
  no_count : length b < 4 → r ≡ Ok (table_size 1) → Told b most r
  no_table : 4 ≤ length b → segments_told b ≤ max_frame_segments → length b < table_size (segments_told b) → r ≡ Ok (table_size (segments_told b)) → Told b most r
  all : HasTable b → words_in_table b ≤ most → r ≡ Ok (table_size (segments_told b) + 8 * words_in_table b) → Told b most r
  many : 4 ≤ length b → max_frame_segments < segments_told b → r ≡ Err (TooManySegments (segments_told b)) → Told b most r
  long : HasTable b → most < words_in_table b → r ≡ Err (MessageTooLong (words_in_table b)) → Told b most r

pub told : (b : List ℕ) (most : ℕ) → Told b most (size_from_prefix b most)
told b most = begun (nat_lt (length b) 4) refl
  where
    fits : (x : Bool) → nat_lt (length b) 4 ≡ false → nat_lt max_frame_segments (segments_told b) ≡ false → nat_lt (length b) (table_size (segments_told b)) ≡ false → nat_lt most (words_in_table b) ≡ x → Told b most (size_from_prefix b most)
    fits true e few there x =
        long (record { count = ltb-false _ _ e; few = ltb-false _ _ few; table = ltb-false _ _ there }) (ltb-true _ _ x) (rw e (rw few (rw there (rw x refl))))
    fits false e few there x =
        all (record { count = ltb-false _ _ e; few = ltb-false _ _ few; table = ltb-false _ _ there }) (ltb-false _ _ x) (rw e (rw few (rw there (rw x refl))))

    tabled : (x : Bool) → nat_lt (length b) 4 ≡ false → nat_lt max_frame_segments (segments_told b) ≡ false → nat_lt (length b) (table_size (segments_told b)) ≡ x → Told b most (size_from_prefix b most)
    tabled true e few x = no_table (ltb-false _ _ e) (ltb-false _ _ few) (ltb-true _ _ x) (rw e (rw few (rw x refl)))
    tabled false e few x = fits (nat_lt most (words_in_table b)) e few x refl

    counted : (x : Bool) → nat_lt (length b) 4 ≡ false → nat_lt max_frame_segments (segments_told b) ≡ x → Told b most (size_from_prefix b most)
    counted true e x = many (ltb-false _ _ e) (ltb-true _ _ x) (rw e (rw x refl))
    counted false e x = tabled (nat_lt (length b) (table_size (segments_told b))) e x refl

    begun : (x : Bool) → nat_lt (length b) 4 ≡ x → Told b most (size_from_prefix b most)
    begun true e = no_count (ltb-true _ _ e) (rw e refl)
    begun false e = counted (nat_lt max_frame_segments (segments_told b)) e refl

-- There are fewer bytes than they tell.
pub cut_short : (b : List ℕ) (most size : ℕ) → size_from_prefix b most ≡ Ok size → 0 < length b → length b < size → NoFrame b most Truncated
cut_short b most size is some outside = go (told b most)
  where
    go : Told b most (size_from_prefix b most) → NoFrame b most Truncated
    go (no_count short e) = count_cut some short refl
    go (no_table four few short e) = table_cut four few short refl
    go (all table few e) = words_cut table few (let same : size ≡ table_size (segments_told b) + 8 * words_in_table b = cc in omega (arith, same, outside)) refl
    go (many four over e) = absurd (let wrong : ⊥ = cc in wrong)
    go (long table over e) = absurd (let wrong : ⊥ = cc in wrong)
