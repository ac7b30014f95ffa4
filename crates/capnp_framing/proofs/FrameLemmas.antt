-- Frames are split from the front: the number of segments, their lengths, the padding, and then the
-- words.
use Rattle.std.proofs.Common.{◌≡◌, ℕ, ◌-◌, ◌^◌, ◌<◌, List, [], ◌∷◌, ◌++◌, length, drop, replicate, refl, sym, ap, ap₂, ◌∙◌, subst, arith, append_assoc}
use Rattle.std.specs.List.{All}
use Rattle.std.specs.Int.{from_le_bytes, to_le_bytes, w32, w64}
use Rattle.std.proofs.lemmas.List.{length-replicate}
use Rattle.std.proofs.lemmas.List.Elements.{All-head, All-tail}
use Rattle.std.proofs.lemmas.Nat.{from_le_bytes-to_le_bytes_4, from_le_bytes-to_le_bytes_8}
use Rattle.capnp_format.specs.Segments.{Segments}
use Rattle.capnp_framing.specs.Frames.{AreSegmentWords, CanBeFramed, bytes_of_words, lengths, contents, padding_size, IsFrameOf, frame_with, frame}

-- two equal lists with fronts of one length have the same fronts
same_front : (xs ys : List ℕ) {us vs : List ℕ} → length xs ≡ length ys → xs ++ us ≡ ys ++ vs → (xs ≡ ys) × (us ≡ vs)
same_front [] [] l e = (refl, e)
same_front [] (y ∷ ys) l e = absurd (omega arith)
same_front (x ∷ xs) [] l e = absurd (omega arith)
same_front (x ∷ xs) (y ∷ ys) l e =
    let head : x ≡ y = cc in
    let rest = same_front xs ys (omega arith) (ap (drop 1) e) in
    (ap₂ (λ z (zs : List ℕ). z ∷ zs) head rest.0, rest.1)

pub same_number : (a b : ℕ) {us vs : List ℕ} → a < 2 ^ 32 → b < 2 ^ 32 → to_le_bytes w32 a ++ us ≡ to_le_bytes w32 b ++ vs → (a ≡ b) × (us ≡ vs)
same_number a b l m e =
    let parts = same_front (to_le_bytes w32 a) (to_le_bytes w32 b) refl e in
    (sym (from_le_bytes-to_le_bytes_4 a l) ∙ ap (from_le_bytes w32) parts.0 ∙ from_le_bytes-to_le_bytes_4 b m, parts.1)

same_word : (a b : ℕ) {us vs : List ℕ} → a < 2 ^ 64 → b < 2 ^ 64 → to_le_bytes w64 a ++ us ≡ to_le_bytes w64 b ++ vs → (a ≡ b) × (us ≡ vs)
same_word a b l m e =
    let parts = same_front (to_le_bytes w64 a) (to_le_bytes w64 b) refl e in
    (sym (from_le_bytes-to_le_bytes_8 a l) ∙ ap (from_le_bytes w64) parts.0 ∙ from_le_bytes-to_le_bytes_8 b m, parts.1)

-- Two messages whose segments have the same lengths.
abbrev AreAsLong : Segments → Segments → Type 0
AreAsLong [] [] = Unit {0}
AreAsLong [] (vs ∷ R) = ⊥
AreAsLong (ws ∷ S) [] = ⊥
AreAsLong (ws ∷ S) (vs ∷ R) = (length ws ≡ length vs) × AreAsLong S R

abbrev IsShort : List ℕ → Type 0
IsShort ws = length ws < 2 ^ 32

same_lengths : (S R : Segments) {us vs : List ℕ} → length S ≡ length R → All IsShort S → All IsShort R → lengths S ++ us ≡ lengths R ++ vs → AreAsLong S R × (us ≡ vs)
same_lengths [] [] l short few e = (tt, e)
same_lengths [] (vs ∷ R) l short few e = absurd (omega arith)
same_lengths (ws ∷ S) [] l short few e = absurd (omega arith)
same_lengths (ws ∷ S) (vs ∷ R) {us = us} {vs = zs} l short few e =
    let first = same_number (length ws) (length vs) (All-head IsShort ws S short) (All-head IsShort vs R few) (sym (append_assoc (to_le_bytes w32 (length ws)) (lengths S) us) ∙ e ∙ append_assoc (to_le_bytes w32 (length vs)) (lengths R) zs) in
    let rest = same_lengths S R (omega arith) (All-tail IsShort ws S short) (All-tail IsShort vs R few) first.1 in
    ((first.0, rest.0), rest.1)

same_words : (ws vs : List ℕ) {us zs : List ℕ} → length ws ≡ length vs → AreSegmentWords ws → AreSegmentWords vs → bytes_of_words ws ++ us ≡ bytes_of_words vs ++ zs → (ws ≡ vs) × (us ≡ zs)
same_words [] [] l small few e = (refl, e)
same_words [] (v ∷ vs) l small few e = absurd (omega arith)
same_words (w ∷ ws) [] l small few e = absurd (omega arith)
same_words (w ∷ ws) (v ∷ vs) {us = us} {zs = zs} l small few e =
    let first = same_word w v (All-head (λ x. x < 2 ^ 64) w ws small) (All-head (λ x. x < 2 ^ 64) v vs few) (sym (append_assoc (to_le_bytes w64 w) (bytes_of_words ws) us) ∙ e ∙ append_assoc (to_le_bytes w64 v) (bytes_of_words vs) zs) in
    let rest = same_words ws vs (omega arith) (All-tail (λ x. x < 2 ^ 64) w ws small) (All-tail (λ x. x < 2 ^ 64) v vs few) first.1 in
    (ap₂ (λ x (xs : List ℕ). x ∷ xs) first.0 rest.0, rest.1)

same_contents : (S R : Segments) {us vs : List ℕ} → AreAsLong S R → All AreSegmentWords S → All AreSegmentWords R → contents S ++ us ≡ contents R ++ vs → (S ≡ R) × (us ≡ vs)
same_contents [] [] l small few e = (refl, e)
same_contents [] (vs ∷ R) l small few e = absurd l
same_contents (ws ∷ S) [] l small few e = absurd l
same_contents (ws ∷ S) (vs ∷ R) {us = us} {vs = zs} l small few e =
    let first = same_words ws vs l.0 (All-head AreSegmentWords ws S small) (All-head AreSegmentWords vs R few) (sym (append_assoc (bytes_of_words ws) (contents S) us) ∙ e ∙ append_assoc (bytes_of_words vs) (contents R) zs) in
    let rest = same_contents S R l.1 (All-tail AreSegmentWords ws S small) (All-tail AreSegmentWords vs R few) first.1 in
    (ap₂ (λ (x : List ℕ) (xs : Segments). x ∷ xs) first.0 rest.0, rest.1)

behind : (p : List ℕ) (S : Segments) (rest : List ℕ) → frame_with p S ++ rest ≡ to_le_bytes w32 (length S - 1) ++ (lengths S ++ (p ++ (contents S ++ rest)))
behind p S rest =
    append_assoc (to_le_bytes w32 (length S - 1)) (lengths S ++ (p ++ contents S)) rest
    ∙ ap (λ (xs : List ℕ). to_le_bytes w32 (length S - 1) ++ xs)
    (append_assoc (lengths S) (p ++ contents S) rest ∙ ap (λ (xs : List ℕ). lengths S ++ xs) (append_assoc p (contents S) rest))

pub one_frame_begins : (S R : Segments) (a b rest more : List ℕ) → IsFrameOf S a → IsFrameOf R b → a ++ rest ≡ b ++ more → (S ≡ R) × (a ≡ b) × (rest ≡ more)
one_frame_begins S R a b rest more f g e =
    let p = f.padding in
    let q = g.padding in
    let same : frame_with p S ++ rest ≡ frame_with q R ++ more = sym (ap (λ xs. xs ++ rest) f.is) ∙ e ∙ ap (λ xs. xs ++ more) g.is in
    let counts = same_number (length S - 1) (length R - 1) (omega (arith, f.message.few)) (omega (arith, g.message.few)) (sym (behind p S rest) ∙ same ∙ behind q R more) in
    let long : length S ≡ length R = omega (arith, counts.0, f.message.some, g.message.some) in
    let table = same_lengths S R long f.message.short g.message.short counts.1 in
    let padding = same_front p q (f.padded ∙ ap padding_size long ∙ sym g.padded) table.1 in
    let words = same_contents S R table.0 f.message.words g.message.words padding.1 in
    (words.0, f.is ∙ ap₂ frame_with padding.0 words.0 ∙ sym g.is, words.1)

pub one_message : (S R : Segments) (bytes : List ℕ) → IsFrameOf S bytes → IsFrameOf R bytes → S ≡ R
one_message S R bytes f g = (one_frame_begins S R bytes bytes [] [] f g refl).0

pub written_is_frame : (S : Segments) → CanBeFramed S → IsFrameOf S (frame S)
written_is_frame S h = record { message = h; padding = replicate (padding_size (length S)) 0; padded = length-replicate (padding_size (length S)) 0; is = refl }

pub same_frames : (S R : Segments) → CanBeFramed S → CanBeFramed R → frame S ≡ frame R → S ≡ R
same_frames S R h k e = one_message S R (frame R) (subst (IsFrameOf S) e (written_is_frame S h)) (written_is_frame R k)
