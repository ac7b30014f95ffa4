-- What the test at the root of a message of one segment states about the whole message.
use Rattle.std.proofs.Common.{◌≡◌, ◌↔◌, ℕ, ◌+◌, ◌-◌, ◌<◌, ◌≤◌, List, [], ◌∷◌, take, drop, get_or, length, true, Option, Some, None, refl, ap, sym, ◌∙◌, subst, arith, length-drop, length-take}
use Rattle.std.proofs.lemmas.List.{take_all}
use Rattle.capnp_words.specs.Meter.{Meter, FitsIn, less, raised, spent}
use Rattle.capnp_format.specs.Bytes.{message}
use Rattle.capnp_format.specs.Segments.{Segments, segment}
use Rattle.capnp_format.specs.Tree.{Tree, depth}
use Rattle.capnp_format.specs.Means.{Means}
use Rattle.capnp_format.specs.Canonical.{HasBodyAt, Reaches, HasCanonicalAt, body, charge, encoding, pointer, word_count}
use Rattle.capnp_format.proofs.Lengths.{length-body}
use Rattle.capnp_format.proofs.Unique.{for_offset, one_stands, stands_means}
use Rattle.capnp_arena_traits.specs.Checks.{total_words}
use Rattle.capnp_arena_traits.proofs.MessageLemmas.{length-message}
use Rattle.capnp_pointers.specs.Reading.{Reading}
use Rattle.capnp_pointers.specs.Spending.{Paid}
use Rattle.capnp_pointers.specs.Checking.{IsFound, progress}
use Rattle.capnp_messages.specs.Roots.{CoversRoot, message_root}
use Rattle.capnp_framing.specs.Frames.{CanBeFramed, frame}
use Rattle.capnp_framing.specs.Reading.{total}
use Rattle.capnp_framing.proofs.FrameLemmas.{same_frames}
use Rattle.capnp_messages.specs.CanonicalMessages.{IsCanonicalMessage, IsCanonicalOf}
use Rattle.capnp_messages.proofs.CanonLemmas.{covers_root}
use Rattle.capnp_messages.proofs.TryLemmas.{total-message}

-- a message of one segment
only_segment : (S : Segments) → length S ≡ 1 → S ≡ segment S 0 ∷ []
only_segment [] one = absurd (omega arith)
only_segment (ws ∷ []) one = refl
only_segment (ws ∷ vs ∷ S) one = absurd (omega arith)

-- words whose first is w, and whose others are these
all_words : (ws vs : List ℕ) (w : ℕ) → length vs + 1 ≡ length ws → get_or ws 0 0 ≡ w → take (length vs) (drop 1 ws) ≡ vs → ws ≡ w ∷ vs
all_words [] vs w many first behind = absurd (omega arith)
all_words (x ∷ ws) vs w many first behind =
    let others : ws ≡ vs = sym (take_all (length vs) ws (omega arith)) ∙ behind in
    ap (λ y. y ∷ ws) first ∙ ap (λ (ys : List ℕ). w ∷ ys) others

-- canonical words from the root of the only segment to its end are a canonical message
pub stands_alone : {S : Segments} {t : Tree} → length S ≡ 1 → HasCanonicalAt S 0 0 1 t → 1 + word_count t ≡ length (segment S 0) → IsCanonicalOf S t
stands_alone {S} {t} one stands full = record {
  value = stands.1;
  trimmed = stands.2;
  free = stands.3;
  encodable = stands.4;
  is = only_segment S one ∙ ap (λ (ws : List ℕ). ws ∷ []) (all_words (segment S 0) (body t) (pointer t 0) (omega (arith, length-body t stands.1, full)) stands.5.1 stands.5.2);
}

-- a canonical message has canonical words at its root
pub canonical_stands : {S : Segments} {t : Tree} → IsCanonicalOf S t → HasCanonicalAt S 0 0 1 t
canonical_stands {t = t} canonical =
    let lies : HasBodyAt (encoding t ∷ []) 0 0 1 t = (for_offset t (Reaches 0 1) (omega arith, omega arith), refl, take_all (length (body t)) (body t) (omega arith)) in
    subst (λ (S : Segments). HasCanonicalAt S 0 0 1 t) (sym canonical.is) (omega arith, canonical.value, canonical.trimmed, canonical.free, canonical.encodable, lies)

pub canonical_length : {S : Segments} {t : Tree} → IsCanonicalOf S t → length (segment S 0) ≡ 1 + word_count t
canonical_length {t = t} canonical = ap (λ (S : Segments). length (segment S 0)) canonical.is ∙ (let whole : length (encoding t) ≡ 1 + word_count t = omega (arith, length-body t canonical.value) in whole)

-- canonical words are inside their segment
within : (S : Segments) (t : Tree) → HasCanonicalAt S 0 0 1 t → 1 + word_count t ≤ length (segment S 0)
within S t stands =
    let place : 0 < length (segment S 0) = stands.0 in
    let some : length (take (length (body t)) (drop 1 (segment S 0))) ≡ length (body t) = ap length stands.5.2 in
    omega (arith, place, some, length-body t stands.1, length-take (length (body t)) (drop 1 (segment S 0)), length-drop 1 (segment S 0))

-- what is charged for the root and after it
both_less : (budget : Option ℕ) (c : ℕ) → less (less budget 1) c ≡ less budget (1 + c)
both_less None c = refl
both_less (Some b) c = ap Some (let same : b - 1 - c ≡ b - (1 + c) = omega arith in same)

pub paid_both : {m m' : Meter} {c i : ℕ} → FitsIn m.left 1 → Paid true (spent m 1) m' c i → Paid true m m' (1 + c) i
paid_both {m} {c = c} {i = i} one paid = record {
  covers = covers_root m.left c one paid.covers;
  spent = paid.spent ∙ ap (λ (left : Option ℕ). let now : Meter = record { left = left; followed = raised m.followed i } in now) (both_less m.left c);
}

-- if words follow after these, the message isn't canonical
pub found_more : {S : Segments} {n h : ℕ} {m' : Meter} {from : Meter} → IsFound (message_root S n) (progress 1 from) (progress h m') → (h ≡ length (segment S 0) → ⊥) → IsCanonicalMessage S → ⊥
found_more {S} (t, finds) more (u, canonical) =
    let there : 1 ≤ length (segment S 0) = omega (arith, finds.stands.0) in
    let value : t ≡ u = one_stands {S = S} {s = 0} {h = 1} there (record { stands = finds.stands }) (record { stands = canonical_stands canonical }) in
    more (finds.head_is ∙ ap (λ v. 1 + word_count v) value ∙ sym (canonical_length canonical))

-- a canonical message has a word for its root
pub has_root : {S : Segments} {t : Tree} → IsCanonicalOf S t → 1 ≤ length (segment S 0)
has_root canonical = omega (arith, canonical_length canonical)

pub one_canonical_value : (S : Segments) (t u : Tree) → IsCanonicalOf S t → IsCanonicalOf S u → t ≡ u
one_canonical_value S t u a b = one_stands {S = S} {s = 0} {h = 1} (has_root a) (record { stands = canonical_stands a }) (record { stands = canonical_stands b })

pub means_its_value : (S : Segments) (t : Tree) (n : ℕ) → IsCanonicalOf S t → depth t ≤ n → Means S n 0 0 t (charge t)
means_its_value S t n canonical levels = stands_means S n 0 0 1 t levels (has_root canonical) (canonical_stands canonical)

pub same_canonical_frames : (S R : Segments) (t u : Tree) → CanBeFramed S → CanBeFramed R → IsCanonicalOf S t → IsCanonicalOf R u → (frame S ≡ frame R) ↔ (t ≡ u)
same_canonical_frames S R t u framed as_framed canonical other = (
  λ frames. one_canonical_value R t u (subst (λ (T : Segments). IsCanonicalOf T t) (same_frames S R framed as_framed frames) canonical) other,
  λ values. ap frame (canonical.is ∙ ap (λ (v : Tree). encoding v ∷ []) values ∙ sym other.is),
)

-- The root of a message is read: r is its place, m is what the limiter has left of `old`.
pub record IsRootRead (S : Segments) (n : ℕ) (old : Meter) (r : Reading) (m : Meter) : Type 0 where
  pub place : r ≡ message_root S n
  pub left : m ≡ spent old 1
  pub covers : CoversRoot S old.left

-- what holds for the place and limiter of a root that is read holds at the root
pub moved : {S : Segments} {n : ℕ} {old : Meter} {r : Reading} {m : Meter} (P : Reading → Meter → Type 0) → IsRootRead S n old r m → P r m → P (message_root S n) (spent old 1)
moved {S} {n} {m = m} P root held = subst (P (message_root S n)) root.left (subst (λ (x : Reading). P x m) root.place held)

-- if a message has one segment, its words are those of all segments
only_total : (S : Segments) → length S ≡ 1 → total S ≡ length (segment S 0)
only_total [] one = absurd (omega arith)
only_total (ws ∷ []) one = omega arith
only_total (ws ∷ vs ∷ S) one = absurd (omega arith)

-- the number n of words of all segments is that of the only segment
only_words : (B : List (List ℕ)) (n : ℕ) → length B ≡ 1 → n ≡ total_words B → n ≡ length (segment (message B) 0)
only_words B n one all = all ∙ total-message B ∙ only_total (message B) (length-message B ∙ one)

pub head_ends : (B : List (List ℕ)) (h n : ℕ) → length B ≡ 1 → n ≡ total_words B → h ≡ n → h ≡ length (segment (message B) 0)
head_ends B h n one all same = same ∙ only_words B n one all

pub head_stays : (B : List (List ℕ)) (h n : ℕ) → length B ≡ 1 → n ≡ total_words B → (h ≡ n → ⊥) → h ≡ length (segment (message B) 0) → ⊥
head_stays B h n one all other is = other (is ∙ sym (only_words B n one all))
