-- The copy and the test agree, and are about the same value.
use Rattle.std.proofs.Common.{◌≡◌, ◌↔◌, Bool, true, false, IsTrue, Result, Ok, Err, IfOk, ◌++◌, ℕ, zero, suc, ◌+◌, ◌<◌, ◌≤◌, List, [], ◌∷◌, length, refl, sym, ap, ◌∙◌, subst, arith}
use Rattle.std.specs.Bool.{OnTrue}
use Rattle.std.proofs.lemmas.Grind.{common_steps}
use Rattle.std.proofs.lemmas.List.{append-nil}
use Rattle.capnp_words.specs.Meter.{FitsIn, unused}
use Rattle.capnp_words.specs.declared.error.ErrorKind.{ErrorKind}
use Rattle.capnp_framing.specs.Frames.{bytes_of_words}
use Rattle.capnp_format.specs.Bytes.{words_of}
use Rattle.capnp_format.specs.Forest.{IsForest, root, times}
use Rattle.capnp_format.specs.Segments.{AreWords, Segments, segment, word_at}
use Rattle.capnp_format.specs.Tree.{Null, Tree, depth}
use Rattle.capnp_format.specs.Value.{IsValue}
use Rattle.capnp_format.specs.Means.{Means}
use Rattle.capnp_format.specs.Canonical.{IsEncodable, charge, encoding, trim, word_count}
use Rattle.capnp_format.proofs.Bounds.{means_value}
use Rattle.capnp_format.proofs.Levels.{depth_within, one_value}
use Rattle.capnp_format.proofs.LawLemmas.{canonical_cost, canonical_words_mean, encodings_differ, no_encoding_begins, same_canonical_words}
use Rattle.capnp_format.proofs.Trimmed.{small_fits, trim-capabilities, trim-depth, trim-value}
use Rattle.capnp_format.proofs.Trimming.{trim-trim}
use Rattle.capnp_arena_traits.specs.Allocations.{max_segment_words}
use Rattle.capnp_arena.specs.declared.arena.reader_arena_impl.ReaderOptions.{ReaderOptions}
use Rattle.capnp_pointers.specs.Source.{levels}
use Rattle.capnp_messages.specs.CanonicalMessages.{CanBeTested, IsCanonicalMessage, IsCanonicalOf}
use Rattle.capnp_messages.proofs.CanonicalMessageLemmas.{canonical_length, means_its_value}
use Rattle.capnp_messages.specs.Messages.{IsValueOf}
use Rattle.capnp_messages.proofs.AsItStandsLemmas.{covers_less}

pub only_value : (S : Segments) (limits others : ReaderOptions) (t u : Tree) → IsValueOf S limits t → IsValueOf S others u → t ≡ u
only_value S limits others t u a b =
    (one_value S (levels limits.nesting_limit) (levels others.nesting_limit) 0 0 t u a.cost b.cost a.means b.means).0

-- two values that fit a segment have the same words exactly if they are equal
pub same_encodings : (t u : Tree) → IsValue t → IsValue u → 1 + word_count t ≤ max_segment_words → 1 + word_count u ≤ max_segment_words →
    (encoding t ≡ encoding u) ↔ (t ≡ u)
same_encodings t u v w short brief = (
  λ same. encodings_differ t u v (small_fits t v (omega (arith, short))) w (small_fits u w (omega (arith, brief))) same,
  λ equal. ap encoding equal,
)

-- and no value's words begin another's
pub no_value_begins : (t u : Tree) (more : List ℕ) → IsValue t → IsValue u → 1 + word_count t ≤ max_segment_words → 1 + word_count u ≤ max_segment_words →
    encoding t ++ more ≡ encoding u → more ≡ []
no_value_begins t u more v w short brief begins =
    no_encoding_begins t u more v (small_fits t v (omega (arith, short))) w (small_fits u w (omega (arith, brief))) begins

-- the value of a message of 64-bit words is a value
is_value : {S : Segments} {limits : ReaderOptions} {t : Tree} → AreWords S → IsValueOf S limits t → IsValue t
is_value {S} {limits} {t} words a = means_value S (levels limits.nesting_limit) 0 0 t a.cost words a.means

-- the offsets of a value fit, if its canonical words fit a segment
fits : (t : Tree) → IsValue t → 1 + word_count (trim t) ≤ max_segment_words → IsEncodable (trim t)
fits t value short = small_fits (trim t) (trim-value t value) (omega (arith, short))

pub same_copies : (S R : Segments) (limits others : ReaderOptions) (t u : Tree) → AreWords S → AreWords R → IsValueOf S limits t → IsValueOf R others u →
    1 + word_count (trim t) ≤ max_segment_words → 1 + word_count (trim u) ≤ max_segment_words → (encoding (trim t) ≡ encoding (trim u)) ↔ (trim t ≡ trim u)
same_copies S R limits others t u words wide a b short brief =
    same_canonical_words S R (levels limits.nesting_limit) 0 0 (levels others.nesting_limit) 0 0 a.cost b.cost t u words wide a.means b.means
    (fits t (is_value words a) short) (fits u (is_value wide b) brief)

-- the words of one value don't begin those of another
pub none_begins : (S R : Segments) (limits others : ReaderOptions) (t u : Tree) (more : List ℕ) → AreWords S → AreWords R → IsValueOf S limits t → IsValueOf R others u →
    1 + word_count (trim t) ≤ max_segment_words → 1 + word_count (trim u) ≤ max_segment_words → encoding (trim t) ++ more ≡ encoding (trim u) → more ≡ []
none_begins S R limits others t u more words wide a b short brief begins =
    let v = is_value words a in
    let w = is_value wide b in
    no_encoding_begins (trim t) (trim u) more (trim-value t v) (fits t v short) (trim-value u w) (fits u w brief) begins

-- two copies are the same exactly if the trimmed values are
pub two_same : (S R : Segments) (limits : ReaderOptions) (same : Bool) (V W : Segments) →
    (t : Tree) × IsValueOf S limits t × (1 + word_count (trim t) ≤ max_segment_words) × (V ≡ encoding (trim t) ∷ []) →
    (u : Tree) × IsValueOf R limits u × (1 + word_count (trim u) ≤ max_segment_words) × (W ≡ encoding (trim u) ∷ []) →
    IsTrue same ↔ (V ≡ W) → (t u : Tree) → IsValueOf S limits t → IsValueOf R limits u → AreWords S → AreWords R → IsTrue same ↔ (trim t ≡ trim u)
two_same S R limits same V W (x, x_value, short, left) (y, y_value, brief, right) compared t u t_value u_value words wide =
    let of_first = ap trim (only_value S limits limits x t x_value t_value) in
    let of_second = ap trim (only_value R limits limits y u y_value u_value) in
    let law = same_copies S R limits limits x y words wide x_value y_value short brief in (
      λ yes. (let all : encoding (trim x) ∷ [] ≡ encoding (trim y) ∷ [] = sym left ∙ compared.0 yes ∙ right in
          let one : encoding (trim x) ≡ encoding (trim y) = cc in sym of_first ∙ law.0 one ∙ of_second),
      λ equal. compared.1 (left ∙ ap (λ (ws : List ℕ). ws ∷ []) (law.1 (of_first ∙ equal ∙ sym of_second)) ∙ sym right),
    )

-- bytes are the same exactly if their words are
pub same_there : (V W : Segments) (a b : List ℕ) → V ≡ words_of a ∷ [] → W ≡ words_of b ∷ [] →
    ((ws : List ℕ) → V ≡ ws ∷ [] → a ≡ bytes_of_words ws) → ((ws : List ℕ) → W ≡ ws ∷ [] → b ≡ bytes_of_words ws) → (a ≡ b) ↔ (V ≡ W)
same_there V W a b left right of_left of_right = (
  λ same. left ∙ ap (λ (xs : List ℕ). words_of xs ∷ []) same ∙ sym right,
  λ same. of_left (words_of a) left ∙ sym (of_right (words_of a) (sym same ∙ left)),
)

pub copy_is_canonical : (S : Segments) (limits : ReaderOptions) (t : Tree) → AreWords S → IsValueOf S limits t → 1 + word_count (trim t) ≤ max_segment_words →
    IsCanonicalOf (encoding (trim t) ∷ []) (trim t) × IsValueOf (encoding (trim t) ∷ []) limits (trim t)
copy_is_canonical S limits t words a short =
    let n = levels limits.nesting_limit in
    let value = is_value words a in
    let encodable = fits t value short in
    let deep : depth (trim t) ≤ n = omega (arith, trim-depth t, depth_within t (record { means = a.means })) in
    let cheap = canonical_cost S n 0 0 t a.cost words a.means in
    let free = trim-capabilities t ∙ a.free in
    let behind = canonical_words_mean (trim t) [] n (trim-value t value) encodable deep in
    let here : Means (encoding (trim t) ∷ []) n 0 0 (trim t) (charge (trim t)) =
    subst (λ (ws : List ℕ). Means (ws ∷ []) n 0 0 (trim t) (charge (trim t))) (append-nil (encoding (trim t))) behind in (
      record { value = trim-value t value; trimmed = trim-trim t; free = free; encodable = encodable; is = refl },
      record {
        root = record { root = omega arith; covered = a.root.covered };
        cost = charge (trim t);
        means = here;
        free = free;
        covered = covers_less limits.traversal_limit_in_words (1 + charge (trim t)) (1 + a.cost) (omega (arith, cheap)) a.covered;
      },
    )

pub canonical_is_own_copy : (S : Segments) (limits : ReaderOptions) (t : Tree) → AreWords S → IsValueOf S limits t → 1 + word_count (trim t) ≤ max_segment_words →
    IsCanonicalMessage S ↔ (S ≡ encoding (trim t) ∷ [])
canonical_is_own_copy S limits t words a short = (
  λ (u, canonical).
      let same : t ≡ u = (one_value S (levels limits.nesting_limit) (depth u) 0 0 t u a.cost (charge u) a.means (means_its_value S u (depth u) canonical (omega arith))).0 in
      let kept : u ≡ trim t = sym canonical.trimmed ∙ ap trim (sym same) in
      canonical.is ∙ ap (λ v. encoding v ∷ []) kept,
  λ own. (trim t, subst (λ R. IsCanonicalOf R (trim t)) (sym own) (copy_is_canonical S limits t words a short).0),
)

-- the message with a null root
abbrev fresh : Segments
fresh = (0 ∷ []) ∷ []

apart : (u q : ℕ) → times (root ∷ []) u q ≤ 1
apart zero zero = omega arith
apart zero (suc q) = grind (arith, common_steps)
apart (suc u) q = grind (arith, common_steps)

inside : (u q : ℕ) → 0 < times (root ∷ []) u q → q < length (segment fresh u)
inside zero zero held = omega arith
inside zero (suc q) held = grind (arith, common_steps)
inside (suc u) q held = grind (arith, common_steps)

zero_elsewhere : (u q : ℕ) → times (root ∷ []) u q ≡ 0 → word_at fresh u q ≡ 0
zero_elsewhere zero zero none = refl
zero_elsewhere zero (suc q) none = refl
zero_elsewhere (suc u) q none = refl

pub fresh_forest : IsForest ((0 ∷ []) ∷ []) Null
fresh_forest = record { means = (0, 0, (refl, refl)); apart = apart; inside = inside; zero_elsewhere = zero_elsewhere; tidy = tt }

-- a canonical message within the limits has its value within them
pub value_within : {S : Segments} {limits : ReaderOptions} {t : Tree} → IsCanonicalOf S t → depth t ≤ levels limits.nesting_limit →
    FitsIn limits.traversal_limit_in_words (1 + charge t) → IsValueOf S limits t
value_within {S} {limits} {t} canonical deep covered = record {
  root = record { root = omega (arith, canonical_length canonical); covered = covers_less limits.traversal_limit_in_words 1 (1 + charge t) (omega arith) covered };
  cost = charge t;
  means = means_its_value S t (levels limits.nesting_limit) canonical deep;
  free = canonical.free;
  covered = covered;
}

-- and that is what a yes of the test says
pub tested_within : (S : Segments) (limits : ReaderOptions) (r : Result Bool ErrorKind) →
    IfOk r (λ yes. OnTrue yes (CanBeTested S (levels limits.nesting_limit) (unused limits.traversal_limit_in_words))) →
    IfOk r (λ yes. IsTrue yes → (t : Tree) × IsCanonicalOf S t × IsValueOf S limits t)
tested_within S limits (Ok true) (t, canonical, deep, covered) = λ yes. (t, canonical, value_within canonical deep covered)
tested_within S limits (Ok false) within = λ yes. absurd (let wrong : false ≡ true = yes in cc)
tested_within S limits (Err k) within = tt

-- what a canonical message has for its value, and within which limits
pub canonical_has_value : (S : Segments) (limits : ReaderOptions) (t u : Tree) → IsCanonicalOf S t →
    IsValueOf S limits u ↔ ((u ≡ t) × (depth t ≤ levels limits.nesting_limit) × FitsIn limits.traversal_limit_in_words (1 + charge t))
canonical_has_value S limits t u canonical = (
  λ has.
      let n = levels limits.nesting_limit in
      let same = one_value S n (depth t) 0 0 u t has.cost (charge t) has.means (means_its_value S t (depth t) canonical (omega arith)) in
      let deep : depth u ≤ n = depth_within u (record { means = has.means }) in
      (same.0, subst (λ v. depth v ≤ n) same.0 deep, subst (λ c. FitsIn limits.traversal_limit_in_words (1 + c)) same.1 has.covered),
  λ (equal, deep, covered). subst (λ v. IsValueOf S limits v) (sym equal) (value_within canonical deep covered),
)
