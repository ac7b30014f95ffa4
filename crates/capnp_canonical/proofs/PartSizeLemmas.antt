-- The size of a part is that of the value which it means.
use Rattle.std.proofs.Common.{◌≡◌, inl, inr, ℕ, ◌+◌, ◌*◌, ◌≤◌, List, [], ◌∷◌, Bool, true, false, cond, nat_lt, length, Result, Ok, Err, refl, sym, ap, ap₂, ◌∙◌, subst, arith}
use Rattle.capnp_words.specs.declared.error.ErrorKind.{ErrorKind}
use Rattle.capnp_words.specs.declared.error.ErrorKind.TheVariants.{NoSuchPlace}
use Rattle.capnp_words.specs.Meter.{Meter, less, unused}
use Rattle.capnp_format.specs.Canonical.{encoding, trim, word_count, word_count_all}
use Rattle.capnp_format.specs.Means.{MeansAll}
use Rattle.capnp_format.specs.Segments.{AreWords, Segments}
use Rattle.capnp_format.specs.Tree.{Tree, Struct, Trees, no_trees, tree, capabilities, capabilities_all, count}
use Rattle.capnp_format.specs.Value.{AreValues, IsValue}
use Rattle.capnp_format.proofs.Bounds.{means_value, words_small}
use Rattle.capnp_format.proofs.Lengths.{length-body}
use Rattle.capnp_format.proofs.Trimmed.{trim-value}
use Rattle.capnp_format.proofs.Trimming.{trim-words}
use Rattle.capnp_arena.specs.declared.arena.reader_arena_impl.ReaderOptions.{ReaderOptions}
use Rattle.capnp_pointers.specs.declared.object.Purpose.TheVariants.{Value}
use Rattle.capnp_pointers.specs.Enter.{Shape, capability, flat, nothing, pointers, read, struct, structs}
use Rattle.capnp_pointers.specs.Metered.{onward, outcome}
use Rattle.capnp_pointers.specs.Reading.{Reading, place_past}
use Rattle.capnp_pointers.specs.Source.{levels}
use Rattle.capnp_pointers.specs.declared.pointers.sizes.MessageSize.{MessageSize}
use Rattle.capnp_pointers.specs.Measure.{FitSize, measure, measure_pointers, only_words}
use Rattle.capnp_pointers.specs.ValueSize.{value_size}
use Rattle.capnp_pointers.proofs.Sizes.CountsTheValue.{Counts, of_tree, size_is, value_counts}
use Rattle.capnp_messages.specs.EndValues.{EndMeans, IsEndThere, end_place, measure_end}
use Rattle.capnp_messages.specs.MessageParts.{IsPartOf, part_size, part_within}
use Rattle.capnp_messages.specs.Parts.{PathEnd, to_pointer, to_element, pointer_in, end_at, end_in, inside, follow_path, step}
use Rattle.capnp_messages.specs.Roots.{message_root}
use Rattle.capnp_messages.proofs.SizeLemmas.{root_is, root_or_not, root_stops}

never : {f : PathEnd} {X : Type 0} → Err NoSuchPlace ≡ Ok f → X
never e = absurd (cc e)

same_end : {e f : PathEnd} → (let x : Result PathEnd ErrorKind = Ok e in x) ≡ Ok f → (end_place f).segments ≡ (end_place e).segments
same_end {e} {f} is = sym (ap (λ (x : PathEnd). (end_place x).segments) (let there : e ≡ f = cc is in there))

-- An index leads to a place in the same segments.
run_stays : (r : Reading) (n i : ℕ) (f : PathEnd) → end_at (pointer_in r n i) ≡ Ok f → (end_place f).segments ≡ r.segments
run_stays r n i f e = chosen (nat_lt i n) e
  where
    chosen : (b : Bool) → end_at (cond b (Ok (place_past r i)) (Err NoSuchPlace)) ≡ Ok f → (end_place f).segments ≡ r.segments
    chosen true e = same_end e
    chosen false e = never e

element_stays : (r : Reading) (d q n i : ℕ) (f : PathEnd) → cond (nat_lt i n) (Ok (to_element r d q)) (Err NoSuchPlace) ≡ Ok f → (end_place f).segments ≡ r.segments
element_stays r d q n i f e = chosen (nat_lt i n) e
  where
    chosen : (b : Bool) → cond b (Ok (to_element r d q)) (Err NoSuchPlace) ≡ Ok f → (end_place f).segments ≡ r.segments
    chosen true e = same_end e
    chosen false e = never e

object_stays : (r : Reading) (o : Shape) (i : ℕ) (f : PathEnd) → end_in r o i ≡ Ok f → (end_place f).segments ≡ r.segments
object_stays r (struct s p d q) i f e = run_stays (inside r s (p + d)) q i f e
object_stays r (pointers s p n) i f e = run_stays (inside r s p) n i f e
object_stays r (structs s p d q n) i f e = element_stays (inside r s (p + i * (d + q))) d q n i f e
object_stays r nothing i f e = never e
object_stays r (capability j) i f e = never e
object_stays r (flat s p z n) i f e = never e

step_stays : (e : PathEnd) (i : ℕ) (m m' : Meter) (f : PathEnd) → step e i m ≡ (Ok f, m') → (end_place f).segments ≡ (end_place e).segments
step_stays (to_element r d q) i m m' f e = run_stays (place_past r d) q i f (ap (λ o. o.0) e)
step_stays (to_pointer r) i m m' f e = entered (read Value r m) e
  where
    entered : (o : Result Shape ErrorKind × Meter) → onward (λ o. outcome (end_in r o i)) o ≡ (Ok f, m') → (end_place f).segments ≡ r.segments
    entered (Ok o, n) e = object_stays r o i f (ap (λ o. o.0) e)
    entered (Err k, n) e = absurd (let wrong = ap (λ o. o.0) e in cc wrong)

stepped : (path : List ℕ) (e : PathEnd) (i : ℕ) (m m' : Meter) (x : PathEnd) (o : Result PathEnd ErrorKind × Meter) →
    ((f : PathEnd) (n : Meter) → follow_path f path n ≡ (Ok x, m') → (end_place x).segments ≡ (end_place f).segments) → step e i m ≡ o →
    onward (λ f. follow_path f path) o ≡ (Ok x, m') → (end_place x).segments ≡ (end_place e).segments
stepped path e i m m' x (Ok f, n) rest here is = rest f n is ∙ step_stays e i m n f here
stepped path e i m m' x (Err k, n) rest here is = absurd (let wrong = ap (λ o. o.0) is in cc wrong)

path_stays : (path : List ℕ) (e : PathEnd) (m m' : Meter) (x : PathEnd) → follow_path e path m ≡ (Ok x, m') → (end_place x).segments ≡ (end_place e).segments
path_stays [] e m m' x is = same_end (ap (λ o. o.0) is)
path_stays (i ∷ path) e m m' x is = stepped path e i m m' x (step e i m) (λ f n. path_stays path f n m' x) refl is

-- A part is in the segments of its message.
part_stays : (S : Segments) (limits : ReaderOptions) (path : List ℕ) (x : PathEnd) (m : Meter) → part_within S limits path ≡ (Ok x, m) → (end_place x).segments ≡ S
part_stays S limits path x m leads = elim (root_or_not S limits.traversal_limit_in_words) [
  | inl covers ↦
      let there : follow_path (to_pointer (message_root S (levels limits.nesting_limit))) path (unused (less limits.traversal_limit_in_words 1)) ≡ (Ok x, m) =
      sym (ap (onward (λ (r : Reading). follow_path (to_pointer r) path)) (root_is S (levels limits.nesting_limit) limits.traversal_limit_in_words covers)) ∙ leads in
      path_stays path (to_pointer (message_root S (levels limits.nesting_limit))) (unused (less limits.traversal_limit_in_words 1)) m x there
  | inr refused ↦
      let stopped = ap (λ o. (onward (λ (r : Reading). follow_path (to_pointer r) path) o).0) (root_stops S (levels limits.nesting_limit) limits.traversal_limit_in_words refused.0 refused.1) in
      let wrong : Err refused.0 ≡ Ok x = sym stopped ∙ ap (λ o. o.0) leads in
      absurd (cc wrong)
]

-- Consecutive pointers mean values of the format.
all_are_values : (S : Segments) (n s p : ℕ) (ts : Trees) (c : ℕ) → AreWords S → MeansAll S n s p ts c → AreValues ts
all_are_values S n s p no_trees c words means = tt
all_are_values S n s p (tree t ts) c words (a, b, one, rest, g) = (means_value S n s p t a words one, all_are_values S n s (p + 1) ts b words rest)

-- The size of consecutive pointers is that of their values.
record Adds (z y : MessageSize) (ts : Trees) : Type 0 where
  words : y.word_count ≡ z.word_count + word_count_all ts
  caps : y.cap_count ≡ z.cap_count + capabilities_all ts

pointers_add : (r : Reading) (ts : Trees) (c : ℕ) (z y : MessageSize) (m m' : Meter) → FitSize z.word_count z.cap_count → MeansAll r.segments r.levels r.segment r.at ts c →
    measure_pointers (count ts) r z m ≡ (Ok y, m') → Adds z y ts
pointers_add r no_trees c z y m m' fits means is =
    let same : z ≡ y = (let both = ap (λ o. o.0) is in cc both) in
    record { words = omega (arith, ap (λ (x : MessageSize). x.word_count) same); caps = omega (arith, ap (λ (x : MessageSize). x.cap_count) same) }
pointers_add r (tree t ts) c z y m m' fits (a, b, one, rest, g) is =
    go (λ x n held after. pointers_add (place_past r 1) ts b x y n m' held rest after) (measure r z m) (value_counts r r.levels t (a, one) z m fits) is
  where
    go : ((x : MessageSize) (n : Meter) → FitSize x.word_count x.cap_count → measure_pointers (count ts) (place_past r 1) x n ≡ (Ok y, m') → Adds x y ts) → (o : Result MessageSize ErrorKind × Meter) → Counts r z m (of_tree t a) o →
        onward (measure_pointers (count ts) (place_past r 1)) o ≡ (Ok y, m') → Adds z y (tree t ts)
    go others (Ok x, n) first after =
        let next = others x n first.fits after in
        record { words = omega (arith, first.words, next.words); caps = omega (arith, first.caps, next.caps) }
    go others (Err k, n) first after = absurd (let wrong = ap (λ o. o.0) after in cc wrong)

end_size_is : (e : PathEnd) (m m' : Meter) (z : MessageSize) (t : Tree) (c : ℕ) → IsEndThere e → measure_end e m ≡ (Ok z, m') → EndMeans e t c → z ≡ value_size t
end_size_is (to_pointer r) m m' z t c there is means = size_is r r.levels m m' z t c is means
end_size_is (to_element r d q) m m' z t c there is (ws, ts, same, long, many, here, means) =
    let measured : measure_pointers (count ts) (place_past r d) (only_words (d + q)) m ≡ (Ok z, m') = ap (λ n. measure_pointers n (place_past r d) (only_words (d + q)) m) many ∙ is in
    let adds = pointers_add (place_past r d) ts c (only_words (d + q)) z m m' (omega (arith, there.few_words, there.few_pointers), omega arith) means measured in
    let words : z.word_count ≡ word_count (Struct ws ts) = omega (arith, adds.words, long, many) in
    let caps : z.cap_count ≡ capabilities (Struct ws ts) = omega (arith, adds.caps) in
    ap₂ (λ i j. record { word_count = i; cap_count = j }) words caps ∙ ap value_size (sym same)

-- The size is that of the value.
part_size_is : (S : Segments) (limits : ReaderOptions) (path : List ℕ) (t : Tree) (z : MessageSize) → part_size S limits path ≡ Ok z → IsPartOf S limits path t → z ≡ value_size t
part_size_is S limits path t z is value =
    let m : Meter = (measure_end value.path_end value.left).1 in
    let measured : (measure_end value.path_end value.left).0 ≡ Ok z = sym (ap (λ o. (onward measure_end o).0) value.leads) ∙ is in
    end_size_is value.path_end value.left m z t value.cost value.there (ap (λ x. (x, m)) measured) value.means

-- What the end of a path means is a value of the format.
end_value : (e : PathEnd) (t : Tree) (c : ℕ) → AreWords (end_place e).segments → IsEndThere e → EndMeans e t c → IsValue t
end_value (to_pointer r) t c words there means = means_value r.segments r.levels r.segment r.at t c words means
end_value (to_element r d q) t c words there (ws, ts, same, long, many, here, means) =
    subst IsValue (sym same) (
      omega (arith, long, there.few_words),
      omega (arith, many, there.few_pointers),
      words_small r.segments r.segment r.at ws (words r.segment) here,
      all_are_values r.segments r.levels r.segment (r.at + d) ts c words means,
    )

-- The canonical words of a part are at most one more than the words of its size.
pub part_words : (S : Segments) (limits : ReaderOptions) (path : List ℕ) (t : Tree) (z : MessageSize) → AreWords S → part_size S limits path ≡ Ok z → IsPartOf S limits path t →
    length (encoding (trim t)) ≤ 1 + z.word_count
part_words S limits path t z words is value =
    let there : AreWords (end_place value.path_end).segments = subst AreWords (sym (part_stays S limits path value.path_end value.left value.leads)) words in
    let v : IsValue t = end_value value.path_end t value.cost there value.there value.means in
    let counted : z.word_count ≡ word_count t = ap (λ (y : MessageSize). y.word_count) (part_size_is S limits path t z is value) in
    let shorter : word_count (trim t) ≤ word_count t = trim-words t v in
    let whole : length (encoding (trim t)) ≡ 1 + word_count (trim t) = omega (arith, length-body (trim t) (trim-value t v)) in
    omega (arith, counted, shorter, whole)
