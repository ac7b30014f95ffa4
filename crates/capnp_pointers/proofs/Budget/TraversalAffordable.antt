-- A traversal of a message that means a value within both limits. What the pointers that it may
-- follow next cost is what is left, so that no call is refused for a limit.
use Rattle.std.proofs.Common.{◌≡◌, ◌≢◌, inl, inr, ℕ, ◌+◌, ◌<◌, ◌≤◌, ◌∷◌, ◌++◌, pred, Bool, false, nat_eq, Some, Ok, Err, List, [], refl, sym, ap, ap₂, subst, length, arith}
use Rattle.std.proofs.lemmas.Bool.{ne_eqb}
use Rattle.capnp_words.specs.declared.error.ErrorKind.{ErrorKind}
use Rattle.capnp_words.specs.declared.error.ErrorKind.TheVariants.{CannotCreateACanonicalMessageWithACapability, InlineCompositeListsElementsOverrunItsWordCount, InlineCompositeListsOfNonStructTypeAreNotSupported, MalformedDoubleFarPointer, MessageContainsOutOfBoundsPointer, MessageIsTooDeeplyNestedOrContainsCycles, UnknownPointerType}
use Rattle.capnp_words.specs.Meter.{Affords, Meter}
use Rattle.capnp_format.specs.Means.{MeansElements, count_cost}
use Rattle.capnp_format.specs.Numbers.{words_for}
use Rattle.capnp_format.specs.Segments.{Segments, Target}
use Rattle.capnp_format.specs.Tree.{Tree, Null, Capability, Struct as StructTree, Flat, Pointers, Structs, Trees, no_trees, tree, Elements, no_elements, element, count, element_count}
use Rattle.capnp_format.specs.Word.{kind}
use Rattle.capnp_pointers.specs.declared.object.Expected.{Expected}
use Rattle.capnp_pointers.specs.declared.object.Expected.TheVariants.{Struct, List as ListExpected, Text, Data}
use Rattle.capnp_pointers.specs.declared.object.Purpose.TheVariants.{Value}
use Rattle.capnp_pointers.specs.Demands.{own_charge}
use Rattle.capnp_pointers.specs.Enter.{Shape, nothing, shape}
use Rattle.capnp_pointers.specs.Expected.{expectation, HasExpected, null_pointer, fitting, RefusesExpected, no_level, unfollowed, of_another_kind, stopped, misfits}
use Rattle.capnp_pointers.specs.Faults.{LeadsTo}
use Rattle.capnp_pointers.specs.Outcomes.{MeansThere}
use Rattle.capnp_pointers.specs.Reading.{Reading, place_past, word_of}
use Rattle.capnp_pointers.specs.Refusals.{Stopped, exceeding, leading_nowhere, here, no_target, broken, claim_exceeds, count_exceeds}
use Rattle.capnp_pointers.specs.Spending.{Paid}
use Rattle.capnp_pointers.specs.Values.{expect, value}
use Rattle.capnp_pointers.specs.Wanted.{plain, BreaksObject, FollowsTo}
use Rattle.capnp_pointers.proofs.Budget.PaidAndLeft.{affords_rest, paid_own}
use Rattle.capnp_pointers.proofs.Decided.{within_or_not}
use Rattle.capnp_pointers.proofs.OneObject.ExpectedBySteps.{one_level, kind_below_two}
use Rattle.capnp_pointers.proofs.OneObject.ExpectedAsStated.{fitting_is, given_if, withheld_if}
use Rattle.capnp_pointers.proofs.Following.FaultlessWhereMeant.{one_target}
use Rattle.capnp_pointers.proofs.Following.LeadsWhereFollowed.{entered_leads, leads_to}
use Rattle.capnp_pointers.proofs.OneObject.ReadInOneWay.{is_answer, of_same_answer}
use Rattle.capnp_pointers.proofs.WholeValue.ObjectsRead.{own_struct, own_flat, own_pointers, own_structs}
use Rattle.capnp_pointers.proofs.WholeValue.ValueAsStated.{reads_if}
use Rattle.capnp_pointers.proofs.OneObject.PartsMeant.{Parts, is_null, is_capability, is_inner, means_parts}
use Rattle.capnp_pointers.proofs.WholeValue.UnreadableIfRefused.{affords_less, unreadable}
use Rattle.capnp_pointers.proofs.WholeValue.Shorthands.{MeanThere}
use Rattle.capnp_pointers.proofs.WholeValue.WordsAdded.{paid_none}
use Rattle.capnp_pointers.specs.Traversals.{places, element_places, places_below, Traverses, begins, reads, passes, IsUnexpected}
use Rattle.capnp_pointers.specs.Unexpected.{LeadsToOther}

-- These places mean values, which cost c in all.
abbrev AllMean : Bool → List Reading → ℕ → Type 0
AllMean b [] c = c ≡ 0
AllMean b (r ∷ ps) c = (t : Tree) × (k : ℕ) × (l : ℕ) × (r.charging ≡ b) × MeansThere r t k × AllMean b ps l × (c ≡ k + l)

joined : (b : Bool) (xs ys : List Reading) (i j : ℕ) → AllMean b xs i → AllMean b ys j → AllMean b (xs ++ ys) (i + j)
joined b [] ys i j x y = let e : j ≡ i + j = omega (arith, x) in subst (AllMean b ys) e y
joined b (r ∷ xs) ys i j (t, k, l, same, means, rest, sum) y = (t, k, l + j, same, means, joined b xs ys l j rest y, omega (arith, sum))

parted : (b : Bool) (xs ys : List Reading) (c : ℕ) → AllMean b (xs ++ ys) c → (i : ℕ) × (j : ℕ) × AllMean b xs i × AllMean b ys j × (c ≡ i + j)
parted b [] ys c h = (0, c, refl, h, omega arith)
parted b (r ∷ xs) ys c (t, k, l, same, means, rest, sum) =
    let x = parted b xs ys l rest in
    (k + x.0, x.1, (t, k, x.0, same, means, x.2, refl), x.3, omega (arith, sum, x.4))

children_mean : (r : Reading) (ts : Trees) (c : ℕ) → MeanThere r ts c → AllMean r.charging (places (count ts) r) c
children_mean r no_trees c h = h
children_mean r (tree t ts) c (k, l, one, rest, sum) = (t, k, l, refl, one, children_mean (place_past r 1) ts l rest, sum)

elements_mean : (d q : ℕ) (r : Reading) (es : Elements) (c : ℕ) → MeansElements r.segments r.levels r.segment r.at d q es c → AllMean r.charging (element_places d q (element_count es) r) c
elements_mean d q r no_elements c h = h
elements_mean d q r (element ws ts es) c (k, l, long, len, e, all, rest, sum) =
    let first : AllMean r.charging (places q (place_past r d)) k = subst (λ n. AllMean r.charging (places n (place_past r d)) k) len (children_mean (place_past r d) ts k all) in
    rw sum (joined r.charging (places q (place_past r d)) _ k l first (elements_mean d q (place_past (place_past r d) q) es l rest))

-- What the pointers of an object cost, with the object itself, is at most what its value costs.
Below : Reading → ℕ → Target → Type 0
Below r c a = (k : ℕ) × AllMean r.charging (places_below r (shape r.segments a)) k × (own_charge Value r.segments a + k ≤ c)

below : (r : Reading) (a : Target) (t : Tree) (c : ℕ) → LeadsTo r a → kind a.word < 2 → MeansThere r t c → Below r c a
unfolding Below
below r a Null c l near (z, free) = absurd (l.0 z)
below r a (Capability i) c l near (b, m, w, free) = let same : b ≡ a = one_target r b a m l in absurd (omega (arith, rw same at w))
below r a (StructTree ws ts) c l near (b, k, some, o, claims, words, all, g) =
    subst (Below r c) (one_target r b a o.leads_to l)
    (k, rw (o.is_struct, o.data_of, o.pointers) (children_mean (record r { levels = pred r.levels; segment = b.segment; at = b.start + length ws }) ts k all), omega (arith, own_struct r.segments b o.is_struct, o.data_of, o.pointers, g))
below r a (Flat size ns) c l near (b, some, small, o, claims, numbers, g) =
    let seven : nat_eq size 7 ≡ false = ne_eqb size 7 (λ e. omega (arith, e, small)) in
    let six : nat_eq size 6 ≡ false = ne_eqb size 6 (λ e. omega (arith, e, small)) in
    let words = ap₂ words_for o.is_size o.counts in
    let free = ap₂ count_cost o.is_size o.counts in
    subst (Below r c) (one_target r b a o.leads_to l)
    (0, rw (o.is_list, o.is_size, seven, six) refl, omega (arith, g, own_flat r.segments b o.is_list (omega (arith, o.is_size, small)), words, free))
below r a (Pointers ts) c l near (b, k, some, o, claims, all, g) =
    subst (Below r c) (one_target r b a o.leads_to l)
    (k, rw (o.is_list, o.is_size, o.counts) (children_mean (record r { levels = pred r.levels; segment = b.segment; at = b.start }) ts k all), omega (arith, own_pointers r.segments b o.is_list o.is_size, o.counts, g))
below r a (Structs d q es) c l near (b, m, k, some, o, claims, t, fits, all, g) =
    let free = ap₂ count_cost (ap₂ (λ x y. x + y) t.data_of t.pointers) t.counts in
    subst (Below r c) (one_target r b a o.leads_to l)
    (k, rw (o.is_list, o.is_size, t.data_of, t.pointers, t.counts) (elements_mean d q (record r { levels = pred r.levels; segment = b.segment; at = b.start + 1 }) es k all), omega (arith, g, own_structs r.segments b o.is_list o.is_size, o.counts, free))

-- A call that returns an object pays no more than the object's own words.
Reads : Reading → ℕ → Meter → Meter → Shape → Type 0
Reads r c now next o = (g : ℕ) × (i : ℕ) × (k : ℕ) × Paid r.charging now next g i × AllMean r.charging (places_below r o) k × (g + k ≤ c)

object_read : (e : Expected) (r : Reading) (t : Tree) (c : ℕ) (now next : Meter) (o : Shape) → MeansThere r t c → expect (expectation e) r now ≡ (Ok o, next) → Reads r c now next o
unfolding Reads Below
object_read e r t c now next o means is = go (given_if (expectation e) r now (kind_below_two e) (is_answer is))
  where
    go : HasExpected (expectation e) r now → Reads r c now next o
    go (null_pointer z) = let nothing_is : expect (expectation e) r now ≡ (Ok nothing, now) = rw z refl in of_same_answer (λ m x. Reads r c now m x) nothing_is is (0, 0, 0, paid_none r now, refl, omega arith)
    go (fitting {m' = n} a level of_kind entered fits) =
        let x = below r a t c (entered_leads entered) entered.meets.is_object means in
        of_same_answer (λ m y. Reads r c now m y) (fitting_is (expectation e) r now n a level of_kind entered fits) is (own_charge Value r.segments a, 1, x.0, paid_own entered, x.1, x.2)

-- What is broken with one level is broken with more.
breaks : (S : Segments) (n : ℕ) (a : Target) (k : ErrorKind) → 0 < n → BreaksObject Value plain S 1 a k → BreaksObject Value plain S n a k
breaks S n a MalformedDoubleFarPointer some h = h
breaks S n a UnknownPointerType some h = h
breaks S n a CannotCreateACanonicalMessageWithACapability some h = h
breaks S n a MessageIsTooDeeplyNestedOrContainsCycles some (object, none) = absurd (omega (arith, none))
breaks S n a MessageContainsOutOfBoundsPointer some (object, level, out) = (object, some, out)
breaks S n a InlineCompositeListsOfNonStructTypeAreNotSupported some (level, tagged, claims, other) = (some, tagged, claims, other)
breaks S n a InlineCompositeListsElementsOverrunItsWordCount some (level, tagged, claims, is_tag, over) = (some, tagged, claims, is_tag, over)
breaks S n a k some h = absurd h

at_any_level : {r : Reading} {m m' : Meter} {k : ErrorKind} → 0 < r.levels → Stopped Value plain (one_level r) m m' k → Stopped Value plain r m m' k
at_any_level some (no_target (exceeding there short paid named)) = no_target (exceeding there short paid named)
at_any_level some (no_target (leading_nowhere there e paid)) = no_target (leading_nowhere there e paid)
at_any_level {r} {k = k} some (broken a f h paid) = broken a f (breaks r.segments r.levels a k some h) paid
at_any_level some (claim_exceeds a f level object claims short paid named) = claim_exceeds a f some object claims short paid named
at_any_level some (count_exceeds a f meets short paid named) = count_exceeds a f (record { levels = some; is_object = meets.is_object; claims = meets.claims; tagged = meets.tagged }) short paid named

-- A place without a level means null or a capability, and means it with a level too.
at_one_level : (r : Reading) (t : Tree) (c : ℕ) → r.levels ≤ 0 → MeansThere r t c → MeansThere (one_level r) t c
at_one_level r Null c none means = means
at_one_level r (Capability i) c none means = means
at_one_level r (StructTree ws ts) c none means = absurd (omega (arith, none, means.2))
at_one_level r (Flat size ns) c none means = absurd (omega (arith, none, means.1))
at_one_level r (Pointers ts) c none means = absurd (omega (arith, none, means.2))
at_one_level r (Structs d q es) c none means = absurd (omega (arith, none, means.3))

-- A call that expects something isn't refused for a level, if one is left; otherwise only for a
-- capability.
level_left : (e : Expected) (n : ℕ) (k : ErrorKind) → 0 < n → (expectation e).too_deep n ≡ Some k → ⊥
level_left Struct n k some deep = let other : nat_eq n 0 ≡ false = ne_eqb _ _ (λ z. omega (arith, z, some)) in cc (rw other at deep)
level_left (ListExpected size) n k some deep = let other : nat_eq n 0 ≡ false = ne_eqb _ _ (λ z. omega (arith, z, some)) in cc (rw other at deep)
level_left Text n k some deep = cc deep
level_left Data n k some deep = cc deep

deepest : (e : Expected) (r : Reading) (t : Tree) (c : ℕ) (k : ErrorKind) → r.levels ≤ 0 → word_of r ≢ 0 → MeansThere r t c → (expectation e).too_deep r.levels ≡ Some k → IsUnexpected e r k
deepest e r Null c k none some (z, free) deep = absurd (some z)
deepest e r (Capability i) c k none some (a, l, w, free) deep = let zero_left : r.levels ≡ 0 = omega (arith, none) in inr (a, l, omega (arith, w), zero_left, rw zero_left at deep)
deepest e r (StructTree ws ts) c k none some means deep = absurd (omega (arith, none, means.2))
deepest e r (Flat size ns) c k none some means deep = absurd (omega (arith, none, means.1))
deepest e r (Pointers ts) c k none some means deep = absurd (omega (arith, none, means.2))
deepest e r (Structs d q es) c k none some means deep = absurd (omega (arith, none, means.3))

-- The landing pads of a pointer cost no more than its value.
pads_within : {r : Reading} {m c : ℕ} {a : Target} → Parts r m c → FollowsTo r a → a.pads ≤ c
pads_within (is_null z) f = absurd (f.0 z)
pads_within {r} {a = a} (is_capability b l low some e) f = let g = (leads_to r b l).1 in let h = f.1 in let same : b ≡ a = cc (g, h) in let pads = ap (λ (x : Target). x.pads) same in omega (arith, e, pads)
pads_within {r} {a = a} (is_inner b l inner) f = let g = (leads_to r b l).1 in let h = f.1 in let same : b ≡ a = cc (g, h) in let pads = ap (λ (x : Target). x.pads) same in omega (arith, inner.cost, pads)

-- A call that is refused pays no more than the value, and is refused for what it found.
Passes : Expected → Reading → ℕ → Meter → Meter → ErrorKind → Type 0
Passes e r c now next k = (g : ℕ) × (i : ℕ) × Paid r.charging now next g i × (g ≤ c) × IsUnexpected e r k

object_refused : (e : Expected) (r : Reading) (t : Tree) (c : ℕ) (now next : Meter) (k : ErrorKind) → MeansThere r t c → Affords r.charging now c → expect (expectation e) r now ≡ (Err k, next) → Passes e r c now next k
unfolding Passes Below
object_refused e r t c now next k means covers is = go (withheld_if (expectation e) r now next k (kind_below_two e) is)
  where
    never : Stopped Value plain r now next k → ⊥
    never h = (unreadable (here h)).only t c means (λ other. absurd (other refl)) covers

    leveled : Stopped Value plain (one_level r) now next k → ⊥
    leveled h = elim (within_or_not r.levels 0) [
      | inl none ↦ (unreadable (here h)).only t c (at_one_level r t c none means) (λ other. absurd (other refl)) covers
      | inr some ↦ never (at_any_level some h)
    ]

    go : RefusesExpected (expectation e) r now next k → Passes e r c now next k
    go (no_level there deep same) = elim (within_or_not r.levels 0) [
      | inl none ↦ (0, 0, subst (λ m. Paid r.charging now m 0 0) (sym same) (paid_none r now), omega arith, deepest e r t c k none there means deep)
      | inr some ↦ absurd (level_left e r.levels k some deep)
    ]
    go (unfollowed fine h) = absurd (never (no_target h))
    go (of_another_kind a fine f other paid) = (a.pads, 1, paid, pads_within (means_parts r t c means) f, inl (a, f, inl other))
    go (stopped fine kinds h) = absurd (leveled h)
    go (misfits a fine kinds entered other) =
        let x = below r a t c (entered_leads entered) entered.meets.is_object means in
        (own_charge Value r.segments a, 1, paid_own entered, omega (arith, x.2), inl (a, entered.follows, inr other))

-- What the places that may be followed next cost is left.
Within : Bool → List Reading → Meter → Type 0
Within b ps m = (c : ℕ) × AllMean b ps c × Affords b m c

place_left : (b : Bool) (before later : List Reading) (r : Reading) (m : Meter) → Within b (before ++ (r ∷ later)) m → (t : Tree) × (c : ℕ) × MeansThere r t c × Affords r.charging m c
unfolding Within
place_left b before later r m (c, all, covers) = go (parted b before (r ∷ later) c all)
  where
    go : (i : ℕ) × (j : ℕ) × AllMean b before i × AllMean b (r ∷ later) j × (c ≡ i + j) → (t : Tree) × (c : ℕ) × MeansThere r t c × Affords r.charging m c
    go (i, j, x, (t, k, l, same, means, rest, sum), total) = (t, k, means, rw same (affords_less b m k c (omega (arith, sum, total)) covers))

one_read : (b : Bool) (before later : List Reading) (r : Reading) (now next : Meter) (o : Shape) (e : Expected) → Within b (before ++ (r ∷ later)) now → expect (expectation e) r now ≡ (Ok o, next) → Within b (before ++ (places_below r o ++ later)) next
unfolding Within Reads
one_read b before later r now next o e (c, all, covers) is = go (parted b before (r ∷ later) c all)
  where
    go : (i : ℕ) × (j : ℕ) × AllMean b before i × AllMean b (r ∷ later) j × (c ≡ i + j) → Within b (before ++ (places_below r o ++ later)) next
    go (i, j, x, (t, k, l, same, means, rest, sum), total) =
        let (g, h, n, paid, all_below, le) = object_read e r t k now next o means is in
        let spent : Paid b now next g h = subst (λ y. Paid y now next g h) same paid in
        (i + (n + l), joined b before (places_below r o ++ later) i (n + l) x (joined b (places_below r o) later n l (subst (λ y. AllMean y (places_below r o) n) same all_below) rest), affords_rest (i + (n + l)) c spent (omega (arith, sum, total, le)) covers)

one_passed : (b : Bool) (before later : List Reading) (r : Reading) (now next : Meter) (k : ErrorKind) (e : Expected) → Within b (before ++ (r ∷ later)) now → expect (expectation e) r now ≡ (Err k, next) → Within b (before ++ later) next
unfolding Within Passes
one_passed b before later r now next k e (c, all, covers) is = go (parted b before (r ∷ later) c all)
  where
    go : (i : ℕ) × (j : ℕ) × AllMean b before i × AllMean b (r ∷ later) j × (c ≡ i + j) → Within b (before ++ later) next
    go (i, j, x, (t, n, l, same, means, rest, sum), total) =
        let (g, h, paid, le, other) = object_refused e r t n now next k means (rw same (affords_less b now n c (omega (arith, sum, total)) covers)) is in
        let spent : Paid b now next g h = subst (λ y. Paid y now next g h) same paid in
        (i + l, joined b before later i l x rest, affords_rest (i + l) c spent (omega (arith, sum, total, le)) covers)

stays_within : {r : Reading} {m now : Meter} {ps : List Reading} → Within r.charging (r ∷ []) m → Traverses r m ps now → Within r.charging ps now
stays_within start begins = start
stays_within {r} start (reads before later s {now} {next} {o} e first is) = one_read r.charging before later s now next o e (stays_within start first) is
stays_within {r} start (passes before later s {now} {next} {k} e first is) = one_passed r.charging before later s now next k e (stays_within start first) is

pub traversed : (r : Reading) (m left now next : Meter) (t : Tree) (before later : List Reading) (s : Reading) (e : Expected) (k : ErrorKind) → value plain r m ≡ (Ok t, left) → Traverses r m (before ++ (s ∷ later)) now → expect (expectation e) s now ≡ (Err k, next) → IsUnexpected e s k
unfolding Within Passes
traversed r m left now next t before later s e k is reached refused =
    let x = reads_if plain r m left t is in
    let start : Within r.charging (r ∷ []) m = (x.cost, (t, x.cost, 0, refl, x.means, refl, omega arith), x.covers) in
    let y = place_left r.charging before later s now (stays_within start reached) in
    (object_refused e s y.0 y.1 now next k y.2 y.3 refused).4

pub leads_to_other : (e : Expected) (r : Reading) (m m' : Meter) (t : Tree) (c : ℕ) (k : ErrorKind) → MeansThere r t c → 0 < r.levels → Affords r.charging m c → expect (expectation e) r m ≡ (Err k, m') → LeadsToOther (expectation e) r k
unfolding Passes
leads_to_other e r m m' t c k means some covers is = elim (object_refused e r t c m m' k means covers is).4 [ inl other ↦ other | inr (a, l, low, none, deep) ↦ absurd (omega (arith, none, some)) ]
