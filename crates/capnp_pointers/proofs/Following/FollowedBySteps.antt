-- Following a pointer, by the steps of `src/source.rt`: `u` or `w` is what the program computed.
use Rattle.std.proofs.Common.{◌≡◌, ◌≢◌, ◌⊎◌, inl, inr, ℕ, ℤ, zero, suc, ◌+◌, ◌^◌, ◌<◌, ◌≤◌, Bool, true, false, ◌&&◌, cond, nat_eq, nat_lt, is_some, Some, None, Result, Ok, Err, List, [], ◌∷◌, length, get_or, refl, sym, ap, ap₂, ◌∙◌, arith, lt-ltb, eq-eqb}
use Rattle.std.specs.Prelude.{ok_or}
use Rattle.std.proofs.lemmas.Bool.{ne_eqb, false≢true}
use Rattle.std.proofs.lemmas.List.{get_or_past}
use Rattle.std.proofs.lemmas.Bool.Decides.{nat_tests}
use Rattle.capnp_words.specs.declared.error.ErrorKind.{ErrorKind}
use Rattle.capnp_words.specs.declared.error.ErrorKind.TheVariants.{InvalidSegmentId, MessageContainsOutOfBoundsPointer, TriedToReadFromNullArena}
use Rattle.capnp_format.specs.Word.{kind, upper_half, far_position, is_double}
use Rattle.capnp_format.specs.Segments.{Segments, segment, word_at, Target, near, pad}
use Rattle.capnp_words.specs.Meter.{Meter, counted_once}
use Rattle.capnp_arena_traits.specs.declared.arena.reader_arena.ReaderArena.{Ghosts}
use Rattle.capnp_arena_traits.specs.Checks.{IsUnknown}
use Rattle.capnp_arena_traits.proofs.MessageLemmas.{length-message}
use Rattle.capnp_format.specs.Bytes.{words_of, message}
use Rattle.std.specs.Borrow.{Bor}
use Rattle.capnp_pointers.specs.declared.object.Place.{Place}
use Rattle.capnp_pointers.specs.declared.object.PointerWord.{PointerWord}
use Rattle.capnp_pointers.specs.declared.object.Purpose.{Purpose}
use Rattle.capnp_pointers.specs.declared.object.Purpose.TheVariants.{Value, Size}
use Rattle.capnp_pointers.specs.declared.source.Source.{Source}
use Rattle.capnp_pointers.specs.declared.source.Source.TheVariants.{Arena, Default, Nothing}
use Rattle.capnp_format.specs.Means.{Claims}
use Rattle.capnp_pointers.specs.Demands.{claimed_words, IsInSegment}
use Rattle.capnp_pointers.specs.Enter.{follow}
use Rattle.capnp_pointers.specs.Entering.{follow_pads, IsPad}
use Rattle.capnp_pointers.specs.Follow.{follow_far}
use Rattle.capnp_pointers.specs.Metered.{onward, outcome, charge_words}
use Rattle.capnp_pointers.specs.Objects.{IsWordRead, near_at}
use Rattle.capnp_pointers.specs.Reading.{Reading, source_start, reading_at, word_of}
use Rattle.capnp_pointers.specs.Refusals.{landing_words}
use Rattle.capnp_pointers.specs.Source.{default_segments}
use Rattle.capnp_pointers.proofs.Budget.ChargedAsStated.{free}
use Rattle.capnp_pointers.proofs.Decided.{within_or_not}
use Rattle.capnp_pointers.proofs.Following.DefaultSegments.{default_before, length-default}
use Rattle.capnp_pointers.proofs.Following.LeadsWhereFollowed.{near_landed}

-- an unknown segment number, if there are segments
pub known : {B : List (List ℕ)} {id : ℕ} {k : ErrorKind} → 0 < length (message B) → IsUnknown B id k → k ≡ InvalidSegmentId id
known {B} {id} {k} some (inl named) = named
known {B} {id} {k} some (inr (none, named)) = absurd (omega (arith, length-message B, ap length none))

-- a number that isn't below the number of segments
pub beyond : (B : List (List ℕ)) (id : ℕ) → (id < length B → false ≡ true) → length (message B) ≤ id
beyond B id h = elim (within_or_not (length B) id) [ inl le ↦ omega (arith, length-message B, le) | inr lt ↦ absurd (false≢true (h lt)) ]

-- the words of the landing pads
pub no_pads_near : (S : Segments) (x : ℕ) → kind x ≢ 2 → landing_words S x ≡ 0
no_pads_near S x other = ap (λ b. cond (b && is_some (pad S x (is_double x))) (1 + is_double x) 0) (ne_eqb (kind x) 2 other)

no_pads : (S : Segments) (x : ℕ) → pad S x (is_double x) ≡ None → landing_words S x ≡ 0
no_pads S x none = ap (λ o. cond (nat_eq (kind x) 2 && is_some o) (1 + is_double x) 0) none ∙ go (nat_eq (kind x) 2)
  where
    go : (b : Bool) → cond (b && false) (1 + is_double x) 0 ≡ 0
    go true = refl
    go false = refl

pub pads_there : {w : ℕ} (S : Segments) (x : ℕ) → kind x ≡ 2 → pad S x (is_double x) ≡ Some w → landing_words S x ≡ 1 + is_double x
pads_there {w} S x is_far there = ap₂ (λ b o. cond (b && is_some o) (1 + is_double x) 0) (eq-eqb (kind x) 2 is_far) there

-- a landing pad that is there, or not
pub absent : (u n : ℕ) → n ≤ u → nat_lt u n ≡ false
absent u n h = grind (arith, nat_tests)

pad_there : (S : Segments) (x n : ℕ) → far_position x + n < length (segment S (upper_half x)) → pad S x n ≡ Some (word_at S (upper_half x) (far_position x))
pad_there S x n h = rw (lt-ltb _ _ h) refl

pad_out : (S : Segments) (x n : ℕ) → length (segment S (upper_half x)) ≤ far_position x + n → pad S x n ≡ None
pad_out S x n h = rw (absent _ _ h) refl

absent_pad : (S : Segments) (x n : ℕ) → length S ≤ upper_half x → pad S x n ≡ None
absent_pad S x n h = let none : segment S (upper_half x) ≡ [] = get_or_past S (upper_half x) [] h in pad_out S x n (let z : length (segment S (upper_half x)) ≡ 0 = ap length none in omega (arith, z))

far_absent : (S : Segments) (x d : ℕ) → length S ≤ upper_half x → follow_far S x d ≡ Err (InvalidSegmentId (upper_half x))
far_absent S x zero h = rw (absent _ _ h) refl
far_absent S x (suc d) h = rw (absent _ _ h) refl

far_out : (S : Segments) (x d : ℕ) → d < 2 → upper_half x < length S → length (segment S (upper_half x)) ≤ far_position x + d → follow_far S x d ≡ Err MessageContainsOutOfBoundsPointer
far_out S x zero two there h = rw (lt-ltb _ _ there, absent _ _ h) refl
far_out S x (suc d) two there h = rw (lt-ltb _ _ there, absent (far_position x + 1) (length (segment S (upper_half x))) (omega (arith, two, h))) refl

-- a far pointer whose pad is in no segment, or outside of its segment
free_pads : (S : Segments) (charging : Bool) (x : ℕ) (m : Meter) → landing_words S x ≡ 0 → follow_pads S charging x m ≡ (follow_far S x (is_double x), m)
free_pads S charging x m none = rw none (ap (onward (λ _. outcome (follow_far S x (is_double x)))) (free charging m))

pub pad_absent : (S : Segments) (charging : Bool) (x u : ℕ) (m : Meter) → u ≡ upper_half x → length S ≤ u → follow_pads S charging x m ≡ (Err (InvalidSegmentId u), m)
pad_absent S charging x u m e h =
    free_pads S charging x m (no_pads S x (absent_pad S x (is_double x) (omega (arith, h, e)))) ∙ ap (λ o. (o, m)) (far_absent S x (is_double x) (omega (arith, h, e)) ∙ ap (λ i. Err (InvalidSegmentId i)) (sym e))

pub pad_beyond : (S : Segments) (charging : Bool) (x : ℕ) (m : Meter) → upper_half x < length S → length (segment S (upper_half x)) ≤ far_position x + is_double x →
    follow_pads S charging x m ≡ (Err MessageContainsOutOfBoundsPointer, m)
pad_beyond S charging x m there h =
    free_pads S charging x m (no_pads S x (pad_out S x (is_double x) h)) ∙ ap (λ o. (o, m)) (far_out S x (is_double x) (omega arith) there h)

-- one whose pad is there, and is charged
pub pad_charged : (S : Segments) (charging : Bool) (x : ℕ) (m m' : Meter) (result : Result (Unit {0}) ErrorKind) → kind x ≡ 2 → far_position x + is_double x < length (segment S (upper_half x)) → charge_words charging (1 + is_double x) m ≡ (result, m') →
    follow_pads S charging x m ≡ onward (λ _. outcome (follow_far S x (is_double x))) (result, m')
pad_charged S charging x m m' result is_far inside e =
    rw (pads_there S x is_far (pad_there S x (is_double x) inside)) (ap (onward (λ _. outcome (follow_far S x (is_double x)))) e)

-- word i of the segment that has the pad
abbrev At : Place → ℕ → ℕ
At q i = get_or (words_of q.bytes.now) i 0

-- where one pad leads
pub single : {S : Segments} {x w : ℕ} {q : Place} → IsPad S x q → is_double x ≡ 0 → w ≡ At q q.at →
    follow_far S x (is_double x) ≡ ok_or (near S q.segment q.at w 1) MessageContainsOutOfBoundsPointer
single {S} {x} {w} {q} o z e =
    let word : w ≡ word_at S (upper_half x) (far_position x) = e ∙ ap (λ ws. get_or ws q.at 0) o.held.0 ∙ ap₂ (word_at S) o.segment_of o.position_of in
    let inside : nat_lt (far_position x + 0) (length (segment S (upper_half x))) ≡ true = lt-ltb _ _ (rw (← o.segment_of, ← o.position_of) (let h = o.inside in omega (arith, h, z))) in
    rw (z, lt-ltb _ _ o.exists, inside, word, o.segment_of, o.position_of) refl

-- where two pads lead
pub double : {S : Segments} {x f : ℕ} {q : Place} → IsPad S x q → is_double x ≡ 1 → f ≡ At q q.at →
    follow_far S x (is_double x) ≡ cond (nat_lt (upper_half f) (length S)) (Ok (record { word = At q (q.at + 1); segment = upper_half f; start = far_position f; pads = 2 })) (Err (InvalidSegmentId (upper_half f)))
double {S} {x} {f} {q} o one e =
    let word : f ≡ word_at S (upper_half x) (far_position x) = e ∙ ap (λ ws. get_or ws q.at 0) o.held.0 ∙ ap₂ (word_at S) o.segment_of o.position_of in
    let inside : nat_lt (far_position x + 1) (length (segment S (upper_half x))) ≡ true = lt-ltb _ _ (rw (← o.segment_of, ← o.position_of) (let h = o.inside in omega (arith, h, one))) in
    rw (one, lt-ltb _ _ o.exists, inside, word, o.held.0, o.segment_of, o.position_of) refl

-- a pointer that is far, or not
pub far_followed : (r : Reading) (x : ℕ) (m : Meter) → x ≡ word_of r → kind x ≡ 2 → r.of_default ≡ false → follow r m ≡ follow_pads r.segments r.charging x (counted_once r.charging m)
far_followed r x m e is_far message = let test : nat_eq (kind (word_of r)) 2 ≡ true = eq-eqb _ _ (rw e at is_far) in rw (e, test, message) refl

pub near_followed : (r : Reading) (x : ℕ) (m : Meter) → x ≡ word_of r → kind x ≢ 2 → follow r m ≡ (ok_or (near r.segments r.segment r.at x 0) MessageContainsOutOfBoundsPointer, counted_once r.charging m)
near_followed r x m e other =
    let test : nat_eq (kind (word_of r)) 2 ≡ false = ne_eqb _ _ (rw e at other) in
    rw (e, test) (ap (onward (λ _. outcome (ok_or (near r.segments r.segment r.at (word_of r) 0) MessageContainsOutOfBoundsPointer))) (free r.charging (counted_once r.charging m)))

pub near_found : (r : Reading) (a : Target) (m m' : Meter) → kind (word_of r) < 2 → follow r m ≡ (Ok a, m') → a ≡ near_at r a.start
near_found r a m m' low e =
    let other : kind (word_of r) ≢ 2 = λ f. omega (arith, f, low) in
    let test : nat_eq (kind (word_of r)) 2 ≡ false = ne_eqb _ _ other in
    let results = ap (λ p. p.0) (sym (near_followed r (word_of r) m refl other) ∙ e) in
    near_landed r a other (rw test results)

-- a far pointer of a default: all segments that it could name are empty
default_far : (r : Reading) (bytes : List ℕ) (m : Meter) → r.segments ≡ default_segments bytes → r.of_default ≡ true → r.charging ≡ false → kind (word_of r) ≡ 2 → word_of r < 2 ^ 64 →
    follow r m ≡ (Err TriedToReadFromNullArena, counted_once r.charging m)
default_far r bytes m segments default uncharged is_far small =
    let S : Segments = r.segments in
    let x : ℕ = word_of r in
    let none : segment S (upper_half x) ≡ [] = ap (λ T. segment T (upper_half x)) segments ∙ default_before bytes (upper_half x) (omega arith) in
    let z : length (segment S (upper_half x)) ≡ 0 = ap length none in
    let many : length S ≡ suc (2 ^ 32) = ap length segments ∙ length-default bytes in
    let out : follow_far S x (is_double x) ≡ Err MessageContainsOutOfBoundsPointer = far_out S x (is_double x) (omega arith) (omega (arith, many)) (omega (arith, z)) in
    let test : nat_eq (kind (word_of r)) 2 ≡ true = eq-eqb _ _ is_far in
    rw (uncharged, test, default, out) refl

-- if the word at a place isn't null, there are segments
some_segments : (S : Segments) (s p : ℕ) → word_at S s p ≢ 0 → 0 < length S
some_segments [] s p some = absurd (some (ap (λ (ws : List ℕ). get_or ws p 0) (get_or_past [] s [] (omega arith)) ∙ get_or_past [] p 0 (omega arith)))
some_segments (ws ∷ S) s p some = omega arith

pub segments_of_word : {r : Reading} {pointer : PointerWord} → IsWordRead r pointer → 0 < length r.segments
segments_of_word {r} w = some_segments r.segments r.segment r.at (λ e. w.some (w.there ∙ e))

pub default_refused : {A : Type 0} (g : Ghosts A) {source : Source A} (here : Place) (m : Meter) (nesting : ℤ) → ((d : Bor (List ℕ)) × (source ≡ Default d)) ⊎ (source ≡ Nothing) → 0 < length (source_start g source).segments →
    kind (word_of (reading_at g source here nesting)) ≡ 2 → word_of (reading_at g source here nesting) < 2 ^ 64 → follow (reading_at g source here nesting) m ≡ (Err TriedToReadFromNullArena, counted_once (source_start g source).charging m)
default_refused g {source = Arena a} here m nesting (inl w) some is_far small = absurd (let e = w.1 in cc)
default_refused g {source = Arena a} here m nesting (inr e) some is_far small = absurd cc
default_refused g {source = Default d} here m nesting e some is_far small = default_far (reading_at g (Default d) here nesting) d.now m refl refl refl is_far small
default_refused g {source = Nothing} here m nesting e some is_far small = absurd (omega arith)

-- if the words of an object are inside their segment, they are so for each purpose
pub lies : (purpose : Purpose) (S : Segments) (a : Target) → Claims S a (claimed_words a.word) → IsInSegment purpose S a
lies Value S a h = h
lies Size S a h = λ _. h
