-- A pointer leads somewhere exactly if following it succeeds, and not to a far word.
use Rattle.std.proofs.Common.{◌≡◌, ◌≢◌, ℕ, zero, suc, ◌+◌, ◌<◌, ◌≤◌, Bool, true, false, ◌&&◌, cond, nat_eq, nat_lt, Option, Some, None, Result, Ok, Err, [], length, get_or, refl, sym, ap, ◌∙◌, arith, eqb-true}
use Rattle.std.specs.Prelude.{ok_or}
use Rattle.std.specs.Result.{result_ok}
use Rattle.std.proofs.lemmas.Bool.{eqb-false, ltb-true, ne_eqb}
use Rattle.std.proofs.lemmas.List.{get_or_past}
use Rattle.capnp_words.specs.declared.error.ErrorKind.{ErrorKind}
use Rattle.capnp_words.specs.declared.error.ErrorKind.TheVariants.{InvalidSegmentId, MessageContainsOutOfBoundsPointer, TriedToReadFromNullArena}
use Rattle.capnp_format.specs.Word.{kind, upper_half, far_position, is_double, offset_bits}
use Rattle.capnp_format.specs.Segments.{Segments, segment, word_at, Target, ◌>>=◌, given, offset_leads, near, pad, far, leads}
use Rattle.capnp_pointers.specs.Follow.{◌>=>◌, follow_far}
use Rattle.capnp_format.specs.Means.{Leads}
use Rattle.capnp_pointers.specs.Faults.{LeadsTo}
use Rattle.capnp_pointers.specs.Objects.{near_at}
use Rattle.capnp_pointers.specs.Reading.{Reading, word_of}
use Rattle.capnp_pointers.specs.declared.object.Purpose.{Purpose}
use Rattle.capnp_words.specs.Meter.{Meter}
use Rattle.capnp_pointers.specs.Wanted.{follow_at, FollowsTo}
use Rattle.capnp_pointers.specs.Outcomes.{Entered}

-- an option as a result: what isn't there is refused with the given error
abbrev pub or_named : {A : Type 0} → ErrorKind → Option A → Result A ErrorKind
or_named k o = ok_or o k

-- the result of following a far pointer of a default, which leads nowhere: it has an error of its
-- own
abbrev pub far_named : Bool → Result Target ErrorKind → Result Target ErrorKind
far_named b result = cond b (ok_or (result_ok result) TriedToReadFromNullArena) result

-- the result x, if segment u exists
abbrev pub existing : {A : Type 0} → Segments → ℕ → A → Result A ErrorKind
existing S u x = cond (nat_lt u (length S)) (Ok x) (Err (InvalidSegmentId u))

-- a far pointer is followed step by step
abbrev pub far_steps : Segments → ℕ → ℕ → Result Target ErrorKind
far_steps S x zero =
    existing S (upper_half x) x >=> λ _.
    or_named MessageContainsOutOfBoundsPointer (pad S x 0) >=> λ w. or_named MessageContainsOutOfBoundsPointer (near S (upper_half x) (far_position x) w 1)
far_steps S x (suc _) =
    existing S (upper_half x) x >=> λ _.
    or_named MessageContainsOutOfBoundsPointer (pad S x 1) >=> λ f.
    existing S (upper_half f) (record { word = word_at S (upper_half x) (far_position x + 1); segment = upper_half f; start = far_position f; pads = 2 })

first_there : (b : Bool) (x : ℕ) (k : ErrorKind) (r : Result Target ErrorKind) → cond b r (Err k) ≡ (cond b (Ok x) (Err k) >=> λ _. r)
first_there true x k r = refl
first_there false x k r = refl

pub followed_far : (S : Segments) (x double : ℕ) → follow_far S x double ≡ far_steps S x double
followed_far S x zero = first_there (nat_lt (upper_half x) (length S)) x (InvalidSegmentId (upper_half x)) _
followed_far S x (suc d) = first_there (nat_lt (upper_half x) (length S)) x (InvalidSegmentId (upper_half x)) _

-- where the word at a place leads, if it isn't zero: to an object, whose describing word may have
-- any kind; or the first of the refusals
abbrev pub follow : Segments → ℕ → ℕ → Result Target ErrorKind
follow S s p = let x = word_at S s p in cond (nat_eq (kind x) 2) (far_steps S x (is_double x)) (or_named MessageContainsOutOfBoundsPointer (near S s p x 0))

abbrev pub is_named : Reading → Bool
is_named r = r.of_default && nat_eq (kind (word_of r)) 2

pub followed_at : (r : Reading) → follow_at r ≡ far_named (is_named r) (follow r.segments r.segment r.at)
followed_at r =
    let x : ℕ = word_of r in
    let there : Result Target ErrorKind = or_named MessageContainsOutOfBoundsPointer (near r.segments r.segment r.at x 0) in
    ap (λ far. cond (nat_eq (kind x) 2) (cond r.of_default (ok_or (result_ok far) TriedToReadFromNullArena) far) there) (followed_far r.segments x (is_double x))
    ∙ go (nat_eq (kind x) 2) r.of_default (far_steps r.segments x (is_double x)) there
  where
    go : (b d : Bool) (far there : Result Target ErrorKind) → cond b (cond d (ok_or (result_ok far) TriedToReadFromNullArena) far) there ≡ far_named (d && b) (cond b far there)
    go true true far there = refl
    go true false far there = refl
    go false true far there = refl
    go false false far there = refl

-- the option o and the result r agree on every target whose word isn't far
record Agrees (o : Option Target) (r : Result Target ErrorKind) : Type 0 where
  there : (a : Target) → o ≡ Some a → (r ≡ Ok a) × (kind a.word ≢ 2)
  back : (a : Target) → r ≡ Ok a → kind a.word ≢ 2 → o ≡ Some a

by_choice : {o q : Option Target} {r t : Result Target ErrorKind} (b : Bool) → (b ≡ true → Agrees o r) → (b ≡ false → Agrees q t) → Agrees (cond b o q) (cond b r t)
by_choice true h k = h refl
by_choice false h k = k refl

by_name : (k : ErrorKind) (o : Option Target) → ((a : Target) → o ≡ Some a → kind a.word ≢ 2) → Agrees o (or_named k o)
by_name k (Some x) h = record { there = λ a e. (cc e, h a e); back = λ a e _. cc e }
by_name k None h = record { there = λ a e. absurd (cc e); back = λ a e _. absurd (cc e) }

by_pad : (k : ErrorKind) (o : Option ℕ) (f : ℕ → Option Target) (g : ℕ → Result Target ErrorKind) → ((w : ℕ) → o ≡ Some w → Agrees (f w) (g w)) → Agrees (o >>= f) (or_named k o >=> g)
by_pad k (Some w) f g h = h w refl
by_pad k None f g h = record { there = λ a e. absurd (cc e); back = λ a e _. absurd (cc e) }

by_existing : {o : Option Target} {r : Result Target ErrorKind} (b : Bool) (x : ℕ) (k : ErrorKind) → (b ≡ false → o ≡ None) → Agrees o r → Agrees o (cond b (Ok x) (Err k) >=> λ _. r)
by_existing true x k h agree = agree
by_existing false x k h agree = record { there = λ a e. let g = h refl in absurd (cc (e, g)); back = λ a e _. absurd (cc e) }

by_kind : (w : ℕ) (k : ErrorKind) (o : Option Target) → ((a : Target) → o ≡ Some a → a.word ≡ w) → Agrees (cond (nat_eq (kind w) 2) None o) (or_named k o)
by_kind w k o same = go (nat_eq (kind w) 2) o (eqb-true (kind w) 2) (eqb-false (kind w) 2) same
  where
    go : (b : Bool) (o : Option Target) → (b ≡ true → kind w ≡ 2) → (b ≡ false → kind w ≢ 2) → ((a : Target) → o ≡ Some a → a.word ≡ w) → Agrees (cond b None o) (or_named k o)
    go true None two other_kind same = record { there = λ a e. absurd (cc e); back = λ a e _. absurd (cc e) }
    go true (Some x) two other_kind same = record { there = λ a e. absurd (cc e); back = λ a e other. absurd (other (ap kind (same a (cc e)) ∙ two refl)) }
    go false o two other_kind same = by_name k o (λ a e is_far. other_kind refl (sym (ap kind (same a e)) ∙ is_far))

by_tag : (t : Target) (b c : Bool) (k : ErrorKind) → (b ≡ true → kind t.word ≡ 2) → (b ≡ false → kind t.word ≢ 2) → Agrees (cond b None (given c t)) (cond c (Ok t) (Err k))
by_tag t true true k two other_kind = record { there = λ a e. absurd (cc e); back = λ a e other. absurd (other (let s : t ≡ a = cc e in rw (sym s) (two refl))) }
by_tag t true false k two other_kind = record { there = λ a e. absurd (cc e); back = λ a e _. absurd (cc e) }
by_tag t false true k two other_kind = record { there = λ a e. (cc e, let s : t ≡ a = cc e in rw (sym s) (other_kind refl)); back = λ a e _. cc e }
by_tag t false false k two other_kind = record { there = λ a e. absurd (cc e); back = λ a e _. absurd (cc e) }

pub near_word : {a : Target} (S : Segments) (s p x pads : ℕ) → near S s p x pads ≡ Some a → a.word ≡ x
near_word {a} S s p x pads e = go (offset_leads (length (segment S s)) p (offset_bits x)) e
  where
    go : (o : Option ℕ) → (o >>= λ b. Some (record { word = x; segment = s; start = b; pads = pads })) ≡ Some a → a.word ≡ x
    go (Some b) e = let q : record { word = x; segment = s; start = b; pads = pads } ≡ a = cc e in sym (ap (λ c. c.word) q)
    go None e = absurd (cc e)

no_pad : (S : Segments) (x n : ℕ) → nat_lt (upper_half x) (length S) ≡ false → pad S x n ≡ None
no_pad S x n h =
    let none : segment S (upper_half x) ≡ [] = get_or_past S (upper_half x) [] (let q : length S ≤ upper_half x = grind (arith, h) in q) in
    ap (λ ws. given {A = ℕ} (nat_lt (far_position x + n) (length ws)) (get_or ws (far_position x) 0)) none ∙ go (nat_lt (far_position x + n) 0) (ltb-true (far_position x + n) 0)
  where
    go : (b : Bool) → (b ≡ true → far_position x + n < 0) → given {A = ℕ} b (get_or [] (far_position x) 0) ≡ None
    go true h = absurd (omega (arith, h refl))
    go false h = refl

far_agrees : (S : Segments) (x double : ℕ) → Agrees (far S x double) (far_steps S x double)
far_agrees S x zero =
    by_existing (nat_lt (upper_half x) (length S)) x (InvalidSegmentId (upper_half x)) (λ e. ap (λ o. o >>= λ w. cond (nat_eq (kind w) 2) None (near S (upper_half x) (far_position x) w 1)) (no_pad S x 0 e))
    (by_pad MessageContainsOutOfBoundsPointer (pad S x 0) _ _ (λ w e.
    by_kind w MessageContainsOutOfBoundsPointer (near S (upper_half x) (far_position x) w 1) (λ a. near_word S (upper_half x) (far_position x) w 1)))
far_agrees S x (suc d) =
    let w = word_at S (upper_half x) (far_position x + 1) in
    by_existing (nat_lt (upper_half x) (length S)) x (InvalidSegmentId (upper_half x)) (λ e. ap (λ o. o >>= λ f. cond (nat_eq (kind w) 2) None (given (nat_lt (upper_half f) (length S)) (record { word = w; segment = upper_half f; start = far_position f; pads = 2 }))) (no_pad S x 1 e))
    (by_pad MessageContainsOutOfBoundsPointer (pad S x 1) _ _ (λ f e.
    by_tag (record { word = w; segment = upper_half f; start = far_position f; pads = 2 }) (nat_eq (kind w) 2) (nat_lt (upper_half f) (length S)) (InvalidSegmentId (upper_half f)) (eqb-true (kind w) 2) (eqb-false (kind w) 2)))

leads_agrees : (S : Segments) (s p : ℕ) → Agrees (leads S s p) (follow S s p)
leads_agrees S s p =
    let x = word_at S s p in
    by_choice (nat_eq (kind x) 2) (λ _. far_agrees S x (is_double x))
    (λ b. by_name MessageContainsOutOfBoundsPointer (near S s p x 0) (λ a e is_far. eqb-false (kind x) 2 b (sym (ap kind (near_word S s p x 0 e)) ∙ is_far)))

-- the word at a place is not zero, and is followed to a target
abbrev Follows : Segments → ℕ → ℕ → Target → Type 0
Follows S s p a = (word_at S s p ≢ 0) × (follow S s p ≡ Ok a)

pub leads_follows : (S : Segments) (s p : ℕ) (a : Target) → Leads S s p a → Follows S s p a × (kind a.word ≢ 2)
leads_follows S s p a (some, l) = let r = (leads_agrees S s p).there a l in ((some, r.0), r.1)

pub follows_leads : (S : Segments) (s p : ℕ) (a : Target) → Follows S s p a → kind a.word ≢ 2 → Leads S s p a
follows_leads S s p a (some, f) other = (some, (leads_agrees S s p).back a f other)

-- a place that is read is followed to a target; in a default, far pointers have an error of their
-- own
named_ok : {a : Target} (b : Bool) (result : Result Target ErrorKind) → result ≡ Ok a → far_named b result ≡ Ok a
named_ok true (Ok x) e = e
named_ok false (Ok x) e = e
named_ok true (Err k) e = absurd (cc e)
named_ok false (Err k) e = e

pub unnamed_ok : {a : Target} (b : Bool) (result : Result Target ErrorKind) → far_named b result ≡ Ok a → result ≡ Ok a
unnamed_ok true (Ok x) e = e
unnamed_ok false (Ok x) e = e
unnamed_ok true (Err k) e = absurd (cc e)
unnamed_ok false (Err k) e = e

pub leads_to : (r : Reading) (a : Target) → LeadsTo r a → FollowsTo r a
leads_to r a l = let f = (leads_follows r.segments r.segment r.at a l).0 in (f.0, followed_at r ∙ named_ok (is_named r) (follow r.segments r.segment r.at) f.1)

pub leads_there : (r : Reading) (a : Target) → FollowsTo r a → kind a.word ≢ 2 → LeadsTo r a
leads_there r a (some, f) other = follows_leads r.segments r.segment r.at a (some, unnamed_ok (is_named r) (follow r.segments r.segment r.at) (sym (followed_at r) ∙ f)) other

-- the word of an object that was entered, or that is as a call expects, is followed to this object
pub entered_leads : {purpose : Purpose} {r : Reading} {m m' : Meter} {a : Target} → Entered purpose r m m' a → LeadsTo r a
entered_leads {r = r} {a = a} o = leads_there r a o.follows (λ f. let i = o.meets.is_object in omega (arith, f, i))

-- a near pointer leads into its own segment
pub near_landed : (r : Reading) (a : Target) → kind (word_of r) ≢ 2 → follow_at r ≡ Ok a → a ≡ near_at r a.start
near_landed r a other f =
    let x : ℕ = word_of r in
    let n : ℕ = length (segment r.segments r.segment) in
    let plain : follow r.segments r.segment r.at ≡ Ok a = unnamed_ok (is_named r) (follow r.segments r.segment r.at) (sym (followed_at r) ∙ f) in
    let choice : follow r.segments r.segment r.at ≡ or_named MessageContainsOutOfBoundsPointer (near r.segments r.segment r.at x 0) =
    ap (λ b. cond b (far_steps r.segments x (is_double x)) (or_named MessageContainsOutOfBoundsPointer (near r.segments r.segment r.at x 0))) (ne_eqb (kind x) 2 other) in
    go (offset_leads n r.at (offset_bits x)) (sym choice ∙ plain)
  where
    go : (o : Option ℕ) → or_named MessageContainsOutOfBoundsPointer (o >>= λ b. Some (near_at r b)) ≡ Ok a → a ≡ near_at r a.start
    go (Some b) e = let q : near_at r b ≡ a = cc e in sym q ∙ ap (λ c. near_at r c.start) q
    go None e = absurd (cc e)
