-- The packed bytes that a call takes, one after another until its room is full.
use Rattle.std.proofs.Common.{◌≡◌, inl, inr, ℕ, zero, suc, ◌+◌, ◌-◌, ◌/◌, ◌%◌, ◌<◌, ◌≤◌, ◌≢◌, List, [], ◌∷◌, ◌++◌, replicate, length, take, drop, set, Bool, true, false, refl, sym, ap, ap₂, ◌∙◌, arith, append_assoc, append-nil, take-add, take_at, take_all, drop-cons, length-append, length-drop, length-set, Some, None}
use Rattle.std.specs.Prelude.{if◌then◌else◌, nat_eq, nat_lt, ◌||◌, ◌&&◌, slice_index}
use Rattle.std.proofs.lemmas.Bool.{and_cases, and_parts, cases_Bool, cases_eq, cases_lt, eq-eqb, false≢true, le-ltb, lt-ltb, ne_eqb, or_cases, ltb-true, eqb-true}
use Rattle.std.proofs.lemmas.Bool.Decides.{eqb_tells, nat_tests}
use Rattle.std.proofs.lemmas.List.{drop_all, length-replicate, replicate-append-replicate, take-append-drop, take_rest}
use borrow.Rule.Slice.PartMut.{put_mid}
use Rattle.capnp_packing.specs.Packing.{GivesAndLeads, all_given, byte_given, lead, place_after, place_at_end, place_within, unpacked_bytes, zeros_given}
use Rattle.capnp_packing.specs.Pieces.{Piece, UnpacksNext, bytes_due, piece_of, taken_of, takes_next, unpacked_piece}
use Rattle.capnp_packing.specs.Words.{UnpacksFront}
use Rattle.capnp_packing.proofs.SliceLemmas.{given_as}
use Rattle.capnp_packing.proofs.UnitLemmas.{cons_at, length_front, written}
use Rattle.capnp_packing.proofs.UnpackingLemmas.{leads_raw, place_at_end-append, place_behind, take_one, unpacked-append}
use Rattle.capnp_packing.specs.declared.packing.place.Place.{Place}
use Rattle.capnp_packing.specs.declared.packing.place.Place.TheVariants.{Tag, Kept, Zeros, Whole, Count, Raw}
use Rattle.capnp_packing.specs.declared.packing.unpacking.Progress.{Progress}

-- ---- whether a call takes a byte

pub takes_room : (room had : ℕ) (place : Place) → had < room → takes_next room had place ≡ true
takes_room room had place h = rw (lt-ltb had room h) refl

takes_count : (room had : ℕ) → had ≤ room → (nat_lt had room || (nat_eq had room && true)) ≡ true
takes_count room had h = elim (cases_lt had room) [
  | inl less ↦ rw (lt-ltb had room less) refl
  | inr same ↦ rw (le-ltb had room same, eq-eqb had room (omega (arith, h, same))) refl
]

pub takes_within : (room had : ℕ) (place : Place) → takes_next room had place ≡ true → had ≤ room
takes_within room had place h = elim (or_cases _ _ h) [
  | inl less ↦ (let l = ltb-true had room less in omega (arith, l))
  | inr both ↦ (let e = eqb-true had room (and_parts _ _ both).0 in omega (arith, e))
]

takes_full : (room had : ℕ) (place : Place) → room < had → takes_next room had place ≡ false
takes_full room had place h = rw (le-ltb had room (omega (arith, h)), ne_eqb had room (λ e. absurd (omega (arith, h, e)))) refl

lt_shifted : (a b k : ℕ) → nat_lt (a + k) (b + k) ≡ nat_lt a b
lt_shifted a b k = grind (arith, nat_tests)

eq_shifted : (a b k : ℕ) → nat_eq (a + k) (b + k) ≡ nat_eq a b
eq_shifted a b k = grind (arith, nat_tests)

pub takes_shifted : (room had k : ℕ) (place : Place) → takes_next (room + k) (had + k) place ≡ takes_next room had place
takes_shifted room had k place = rw (lt_shifted had room k, eq_shifted had room k) refl

pub taken_shifted : (room had k : ℕ) (place : Place) (xs : List ℕ) → taken_of (room + k) (had + k) place xs ≡ taken_of room had place xs
unfolding taken_of
taken_shifted room had k place [] = refl
taken_shifted room had k place (b ∷ xs) =
    let n : ℕ = length (all_given place b) in
    let e : had + k + n ≡ had + n + k = omega arith in
    let rest : taken_of (room + k) (had + k + n) (place_after place b) xs ≡ taken_of room (had + n) (place_after place b) xs =
    ap (λ m. taken_of (room + k) m (place_after place b) xs) e ∙ taken_shifted room (had + n) k (place_after place b) xs in
    rw (takes_shifted room had k place, rest) refl

-- ---- one after another

first_taken : (t : Bool) (n k : ℕ) → (if t then suc n else 0) ≡ suc k → (t ≡ true) × (n ≡ k)
first_taken true n k h = let e : suc n ≡ suc k = h in (refl, omega (arith, e))
first_taken false n k h = let e : 0 ≡ suc k = h in absurd (omega (arith, e))

pub taken-append : (room had : ℕ) (place : Place) (xs ys : List ℕ) → taken_of room had place xs ≡ length xs
    → taken_of room had place (xs ++ ys)
    ≡ length xs + taken_of room (had + length (unpacked_bytes place xs)) (place_at_end place xs) ys
unfolding taken_of unpacked_bytes place_at_end
taken-append room had place [] ys h =
    let e : had + 0 ≡ had = omega arith in rw e (omega arith)
taken-append room had place (b ∷ xs) ys h =
    let n : ℕ = length (all_given place b) in
    let first = first_taken (takes_next room had place) (taken_of room (had + n) (place_after place b) xs) (length xs) h in
    let rest = taken-append room (had + n) (place_after place b) xs ys first.1 in
    let e : had + length (all_given place b ++ unpacked_bytes (place_after place b) xs) ≡ had + n + length (unpacked_bytes (place_after place b) xs) =
    omega (arith, length-append (all_given place b) (unpacked_bytes (place_after place b) xs)) in
    rw (first.0, e) (omega (arith, rest))

-- ---- all of them

-- A byte that leads to this place stands for something, or is a count.
abbrev pub is_between : Place → Bool
is_between Tag = true
is_between (Raw left) = true
is_between _ = false

whole_gives : (left : ℕ) (xs : List ℕ) → is_between (place_at_end (Whole left) xs) ≡ true → 0 < length (unpacked_bytes (Whole left) xs)
unfolding unpacked_bytes place_at_end
whole_gives left [] h = absurd (false≢true h)
whole_gives left (b ∷ xs) h = omega arith

kept_gives : (bits left : ℕ) (xs : List ℕ) → is_between (place_at_end (Kept bits left) xs) ≡ true
    → 0 < length (unpacked_bytes (Kept bits left) xs)
unfolding unpacked_bytes place_at_end
kept_gives bits left [] h = absurd (false≢true h)
kept_gives bits left (b ∷ xs) h = omega arith

within_gives : (n bits : ℕ) (xs : List ℕ) → is_between (place_at_end (place_within (suc n) bits) xs) ≡ true
    → 0 < length (replicate (lead (suc n) bits) 0 ++ unpacked_bytes (place_within (suc n) bits) xs)
within_gives n bits xs h = elim (eqb_tells (bits % 2) 1) [
  | inl odd ↦ (let e : is_between (place_at_end (Kept (bits / 2) n) xs) ≡ true = rw odd.0 at h in rw odd.0 (kept_gives (bits / 2) n xs e))
  | inr even ↦ rw even.0 (omega (arith, length-append (replicate (lead n (bits / 2) + 1) 0) (unpacked_bytes (place_within n (bits / 2)) xs), length-replicate {A = ℕ} (lead n (bits / 2) + 1) 0))
]

tag_gives : (b : ℕ) (xs : List ℕ) → is_between (place_at_end Tag (b ∷ xs)) ≡ true → 0 < length (unpacked_bytes Tag (b ∷ xs))
unfolding unpacked_bytes place_at_end
tag_gives b xs h = elim (eqb_tells b 0) [
  | inl none ↦ rw none.0 (omega arith)
  | inr some ↦ elim (eqb_tells b 255) [
    | inl full ↦ (let e : is_between (place_at_end (Whole 7) xs) ≡ true = rw (some.0, full.0) at h in rw (some.0, full.0) (whole_gives 7 xs e))
    | inr few ↦ (let e : is_between (place_at_end (place_within 8 b) xs) ≡ true = rw (some.0, few.0) at h in rw (some.0, few.0) (within_gives 7 b xs e))
  ]
]

takes_first : (room had b : ℕ) (place : Place) (xs : List ℕ) → had + length (unpacked_bytes place (b ∷ xs)) ≤ room
    → is_between (place_at_end place (b ∷ xs)) ≡ true → takes_next room had place ≡ true
unfolding unpacked_bytes
takes_first room had b Tag xs l h = let some = tag_gives b xs h in takes_room room had Tag (omega (arith, l, some))
takes_first room had b (Kept bits left) xs l h = let some = kept_gives bits left (b ∷ xs) h in takes_room room had (Kept bits left) (omega (arith, l, some))
takes_first room had b Zeros xs l h = takes_count room had (omega (arith, l))
takes_first room had b (Whole left) xs l h = let some = whole_gives left (b ∷ xs) h in takes_room room had (Whole left) (omega (arith, l, some))
takes_first room had b Count xs l h = takes_count room had (omega (arith, l))
takes_first room had b (Raw left) xs l h = takes_room room had (Raw left) (omega (arith, l))

pub taken_all : (room had : ℕ) (place : Place) (xs : List ℕ) → had + length (unpacked_bytes place xs) ≤ room
    → is_between (place_at_end place xs) ≡ true → taken_of room had place xs ≡ length xs
unfolding taken_of unpacked_bytes place_at_end
taken_all room had place [] l h = refl
taken_all room had place (b ∷ xs) l h =
    let n : ℕ = length (all_given place b) in
    let more : had + n + length (unpacked_bytes (place_after place b) xs) ≤ room =
    omega (arith, l, length-append (all_given place b) (unpacked_bytes (place_after place b) xs)) in
    rw (takes_first room had b place xs l h, taken_all room (had + n) (place_after place b) xs more h) refl

-- ---- parts of slices

front_gives : (packed to : List ℕ) (t g z : ℕ) (place next : Place) → g ≤ length to
    → GivesAndLeads place (take t packed) (take g to) z next → length (unpacked_bytes place (take t packed)) ≡ g + z
front_gives packed to t g z place next l leads =
    omega (arith, ap length leads.0, length-append (take g to) (replicate z 0), length_front g to l, length-replicate {A = ℕ} z 0)

pub taken_led : (packed to : List ℕ) (t g : ℕ) (place next : Place) → t ≤ length packed → g ≤ length to
    → GivesAndLeads place (take t packed) (take g to) 0 next → is_between next ≡ true
    → taken_of (length to) 0 place (take t packed) ≡ t
taken_led packed to t g place next l m leads h =
    let many = front_gives packed to t g 0 place next m leads in
    taken_all (length to) 0 place (take t packed) (omega (arith, many, m)) (ap is_between leads.1 ∙ h)
    ∙ length_front t packed l

pub led_taken : (packed to : List ℕ) (t g : ℕ) (next : Place) → GivesAndLeads Tag (take t packed) (take g to) 0 next
    → t ≤ length packed → g ≤ length to → is_between next ≡ true → taken_of (length to) 0 Tag (take t packed) ≡ t
led_taken packed to t g next leads l m h = taken_led packed to t g Tag next l m leads h

pub taken_zeros : (room more : ℕ) → 8 ≤ room → taken_of room 0 Tag (0 ∷ more ∷ []) ≡ 2
unfolding taken_of
taken_zeros room more l =
    let first = takes_room room 0 Tag (omega (arith, l)) in
    let count : takes_next room 8 Zeros ≡ true = takes_count room 8 l in
    rw (first, count) refl

pub zeros_pair : (packed : List ℕ) (t : ℕ) → 10 ≤ length packed → t ≡ 2 → slice_index packed 0 ≡ 0
    → take t packed ≡ 0 ∷ slice_index packed 1 ∷ []
zeros_pair packed t l two none =
    ap (λ n. take n packed) two ∙ cons_at packed 0 1 (omega (arith, l))
    ∙ ap₂ (λ (b : ℕ) (bs : List ℕ). b ∷ bs) none (cons_at packed 1 0 (omega (arith, l)))

pub zeros_front : (packed : List ℕ) (room t : ℕ) → 10 ≤ length packed → 8 ≤ room → t ≡ 2 → slice_index packed 0 ≡ 0
    → taken_of room 0 Tag (take t packed) ≡ t
zeros_front packed room t l m two none =
    ap (taken_of room 0 Tag) (zeros_pair packed t l two none) ∙ taken_zeros room (slice_index packed 1) m ∙ sym two

-- packed bytes of a part, after those of the parts before it
pub taken_part : (room had t : ℕ) (first place : Place) (packed new : List ℕ) (taken given : ℕ) → taken ≤ length packed
    → room ≡ length new + given → had + length (unpacked_bytes first (take taken packed)) ≡ given
    → place_at_end first (take taken packed) ≡ place
    → taken_of room had first (take taken packed) ≡ taken
    → taken_of (length new) 0 place (take t (take (length packed - taken) (drop taken packed))) ≡ t
    → taken_of room had first (take (taken + t) packed) ≡ taken + t
taken_part room had t first place packed new taken given l is many leads before unit =
    let long = length_front taken packed l in
    let more : taken_of (length new) 0 place (take t (drop taken packed)) ≡ t = rw (take_rest packed taken) at unit in
    let zero_given : 0 + given ≡ given = omega arith in
    let shifted : taken_of room given place (take t (drop taken packed)) ≡ t =
    rw is (ap (λ n. taken_of (length new + given) n place (take t (drop taken packed))) (sym zero_given)
    ∙ taken_shifted (length new) 0 given place (take t (drop taken packed)) ∙ more) in
    let all = taken-append room had first (take taken packed) (take t (drop taken packed)) (before ∙ sym long) in
    let there : taken_of room (had + length (unpacked_bytes first (take taken packed))) (place_at_end first (take taken packed)) (take t (drop taken packed)) ≡ t =
    rw (many, leads) shifted in
    ap (taken_of room had first) (take-add taken t packed) ∙ all ∙ omega (arith, there, long)

pub length_put : (g : ℕ) (to new : List ℕ) → g ≤ length to → length new ≡ length to - g
    → length (put_mid g (length to - g) to new) ≡ length to
length_put g to new l long =
    let behind : List ℕ = drop (length to - g) (drop g to) in
    omega (arith, length-append (take g to) (new ++ behind), length-append new behind, length_front g to l, length-drop (length to - g) (drop g to), length-drop g to, long)

-- a unit after those of a loop, in the slice with the unit's bytes put there
pub unit_taken : (packed to new : List ℕ) (taken given t : ℕ) → taken ≤ length packed → given ≤ length to
    → length new ≡ length to - given → GivesAndLeads Tag (take taken packed) (take given to) 0 Tag
    → taken_of (length new) 0 Tag (take t (take (length packed - taken) (drop taken packed))) ≡ t
    → taken_of (length (put_mid given (length to - given) to new)) 0 Tag (take (taken + t) packed) ≡ taken + t
unit_taken packed to new taken given t l m long leads unit =
    let many = front_gives packed to taken given 0 Tag Tag m leads in
    ap (λ n. taken_of n 0 Tag (take (taken + t) packed)) (length_put given to new m long)
    ∙ taken_part (length to) 0 t Tag Tag packed new taken given l (omega (arith, long, m)) (omega (arith, many)) leads.1
    (taken_led packed to taken given Tag Tag l m leads refl) unit

-- ---- one byte

pub taken_byte : (room b : ℕ) (place : Place) → takes_next room 0 place ≡ true → taken_of room 0 place (b ∷ []) ≡ 1
unfolding taken_of
taken_byte room b place h = rw h refl

pub some_leads : (place : Place) (b x zeros given due k : ℕ) (to new : List ℕ) → 0 < length to → Some x ≡ byte_given place b
    → zeros ≡ zeros_given place b → given ≤ length new → given + due ≡ zeros → take given new ≡ replicate given 0
    → GivesAndLeads place (b ∷ []) (take (1 + given) (put_mid 1 k (set to 0 x) new)) due (place_after place b)
unfolding unpacked_bytes place_at_end
some_leads place b x zeros given due k to new some itself z l sum is =
    let front : take (1 + given) (put_mid 1 k (set to 0 x) new) ≡ (x ∷ []) ++ replicate given 0 =
    written 1 given k (set to 0 x) new (omega (arith, length-set {A = ℕ}, some)) l
    ∙ ap₂ (λ (us vs : List ℕ). us ++ vs) (take_one to x some) is in (
      append-nil (all_given place b) ∙ given_as place b zeros (Some x) itself z
          ∙ ap (λ n. (x ∷ []) ++ replicate n 0) (sym sum)
          ∙ ap (λ l. (x ∷ []) ++ l) (sym (replicate-append-replicate {A = ℕ} given due 0))
          ∙ sym (append_assoc (x ∷ []) (replicate given 0) (replicate due 0))
          ∙ ap (λ l. l ++ replicate due 0) (sym front),
      refl,
    )

pub none_leads : (place : Place) (b zeros given due : ℕ) (to : List ℕ) → None ≡ byte_given place b → zeros ≡ zeros_given place b
    → given + due ≡ zeros → take given to ≡ replicate given 0
    → GivesAndLeads place (b ∷ []) (take given to) due (place_after place b)
unfolding unpacked_bytes place_at_end
none_leads place b zeros given due to none z sum is = (
  append-nil (all_given place b) ∙ given_as place b zeros None none z ∙ ap (λ n. replicate n 0) (sym sum)
      ∙ sym (replicate-append-replicate {A = ℕ} given due 0) ∙ ap (λ l. l ++ replicate due 0) (sym is),
  refl,
)

no_count : (room : ℕ) (t : Bool) → t ≡ false → (nat_lt 0 room || (nat_eq 0 room && t)) ≡ true → 0 < room
no_count room t isnt h = elim (or_cases _ _ h) [
  | inl less ↦ ltb-true 0 room less
  | inr both ↦ absurd (false≢true (sym isnt ∙ (and_parts _ _ both).1))
]

byte_room : (room b x : ℕ) (place : Place) → Some x ≡ byte_given place b → takes_next room 0 place ≡ true → 0 < room
byte_room room b x Tag is h = let e : Some x ≡ None = is in absurd (cc)
byte_room room b x (Kept bits left) is h = no_count room false refl h
byte_room room b x Zeros is h = let e : Some x ≡ None = is in absurd (cc)
byte_room room b x (Whole left) is h = no_count room false refl h
byte_room room b x Count is h = let e : Some x ≡ None = is in absurd (cc)
byte_room room b x (Raw left) is h = no_count room false refl h

pub some_next : (place next : Place) (b x zeros given due : ℕ) (to new : List ℕ) → takes_next (length to) 0 place ≡ true
    → Some x ≡ byte_given place b → zeros ≡ zeros_given place b → next ≡ place_after place b
    → length new ≡ length (set to 0 x) - 1 → given ≤ length new → given + due ≡ zeros → (due ≢ 0 → given ≡ length new)
    → take given new ≡ replicate given 0
    → UnpacksNext place (b ∷ []) (put_mid 1 (length (set to 0 x) - 1) (set to 0 x) new)
    (record { taken = 1; given = 1 + given; zeros = due; place = next })
some_next place next b x zeros given due to new h itself z after long l sum full is =
    let some = byte_room (length to) b x place itself h in
    let put : List ℕ = set to 0 x in
    let sized : length put ≡ length to = omega (arith, length-set {A = ℕ}) in
    let size = length_put 1 put new (omega (arith, sized, some)) long in
    record {
      some = omega arith;
      taken = omega arith;
      within = omega (arith, size, sized, long, l, some);
      full = λ left. let e = full left in omega (arith, e, size, sized, long, some);
      leads = rw after (some_leads place b x zeros given due (length put - 1) to new some itself z l sum is);
      exact = ap (λ n. taken_of n 0 place (b ∷ [])) (size ∙ sized) ∙ taken_byte (length to) b place h;
    }

pub none_next : (place next : Place) (b zeros given due : ℕ) (old to : List ℕ) → takes_next (length old) 0 place ≡ true
    → None ≡ byte_given place b → zeros ≡ zeros_given place b → next ≡ place_after place b → length to ≡ length old
    → given ≤ length to → given + due ≡ zeros → (due ≢ 0 → given ≡ length to) → take given to ≡ replicate given 0
    → UnpacksNext place (b ∷ []) to (record { taken = 1; given = given; zeros = due; place = next })
none_next place next b zeros given due old to h none z after long l sum full is =
    record {
      some = omega arith;
      taken = omega arith;
      within = l;
      full = full;
      leads = rw after (none_leads place b zeros given due to none z sum is);
      exact = ap (λ n. taken_of n 0 place (b ∷ [])) long ∙ taken_byte (length old) b place h;
    }

pub byte_next : (place : Place) (packed to : List ℕ) (done : Progress) → 0 < length packed
    → UnpacksNext place (slice_index packed 0 ∷ []) to done → UnpacksNext place packed to done
byte_next place packed to done some byte =
    let one : done.taken ≡ 1 = omega (arith, byte.some, byte.taken) in
    let front : take 1 packed ≡ slice_index packed 0 ∷ [] = ap (take 1) (drop-cons packed 0 0 some) in
    let same : take done.taken (slice_index packed 0 ∷ []) ≡ take done.taken packed =
    ap (λ n. take n (slice_index packed 0 ∷ [])) one ∙ sym front ∙ ap (λ n. take n packed) (sym one) in
    record {
      some = byte.some;
      taken = omega (arith, one, some);
      within = byte.within;
      full = byte.full;
      leads = rw same at byte.leads;
      exact = rw same at byte.exact;
    }

-- ---- words

pub behind_between : (left n : ℕ) → is_between (place_behind left n) ≡ true
behind_between left n = elim (cases_Bool (nat_lt left n)) [
  | inl more ↦ rw more refl
  | inr fewer ↦ rw fewer refl
]

pub raw_next : (left n : ℕ) (packed copied rest : List ℕ) (next : Place) → 0 < n → n ≤ length packed → n ≤ left + 1
    → copied ≡ take n packed → next ≡ place_behind left n
    → UnpacksNext (Raw left) packed (copied ++ rest) (record { taken = n; given = n; zeros = 0; place = next })
raw_next left n packed copied rest next some l m is behind =
    let long = length_front n packed l in
    let front : take n (copied ++ rest) ≡ take n packed = take_at copied rest n (ap length is ∙ long) ∙ is in
    let raw = leads_raw (take n packed) left (omega (arith, long, some)) (omega (arith, long, m)) in
    let end : place_behind left (length (take n packed)) ≡ next = ap (place_behind left) long ∙ sym behind in
    let leads : GivesAndLeads (Raw left) (take n packed) (take n (copied ++ rest)) 0 next = rw (front, ← end) raw in
    let inside : n ≤ length (copied ++ rest) = omega (arith, length-append copied rest, ap length is, long) in
    record {
      some = some;
      taken = l;
      within = inside;
      full = λ none. absurd (none refl);
      leads = leads;
      exact = taken_led packed (copied ++ rest) n n (Raw left) next l inside leads (ap is_between behind ∙ behind_between left n);
    }

pub front_next : (packed to : List ℕ) (done : Progress) → UnpacksFront packed to done → UnpacksNext Tag packed to done
unfolding unpacked_bytes
front_next packed to done front =
    let many = front_gives packed to done.taken done.given done.zeros Tag done.place front.within front.leads in
    record {
      some = elim (cases_eq done.taken 0) [
        | inl none ↦ (let nothing : length (unpacked_bytes Tag (take 0 packed)) ≡ done.given + done.zeros = rw none at many in absurd (omega (arith, nothing, front.some)))
        | inr some ↦ omega (arith, some)
      ];
      taken = front.taken;
      within = front.within;
      full = front.full;
      leads = front.leads;
      exact = front.exact;
    }

-- ---- a whole call

-- Of `due` zero bytes and then what `packed` unpacks to from `first` on, so much is unpacked.
pub record Reached (due : ℕ) (first : Place) (packed to : List ℕ) (done : Progress) : Type 0 where
  pub taken : done.taken ≤ length packed
  pub within : done.given ≤ length to
  pub full : done.zeros ≢ 0 → done.given ≡ length to
  pub bytes : replicate due 0 ++ unpacked_bytes first (take done.taken packed) ≡ take done.given to ++ replicate done.zeros 0
  pub place : place_at_end first (take done.taken packed) ≡ done.place
  pub exact : taken_of (length to) due first (take done.taken packed) ≡ done.taken

pub reached_first : (due : ℕ) (first : Place) (packed to : List ℕ) (done : Progress) → done.taken ≡ 0 → done.place ≡ first
    → done.given ≤ length to → done.given + done.zeros ≡ due → (done.zeros ≢ 0 → done.given ≡ length to)
    → take done.given to ≡ replicate done.given 0 → Reached due first packed to done
unfolding unpacked_bytes place_at_end taken_of
reached_first due first packed to done none place l sum full is =
    let nothing : take done.taken packed ≡ [] = ap (λ n. take n packed) none in
    record {
      taken = omega (arith, none);
      within = l;
      full = full;
      bytes = ap (λ l. replicate due 0 ++ unpacked_bytes first l) nothing ∙ append-nil (replicate due 0)
          ∙ ap (λ n. replicate n 0) (sym sum) ∙ sym (replicate-append-replicate {A = ℕ} done.given done.zeros 0)
          ∙ ap (λ l. l ++ replicate done.zeros 0) (sym is);
      place = ap (place_at_end first) nothing ∙ sym place;
      exact = ap (taken_of (length to) due first) nothing ∙ sym none;
    }

reached_gives : (due : ℕ) (first : Place) (packed to : List ℕ) (done : Progress) → Reached due first packed to done
    → due + length (unpacked_bytes first (take done.taken packed)) ≡ done.given + done.zeros
reached_gives due first packed to done r =
    omega (arith, ap length r.bytes, length-append (replicate due 0) (unpacked_bytes first (take done.taken packed)), length-append (take done.given to) (replicate done.zeros 0), length_front done.given to r.within, length-replicate {A = ℕ} due 0, length-replicate {A = ℕ} done.zeros 0)

pub reached_more : (due : ℕ) (first : Place) (packed to new : List ℕ) (done next : Progress) → Reached due first packed to done
    → done.zeros ≡ 0 → UnpacksNext done.place (take (length packed - done.taken) (drop done.taken packed)) new next
    → length new ≡ length to - done.given
    → Reached due first packed (put_mid done.given (length to - done.given) to new)
    (record { taken = done.taken + next.taken; given = done.given + next.given; zeros = next.zeros; place = next.place })
reached_more due first packed to new done next r none more long =
    let behind : List ℕ = drop done.taken packed in
    let size = length_put done.given to new r.within long in
    let rest = take_rest packed done.taken in
    let leads : GivesAndLeads done.place (take next.taken behind) (take next.given new) next.zeros next.place = rw rest at more.leads in
    let total = reached_gives due first packed to done r in
    let before : replicate due 0 ++ unpacked_bytes first (take done.taken packed) ≡ take done.given to =
    r.bytes ∙ ap (λ n. take done.given to ++ replicate n 0) none ∙ append-nil (take done.given to) in
    let front : take (done.given + next.given) (put_mid done.given (length to - done.given) to new) ≡ take done.given to ++ take next.given new =
    written done.given next.given (length to - done.given) to new r.within more.within in
    record {
      taken = omega (arith, r.taken, more.taken, ap length rest, length-drop done.taken packed);
      within = omega (arith, r.within, more.within, size, long);
      full = λ some. omega (arith, more.full some, size, long, r.within);
      bytes = ap (λ l. replicate due 0 ++ unpacked_bytes first l) (take-add done.taken next.taken packed)
          ∙ ap (λ l. replicate due 0 ++ l) (unpacked-append first (take done.taken packed) (take next.taken behind))
          ∙ ap (λ p. replicate due 0 ++ (unpacked_bytes first (take done.taken packed) ++ unpacked_bytes p (take next.taken behind))) r.place
          ∙ ap (λ l. replicate due 0 ++ (unpacked_bytes first (take done.taken packed) ++ l)) leads.0
          ∙ sym (append_assoc (replicate due 0) (unpacked_bytes first (take done.taken packed)) (take next.given new ++ replicate next.zeros 0))
          ∙ ap (λ l. l ++ (take next.given new ++ replicate next.zeros 0)) before
          ∙ sym (append_assoc (take done.given to) (take next.given new) (replicate next.zeros 0))
          ∙ ap (λ l. l ++ replicate next.zeros 0) (sym front);
      place = ap (place_at_end first) (take-add done.taken next.taken packed)
          ∙ place_at_end-append first (take done.taken packed) (take next.taken behind)
          ∙ ap (λ p. place_at_end p (take next.taken behind)) r.place ∙ leads.1;
      exact = ap (λ n. taken_of n due first (take (done.taken + next.taken) packed)) size
          ∙ taken_part (length to) due next.taken first done.place packed new done.taken done.given r.taken (omega (arith, long, r.within)) (omega (arith, total, none)) r.place r.exact more.exact;
    }

none_more : (room had : ℕ) (place : Place) (packed : List ℕ) (taken : ℕ)
    → (nat_lt taken (length packed) && takes_next room had place) ≡ false → taken_of room had place (drop taken packed) ≡ 0
unfolding taken_of
none_more room had place packed taken h = elim (cases_lt taken (length packed)) [
  | inl less ↦ elim (and_cases _ _ h) [
    | inl end ↦ absurd (false≢true (sym end ∙ lt-ltb taken (length packed) less))
    | inr full ↦ ap (taken_of room had place) (drop-cons packed taken 0 less) ∙ (rw full refl)
  ]
  | inr end ↦ ap (taken_of room had place) (drop_all taken packed end)
]

piece_same : (t t' z z' : ℕ) (bytes bytes' : List ℕ) (place place' : Place) → t ≡ t' → bytes ≡ bytes' → z ≡ z' → place ≡ place'
    → (let one : Piece = record { taken = t; bytes = bytes; zeros = z; place = place } in let other : Piece = record { taken = t'; bytes = bytes'; zeros = z'; place = place' } in one ≡ other)
piece_same t t' z z' bytes bytes' place place' a b c d = rw (a, b, c, d) refl

cut : (g z : ℕ) (to : List ℕ) → g ≤ length to → (z ≢ 0 → g ≡ length to)
    → take (length to) (take g to ++ replicate z 0) ≡ take g to
cut g zero to l full =
    ap (take (length to)) (append-nil (take g to)) ∙ take_all (length to) (take g to) (omega (arith, length_front g to l, l))
cut g (suc z) to l full =
    take_at (take g to) (replicate (suc z) 0) (length to)
    (length_front g to l ∙ full (λ none. absurd (omega (arith, none))))

left_over : (g z n : ℕ) → g ≤ n → (z ≢ 0 → g ≡ n) → z ≡ g + z - n
left_over g zero n l full = omega (arith, l)
left_over g (suc z) n l full = let e = full (λ none. absurd (omega (arith, none))) in omega (arith, e)

pub reached_end : (due : ℕ) (first : Place) (packed to : List ℕ) (done : Progress) → Reached due first packed to done
    → (nat_lt done.taken (length packed) && takes_next (length to) (done.given + done.zeros) done.place) ≡ false
    → piece_of done to ≡ unpacked_piece (length to) due first packed
reached_end due first packed to done r stop =
    let front : List ℕ = take done.taken packed in
    let behind : List ℕ = drop done.taken packed in
    let long = length_front done.taken packed r.taken in
    let total = reached_gives due first packed to done r in
    let none : taken_of (length to) (due + length (unpacked_bytes first front)) (place_at_end first front) behind ≡ 0 =
    rw (total, r.place) (none_more (length to) (done.given + done.zeros) done.place packed done.taken stop) in
    let all = taken-append (length to) due first front behind (r.exact ∙ sym long) in
    let n : taken_of (length to) due first packed ≡ done.taken =
    ap (taken_of (length to) due first) (sym (take-append-drop done.taken packed)) ∙ all ∙ omega (arith, none, long) in
    let given : replicate due 0 ++ unpacked_bytes first (take (taken_of (length to) due first packed) packed)
    ≡ take done.given to ++ replicate done.zeros 0 =
    ap (λ m. replicate due 0 ++ unpacked_bytes first (take m packed)) n ∙ r.bytes in
    let size : length (take done.given to ++ replicate done.zeros 0) ≡ done.given + done.zeros =
    omega (arith, length-append (take done.given to) (replicate done.zeros 0), length_front done.given to r.within, length-replicate {A = ℕ} done.zeros 0) in
    piece_same done.taken (taken_of (length to) due first packed) done.zeros _ (take done.given to) _ done.place _
    (sym n)
    (sym (ap (take (length to)) given ∙ cut done.given done.zeros to r.within r.full))
    (left_over done.given done.zeros (length to) r.within r.full ∙ ap (λ m. m - length to) (sym (ap length given ∙ size)))
    (sym (ap (λ m. place_at_end first (take m packed)) n ∙ r.place))

-- what is still to be written after these bytes, and where the packed bytes end
pub reached_rest : (due : ℕ) (first : Place) (packed to : List ℕ) (done : Progress) → Reached due first packed to done
    → bytes_due due first packed ≡ take done.given to ++ bytes_due done.zeros done.place (drop done.taken packed)
reached_rest due first packed to done r =
    let front : List ℕ = take done.taken packed in
    let behind : List ℕ = drop done.taken packed in
    let more : List ℕ = unpacked_bytes (place_at_end first front) behind in
    ap (λ (xs : List ℕ). replicate due 0 ++ unpacked_bytes first xs) (sym (take-append-drop done.taken packed))
    ∙ ap (λ (xs : List ℕ). replicate due 0 ++ xs) (unpacked-append first front behind)
    ∙ sym (append_assoc (replicate due 0) (unpacked_bytes first front) more)
    ∙ ap (λ (xs : List ℕ). xs ++ more) r.bytes
    ∙ append_assoc (take done.given to) (replicate done.zeros 0) more
    ∙ ap (λ (p : Place). take done.given to ++ (replicate done.zeros 0 ++ unpacked_bytes p behind)) r.place

pub reached_place : (due : ℕ) (first : Place) (packed to : List ℕ) (done : Progress) → Reached due first packed to done
    → place_at_end done.place (drop done.taken packed) ≡ place_at_end first packed
reached_place due first packed to done r =
    let front : List ℕ = take done.taken packed in
    let behind : List ℕ = drop done.taken packed in
    ap (λ (p : Place). place_at_end p behind) (sym r.place) ∙ sym (place_at_end-append first front behind)
    ∙ ap (place_at_end first) (take-append-drop done.taken packed)

pub none_due : (given zeros room : ℕ) (place : Place) → (zeros ≢ 0 → given ≡ room)
    → takes_next room (given + zeros) place ≡ true → zeros ≡ 0
none_due given zero room place full h = refl
none_due given (suc zeros) room place full h =
    let e = full (λ none. absurd (omega (arith, none))) in
    let l = takes_within room (given + suc zeros) place h in absurd (omega (arith, e, l))

-- what is left of the room
pub takes_rest : (room given zeros size : ℕ) (place : Place) → given ≤ room → zeros ≡ 0 → size ≡ room - given
    → takes_next room (given + zeros) place ≡ true → takes_next size 0 place ≡ true
takes_rest room given zeros size place l none long h =
    let a : size + given ≡ room = omega (arith, l, long) in
    let b : 0 + given ≡ given + zeros = omega (arith, none) in
    sym (takes_shifted size 0 given place) ∙ ap₂ (λ m n. takes_next m n place) a b ∙ h
