-- Packed bytes that are unpacked to a slice, and the number of bytes that they unpack to, one
-- packed byte after another.
use Rattle.std.proofs.Common.{◌≡◌, ℕ, suc, ◌+◌, ◌-◌, ◌<◌, ◌≤◌, List, [], ◌∷◌, ◌++◌, replicate, length, take, drop, set, Option, Some, None, sym, ap, ap₂, ◌∙◌, arith, append_assoc, append-nil, take_all, drop-cons, length-append, length-drop, length-set, length-take}
use Rattle.std.specs.Prelude.{option_to_list, slice_index}
use Rattle.std.proofs.lemmas.List.{drop_all, length-replicate, take-append-drop, take_more, take_rest}
use borrow.Rule.Slice.PartMut.{put_mid}
use Rattle.capnp_packing.specs.Packing.{GivesAndLeads, all_given, byte_given, place_after, place_at_end, unpacked_bytes, zeros_given}
use Rattle.capnp_packing.proofs.UnitLemmas.{length_front, written, zeros_written}
use Rattle.capnp_packing.proofs.UnpackingLemmas.{place_at_end-append, take_one, unpacked-append}
use Rattle.capnp_packing.specs.declared.packing.place.Place.{Place}
use Rattle.capnp_packing.specs.declared.packing.place.Place.TheVariants.{Tag}

-- ---- what one packed byte unpacks to

pub given_as : (place : Place) (b zeros : ℕ) (itself : Option ℕ) → itself ≡ byte_given place b → zeros ≡ zeros_given place b
    → all_given place b ≡ option_to_list itself ++ replicate zeros 0
given_as place b zeros itself is z =
    ap₂ (λ (o : Option ℕ) (n : ℕ). option_to_list o ++ replicate n 0) (sym is) (sym z)

pub given_long : (place : Place) (b zeros : ℕ) (itself : Option ℕ) → itself ≡ byte_given place b → zeros ≡ zeros_given place b
    → length (all_given place b) ≡ length (option_to_list itself) + zeros
given_long place b zeros itself is z =
    omega (arith, ap length (given_as place b zeros itself is z), length-append (option_to_list itself) (replicate zeros 0), length-replicate {A = ℕ} zeros 0)

pub none_put : (place : Place) (b zeros : ℕ) (new rest to : List ℕ) → zeros ≤ length to → None ≡ byte_given place b
    → zeros ≡ zeros_given place b → new ≡ replicate (length (take zeros to)) 0 → take zeros (new ++ rest) ≡ all_given place b
none_put place b zeros new rest to l none z is =
    zeros_written zeros new rest to l is ∙ sym (given_as place b zeros None none z)

pub some_put : (place : Place) (b x zeros k : ℕ) (to new : List ℕ) → 1 + zeros ≤ length to → Some x ≡ byte_given place b
    → zeros ≡ zeros_given place b → new ≡ replicate (length (take (1 + zeros - 1) (drop 1 (set to 0 x)))) 0
    → take (1 + zeros) (put_mid 1 k (set to 0 x) new) ≡ all_given place b
some_put place b x zeros k to new l some z is =
    let put : List ℕ = set to 0 x in
    let many : length (take (1 + zeros - 1) (drop 1 put)) ≡ zeros =
    omega (arith, length-take (1 + zeros - 1) (drop 1 put), length-drop 1 put, length-set {A = ℕ}, l) in
    let are : new ≡ replicate zeros 0 = is ∙ ap (λ m. replicate m 0) many in
    let long : length new ≡ zeros = ap length are ∙ length-replicate {A = ℕ} zeros 0 in
    written 1 zeros k put new (omega (arith, length-set {A = ℕ}, l)) (omega (arith, long))
    ∙ ap₂ (λ (us vs : List ℕ). us ++ vs) (take_one to x (omega (arith, l))) (take_all zeros new (omega (arith, long)) ∙ are)
    ∙ sym (given_as place b zeros (Some x) some z)

-- ---- one packed byte more

pub byte_more : (place next : Place) (packed front bytes all : List ℕ) (i : ℕ) → i < length packed
    → next ≡ place_after place (slice_index packed i) → bytes ≡ all_given place (slice_index packed i)
    → front ++ unpacked_bytes place (drop i packed) ≡ all
    → (front ++ bytes) ++ unpacked_bytes next (drop (i + 1) packed) ≡ all
unfolding unpacked_bytes
byte_more place next packed front bytes all i h n is before =
    let e : i + 1 ≡ suc i = omega arith in
    rw (e, n, is)
    (append_assoc front (all_given place (slice_index packed i)) (unpacked_bytes (place_after place (slice_index packed i)) (drop (suc i) packed))
    ∙ sym (ap (λ l. front ++ unpacked_bytes place l) (drop-cons packed i 0 h))
    ∙ before)

pub room_more : (place : Place) (packed to all : List ℕ) (i given : ℕ) → i < length packed → given ≤ length to
    → length all ≡ length to → take given to ++ unpacked_bytes place (drop i packed) ≡ all
    → length (all_given place (slice_index packed i)) ≤ length to - given
unfolding unpacked_bytes
room_more place packed to all i given h l long before =
    let given_now : List ℕ = all_given place (slice_index packed i) in
    let rest : List ℕ = unpacked_bytes (place_after place (slice_index packed i)) (drop (suc i) packed) in
    let parts : length (unpacked_bytes place (drop i packed)) ≡ length (given_now ++ rest) =
    ap (λ l. length (unpacked_bytes place l)) (drop-cons packed i 0 h) in
    omega (arith, parts, length-append given_now rest, length-append (take given to) (unpacked_bytes place (drop i packed)), ap length before, length_front given to l, long)

pub filled : (place : Place) (packed to all : List ℕ) (i given : ℕ) → length packed ≤ i → given ≤ length to
    → length all ≡ length to → take given to ++ unpacked_bytes place (drop i packed) ≡ all → to ≡ all
unfolding unpacked_bytes
filled place packed to all i given h l long before =
    let front : take given to ≡ all =
    sym (append-nil (take given to)) ∙ ap (λ l. take given to ++ unpacked_bytes place l) (sym (drop_all i packed h)) ∙ before in
    sym (take_all given to (omega (arith, ap length front, length_front given to l, long))) ∙ front

-- ---- the number of bytes

pub counted : (packed : List ℕ) (i size n : ℕ) (place : Place) → i < length packed
    → size ≡ length (unpacked_bytes Tag (take i packed)) → place ≡ place_at_end Tag (take i packed)
    → n ≡ length (all_given place (slice_index packed i)) → size + n ≡ length (unpacked_bytes Tag (take (i + 1) packed))
unfolding unpacked_bytes
counted packed i size n place h s p is =
    let front : List ℕ = unpacked_bytes Tag (take i packed) in
    let more : unpacked_bytes Tag (take (i + 1) packed) ≡ front ++ all_given place (slice_index packed i) =
    ap (unpacked_bytes Tag) (take_more packed i 0 h)
    ∙ unpacked-append Tag (take i packed) (slice_index packed i ∷ [])
    ∙ ap (λ q. front ++ unpacked_bytes q (slice_index packed i ∷ [])) (sym p)
    ∙ ap (λ l. front ++ l) (append-nil (all_given place (slice_index packed i))) in
    omega (arith, ap length more, length-append front (all_given place (slice_index packed i)), s, is)

pub led : (packed : List ℕ) (i : ℕ) (place next : Place) → i < length packed → place ≡ place_at_end Tag (take i packed)
    → next ≡ place_after place (slice_index packed i) → next ≡ place_at_end Tag (take (i + 1) packed)
unfolding place_at_end
led packed i place next h p n =
    n ∙ ap (λ q. place_after q (slice_index packed i)) p
    ∙ sym (ap (place_at_end Tag) (take_more packed i 0 h) ∙ place_at_end-append Tag (take i packed) (slice_index packed i ∷ []))

pub beyond : (packed : List ℕ) (n most size : ℕ) → size ≡ length (unpacked_bytes Tag (take n packed)) → most ≤ size
    → most ≤ length (unpacked_bytes Tag packed)
beyond packed n most size is l =
    let front : List ℕ = unpacked_bytes Tag (take n packed) in
    let rest : List ℕ = unpacked_bytes (place_at_end Tag (take n packed)) (drop n packed) in
    let parts : unpacked_bytes Tag packed ≡ front ++ rest =
    ap (unpacked_bytes Tag) (sym (take-append-drop n packed)) ∙ unpacked-append Tag (take n packed) (drop n packed) in
    omega (arith, ap length parts, length-append front rest, is, l)

-- ---- words at the front, and what comes after them

pub all_parts : (packed to : List ℕ) (t g z : ℕ) (place : Place) → GivesAndLeads Tag (take t packed) (take g to) z place
    → unpacked_bytes Tag packed ≡ (take g to ++ replicate z 0) ++ unpacked_bytes place (drop t packed)
all_parts packed to t g z place leads =
    ap (unpacked_bytes Tag) (sym (take-append-drop t packed))
    ∙ unpacked-append Tag (take t packed) (drop t packed)
    ∙ ap₂ (λ (l : List ℕ) (p : Place). l ++ unpacked_bytes p (drop t packed)) leads.0 leads.1

pub parts_long : (packed to : List ℕ) (t g z : ℕ) (place : Place) → g ≤ length to
    → GivesAndLeads Tag (take t packed) (take g to) z place
    → g + z + length (unpacked_bytes place (drop t packed)) ≡ length (unpacked_bytes Tag packed)
parts_long packed to t g z place l leads =
    omega (arith, ap length (all_parts packed to t g z place leads), length-append (take g to ++ replicate z 0) (unpacked_bytes place (drop t packed)), length-append (take g to) (replicate z 0), length_front g to l, length-replicate {A = ℕ} z 0)

pub zeros_at : (to new : List ℕ) (g z : ℕ) → g + z ≤ length to → new ≡ replicate (length (take (g + z - g) (drop g to))) 0
    → new ≡ replicate z 0
zeros_at to new g z l is =
    let many : length (take (g + z - g) (drop g to)) ≡ z =
    omega (arith, length-take (g + z - g) (drop g to), length-drop g to, l) in
    is ∙ ap (λ m. replicate m 0) many

pub rest_room : (packed to zeros : List ℕ) (t g z k : ℕ) (place : Place) → g ≤ length to → k ≡ z → zeros ≡ replicate z 0
    → length (unpacked_bytes Tag packed) ≡ length to → GivesAndLeads Tag (take t packed) (take g to) z place
    → length (unpacked_bytes place (take (length packed - t) (drop t packed)))
    ≡ length (take (length (put_mid g k to zeros) - (g + z)) (drop (g + z) (put_mid g k to zeros)))
rest_room packed to zeros t g z k place l e zs long leads =
    let two : List ℕ = put_mid g k to zeros in
    let behind : List ℕ = drop k (drop g to) in
    let size : length two ≡ length to =
    omega (arith, length-append (take g to) (zeros ++ behind), length-append zeros behind, length-drop k (drop g to), length-drop g to, length_front g to l, ap length zs, length-replicate {A = ℕ} z 0, e, parts_long packed to t g z place l leads, long) in
    omega (arith, ap (λ l. length (unpacked_bytes place l)) (take_rest packed t), parts_long packed to t g z place l leads, long, size, length-take (length two - (g + z)) (drop (g + z) two), length-drop (g + z) two)

pub slice_filled : (packed to zeros rest : List ℕ) (t g z k m : ℕ) (place : Place) → g ≤ length to → zeros ≡ replicate z 0
    → rest ≡ unpacked_bytes place (take (length packed - t) (drop t packed))
    → length (put_mid g k to zeros) ≤ g + z + m → GivesAndLeads Tag (take t packed) (take g to) z place
    → put_mid (g + z) m (put_mid g k to zeros) rest ≡ unpacked_bytes Tag packed
slice_filled packed to zeros rest t g z k m place l zs rs wide leads =
    let two : List ℕ = put_mid g k to zeros in
    let many : length zeros ≡ z = ap length zs ∙ length-replicate {A = ℕ} z 0 in
    let front : take (g + z) two ≡ take g to ++ replicate z 0 =
    written g z k to zeros l (omega (arith, many)) ∙ ap (λ us. take g to ++ us) (take_all z zeros (omega (arith, many)) ∙ zs) in
    let none : drop m (drop (g + z) two) ≡ [] = drop_all m (drop (g + z) two) (omega (arith, length-drop (g + z) two, wide)) in
    ap (λ post. take (g + z) two ++ (rest ++ post)) none
    ∙ ap (λ us. take (g + z) two ++ us) (append-nil rest)
    ∙ ap₂ (λ (us vs : List ℕ). us ++ vs) front (rs ∙ ap (unpacked_bytes place) (take_rest packed t))
    ∙ sym (all_parts packed to t g z place leads)
