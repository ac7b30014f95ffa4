-- Steps of the program that write a line without places.
use Rattle.std.proofs.Common.{◌≡◌, ◌≢◌, ℕ, zero, suc, ◌+◌, ◌-◌, ◌*◌, ◌<◌, Bool, true, false, nat_eq, List, ◌++◌, length, Result, Ok, Err, refl, sym, ap, ap₂, ◌∙◌, subst, arith, eq-eqb, add-one}
use Rattle.std.specs.Prelude.{IsErrAnd, codes, if◌then◌else◌}
use Rattle.std.specs.Fmt.{decimal}
use Rattle.std.proofs.lemmas.Bool.{ne_eqb}
use Rattle.capnp_words.specs.declared.error.ErrorKind.{ErrorKind}
use Rattle.capnp_words.specs.Meter.{Meter}
use Rattle.capnp_pointers.specs.declared.object.Purpose.TheVariants.{Value}
use Rattle.capnp_pointers.specs.Enter.{Shape, read}
use Rattle.capnp_pointers.specs.Reading.{Reading, place_past, word_of}
use Rattle.capnp_show.specs.Adding.{Adds}
use Rattle.capnp_show.specs.Line.{member}
use Rattle.capnp_show.specs.Shown.{IsPlain, Shown, Shows, ShowsArray, add, array_begin, array_within, comma, cut_text, show_each, show_elements, show_place, show_result, show_struct, show_structs, show_within, shown_json, sizes_members}
use Rattle.capnp_show.specs.declared.show.json.Json.{Json}
use Rattle.capnp_show.specs.declared.show.text.Text.{Text}
use Rattle.capnp_show.specs.declared.show.text.Ended.{Ended}
use Rattle.capnp_show.proofs.Adds.{failed}
use Rattle.capnp_show.proofs.Grows.{Longer, added_longer, each_longer, elements_longer, result_longer, shown_longer, within_longer}

pub text_added : (j : Json) (t : Text) (xs : List ℕ) → t.bytes.items ≡ j.text.bytes.items ++ xs → shown_json (record j { text = t }) ≡ add xs (shown_json j)
text_added j t xs e = ap (λ zs. record (shown_json j) { text = zs }) e

pub still_plain : (j : Json) (t : Text) → IsPlain j → IsPlain (record j { text = t })
still_plain j t plain = record { no_places = plain.no_places }

-- Bytes are added to the text of a line.
pub push_shows : {A : Type 0} {r : Result A Ended} {xs : List ℕ} (j : Json) (t : Text) → IsPlain j → Adds r j.text.bytes.items t.bytes.items xs → Shows r (record j { text = t }) (add xs (shown_json j))
push_shows {r = Ok x} {xs} j t plain a = record { plain = still_plain j t plain; written = text_added j t xs a.added; full = tt }
push_shows {r = Err k} j t plain a = record { plain = tt; written = tt; full = a.full }

-- A step was refused, after which more would have been written.
pub shows_stops : {A B : Type 0} {k : Ended} {j0 : Json} {s0 : Shown} (r : Result A Ended) (j : Json) (s : Shown) → IsErrAnd r (λ y. y ≡ k) → Shows {A = B} (Err k) j0 s0 → Longer s0 s → Shows r j s
shows_stops {k = k} r j s h shows longer = rw (failed r h) (let w : Shows (Err k) j s = record { plain = tt; written = tt; full = λ is. let over = shows.full is in omega (arith, over, longer) } in w)

pub push_stops : {A B : Type 0} {k : Ended} {to xs : List ℕ} (j0 : Json) (r : Result A Ended) (j : Json) (s : Shown) → IsErrAnd r (λ y. y ≡ k) → Adds {A = B} (Err k) j0.text.bytes.items to xs → Longer (add xs (shown_json j0)) s → Shows r j s
push_stops {k = k} j0 r j s h a longer = rw (failed r h) (let w : Shows (Err k) j s = record { plain = tt; written = tt; full = λ is. let over = a.full is in omega (arith, over, longer) } in w)

-- A step was refused, after which the line would have ended.
pub line_stops : {A B : Type 0} {k : Ended} {j0 : Json} {s : Shown} (r : Result A Ended) (j : Json) → IsErrAnd r (λ y. y ≡ k) → Shows {A = B} (Err k) j0 s → Shows r j (add (codes "\n") s)
line_stops {s = s} r j h shows = shows_stops r j (add (codes "\n") s) h shows (added_longer (codes "\n") s)

-- What a step writes of a line, under another name.
pub shows_as : {A : Type 0} {r : Result A Ended} {j : Json} {s t : Shown} → s ≡ t → Shows r j s → Shows r j t
shows_as e h = rw e at h

-- ---- the walk, a step at a time

-- The array of pointers, if one may be followed, and if not.
pub array_opens : (d n : ℕ) (b : Bool) (r : Reading) (s : Shown) → 0 < d → array_within d b n r s ≡ add (codes "]}") (show_each (show_within (d - 1)) 0 n r (add (array_begin b) s))
unfolding array_within
array_opens zero n b r s some = absurd (omega arith)
array_opens (suc d) n b r s some = ap (λ e. add (codes "]}") (show_each (show_within e) 0 n r (add (array_begin b) s))) (let e : d ≡ suc d - 1 = omega arith in e)

pub array_cut : (d n : ℕ) (b : Bool) (r : Reading) (s : Shown) → d ≡ 0 → array_within d b n r s ≡ add (cut_text b n) s
unfolding array_within
array_cut zero n b r s none = refl
array_cut (suc d) n b r s none = absurd (omega arith)

-- What the rest of an array leaves is at least as long as what it begins with.
pub each_rest : (d i k : ℕ) (r : Reading) (s whole : Shown) → whole ≡ add (codes "]}") (show_each (show_within d) i (suc k) r s) → Longer (add (comma i) s) whole
each_rest d i k r s whole e =
    let t : Shown = add (comma i) s in
    let u : Shown = show_within d r t in
    omega (arith, ap (λ z. length z.text) e, shown_longer d r t, each_longer (show_within d) (shown_longer d) (suc i) k (place_past r 1) u, added_longer (codes "]}") (show_each (show_within d) (suc i) k (place_past r 1) u))

pub each_after : (d i k : ℕ) (r : Reading) (s whole : Shown) → whole ≡ add (codes "]}") (show_each (show_within d) i (suc k) r s) → Longer (show_within d r (add (comma i) s)) whole
each_after d i k r s whole e =
    let u : Shown = show_within d r (add (comma i) s) in
    omega (arith, ap (λ z. length z.text) e, each_longer (show_within d) (shown_longer d) (suc i) k (place_past r 1) u, added_longer (codes "]}") (show_each (show_within d) (suc i) k (place_past r 1) u))

-- A place whose pointer is null, and one whose object is read.
pub place_null : (below : ShowsArray) (r : Reading) (s : Shown) → word_of r ≡ 0 → show_place below r s ≡ add (codes "null") s
place_null below r s none = let b : nat_eq (word_of r) 0 ≡ true = eq-eqb _ _ none in rw b refl

pub place_read : (below : ShowsArray) (r : Reading) (s : Shown) (o : Result Shape ErrorKind) (m : Meter) → word_of r ≢ 0 → read Value r s.lim ≡ (o, m) → show_place below r s ≡ show_result below r (o, m) (add (codes "{") s)
place_read below r s o m some e = let b : nat_eq (word_of r) 0 ≡ false = ne_eqb _ _ some in ap (λ (c : Bool). if c then add (codes "null") s else show_result below r (read Value r s.lim) (add (codes "{") s)) b ∙ ap (λ x. show_result below r x (add (codes "{") s)) e

pub place_begun : (d : ℕ) (r : Reading) (s : Shown) → word_of r ≢ 0 → Longer (add (codes "{") s) (show_within d r s)
place_begun d r s some =
    let e = place_read (array_within d) r s (read Value r s.lim).0 (read Value r s.lim).1 some refl in
    omega (arith, ap (λ z. length z.text) e, result_longer (array_within d) (within_longer d) r (read Value r s.lim).0 (read Value r s.lim).1 (add (codes "{") s))

-- ---- steps after each other

pub lim_plain : {j : Json} (m : Meter) → IsPlain j → IsPlain (record j { lim = m })
lim_plain m plain = record { no_places = plain.no_places }

-- After a step that changed nothing.
pub plain_after : {j j1 : Json} → j1 ≡ j → IsPlain j → IsPlain j1
plain_after e plain = subst IsPlain (sym e) plain

pub push_after : {A : Type 0} {r : Result A Ended} {xs : List ℕ} (j j1 : Json) (t : Text) → j1 ≡ j → IsPlain j → Adds r j1.text.bytes.items t.bytes.items xs → Shows r (record j1 { text = t }) (add xs (shown_json j))
push_after {xs = xs} j j1 t e plain a = shows_as (ap (λ z. add xs (shown_json z)) e) (push_shows j1 t (plain_after e plain) a)

pub shows_after : {A : Type 0} {r : Result A Ended} {j2 : Json} (f : Reading → Shown → Shown) (r0 r1 : Reading) (j j1 : Json) → r1 ≡ r0 → j1 ≡ j → IsPlain j → (IsPlain j1 → Shows r j2 (f r1 (shown_json j1))) → Shows r j2 (f r0 (shown_json j))
shows_after f r0 r1 j j1 at e plain h = shows_as (ap₂ (λ q z. f q (shown_json z)) at e) (h (plain_after e plain))

-- After a step that wrote s.
pub push_then : {A B : Type 0} {r : Result A Ended} {x : B} {xs : List ℕ} (j1 : Json) (t : Text) (s : Shown) → Shows (Ok x) j1 s → Adds r j1.text.bytes.items t.bytes.items xs → Shows r (record j1 { text = t }) (add xs s)
push_then {xs = xs} j1 t s one a = shows_as (ap (add xs) one.written) (push_shows j1 t one.plain a)

pub shows_then : {A B : Type 0} {r : Result A Ended} {x : B} {j1 j2 : Json} (f : Reading → Shown → Shown) (r0 r1 : Reading) (s : Shown) → r1 ≡ r0 → Shows (Ok x) j1 s → (IsPlain j1 → Shows r j2 (f r1 (shown_json j1))) → Shows r j2 (f r0 s)
shows_then f r0 r1 s at one h = shows_as (ap₂ (λ q z. f q z) at one.written) (h one.plain)

-- A pointer's object was read, or refused, and is written.
pub place_written : {A B : Type 0} {res : Result A Ended} {x : B} {j1 j3 : Json} (d : ℕ) (r : Reading) (s : Shown) (o : Result Shape ErrorKind) (m : Meter) → word_of r ≢ 0 → Shows (Ok x) j1 (add (codes "{") s) → read Value r j1.lim ≡ (o, m) →
    Shows res j3 (show_result (array_within d) r (o, m) (shown_json j1)) → Shows res j3 (show_within d r s)
place_written d r s o m some begun e h =
    let opened = begun.written in
    let there : read Value r s.lim ≡ (o, m) = ap (λ (z : Shown). read Value r z.lim) (sym opened) ∙ e in
    shows_as (ap (show_result (array_within d) r (o, m)) opened ∙ sym (place_read (array_within d) r s o m some there)) h

-- ---- the pointers of an array

-- What the whole array is, from piece i on.
pub each_whole : (d count i : ℕ) (b : Bool) (r : Reading) (s0 s : Shown) → 0 < d → i < count →
    ((k : ℕ) → i + k ≡ count → show_each (show_within (d - 1)) 0 count r (add (array_begin b) s0) ≡ show_each (show_within (d - 1)) i k (place_past r i) s) →
    array_within d b count r s0 ≡ add (codes "]}") (show_each (show_within (d - 1)) i (suc (count - suc i)) (place_past r i) s)
each_whole d count i b r s0 s which less so_far = array_opens d count b r s0 which ∙ ap (add (codes "]}")) (so_far (suc (count - suc i)) (omega arith))

-- The array when none of its pointers is written.
pub array_begun : (d n : ℕ) (b : Bool) (r : Reading) (s : Shown) → 0 < d → Longer (add (array_begin b) s) (array_within d b n r s)
array_begun d n b r s some =
    let t : Shown = add (array_begin b) s in
    let last : Shown = show_each (show_within (d - 1)) 0 n r t in
    omega (arith, ap (λ z. length z.text) (array_opens d n b r s some), each_longer (show_within (d - 1)) (shown_longer (d - 1)) 0 n r t, added_longer (codes "]}") last)

pub each_first : (f : Reading → Shown → Shown) (count k : ℕ) (r : Reading) (s t : Shown) → 0 + k ≡ count → t ≡ s → show_each f 0 count r s ≡ show_each f 0 k (place_past r 0) t
each_first f count k r s t all same =
    ap₂ (λ n p. show_each f 0 n (record r { at = p }) s) (let e : count ≡ k = omega arith in e) (let e : r.at ≡ r.at + 0 = omega arith in e) ∙ ap (show_each f 0 k (place_past r 0)) (sym same)

pub elements_first : (below : ShowsArray) (d q count k : ℕ) (r : Reading) (s : Shown) → 0 + k ≡ count → show_elements below d q 0 count r s ≡ show_elements below d q 0 k (place_past r (0 * (d + q))) s
elements_first below d q count k r s all =
    ap₂ (λ n p. show_elements below d q 0 n (record r { at = p }) s) (let e : count ≡ k = omega arith in e) (let e : r.at ≡ r.at + 0 * (d + q) = omega arith in e)

pub each_next : (f : Reading → Shown → Shown) (i count k : ℕ) (r : Reading) (s next whole : Shown) → ((n : ℕ) → i + n ≡ count → whole ≡ show_each f i n (place_past r i) s) → i + 1 + k ≡ count → next ≡ f (place_past r i) (add (comma i) s) →
    whole ≡ show_each f (i + 1) k (place_past r (i + 1)) next
each_next f i count k r s next whole so_far e is =
    so_far (suc k) (omega (arith, e)) ∙ ap (show_each f (suc i) k (place_past (place_past r i) 1)) (sym is)
    ∙ ap₂ (λ n p. show_each f n k (record r { at = p }) next) (sym (add-one i)) (let e : r.at + i + 1 ≡ r.at + (i + 1) = omega arith in e)

-- ---- the elements of a list of structs

pub elements_whole : (below : ShowsArray) (d q count i : ℕ) (r : Reading) (s0 s : Shown) → i < count →
    ((k : ℕ) → i + k ≡ count → show_elements below d q 0 count r s0 ≡ show_elements below d q i k (place_past r (i * (d + q))) s) →
    show_elements below d q 0 count r s0 ≡ show_elements below d q i (suc (count - suc i)) (place_past r (i * (d + q))) s
elements_whole below d q count i r s0 s less so_far = so_far (suc (count - suc i)) (omega arith)

pub elements_next : (below : ShowsArray) (d q i count k : ℕ) (r : Reading) (s next whole : Shown) → ((n : ℕ) → i + n ≡ count → whole ≡ show_elements below d q i n (place_past r (i * (d + q))) s) → i + 1 + k ≡ count →
    next ≡ show_struct below d q (place_past r (i * (d + q))) (add (codes "{") (add (comma i) s)) → whole ≡ show_elements below d q (i + 1) k (place_past r ((i + 1) * (d + q))) next
elements_next below d q i count k r s next whole so_far e is =
    let w : ℕ = d + q in
    let place : r.at + i * w + w ≡ r.at + (i + 1) * w = omega arith in
    so_far (suc k) (omega (arith, e)) ∙ ap (show_elements below d q (suc i) k (place_past (place_past r (i * w)) w)) (sym is)
    ∙ ap₂ (λ n p. show_elements below d q n k (record r { at = p }) next) (sym (add-one i)) place

-- ---- lists of structs

pub rows_opened : (d n q k : ℕ) (r : Reading) (s : Shown) → n + q ≢ 0 → show_structs (array_within d) n q k r s ≡ add (codes "]}") (show_elements (array_within d) n q 0 k r (add (codes "\"structs\":[") (add (sizes_members n q) s)))
rows_opened d n q k r s some = let b : nat_eq (n + q) 0 ≡ false = ne_eqb _ _ some in rw b refl

pub rows_blank : (below : ShowsArray) (n q k : ℕ) (r : Reading) (s : Shown) → n + q ≡ 0 → show_structs below n q k r s ≡ add (member (codes "count") (decimal k) ++ codes "}") (add (sizes_members n q) s)
rows_blank below n q k r s none = let b : nat_eq (n + q) 0 ≡ true = eq-eqb _ _ none in rw b refl

-- Both are at least as long as their beginnings.
pub rows_longer : (d n q k : ℕ) (r : Reading) (s : Shown) → n + q ≢ 0 → Longer (show_elements (array_within d) n q 0 k r (add (codes "\"structs\":[") (add (sizes_members n q) s))) (show_structs (array_within d) n q k r s)
rows_longer d n q k r s some = let b : nat_eq (n + q) 0 ≡ false = ne_eqb _ _ some in rw b (added_longer (codes "]}") (show_elements (array_within d) n q 0 k r (add (codes "\"structs\":[") (add (sizes_members n q) s))))

pub rows_begun : (d n q k : ℕ) (r : Reading) (s : Shown) → n + q ≢ 0 → Longer (add (codes "\"structs\":[") (add (sizes_members n q) s)) (show_structs (array_within d) n q k r s)
rows_begun d n q k r s some =
    let t : Shown = add (codes "\"structs\":[") (add (sizes_members n q) s) in
    omega (arith, rows_longer d n q k r s some, elements_longer (array_within d) (within_longer d) n q 0 k r t)
