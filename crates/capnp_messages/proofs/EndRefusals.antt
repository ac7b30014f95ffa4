-- Why a copy of the end of a path is refused: what the relations of a copy make of the functions.
use Rattle.std.proofs.Common.{◌≡◌, ◌⊎◌, inl, inr, ℕ, ◌+◌, ◌<◌, ◌≤◌, Bool, true, false, nat_le, Option, None, Result, Ok, Err, List, drop, length, length-drop, length-take, refl, sym, ap, ◌∙◌, subst, arith, le-leb}
use Rattle.std.proofs.lemmas.Bool.{cases_lt}
use Rattle.capnp_words.specs.declared.error.ErrorKind.{ErrorKind}
use Rattle.capnp_words.specs.declared.error.ErrorKind.TheVariants.{AllocationFailed, MessageTooLarge}
use Rattle.capnp_words.specs.Meter.{Affords, Meter, unused}
use Rattle.capnp_words.specs.Names.{is_allocation_name}
use Rattle.capnp_format.specs.Canonical.{encoding, trim, word_count}
use Rattle.capnp_format.specs.Tree.{Tree, Struct, capabilities, count}
use Rattle.capnp_pointers.specs.Enter.{struct}
use Rattle.capnp_pointers.specs.Metered.{answer, demand, onward}
use Rattle.capnp_pointers.specs.Reading.{Reading, place_past, segment_read, words_from}
use Rattle.capnp_pointers.specs.Refusals.{Refused}
use Rattle.capnp_pointers.specs.Spending.{after_charge, pointers_in, pointers_in_all}
use Rattle.capnp_pointers.specs.Wanted.{AllowsCapabilities, Form, canonical, plain}
use Rattle.capnp_pointers.proofs.WholeValue.RefusalsNamed.{not_for_memory, not_for_size}
use Rattle.capnp_copies.specs.Changes.{ComesToObject}
use Rattle.capnp_copies.specs.Costs.{spent_until}
use Rattle.capnp_messages.specs.Canonicalize.{canonical_words, end_value}
use Rattle.capnp_messages.specs.Copies.{NeedsMoreRoom, OutgrowsRoom, RefusesCopy, RefusesCopyAnywhere, is_message_too_large}
use Rattle.capnp_messages.specs.EndValues.{EndMeans, EndReads, IsEndThere, end_original, end_place}
use Rattle.capnp_messages.specs.Fitting.{fit_end, fit_within, made_words}
use Rattle.capnp_messages.specs.Parts.{PathEnd, to_element, to_pointer}
use Rattle.capnp_messages.proofs.EndValueLemmas.{EndReadsAs, EndStopsAs, end_read_if, end_read_is, end_stop_if, end_stop_is, words_long}
use Rattle.capnp_messages.proofs.OutgrownLemmas.{IsOut, outgrown_is, passes, trees_out}

-- The canonical words of every value that the end means are more than `room`.
abbrev pub MeansMore : PathEnd → ℕ → Type 0
MeansMore e room = (t : Tree) (c : ℕ) → EndMeans e t c → room < 1 + word_count (trim t)

-- Copying comes to an object that doesn't fit in `room` words. An element's own words come first.
abbrev pub ComesToMore : PathEnd → Option ℕ → ℕ → Type 0
ComesToMore e left room =
    ((n : ℕ) × (end_original e).makes canonical n × (room < 1 + n))
    ⊎ ((m : Meter) × ComesToObject (end_original e) canonical (unused left) m (λ n all. room < 1 + all))

-- A copy into a segment of `room` words, and then into further ones, stops with k.
abbrev pub StopsAnywhere : PathEnd → Option ℕ → ℕ → ErrorKind → Type 0
StopsAnywhere e left room k =
    ((is_allocation_name k ≡ true) × MeansMore e room × ComesToMore e left room)
    ⊎ ((m : Meter) × EndStopsAs canonical e (unused left) m k)

affords_any : (charging : Bool) (n : ℕ) → Affords charging (unused None) n
affords_any true n = tt
affords_any false n = tt

-- A value that is read in canonical form is read as a plain value too, without a limit.
read_again : (e : PathEnd) (m m' : Meter) (t : Tree) → EndReadsAs canonical e m m' t → (after : Meter) × EndReadsAs plain e (unused None) after t
read_again (to_pointer r) m m' t reads =
    (after_charge r.charging (unused None) reads.cost (pointers_in t), record { cost = reads.cost; means = reads.means; takes = λ e. absurd (e refl); covers = affords_any r.charging reads.cost; spent = refl })
read_again (to_element r d q) m m' t (ts, is, counts, reads) = (
  after_charge r.charging (unused None) reads.cost (pointers_in_all ts),
  (ts, is, counts, record { cost = reads.cost; means = reads.means; takes = λ e. absurd (e refl); covers = affords_any r.charging reads.cost; spent = refl }),
)

pub plain_read : (e : PathEnd) (m m' : Meter) (t : Tree) → EndReadsAs canonical e m m' t → (end_value plain e (unused None)).0 ≡ Ok t
plain_read e m m' t reads = (let (after, again) = read_again e m m' t reads in ap (λ o. o.0) (end_read_is plain e (unused None) after t again))

-- So is what the end means.
means_read : (form : Form) (e : PathEnd) (m : Meter) (t : Tree) (c : ℕ) → EndMeans e t c → AllowsCapabilities form (capabilities t) → Affords (end_place e).charging m c → (after : Meter) × EndReadsAs form e m after t
means_read form (to_pointer r) m t c means takes covers =
    (after_charge r.charging m c (pointers_in t), record { cost = c; means = means; takes = takes; covers = covers; spent = refl })
means_read form (to_element r d q) m t c (ws, ts, is, long, many, here, means) takes covers =
    let words : words_from r d ≡ ws = ap (λ n. words_from r n) (sym long) ∙ here in (
      after_charge r.charging m c (pointers_in_all ts),
      (ts, is ∙ ap (λ vs. Struct vs ts) (sym words), many, record { cost = c; means = means; takes = subst (λ (u : Tree). AllowsCapabilities form (capabilities u)) is takes; covers = covers; spent = refl }),
    )

pub meant_read : (form : Form) (e : PathEnd) (m : Meter) (t : Tree) (c : ℕ) → EndMeans e t c → AllowsCapabilities form (capabilities t) → Affords (end_place e).charging m c → (end_value form e m).0 ≡ Ok t
meant_read form e m t c means takes covers = (let (after, reads) = means_read form e m t c means takes covers in ap (λ o. o.0) (end_read_is form e m after t reads))

pub meant_plainly : (e : PathEnd) (t : Tree) (c : ℕ) → EndMeans e t c → (end_value plain e (unused None)).0 ≡ Ok t
meant_plainly e t c means = meant_read plain e (unused None) t c means (λ e. absurd (e refl)) (affords_any (end_place e).charging c)

pub meant_long : (e : PathEnd) (t : Tree) (c : ℕ) → EndMeans e t c → length (encoding (trim t)) ≡ 1 + word_count (trim t)
meant_long e t c means =
    let (after, reads) = means_read plain e (unused None) t c means (λ e. absurd (e refl)) (affords_any (end_place e).charging c) in
    words_long plain e (unused None) after t reads

pub end_reads_as : (e : PathEnd) (m m' : Meter) (t : Tree) → EndReads e m m' t → EndReadsAs canonical e m m' t
end_reads_as (to_pointer r) m m' t reads = reads
end_reads_as (to_element r d q) m m' t (there, reads) = reads

-- What is read is meant.
read_means : (form : Form) (e : PathEnd) (m m' : Meter) (t : Tree) → IsEndThere e → EndReadsAs form e m m' t → (c : ℕ) × EndMeans e t c
read_means form (to_pointer r) m m' t there reads = (reads.cost, reads.means)
read_means form (to_element r d q) m m' t there (ts, is, counts, reads) =
    let long : length (words_from r d) ≡ d = omega (arith, length-take d (drop r.at (segment_read r)), length-drop r.at (segment_read r), there.inside) in
    (reads.cost, (words_from r d, ts, is, long, counts, ap (λ n. words_from r n) long, reads.means))

-- A reading isn't refused for lack of room.
never_read : {r : Reading} {l m : Meter} (k : ErrorKind) → is_allocation_name k ≡ true → Refused canonical r l m k → ⊥
never_read AllocationFailed want refused = not_for_memory refused
never_read (MessageTooLarge w) want refused = not_for_size w refused
never_read _ want refused = absurd (cc)

never_stops : (e : PathEnd) (l m : Meter) (k : ErrorKind) → is_allocation_name k ≡ true → EndStopsAs canonical e l m k → ⊥
never_stops (to_pointer r) l m k want refused = never_read k want refused
never_stops (to_element r d q) l m k want refused = never_read k want refused.stops

pub never_unread : (e : PathEnd) (m : Meter) (k : ErrorKind) → is_allocation_name k ≡ true → (end_value canonical e m).0 ≡ Err k → ⊥
never_unread e m k want refused =
    let after : Meter = (end_value canonical e m).1 in
    never_stops e m after k want (end_stop_if canonical e m after k (ap (λ x. (x, after)) refused))

-- The canonical words, by the value.
over : (n room : ℕ) → room < n → nat_le n room ≡ false
over n room more = grind (arith, more)

held : (room : ℕ) (ws : List ℕ) (l : Meter) → length ws ≤ room → (onward (λ _. answer ws) (demand (nat_le (length ws) room) (MessageTooLarge room) l)).0 ≡ Ok ws
held room ws l fits = (let short : nat_le (length ws) room ≡ true = le-leb _ _ fits in rw short refl)

not_held : (room : ℕ) (ws : List ℕ) (l : Meter) → room < length ws → (onward (λ _. answer ws) (demand (nat_le (length ws) room) (MessageTooLarge room) l)).0 ≡ Err (MessageTooLarge room)
not_held room ws l more = (let long : nat_le (length ws) room ≡ false = over _ _ more in rw long refl)

words_of_value : (room : ℕ) (e : PathEnd) (m : Meter) {o : Result Tree ErrorKind} → (end_value canonical e m).0 ≡ o →
    canonical_words room e m ≡ onward (λ t. λ l. onward (λ _. answer (encoding (trim t))) (demand (nat_le (length (encoding (trim t))) room) (MessageTooLarge room) l)) (o, (end_value canonical e m).1)
words_of_value room e m is =
    let after : Meter = (end_value canonical e m).1 in
    ap (λ x. onward (λ t. λ l. onward (λ _. answer (encoding (trim t))) (demand (nat_le (length (encoding (trim t))) room) (MessageTooLarge room) l)) (x, after)) is

pub words_unread : (room : ℕ) (e : PathEnd) (m : Meter) (k : ErrorKind) → (end_value canonical e m).0 ≡ Err k → (canonical_words room e m).0 ≡ Err k
words_unread room e m k refused = ap (λ x. x.0) (words_of_value room e m refused)

pub words_made : (room : ℕ) (e : PathEnd) (m : Meter) (t : Tree) → (end_value canonical e m).0 ≡ Ok t → length (encoding (trim t)) ≤ room → (canonical_words room e m).0 ≡ Ok (encoding (trim t))
words_made room e m t read fits = ap (λ x. x.0) (words_of_value room e m read) ∙ held room (encoding (trim t)) (end_value canonical e m).1 fits

pub words_exceed : (room : ℕ) (e : PathEnd) (m : Meter) (t : Tree) → (end_value canonical e m).0 ≡ Ok t → room < length (encoding (trim t)) → (canonical_words room e m).0 ≡ Err (MessageTooLarge room)
words_exceed room e m t read more = ap (λ x. x.0) (words_of_value room e m read) ∙ not_held room (encoding (trim t)) (end_value canonical e m).1 more

-- If they are refused, so is the value; or they are too many.
pub data Unmade (room : ℕ) (e : PathEnd) (m : Meter) (k : ErrorKind) : Type 0 where
  unread : (end_value canonical e m).0 ≡ Err k → Unmade room e m k
  exceed : (t : Tree) → (end_value canonical e m).0 ≡ Ok t → room < length (encoding (trim t)) → k ≡ MessageTooLarge room → Unmade room e m k

pub unmade : (room : ℕ) (e : PathEnd) (m : Meter) (k : ErrorKind) → (canonical_words room e m).0 ≡ Err k → Unmade room e m k
unmade room e m k refused = go (end_value canonical e m).0 refl
  where
    go : (o : Result Tree ErrorKind) → (end_value canonical e m).0 ≡ o → Unmade room e m k
    go (Err l) is = unread (let one : l ≡ k = (let same : Err l ≡ Err k = sym (words_unread room e m l is) ∙ refused in cc same) in is ∙ ap Err one)
    go (Ok t) is = elim (cases_lt room (length (encoding (trim t)))) [
      | inl more ↦ exceed t is more (let same : Err k ≡ Err (MessageTooLarge room) = sym refused ∙ words_exceed room e m t is more in cc same)
      | inr fits ↦ absurd (let wrong : Err k ≡ Ok (encoding (trim t)) = sym refused ∙ words_made room e m t is fits in cc wrong)
    ]

pub made_of : (room : ℕ) (e : PathEnd) (m : Meter) (ws : List ℕ) → (canonical_words room e m).0 ≡ Ok ws → (t : Tree) × ((end_value canonical e m).0 ≡ Ok t) × (length (encoding (trim t)) ≤ room) × (ws ≡ encoding (trim t))
made_of room e m ws made = go (end_value canonical e m).0 refl
  where
    go : (o : Result Tree ErrorKind) → (end_value canonical e m).0 ≡ o → (t : Tree) × ((end_value canonical e m).0 ≡ Ok t) × (length (encoding (trim t)) ≤ room) × (ws ≡ encoding (trim t))
    go (Err l) is = absurd (let wrong : Err l ≡ Ok ws = sym (words_unread room e m l is) ∙ made in cc wrong)
    go (Ok t) is = elim (cases_lt room (length (encoding (trim t)))) [
      | inl more ↦ absurd (let wrong : Ok ws ≡ Err (MessageTooLarge room) = sym made ∙ words_exceed room e m t is more in cc wrong)
      | inr fits ↦ (t, is, fits, (let same : Ok ws ≡ Ok (encoding (trim t)) = sym made ∙ words_made room e m t is fits in cc same))
    ]

-- A value that needs more than a room, by the functions.
pub needs_more : (e : PathEnd) (m m' : Meter) (room : ℕ) (t : Tree) → EndReadsAs canonical e m m' t → room < length (encoding (trim t)) → NeedsMoreRoom e room
needs_more e m m' room t reads more u is =
    let one : t ≡ u = (let same : Ok t ≡ Ok u = sym (plain_read e m m' t reads) ∙ is in cc same) in
    subst (λ (v : Tree). room < length (encoding (trim v))) one more

more_needed : (e : PathEnd) (room : ℕ) → IsEndThere e → MeansMore e room → NeedsMoreRoom e room
more_needed e room there more t is =
    let after : Meter = (end_value plain e (unused None)).1 in
    let reads = end_read_if plain e (unused None) after t (ap (λ x. (x, after)) is) in
    let (c, means) = read_means plain e (unused None) after t there reads in
    omega (arith, more t c means, words_long plain e (unused None) after t reads)

-- The objects that don't fit, by the functions.
outgrown_element : (r : Reading) (d q room : ℕ) (m : Meter) → room < 1 + made_words r.segments (struct r.segment r.at d q) → IsOut room (fit_end room (to_element r d q) 1 m)
outgrown_element r d q room m more =
    let long : nat_le (1 + made_words r.segments (struct r.segment r.at d q)) room ≡ false = over _ _ more in
    (m, rw long refl)

pub outgrown_end : (e : PathEnd) (left : Option ℕ) (room : ℕ) → ComesToMore e left room → (fit_end room e 1 (unused left)).0 ≡ Err (MessageTooLarge room)
outgrown_end (to_pointer r) left room (inl (n, none, full)) = absurd none
outgrown_end (to_pointer r) left room (inr (m, (n, stops, full))) = ap (λ x. x.0) (outgrown_is room n r 1 (unused left) m stops full).1
outgrown_end (to_element r d q) left room (inl (n, makes, full)) =
    let own : n ≡ made_words r.segments (struct r.segment r.at d q) = makes in
    ap (λ x. x.0) (outgrown_element r d q room (unused left) (omega (arith, own, full))).1
outgrown_end (to_element r d q) left room (inr (m, (n, stops, full))) = elim (cases_lt room (1 + made_words r.segments (struct r.segment r.at d q))) [
  | inl more ↦ ap (λ x. x.0) (outgrown_element r d q room (unused left) more).1
  | inr fits ↦
      let short : nat_le (1 + made_words r.segments (struct r.segment r.at d q)) room ≡ true = le-leb _ _ fits in
      let few : length (words_from r d) ≤ d = omega (arith, length-take d (drop r.at (segment_read r))) in
      let all : room < 1 + (length (words_from r d) + q + (stops.are_read.cost + (spent_until stops.stops).words) + n) = full in
      let out = trees_out room (fit_within room r.levels) r (λ p z m1 m2 t x. passes room (record r { at = p }) z m1 m2 t x) stops.first q (r.at + d) (1 + (d + q)) (unused left) stops.mid stops.are_read stops.fewer
      (λ y is. outgrown_is room n (place_past (place_past r d) (count stops.first)) y stops.mid m stops.stops (omega (arith, all, is, few))) in
      rw short (ap (λ x. x.0) out.1)
]

-- So a copy that stops is refused.
pub outgrows : (e : PathEnd) (left : Option ℕ) (room : ℕ) → IsEndThere e → MeansMore e room → ComesToMore e left room → OutgrowsRoom e left room
outgrows e left room there more comes = record { outgrown = outgrown_end e left room comes; large = more_needed e room there more }

pub stops_anywhere : (e : PathEnd) (left : Option ℕ) (room : ℕ) (k : ErrorKind) → IsEndThere e → StopsAnywhere e left room k → RefusesCopyAnywhere e left room k
stops_anywhere e left room k there (inl (named, more, comes)) = inr (named, outgrows e left room there more comes)
stops_anywhere e left room k there (inr (m, stops)) = inl (ap (λ x. x.0) (end_stop_is canonical e (unused left) m k stops))

less_outgrown : (e : PathEnd) (left : Option ℕ) (more room : ℕ) → room ≤ more → ComesToMore e left more → ComesToMore e left room
less_outgrown e left more room least (inl (n, makes, full)) = inl (n, makes, omega (arith, full, least))
less_outgrown e left more room least (inr (m, (n, stops, full))) = inr (m, (n, stops, omega (arith, full, least)))

-- with `more` words in its segment, for `room` words, if these aren't more
pub refused_try : (e : PathEnd) (left : Option ℕ) (k : ErrorKind) (more room : ℕ) → IsEndThere e → room ≤ more → is_allocation_name k ≡ true → StopsAnywhere e left more k → RefusesCopy (Ok e, unused left) room (MessageTooLarge room)
refused_try e left k more room there least want (inl (named, large, comes)) = inr (refl, outgrows e left room there (λ t c means. (let beyond = large t c means in omega arith)) (less_outgrown e left more room least comes))
refused_try e left k more room there least want (inr (m, stops)) = absurd (never_stops e (unused left) m k want stops)

pub refused_unread : (e : PathEnd) (left : Option ℕ) (k : ErrorKind) (more room : ℕ) → is_allocation_name k ≡ false → StopsAnywhere e left more k → RefusesCopy (Ok e, unused left) room k
refused_unread e left k more room other (inl (named, large, comes)) = absurd (let wrong : true ≡ false = sym named ∙ other in cc)
refused_unread e left k more room other (inr (m, stops)) = inl (words_unread room e (unused left) k (ap (λ x. x.0) (end_stop_is canonical e (unused left) m k stops)))

-- and if it is made in several segments
end_there : (e : PathEnd) (m m' : Meter) (t : Tree) → EndReads e m m' t → IsEndThere e
end_there (to_pointer r) m m' t reads = tt
end_there (to_element r d q) m m' t (there, reads) = there

pub refused_spread : (e : PathEnd) (left : Option ℕ) {n : ℕ} (m : Meter) (t : Tree) (more room : ℕ) → room ≤ more → (n ≡ 1) ⊎ MeansMore e more → (n ≡ 1 → ⊥) → EndReads e (unused left) m t → RefusesCopy (Ok e, unused left) room (MessageTooLarge room)
refused_spread e left m t more room least (inl one) other reads = absurd (other one)
refused_spread e left m t more room least (inr large) other reads =
    let as_read = end_reads_as e (unused left) m t reads in
    let (c, means) = read_means canonical e (unused left) m t (end_there e (unused left) m t reads) as_read in
    inl (words_exceed room e (unused left) t (ap (λ x. x.0) (end_read_is canonical e (unused left) m t as_read)) (omega (arith, large t c means, least, words_long canonical e (unused left) m t as_read)))

-- an error that something is too large is for lack of room
pub large_wants : (k : ErrorKind) → is_message_too_large k ≡ true → is_allocation_name k ≡ true
large_wants (MessageTooLarge w) large = refl
large_wants _ large = absurd (cc)

-- What a refused copy says of the value.
pub too_large : (e : PathEnd) (m : Meter) (room : ℕ) (k : ErrorKind) → is_message_too_large k ≡ true → RefusesCopy (Ok e, m) room k → NeedsMoreRoom e room
too_large e m room k large (inr (named, out)) = out.large
too_large e m room k large (inl refused) = elim (unmade room e (unused m.left) k refused) [
  | unread is ↦ absurd (never_unread e (unused m.left) k (large_wants k large) is)
  | exceed t is more named ↦
      let after : Meter = (end_value canonical e (unused m.left)).1 in
      needs_more e (unused m.left) after room t (end_read_if canonical e (unused m.left) after t (ap (λ x. (x, after)) is)) more
]

pub not_too_large : (e : PathEnd) (m : Meter) (room : ℕ) (k : ErrorKind) → is_message_too_large k ≡ false → RefusesCopy (Ok e, m) room k → (end_value canonical e (unused m.left)).0 ≡ Err k
not_too_large e m room k other (inr (named, out)) = absurd (let wrong : true ≡ false = sym (ap is_message_too_large named) ∙ other in cc)
not_too_large e m room k other (inl refused) = elim (unmade room e (unused m.left) k refused) [
  | unread is ↦ is
  | exceed t is more named ↦ absurd (let wrong : true ≡ false = sym (ap is_message_too_large named) ∙ other in cc)
]

-- A value that is read, and whose canonical words fit, isn't refused.
pub never_refused : (e : PathEnd) (m : Meter) (room : ℕ) (k : ErrorKind) (t : Tree) → (end_value canonical e (unused m.left)).0 ≡ Ok t → length (encoding (trim t)) ≤ room → RefusesCopy (Ok e, m) room k → ⊥
never_refused e m room k t read fits (inl refused) = absurd (let wrong : Ok (encoding (trim t)) ≡ Err k = sym (words_made room e (unused m.left) t read fits) ∙ refused in cc wrong)
never_refused e m room k t read fits (inr (named, out)) =
    let after : Meter = (end_value canonical e (unused m.left)).1 in
    let plainly = plain_read e (unused m.left) after t (end_read_if canonical e (unused m.left) after t (ap (λ x. (x, after)) read)) in
    omega (arith, out.large t plainly, fits)
