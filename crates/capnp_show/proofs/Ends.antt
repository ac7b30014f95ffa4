-- The end of a path that means a value within the limits is shown as the line of this value.
use Rattle.std.proofs.Common.{◌≡◌, ℕ, ℤ, ◌+◌, ◌≤◌, true, List, [], ◌++◌, length, Result, Ok, Err, IfErr, length-append, refl, sym, ap, ap₂, ◌∙◌, arith}
use Rattle.std.specs.Prelude.{codes}
use Rattle.capnp_words.specs.declared.error.ErrorKind.{ErrorKind}
use Rattle.capnp_words.specs.Meter.{Affords, Meter, unused}
use Rattle.capnp_format.specs.Means.{Means, MeansAll}
use Rattle.capnp_format.specs.Segments.{Segments}
use Rattle.capnp_format.specs.Tree.{Tree, Struct, Trees, no_trees, tree, count, depth}
use Rattle.capnp_arena.specs.declared.arena.reader_arena_impl.ReaderOptions.{ReaderOptions}
use Rattle.capnp_pointers.specs.Metered.{onward}
use Rattle.capnp_pointers.specs.Outcomes.{Reads}
use Rattle.capnp_pointers.specs.Reading.{Reading, place_past, words_from}
use Rattle.capnp_pointers.specs.Source.{levels}
use Rattle.capnp_pointers.specs.Spending.{after_charge, pointers_in}
use Rattle.capnp_pointers.specs.Values.{read_values, value_within, value}
use Rattle.capnp_pointers.specs.Wanted.{plain}
use Rattle.capnp_pointers.proofs.Budget.PaidAndLeft.{affords_rest, paid_one}
use Rattle.capnp_pointers.proofs.WholeValue.ValueAsStated.{reads_is}
use Rattle.capnp_pointers.proofs.WholeValue.UnreadableIfRefused.{affords_less}
use Rattle.capnp_messages.specs.EndValues.{EndMeans, end_place}
use Rattle.capnp_messages.specs.Parts.{PathEnd, part, to_element, to_pointer}
use Rattle.capnp_show.specs.Line.{value_line}
use Rattle.capnp_show.specs.Shown.{Shown, Shows, add, show_end, show_path, shown_json}
use Rattle.capnp_show.specs.Adding.{max_text}
use Rattle.capnp_show.specs.ShownParts.{HasShortLine, IsShownPart, message_shown, path_line}
use Rattle.capnp_show.specs.declared.show.json.Json.{Json}
use Rattle.capnp_show.specs.declared.show.text.Ended.{Ended}
use Rattle.capnp_show.specs.declared.show.text.Ended.TheVariants.{Full}
use Rattle.capnp_show.proofs.Steps.{shows_as}
use Rattle.capnp_show.proofs.Told.{element_told, value_told}

-- A value that a place means is read there, if the limit covers it.
abbrev read_there : (r : Reading) (t : Tree) (m : Meter) (k : ℕ) → Means r.segments r.levels r.segment r.at t k → Affords r.charging m k → Reads plain r m (after_charge r.charging m k (pointers_in t)) t
read_there r t m k means covered = record { cost = k; means = means; takes = λ e. absurd (e refl); covers = covered; spent = refl }

-- Consecutive pointers that mean ts are read as ts.
children_read : (r : Reading) (ts : Trees) (p c : ℕ) (m : Meter) → MeansAll r.segments r.levels r.segment p ts c → Affords r.charging m c →
    (m' : Meter) × (read_values (value_within plain r.levels) (count ts) (record r { at = p }) m ≡ (Ok ts, m'))
children_read r no_trees p c m means covered = (m, refl)
children_read r (tree t ts) p c m (k, l, first, rest, whole) covered =
    let here : Reading = record r { at = p } in
    let mid : Meter = after_charge r.charging m k (pointers_in t) in
    let read = read_there here t m k first (affords_less r.charging m k c (omega (arith, whole)) covered) in
    let one : value plain here m ≡ (Ok t, mid) = reads_is plain here m mid t read in
    let (m', all) = children_read r ts (p + 1) l mid rest (affords_rest l c (paid_one read) (omega (arith, whole)) covered) in
    (m', ap (onward _) one ∙ ap (onward _) all)

-- The line that is shown of a part.
pub end_told : (d : ℕ) (e : PathEnd) (s : Shown) (t : Tree) (c : ℕ) → EndMeans e t c → Affords (end_place e).charging s.lim c → depth t ≤ d →
    (m : Meter) × (show_end d e s ≡ record { text = s.text ++ value_line t; lim = m; sound = s.sound })
end_told d (to_pointer r) s t c means covered deep =
    let m : Meter = after_charge r.charging s.lim c (pointers_in t) in
    (m, value_told d r s m t (reads_is plain r s.lim m t (read_there r t s.lim c means covered)) deep)
end_told d (to_element r n q) s t c (ws, ts, is, long, counts, here, means) covered deep =
    let (m, read) = children_read r ts (r.at + n) c s.lim means covered in
    let same : words_from r n ≡ ws = ap (λ k. words_from r k) (sym long) ∙ here in
    let many : read_values (value_within plain r.levels) q (place_past r n) s.lim ≡ (Ok ts, m) = ap (λ k. read_values (value_within plain r.levels) k (place_past r n) s.lim) (sym counts) ∙ read in
    (m, element_told d r n q s m ts many (rw is at deep) ∙ ap (λ v. record { text = s.text ++ value_line v; lim = m; sound = s.sound }) (ap (λ xs. Struct xs ts) same ∙ sym is))

-- ---- a whole line

-- What a path leads to is shown after a step that changed nothing.
pub path_shown : (d : ℕ) (j0 j1 : Json) (found : Result PathEnd ErrorKind × Meter) (o : Result PathEnd ErrorKind) (m : Meter) → j1 ≡ j0 → found ≡ (o, m) →
    show_path d o (shown_json (record j1 { lim = m })) ≡ show_path d found.0 (record (shown_json j0) { lim = found.1 })
path_shown d j0 j1 found o m same read =
    ap₂ (λ (j : Json) (x : Result PathEnd ErrorKind × Meter). show_path d x.0 (record (shown_json j) { lim = x.1 })) same (sym read)

-- What is shown of a path that leads to e.
pub end_shown : {A : Type 0} {res : Result A Ended} {j : Json} (d : ℕ) (S : Segments) (n : ℕ) (path : List ℕ) (s : Shown) (e : PathEnd) (m : Meter) → part S n path s.lim ≡ (Ok e, m) →
    Shows res j (path_line d S n path s) → Shows res j (add (codes "\n") (show_end d e (record s { lim = m })))
unfolding path_line
end_shown d S n path s e m is shows =
    shows_as (ap (λ (x : Result PathEnd ErrorKind × Meter). add (codes "\n") (show_path d x.0 (record s { lim = x.1 }))) is) shows

-- A line of which nothing is written.
abbrev pub fresh : Meter → Shown
fresh m = record { text = []; lim = m; sound = true }

-- What a call writes, if it writes the line of what a path's end shows.
pub line_written : {A : Type 0} {res : Result A Ended} (S : Segments) (limits : ReaderOptions) (path : List ℕ) (d : ℕ) (t : Tree) (z : ℤ) (j0 j : Json) → IsShownPart S limits path d t → z ≡ limits.nesting_limit →
    shown_json j0 ≡ fresh (unused limits.traversal_limit_in_words) →
    ((e : PathEnd) (m : Meter) → part S (levels z) path j0.lim ≡ (Ok e, m) → Shows res j (add (codes "\n") (show_end d e (record (shown_json j0) { lim = m })))) →
    (m : Meter) × Shows res j (record { text = value_line t ++ codes "\n"; lim = m; sound = true })
line_written {res = res} S limits path d t z j0 j is nesting begins writes =
    let leads : part S (levels z) path j0.lim ≡ (Ok is.path_end, is.left) =
    ap₂ (λ (n : ℤ) (m : Meter). part S (levels n) path m) nesting (ap (λ (s : Shown). s.lim) begins) ∙ is.leads in
    let (m, told) = end_told d is.path_end (fresh is.left) t is.cost is.means is.covered is.deep in
    let line = ap (λ (s : Shown). add (codes "\n") (show_end d is.path_end (record s { lim = is.left }))) begins ∙ ap (add (codes "\n")) told in
    (m, shows_as line (writes is.path_end is.left leads))

-- Then the call is refused as `Full` only if that line is too long.
pub line_full : {A : Type 0} {res : Result A Ended} (S : Segments) (limits : ReaderOptions) (path : List ℕ) (d : ℕ) (t : Tree) (z : ℤ) (j0 j : Json) → IsShownPart S limits path d t → z ≡ limits.nesting_limit →
    shown_json j0 ≡ fresh (unused limits.traversal_limit_in_words) →
    ((e : PathEnd) (m : Meter) → part S (levels z) path j0.lim ≡ (Ok e, m) → Shows res j (add (codes "\n") (show_end d e (record (shown_json j0) { lim = m })))) →
    IfErr res (λ e. e ≡ Full → HasShortLine t → ⊥)
line_full {res = Ok x} S limits path d t z j0 j is nesting begins writes = tt
line_full {res = Err k} S limits path d t z j0 j is nesting begins writes =
    λ full short.
    let long = (line_written S limits path d t z j0 j is nesting begins writes).1.full full in
    let small : length (value_line t) + 1 ≤ max_text = short in
    absurd (omega (arith, long, small, length-append (value_line t) (codes "\n")))

-- A line that begins with nothing is the line of the message.
pub whole_shown : {A : Type 0} {res : Result A Ended} {j : Json} (d : ℕ) (S : Segments) (n : ℕ) (path : List ℕ) (s : Shown) (limits : ReaderOptions) → n ≡ levels limits.nesting_limit →
    s ≡ fresh (unused limits.traversal_limit_in_words) → Shows res j (path_line d S n path s) → Shows res j (message_shown limits path d S)
whole_shown d S n path s limits nesting begins shows =
    shows_as (ap₂ (λ (k : ℕ) (x : Shown). path_line d S k path x) nesting begins) shows
