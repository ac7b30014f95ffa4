-- What the steps of making the rows of an object wider leave, in the words of the calls. A struct is
-- one row, without a tag.
use Rattle.std.proofs.Common.{List, [], ap, arith, length, subst, sym, ℕ, ◌*◌, ◌++◌, ◌+◌, ◌∷◌, ◌≡◌, ◌≤◌}
use Rattle.capnp_format.specs.Word.{upper_half}
use Rattle.capnp_format.specs.Segments.{IsPlace, Segments, Target, segment, word_at}
use Rattle.capnp_format.specs.Tree.{Tree}
use Rattle.capnp_format.specs.Means.{Leads}
use Rattle.capnp_format.specs.Forest.{Interval, cover, object_of, pads_of, target, times}
use Rattle.capnp_format.proofs.Frame.{times-append}
use Rattle.capnp_words.specs.declared.wire_pointer.StructSize.{StructSize}
use Rattle.capnp_arena_traits.specs.View.{View}
use Rattle.capnp_allocation.specs.Makes.{call_at}
use Rattle.capnp_allocation.specs.Memory.{ComesAfter, KeepsMemory, TakesWords, start_of}
use Rattle.capnp_format.specs.Path.{word_interval}
use Rattle.capnp_allocation.specs.Stored.{IsStored}
use Rattle.capnp_allocation.specs.Zeroed.{IsZeroed, PadsInside, row}
use Rattle.capnp_allocation.specs.declared.making.Shape.{Shape}
use Rattle.capnp_arena_traits.specs.declared.arena.WordPlace.{WordPlace}
use Rattle.capnp_allocation.proofs.Below.{pads_inside}
use Rattle.capnp_allocation.proofs.Extents.{once_held, times-first}
use Rattle.capnp_allocation.proofs.Zeros.{zeroed_again}
use Rattle.capnp_in_place.specs.declared.remaking.ElementRows.{ElementRows}
use Rattle.capnp_in_place.specs.declared.widening.Allocation.{Allocation}
use Rattle.capnp_in_place.specs.Anew.{BecomesAnew, OnlyWrites, StandsAnew, WritesAnew}
use Rattle.capnp_in_place.specs.Housed.{Settles, object_start}
use Rattle.capnp_in_place.specs.Moved.{Move, Moves, MovesSome, Unmoves, moves_into}
use Rattle.capnp_in_place.specs.Rooms.{direct_pointers, widened_words}
use Rattle.capnp_in_place.specs.RowsRemade.{element_moves}
use Rattle.capnp_in_place.specs.Widened.{GrowsByZeros}
use Rattle.capnp_in_place.proofs.WiderObjects.NewRowsBySteps.{RowsRewritten, rows_begun, rows_rewritten}
use Rattle.capnp_in_place.proofs.WiderObjects.RemadeBySteps.{IsBegun, IsRemade, longer, object_anew, undone}
use Rattle.capnp_in_place.proofs.WiderObjects.RowsCopied.{RowsFilled, first_row, rows_words}
use Rattle.capnp_in_place.proofs.WiderObjects.Statements.{HaveValuesInside, IsSettled, is_settled}

-- The object that a place stores, and what is below it.
pub record ObjectStored (S : Segments) (id at : ℕ) (t : Tree) (n : ℕ) (inner : List Interval) : Type 0 where
  pub stored : IsStored S id at t
  pub whole : cover S id at t ≡ pads_of (word_at S id at) ++ object_of (target S id at) n ∷ inner
  pub leads_to : Leads S id at (target S id at)
  pub fits : (target S id at).start + n ≤ length (segment S (target S id at).segment)

pub object_remade : (S T D P R Z Q : Segments) (id at : ℕ) (t : Tree) (n : ℕ) (inner : List Interval) (b : Target) (v p pads wide : ℕ) (ms : List Move) → ObjectStored S id at t n inner → IsBegun S T D v p pads wide ms →
    Moves D P ms → IsSettled P R id at b v p pads → b.segment ≡ v → b.start ≡ p + pads → IsPlace S id at →
    ((target S id at).start + n ≤ length (segment R (target S id at).segment) → IsZeroed R Z (row (target S id at).segment (target S id at).start n ∷ [])) →
    (PadsInside Z (word_at S id at) → IsZeroed Z Q (pads_of (word_at S id at))) → IsRemade S T D P R Q id at (target S id at) n b v p pads wide ms
object_remade S T D P R Z Q id at t n inner b v p pads wide ms o begun moves settled segment_of start_of place object_zeroed pads_zeroed =
    let a = target S id at in
    let word = word_at S id at in
    let x = o.stored in
    let moved = moves S begun.can in
    let long = λ (y : ℕ). (let e : length (segment S y) ≤ length (segment R y) = omega (arith, longer S T D v p pads wide ms begun y, moved.grows.words y, settled.words y) in e) in
    let z = object_zeroed (omega (arith, o.fits, long a.segment)) in
    let fits : PadsInside Z word = λ far. omega (arith, pads_inside S id at a o.leads_to.1 far, long (upper_half word), z.words (upper_half word)) in
    let zz = pads_zeroed fits in
    let both = λ (y w : ℕ). times-append (pads_of word) (object_of a n ∷ []) y w in
    let covered = λ (y w : ℕ). (let e : times (pads_of word ++ object_of a n ∷ []) y w ≤ times (cover S id at t) y w =
    omega (arith, both y w, ap (λ is. times is y w) o.whole, times-append (pads_of word) (object_of a n ∷ inner) y w, times-first (object_of a n) inner y w) in e) in
    let first = λ (y w : ℕ). times-first (word_interval id at) (cover S id at t) y w in
    record {
      begun = begun;
      moves = moves;
      settled = settled;
      segment_of = segment_of;
      start_of = start_of;
      zeroed = zeroed_again R Z Q (object_of a n ∷ []) (pads_of word) (pads_of word ++ object_of a n ∷ []) (λ y w. (λ l. omega (arith, both y w), λ e. omega (arith, both y w))) z zz;
      place = place;
      alone = omega (arith, covered id at, first id at, x.apart id at, once_held id at);
      inside = λ y w l. x.inside y w (omega (arith, l, covered y w, first y w));
    }

-- An object t of `words` words is in rows, and what becomes of it, u, is in rows of a size, after a
-- tag.
pub record AreRows (S : Segments) (id at : ℕ) (t : Tree) (old : ElementRows) (words tag : ℕ) (size : StructSize) (u : Tree) : Type 0 where
  pub inner : List Interval
  pub object : ObjectStored S id at t words inner
  pub in_segment : old.segment ≡ (target S id at).segment
  pub starts : old.at ≡ (target S id at).start
  pub stand : (to : WordPlace) → HaveValuesInside S (element_moves old to size)
  pub wide : widened_words u ≡ rows_words tag old.count size
  pub pointers : direct_pointers t ≡ old.count * old.size.pointers
  pub moves : (to : WordPlace) → moves_into (start_of (target S id at)) to t u ≡ element_moves old (record to { at = to.at + tag }) size

-- From S to Q: words are allocated for rows and filled, pointers are moved there, the pointer is
-- set to the new object, and the old object and its pads are zeroed.
pub record RowSteps (S T D P R Z Q : Segments) (id at : ℕ) (old : ElementRows) (words tag : ℕ) (size : StructSize) (h : Allocation) (shape : Shape) : Type 0 where
  pub place : IsPlace S id at
  pub filled : RowsFilled S T D tag old.count size h
  pub narrow : old.size.pointers ≤ size.pointers
  pub moves : Moves D P (element_moves old (first_row h tag) size)
  pub settled : Settles P R (record { segment = id; at = at }) h shape
  pub object_zeroed : old.at + words ≤ length (segment R old.segment) → IsZeroed R Z (row old.segment old.at words ∷ [])
  pub pads_zeroed : PadsInside Z (word_at S id at) → IsZeroed Z Q (pads_of (word_at S id at))

pub rows_remade : {S T D P R Z Q : Segments} {id at : ℕ} {t u : Tree} {old : ElementRows} {words tag : ℕ} {size : StructSize} {h : Allocation} {shape : Shape} → AreRows S id at t old words tag size u → (s : RowSteps S T D P R Z Q id at old words tag size h shape) →
    IsRemade S T D P R Q id at (target S id at) words s.settled.object h.segment h.at h.pads (rows_words tag old.count size) (element_moves old (first_row h tag) size)
rows_remade {S = S} {T = T} {D = D} {P = P} {R = R} {Z = Z} {Q = Q} {id = id} {at = at} {t = t} {old = old} {words = words} {tag = tag} {size = size} {h = h} o s =
    let a = target S id at in
    let zeroes : ℕ → ℕ → Type 0 = λ x y. y + words ≤ length (segment R x) → IsZeroed R Z (row x y words ∷ []) in
    object_remade S T D P R Z Q id at t words o.inner s.settled.object h.segment h.at h.pads (rows_words tag old.count size) (element_moves old (first_row h tag) size) o.object (rows_begun old (o.stand (first_row h tag)) s.narrow s.filled) s.moves (is_settled s.settled) s.settled.in_segment s.settled.starts s.place
    (subst (λ x. zeroes x a.start) o.in_segment (subst (λ y. zeroes old.segment y) o.starts s.object_zeroed)) s.pads_zeroed

pub rows_written : {S T D P R Z Q : Segments} {id at : ℕ} {t u : Tree} {old : ElementRows} {words tag : ℕ} {size : StructSize} {h : Allocation} {shape : Shape} → AreRows S id at t old words tag size u → (s : RowSteps S T D P R Z Q id at old words tag size h shape) →
    RowsRewritten S D Q id at old tag size h words (target S id at) s.settled.object
rows_written {old = old} {tag = tag} {size = size} {h = h} o s = rows_rewritten old tag size h s.narrow (rows_remade o s)

-- The words that are allocated for rows, in the room h.
pub record RowsTaken (s t d p q : View) (id : ℕ) (old : ElementRows) (tag : ℕ) (size : StructSize) (h : Allocation) : Type 0 where
  pub kept : KeepsMemory s t
  pub taken : TakesWords s t id (rows_words tag old.count size)
  pub behind : ComesAfter s id (rows_words tag old.count size) (object_start h)
  pub first : OnlyWrites t d
  pub written : WritesAnew d p (element_moves old (first_row h tag) size)
  pub last : OnlyWrites p q

pub rows_anew : {s b d p q : View} {T R Z : Segments} {id at : ℕ} {t u : Tree} {old : ElementRows} {words tag : ℕ} {size : StructSize} {h : Allocation} {shape : Shape} → AreRows s.words id at t old words tag size u →
    RowSteps s.words T d.words p.words R Z q.words id at old words tag size h shape → RowsTaken s b d p q id old tag size h → BecomesAnew (call_at id at s q) t u
rows_anew {s = s} {b = b} {d = d} {p = p} {q = q} {T = T} {R = R} {id = id} {at = at} {u = u} {old = old} {words = words} {tag = tag} {size = size} {h = h} o steps k =
    let c = call_at id at s q in
    let n = rows_words tag old.count size in
    let moves : WordPlace → List Move = λ y. element_moves old (record y { at = y.at + tag }) size in
    let there = start_of (target q.words id at) in
    subst (λ ms. StandsAnew c (widened_words u) ms) (sym (o.moves there)) (subst (λ m. StandsAnew c m (moves there)) (sym o.wide)
    (object_anew s b d p q T R id at (target s.words id at) words steps.settled.object h.segment h.at h.pads n moves (rows_remade o steps) k.kept k.taken k.behind k.first k.written k.last))

-- A growth is refused on the way: what was allocated is zeroed again.
pub record RowsUndone (S T D P U Z : Segments) (old : ElementRows) (tag : ℕ) (size : StructSize) (h : Allocation) : Type 0 where
  pub filled : RowsFilled S T D tag old.count size h
  pub narrow : old.size.pointers ≤ size.pointers
  pub some : MovesSome D P (element_moves old (first_row h tag) size)
  pub unmoves : Unmoves P U (element_moves old (first_row h tag) size)
  pub zeroed : h.at + h.pads + rows_words tag old.count size ≤ length (segment U h.segment) → IsZeroed U Z (row h.segment (h.at + h.pads) (rows_words tag old.count size) ∷ [])

pub rows_left : {S T D P U Z : Segments} {id at : ℕ} {t u : Tree} {old : ElementRows} {words tag : ℕ} {size : StructSize} {h : Allocation} → AreRows S id at t old words tag size u → RowsUndone S T D P U Z old tag size h → GrowsByZeros S Z
rows_left {S = S} {T = T} {D = D} {P = P} {U = U} {Z = Z} {old = old} {tag = tag} {size = size} {h = h} o s =
    undone S T D P U Z h.segment h.at h.pads (rows_words tag old.count size) (element_moves old (first_row h tag) size) (rows_begun old (o.stand (first_row h tag)) s.narrow s.filled) s.some s.unmoves s.zeroed
