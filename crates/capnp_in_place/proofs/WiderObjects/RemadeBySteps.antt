-- An object is remade, step by step: words are allocated and written, pointers are moved, the
-- pointer is set, and the old object is zeroed.
use Rattle.std.proofs.Common.{List, [], ap, ap₂, arith, inl, inr, length, refl, subst, sym, ℕ, ◌++◌, ◌+◌, ◌<◌, ◌∙◌, ◌∷◌, ◌≡◌, ◌≤◌}
use Rattle.std.proofs.lemmas.Bool.{cases_eq, cases_lt}
use Rattle.capnp_format.specs.Segments.{Segments, Target, segment, word_at}
use Rattle.capnp_format.specs.Means.{Leads}
use Rattle.capnp_format.specs.Forest.{object_of, pads_of, target, target_in, times}
use Rattle.capnp_format.proofs.Frame.{leads_agree}
use Rattle.capnp_arena_traits.specs.View.{View}
use Rattle.capnp_arena_traits.specs.Written.{with_word}
use Rattle.capnp_allocation.specs.Makes.{call_at}
use Rattle.capnp_allocation.specs.Memory.{ComesAfter, KeepsMemory, TakesWords, start_of}
use Rattle.capnp_arena_traits.specs.declared.arena.WordPlace.{WordPlace}
use Rattle.capnp_format.specs.Path.{word_interval}
use Rattle.capnp_allocation.specs.Zeroed.{IsZeroed, row}
use Rattle.capnp_allocation.specs.Made.{IsGrown}
use Rattle.capnp_allocation.proofs.Below.{split_row}
use Rattle.capnp_allocation.proofs.Extents.{times-first}
use Rattle.capnp_allocation.proofs.MadeWords.{IsPut, once_row, outside, word_put}
use Rattle.capnp_allocation.proofs.Zeros.{in_row, of_row}
use Rattle.capnp_in_place.specs.Moved.{AreMoved, CanMove, Move, Moves, MovesSome, Unmoves, fresh_pads, new_places}
use Rattle.capnp_in_place.specs.Anew.{OnlyWrites, StandsAnew, WritesAnew}
use Rattle.capnp_in_place.specs.Widened.{GrowsByZeros}
use Rattle.capnp_in_place.proofs.MovedPointers.MovedInTurn.{SameMoves, StaysMoved, all_old_inside, can_left, fresh_pads-append, left_null, moved_still, old_place_inside, same_moves, unwritten}
use Rattle.capnp_in_place.proofs.WiderObjects.RemadeElsewhere.{IsRehoused, new_pads, old_pads}
use Rattle.capnp_in_place.proofs.MovedPointers.RewrittenInTurn.{pads_after, pads_before, written_later}
use Rattle.capnp_in_place.proofs.WiderObjects.Statements.{AllMoved, IsSettled}

-- Words are allocated in segment v from position `at` on, for `pads` landing pads and an object of
-- `wide` words, which is then written. Its new pointers can be moved there.
pub record IsBegun (S T D : Segments) (v at pads wide : ℕ) (ms : List Move) : Type 0 where
  pub grown : IsGrown S T v at (pads + wide)
  pub segments : length D ≡ length T
  pub words : (x : ℕ) → length (segment D x) ≡ length (segment T x)
  pub written : (x y : ℕ) → times (row v (at + pads) wide ∷ []) x y ≡ 0 → word_at D x y ≡ word_at T x y
  pub can : CanMove S D ms
  pub within : (x y : ℕ) → 0 < times (new_places ms) x y → 0 < times (row v (at + pads) wide ∷ []) x y

-- The pointers are moved, the pointer to the object is set, and the old object and its pads are
-- zeroed.
pub record IsRemade (S T D P R Q : Segments) (u q : ℕ) (a : Target) (size : ℕ) (b : Target) (v at pads wide : ℕ) (ms : List Move) : Type 0 where
  pub begun : IsBegun S T D v at pads wide ms
  pub moves : Moves D P ms
  pub settled : IsSettled P R u q b v at pads
  pub segment_of : b.segment ≡ v
  pub start_of : b.start ≡ at + pads
  pub zeroed : IsZeroed R Q (pads_of (word_at S u q) ++ object_of a size ∷ [])
  pub place : q < length (segment S u)
  pub alone : times (pads_of (word_at S u q) ++ object_of a size ∷ []) u q ≡ 0
  pub inside : (x y : ℕ) → 0 < times (pads_of (word_at S u q) ++ object_of a size ∷ []) x y → y < length (segment S x)

module _ (S T D : Segments) (v at pads wide : ℕ) (ms : List Move) (h : IsBegun S T D v at pads wide ms) where
  -- Old words are outside of all that is allocated.
  pub not_taken : (x y : ℕ) → y < length (segment S x) → times (row v at (pads + wide) ∷ []) x y ≡ 0
  not_taken x y l = elim (cases_eq (times (row v at (pads + wide) ∷ []) x y) 0) [
    | inl e ↦ e
    | inr e ↦ (let i = in_row v at (pads + wide) x y (omega arith) in absurd (omega (arith, i.1, h.grown.behind, l, ap (λ z. length (segment S z)) i.0)))
  ]

  pub taken_once : (x y : ℕ) → 0 < times (row v at (pads + wide) ∷ []) x y → (length (segment S x) ≤ y) × (y < length (segment D x))
  taken_once x y l =
      let i = in_row v at (pads + wide) x y l in
      (omega (arith, i.1, h.grown.behind, ap (λ z. length (segment S z)) i.0), omega (arith, i.2, h.grown.room, h.words v, ap (λ z. length (segment D z)) i.0))

  pub split : (x y : ℕ) → times (row v at (pads + wide) ∷ []) x y ≡ times (row v at pads ∷ []) x y + times (row v (at + pads) wide ∷ []) x y
  split x y = split_row v at pads wide x y

  pub not_new : (x y : ℕ) → times (row v (at + pads) wide ∷ []) x y ≡ 0 → times (new_places ms) x y ≡ 0
  not_new x y e = elim (cases_eq (times (new_places ms) x y) 0) [
    | inl f ↦ f
    | inr f ↦ absurd (omega (arith, e, h.within x y (omega arith)))
  ]

  pub longer : (x : ℕ) → length (segment S x) ≤ length (segment D x)
  longer x = omega (arith, h.grown.grows.words x, h.words x)

  -- Old words are unchanged.
  pub old_written : (x y : ℕ) → y < length (segment S x) → word_at D x y ≡ word_at S x y
  old_written x y l = h.written x y (omega (arith, not_taken x y l, split x y)) ∙ h.grown.kept x y l

  module _ (P : Segments) (m : AreMoved D P ms) where
    pub old_moved : (x y : ℕ) → y < length (segment S x) → word_at P x y ≡ word_at S x y
    old_moved x y l = m.kept x y (not_new x y (omega (arith, not_taken x y l, split x y))) (omega (arith, longer x)) ∙ old_written x y l

    -- New words that nothing is written into are zero.
    pub zero_moved : (x y : ℕ) → length (segment S x) ≤ y → times (row v (at + pads) wide ∷ []) x y ≡ 0 → times (fresh_pads P ms) x y ≡ 0 → word_at P x y ≡ 0
    zero_moved x y new beside none = elim (cases_lt y (length (segment D x))) [
      | inl l ↦ m.kept x y (not_new x y beside) l ∙ h.written x y beside ∙ h.grown.zero x y new
      | inr l ↦ m.zero x y none l
    ]

module _ (S T D P R Q : Segments) (u q : ℕ) (a : Target) (size : ℕ) (b : Target) (v at pads wide : ℕ) (ms : List Move) (h : IsRemade S T D P R Q u q a size b v at pads wide ms) where
  -- The message before its pointer is overwritten.
  abbrev pub before_last : Segments
  before_last = with_word R u q (word_at S u q)

  long : (x : ℕ) → length (segment S x) ≤ length (segment R x)
  long x = omega (arith, longer S T D v at pads wide ms h.begun x, (h.moves S h.begun.can).grows.words x, h.settled.words x)

  pub put : IsPut R before_last u q (word_at S u q)
  put = word_put R before_last u q (word_at S u q) (omega (arith, h.place, long u)) refl

  moved : AreMoved D P ms
  moved = h.moves S h.begun.can

  -- The step before the last one writes only the place and the pads.
  pub last_kept : (x y : ℕ) → times (word_interval u q ∷ []) x y ≡ 0 → times (row v at pads ∷ []) x y ≡ 0 → word_at before_last x y ≡ word_at P x y
  last_kept x y e f = put.kept x y e ∙ h.settled.kept x y e f

  pub last_extends : (x y : ℕ) → y < length (segment S x) → word_at before_last x y ≡ word_at S x y
  last_extends x y l = elim (cases_eq (times (word_interval u q ∷ []) x y) 0) [
    | inl e ↦ last_kept x y e (omega (arith, not_taken S T D v at pads wide ms h.begun x y l, split S T D v at pads wide ms h.begun x y)) ∙ old_moved S T D v at pads wide ms h.begun P moved x y l
    | inr e ↦ (let i = in_row u q 1 x y (omega arith) in let f : y ≡ q = omega (arith, i.1, i.2) in rw (i.0, f) put.here)
  ]

  -- New words other than the pads are those of P.
  pub last_new : (x y : ℕ) → length (segment S x) ≤ y → times (row v at pads ∷ []) x y ≡ 0 → word_at before_last x y ≡ word_at P x y
  last_new x y new e = last_kept x y (outside u q x y (λ f g. omega (arith, h.place, new, ap (λ z. length (segment S z)) f))) e

  last_words : (x : ℕ) → length (segment before_last x) ≡ length (segment P x)
  last_words x = omega (arith, put.words x, h.settled.words x)

  pub pointer_last : word_at Q u q ≡ word_at R u q
  pointer_last = h.zeroed.kept u q h.alone

  pub is_rehoused : IsRehoused S before_last Q u q a size b wide (old_pads P ms) (new_pads P ms) (row v at (pads + wide) ∷ fresh_pads P ms)
  is_rehoused =
      let sp = split S T D v at pads wide ms h.begun in
      let first = λ (x y : ℕ). times-first (row v at (pads + wide)) (fresh_pads P ms) x y in
      record {
        more_segments = omega (arith, h.begun.grown.grows.segments, h.begun.segments, moved.grows.segments, h.settled.segments, put.segments);
        more_words = λ x. omega (arith, long x, put.words x);
        same_segments = h.zeroed.segments ∙ sym put.segments;
        same_words = λ x. h.zeroed.words x ∙ sym (put.words x);
        extends = last_extends;
        zero_new = λ x y new none.
            last_new x y new (omega (arith, none, first x y, sp x y)) ∙ zero_moved S T D v at pads wide ms h.begun P moved x y new (omega (arith, none, first x y, sp x y)) (omega (arith, none, first x y));
        fresh_once = λ x y. elim (cases_eq (times (fresh_pads P ms) x y) 0) [
          | inl e ↦ omega (arith, first x y, once_row v at (pads + wide) x y)
          | inr e ↦ elim (cases_eq (times (row v at (pads + wide) ∷ []) x y) 0) [
            | inl f ↦ omega (arith, first x y, moved.once x y)
            | inr f ↦ absurd (omega (arith, (moved.fresh x y (omega arith)).0, (taken_once S T D v at pads wide ms h.begun x y (omega arith)).1))
          ]
        ];
        fresh_new = λ x y l. elim (cases_eq (times (fresh_pads P ms) x y) 0) [
          | inl e ↦ (let i = taken_once S T D v at pads wide ms h.begun x y (omega (arith, first x y)) in (i.0, omega (arith, i.1, moved.grows.words x, last_words x)))
          | inr e ↦ (let i = moved.fresh x y (omega arith) in (omega (arith, i.0, longer S T D v at pads wide ms h.begun x), omega (arith, i.1, last_words x)))
        ];
        all_fresh = λ x y. omega (
          arith,
          ap (λ w. times (pads_of w) x y) pointer_last,
          h.settled.pads_there x y,
          object_row x y,
          sp x y,
          first x y,
          moved.sums x y,
        );
        object_new = λ y low high. omega (arith, h.start_of, h.begun.grown.behind, ap (λ z. length (segment S z)) h.segment_of);
        claim = omega (arith, h.start_of, h.begun.grown.room, h.begun.words v, moved.grows.words v, last_words v, ap (λ z. length (segment before_last z)) h.segment_of);
        only_old = λ x y e. h.zeroed.kept x y (omega (arith, e, times-first (word_interval u q) (pads_of (word_at S u q) ++ object_of a size ∷ []) x y))
            ∙ sym (put.kept x y (omega (arith, e, times-first (word_interval u q) (pads_of (word_at S u q) ++ object_of a size ∷ []) x y)));
        zero_old = λ x y other l. h.zeroed.zero x y l;
      }
    where
      object_row : (x y : ℕ) → times (object_of b wide ∷ []) x y ≡ times (row v (at + pads) wide ∷ []) x y
      object_row x y = rw (h.segment_of, h.start_of) refl

  -- Moved pointers stay moved.
  stays : StaysMoved S P before_last ms
  stays =
      let sp = split S T D v at pads wide ms h.begun in
      record {
        grows = record { segments = omega (arith, put.segments, h.settled.segments); words = λ x. omega (arith, last_words x) };
        extends = record {
          grows = record { segments = omega (arith, h.begun.grown.grows.segments, h.begun.segments, moved.grows.segments); words = λ x. omega (arith, longer S T D v at pads wide ms h.begun x, moved.grows.words x) };
          kept = old_moved S T D v at pads wide ms h.begun P moved;
        };
        in_base = λ x y l. last_extends x y l ∙ sym (old_moved S T D v at pads wide ms h.begun P moved x y l);
        places = λ x y l. last_new x y (h.begun.can.behind x y l).0 (omega (arith, h.begun.within x y l, sp x y, once_row v at (pads + wide) x y));
        pads = λ x y l. elim (cases_eq (times (fresh_pads P ms) x y) 0) [
          | inl e ↦ (let old = all_old_inside S P ms (record {
            grows = record { segments = omega (arith, h.begun.grown.grows.segments, h.begun.segments, moved.grows.segments); words = λ z. omega (arith, longer S T D v at pads wide ms h.begun z, moved.grows.words z) };
            kept = old_moved S T D v at pads wide ms h.begun P moved;
          }) h.begun.can.stand x y (omega (arith, moved.sums x y)) in last_extends x y old ∙ sym (old_moved S T D v at pads wide ms h.begun P moved x y old))
          | inr e ↦ (let new = moved.fresh x y (omega arith) in last_new x y (omega (arith, new.0, longer S T D v at pads wide ms h.begun x)) (beyond x y new.0))
        ];
      }
    where
      beyond : (x y : ℕ) → length (segment D x) ≤ y → times (row v at pads ∷ []) x y ≡ 0
      beyond x y l = elim (cases_eq (times (row v at pads ∷ []) x y) 0) [
        | inl e ↦ e
        | inr e ↦ absurd (omega (arith, l, (taken_once S T D v at pads wide ms h.begun x y (omega (arith, split S T D v at pads wide ms h.begun x y))).1))
      ]

  pub all_moved : AllMoved before_last ms
  all_moved = moved_still S P before_last ms h.begun.can.stand stays moved.moved

  pub moves_same : SameMoves P before_last ms
  moves_same = same_moves S P before_last ms h.begun.can.stand stays

  -- Words of the new object that no pointer is written into.
  pub object_word : (y : ℕ) → at + pads ≤ y → y < at + pads + wide → times (new_places ms) v y ≡ 0 → word_at before_last v y ≡ word_at D v y
  object_word y low high none =
      let one = of_row v (at + pads) wide y low high in
      let sp = split S T D v at pads wide ms h.begun v y in
      last_new v y (omega (arith, low, h.begun.grown.behind)) (omega (arith, one, sp, once_row v at (pads + wide) v y))
      ∙ moved.kept v y none (omega (arith, high, h.begun.grown.room, h.begun.words v))

  -- The pointer still leads to it in the end.
  pub leads_last : Leads Q u q b
  leads_last = leads_agree (record { grows = record { segments = omega (arith, h.zeroed.segments); words = λ x. omega (arith, h.zeroed.words x) }; same = pointer_last })
      (λ x y l. h.zeroed.kept x y (elim (cases_eq (times (pads_of (word_at S u q) ++ object_of a size ∷ []) x y) 0) [
        | inl e ↦ e
        | inr e ↦ absurd (omega (arith, h.inside x y (omega arith), not_taken S T D v at pads wide ms h.begun x y (h.inside x y (omega arith)), split S T D v at pads wide ms h.begun x y, h.settled.pads_there x y))
      ])) h.settled.leads_there

  -- The moved pointers stay the way they were written.
  pub new_last : (x y : ℕ) → 0 < times (new_places ms) x y → word_at Q x y ≡ word_at P x y
  new_last x y l =
      let new = (h.begun.can.behind x y l).0 in
      h.zeroed.kept x y (elim (cases_eq (times (pads_of (word_at S u q) ++ object_of a size ∷ []) x y) 0) [
        | inl e ↦ e
        | inr e ↦ absurd (omega (arith, h.inside x y (omega arith), new))
      ])
      ∙ h.settled.kept x y (outside u q x y (λ f g. omega (arith, h.place, new, ap (λ z. length (segment S z)) f)))
      (omega (arith, h.begun.within x y l, split S T D v at pads wide ms h.begun x y, once_row v at (pads + wide) x y))

-- The object is new, in the words allocated for it and its pads; its pointers are moved to where it
-- starts.
pub object_anew : (s t d p q : View) (T R : Segments) (u i : ℕ) (a : Target) (size : ℕ) (b : Target) (v at pads wide : ℕ) (moves : WordPlace → List Move) →
    IsRemade s.words T d.words p.words R q.words u i a size b v at pads wide (moves (record { segment = v; at = at + pads })) → KeepsMemory s t → TakesWords s t u wide → ComesAfter s u wide (record { segment = v; at = at + pads }) → OnlyWrites t d →
    WritesAnew d p (moves (record { segment = v; at = at + pads })) → OnlyWrites p q → StandsAnew (call_at u i s q) wide (moves (start_of (target q.words u i)))
object_anew s t d p q T R u i a size b v at pads wide moves h kept taken behind first w last =
    let start : ℕ → ℕ → WordPlace = λ x y. record { segment = x; at = y } in
    let ms = moves (start v (at + pads)) in
    let written = w s.words h.begun.can in
    let goes : target q.words u i ≡ b = ap target_in (leads_last s.words T d.words p.words R q.words u i a size b v at pads wide ms h).1 in
    let there : start v (at + pads) ≡ start_of (target q.words u i) = ap₂ start (sym h.segment_of) (sym h.start_of) ∙ ap start_of (sym goes) in
    subst (λ (x : WordPlace). StandsAnew (call_at u i s q) wide (moves x)) there (record {
      behind = subst (λ (x : WordPlace). ComesAfter s u wide x) there behind;
      forms = written_later s.words p.words q.words ms (new_last s.words T d.words p.words R q.words u i a size b v at pads wide ms h) written.0;
      begun = t;
      kept = kept;
      object = taken;
      pads = pads_before s.words t d q ms first (pads_after s.words d p q ms written.1 last);
    })

-- A growth is refused: the pads and the new object are zeroed again.
pub undone : (S T D P U Z : Segments) (v at pads wide : ℕ) (ms : List Move) → IsBegun S T D v at pads wide ms → MovesSome D P ms → Unmoves P U ms → (at + pads + wide ≤ length (segment U v) → IsZeroed U Z (row v (at + pads) wide ∷ [])) → GrowsByZeros S Z
undone S T D P U Z v at pads wide ms h some f g =
    let done = some.done in
    let left = some.left in
    let whole : CanMove S D (done ++ left) = subst (λ ns. CanMove S D ns) some.all h.can in
    let first = can_left S D done left whole in
    let a : AreMoved D P done = some.moves S first in
    let split_fresh = fresh_pads-append P done left in
    let fresh_all = λ (x y : ℕ). (let e : times (fresh_pads P ms) x y ≡ times (fresh_pads P done) x y + times (fresh_pads P left) x y = ap (λ ns. times (fresh_pads P ns) x y) some.all ∙ split_fresh x y in e) in
    let none_left = λ (x y : ℕ). (let e : times (fresh_pads P left) x y ≡ 0 = unwritten P left (left_null S D P done left whole a) x y in e) in
    let fresh = λ (x y : ℕ). (let e : times (fresh_pads P ms) x y ≡ times (fresh_pads P done) x y = omega (arith, fresh_all x y, none_left x y) in e) in
    let begun = taken_once S T D v at pads wide ms h in
    let undo = f (λ x y l. (a.fresh x y (omega (arith, fresh x y))).1)
    (λ x y l. elim (cases_eq (times (fresh_pads P done) x y) 0) [
      | inl e ↦ omega (arith, fresh x y)
      | inr e ↦ absurd (omega (arith, (a.fresh x y (omega arith)).0, old_place_inside S ms h.can.stand x y l, longer S T D v at pads wide ms h x))
    ])
    (λ x y l. elim (cases_eq (times (fresh_pads P done) x y) 0) [
      | inl e ↦ omega (arith, fresh x y)
      | inr e ↦ absurd (omega (arith, (a.fresh x y (omega arith)).0, (h.can.behind x y l).1))
    ]) in
    let z = g (omega (arith, h.grown.room, h.words v, a.grows.words v, undo.words v)) in
    let sp = split S T D v at pads wide ms h in
    let places = λ (x y : ℕ) (e : times (row v (at + pads) wide ∷ []) x y ≡ 0). (let w : times (new_places done) x y ≡ 0 = fewer_places done left x y (ap (λ ns. times (new_places ns) x y) (sym some.all) ∙ not_new S T D v at pads wide ms h x y e) in w) in
    record {
      grows = record { segments = omega (arith, h.grown.grows.segments, h.segments, a.grows.segments, undo.segments, z.segments); words = λ x. omega (arith, longer S T D v at pads wide ms h x, a.grows.words x, undo.words x, z.words x) };
      kept = λ x y l.
          (let beside : times (row v (at + pads) wide ∷ []) x y ≡ 0 = omega (arith, not_taken S T D v at pads wide ms h x y l, sp x y) in
          let unpadded : times (fresh_pads P ms) x y ≡ 0 = elim (cases_eq (times (fresh_pads P done) x y) 0) [
            | inl e ↦ omega (arith, fresh x y)
            | inr e ↦ absurd (omega (arith, l, (a.fresh x y (omega arith)).0, longer S T D v at pads wide ms h x))
          ] in
          z.kept x y beside ∙ undo.kept x y unpadded ∙ a.kept x y (places x y beside) (omega (arith, l, longer S T D v at pads wide ms h x)) ∙ old_written S T D v at pads wide ms h x y l);
      zero = λ x y new. elim (cases_eq (times (row v (at + pads) wide ∷ []) x y) 0) [
        | inr e ↦ z.zero x y (omega arith)
        | inl beside ↦ z.kept x y beside ∙ elim (cases_eq (times (fresh_pads P ms) x y) 0) [
          | inr e ↦ undo.zero x y (omega arith)
          | inl none ↦ undo.kept x y none ∙ elim (cases_lt y (length (segment D x))) [
            | inl l ↦ a.kept x y (places x y beside) l ∙ h.written x y beside ∙ h.grown.zero x y new
            | inr l ↦ a.zero x y (omega (arith, fresh x y)) l
          ]
        ]
      ];
    }
  where
    fewer_places : (ms ns : List Move) (x y : ℕ) → times (new_places (ms ++ ns)) x y ≡ 0 → times (new_places ms) x y ≡ 0
    fewer_places [] ns x y e = omega arith
    fewer_places (m ∷ ms) ns x y e = omega (arith, fewer_places ms ns x y (omega arith))
