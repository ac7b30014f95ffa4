-- Steps of the calls of an arena in lent bytes.
use Rattle.std.proofs.Common.{◌≡◌, ℕ, ◌+◌, ◌*◌, ◌/◌, ◌<◌, ◌≤◌, List, [], ◌∷◌, ◌++◌, zero, suc, length, take, drop, replicate, min, get_or, refl, sym, ap, ◌∙◌, arith, append_assoc, take_at, length-take, length-append, slice_get, slice_set, Some}
use Rattle.std.proofs.Math.Bridge.{le_prop}
use Rattle.std.proofs.lemmas.List.{length-replicate}
use borrow.Rule.Slice.PartMut.{put_mid}
use Rattle.capnp_format.specs.Bytes.{words_of, message}
use Rattle.capnp_format.specs.Segments.{segment, words_at, IsPlace}
use Rattle.capnp_format.proofs.WordsOf.{words, words_of-take}
use Rattle.capnp_arena_traits.specs.Allocations.{max_segment_words}
use Rattle.capnp_arena_traits.specs.Taking.{GrowsSegment, IsFirstFit, IsFull}
use Rattle.capnp_arena_traits.specs.View.{view_of}
use Rattle.capnp_arena_traits.specs.Written.{with_word, with_words}
use Rattle.capnp_arena.proofs.RowLemmas.{moved_over}
use Rattle.capnp_lent_arena.specs.Lent.{allocated_bytes, capacity_of, lent_view, names, with_lent_bytes}
use Rattle.capnp_lent_arena.specs.LentArenaLemmas.{allocated_words, with_lent_bytes-segments, with_lent_bytes-view}
use Rattle.capnp_lent_arena.specs.declared.lent_arena.LentArena.{LentArena}
use Rattle.capnp_arena.specs.declared.arena.allocator.Segment.{Ghosts}

-- Words that are zeroed after the allocated ones.
pub zeroed : (used amount : ℕ) (old new ready : List ℕ) → 8 * (used + amount) ≤ length old →
    length new ≡ length old → words_of new ≡ put_mid used amount (words_of old) (replicate amount 0) →
    ready ≡ new →
    words_of (take (8 * (used + amount)) ready) ≡ words_of (take (8 * used) old) ++ replicate amount 0
zeroed used amount old new ready fits same e is =
    let ws = words_of old in
    let rest : List ℕ = drop amount (drop used ws) in
    let front : List ℕ = take used ws ++ replicate amount 0 in
    let long : length front ≡ used + amount =
    omega (
      arith,
      length-append (take used ws) (replicate {A = ℕ} amount 0),
      length-take used ws,
      words old,
      length-replicate {A = ℕ} amount 0,
      fits,
    ) in
    ap (λ xs. words_of (take (8 * (used + amount)) xs)) is
    ∙ words_of-take (used + amount) new (omega (arith, fits, same))
    ∙ ap (take (used + amount)) (e ∙ sym (append_assoc (take used ws) (replicate amount 0) rest))
    ∙ take_at front rest (used + amount) long
    ∙ ap (λ xs. xs ++ replicate amount 0) (sym (words_of-take used old (omega (arith, fits))))

module _ {S : Type 0} (g : Ghosts S) where
  -- An arena is the same with another proof of its facts.
  pub same_lent : (bytes : S) (used refused : ℕ) (x y : 8 * used ≤ length (g.ready bytes)) (v w : used ≤ max_segment_words) →
      (let A : Type 0 = LentArena S g in ◌≡◌ {A = A} (record { bytes = bytes; used = used; refused = refused; inside = x; small = v })
      (record { bytes = bytes; used = used; refused = refused; inside = y; small = w }))
  same_lent bytes used refused x y v w = λ i. record { bytes = bytes; used = used; refused = refused; inside = le_prop x y i; small = le_prop v w i }

  -- More words are inside of the bytes if there is room for them.
  pub inside_more : (a : LentArena S g) (amount : ℕ) (ws : List ℕ) → a.used + amount ≤ capacity_of g a →
      length ws ≡ length (g.ready a.bytes) →
      8 * (a.used + amount) ≤ length (g.ready (g.with_ready a.bytes ws))
  inside_more a amount ws h l = omega (arith, h, l, ap length (g.holds a.bytes ws l))

  -- The bytes that are lent of a segment are those of the arena.
  pub lent_is : (a : LentArena S g) (id : ℕ) (bytes : List ℕ) →
      slice_get (allocated_bytes g a ∷ []) id ≡ Some bytes → bytes ≡ allocated_bytes g a
  lent_is a zero bytes e = cc
  lent_is a (suc k) bytes e = cc

  module _ (name : S → ℕ) where
    -- Words of a segment are in the only segment, if there are any.
    pub inside_words : (a : LentArena S g) (id at n : ℕ) → (n ≡ 0 → ⊥) →
        at + n ≤ length (segment (lent_view g name a).words id) → at + n ≤ a.used
    inside_words a zero at n some h = omega (arith, h, allocated_words g a)
    inside_words a (suc k) at n some h = absurd (omega (arith, h, some))

    -- The view of an arena in which words were copied.
    pub moved : ((s : S) (w : List ℕ) → name (g.with_ready s w) ≡ name s) → (a : LentArena S g) (fs from ts to n : ℕ) (bytes new : List ℕ) → (n ≡ 0 → ⊥) →
        from + n ≤ length (segment (lent_view g name a).words fs) → to + n ≤ length (segment (lent_view g name a).words ts) →
        slice_get (allocated_bytes g a ∷ []) ts ≡ Some bytes → length new ≡ length bytes →
        words_of new ≡ put_mid to n (words_of bytes) (take n (drop from (words_of bytes))) →
        lent_view g name (with_lent_bytes g a ts new)
        ≡ record (lent_view g name a) { words = with_words (lent_view g name a).words ts to (words_at (lent_view g name a).words fs from n) }
    moved kept a zero from zero to n bytes new some f t e l w =
        let is = lent_is a zero bytes e in
        let ws = words_of (allocated_bytes g a) in
        let over = ap (λ bs. put_mid to n (words_of bs) (take n (drop from (words_of bs)))) is in
        with_lent_bytes-view g name kept a zero new
        ∙ ap (λ (W : List (List ℕ)). record (lent_view g name a) { words = W })
        (ap message (with_lent_bytes-segments g a zero (allocated_bytes g a) new refl (l ∙ ap length is))
        ∙ ap (λ w. w ∷ []) (w ∙ over ∙ moved_over ws from to n f))
    moved kept a (suc fs) from ts to n bytes new some f t e l w = absurd (omega (arith, f, some))
    moved kept a zero from (suc ts) to n bytes new some f t e l w = absurd (omega (arith, t, some))

    -- The view of an arena in which a word was written.
    pub put : ((s : S) (w : List ℕ) → name (g.with_ready s w) ≡ name s) → (a : LentArena S g) (id at w : ℕ) (bytes new : List ℕ) →
        IsPlace (lent_view g name a).words id at → slice_get (allocated_bytes g a ∷ []) id ≡ Some bytes → length new ≡ length bytes →
        words_of new ≡ slice_set (words_of bytes) at w →
        lent_view g name (with_lent_bytes g a id new)
        ≡ record (lent_view g name a) { words = with_word (lent_view g name a).words id at w }
    put kept a zero at w bytes new h e l is =
        let same = lent_is a zero bytes e in
        with_lent_bytes-view g name kept a zero new
        ∙ ap (λ (W : List (List ℕ)). record (lent_view g name a) { words = W })
        (ap message (with_lent_bytes-segments g a zero (allocated_bytes g a) new refl (l ∙ ap length same))
        ∙ ap (λ v. v ∷ []) (is ∙ ap (λ bs. slice_set (words_of bs) at w) same))
    put kept a (suc id) at w bytes new h e l is = absurd (omega (arith, h))

    -- A place of the arena is in its only segment.
    pub place_inside : (a : LentArena S g) (id at : ℕ) → IsPlace (lent_view g name a).words id at → at < a.used
    place_inside a zero at h = omega (arith, h, allocated_words g a)
    place_inside a (suc k) at h = absurd (omega (arith, h))

    -- The view of an arena that has allocated more words.
    pub grown : (old new : LentArena S g) (amount at id : ℕ) → id < 1 → at ≡ old.used →
        words_of (allocated_bytes g new) ≡ words_of (allocated_bytes g old) ++ replicate amount 0 →
        new.refused ≡ old.refused → name new.bytes ≡ name old.bytes →
        length (g.ready new.bytes) ≡ length (g.ready old.bytes) →
        GrowsSegment (lent_view g name old) (lent_view g name new) amount id at
    grown old new amount at zero l e ws r m n = (
      e ∙ sym (allocated_words g old),
      λ i. view_of (ws i ∷ []) (λ k. get_or (min (n i / 8) max_segment_words ∷ []) k 0) (r i) (names (m i)),
    )
    grown old new amount at (suc k) l e ws r m n = absurd (omega arith)

    -- The arena has room in its only segment, or in none.
    pub first_is : (a : LentArena S g) (amount k : ℕ) → IsFirstFit (lent_view g name a) amount k → k ≡ 0
    first_is a amount zero h = refl
    first_is a amount (suc k) h = absurd (omega (arith, h.0))

    pub fits_room : (a : LentArena S g) (amount k : ℕ) → IsFirstFit (lent_view g name a) amount k →
        a.used + amount ≤ capacity_of g a
    fits_room a amount zero h = omega (arith, h.1, allocated_words g a)
    fits_room a amount (suc k) h = absurd (omega (arith, h.0))

    pub not_full : (a : LentArena S g) (amount : ℕ) → a.used + amount ≤ capacity_of g a →
        IsFull (lent_view g name a) amount → ⊥
    not_full a amount h full = omega (arith, full 0 (omega arith), h, allocated_words g a)
