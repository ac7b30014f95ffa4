-- The landing pads of moved pointers are zeroed.
use Rattle.std.proofs.Common.{◌≡◌, ◌≢◌, ◌⊎◌, inl, inr, ℕ, suc, ◌+◌, ◌<◌, cond, List, [], ◌∷◌, ◌++◌, sym, ap, ◌∙◌, subst, arith, ne_eqb}
use Rattle.capnp_format.specs.Word.{kind, is_double, far_position, upper_half}
use Rattle.capnp_format.specs.Segments.{Segments, word_at}
use Rattle.capnp_format.specs.Forest.{times, pads_of}
use Rattle.capnp_format.proofs.Frame.{times-append}
use Rattle.capnp_allocation.specs.Zeroed.{IsZeroed, PadsInside}
use Rattle.capnp_allocation.proofs.MadeWords.{is_far}
use Rattle.capnp_allocation.proofs.Zeros.{of_row, zeroed_again}
use Rattle.capnp_allocation.proofs.Extents.{once_held}
use Rattle.capnp_in_place.specs.Moved.{Move, new_places, fresh_pads, Unmoves}
use Rattle.capnp_in_place.proofs.MovedPointers.MovedInTurn.{SameMoves, same_fresh, fresh_pads-append, new_places-append, row_next}
use Rattle.capnp_in_place.proofs.WiderObjects.RemadeElsewhere.{own_pads}
use Rattle.capnp_in_place.proofs.WiderObjects.Statements.{old_places, a_move, row_moves}

old_places-append : (ms ns : List Move) (x y : ℕ) → times (old_places (ms ++ ns)) x y ≡ times (old_places ms) x y + times (old_places ns) x y
old_places-append [] ns x y = omega arith
old_places-append (m ∷ ms) ns x y = omega (arith, old_places-append ms ns x y)

-- Words that zeroing leaves.
same_left : (S M : Segments) (ms : List Move) → ((x y : ℕ) → (0 < times (old_places ms) x y) ⊎ (0 < times (new_places ms) x y) → word_at M x y ≡ word_at S x y) → SameMoves S M ms
same_left S M [] h = tt
same_left S M (m ∷ ms) h = (
  h m.from.segment m.from.at (inl (omega (arith, once_held m.from.segment m.from.at))),
  h m.to.segment m.to.at (inr (omega (arith, once_held m.to.segment m.to.at))),
  same_left S M ms (λ x y e. elim e [ inl l ↦ h x y (inl (omega arith)) | inr l ↦ h x y (inr (omega arith)) ]),
)

pub unmoves_both : (S M R : Segments) (ms ns : List Move) → Unmoves S M ms → Unmoves M R ns → Unmoves S R (ms ++ ns)
unmoves_both S M R ms ns f g = λ inside old_apart new_apart.
    (let all = fresh_pads-append S ms ns in
    let olds = old_places-append ms ns in
    let news = new_places-append ms ns in
    let a = f
    (λ x y l. inside x y (omega (arith, all x y)))
    (λ x y l. omega (arith, all x y, old_apart x y (omega (arith, olds x y))))
    (λ x y l. omega (arith, all x y, new_apart x y (omega (arith, news x y)))) in
    let same : SameMoves S M ns = same_left S M ns (λ x y e. elim e [
      | inl l ↦ a.kept x y (omega (arith, all x y, old_apart x y (omega (arith, olds x y))))
      | inr l ↦ a.kept x y (omega (arith, all x y, new_apart x y (omega (arith, news x y))))
    ]) in
    let fresh = same_fresh S M ns same in
    let pads = λ (x y : ℕ). ap (λ is. times is x y) fresh in
    let b = g
    (λ x y l. omega (arith, a.words x, inside x y (omega (arith, all x y, pads x y))))
    (λ x y l. omega (arith, pads x y, all x y, old_apart x y (omega (arith, olds x y))))
    (λ x y l. omega (arith, pads x y, all x y, new_apart x y (omega (arith, news x y)))) in
    zeroed_again S M R (fresh_pads S ms) (fresh_pads M ns) (fresh_pads S (ms ++ ns)) (λ x y. (λ l. omega (arith, all x y, pads x y), λ e. omega (arith, all x y, pads x y))) a b)

pub unmoves_next : (S M R : Segments) (s p v r k : ℕ) → Unmoves S M (row_moves s p v r k) → Unmoves M R (a_move s (p + k) v (r + k) ∷ []) → Unmoves S R (row_moves s p v r (k + 1))
unmoves_next S M R s p v r k f g =
    subst (λ n. Unmoves S R (row_moves s p v r n)) (let e : suc k ≡ k + 1 = omega arith in e)
    (subst (λ ms. Unmoves S R ms) (sym (row_next s p v r k)) (unmoves_both S M R (row_moves s p v r k) (a_move s (p + k) v (r + k) ∷ []) f g))

-- The pads of one pointer.
pub near_unmoved : (S R : Segments) (s p v r : ℕ) → kind (word_at S s p) ≢ 2 → (PadsInside S (word_at S v r) → IsZeroed S R (pads_of (word_at S v r))) → Unmoves S R (a_move s p v r ∷ [])
near_unmoved S R s p v r near f = λ inside old_apart new_apart.
    (let x = word_at S v r in
    let own : own_pads S (a_move s p v r) ≡ pads_of x = ap (λ b. cond b [] (pads_of x)) (ne_eqb (kind (word_at S s p)) 2 near) in
    let all = λ (y z : ℕ). (let e : times (fresh_pads S (a_move s p v r ∷ [])) y z ≡ times (pads_of x) y z = omega (arith, times-append (own_pads S (a_move s p v r)) [] y z, ap (λ is. times is y z) own) in e) in
    let fits : PadsInside S x = λ far.
    (let last = far_position x + is_double x in
    let held : times (pads_of x) (upper_half x) last ≡ 1 = ap (λ is. times is (upper_half x) last) (is_far x far) ∙ of_row (upper_half x) (far_position x) (1 + is_double x) last (omega arith) (omega arith) in
    omega (arith, inside (upper_half x) last (omega (arith, all (upper_half x) last, held)))) in
    let z = f fits in
    record { segments = z.segments; words = z.words; zero = λ y w l. z.zero y w (omega (arith, all y w)); kept = λ y w e. z.kept y w (omega (arith, all y w)) })
