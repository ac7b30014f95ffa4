-- Places added one after another.
use Rattle.std.proofs.Common.{◌≡◌, ℕ, zero, suc, ◌+◌, ◌*◌, [], ◌++◌, refl, sym, ap, ◌∙◌, arith, append_assoc, append-nil}
use Rattle.layout_vectors.specs.Spots.{spots, element_spots}

pub spots_more : (s p i : ℕ) → spots s p (i + 1) ≡ spots s p i ++ spots s (p + i) 1
spots_more s p i = ap (spots s p) (let e : i + 1 ≡ suc i = omega arith in e) ∙ go p i
  where
    go : (p i : ℕ) → spots s p (suc i) ≡ spots s p i ++ spots s (p + i) 1
    go p zero = ap (λ q. spots s q 1) (let e : p ≡ p + 0 = omega arith in e)
    go p (suc i) = ap (λ J. spots s p 1 ++ J) (go (p + 1) i ∙ ap (λ q. spots s (p + 1) i ++ spots s q 1) (let e : p + 1 + i ≡ p + suc i = omega arith in e))

pub element_spots_more : (s p d q i : ℕ) → element_spots s p d q (i + 1) ≡ element_spots s p d q i ++ spots s (p + i * (d + q) + d) q
element_spots_more s p d q i = ap (element_spots s p d q) (let e : i + 1 ≡ suc i = omega arith in e) ∙ go p i
  where
    go : (p i : ℕ) → element_spots s p d q (suc i) ≡ element_spots s p d q i ++ spots s (p + i * (d + q) + d) q
    go p zero = append-nil (spots s (p + d) q) ∙ ap (λ r. spots s r q) (let e : p + d ≡ p + 0 * (d + q) + d = omega arith in e)
    go p (suc i) =
        ap (λ J. spots s (p + d) q ++ J) (go (p + d + q) i ∙ ap (λ r. element_spots s (p + d + q) d q i ++ spots s r q) (let e : p + d + q + i * (d + q) + d ≡ p + suc i * (d + q) + d = omega arith in e))
        ∙ sym (append_assoc (spots s (p + d) q) (element_spots s (p + d + q) d q i) (spots s (p + suc i * (d + q) + d) q))

pub element_spots_none : (s p d n : ℕ) → element_spots s p d 0 n ≡ []
element_spots_none s p d zero = refl
element_spots_none s p d (suc n) = element_spots_none s (p + d + 0) d n
