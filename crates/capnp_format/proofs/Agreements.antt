-- The test for canonical form and the canonical copy agree, in both directions.
use Rattle.std.proofs.Common.{◌≡◌, ℕ, ◌<◌, ◌≤◌, List, [], ◌∷◌, ◌++◌, length, get_or, take, drop, refl, sym, ap, ap₂, ◌∙◌, arith, take_at, take-append-drop}
use Rattle.capnp_format.specs.Segments.{Segments, segment, AreWords}
use Rattle.capnp_format.specs.Tree.{Tree, depth, capabilities}
use Rattle.capnp_format.specs.Means.{Means}
use Rattle.capnp_format.specs.Canonical.{trim, body, pointer, encoding, charge, IsEncodable, Reaches, HasCanonicalAt}
use Rattle.capnp_format.proofs.Bounds.{means_value}
use Rattle.capnp_format.proofs.Levels.{one_value, other_levels, depth_within}
use Rattle.capnp_format.proofs.LawLemmas.{canonical_cost, canonical_again, trim_keeps}
use Rattle.capnp_format.proofs.Trimming.{trim-trim}
use Rattle.capnp_format.proofs.Unique.{for_offset, encoding_means, stands_means}

-- words that begin with x and then b
begins : (xs : List ℕ) (x : ℕ) (b : List ℕ) → 0 < length xs → get_or xs 0 0 ≡ x → take (length b) (drop 1 xs) ≡ b → xs ≡ (x ∷ b) ++ drop (length b) (drop 1 xs)
begins [] x b l e f = absurd (omega arith)
begins (y ∷ ys) x b l e f = ap₂ (λ i is. i ∷ is) e (sym (take-append-drop (length b) ys) ∙ ap (λ zs. zs ++ drop (length b) ys) f)

pub tested_is_copied : (S : Segments) (n c : ℕ) (t u : Tree) → HasCanonicalAt S 0 0 1 t → Means S n 0 0 u c → (capabilities u ≡ 0) × (more : List ℕ) × (segment S 0 ≡ encoding (trim u) ++ more)
tested_is_copied S n c t u a m =
    let there : 1 ≤ length (segment S 0) = omega (arith, a.0) in
    let same = (one_value S n (depth t) 0 0 u t c (charge t) m (stands_means S (depth t) 0 0 1 t (omega arith) there a)).0 in
    let kept : trim u ≡ t = ap trim same ∙ a.2 in
    let more : List ℕ = drop (length (body t)) (drop 1 (segment S 0)) in
    (ap capabilities same ∙ a.3, more, begins (segment S 0) (pointer t 0) (body t) there a.5.1 a.5.2 ∙ ap (λ x. encoding x ++ more) (sym kept))

pub copied_is_found : (S : Segments) (n s p c : ℕ) (t : Tree) (more : List ℕ) → AreWords S → Means S n s p t c → capabilities t ≡ 0 → IsEncodable (trim t) →
    HasCanonicalAt ((encoding (trim t) ++ more) ∷ []) 0 0 1 (trim t) × Means ((encoding (trim t) ++ more) ∷ []) n 0 0 (trim t) (charge (trim t)) × (charge (trim t) ≤ c) × (depth (trim t) ≤ n)
copied_is_found S n s p c t more w m free f =
    let k = trim_keeps t (means_value S n s p t c w m) in
    let b : List ℕ = body (trim t) in
    let fits : depth (trim t) ≤ n = omega (arith, k.2, depth_within t (record { means = m })) in (
      (omega arith, k.0, trim-trim t, k.3 ∙ free, f, (for_offset (trim t) (Reaches 0 1) (omega arith, omega arith), refl, take_at b more (length b) refl)),
      other_levels n (trim t) fits (record { means = encoding_means (trim t) more k.0 f }),
      canonical_cost S n s p t c w m,
      fits,
    )

pub copied_again : (S : Segments) (n s p c m e : ℕ) (t u : Tree) (more : List ℕ) → AreWords S → Means S n s p t c → capabilities t ≡ 0 → IsEncodable (trim t) → Means ((encoding (trim t) ++ more) ∷ []) m 0 0 u e →
    (capabilities u ≡ 0) × (encoding (trim u) ≡ encoding (trim t))
copied_again S n s p c i e t u more w m free f h =
    let v = means_value S n s p t c w m in
    let k = trim_keeps t v in
    let same = one_value ((encoding (trim t) ++ more) ∷ []) i (depth (trim t)) 0 0 u (trim t) e (charge (trim t)) h (encoding_means (trim t) more k.0 f) in
    (ap capabilities same.0 ∙ k.3 ∙ free, canonical_again t u more i e v f h)
