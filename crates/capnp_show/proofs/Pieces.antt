-- The pieces of an array, each with the comma before it.
use Rattle.std.proofs.Common.{◌≡◌, ◌≢◌, Bool, ℕ, zero, suc, ◌+◌, ◌<◌, List, [], ◌∷◌, ◌++◌, length, map, get_or, drop, refl, sym, ap, ap₂, ◌∙◌, arith, add-one}
use Rattle.std.specs.Prelude.{codes}
use Rattle.std.specs.List.{join_with_byte}
use Rattle.std.proofs.lemmas.List.{drop_more}
use Rattle.capnp_show.specs.Shown.{array_begin, comma, cut_text}
use Rattle.capnp_show.proofs.Arrays.{more, joined}

-- The pieces xs of an array, the first of them number i.
abbrev pub pieces : ℕ → List (List ℕ) → List ℕ
pieces zero xs = join_with_byte 44 xs
pieces (suc i) xs = more xs

pub no_pieces : (i : ℕ) → pieces i [] ≡ []
no_pieces zero = refl
no_pieces (suc i) = refl

pub next_piece : (i : ℕ) (x : List ℕ) (xs : List (List ℕ)) → pieces i (x ∷ xs) ≡ comma i ++ (x ++ pieces (suc i) xs)
next_piece zero x xs = joined x xs
next_piece (suc i) x xs = refl

pub comma_some : (i : ℕ) → i ≢ 0 → comma i ≡ codes ","
comma_some zero some = absurd (some refl)
comma_some (suc i) some = refl

-- What f writes of number i, which is n, and of those after it.
pub number_next : (f : ℕ → List ℕ) (ns : List ℕ) (i n : ℕ) → i < length ns → n ≡ get_or ns i 0 → pieces i (map f (drop i ns)) ≡ comma i ++ (f n ++ pieces (i + 1) (map f (drop (i + 1) ns)))
number_next f ns i n inside is =
    ap (λ zs. pieces i (map f zs)) (drop_more ns i 0 inside)
    ∙ next_piece i (f (get_or ns i 0)) (map f (drop (i + 1) ns))
    ∙ ap₂ (λ k m. comma i ++ (f m ++ pieces k (map f (drop (i + 1) ns)))) (sym (add-one i)) (sym is)

pub cut_some : (b : Bool) (n : ℕ) → 0 < n → cut_text b n ≡ codes "\"cut\":\"depth\"}"
cut_some b zero some = absurd (omega arith)
cut_some b (suc n) some = refl

pub cut_none : (b : Bool) (n : ℕ) → n ≡ 0 → cut_text b n ≡ array_begin b ++ codes "]}"
cut_none b zero none = refl
cut_none b (suc n) none = absurd (omega arith)
