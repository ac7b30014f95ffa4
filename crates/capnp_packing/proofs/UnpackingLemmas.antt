-- What packed bytes unpack to is the front of the bytes to come.
use Rattle.std.proofs.Common.{◌≡◌, ℕ, zero, suc, ◌+◌, ◌-◌, ◌*◌, ◌/◌, ◌%◌, ◌<◌, ◌≤◌, ◌≢◌, List, [], ◌∷◌, ◌++◌, replicate, length, take, Option, Some, None, refl, sym, ap, ◌∙◌, subst, arith, add-one, set, append_assoc, append-nil}
use Rattle.std.specs.Prelude.{if◌then◌else◌, cond, nat_eq, nat_lt, option_to_list, slice_index}
use Rattle.std.proofs.Math.Dec.{eqb-suc-zero}
use Rattle.std.specs.Io.KnownBytes.{Consumes, IsAtEnd, Keeps}
use Rattle.std.proofs.lemmas.Bool.{ne_eqb}
use Rattle.std.proofs.lemmas.Bool.Decides.{nat_tests}
use Rattle.std.proofs.lemmas.List.{replicate-append-replicate}
use Rattle.capnp_packing.specs.Packing.{GivesAndLeads, KeepsEnd, all_given, byte_given, bytes_behind, expanded, lead, ones, place_after, place_at_end, place_within, unpacked_bytes, zeros_given}
use Rattle.capnp_packing.specs.declared.packing.place.Place.{Place}
use Rattle.capnp_packing.specs.declared.packing.place.Place.TheVariants.{Tag, Kept, Zeros, Whole, Count, Raw}

-- From one state to the other, `bytes` are consumed from the bytes to come. In the first state
-- `due` zero bytes come first, and then what the packed bytes `old` unpack to from `place` on.
abbrev pub Unpacks : ℕ → Place → Option (List ℕ) → ℕ → Place → Option (List ℕ) → List ℕ → Type 0
Unpacks due place old more next new bytes =
    Consumes (bytes_behind due place old) (bytes_behind more next new) bytes × KeepsEnd place old next new

-- At most this many packed bytes in a row unpack to nothing, from a place on.
abbrev pub rank : Place → ℕ
rank Zeros = 2
rank Count = 2
rank Tag = 1
rank _ = 0

-- ---- packed bytes after others

pub unpacked-append : (place : Place) (xs ys : List ℕ)
    → unpacked_bytes place (xs ++ ys) ≡ unpacked_bytes place xs ++ unpacked_bytes (place_at_end place xs) ys
unfolding unpacked_bytes place_at_end
unpacked-append place [] ys = refl
unpacked-append place (b ∷ xs) ys =
    ap (λ l. all_given place b ++ l) (unpacked-append (place_after place b) xs ys)
    ∙ sym (append_assoc (all_given place b) (unpacked_bytes (place_after place b) xs) _)

pub place_at_end-append : (place : Place) (xs ys : List ℕ)
    → place_at_end place (xs ++ ys) ≡ place_at_end (place_at_end place xs) ys
unfolding place_at_end
place_at_end-append place [] ys = refl
place_at_end-append place (b ∷ xs) ys = place_at_end-append (place_after place b) xs ys

pub leads_none : (place : Place) → GivesAndLeads place [] [] 0 place
unfolding unpacked_bytes place_at_end
leads_none place = (refl, refl)

pub leads_more : (place next last : Place) (xs ys bytes more : List ℕ) (tail : ℕ)
    → GivesAndLeads place xs bytes 0 next → GivesAndLeads next ys more tail last → GivesAndLeads place (xs ++ ys) (bytes ++ more) tail last
leads_more place next last xs ys bytes more tail (a, b) (c, d) = (
  unpacked-append place xs ys ∙ rw (a, b, c, append-nil bytes) (sym (append_assoc bytes more (replicate tail 0))),
  place_at_end-append place xs ys ∙ rw b d,
)

-- ---- what is to come

front_given : (place next : Place) (xs ys bytes : List ℕ) (tail : ℕ) → GivesAndLeads place xs bytes tail next
    → unpacked_bytes place (xs ++ ys) ≡ bytes ++ (replicate tail 0 ++ unpacked_bytes next ys)
front_given place next xs ys bytes tail (a, b) =
    unpacked-append place xs ys ∙ rw (a, b) (append_assoc bytes (replicate tail 0) (unpacked_bytes next ys))

-- packed bytes are consumed
pub takes : (place next : Place) (xs bytes : List ℕ) (tail : ℕ) (old new : Option (List ℕ))
    → GivesAndLeads place xs bytes tail next → Consumes old new xs → Unpacks 0 place old tail next new bytes
takes place next xs bytes tail None new leads h = (tt, tt)
takes place next xs bytes tail (Some all) None leads h = absurd h
takes place next xs bytes tail (Some all) (Some rest) leads h = (
  ap (unpacked_bytes place) h ∙ front_given place next xs rest bytes tail leads,
  sym (ap (place_at_end place) h ∙ place_at_end-append place xs rest ∙ ap (λ p. place_at_end p rest) leads.1),
)

-- n zero bytes that are due are consumed
pub takes_zeros : (place : Place) (n due : ℕ) (known : Option (List ℕ)) → n ≤ due
    → Unpacks due place known (due - n) place known (replicate n 0)
takes_zeros place n due None l = (tt, tt)
takes_zeros place n due (Some packed) l =
    let e : n + (due - n) ≡ due = omega (arith, l) in (
      ap (λ m. replicate m 0 ++ unpacked_bytes place packed) (sym e)
          ∙ ap (λ l. l ++ unpacked_bytes place packed) (sym (replicate-append-replicate {A = ℕ} n (due - n) 0))
          ∙ append_assoc (replicate n 0) (replicate (due - n) 0) (unpacked_bytes place packed),
      refl,
    )

-- packed bytes stay unchanged
pub takes_none : (due : ℕ) (place : Place) (old new : Option (List ℕ)) → Keeps old new
    → Unpacks due place old due place new []
takes_none due place None new h = (tt, tt)
takes_none due place (Some xs) None h = absurd h
takes_none due place (Some xs) (Some ys) h =
    (ap (λ l. replicate due 0 ++ unpacked_bytes place l) (sym h), ap (place_at_end place) h)

pub unpacks_none : (due : ℕ) (place : Place) (known : Option (List ℕ)) → Unpacks due place known due place known []
unpacks_none due place None = (tt, tt)
unpacks_none due place (Some xs) = (refl, refl)

pub then_takes : (due more last : ℕ) (place next end : Place) (a b c : Option (List ℕ)) (xs ys : List ℕ)
    → Unpacks due place a more next b xs → Unpacks more next b last end c ys
    → Unpacks due place a last end c (xs ++ ys)
then_takes due more last place next end None b c xs ys p q = (tt, tt)
then_takes due more last place next end (Some a) None c xs ys p q = absurd p.0
then_takes due more last place next end (Some a) (Some b) None xs ys p q = absurd q.0
then_takes due more last place next end (Some a) (Some b) (Some c) xs ys p q = (
  p.0 ∙ ap (λ l. xs ++ l) q.0 ∙ sym (append_assoc xs ys _),
  q.1 ∙ p.1,
)

-- nothing is left
pub at_end : (due : ℕ) (place : Place) (known : Option (List ℕ)) → due ≡ 0 → IsAtEnd known
    → IsAtEnd (bytes_behind due place known)
unfolding unpacked_bytes
at_end due place None none e = tt
at_end due place (Some xs) none e = rw (none, e) refl

pub then_none : (due more last : ℕ) (place next end : Place) (a b c : Option (List ℕ)) (xs : List ℕ)
    → Unpacks due place a more next b xs → Unpacks more next b last end c [] → Unpacks due place a last end c xs
then_none due more last place next end a b c xs p q =
    subst (λ (l : List ℕ). Unpacks due place a last end c l) (append-nil xs)
    (then_takes due more last place next end a b c xs [] p q)

-- ---- one packed byte

pub leads_byte : (place : Place) (b : ℕ)
    → GivesAndLeads place (b ∷ []) (option_to_list (byte_given place b)) (zeros_given place b) (place_after place b)
unfolding unpacked_bytes place_at_end
leads_byte place b = (append-nil (all_given place b), refl)

pub byte_taken : (due more tail : ℕ) (first place next : Place) (all old mid new : Option (List ℕ)) (b : ℕ)
    (itself : Option ℕ) → more ≡ 0 → itself ≡ byte_given place b → tail ≡ zeros_given place b → next ≡ place_after place b
    → Unpacks due first all more place old [] → Keeps old mid → Consumes mid new (b ∷ [])
    → Unpacks due first all tail next new (option_to_list itself)
byte_taken due more tail first place next all old mid new b itself none i t n before kept taken =
    rw (i, t, n)
    (then_takes due 0 (zeros_given place b) first place (place_after place b) all mid new [] (option_to_list (byte_given place b))
    (then_none due 0 0 first place place all old mid [] (rw none at before) (takes_none 0 place old mid kept))
    (takes place (place_after place b) (b ∷ []) _ _ mid new (leads_byte place b) taken))

-- The most packed bytes in a row that unpack to nothing, if `due` zero bytes are due.
abbrev pub idle : ℕ → Place → ℕ
idle due place = cond (nat_eq due 0) (suc (rank place)) 0

pub take_one : (xs : List ℕ) (b : ℕ) → 0 < length xs → take 1 (set xs 0 b) ≡ b ∷ []
take_one [] b h = absurd (omega (arith, h))
take_one (x ∷ xs) b h = refl

-- ---- words copied unchanged

-- the place after `taken` of these bytes, if `left` come after the first of them
abbrev pub place_behind : ℕ → ℕ → Place
place_behind left taken = if nat_lt left taken then Tag else Raw (left - taken)

first_behind : (left : ℕ) → cond (nat_eq left 0) Tag (Raw (left - 1)) ≡ place_behind left 1
first_behind left = grind (arith, nat_tests)

behind_suc : (left n : ℕ) → place_behind (suc left) (suc n) ≡ place_behind left n
behind_suc left n = let d : suc left - suc n ≡ left - n = omega arith in rw d (grind (arith, nat_tests))

leads_one : (place next last : Place) (b : ℕ) (xs bytes : List ℕ) (tail : ℕ) → all_given place b ≡ b ∷ []
    → place_after place b ≡ next → GivesAndLeads next xs bytes tail last → GivesAndLeads place (b ∷ xs) (b ∷ bytes) tail last
unfolding unpacked_bytes place_at_end
leads_one place next last b xs bytes tail g n (p, q) = (rw (g, n) (ap (λ l. b ∷ l) p), rw n q)

pub leads_raw : (xs : List ℕ) (left : ℕ) → 0 < length xs → length xs ≤ left + 1
    → GivesAndLeads (Raw left) xs xs 0 (place_behind left (length xs))
leads_raw [] left some l = absurd (omega (arith, some))
leads_raw (b ∷ []) left some l =
    leads_one (Raw left) (place_behind left 1) (place_behind left 1) b [] [] 0 refl (first_behind left)
    (leads_none (place_behind left 1))
leads_raw (b ∷ c ∷ xs) zero some l = absurd (omega (arith, l))
leads_raw (b ∷ c ∷ xs) (suc left) some l =
    let e : suc left - 1 ≡ left = omega arith in
    let next : place_after (Raw (suc left)) b ≡ Raw left = rw (eqb-suc-zero left, e) refl in
    let same : place_behind (suc left) (length (b ∷ c ∷ xs)) ≡ place_behind left (length (c ∷ xs)) =
    behind_suc left (suc (length xs)) in
    leads_one (Raw (suc left)) (Raw left) _ b (c ∷ xs) (c ∷ xs) 0 refl next
    (rw same (leads_raw (c ∷ xs) left (omega arith) (omega (arith, l))))

pub takes_raw : (left n due : ℕ) (place next : Place) (old new : Option (List ℕ)) (xs : List ℕ) → due ≡ 0
    → place ≡ Raw left → next ≡ place_behind left n → length xs ≡ n → 0 < n → n ≤ left + 1 → Consumes old new xs
    → Unpacks due place old due next new xs
takes_raw left n due place next old new xs none is behind long some l h =
    rw (none, is, behind, ← long)
    (takes (Raw left) (place_behind left (length xs)) xs xs 0 old new
    (leads_raw xs left (omega (arith, long, some)) (omega (arith, long, l))) h)

pub leads_whole : (word more bytes : List ℕ) (n : ℕ) (place : Place) → length word ≡ suc n
    → GivesAndLeads Count more bytes 0 place → GivesAndLeads (Whole n) (word ++ more) (word ++ bytes) 0 place
leads_whole [] more bytes n place l h = absurd (omega (arith, l))
leads_whole (b ∷ []) more bytes zero place l h = leads_one (Whole 0) Count place b more bytes 0 refl refl h
leads_whole (b ∷ []) more bytes (suc n) place l h = absurd (omega (arith, l))
leads_whole (b ∷ c ∷ word) more bytes zero place l h = absurd (omega (arith, l))
leads_whole (b ∷ c ∷ word) more bytes (suc n) place l h =
    let e : suc n - 1 ≡ n = omega arith in
    let next : place_after (Whole (suc n)) b ≡ Whole n = rw (eqb-suc-zero n, e) refl in
    leads_one (Whole (suc n)) (Whole n) place b ((c ∷ word) ++ more) ((c ∷ word) ++ bytes) 0 refl next
    (leads_whole (c ∷ word) more bytes n place (omega (arith, l)) h)

-- the word after a tag of 255
pub full_word : (word more bytes : List ℕ) (place : Place) → length word ≡ 8 → GivesAndLeads Count more bytes 0 place
    → GivesAndLeads Tag (255 ∷ (word ++ more)) (word ++ bytes) 0 place
unfolding unpacked_bytes place_at_end
full_word word more bytes place l h = let whole = leads_whole word more bytes 7 place l h in (whole.0, whole.1)

pub count_none : (n : ℕ) → n ≡ 0 → GivesAndLeads Count (n ∷ []) [] 0 Tag
unfolding unpacked_bytes place_at_end
count_none n none = rw none (refl, refl)

pub count_some : (n : ℕ) → n ≢ 0 → GivesAndLeads Count (n ∷ []) [] 0 (Raw (8 * n - 1))
unfolding unpacked_bytes place_at_end
count_some n some = (refl, rw (ne_eqb n 0 some) refl)

behind_all : (left n : ℕ) → left < n → place_behind left n ≡ Tag
behind_all left n h = grind (arith, nat_tests)

pub leads_counted : (run : List ℕ) (n : ℕ) → length run ≡ 8 * n → GivesAndLeads Count (n ∷ run) run 0 Tag
unfolding unpacked_bytes place_at_end
leads_counted [] n l = let none : n ≡ 0 = omega (arith, l) in rw none (refl, refl)
leads_counted (b ∷ run) n l =
    let some : n ≢ 0 = λ none. absurd (omega (arith, l, none)) in
    let next : place_after Count n ≡ Raw (8 * n - 1) = rw (ne_eqb n 0 some) refl in
    let raw = leads_raw (b ∷ run) (8 * n - 1) (omega arith) (omega (arith, l)) in
    let last = behind_all (8 * n - 1) (length (b ∷ run)) (omega (arith, l)) in
    (ap (λ p. unpacked_bytes p (b ∷ run)) next ∙ raw.0, ap (λ p. place_at_end p (b ∷ run)) next ∙ raw.1 ∙ last)

pub leads_full : (word run : List ℕ) (n : ℕ) → length word ≡ 8 → length run ≡ 8 * n
    → GivesAndLeads Tag (255 ∷ (word ++ n ∷ run)) (word ++ run) 0 Tag
leads_full word run n l m = full_word word (n ∷ run) run Tag l (leads_counted run n m)

-- ---- a word after its tag

bit_below : (bits : ℕ) → bits % 2 < 2
bit_below bits = omega arith

-- packed bytes from a bit on unpack to the bytes of the word
abbrev Expands : ℕ → ℕ → List ℕ → Type 0
Expands n bits packed =
    (replicate (lead n bits) 0 ++ unpacked_bytes (place_within n bits) (take (ones n bits) packed) ≡ expanded n bits packed)
    × (place_at_end (place_within n bits) (take (ones n bits) packed) ≡ Tag)

expands_as : (first first' many many' : ℕ) (place place' : Place) (packed bytes bytes' : List ℕ) → first ≡ first'
    → place ≡ place' → many ≡ many' → bytes ≡ bytes'
    → (replicate first' 0 ++ unpacked_bytes place' (take many' packed) ≡ bytes') × (place_at_end place' (take many' packed) ≡ Tag)
    → (replicate first 0 ++ unpacked_bytes place (take many packed) ≡ bytes) × (place_at_end place (take many packed) ≡ Tag)
expands_as first first' many many' place place' packed bytes bytes' f p m b h = (rw (f, p, m, b) h.0, rw (p, m) h.1)

times_zero : (x : ℕ) → x * 0 ≡ 0
times_zero x = omega arith

times_one : (x : ℕ) → x * 1 ≡ x
times_one x = omega arith

expands_bit : (n bits r : ℕ) (packed : List ℕ) → bits % 2 ≡ r → ones (suc n) bits ≤ length packed
    → ((more : List ℕ) → ones n (bits / 2) ≤ length more → Expands n (bits / 2) more) → Expands (suc n) bits packed
unfolding unpacked_bytes place_at_end expanded ones
expands_bit n bits zero packed e l ih =
    let known = ih packed (omega (arith, l, e)) in
    expands_as _ (suc (lead n (bits / 2))) _ (ones n (bits / 2)) _ (place_within n (bits / 2)) packed _
    (0 ∷ expanded n (bits / 2) packed) (rw e (add-one (lead n (bits / 2)))) (rw e refl) (omega (arith, e))
    (rw (e, times_zero (slice_index packed 0)) refl) (ap (λ l. 0 ∷ l) known.0, known.1)
expands_bit n bits (suc zero) [] e l ih = absurd (omega (arith, l, e))
expands_bit n bits (suc zero) (b ∷ packed) e l ih =
    let known = ih packed (omega (arith, l, e)) in
    expands_as _ 0 _ (suc (ones n (bits / 2))) _ (Kept (bits / 2) n) (b ∷ packed) _
    (b ∷ expanded n (bits / 2) packed) (rw e refl) (rw e refl) (omega (arith, e))
    (rw (e, times_one b) refl) (ap (λ l. b ∷ l) known.0, known.1)
expands_bit n bits (suc (suc r)) packed e l ih = absurd (omega (arith, e, bit_below bits))

expands : (n bits : ℕ) (packed : List ℕ) → ones n bits ≤ length packed → Expands n bits packed
unfolding unpacked_bytes place_at_end expanded ones
expands zero bits packed l = (refl, refl)
expands (suc n) bits packed l = expands_bit n bits (bits % 2) packed refl l (λ more m. expands n (bits / 2) more m)

pub word_behind : (t : ℕ) → t ≢ 0 → t ≢ 255 → place_after Tag t ≡ place_within 8 t
word_behind t some few = rw (ne_eqb t 0 some, ne_eqb t 255 few) refl

pub leads_word : (t : ℕ) (packed : List ℕ) → t ≢ 0 → t ≢ 255 → ones 8 t ≤ length packed
    → GivesAndLeads Tag (t ∷ take (ones 8 t) packed) (expanded 8 t packed) 0 Tag
unfolding unpacked_bytes place_at_end
leads_word t packed some few l =
    let known = expands 8 t packed l in
    let next = word_behind t some few in (
      rw (ne_eqb t 0 some, ne_eqb t 255 few) (known.0 ∙ sym (append-nil (expanded 8 t packed))),
      ap (λ p. place_at_end p (take (ones 8 t) packed)) next ∙ known.1,
    )

-- ---- zero words

pub leads_zeros : (n m : ℕ) (bytes : List ℕ) → m ≤ 8 + 8 * n → bytes ≡ replicate m 0
    → GivesAndLeads Tag (0 ∷ n ∷ []) bytes (8 + 8 * n - m) Tag
unfolding unpacked_bytes place_at_end
leads_zeros n m bytes l is =
    let e : m + (8 + 8 * n - m) ≡ 8 + 8 * n = omega (arith, l) in (
      ap (λ l. replicate 8 0 ++ l) (append-nil (replicate (8 * n) 0))
          ∙ replicate-append-replicate {A = ℕ} 8 (8 * n) 0
          ∙ ap (λ k. replicate k 0) (sym e)
          ∙ sym (replicate-append-replicate {A = ℕ} m (8 + 8 * n - m) 0)
          ∙ ap (λ l. l ++ replicate (8 + 8 * n - m) 0) (sym is),
      refl,
    )
