-- Texts and data are there, if the place means a list of bytes, and the limiter covers its cost.
use Rattle.std.proofs.Common.{◌≡◌, ℕ, ◌-◌, ◌<◌, Bool, not, ◌||◌, nat_eq, cond, get_or, Some, None, refl, sym, ap, ap₂, ◌∙◌, arith, eq-eqb}
use Rattle.std.proofs.lemmas.Bool.{ne_eqb}
use Rattle.capnp_words.specs.Meter.{Meter, Affords}
use Rattle.capnp_words.specs.declared.error.ErrorKind.{ErrorKind}
use Rattle.capnp_words.specs.declared.error.ErrorKind.TheVariants.{MessageContainsTextThatIsNotNULTerminated}
use Rattle.capnp_format.specs.Numbers.{unpacked, words_for}
use Rattle.capnp_format.specs.Segments.{Target, words_at}
use Rattle.capnp_format.specs.Tree.{Tree, Null, Capability, Struct, Flat, Pointers, Structs}
use Rattle.capnp_format.specs.Word.{kind, element_size, list_count}
use Rattle.capnp_pointers.specs.Expected.{text_expected, data_expected, HasExpected, null_pointer, fitting}
use Rattle.capnp_pointers.specs.Outcomes.{MeansThere}
use Rattle.capnp_pointers.specs.Reading.{Reading}
use Rattle.capnp_readers.specs.Values.{IsBytes, IsText}
use Rattle.capnp_readers.proofs.Given.{entered_value}

-- the kind of a list of bytes is the expected one
byte_kind : (k j : ErrorKind) (n m : ℕ) → n ≡ 1 → m ≡ 2 → cond (nat_eq n 1) (cond (nat_eq m 2) None (Some k)) (Some j) ≡ None
byte_kind k j n m one two = ap (λ b. cond b (cond (nat_eq m 2) None (Some k)) (Some j)) (eq-eqb n 1 one) ∙ ap (λ b. cond b None (Some k)) (eq-eqb m 2 two)

pub data_suits : (r : Reading) (t : Tree) (c : ℕ) (m : Meter) → IsBytes t → MeansThere r t c → Affords r.charging m c → HasExpected data_expected r m
data_suits r (Flat size ns) c m is means covers =
    let a : Target = means.0 in
    let at = means.3 in
    fitting a refl (byte_kind _ _ (kind a.word) (element_size a.word) at.is_list (at.is_size ∙ is)) (entered_value r (Flat size ns) c m a at.leads_to (omega (arith, at.is_list)) means covers) refl
data_suits r Null c m is means covers = null_pointer means.0
data_suits r (Capability i) c m is means covers = absurd is
data_suits r (Struct ws ts) c m is means covers = absurd is
data_suits r (Pointers ts) c m is means covers = absurd is
data_suits r (Structs d q es) c m is means covers = absurd is

pub text_suits : (r : Reading) (t : Tree) (c : ℕ) (m : Meter) → IsText t → MeansThere r t c → Affords r.charging m c → HasExpected text_expected r m
text_suits r (Flat size ns) c m is means covers =
    let a : Target = means.0 in
    let at = means.3 in
    let n : ℕ = list_count a.word in
    let some : 0 < n = omega (arith, at.counts, is.1) in
    let numbers : ns ≡ unpacked 2 n (words_at r.segments a.segment a.start (words_for 2 n)) = (let there = rw is.0 at means.5 in rw at.counts there) in
    let last : get_or (unpacked 2 n (words_at r.segments a.segment a.start (words_for 2 n))) (n - 1) 0 ≡ 0 =
    ap₂ (λ xs i. get_or xs i 0) (sym numbers) (ap (λ i. i - 1) at.counts) ∙ is.2 in
    fitting a refl (byte_kind _ _ (kind a.word) (element_size a.word) at.is_list (at.is_size ∙ is.0))
    (entered_value r (Flat size ns) c m a at.leads_to (omega (arith, at.is_list)) means covers)
    (ap₂ (λ (b d : Bool). cond (b || not d) (Some MessageContainsTextThatIsNotNULTerminated) None) (ne_eqb n 0 (λ e. omega (arith, e, some))) (eq-eqb _ 0 last))
text_suits r Null c m is means covers = null_pointer means.0
text_suits r (Capability i) c m is means covers = absurd is
text_suits r (Struct ws ts) c m is means covers = absurd is
text_suits r (Pointers ts) c m is means covers = absurd is
text_suits r (Structs d q es) c m is means covers = absurd is
