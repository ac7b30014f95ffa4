-- What arguments ask for, one after the other.
use Rattle.std.proofs.Common.{◌≡◌, ◌∙◌, ℕ, zero, suc, ◌+◌, ◌^◌, ◌<◌, ◌≤◌, ℤ, List, [], ◌∷◌, ◌++◌, Bool, true, false, ◌&&◌, Option, Some, None, Result, Ok, Err}
use Rattle.std.proofs.Common.{String, Global, codes, length, map, string_bytes}
use Rattle.std.proofs.Common.{ap, sym, subst, refl, arith, take, add-one}
use Rattle.std.specs.Int.Signed.{mag}
use Rattle.std.specs.Prelude.{IfSome, IsNone, if◌then◌else◌, nat_lt}
use Rattle.std.specs.Str.{all_ascii_digits, bytes_eq}
use Rattle.std.specs.Str.Parse.{IsNumeral, digits_value}
use Rattle.std.proofs.lemmas.Bool.{lt-ltb, ltb-true}
use Rattle.std.proofs.lemmas.List.{length-map}
use Rattle.std.proofs.lemmas.Slice.Eq.{bytes_eq-Decides}
use Rattle.std.proofs.lemmas.Str.Parse.{numerals_by_value, tells_all_ascii_digits}
use Rattle.capnp_messages.specs.Text.{IsBudget, IsNesting}
use Rattle.std.specs.List.{after_first, before_first, position_or_len}
use Rattle.capnp_streams.specs.Arguments.{argument_step, budget_of, end_of, files_after, files_from, is_equals, located, nesting_of, no_arguments}
use Rattle.capnp_streams.specs.Arguments.{request_after, request_from, request_of, signed_value, unsigned_text}
use Rattle.capnp_streams.specs.Paths.{is_numeral}
use Rattle.capnp_streams.specs.declared.streams.arguments.ArgumentFault.{ArgumentFault}
use Rattle.capnp_streams.specs.declared.streams.arguments.ParsedArguments.{ParsedArguments}
use Rattle.capnp_streams.specs.declared.streams.arguments.ArgumentStep.{ArgumentStep}
use Rattle.capnp_streams.specs.declared.streams.arguments.ArgumentStep.TheVariants.{Goes, File, Stops}
use Rattle.capnp_streams.specs.declared.streams.task.Request.{Request}
use Rattle.capnp_streams.specs.declared.streams.task.WrongArgument.{WrongArgument}

-- tests that hold, and ones that don't
pub both_true : (a b : Bool) → (a && b) ≡ true → (a ≡ true) × (b ≡ true)
both_true true b is = (refl, is)
both_true false b is = absurd (let wrong : false ≡ true = is in cc)

not_true : (b : Bool) → (b ≡ true → ⊥) → b ≡ false
not_true true never = absurd (never refl)
not_true false never = refl

pub chosen_none : {A : Type 0} (b : Bool) (x : A) → (b ≡ true → ⊥) → (if b then Some x else None) ≡ None
chosen_none true x never = absurd (never refl)
chosen_none false x never = refl

-- a numeral, by its test
pub is_numeral_true : (text : List ℕ) → IsNumeral 10 text → is_numeral text ≡ true
is_numeral_true text (some, digits) =
    let long : nat_lt 0 (length text) ≡ true = lt-ltb 0 (length text) some in
    let all : all_ascii_digits text ≡ true = (numerals_by_value _ tells_all_ascii_digits).from text digits in
    rw (long, all)

pub numeral_by_test : (text : List ℕ) → is_numeral text ≡ true → IsNumeral 10 text
numeral_by_test text is =
    let tests = both_true (nat_lt 0 (length text)) (all_ascii_digits text) is in
    (ltb-true 0 (length text) tests.0, (numerals_by_value _ tells_all_ascii_digits).to text tests.1)

-- the word `none` isn't a number
no_numeral : IsNumeral 10 (codes "none") → ⊥
no_numeral (some, digits) = omega (arith, digits.0)

-- the nesting limit that a text writes is the one that is read from it
nesting_read : (text : List ℕ) (n : ℤ) → IsNesting text n → nesting_of text ≡ Some n
nesting_read text n (numeral, is, fits) =
    let digits : is_numeral (unsigned_text text) ≡ true = is_numeral_true (unsigned_text text) numeral in
    let small : nat_lt (mag (signed_value text)) (2 ^ 31) ≡ true =
    lt-ltb (mag (signed_value text)) (2 ^ 31) (subst (λ (z : ℤ). mag z < 2 ^ 31) is fits.sfits) in
    rw (digits, small) (ap (λ (z : ℤ). Some z) (sym is))

nesting_unread : (text : List ℕ) → ((n : ℤ) → IsNesting text n → ⊥) → nesting_of text ≡ None
nesting_unread text none =
    chosen_none (is_numeral (unsigned_text text) && nat_lt (mag (signed_value text)) (2 ^ 31)) (signed_value text) λ is.
    let tests = both_true (is_numeral (unsigned_text text)) (nat_lt (mag (signed_value text)) (2 ^ 31)) is in
    none (signed_value text)
    (numeral_by_test (unsigned_text text) tests.0, refl, record { sfits = ltb-true (mag (signed_value text)) (2 ^ 31) tests.1 })

pub nesting_same : (text : List ℕ) (r : Option ℤ) → IfSome r (λ n. IsNesting text n) →
    (IsNone r → (n : ℤ) → IsNesting text n → ⊥) → r ≡ nesting_of text
nesting_same text (Some n) is none = sym (nesting_read text n is)
nesting_same text None is none = sym (nesting_unread text (none refl))

-- and so is the traversal limit
budget_read : (text : List ℕ) (n : Option ℕ) → IsBudget text n → budget_of text ≡ Some n
budget_read text None is =
    let word : bytes_eq text (codes "none") ≡ true = (bytes_eq-Decides text (codes "none")).1 is in
    rw word
budget_read text (Some n) (numeral, is, small) =
    let no_word : bytes_eq text (codes "none") ≡ false =
    not_true (bytes_eq text (codes "none")) (λ word. no_numeral (subst (IsNumeral 10) ((bytes_eq-Decides text (codes "none")).0 word) numeral)) in
    let digits : is_numeral text ≡ true = is_numeral_true text numeral in
    let below : nat_lt (digits_value 10 text) (2 ^ 64) ≡ true =
    lt-ltb (digits_value 10 text) (2 ^ 64) (subst (λ (k : ℕ). k < 2 ^ 64) is small) in
    rw (no_word, digits, below) (ap (λ (k : ℕ). Some (Some k)) (sym is))

budget_unread : (text : List ℕ) → ((n : Option ℕ) → IsBudget text n → ⊥) → budget_of text ≡ None
budget_unread text none =
    let no_word : bytes_eq text (codes "none") ≡ false =
    not_true (bytes_eq text (codes "none")) (λ word. none None ((bytes_eq-Decides text (codes "none")).0 word)) in
    let no_number : (if is_numeral text && nat_lt (digits_value 10 text) (2 ^ 64) then Some (Some (digits_value 10 text)) else None) ≡ None =
    chosen_none (is_numeral text && nat_lt (digits_value 10 text) (2 ^ 64)) (Some (digits_value 10 text)) (λ is.
    let tests = both_true (is_numeral text) (nat_lt (digits_value 10 text) (2 ^ 64)) is in
    none (Some (digits_value 10 text)) (numeral_by_test text tests.0, refl, ltb-true (digits_value 10 text) (2 ^ 64) tests.1)) in
    rw no_word no_number

pub budget_same : (text : List ℕ) (r : Option (Option ℕ)) → IfSome r (λ n. IsBudget text n) →
    (IsNone r → (n : Option ℕ) → IsBudget text n → ⊥) → r ≡ budget_of text
budget_same text (Some n) is none = sym (budget_read text n is)
budget_same text None is none = sym (budget_unread text (none refl))

-- the texts of an argument and of those after it
texts : {args more : List (String Global)} {arg : String Global} {text : List ℕ} →
    args ≡ arg ∷ more → string_bytes arg ≡ text → map string_bytes args ≡ text ∷ map string_bytes more
texts {more = more} same named =
    ap (map string_bytes) same ∙ ap (λ (x : List ℕ). x ∷ map string_bytes more) named

-- arguments that begin with one of this text, and its step
module _ {args more : List (String Global)} {arg : String Global} {text : List ℕ} (line : ParsedArguments) (step : Result ArgumentStep ArgumentFault)
    (same : args ≡ arg ∷ more) (named : string_bytes arg ≡ text) (is : step ≡ argument_step text line) where
  -- what they ask for, and the files among them
  pub request_stepped : (at : ℕ) → request_from line at (map string_bytes args)
      ≡ request_after step line at (λ next. request_from next (at + 1) (map string_bytes more))
  request_stepped at =
      ap (request_from line at) (texts same named)
      ∙ ap (λ (s : Result ArgumentStep ArgumentFault). request_after s line at (λ next. request_from next (at + 1) (map string_bytes more))) (sym is)

  pub files_stepped : files_from line (map string_bytes args)
      ≡ files_after step text line (λ next. files_from next (map string_bytes more))
  files_stepped =
      ap (files_from line) (texts same named)
      ∙ ap (λ (s : Result ArgumentStep ArgumentFault). files_after s text line (λ next. files_from next (map string_bytes more))) (sym is)

-- a wrong argument isn't one of the earlier ones
made_at : (at : ℕ) (fault : ArgumentFault) (w : WrongArgument) →
    ◌≡◌ {A = Result Request WrongArgument} (Err (record { at = at; fault = fault })) (Err w) → w.at ≡ at
made_at at fault w is =
    let made : WrongArgument = record { at = at; fault = fault } in
    let same : made ≡ w = cc in
    ap (λ (x : WrongArgument). x.at) (sym same)

no_error : {A : Type 0} (r : Request) (w : WrongArgument) → ◌≡◌ {A = Result Request WrongArgument} (Ok r) (Err w) → A
no_error r w is = absurd cc

located_at : (at : ℕ) (r : Result Request ArgumentFault) (w : WrongArgument) → located at r ≡ Err w → w.at ≡ at
located_at at (Ok r) w is = no_error r w is
located_at at (Err fault) w is = made_at at fault w is

wrong_step : (line : ParsedArguments) (at : ℕ) (more : List (List ℕ)) (w : WrongArgument) (step : Result ArgumentStep ArgumentFault) →
    ((next : ParsedArguments) → request_from next (at + 1) more ≡ Err w → at + 1 ≤ w.at) →
    request_after step line at (λ next. request_from next (at + 1) more) ≡ Err w → at ≤ w.at
wrong_step line at more w (Ok (Goes next)) later is = let there = later next is in omega arith
wrong_step line at more w (Ok File) later is = let there = later line is in omega arith
wrong_step line at more w (Ok (Stops r)) later is = no_error r w is
wrong_step line at more w (Err fault) later is = let there = made_at at fault w is in omega arith

wrong_from : (line : ParsedArguments) (at : ℕ) (texts : List (List ℕ)) (w : WrongArgument) → request_from line at texts ≡ Err w → at ≤ w.at
wrong_from line at [] w is = let there = located_at at (end_of line) w is in omega arith
wrong_from line at (text ∷ more) w is =
    wrong_step line at more w (argument_step text line) (λ next later. wrong_from next (at + 1) more w later) is

-- what follows it changes nothing
module _ (at : ℕ) (more behind : List (List ℕ)) (w : WrongArgument) where
  Follows : ParsedArguments → Type 0
  Follows next = (n : ℕ) → w.at ≡ at + 1 + n → n < length more → request_from next (at + 1) more ≡ Err w →
      request_from next (at + 1) (take (n + 1) more ++ behind) ≡ Err w

  wrong_next : (next : ParsedArguments) → Follows next → request_from next (at + 1) more ≡ Err w →
      (n : ℕ) → w.at ≡ at + n → n < suc (length more) → request_from next (at + 1) (take n more ++ behind) ≡ Err w
  unfolding Follows
  wrong_next next later is zero there within =
      let beyond = wrong_from next (at + 1) more w is in absurd (omega arith)
  wrong_next next later is (suc n) there within =
      subst (λ (k : ℕ). request_from next (at + 1) (take k more ++ behind) ≡ Err w) (add-one n)
      (later n (omega arith) (omega arith) is)

  wrong_step_with : (line : ParsedArguments) (step : Result ArgumentStep ArgumentFault) → ((next : ParsedArguments) → Follows next) →
      request_after step line at (λ next. request_from next (at + 1) more) ≡ Err w →
      (n : ℕ) → w.at ≡ at + n → n < suc (length more) →
      request_after step line at (λ next. request_from next (at + 1) (take n more ++ behind)) ≡ Err w
  wrong_step_with line (Ok (Goes next)) later is n there within = wrong_next next (later next) is n there within
  wrong_step_with line (Ok File) later is n there within = wrong_next line (later line) is n there within
  wrong_step_with line (Ok (Stops r)) later is n there within = no_error r w is
  wrong_step_with line (Err fault) later is n there within = is

wrong_with : (line : ParsedArguments) (at : ℕ) (texts behind : List (List ℕ)) (w : WrongArgument) → (n : ℕ) → w.at ≡ at + n →
    n < length texts → request_from line at texts ≡ Err w → request_from line at (take (n + 1) texts ++ behind) ≡ Err w
unfolding Follows
wrong_with line at [] behind w n there within is = absurd (omega arith)
wrong_with line at (text ∷ more) behind w n there within is =
    rw (add-one n) (wrong_step_with at more behind w line (argument_step text line)
    (λ next m later short more_is. wrong_with next (at + 1) more behind w m later short more_is) is n there within)

pub first_is_wrong : (args : List (String Global)) (w : WrongArgument) → request_of (map string_bytes args) ≡ Err w →
    w.at < length args → (behind : List (List ℕ)) → request_of (take (w.at + 1) (map string_bytes args) ++ behind) ≡ Err w
first_is_wrong args w is within behind =
    let short : w.at < length (map string_bytes args) = omega (arith, length-map args string_bytes) in
    wrong_with no_arguments 0 (map string_bytes args) behind w w.at (omega arith) short is

-- a text with a `=` is taken apart there
pub taken_apart : {A : Type 0} (f : List ℕ → List ℕ → A) (otherwise : A) (text name value : List ℕ) →
    position_or_len is_equals text < length text → name ≡ before_first is_equals text → value ≡ after_first is_equals text →
    f name value ≡ (if nat_lt (position_or_len is_equals text) (length text) then f (before_first is_equals text) (after_first is_equals text) else otherwise)
taken_apart f otherwise text name value some first last =
    let there : nat_lt (position_or_len is_equals text) (length text) ≡ true = lt-ltb _ _ some in
    rw (there, first, last) refl
