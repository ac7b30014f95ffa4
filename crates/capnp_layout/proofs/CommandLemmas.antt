-- One word is a command; three words are a command and its limits.
use Rattle.std.proofs.Common.{◌≡◌, ◌∙◌, ◌<◌, ◌≤◌, ℕ, List, [], ◌∷◌, Option, Some, None, IfSome, String, Global, codes, length, map, slice_index_or, string_bytes, refl, ap, sym, subst, arith}
use Rattle.capnp_arena.specs.declared.arena.reader_arena_impl.ReaderOptions.{ReaderOptions}
use Rattle.capnp_layout.specs.Arguments.{AreArguments, IsCommand, IsNamed, IsNamedAlone}
use Rattle.capnp_messages.specs.Text.{IsBudget, IsNesting}
use Rattle.capnp_layout.specs.declared.tool.args.Args.{Args}
use Rattle.capnp_layout.specs.declared.tool.args.Args.TheVariants.{Canon, Check, Size, Frame, Unframe, FramedCanon, FramedCheck}

-- The words are a command, and the nesting limit and the budget of a reader's options.
pub record IsRead (words : List (String Global)) (command nesting budget : String Global) (options : ReaderOptions) : Type 0 where
  pub all : words ≡ command ∷ nesting ∷ budget ∷ []
  pub is_nesting : IsNesting (string_bytes nesting) options.nesting_limit
  pub is_budget : IsBudget (string_bytes budget) options.traversal_limit_in_words

is_command : {words : List (String Global)} {command nesting budget : String Global} {limits : ReaderOptions} (name : List ℕ) (options : ReaderOptions) → IsRead words command nesting budget limits → string_bytes command ≡ name → options ≡ limits
    → IsCommand name (map string_bytes words) options
is_command {words} {command} {nesting} {budget} name options read named same =
    subst (IsCommand name (map string_bytes words)) (sym same) (
      string_bytes nesting,
      string_bytes budget,
      ap (map string_bytes) read.all ∙ ap (λ (x : List ℕ). x ∷ string_bytes nesting ∷ string_bytes budget ∷ []) named,
      read.is_nesting,
      read.is_budget,
    )

-- what a name requests within limits is what the words request
are_arguments : {words : List (String Global)} {command nesting budget : String Global} {limits : ReaderOptions} → IsRead words command nesting budget limits → (a : Args) → IsNamed (string_bytes command) limits a → AreArguments (map string_bytes words) a
are_arguments read (Canon o) (named, same) = is_command (codes "canon") o read named same
are_arguments read (Check o) (named, same) = is_command (codes "check") o read named same
are_arguments read (Size o) (named, same) = is_command (codes "size") o read named same
are_arguments read Frame named = absurd named
are_arguments read Unframe named = absurd named
are_arguments read (FramedCanon o) (named, same) = is_command (codes "framed-canon") o read named same
are_arguments read (FramedCheck o) (named, same) = is_command (codes "framed-check") o read named same

pub limited_read : {words : List (String Global)} {command nesting budget : String Global} {limits : ReaderOptions} (result : Option Args) → IsRead words command nesting budget limits → IfSome result (IsNamed (string_bytes command) limits) → IfSome result (λ a. AreArguments (map string_bytes words) a)
limited_read (Some a) read named = are_arguments read a named
limited_read None read named = tt

-- three words request no other command
of_three : (name nesting budget : List ℕ) (a : Args) → AreArguments (name ∷ nesting ∷ budget ∷ []) a → (limits : ReaderOptions) × IsNamed name limits a
of_three name nesting budget (Canon o) (n, b, e, nesting', budget') = (o, (let same : name ≡ codes "canon" = cc in same, refl))
of_three name nesting budget (Check o) (n, b, e, nesting', budget') = (o, (let same : name ≡ codes "check" = cc in same, refl))
of_three name nesting budget (Size o) (n, b, e, nesting', budget') = (o, (let same : name ≡ codes "size" = cc in same, refl))
of_three name nesting budget Frame e = absurd (cc)
of_three name nesting budget Unframe e = absurd (cc)
of_three name nesting budget (FramedCanon o) (n, b, e, nesting', budget') = (o, (let same : name ≡ codes "framed-canon" = cc in same, refl))
of_three name nesting budget (FramedCheck o) (n, b, e, nesting', budget') = (o, (let same : name ≡ codes "framed-check" = cc in same, refl))

pub limited_none : {words : List (String Global)} {command nesting budget : String Global} → words ≡ command ∷ nesting ∷ budget ∷ [] → ((a : Args) (limits : ReaderOptions) → IsNamed (string_bytes command) limits a → ⊥) → (a : Args) → AreArguments (map string_bytes words) a → ⊥
limited_none {command = command} {nesting = nesting} {budget = budget} all none a asked =
    let (limits, named) = of_three (string_bytes command) (string_bytes nesting) (string_bytes budget) a (subst (λ (ws : List (List ℕ)). AreArguments ws a) (ap (map string_bytes) all) asked) in
    none a limits named

-- nor does one word
of_one : (name : List ℕ) (a : Args) → AreArguments (name ∷ []) a → IsNamedAlone name a
of_one name (Canon o) (n, b, e, nesting', budget') = absurd (cc)
of_one name (Check o) (n, b, e, nesting', budget') = absurd (cc)
of_one name (Size o) (n, b, e, nesting', budget') = absurd (cc)
of_one name Frame e = cc
of_one name Unframe e = cc
of_one name (FramedCanon o) (n, b, e, nesting', budget') = absurd (cc)
of_one name (FramedCheck o) (n, b, e, nesting', budget') = absurd (cc)

pub alone_none : {words : List (String Global)} {command : String Global} → words ≡ command ∷ [] → ((a : Args) → IsNamedAlone (string_bytes command) a → ⊥) → (a : Args) → AreArguments (map string_bytes words) a → ⊥
alone_none {command = command} all none a asked = none a (of_one (string_bytes command) a (subst (λ (ws : List (List ℕ)). AreArguments ws a) (ap (map string_bytes) all) asked))

-- a list of one element, by that element
pub one : {A : Type 0} (xs : List A) {x : A} → 1 ≤ length xs → length xs < 2 → slice_index_or xs 0 x ≡ x → xs ≡ x ∷ []
one [] least most a = absurd (omega arith)
one (p ∷ []) least most a = cc
one (p ∷ q ∷ more) least most a = absurd (omega arith)
