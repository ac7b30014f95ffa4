-- The arguments of the program: a command, a nesting limit, and a budget of words.
use Rattle.std.specs.Prelude.{◌≡◌, ℕ, List, [], ◌∷◌}
use Rattle.std.specs.Prelude.{codes}
use Rattle.capnp_arena.specs.declared.arena.reader_arena_impl.ReaderOptions.{ReaderOptions}
use Rattle.capnp_layout.specs.declared.tool.args.Args.{Args}
use Rattle.capnp_layout.specs.declared.tool.args.Args.TheVariants.{Canon, Check, Size, Frame}
use Rattle.capnp_layout.specs.declared.tool.args.Args.TheVariants.{Unframe, FramedCanon}
use Rattle.capnp_layout.specs.declared.tool.args.Args.TheVariants.{FramedCheck}
use Rattle.capnp_messages.specs.Text.{IsBudget, IsNesting}

-- The arguments are a command of this name, and the limits of a reader's options.
abbrev pub IsCommand : List ℕ → List (List ℕ) → ReaderOptions → Type 0
IsCommand name words options =
    (nesting : List ℕ) × (budget : List ℕ) × (words ≡ name ∷ nesting ∷ budget ∷ []) ×
    IsNesting nesting options.nesting_limit
    × IsBudget budget options.traversal_limit_in_words

-- The arguments are `frame` or `unframe`, or a command with a nesting limit and a budget.
abbrev pub AreArguments : List (List ℕ) → Args → Type 0
AreArguments words (Canon options) = IsCommand (codes "canon") words options
AreArguments words (Check options) = IsCommand (codes "check") words options
AreArguments words (Size options) = IsCommand (codes "size") words options
AreArguments words Frame = words ≡ codes "frame" ∷ []
AreArguments words Unframe = words ≡ codes "unframe" ∷ []
AreArguments words (FramedCanon options) = IsCommand (codes "framed-canon") words options
AreArguments words (FramedCheck options) = IsCommand (codes "framed-check") words options

-- A name, within limits, requests this command.
abbrev pub IsNamed : List ℕ → ReaderOptions → Args → Type 0
IsNamed name limits (Canon options) = (name ≡ codes "canon") × (options ≡ limits)
IsNamed name limits (Check options) = (name ≡ codes "check") × (options ≡ limits)
IsNamed name limits (Size options) = (name ≡ codes "size") × (options ≡ limits)
IsNamed name limits (FramedCanon options) = (name ≡ codes "framed-canon") × (options ≡ limits)
IsNamed name limits (FramedCheck options) = (name ≡ codes "framed-check") × (options ≡ limits)
IsNamed name limits _ = ⊥

-- A name without limits requests this command.
abbrev pub IsNamedAlone : List ℕ → Args → Type 0
IsNamedAlone name Frame = name ≡ codes "frame"
IsNamedAlone name Unframe = name ≡ codes "unframe"
IsNamedAlone name _ = ⊥
