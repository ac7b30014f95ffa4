-- How a run of the program ends, by what it read and what it wrote.
use Rattle.std.specs.Prelude.{◌≡◌, ◌≢◌, ◌⊎◌, ℕ, List, Option, Some, None, true, false, IfSome, IsSomeAnd}
use Rattle.capnp_words.specs.declared.error.ErrorKind.TheVariants.{AllocationFailed}
use Rattle.capnp_arena_traits.specs.Allocations.{one_more}
use Rattle.capnp_framing.specs.Writing.{Prints}
use Rattle.capnp_framing.specs.declared.devices.Output.{Ghosts}
use Rattle.capnp_layout.specs.declared.tool.args.Args.{Args}
use Rattle.capnp_layout.specs.declared.tool.engine.Outcome.{Outcome}
use Rattle.capnp_layout.specs.declared.tool.engine.Outcome.TheVariants.{Done, BadInput, WriteFailed}
use Rattle.capnp_layout.specs.declared.tool.engine.Outcome.TheVariants.{Refused as RefusedOutcome}
use Rattle.capnp_layout.specs.declared.tool.refusal.Refusal.{Refusal}
use Rattle.capnp_layout.specs.declared.tool.refusal.Refusal.TheVariants.{Layout}
use Rattle.capnp_layout.specs.Lines.{segments_of}
use Rattle.capnp_layout.specs.Commands.{HasAnswer, HasMoreLines, IsAnswer, IsWithin, WhyRefused}
use Rattle.capnp_layout.specs.Refusals.{refusal_line}

-- Either r is `AllocationFailed`, and new counts one more refused request than old; or P holds, and
-- new is old.
abbrev pub IsForMemoryOr : ℕ → ℕ → Refusal → Type 0 → Type 0
IsForMemoryOr old new r P = ((r ≡ Layout AllocationFailed) × (new ≡ one_more old)) ⊎ (P × (new ≡ old))

-- A command that was given lines: how it ends, and how often memory was refused before and after.
pub record Run : Type 0 where
  pub lines : List (List ℕ)
  pub args : Args
  pub outcome : Outcome
  pub before : ℕ
  pub after : ℕ

-- A run of a command that requests no memory.
abbrev pub uncounted : List (List ℕ) → Args → Outcome → Run
uncounted lines args outcome =
    record { lines = lines; args = args; outcome = outcome; before = 0; after = 0 }

-- What a command has written when it ends, from one state of the output to another. If the lines
-- have an answer, either it is given, or the output has failed, or memory was refused.
pub record Responds {W : Type 0} (g : Ghosts W) (from to : W) (run : Run) : Type 0 where
  pub done : run.outcome ≡ Done → IsWithin run.args run.lines × (run.after ≡ run.before) ×
      ((answer : List ℕ) × IsAnswer run.lines run.args answer × Prints g from to answer)
  pub refused : run.outcome ≡ RefusedOutcome → (r : Refusal) × Prints g from to (refusal_line r) ×
      IsForMemoryOr run.before run.after r (WhyRefused run.lines run.args r)
  pub answered : IsWithin run.args run.lines → HasAnswer run.lines run.args →
      (run.outcome ≡ Done) ⊎ (run.outcome ≡ WriteFailed) ⊎
      ((run.outcome ≡ RefusedOutcome) × (run.after ≡ one_more run.before) ×
      Prints g from to (refusal_line (Layout AllocationFailed)))
  pub unread : run.outcome ≡ BadInput → HasMoreLines run.args run.lines ×
      (run.after ≡ run.before) × (g.contents to ≡ g.contents from)
  pub works : run.outcome ≢ WriteFailed → g.has_failed to ≡ false
  pub failed : run.outcome ≡ WriteFailed → g.has_failed to ≡ true

-- The segments are the lines of the text, if that is known.
abbrev pub AreLinesOf : Option (List ℕ) → List (List ℕ) → Type 0
AreLinesOf text lines = IfSome text (λ text. segments_of text ≡ Some lines)

-- The text is known, and has lines within the limits that have an answer.
abbrev pub TextHasAnswer : Option (List ℕ) → Args → Type 0
TextHasAnswer text args =
    IsSomeAnd text (λ text. (lines : List (List ℕ)) × (segments_of text ≡ Some lines) ×
    IsWithin args lines × HasAnswer lines args)

-- The text, if it is known, has a line that isn't pairs of hex digits, or more lines than a command
-- takes.
abbrev pub IsBadInput : Option (List ℕ) → Args → Type 0
IsBadInput text args =
    IfSome text (λ text. (segments_of text ≡ None) ⊎
    ((lines : List (List ℕ)) × (segments_of text ≡ Some lines) × HasMoreLines args lines))
