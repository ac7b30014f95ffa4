-- What a run answers follows from what it read.
use Rattle.std.proofs.Common.{◌≡◌, ◌⊎◌, refl, inl, inr, ℕ, List, Option, Some, None, Result, Ok, Err, OnOk, OnErr, true, false, sym, ap, ◌∙◌, subst}
use Rattle.capnp_words.specs.declared.error.ErrorKind.{ErrorKind}
use Rattle.capnp_words.specs.declared.error.ErrorKind.TheVariants.{AllocationFailed}
use Rattle.capnp_format.specs.Bytes.{message}
use Rattle.capnp_format.specs.Canonical.{encoding, trim}
use Rattle.capnp_format.specs.Tree.{Tree}
use Rattle.capnp_arena_traits.specs.Allocations.{one_more}
use Rattle.capnp_arena_traits.specs.Limits.{IsSmall}
use Rattle.capnp_arena.specs.declared.arena.reader_arena_impl.ReaderOptions.{ReaderOptions}
use Rattle.capnp_framing.specs.Writing.{Prints, Writes}
use Rattle.capnp_framing.specs.declared.devices.Output.{Ghosts}
use Rattle.capnp_layout.specs.declared.tool.args.Args.{Args}
use Rattle.capnp_layout.specs.declared.tool.args.Args.TheVariants.{Canon}
use Rattle.capnp_layout.specs.declared.tool.engine.Outcome.{Outcome}
use Rattle.capnp_layout.specs.declared.tool.engine.Outcome.TheVariants.{Done, Refused as RefusedOutcome, BadInput, WriteFailed}
use Rattle.capnp_layout.specs.declared.tool.refusal.Refusal.{Refusal}
use Rattle.capnp_layout.specs.declared.tool.refusal.Refusal.TheVariants.{Layout}
use Rattle.capnp_layout.specs.Refusals.{refusal_line}
use Rattle.capnp_layout.specs.Runs.{AreLinesOf, IsForMemoryOr, Responds, Run, TextHasAnswer}
use Rattle.capnp_messages.specs.declared.messages.command.Form.{Form}
use Rattle.capnp_messages.specs.declared.messages.command.Form.TheVariants.{Flat, Framed}
use Rattle.capnp_messages.specs.Messages.{IsValueOf, RefusesCanon}
use Rattle.capnp_messages.proofs.AnsweredLemmas.{copy_lacks_memory}
use Rattle.capnp_layout.specs.Answers.{RefusesMessage}
use Rattle.capnp_messages.specs.Copies.{LacksMemoryOr}
use Rattle.capnp_layout.specs.Commands.{HasAnswer, IsAnswer, IsWithin, WhyRefused, canonical_args, form_line}

-- what refuses a message refuses its segments, and so does the memory that it lacks
pub refuses_segments : (options : ReaderOptions) (segments : List (List ℕ)) {old new : ℕ} {k : ErrorKind}
    → LacksMemoryOr old new k (RefusesCanon (message segments) options k) → LacksMemoryOr old new k (RefusesMessage segments (Canon options) k)
refuses_segments options segments (inl memory) = inl memory
refuses_segments options segments (inr (refused, same)) = inr (inr refused, same)

-- segments that have a canonical copy are refused only for lack of memory
only_memory : (options : ReaderOptions) (segments : List (List ℕ)) {old new : ℕ} {k : ErrorKind}
    → IsSmall segments → HasAnswer segments (Canon options) → LacksMemoryOr old new k (RefusesMessage segments (Canon options) k)
    → (Layout k ≡ Layout AllocationFailed) × (new ≡ one_more old)
only_memory options segments small has (inl (named, risen)) = (ap Layout named, risen)
only_memory options segments small has (inr (inl (named, large), same)) = absurd (large small)
only_memory options segments small has (inr (inr refused, same)) =
    let (named, risen) = copy_lacks_memory (message segments) options has (inr (refused, same)) in
    (ap Layout named, risen)

-- What a command that answers with canonical words states about its lines, in any form: by cases of
-- the form.
pub canonical_memory : (form : Form) (options : ReaderOptions) (lines : List (List ℕ)) {old new : ℕ} {k : ErrorKind}
    → LacksMemoryOr old new k (RefusesMessage lines (Canon options) k)
    → IsWithin (canonical_args form options) lines → HasAnswer lines (canonical_args form options)
    → (Layout k ≡ Layout AllocationFailed) × (new ≡ one_more old)
canonical_memory Flat options lines why small has = only_memory options lines small has why
canonical_memory Framed options lines why small has = only_memory options lines small has why

pub canonical_refusal : (form : Form) (options : ReaderOptions) (lines : List (List ℕ)) {old new : ℕ} {k : ErrorKind}
    → LacksMemoryOr old new k (RefusesMessage lines (Canon options) k)
    → IsForMemoryOr old new (Layout k) (WhyRefused lines (canonical_args form options) (Layout k))
canonical_refusal form options lines (inl (named, risen)) = inl (ap Layout named, risen)
canonical_refusal Flat options lines {k = k} (inr (refused, same)) = inr ((k, refl, refused), same)
canonical_refusal Framed options lines {k = k} (inr (refused, same)) = inr ((k, refl, refused), same)

pub canonical_within : (form : Form) (options : ReaderOptions) (lines : List (List ℕ)) → IsSmall lines → IsWithin (canonical_args form options) lines
canonical_within Flat options lines small = small
canonical_within Framed options lines small = small

pub canonical_answer : (form : Form) (options : ReaderOptions) (lines : List (List ℕ)) {words : List ℕ} (t : Tree)
    → IsValueOf (message lines) options t → words ≡ encoding (trim t) → IsAnswer lines (canonical_args form options) (form_line form words)
canonical_answer Flat options lines t value same = (t, value, ap (form_line Flat) same)
canonical_answer Framed options lines t value same = (t, value, ap (form_line Framed) same)

-- a run of these parts
abbrev pub run_of : List (List ℕ) → Args → Outcome → ℕ → ℕ → Run
run_of lines args outcome before after = record { lines = lines; args = args; outcome = outcome; before = before; after = after }

-- a run whose answer was written, or whose output failed
pub answered_run : {W A E : Type 0} (g : Ghosts W) (from to : W) {lines : List (List ℕ)} {args : Args} {outcome : Outcome} {before after : ℕ}
    (written : Result A E) (answer : List ℕ) → Writes g written from to answer → OnOk written (outcome ≡ Done) → OnErr written (outcome ≡ WriteFailed)
    → IsWithin args lines → after ≡ before → IsAnswer lines args answer → Responds g from to (run_of lines args outcome before after)
answered_run g from to (Ok x) answer writes is failed within same answers = record {
  done = λ _. (within, same, (answer, answers, writes.written));
  refused = λ wrong. absurd (let e : Done ≡ RefusedOutcome = sym is ∙ wrong in cc);
  answered = λ _ _. inl is;
  unread = λ wrong. absurd (let e : Done ≡ BadInput = sym is ∙ wrong in cc);
  works = λ _. writes.works;
  failed = λ wrong. absurd (let e : Done ≡ WriteFailed = sym is ∙ wrong in cc);
}
answered_run g from to (Err e) answer writes is failed within same answers = record {
  done = λ wrong. absurd (let e : WriteFailed ≡ Done = sym failed ∙ wrong in cc);
  refused = λ wrong. absurd (let e : WriteFailed ≡ RefusedOutcome = sym failed ∙ wrong in cc);
  answered = λ _ _. inr (inl failed);
  unread = λ wrong. absurd (let e : WriteFailed ≡ BadInput = sym failed ∙ wrong in cc);
  works = λ wrong. absurd (wrong failed);
  failed = λ _. writes.fails;
}

-- a run that is refused, with the line of the refusal, or whose output failed
pub refused_run : {W : Type 0} (g : Ghosts W) (from to : W) {lines : List (List ℕ)} {args : Args} {outcome : Outcome} {before after : ℕ} (r : Refusal)
    → (outcome ≡ RefusedOutcome) ⊎ (outcome ≡ WriteFailed) → (outcome ≡ RefusedOutcome → Prints g from to (refusal_line r))
    → (outcome ≡ RefusedOutcome → g.has_failed to ≡ false) → (outcome ≡ WriteFailed → g.has_failed to ≡ true)
    → IsForMemoryOr before after r (WhyRefused lines args r)
    → (IsWithin args lines → HasAnswer lines args → (r ≡ Layout AllocationFailed) × (after ≡ one_more before))
    → Responds g from to (run_of lines args outcome before after)
refused_run g from to r (inl is) written works failed why memory = record {
  done = λ wrong. absurd (let e : RefusedOutcome ≡ Done = sym is ∙ wrong in cc);
  refused = λ _. (r, written is, why);
  answered = λ within has.
      let (named, risen) = memory within has in
      inr (inr (is, risen, subst (λ (x : Refusal). Prints g from to (refusal_line x)) named (written is)));
  unread = λ wrong. absurd (let e : RefusedOutcome ≡ BadInput = sym is ∙ wrong in cc);
  works = λ _. works is;
  failed = failed;
}
refused_run g from to r (inr is) written works failed why memory = record {
  done = λ wrong. absurd (let e : WriteFailed ≡ Done = sym is ∙ wrong in cc);
  refused = λ wrong. absurd (let e : WriteFailed ≡ RefusedOutcome = sym is ∙ wrong in cc);
  answered = λ _ _. inr (inl is);
  unread = λ wrong. absurd (let e : WriteFailed ≡ BadInput = sym is ∙ wrong in cc);
  works = λ wrong. absurd (wrong is);
  failed = failed;
}

-- a run of a command with another name
pub named_run : {W : Type 0} (g : Ghosts W) (from to : W) {lines : List (List ℕ)} {args other : Args} {outcome : Outcome} {before after : ℕ}
    → args ≡ other → Responds g from to (run_of lines other outcome before after) → Responds g from to (run_of lines args outcome before after)
named_run g from to {lines} {outcome = outcome} {before} {after} same responds =
    subst (λ (a : Args). Responds g from to (run_of lines a outcome before after)) (sym same) responds

-- a run of a command with another name that counts nothing, with an allocator that has counted n
pub uncounted_run : {W : Type 0} (g : Ghosts W) (from to : W) {lines : List (List ℕ)} {args other : Args} {outcome : Outcome} (n : ℕ)
    → args ≡ other → Responds g from to (run_of lines other outcome 0 0) → Responds g from to (run_of lines args outcome n n)
uncounted_run g from to {lines} {args} {other} {outcome} n same responds = named_run g from to same (record {
  done = λ is. (let all = responds.done is in (all.0, refl, all.2));
  refused = λ is. (let all = responds.refused is in (all.0, all.1, counted all.0 all.2));
  answered = λ within has. ends (responds.answered within has);
  unread = λ is. (let all = responds.unread is in (all.0, refl, all.2));
  works = responds.works;
  failed = responds.failed;
})
  where
    never : 0 ≡ one_more 0 → ⊥
    never risen = cc

    counted : (r : Refusal) → IsForMemoryOr 0 0 r (WhyRefused lines other r) → IsForMemoryOr n n r (WhyRefused lines other r)
    counted r (inl (named, risen)) = absurd (never risen)
    counted r (inr (why, same)) = inr (why, refl)

    ends : (outcome ≡ Done) ⊎ (outcome ≡ WriteFailed) ⊎ ((outcome ≡ RefusedOutcome) × (0 ≡ one_more 0) × Prints g from to (refusal_line (Layout AllocationFailed))) →
        (outcome ≡ Done) ⊎ (outcome ≡ WriteFailed) ⊎ ((outcome ≡ RefusedOutcome) × (n ≡ one_more n) × Prints g from to (refusal_line (Layout AllocationFailed)))
    ends (inl done) = inl done
    ends (inr (inl failed)) = inr (inl failed)
    ends (inr (inr (is, risen, printed))) = absurd (never risen)

-- the lines of a known text are those that were read
lines_read : (text : Option (List ℕ)) (args : Args) (lines : List (List ℕ)) → AreLinesOf text lines → TextHasAnswer text args
    → IsWithin args lines × HasAnswer lines args
lines_read None args lines held has = absurd has
lines_read (Some text) args lines held (given, found, within, answered) =
    let same : given ≡ lines = (let both : Some given ≡ Some lines = sym found ∙ held in cc) in
    (subst (IsWithin args) same within, subst (λ (ls : List (List ℕ)). HasAnswer ls args) same answered)

-- if the lines of a text have an answer, the only refusal is of memory
pub text_memory : (text : Option (List ℕ)) {W : Type 0} (g : Ghosts W) (from to : W) {lines : List (List ℕ)} {args : Args} {outcome : Outcome} {first before after : ℕ}
    → AreLinesOf text lines → Responds g from to (run_of lines args outcome before after) → before ≡ first → TextHasAnswer text args → outcome ≡ RefusedOutcome
    → (after ≡ one_more first) × Prints g from to (refusal_line (Layout AllocationFailed))
text_memory text g from to {lines} {args} {outcome} {first} {before} {after} held responds same has refused =
    let (within, answered) = lines_read text args lines held has in
    memory (responds.answered within answered)
  where
    memory : (outcome ≡ Done) ⊎ (outcome ≡ WriteFailed) ⊎ ((outcome ≡ RefusedOutcome) × (after ≡ one_more before) × Prints g from to (refusal_line (Layout AllocationFailed))) →
        (after ≡ one_more first) × Prints g from to (refusal_line (Layout AllocationFailed))
    memory (inl done) = absurd (let wrong : RefusedOutcome ≡ Done = sym refused ∙ done in cc)
    memory (inr (inl failed)) = absurd (let wrong : RefusedOutcome ≡ WriteFailed = sym refused ∙ failed in cc)
    memory (inr (inr (is, risen, printed))) = (risen ∙ ap one_more same, printed)
