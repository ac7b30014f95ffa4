use Rattle.std.proofs.Common.{rules, ◌≡◌, ◌∙◌, ◌<◌, ◌≤◌, ◌+◌, ℕ, Bool, true, false, length, refl, sym, subst, IfErr, IsTrue}
use Rattle.std.proofs.lemmas.Bool.{false≢true}
use Rattle.std.specs.Prelude.{Result, Ok, Err, ◌↔◌}
use Rattle.capnp_format.specs.Bytes.{message}
use Rattle.capnp_format.specs.Segments.{Segments, segment}
use Rattle.capnp_words.specs.Meter.{Meter, Allows, Affords}
use Rattle.capnp_words.specs.declared.error.ErrorKind.TheVariants.{ReadLimitExceeded}
use Rattle.capnp_words.specs.declared.error.ErrorKind.{ErrorKind}
use Rattle.capnp_arena_traits.specs.Checks.{Holds, misplaced}
use Rattle.capnp_arena_traits.proofs.MessageLemmas.{placing, misplaced-there}
use Rattle.capnp_arena_traits.proofs.Placed.{there-message, there-bytes, eighth, refused_place, outside, unasked, uncharged}
use Rattle.capnp_arena_traits.proofs.arena.reader_arena.ReaderArena.contains_interval.Goals as goal

pub returns-in_err-length-clause-exactly : goal.returns-in_err-length-clause-exactly
returns-in_err-length-clause-exactly g c =
    let B = g.Self.ReaderArena.segments c.args.self.now in
    refused_place (Holds (message B) c.args.id c.args.start c.args.size × Affords (g.Self.ReaderArena.charging c.args.self.now) c.args.lim.now c.args.size) B c.args.id c.from_residual.result c.from_residual.ensures.0 (λ h. false≢true (c.in_err-length.ensures.there.1 h)) (λ x. x.0.0)

pub returns-in_err-length-clause-budget : goal.returns-in_err-length-clause-budget
returns-in_err-length-clause-budget g c =
    let B = g.Self.ReaderArena.segments c.args.self.now in
    outside (Holds (message B) c.args.id c.args.start c.args.size) (λ e. e ≡ ReadLimitExceeded) c.from_residual.result (λ p. false≢true (c.in_err-length.ensures.there.1 (there-bytes B c.args.id p.0)))

under : {A : Type 0} (P : Type 0) (r : Result A ErrorKind) (m : ErrorKind) → IfErr r (λ e. e ≡ m) → IfErr r (λ e. P → e ≡ m)
under P (Ok _) m h = h
under P (Err e) m h = λ _. h

pub returns-in_err-length-clause-outside : goal.returns-in_err-length-clause-outside
returns-in_err-length-clause-outside g c =
    let M = message (g.Self.ReaderArena.segments c.args.self.now) in
    under (Holds M c.args.id c.args.start c.args.size → ⊥) c.from_residual.result (misplaced M c.args.id (g.Self.ReaderArena.absent c.args.self.now c.args.id)) (search (rules, placing))

holds_within : (S : Segments) (id n start size : ℕ) (b : Bool) → id < length S → (IsTrue b ↔ (start + size ≤ n)) → n ≡ length (segment S id) → b ≡ true → Holds S id start size
holds_within S id n start size b there h e t = (there, subst (λ m. start + size ≤ m) e (h.0 t))

holds_not : (S : Segments) (id n start size : ℕ) (b : Bool) → (IsTrue b ↔ (start + size ≤ n)) → n ≡ length (segment S id) → b ≡ false → Holds S id start size → ⊥
holds_not S id n start size b h e f holds = false≢true (sym f ∙ h.1 (subst (λ m. start + size ≤ m) (sym e) holds.1))

-- a place inside is refused only for lack of words
never : {A : Type 0} (P : Type 0) (r : Result A ErrorKind) (m : ErrorKind) → P → IfErr r (λ e. (P → ⊥) → e ≡ m)
never P (Ok _) m p = tt
never P (Err e) m p = λ none. absurd (none p)

asked : (P H : Type 0) (charging : Bool) (m : Meter) (n : ℕ) → charging ≡ true → H → (P ↔ Allows m n) → P ↔ (H × Affords charging m n)
asked P H true m n e h x = (λ p. (h, x.0 p), λ y. x.1 y.1)
asked P H false m n e h x = absurd (false≢true e)

pub returns-else-is_within-clause-exactly : goal.returns-else-is_within-clause-exactly
returns-else-is_within-clause-exactly g c =
    let B = g.Self.ReaderArena.segments c.args.self.now in
    let M = message B in
    (λ p. absurd (false≢true p), λ h. absurd (holds_not M c.args.id _ c.args.start c.args.size c.is_within.result c.is_within.ensures (eighth _ _ c.in_ok-length.ensures.whole) c.if-is_within.false h.0))

pub returns-else-is_within-clause-outside : goal.returns-else-is_within-clause-outside
returns-else-is_within-clause-outside g c =
    let B = g.Self.ReaderArena.segments c.args.self.now in
    let M = message B in
    λ _. sym (misplaced-there M c.args.id (g.Self.ReaderArena.absent c.args.self.now c.args.id) (there-message B c.args.id (c.in_ok-length.ensures.there.0 (refl {a = true}))))

pub returns-else-is_within-clause-budget : goal.returns-else-is_within-clause-budget
returns-else-is_within-clause-budget g c =
    let B = g.Self.ReaderArena.segments c.args.self.now in
    let M = message B in
    λ holds. absurd (holds_not M c.args.id _ c.args.start c.args.size c.is_within.result c.is_within.ensures (eighth _ _ c.in_ok-length.ensures.whole) c.if-is_within.false holds)

pub returns-then-charges-clause-exactly : goal.returns-then-charges-clause-exactly
returns-then-charges-clause-exactly g c =
    let B = g.Self.ReaderArena.segments c.args.self.now in
    let M = message B in
    asked _ (Holds M c.args.id c.args.start c.args.size) (g.Self.ReaderArena.charging c.args.self.now) c.args.lim.now c.args.size (sym c.charges.ensures ∙ c.if-charges.true) (holds_within M c.args.id _ c.args.start c.args.size c.is_within.result (there-message B c.args.id (c.in_ok-length.ensures.there.0 (refl {a = true}))) c.is_within.ensures (eighth _ _ c.in_ok-length.ensures.whole) c.if-is_within.true) c.can_read.ensures.exactly

pub returns-then-charges-clause-outside : goal.returns-then-charges-clause-outside
returns-then-charges-clause-outside g c =
    let B = g.Self.ReaderArena.segments c.args.self.now in
    let M = message B in
    never (Holds M c.args.id c.args.start c.args.size) c.can_read.result (misplaced M c.args.id (g.Self.ReaderArena.absent c.args.self.now c.args.id)) (holds_within M c.args.id _ c.args.start c.args.size c.is_within.result (there-message B c.args.id (c.in_ok-length.ensures.there.0 (refl {a = true}))) c.is_within.ensures (eighth _ _ c.in_ok-length.ensures.whole) c.if-is_within.true)

pub returns-then-charges-clause-budget : goal.returns-then-charges-clause-budget
returns-then-charges-clause-budget g c =
    let B = g.Self.ReaderArena.segments c.args.self.now in
    let M = message B in
    under (Holds M c.args.id c.args.start c.args.size) c.can_read.result ReadLimitExceeded c.can_read.ensures.named

pub returns-else-charges-clause-exactly : goal.returns-else-charges-clause-exactly
returns-else-charges-clause-exactly g c =
    let B = g.Self.ReaderArena.segments c.args.self.now in
    let M = message B in
    unasked (Holds M c.args.id c.args.start c.args.size) (g.Self.ReaderArena.charging c.args.self.now) c.args.lim.now c.args.size (sym c.charges.ensures ∙ c.if-charges.false) (holds_within M c.args.id _ c.args.start c.args.size c.is_within.result (there-message B c.args.id (c.in_ok-length.ensures.there.0 (refl {a = true}))) c.is_within.ensures (eighth _ _ c.in_ok-length.ensures.whole) c.if-is_within.true)

pub returns-else-charges-clause-granted : goal.returns-else-charges-clause-granted
returns-else-charges-clause-granted g c =
    uncharged (g.Self.ReaderArena.charging c.args.self.now) c.args.lim.now c.args.size (sym c.charges.ensures ∙ c.if-charges.false)
