use Rattle.std.proofs.Common.{◌≡◌, ◌≤◌, ◌<◌, ◌+◌, ℕ, length, inr, refl, ap, sym, subst, ◌∙◌, arith}
use Rattle.std.proofs.lemmas.Result.{err_from_is_err_and}
use Rattle.capnp_format.specs.Segments.{segment}
use Rattle.capnp_arena.specs.Kept.{arena_rows}
use Rattle.capnp_arena.specs.Row.{shown}
use Rattle.capnp_arena_traits.specs.Taking.{IsFirstFit, IsFull}
use Rattle.capnp_arena_traits.specs.View.{View}
use Rattle.capnp_arena_traits.proofs.MessageLemmas.{length-message}
use Rattle.capnp_arena.proofs.Refused.{ok_not_err}
use Rattle.capnp_arena.proofs.TakingLemmas.{fit_not_full, fit_taken, fit_found, fit_another, fit_granted, another_as_before}
use Rattle.capnp_arena.proofs.arena.builder_arena_impl.BuilderArenaImplBuilderArena.allocate_anywhere.Goals as goal

no_fit : {old mid : View} (amount k : ℕ) → mid ≡ old → IsFirstFit old amount k → IsFull old amount → ⊥
no_fit {old} amount k same fit full = fit_not_full old amount k fit full

-- A search for a segment with room leaves the view unchanged.
pub allocate_fitting-at-requires-clause-there : goal.allocate_fitting-at-requires-clause-there
allocate_fitting-at-requires-clause-there g c =
    let found = shown g.A.Segment.Segment (arena_rows g.A.Segment.Segment g.A.Allocator.first_in_arena c.first_fit.new.self.listed c.first_fit.new.self.apart) in
    subst (λ n. c.in-Some.id < n) (ap (λ (v : View). length v.words) (sym c.first_fit.ensures.same) ∙ length-message found) c.in-Some.ensures.fit.0

pub allocate_fitting-at-requires-clause-fits : goal.allocate_fitting-at-requires-clause-fits
allocate_fitting-at-requires-clause-fits g c =
    let id = c.in-Some.id in
    subst (λ (v : View). length (segment v.words id) + c.args.amount ≤ v.room id) (sym c.first_fit.ensures.same) c.in-Some.ensures.fit.1

pub returns-in-Some-clause-taken : goal.returns-in-Some-clause-taken
returns-in-Some-clause-taken g c = fit_taken c.in-Some.id c.args.amount c.first_fit.ensures.same c.in-Some.ensures.fit c.allocate_fitting-at.ensures.at c.allocate_fitting-at.ensures.taken

pub returns-in-Some-clause-first : goal.returns-in-Some-clause-first
returns-in-Some-clause-first g c = fit_found c.in-Some.id c.args.amount c.first_fit.ensures.same c.in-Some.ensures.fit c.allocate_fitting-at.ensures.at c.allocate_fitting-at.ensures.taken

pub returns-in-Some-clause-another : goal.returns-in-Some-clause-another
returns-in-Some-clause-another g c full =
    absurd (fit_another c.in-Some.id c.args.amount c.first_fit.ensures.same c.in-Some.ensures.fit c.allocate_fitting-at.ensures.at c.allocate_fitting-at.ensures.taken full)

pub returns-in-Some-clause-room : goal.returns-in-Some-clause-room
returns-in-Some-clause-room g c k below =
    let at : View → ℕ = λ v. v.room k in
    ap at c.allocate_fitting-at.ensures.taken ∙ ap at c.first_fit.ensures.same

pub returns-in-Some-clause-granted : goal.returns-in-Some-clause-granted
returns-in-Some-clause-granted g c = fit_granted c.in-Some.id c.args.amount c.first_fit.ensures.same c.in-Some.ensures.fit c.allocate_fitting-at.ensures.at c.allocate_fitting-at.ensures.taken

pub returns-in-Some-clause-many : goal.returns-in-Some-clause-many
returns-in-Some-clause-many g c full _ =
    absurd (fit_another c.in-Some.id c.args.amount c.first_fit.ensures.same c.in-Some.ensures.fit c.allocate_fitting-at.ensures.at c.allocate_fitting-at.ensures.taken full)

pub returns-in-Some-clause-large : goal.returns-in-Some-clause-large
returns-in-Some-clause-large g c more _ = absurd (omega (arith, more, c.allocate_fitting-at.ensures.small))

pub returns-in_ok-id-in-None : goal.returns-in_ok-id-in-None
returns-in_ok-id-in-None g c =
    let same = c.first_fit.ensures.same in
    let h = another_as_before same c.in_ok-id-in-None.ensures in
    record {
      taken = inr (h.taken.0, refl, h.taken.2);
      first = λ k fit. absurd (no_fit c.args.amount k same fit (c.in-None.ensures.full refl));
      another = λ _. h.taken;
      room = h.room;
      granted = h.granted;
      many = λ _ most. absurd (ok_not_err (h.many most));
      large = λ more less. absurd (ok_not_err (h.large more less));
      named = tt;
      refused = tt;
    }

pub returns-in_err-id-in-None : goal.returns-in_err-id-in-None
returns-in_err-id-in-None g c =
    let same = c.first_fit.ensures.same in
    let h = another_as_before same c.in_err-id-in-None.ensures in
    let p = err_from_is_err_and c.from_residual.result c.from_residual.ensures.1 in
    record {
      taken = rw p.1 tt;
      first = λ k fit. absurd (no_fit c.args.amount k same fit (c.in-None.ensures.full refl));
      another = λ _. rw p.1 tt;
      room = h.room;
      granted = rw p.1 tt;
      many = λ _ most. (let e = h.many most in rw (p.1, p.2) cc);
      large = λ more less. (let e = h.large more less in rw (p.1, p.2) cc);
      named = rw (p.1, p.2) h.named;
      refused = rw p.1 h.refused;
    }
