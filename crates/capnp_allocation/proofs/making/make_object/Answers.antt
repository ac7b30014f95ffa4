use Rattle.std.proofs.Common.{◌≡◌, ◌∙◌, ◌<◌, ◌≤◌, ℕ, length, replicate, refl, sym, ap, subst, arith, inl, inr, Result, Ok}
use Rattle.capnp_format.specs.Canonical.{Reaches, offset_to}
use Rattle.capnp_format.specs.Segments.{Segments, segment, IsPlace}
use Rattle.capnp_arena_traits.specs.View.{View}
use Rattle.capnp_allocation.specs.Made.{IsGrown, IsMade, IsShape}
use Rattle.capnp_arena_traits.specs.Written.{with_word, with_more, extended}
use Rattle.capnp_allocation.specs.Near.{offset_to_end, shape_word, with_object, HasOwnRoom}
use Rattle.capnp_allocation.proofs.Memory.{words_in, keeps_written}
use Rattle.capnp_allocation.proofs.MadeWords.{made_near, extended_grown, word_put}
use Rattle.capnp_allocation.proofs.NearMade.{object_put}
use Rattle.capnp_allocation.proofs.Shapes.{shape_some, shape_near}
use Rattle.capnp_allocation.proofs.Zeros.{there}
use Rattle.std.proofs.lemmas.Bool.{false≢true}
use Rattle.capnp_words.specs.declared.error.ErrorKind.{ErrorKind}
use Rattle.capnp_allocation.specs.Makes.{Allocates, CallAt, MakesFar, call_at}
use Rattle.capnp_allocation.specs.Memory.{Lengthens}
use Rattle.capnp_allocation.specs.declared.making.Shape.{Shape}
use Rattle.capnp_arena_traits.specs.declared.arena.WordPlace.{WordPlace}
use Rattle.capnp_allocation.proofs.Outcomes.{if_ok_so, on_ok_so}
use Rattle.capnp_allocation.proofs.Taken.{extended_lengthens, lengthens_written}
use Rattle.capnp_allocation.proofs.making.make_object.Goals as goal

-- A near pointer to words after those of its segment.
pub returns-in-Some-clause-made : goal.returns-in-Some-clause-made
returns-in-Some-clause-made g c =
    let S : Segments = (g.A.BuilderArena.view c.args.arena.now).words in
    let T : Segments = (g.A.BuilderArena.view c.allocate.new.self).words in
    let R : Segments = (g.A.BuilderArena.view c.set_word.new.arena).words in
    let id : ℕ = c.args.id in
    let n : ℕ = c.args.amount in
    let x : ℕ = c.pointer_to-word.result.0 in
    let shaped : IsShape c.args.shape x = c.pointer_to-word.ensures.shape in
    let (at, made) = c.in-Some.ensures.taken in
    let b : ℕ = length (segment S id) in
    let grown : IsGrown S T id b n = rw made (extended_grown S id n (there S id c.args.at c.requires.place)) in
    let near : Reaches c.args.at b = (omega (arith, grown.room, c.in-Some.ensures.exactly.0 refl, g.met.A.BuilderArena.small c.args.arena.now id), omega (arith, c.requires.place)) in
    let whole = made_near S T R id c.args.at n x c.requires.place grown (ap words_in c.set_word.ensures) (shape_some c.args.shape x shaped c.requires.some) (shape_near c.args.shape x shaped) near (rw at at c.pointer_to-word.ensures.offset) in
    (record { word = x; segment = id; start = c.in-Some.start; pads = 0 }, subst (λ z. IsMade S R id c.args.at (record { word = x; segment = id; start = z; pads = 0 }) n) (sym at) whole, shaped, refl, refl)

pub returns-in-Some-clause-near : goal.returns-in-Some-clause-near
returns-in-Some-clause-near g c = λ fits.
    (let S : Segments = (g.A.BuilderArena.view c.args.arena.now).words in
    let (at, made) = c.in-Some.ensures.taken in
    let x : ℕ = c.pointer_to-word.result.0 in
    let word : x ≡ shape_word c.args.shape (offset_to_end S c.args.id c.args.at) = c.pointer_to-word.ensures.word ∙ ap (λ b. shape_word c.args.shape (offset_to c.args.at b)) at in
    ap words_in c.set_word.ensures ∙ ap (λ (v : View). with_word v.words c.args.id c.args.at x) made
    ∙ object_put S c.args.id c.args.at x (replicate c.args.amount 0) c.requires.place
    ∙ ap (λ y. with_object S c.args.id c.args.at y (replicate c.args.amount 0)) word)

-- Only words after those of the pointer's segment are allocated.
near_allocates : (old mid new : View) (id at n x : ℕ) (h : WordPlace) → IsPlace old.words id at → HasOwnRoom old id n → mid ≡ with_more old id (replicate n 0) → new ≡ record mid { words = with_word mid.words id at x } →
    Allocates {A = WordPlace} (Ok h) (call_at id at old new) n
near_allocates old mid new id at n x h place room made put =
    let T : Segments = extended old.words id (replicate n 0) in
    let whole : new ≡ record old { words = with_word T id at x } = put ∙ ap (λ (v : View). record v { words = with_word v.words id at x }) made in
    let longer : Lengthens old.words T id n = extended_lengthens old.words id n (there old.words id at place) in
    let same = word_put T new.words id at x (omega (arith, place, longer.gained)) (ap words_in whole) in
    let long : Lengthens old.words new.words id n = lengthens_written old.words T new.words id n longer same.segments same.words in
    record {
      fits = λ _. refl;
      granted = keeps_written old new (with_word T id at x) whole;
      taken = record { near = λ _. long; far = λ full. absurd (omega (arith, full, room)) };
      named = tt;
    }

is_put_far : (g : _) (c : goal.After-make_far_object g) → MakesFar c.make_far_object.result (call_at c.args.id c.args.at (g.A.BuilderArena.view c.args.arena.now) (g.A.BuilderArena.view c.make_far_object.new.arena)) c.args.shape c.args.amount
is_put_far g c =
    subst (λ (v : View). MakesFar c.make_far_object.result (call_at c.args.id c.args.at v (g.A.BuilderArena.view c.make_far_object.new.arena)) c.args.shape c.args.amount) (c.in-None.ensures.none refl) c.make_far_object.ensures

no_room : (g : _) (c : goal.After-make_far_object g) → HasOwnRoom (g.A.BuilderArena.view c.args.arena.now) c.args.id c.args.amount → ⊥
no_room g c = λ own. false≢true (c.in-None.ensures.exactly.1 own)

far_allocates : (r : Result WordPlace ErrorKind) (c : CallAt) (shape : Shape) (n : ℕ) → (HasOwnRoom c.old c.segment n → ⊥) → MakesFar r c shape n → Allocates r c n
far_allocates r c shape n full x = record {
  fits = λ room. elim room [ inl own ↦ absurd (full own) | inr (k, first) ↦ x.fits k first ];
  granted = x.granted;
  taken = on_ok_so r _ _ x.taken (λ h took. record { near = λ own. absurd (full own); far = λ _. (h.segment, took.0, took.1) });
  named = x.named;
}

pub returns-in-Some-clause-memory : goal.returns-in-Some-clause-memory
returns-in-Some-clause-memory g c =
    near_allocates (g.A.BuilderArena.view c.args.arena.now) (g.A.BuilderArena.view c.allocate.new.self) (g.A.BuilderArena.view c.set_word.new.arena) c.args.id c.args.at c.args.amount c.pointer_to-word.result.0 _
    c.requires.place (c.in-Some.ensures.exactly.0 refl) c.in-Some.ensures.taken.1 c.set_word.ensures

too_few : {m n : ℕ} → m < n → n ≤ m → ⊥
too_few less more = omega arith

pub returns-in-Some-clause-behind : goal.returns-in-Some-clause-behind
returns-in-Some-clause-behind g c = record { near = λ _ _. (refl, c.in-Some.ensures.taken.0); far = λ full. absurd (too_few full (c.in-Some.ensures.exactly.0 refl)) }

pub returns-in-None-clause-memory : goal.returns-in-None-clause-memory
returns-in-None-clause-memory g c =
    far_allocates c.make_far_object.result _ c.args.shape c.args.amount (no_room g c) (is_put_far g c)

pub returns-in-None-clause-behind : goal.returns-in-None-clause-behind
returns-in-None-clause-behind g c =
    if_ok_so c.make_far_object.result _ _ (is_put_far g c).taken (λ h took. record { near = λ _ own. absurd (no_room g c own); far = λ _. (took.0, took.2) })

pub returns-in-None-clause-near : goal.returns-in-None-clause-near
returns-in-None-clause-near g c = λ own. absurd (no_room g c own)

pub returns-in-None-clause-at_end : goal.returns-in-None-clause-at_end
returns-in-None-clause-at_end g c = λ own. absurd (no_room g c own)

pub returns-in-None-clause-made : goal.returns-in-None-clause-made
returns-in-None-clause-made g c = (is_put_far g c).made

pub returns-in-None-clause-refused : goal.returns-in-None-clause-refused
returns-in-None-clause-refused g c = (is_put_far g c).refused
