use Rattle.std.proofs.lemmas.Result.{err_from_is_err_and}
use Rattle.std.proofs.Common.{◌≡◌, ℕ, List, Ok, Err, length, ap, ◌∙◌, refl, sym}
use Rattle.capnp_format.specs.Numbers.{words_for}
use Rattle.capnp_format.specs.Segments.{Segments}
use Rattle.capnp_allocation.specs.Made.{words_of_zero, zero_list}
use Rattle.capnp_in_place.specs.InPlace.{bytes_there}
use Rattle.capnp_allocation.specs.Makes.{CallAt, call_at}
use Rattle.capnp_in_place.specs.declared.existing.ExistingBytes.{ExistingBytes}
use Rattle.capnp_in_place.proofs.ByteLists.WrittenInPlace.{made_zero}
use Rattle.capnp_in_place.proofs.Room.MadeAfterZeroing.{made_as, refused_as}
use Rattle.capnp_in_place.proofs.lent.init_bytes.Goals as goal

pub returns-clause-zero : goal.returns-clause-zero
returns-clause-zero g c =
    let Q : Segments = (g.A.BuilderArena.view c.args.arena.now).words in
    let S : Segments = (g.A.BuilderArena.view c.init_list.new.arena).words in
    let B : List (List ℕ) = g.A.ReaderArena.segments c.init_list.new.arena in
    let b : ExistingBytes = record { segment = c.in_ok-start.start.segment; start = c.in_ok-start.start.at; length = c.args.size } in
    let now : c.bytes_mut.result.now ≡ bytes_there B b = c.bytes_mut.ensures.now in
    λ t stored. now ∙ made_zero Q S B c.args.id c.args.at c.args.count t b (g.met.A.BuilderArena.read c.init_list.new.arena) (c.in_ok-start.ensures.gives.object.made t stored)
    c.in_ok-start.ensures.gives.start.leads.0 c.in_ok-start.ensures.gives.start.leads.1 c.in_ok-start.ensures.gives.start.inside.1 c.requires.few.0
    ∙ ap (λ (xs : List ℕ). words_of_zero (length xs)) (sym now)

-- The list is the same as that of the call that keeps the arena, and so is the refusal.
pub returns-clause-made : goal.returns-clause-made
returns-clause-made g c =
    let now = c.init_list.new.arena in
    let call : CallAt = call_at c.args.id c.args.at (g.A.BuilderArena.view c.args.arena.now) (g.A.BuilderArena.view now) in
    let b : ExistingBytes = record { segment = c.in_ok-start.start.segment; start = c.in_ok-start.start.at; length = c.args.size } in
    record {
      now = now;
      found = Ok b;
      does = record {
        object = made_as c.in_ok-start.start b call (zero_list 2 c.args.count) (words_for 2 c.args.count) c.in_ok-start.ensures.gives.object;
        leads = c.in_ok-start.ensures.gives.start.leads;
        first = refl;
      };
      gives = c.bytes_mut.ensures.now;
    }

pub returns-in_err-start-clause-made : goal.returns-in_err-start-clause-made
returns-in_err-start-clause-made g c =
    let now = c.init_list.new.arena in
    let call : CallAt = call_at c.args.id c.args.at (g.A.BuilderArena.view c.args.arena.now) (g.A.BuilderArena.view now) in
    let p = err_from_is_err_and c.from_residual.result c.from_residual.ensures.1 in
    rw (p.1, p.2) (record {
      now = now;
      found = Err c.in_err-start.field-0.0;
      does = record { object = refused_as c.in_err-start.field-0.0 call (zero_list 2 c.args.count) (words_for 2 c.args.count) c.in_err-start.ensures.gives.object; leads = tt; first = tt };
      gives = refl;
    })
