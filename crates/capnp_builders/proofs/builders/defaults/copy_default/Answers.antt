use Rattle.std.proofs.Common.{◌≡◌, ℕ, List, IfOk, IfErr, None}
use Rattle.std.proofs.lemmas.Bool.{false≢true}
use Rattle.capnp_words.specs.Meter.{unused}
use Rattle.capnp_format.specs.Tree.{Null}
use Rattle.capnp_arena_traits.specs.View.{View}
use Rattle.capnp_pointers.specs.Wanted.{of_default}
use Rattle.capnp_copies.specs.Changes.{copy_call, MakesCopy, StopsCopy}
use Rattle.capnp_copies.specs.Growth.{TakesAtMost}
use Rattle.capnp_copies.specs.Originals.{value_original}
use Rattle.capnp_allocation.proofs.Outcomes.{if_err_so}
use Rattle.capnp_builders.specs.Defaults.{default_root}
use Rattle.capnp_builders.proofs.CopiesHeld.{on_ok}
use Rattle.capnp_builders.proofs.DefaultCopies.{default_copy, nothing_spent, puts_default, drops_default}
use Rattle.capnp_builders.proofs.builders.defaults.copy_default.Goals as goal
use Rattle.capnp_allocation.specs.Makes.{call_at}

-- A default with a first word has a pointer there.
pub returns-in_err-from : goal.returns-in_err-from
returns-in_err-from g c = absurd (false≢true (c.in_err-from.ensures.exactly.1 c.requires.some))

pub returns : goal.returns
returns g c =
    let from = c.in_ok-from.ensures in
    let bytes : List ℕ = c.args.default.now in
    let old : View = g.A.BuilderArena.view c.args.arena.now in
    let new : View = g.A.BuilderArena.view c.copy_in_form.new.arena in
    let taken : TakesAtMost c.copy_in_form.result (value_original (default_root bytes)) (copy_call of_default (call_at c.args.id c.args.at old new) (unused None) c.copy_in_form.new.lim) =
    rw (c.pointer.ensures.source, c.pointer.ensures.place, c.pointer.ensures.nesting, from.source, from.place.0, from.place.1, from.nesting, c.new-lim.ensures) at c.copy_in_form.ensures.taken in
    let same : c.copy_in_form.new.lim ≡ unused None = nothing_spent c.copy_in_form.result bytes c.args.id c.args.at old new (unused None) c.copy_in_form.new.lim taken in
    let copied : IfOk c.copy_in_form.result (λ _. MakesCopy (value_original (default_root bytes)) (copy_call of_default (call_at c.args.id c.args.at old new) (unused None) c.copy_in_form.new.lim)) =
    rw (c.pointer.ensures.source, c.pointer.ensures.place, c.pointer.ensures.nesting, from.source, from.place.0, from.place.1, from.nesting, c.new-lim.ensures) at c.copy_in_form.ensures.copied in
    let refused : IfErr c.copy_in_form.result (StopsCopy (value_original (default_root bytes)) (default_copy c.args.id c.args.at old new) Null) =
    rw (c.pointer.ensures.source, c.pointer.ensures.place, c.pointer.ensures.nesting, from.source, from.place.0, from.place.1, from.nesting, c.new-lim.ensures, same) at c.copy_in_form.ensures.refused in
    record {
      copied = puts_default c.copy_in_form.result bytes c.args.id c.args.at old new (rw same at copied) (rw same at taken);
      fits = rw (c.pointer.ensures.source, c.pointer.ensures.place, c.pointer.ensures.nesting, from.source, from.place.0, from.place.1, from.nesting, c.new-lim.ensures) at c.copy_in_form.ensures.fits;
      dropped = drops_default c.copy_in_form.result bytes c.args.id c.args.at old new refused (rw same at taken);
      memory = record {
        granted = on_ok c.copy_in_form.result _ _ copied (λ made. made.memory);
        refused = if_err_so c.copy_in_form.result _ _ refused (λ k stop. stop.memory);
      };
    }
