use Rattle.std.proofs.Common.{rules, Some, None, refl, sym, subst}
use Rattle.capnp_format.specs.Tree.{Null, Capability}
use Rattle.capnp_edits.specs.declared.edit.path.PathEnd.TheVariants.{Pointer as AtPointer}
use Rattle.capnp_edits.specs.declared.edit.tasks.Task.TheVariants.{Point}
use Rattle.capnp_edits.specs.Edits.{place_of}
use Rattle.capnp_edits.specs.Steps.{IsDoneAt}
use Rattle.capnp_edits.proofs.Applied.{pointed}
use Rattle.capnp_edits.proofs.edit.pointer.set_capability_or_null.Goals as goal

pub returns-in-Some : goal.returns-in-Some
returns-in-Some g c =
    let old = g.A.BuilderArena.view c.args.pointer.now.arena.now in
    let new = g.A.BuilderArena.view c.set_capability.new.self.arena.now in
    let place = place_of c.args.pointer.now in
    record {
      done = subst (λ i. IsDoneAt old new (AtPointer place) (Point i) None) (sym c.in-Some.is)
          (pointed old new place (Some c.in-Some.index) (Capability c.in-Some.index) (λ t. refl) c.set_capability.ensures.made c.set_capability.ensures.limits (c.set_capability.ensures.only.segments, c.set_capability.ensures.only.words));
      same = search rules;
    }

pub returns-in-None : goal.returns-in-None
returns-in-None g c =
    let old = g.A.BuilderArena.view c.args.pointer.now.arena.now in
    let new = g.A.BuilderArena.view c.clear.new.self.arena.now in
    let place = place_of c.args.pointer.now in
    record {
      done = subst (λ i. IsDoneAt old new (AtPointer place) (Point i) None) (sym c.in-None.is)
          (pointed old new place None Null (λ t. refl) c.clear.ensures.cleared c.clear.ensures.limits (c.clear.ensures.only.segments, c.clear.ensures.only.words));
      same = search rules;
    }
