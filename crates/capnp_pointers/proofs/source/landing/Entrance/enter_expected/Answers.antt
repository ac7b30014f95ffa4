use Rattle.std.proofs.Common.{◌∙◌, sym, ap}
use Rattle.capnp_pointers.specs.Enter.{object_shape}
use Rattle.capnp_pointers.specs.Entering.{found_target, entered_from}
use Rattle.capnp_pointers.specs.Metered.{answer, onward, refuse_if}
use Rattle.capnp_pointers.proofs.OneObject.ExpectedBySteps.{entered_expected}
use Rattle.capnp_pointers.proofs.source.landing.Entrance.enter_expected.Goals as goal

pub returns-in-Some-mismatch_error : goal.returns-in-Some-mismatch_error
returns-in-Some-mismatch_error g c =
    let object = c.in_ok-object.ensures in
    record {
      computed =
          entered_expected c.args.expected (entered_from g.A.ReaderArena c.args.self) (found_target c.args.self.found) c.args.lim.now c.enter.new.lim c.in_ok-object.object (sym c.kind_error.ensures ∙ c.in-None.is) object.computed object.held
          ∙ ap (λ o. onward (λ _. answer (object_shape c.in_ok-object.object)) (refuse_if o c.enter.new.lim)) (sym c.mismatch_error.ensures ∙ c.in-Some-mismatch_error.is);
      held = tt;
      few = tt;
      at_hand = tt;
    }

pub returns-in-None-mismatch_error : goal.returns-in-None-mismatch_error
returns-in-None-mismatch_error g c =
    let object = c.in_ok-object.ensures in
    record {
      computed =
          entered_expected c.args.expected (entered_from g.A.ReaderArena c.args.self) (found_target c.args.self.found) c.args.lim.now c.enter.new.lim c.in_ok-object.object (sym c.kind_error.ensures ∙ c.in-None.is) object.computed object.held
          ∙ ap (λ o. onward (λ _. answer (object_shape c.in_ok-object.object)) (refuse_if o c.enter.new.lim)) (sym c.mismatch_error.ensures ∙ c.in-None-mismatch_error.is);
      held = object.held;
      few = object.few;
      at_hand = object.at_hand;
    }
