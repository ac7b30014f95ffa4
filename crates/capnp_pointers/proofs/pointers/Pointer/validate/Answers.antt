use Rattle.std.proofs.Common.{◌≡◌, rules, Ok, ap, ◌∙◌, arith}
use Rattle.std.proofs.lemmas.Int.{to_z-of_z}
use mir.Syntax.{w32}
use Rattle.capnp_pointers.specs.Reading.{Reading}
use Rattle.capnp_pointers.specs.Source.{levels}
use Rattle.capnp_pointers.specs.Pointers.{reading}
use Rattle.capnp_pointers.specs.Validation.{validate_place}
use Rattle.capnp_pointers.proofs.Validation.ExtentOfTheReading.{Found, found, start, stopped}
use Rattle.capnp_pointers.proofs.pointers.Pointer.validate.Goals as goal

pub overflow_sub-result : goal.overflow_sub-result
overflow_sub-result g c =
    let r : Reading = reading g.A.ReaderArena c.args.self.now in
    let nl = to_z-of_z w32 c.args.self.now.nesting_limit (search rules) in
    let level : c.levels_left-levels.result ≡ r.levels = c.levels_left-levels.ensures ∙ ap levels nl in
    let begun : c.begin-walk.result.tally ≡ start r.levels = c.begin-walk.ensures.tally ∙ ap start level in
    let walked : validate_place r (start r.levels) c.args.lim.now ≡ (Ok c.validate_object.new.walk.tally, c.validate_object.new.walk.lim) = rw (nl, begun, c.begin-walk.ensures.limiter) at c.in-Ok.ensures in
    let it : Found r c.args.lim.now c.validate_object.new.walk.lim c.validate_object.new.walk.tally = found r _ _ _ walked in
    omega (arith, it.lowest, level)

pub returns-in-Ok : goal.returns-in-Ok
returns-in-Ok g c =
    let r : Reading = reading g.A.ReaderArena c.args.self.now in
    let nl = to_z-of_z w32 c.args.self.now.nesting_limit (search rules) in
    let level : c.levels_left-levels.result ≡ r.levels = c.levels_left-levels.ensures ∙ ap levels nl in
    let begun : c.begin-walk.result.tally ≡ start r.levels = c.begin-walk.ensures.tally ∙ ap start level in
    let walked : validate_place r (start r.levels) c.args.lim.now ≡ (Ok c.validate_object.new.walk.tally, c.validate_object.new.walk.lim) = rw (nl, begun, c.begin-walk.ensures.limiter) at c.in-Ok.ensures in
    let it : Found r c.args.lim.now c.validate_object.new.walk.lim c.validate_object.new.walk.tally = found r _ _ _ walked in
    rw level it.is

pub returns-in-Err : goal.returns-in-Err
returns-in-Err g c =
    let r : Reading = reading g.A.ReaderArena c.args.self.now in
    let nl = to_z-of_z w32 c.args.self.now.nesting_limit (search rules) in
    let level : c.levels_left-levels.result ≡ r.levels = c.levels_left-levels.ensures ∙ ap levels nl in
    let begun : c.begin-walk.result.tally ≡ start r.levels = c.begin-walk.ensures.tally ∙ ap start level in
    stopped r _ _ _ (rw (nl, begun, c.begin-walk.ensures.limiter) at c.in-Err.ensures)
