use Rattle.std.proofs.Common.{◌≡◌, Ok, Err, sym, ap, ◌∙◌}
use Rattle.capnp_pointers.specs.Pointers.{reading}
use Rattle.typed_conforming.specs.Blame.{first_visit}
use Rattle.typed_conforming.specs.Walk.{check_place, rowless_pointer}
use Rattle.typed_conforming.proofs.Blamed.{refusal_is_true}
use Rattle.typed_conforming.proofs.Exact.{exactly, spent}
use Rattle.typed_conforming.proofs.conforms.conforms.Goals as goal

pub returns-in-Ok : goal.returns-in-Ok
returns-in-Ok g c =
    let r = reading g.A.ReaderArena c.args.pointer.now in
    let p = rowless_pointer c.args.kind in
    let walk : check_place c.args.table.now p r c.args.lim.now ≡ (Ok tt, c.check_object.new.walk.lim) = ap (check_place c.args.table.now p r) (sym c.begin-walk.ensures) ∙ c.in-Ok.ensures in
    record {
      exactly = exactly c.args.table.now p r c.args.lim.now c.check_object.new.walk.lim (Ok tt) walk;
      spent = spent c.args.table.now p r c.args.lim.now c.check_object.new.walk.lim (Ok tt) walk;
      walk = walk;
      refused = tt;
    }

pub returns-in-Err : goal.returns-in-Err
returns-in-Err g c =
    let r = reading g.A.ReaderArena c.args.pointer.now in
    let p = rowless_pointer c.args.kind in
    let misfit = c.check_object.new.walk.misfit in
    let walk : check_place c.args.table.now p r c.args.lim.now ≡ (Err misfit, c.check_object.new.walk.lim) = ap (check_place c.args.table.now p r) (sym c.begin-walk.ensures) ∙ c.in-Err.ensures in
    record {
      exactly = exactly c.args.table.now p r c.args.lim.now c.check_object.new.walk.lim (Err misfit) walk;
      spent = spent c.args.table.now p r c.args.lim.now c.check_object.new.walk.lim (Err misfit) walk;
      walk = walk;
      refused = refusal_is_true (first_visit c.args.table.now c.args.kind r) c.args.lim.now c.check_object.new.walk.lim misfit walk;
    }
