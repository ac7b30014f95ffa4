use Rattle.std.proofs.Common.{◌≡◌, ◌+◌, ◌-◌, ◌*◌, refl, ap, rules, ◌∙◌, arith, take, drop}
use Rattle.std.specs.Prelude.{slice_index}
use Rattle.capnp_packing.specs.declared.packing.place.Place.TheVariants.{Tag}
use Rattle.capnp_packing.proofs.PieceLemmas.{led_taken}
use Rattle.capnp_packing.proofs.UnitLemmas.{whole_alone, whole_before, whole_run}
use Rattle.capnp_packing.proofs.packing.unpacking.unpack_whole.Goals as goal

pub returns-then-more-eq0 : goal.returns-then-more-eq0
returns-then-more-eq0 c =
    let leads = whole_alone c.args.packed.now c.copy_from_slice.new.self _ c.requires.ready.unit c.requires.tag c.copy_from_slice.ensures.after c.if-more-eq0.true in
    record { taken = search rules; some = search rules; within = search rules; full = search rules; exact = led_taken c.args.packed.now _ 10 8 Tag leads (search rules) (search rules) refl; leads = leads }

pub returns-then-packed-more : goal.returns-then-packed-more
returns-then-packed-more c =
    let leads = whole_before c.args.packed.now c.copy_from_slice.new.self _ c.requires.ready.unit c.requires.tag c.copy_from_slice.ensures.after c.if-more-eq0.false in
    record { taken = search rules; some = search rules; within = search rules; full = search rules; exact = led_taken c.args.packed.now _ 10 8 _ leads (search rules) (search rules) refl; leads = leads }

pub returns : goal.returns
returns c =
    let many : 10 + 8 * slice_index c.args.packed.now 9 - 10 ≡ 8 * slice_index c.args.packed.now 9 = omega arith in
    let leads = whole_run c.args.packed.now c.copy_from_slice.new.self _ c.copy_from_slice-2.new.self _ (search rules) c.requires.tag c.copy_from_slice.ensures.after refl (c.copy_from_slice-2.ensures.after ∙ ap (λ m. take m (drop 10 c.args.packed.now)) many) in
    record { taken = search rules; some = search rules; within = search rules; full = search rules; exact = led_taken c.args.packed.now _ (10 + 8 * slice_index c.args.packed.now 9) (8 + 8 * slice_index c.args.packed.now 9) Tag leads (search rules) (search rules) refl; leads = leads }
