-- One object that is read for its size: the words that it pays.
use Rattle.std.proofs.Common.{◌≡◌, ◌+◌, ap, ◌∙◌, subst, arith}
use Rattle.capnp_words.specs.Meter.{Meter, Affords}
use Rattle.capnp_format.specs.Segments.{Target}
use Rattle.capnp_pointers.specs.declared.object.Purpose.TheVariants.{Size}
use Rattle.capnp_pointers.specs.Demands.{claimed_words, own_charge}
use Rattle.capnp_pointers.specs.Outcomes.{Entered}
use Rattle.capnp_pointers.specs.Reading.{Reading}
use Rattle.capnp_pointers.specs.Spending.{after_charge, Paid}
use Rattle.capnp_pointers.proofs.OneObject.PartsMeant.{charge_of_size}

-- the words of an object that is read for its size: its landing pads and what it claims
pub paid_words : {r : Reading} {m m' : Meter} {a : Target} → Entered Size r m m' a → Paid r.charging m m' (a.pads + claimed_words a.word) 1
paid_words {r} {m} {m'} {a} o =
    let words : own_charge Size r.segments a ≡ a.pads + claimed_words a.word = omega (arith, charge_of_size r.segments a) in
    record { covers = subst (Affords r.charging m) words o.covers; spent = o.spent ∙ ap (λ i. after_charge r.charging m i 1) words }
