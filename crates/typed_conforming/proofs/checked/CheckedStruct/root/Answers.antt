use Rattle.std.proofs.Common.{inl, inr, refl}
use Rattle.std.proofs.lemmas.Bool.{false≢true}
use Rattle.capnp_format.specs.Bytes.{message}
use Rattle.capnp_format.specs.Means.{Means}
use Rattle.capnp_pointers.specs.Source.{levels}
use Rattle.typed_reading.proofs.Root.{root_affords}
use Rattle.typed_conforming.specs.Checked.{ShowsConforming}
use Rattle.typed_conforming.proofs.Checking.{affords_both, children_conform}
use Rattle.typed_conforming.proofs.checked.CheckedStruct.root.Goals as goal

pub returns-in-Err-conforms-clause-answered : goal.returns-in-Err-conforms-clause-answered
returns-in-Err-conforms-clause-answered g c =
    let root = c.in-Ok.ensures in
    λ t k there h means covers. c.in-Err-conforms.ensures.exactly.1
    (t, k, h, rw (root.source, root.place.0, root.place.1, root.nesting) means, rw (root.source, root.granted) (root_affords (g.A.ReaderArena.charging c.args.arena.now) c.args.lim.now k covers).1)

pub invariant_of-result : goal.invariant_of-result
invariant_of-result g c =
    let root = c.in-Ok.ensures in
    let found = c.in-Ok-conforms.ensures.exactly.0 refl in
    let means : Means (message (g.A.ReaderArena.segments c.args.arena.now)) (levels (g.A.ReaderArena.nesting c.args.arena.now)) 0 0 found.0 found.1 = rw (root.source, root.place.0, root.place.1, root.nesting) at found.3 in
    let checked : ShowsConforming g.A.ReaderArena c.args.table.now c.args.row c.unwrap-reader.result = record {
      struct = found.0;
      shows = rw c.unwrap-reader.ensures at (c.root.ensures.value found.0 found.1 means);
      conforms = children_conform c.args.table.now c.args.row found.0 found.2;
    } in
    record { conforms = ∣ inl checked ∣₁ }

pub returns-clause-conforms : goal.returns-clause-conforms
returns-clause-conforms g c =
    let root = c.in-Ok.ensures in
    let found = c.in-Ok-conforms.ensures.exactly.0 refl in
    (found.0, found.1, found.2, rw (root.source, root.place.0, root.place.1, root.nesting) at found.3, affords_both (g.A.ReaderArena.charging c.args.arena.now) c.args.lim.now found.1 (root.exactly.0 refl).1 (rw (root.source, root.granted) at found.4))

pub returns-clause-spent : goal.returns-clause-spent
returns-clause-spent g c =
    let root = c.in-Ok.ensures in
    λ t k means. rw (root.source, root.granted) at (c.in-Ok-conforms.ensures.spent t k (rw (root.source, root.place.0, root.place.1, root.nesting) means))

pub returns-in-Err-clause-refused : goal.returns-in-Err-clause-refused
returns-in-Err-clause-refused g c = inl ((λ both. false≢true (c.in-Err.ensures.exactly.1 both)), refl)

pub returns-in-Err-conforms-clause-refused : goal.returns-in-Err-conforms-clause-refused
returns-in-Err-conforms-clause-refused g c =
    let root = c.in-Ok.ensures in
    inr (rw (root.source, root.place.0, root.place.1, root.nesting) at c.in-Err-conforms.ensures.refused)
