use Rattle.std.proofs.Common.{◌≡◌, ◌<◌, inl, inr, [], refl}
use Rattle.capnp_words.specs.declared.wire_pointer.ElementSize.TheVariants.{Byte}
use Rattle.capnp_pointers.specs.declared.object.Object.TheVariants.{Flat}
use Rattle.capnp_pointers.proofs.OneObject.ExpectedBySteps.{IsReadAt, no_text}
use Rattle.capnp_readers.specs.Readers.{read_by}
use Rattle.capnp_pointers.specs.Expected.{text_expected}
use Rattle.capnp_readers.specs.Values.{place_read}
use Rattle.capnp_readers.proofs.Answering.{never_refused, of_some}
use Rattle.capnp_readers.proofs.Given.{not_null}
use Rattle.capnp_readers.proofs.Texts.{text_suits}
use Rattle.capnp_readers.proofs.Bytes.{text_shown, bytes_value}
use Rattle.capnp_readers.proofs.Spent.{bytes_spent}
use Rattle.capnp_readers.proofs.readers.PointerReader.get_text.Goals as goal

pub returns-in-Flat-clause-read : goal.returns-in-Flat-clause-read
returns-in-Flat-clause-read g c =
    let given : (c.in-Flat.size ≡ Byte) × (0 < c.in-Flat.count) = rw c.in-Flat.is at c.in_ok-found.ensures.given in
    let read : IsReadAt (read_by g.A.ReaderArena c.in_ok-found.found.0) c.args.lim.now c.read_as_expected.new.lim (Flat c.in-Flat.start c.in-Flat.size c.in-Flat.count) = record { object = rw c.in-Flat.is at c.in_ok-found.ensures.object } in
    (c.in_ok-found.found.0, c.in_ok-found.ensures.read, inr (text_shown c.bytes_are_below_256.ensures c.bytes_at-bytes.ensures (rw given.0 at read)))

pub returns-in_default-clause-read : goal.returns-in_default-clause-read
returns-in_default-clause-read g c =
    let r = read_by g.A.ReaderArena c.in_ok-found.found.0 in
    let read : IsReadAt r c.args.lim.now c.read_as_expected.new.lim c.in_ok-found.found.1 = record { object = c.in_ok-found.ensures.object } in
    let null = no_text r.levels c.in_ok-found.found.1 c.in_ok-found.ensures.given read c.in_default.not-Flat in
    (c.in_ok-found.found.0, c.in_ok-found.ensures.read, inl (null.0, null.1, refl))

pub returns-in-Flat-clause-exactly : goal.returns-in-Flat-clause-exactly
returns-in-Flat-clause-exactly g c = c.in_ok-found.ensures.exactly

pub returns-in_default-clause-exactly : goal.returns-in_default-clause-exactly
returns-in_default-clause-exactly g c = c.in_ok-found.ensures.exactly

pub returns-in-Flat-clause-value : goal.returns-in-Flat-clause-value
returns-in-Flat-clause-value g c = bytes_value g.A.ReaderArena 1 c.bytes_at-bytes.result.now (returns-in-Flat-clause-read g c)

pub returns-in_default-clause-value : goal.returns-in_default-clause-value
returns-in_default-clause-value g c = bytes_value g.A.ReaderArena 1 [] (returns-in_default-clause-read g c)

pub returns-in_err-found-clause-answered : goal.returns-in_err-found-clause-answered
returns-in_err-found-clause-answered g c = λ t k whole is means covers.
    let place = place_read g.A.ReaderArena c.args.self c.args.default in
    absurd (never_refused g.A.ReaderArena (record { from = c.args.self; expected = text_expected; default = c.args.default }) c.in_err-found.ensures.refused (λ bytes e. let has = of_some _ c.args.default whole bytes e in (has.0, inr (not_null place t k means has.1))) (text_suits place t k c.args.lim.now is means covers))

pub returns-in-Flat-clause-spent : goal.returns-in-Flat-clause-spent
returns-in-Flat-clause-spent g c = bytes_spent g.A.ReaderArena 1 c.bytes_at-bytes.result.now (returns-in-Flat-clause-read g c)

pub returns-in_default-clause-spent : goal.returns-in_default-clause-spent
returns-in_default-clause-spent g c = bytes_spent g.A.ReaderArena 1 [] (returns-in_default-clause-read g c)
