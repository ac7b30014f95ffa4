use Rattle.std.proofs.Common.{inl, inr, refl}
use Rattle.capnp_pointers.proofs.OneObject.ExpectedBySteps.{IsReadAt, struct_given}
use Rattle.capnp_readers.specs.Readers.{read_by}
use Rattle.capnp_pointers.specs.Expected.{struct_expected}
use Rattle.capnp_readers.specs.Values.{place_read}
use Rattle.capnp_readers.proofs.Answering.{IsShown, no_struct, never_refused, of_some}
use Rattle.capnp_readers.proofs.Given.{struct_suits}
use Rattle.capnp_readers.proofs.Values.{struct_value}
use Rattle.capnp_readers.proofs.Spent.{struct_spent}
use Rattle.capnp_readers.proofs.Stays.{struct_stays}
use Rattle.capnp_readers.proofs.readers.PointerReader.get_struct.Goals as goal

pub target_of-requires : goal.target_of-requires
target_of-requires g c =
    let m = c.args.lim.now in
    let m' = c.read_as_expected.new.lim in
    let read : IsReadAt (read_by g.A.ReaderArena c.in_ok-found.found.0) m m' c.in_ok-found.found.1 = record { object = c.in_ok-found.ensures.object } in
    record { read = (m, m', struct_given c.in_ok-found.found.1 c.in_ok-found.ensures.given read) }

pub returns-in-Struct-clause-read : goal.returns-in-Struct-clause-read
returns-in-Struct-clause-read g c =
    let m = c.args.lim.now in
    let m' = c.read_as_expected.new.lim in
    let read : IsReadAt (read_by g.A.ReaderArena c.in_ok-found.found.0) m m' c.in_ok-found.found.1 = record { object = c.in_ok-found.ensures.object } in
    (c.in_ok-found.found.0, c.in_ok-found.ensures.read, inr (rw c.in-Struct.is at (c.target_of.ensures m m' (struct_given c.in_ok-found.found.1 c.in_ok-found.ensures.given read))))

pub returns-in_default-clause-read : goal.returns-in_default-clause-read
returns-in_default-clause-read g c =
    let m = c.args.lim.now in
    let m' = c.read_as_expected.new.lim in
    let read : IsReadAt (read_by g.A.ReaderArena c.in_ok-found.found.0) m m' c.in_ok-found.found.1 = record { object = c.in_ok-found.ensures.object } in
    let target = c.target_of.ensures m m' (struct_given c.in_ok-found.found.1 c.in_ok-found.ensures.given read) in
    let shown : IsShown g.A.ReaderArena c.in_ok-found.found.0 m m' c.in_ok-found.found.1 c.target_of.result = record { read = read; target = target } in
    let null = no_struct g.A.ReaderArena c.target_of.result c.in_ok-found.ensures.given shown c.in_default.not-Struct in
    let made = c.new_default.ensures in
    (c.in_ok-found.found.0, c.in_ok-found.ensures.read, inl (null.0, null.1, made.source, made.sections.0, made.sections.1, made.nesting))

pub returns-in-Struct-clause-exactly : goal.returns-in-Struct-clause-exactly
returns-in-Struct-clause-exactly g c = c.in_ok-found.ensures.exactly

pub returns-in_default-clause-exactly : goal.returns-in_default-clause-exactly
returns-in_default-clause-exactly g c = c.in_ok-found.ensures.exactly

pub returns-in-Struct-clause-value : goal.returns-in-Struct-clause-value
returns-in-Struct-clause-value g c = struct_value g.A.ReaderArena c.in-Struct.found (returns-in-Struct-clause-read g c)

pub returns-in_default-clause-value : goal.returns-in_default-clause-value
returns-in_default-clause-value g c = struct_value g.A.ReaderArena c.new_default.result (returns-in_default-clause-read g c)

pub returns-in_err-found-clause-answered : goal.returns-in_err-found-clause-answered
returns-in_err-found-clause-answered g c = λ t k whole is means covers.
    let place = place_read g.A.ReaderArena c.args.self c.args.default in
    absurd (never_refused g.A.ReaderArena (record { from = c.args.self; expected = struct_expected; default = c.args.default }) c.in_err-found.ensures.refused (λ bytes e. (of_some _ c.args.default whole bytes e, inl refl)) (struct_suits place t k c.args.lim.now is means covers))

pub returns-in-Struct-clause-spent : goal.returns-in-Struct-clause-spent
returns-in-Struct-clause-spent g c = struct_spent g.A.ReaderArena c.in-Struct.found (returns-in-Struct-clause-read g c)

pub returns-in_default-clause-spent : goal.returns-in_default-clause-spent
returns-in_default-clause-spent g c = struct_spent g.A.ReaderArena c.new_default.result (returns-in_default-clause-read g c)

pub returns-in-Struct-clause-stays : goal.returns-in-Struct-clause-stays
returns-in-Struct-clause-stays g c = struct_stays g.A.ReaderArena c.in-Struct.found (returns-in-Struct-clause-read g c)

pub returns-in_default-clause-stays : goal.returns-in_default-clause-stays
returns-in_default-clause-stays g c = struct_stays g.A.ReaderArena c.new_default.result (returns-in_default-clause-read g c)
