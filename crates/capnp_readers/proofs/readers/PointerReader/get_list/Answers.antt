use Rattle.std.proofs.Common.{inl, inr, refl}
use Rattle.capnp_pointers.proofs.OneObject.ExpectedBySteps.{IsReadAt, list_given}
use Rattle.capnp_readers.specs.Readers.{read_by}
use Rattle.capnp_readers.specs.declared.readers.target.Target.TheVariants.{List}
use Rattle.capnp_pointers.specs.Expected.{list_expected}
use Rattle.capnp_readers.specs.Values.{place_read}
use Rattle.capnp_readers.proofs.Answering.{IsShown, no_list, wide_target, given_there, never_refused, of_some}
use Rattle.capnp_readers.proofs.Given.{list_suits}
use Rattle.capnp_readers.proofs.ListValues.{list_value}
use Rattle.capnp_readers.proofs.Spent.{list_spent}
use Rattle.capnp_readers.proofs.Stays.{list_stays, list_fits}
use Rattle.capnp_readers.proofs.readers.PointerReader.get_list.Goals as goal

pub target_of-requires : goal.target_of-requires
target_of-requires g c =
    let m = c.args.lim.now in
    let m' = c.read_as_expected.new.lim in
    let read : IsReadAt (read_by g.A.ReaderArena c.in_ok-found.found.0) m m' c.in_ok-found.found.1 = record { object = c.in_ok-found.ensures.object } in
    record { read = (m, m', list_given c.args.expected_element_size c.in_ok-found.found.1 c.in_ok-found.ensures.given read) }

pub returns-in-List-clause-read : goal.returns-in-List-clause-read
returns-in-List-clause-read g c =
    let m = c.args.lim.now in
    let m' = c.read_as_expected.new.lim in
    let read : IsReadAt (read_by g.A.ReaderArena c.in_ok-found.found.0) m m' c.in_ok-found.found.1 = record { object = c.in_ok-found.ensures.object } in
    let target = c.target_of.ensures m m' (list_given c.args.expected_element_size c.in_ok-found.found.1 c.in_ok-found.ensures.given read) in
    let shown : IsShown g.A.ReaderArena c.in_ok-found.found.0 m m' c.in_ok-found.found.1 (List c.in-List.found) = record { read = read; target = rw c.in-List.is at target } in
    let can = given_there g.A.ReaderArena m c.in_ok-found.ensures.read (c.in_ok-found.ensures.exactly.0 refl) in
    (c.in_ok-found.found.0, c.in_ok-found.ensures.read, inr (shown.target, wide_target g.A.ReaderArena c.args.expected_element_size can shown))

pub returns-in_default-clause-read : goal.returns-in_default-clause-read
returns-in_default-clause-read g c =
    let m = c.args.lim.now in
    let m' = c.read_as_expected.new.lim in
    let read : IsReadAt (read_by g.A.ReaderArena c.in_ok-found.found.0) m m' c.in_ok-found.found.1 = record { object = c.in_ok-found.ensures.object } in
    let target = c.target_of.ensures m m' (list_given c.args.expected_element_size c.in_ok-found.found.1 c.in_ok-found.ensures.given read) in
    let shown : IsShown g.A.ReaderArena c.in_ok-found.found.0 m m' c.in_ok-found.found.1 c.target_of.result = record { read = read; target = target } in
    let null = no_list g.A.ReaderArena c.args.expected_element_size c.target_of.result c.in_ok-found.ensures.given shown c.in_default.not-List in
    let made = c.new_default.ensures in
    (c.in_ok-found.found.0, c.in_ok-found.ensures.read, inl (null.0, null.1, made.source, made.elements.0, made.elements.1, made.nesting))

pub returns-in-List-clause-exactly : goal.returns-in-List-clause-exactly
returns-in-List-clause-exactly g c = c.in_ok-found.ensures.exactly

pub returns-in_default-clause-exactly : goal.returns-in_default-clause-exactly
returns-in_default-clause-exactly g c = c.in_ok-found.ensures.exactly

pub returns-in-List-clause-value : goal.returns-in-List-clause-value
returns-in-List-clause-value g c = list_value g.A.ReaderArena c.args.expected_element_size c.in-List.found (returns-in-List-clause-read g c)

pub returns-in_default-clause-value : goal.returns-in_default-clause-value
returns-in_default-clause-value g c = list_value g.A.ReaderArena c.args.expected_element_size c.new_default.result (returns-in_default-clause-read g c)

pub returns-in_err-found-clause-answered : goal.returns-in_err-found-clause-answered
returns-in_err-found-clause-answered g c = λ t k whole fits means covers.
    let size = c.args.expected_element_size in
    let place = place_read g.A.ReaderArena c.args.self c.args.default in
    absurd (never_refused g.A.ReaderArena (record { from = c.args.self; expected = list_expected size; default = c.args.default }) c.in_err-found.ensures.refused (λ bytes e. (of_some _ c.args.default whole bytes e, inl refl)) (list_suits size place t k c.args.lim.now fits means covers))

pub returns-in-List-clause-spent : goal.returns-in-List-clause-spent
returns-in-List-clause-spent g c = list_spent g.A.ReaderArena c.args.expected_element_size c.in-List.found (returns-in-List-clause-read g c)

pub returns-in_default-clause-spent : goal.returns-in_default-clause-spent
returns-in_default-clause-spent g c = list_spent g.A.ReaderArena c.args.expected_element_size c.new_default.result (returns-in_default-clause-read g c)

pub returns-in-List-clause-stays : goal.returns-in-List-clause-stays
returns-in-List-clause-stays g c = list_stays g.A.ReaderArena c.args.expected_element_size c.in-List.found (returns-in-List-clause-read g c)

pub returns-in_default-clause-stays : goal.returns-in_default-clause-stays
returns-in_default-clause-stays g c = list_stays g.A.ReaderArena c.args.expected_element_size c.new_default.result (returns-in_default-clause-read g c)

pub returns-in-List-clause-fits : goal.returns-in-List-clause-fits
returns-in-List-clause-fits g c = list_fits g.A.ReaderArena c.args.expected_element_size c.in-List.found (returns-in-List-clause-read g c)

pub returns-in_default-clause-fits : goal.returns-in_default-clause-fits
returns-in_default-clause-fits g c = list_fits g.A.ReaderArena c.args.expected_element_size c.new_default.result (returns-in_default-clause-read g c)
