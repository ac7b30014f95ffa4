use Rattle.capnp_pointers.specs.Values.{value}
use Rattle.capnp_refusals.specs.Search.{form_for, of_values, search_place}
use Rattle.capnp_refusals.proofs.Named.{read_so, refused_so, search_ends}
use Rattle.capnp_refusals.proofs.laws.refusals_of_values.Goals as goal

pub returns : goal.returns
returns c = record {
  refused = λ b r m m' k. refused_so (search_place (of_values b) r m) (value (form_for b) r m) (search_ends b r.levels r m) k m';
  read = λ b r m m'. read_so (search_place (of_values b) r m) (value (form_for b) r m) (search_ends b r.levels r m) m';
}
