use Rattle.capnp_format.proofs.LawLemmas.{least_words, least_data_width, least_pointer_width}
use Rattle.capnp_format.proofs.laws.least_widths.Goals as goal

pub returns-clause-words : goal.returns-clause-words
returns-clause-words c = least_words

pub returns-clause-data_width : goal.returns-clause-data_width
returns-clause-data_width c = least_data_width

pub returns-clause-pointer_width : goal.returns-clause-pointer_width
returns-clause-pointer_width c = least_pointer_width
