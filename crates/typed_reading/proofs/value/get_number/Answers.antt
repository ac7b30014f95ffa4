use Rattle.typed_reading.proofs.value.get_number.Goals as goal

pub returns-clause-number : goal.returns-clause-number
returns-clause-number g c = λ bits x shows. c.get_data_field.ensures.number bits x (c.data_of.ensures.number bits x shows)
