-- The number of each variant of person_employment_which::Which.
use Rattle.std.specs.Prelude.{ℕ}
use Rattle.addressbook_reading.specs.declared.person_employment_which.Which.{Which}
use Rattle.addressbook_reading.specs.declared.person_employment_which.Which.TheVariants.{Unemployed, Employer, School, SelfEmployed}

abbrev pub person_employment_which_number : Which → ℕ
person_employment_which_number Unemployed = 0
person_employment_which_number Employer = 1
person_employment_which_number School = 2
person_employment_which_number SelfEmployed = 3
