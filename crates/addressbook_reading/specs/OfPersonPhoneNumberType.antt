-- The number of each variant of person_phone_number_type::Type_.
use Rattle.std.specs.Prelude.{ℕ}
use Rattle.addressbook_reading.specs.declared.person_phone_number_type.Type_.{Type_}
use Rattle.addressbook_reading.specs.declared.person_phone_number_type.Type_.TheVariants.{Mobile, Home, Work}

abbrev pub person_phone_number_type_number : Type_ → ℕ
person_phone_number_type_number Mobile = 0
person_phone_number_type_number Home = 1
person_phone_number_type_number Work = 2
