-- What the fields are in a value.
use Rattle.std.specs.Prelude.{ℕ, List, bit_xor, ◌∷◌, []}
use Rattle.capnp_format.specs.Tree.{Tree}
use Rattle.capnp_readers.specs.Values.{list_numbers, text_bytes}
use Rattle.typed_reading.specs.Values.{bits_in, child, data_or, text_or}

-- Person.id
abbrev pub person_id : Tree → ℕ
person_id t = bits_in 0 32 t

-- Person.name
abbrev pub person_name : Tree → List ℕ
person_name t = text_bytes (child 0 t)

-- Person.email
abbrev pub person_email : Tree → List ℕ
person_email t = text_bytes (child 1 t)

-- Person.phones
abbrev pub person_phones : Tree → Tree
person_phones t = child 2 t

-- Person.employment.employer
abbrev pub person_employment_employer : Tree → List ℕ
person_employment_employer t = text_bytes (child 3 t)

-- Person.employment.school
abbrev pub person_employment_school : Tree → List ℕ
person_employment_school t = text_bytes (child 3 t)

-- Which member of Person.employment is set.
abbrev pub person_employment_tag : Tree → ℕ
person_employment_tag t = bits_in 32 16 t

-- Person.PhoneNumber.number
abbrev pub person_phone_number_number : Tree → List ℕ
person_phone_number_number t = text_bytes (child 0 t)

-- Person.PhoneNumber.type
abbrev pub person_phone_number_type : Tree → ℕ
person_phone_number_type t = bits_in 0 16 t

-- AddressBook.people
abbrev pub address_book_people : Tree → Tree
address_book_people t = child 0 t
