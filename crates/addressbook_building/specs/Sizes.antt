-- The sections of the structs.
use Rattle.capnp_words.specs.Sizes.{sized}
use Rattle.capnp_words.specs.declared.wire_pointer.StructSize.{StructSize}

-- Person
abbrev pub person_size : StructSize
person_size = sized 1 4

-- Person.PhoneNumber
abbrev pub person_phone_number_size : StructSize
person_phone_number_size = sized 1 1

-- AddressBook
abbrev pub address_book_size : StructSize
address_book_size = sized 0 1
