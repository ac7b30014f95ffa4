-- The numbers of refusals to build.
use Rattle.std.specs.Prelude.{ℕ, Result, Ok, Err}
use Rattle.capnp_words.specs.declared.error.ErrorKind.{ErrorKind}
use Rattle.capnp_words.specs.declared.error.ErrorKind.TheVariants.{AllocationFailed}
use Rattle.capnp_numbers.specs.Numbers.{error_number, no_room_number}

-- The number of a refusal. Memory is the buffer here.
abbrev pub building_number : ErrorKind → ℕ
building_number AllocationFailed = no_room_number
building_number k = error_number k

-- The number of a result: 0 for a success.
abbrev pub number_of_result : {A : Type 0} → Result A ErrorKind → ℕ
number_of_result (Ok x) = 0
number_of_result (Err k) = building_number k

-- The place isn't inside of the message.
abbrev pub bad_place : ℕ
bad_place = 61

-- There would be too many bytes, elements or words.
abbrev pub too_large : ℕ
too_large = 59
