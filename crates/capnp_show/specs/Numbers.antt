-- The numbers of a list of bits or numbers, and the words that they are in.
use Rattle.std.specs.Prelude.{ℕ, ◌*◌, ◌/◌, ◌%◌, ◌^◌, List, take, drop}
use Rattle.std.specs.Fmt.{decimal}
use Rattle.capnp_words.specs.Sizes.{size_number}
use Rattle.capnp_words.specs.declared.wire_pointer.ElementSize.{ElementSize}
use Rattle.capnp_words.specs.declared.wire_pointer.ElementSize.TheVariants.{Bit, Byte, TwoBytes, FourBytes}
use Rattle.capnp_format.specs.Bytes.{words_of}
use Rattle.capnp_format.specs.Numbers.{unpacked, words_for}
use Rattle.capnp_pointers.specs.declared.object.Place.{Place}
use Rattle.capnp_show.specs.Line.{in_quotes}

-- The n elements of a list of this size, which start at this place.
abbrev pub flat_numbers : Place → ElementSize → ℕ → List ℕ
flat_numbers start size n =
    unpacked (size_number size) n
    (take (words_for (size_number size) n) (drop start.at (words_of start.bytes.now)))

-- The word of element i of such a list, counted from the first one.
abbrev pub word_index : ElementSize → ℕ → ℕ
word_index Bit i = i / 64
word_index Byte i = i / 8
word_index TwoBytes i = i / 4
word_index FourBytes i = i / 2
word_index size i = i

-- Element i, which is in this word.
abbrev pub number_in : ElementSize → ℕ → ℕ → ℕ
number_in Bit i word = word / 2 ^ (i % 64) % 2
number_in Byte i word = word / 2 ^ (i % 8 * 8) % 2 ^ 8
number_in TwoBytes i word = word / 2 ^ (i % 4 * 16) % 2 ^ 16
number_in FourBytes i word = word / 2 ^ (i % 2 * 32) % 2 ^ 32
number_in size i word = word

-- The text of an element of such a list. Numbers of eight bytes are in quotes.
abbrev pub number_text : ElementSize → ℕ → List ℕ
number_text Bit n = decimal n
number_text TwoBytes n = decimal n
number_text FourBytes n = decimal n
number_text size n = in_quotes (decimal n)
