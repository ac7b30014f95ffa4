-- The line of JSON that is written for a value if places are left out: a function of the value.
use Rattle.std.specs.Prelude.{ℕ, ◌+◌, ◌-◌, ◌==◌, ◌&&◌, ◌||◌, not, Bool, false, if◌then◌else◌}
use Rattle.std.specs.Prelude.{List, [], ◌∷◌, ◌++◌, codes, length, map, nat_lt, take}
use Rattle.std.specs.Prelude.{slice_index_or}
use Rattle.std.specs.Fmt.{decimal}
use Rattle.std.specs.List.{join_with_byte}
use Rattle.std.specs.Str.{is_utf8}
use Rattle.hex.specs.Hex.{encode_lower}
use Rattle.capnp_format.specs.Tree.{Tree, Null, Capability, Struct, Flat, Pointers, Structs, Trees}
use Rattle.capnp_format.specs.Tree.{no_trees, tree, Elements, no_elements, element, element_count}
use Rattle.capnp_framing.specs.Frames.{bytes_of_words}

-- "x", the array of xs, the object with the members xs, and its member with this key and the value
-- x. 44 is a comma.
abbrev pub in_quotes : List ℕ → List ℕ
in_quotes x = codes "\"" ++ x ++ codes "\""

abbrev pub array : List (List ℕ) → List ℕ
array xs = codes "[" ++ join_with_byte 44 xs ++ codes "]"

abbrev pub object : List (List ℕ) → List ℕ
object xs = codes "{" ++ join_with_byte 44 xs ++ codes "}"

abbrev pub member : List ℕ → List ℕ → List ℕ
member key x = in_quotes key ++ codes ":" ++ x

-- A byte of a text in quotes: the escapes of JSON for quotes, backslashes, tabs, line feeds and
-- carriage returns; other bytes stay.
abbrev pub escape : ℕ → List ℕ
escape b =
    if b == 34 then codes "\\\"" else if b == 92 then codes "\\\\"
    else if b == 9 then codes "\\t" else if b == 10 then codes "\\n"
    else if b == 13 then codes "\\r" else b ∷ []

abbrev pub escaped : List ℕ → List ℕ
escaped [] = []
escaped (b ∷ bs) = escape b ++ escaped bs

-- An ASCII control character other than a tab, a line feed or a carriage return.
abbrev pub is_control : ℕ → Bool
is_control b = (nat_lt b 32 && not (b == 9 || b == 10 || b == 13)) || b == 127

-- The byte after the byte `before` is such a character, or ends one from U+0080 to U+009F: 194, and
-- then 128 to 159.
abbrev pub ends_control : ℕ → ℕ → Bool
ends_control before b = is_control b || (before == 194 && nat_lt b 160)

-- UTF-8 bytes, which come after the byte `before`, have a control character.
abbrev pub has_control_after : ℕ → List ℕ → Bool
has_control_after before [] = false
has_control_after before (b ∷ bs) = ends_control before b || has_control_after b bs

-- The bytes are UTF-8 without these control characters.
abbrev pub is_plain_text : List ℕ → Bool
is_plain_text bytes = is_utf8 bytes && not (has_control_after 0 bytes)

-- The bytes read as text: UTF-8 that ends in one zero byte, without these control characters. The
-- text is the bytes before that zero byte.
abbrev pub without_last : List ℕ → List ℕ
without_last bytes = take (length bytes - 1) bytes

abbrev pub reads_as_text : List ℕ → Bool
reads_as_text bytes =
    slice_index_or bytes (length bytes - 1) 255 == 0 && is_plain_text (without_last bytes)

-- A list of bytes: as text if it reads as text, and otherwise in hex digits.
abbrev pub bytes_member : List ℕ → List ℕ
bytes_member bytes =
    if reads_as_text bytes then member (codes "text") (in_quotes (escaped (without_last bytes)))
    else member (codes "bytes") (in_quotes (encode_lower bytes))

-- A list of bits, or of numbers of two, four or eight bytes, by the number of the element size.
-- Numbers of eight bytes are in quotes.
abbrev pub numbers_member : ℕ → List ℕ → List ℕ
numbers_member size numbers =
    if size == 1 then member (codes "bits") (array (map decimal numbers))
    else if size == 3 then member (codes "u16") (array (map decimal numbers))
    else if size == 4 then member (codes "u32") (array (map decimal numbers))
    else member (codes "u64") (array (map (λ n. in_quotes (decimal n)) numbers))

-- A list by the number of the element size. Elements of size 0 have no bits: only their number is
-- written.
abbrev pub flat_member : ℕ → List ℕ → List ℕ
flat_member size numbers =
    if size == 0 then member (codes "void") (decimal (length numbers))
    else if size == 2 then bytes_member numbers
    else numbers_member size numbers

-- The words of a data section in hex digits.
abbrev pub data_member : List ℕ → List ℕ
data_member words = member (codes "data") (in_quotes (encode_lower (bytes_of_words words)))

-- A struct, or an element of a list of structs, with the lines of its children.
abbrev pub struct_object : List ℕ → List (List ℕ) → List ℕ
struct_object words children =
    object (data_member words ∷ member (codes "pointers") (array children) ∷ [])

-- The line of a value, without its line feed. A list of structs has the sizes of the elements; if
-- they have no words, only their number follows.
abbrev mutual
  pub value_line : Tree → List ℕ
  value_line Null = codes "null"
  value_line (Capability i) = object (member (codes "capability") (decimal i) ∷ [])
  value_line (Struct words children) = struct_object words (lines children)
  value_line (Flat size numbers) = object (flat_member size numbers ∷ [])
  value_line (Pointers children) = object (member (codes "list") (array (lines children)) ∷ [])
  value_line (Structs d q elements) =
      object (
      member (codes "data_words") (decimal d) ∷
      member (codes "pointer_count") (decimal q) ∷
      (if d + q == 0 then member (codes "count") (decimal (element_count elements))
      else member (codes "structs") (array (element_lines elements))) ∷
      []
      )

  -- The lines of children.
  pub lines : Trees → List (List ℕ)
  lines no_trees = []
  lines (tree t ts) = value_line t ∷ lines ts

  -- The lines of the elements of a list of structs.
  pub element_lines : Elements → List (List ℕ)
  element_lines no_elements = []
  element_lines (element words children es) = struct_object words (lines children) ∷ element_lines es
