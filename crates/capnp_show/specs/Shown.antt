-- What is written of a line of JSON without places: the walk over the objects of a value as a
-- function. If the value can be read, it writes `value_line` of the value.
use Rattle.std.specs.Prelude.{◌≡◌, ℕ, zero, suc, ◌+◌, ◌<◌, Bool, true, false, if◌then◌else◌, nat_eq}
use Rattle.std.specs.Prelude.{List, [], ◌++◌, codes, length, Result, Ok, Err, OnOk, IfErr}
use Rattle.std.specs.Fmt.{decimal}
use Rattle.capnp_words.specs.declared.error.ErrorKind.{ErrorKind}
use Rattle.capnp_words.specs.Meter.{Meter}
use Rattle.capnp_words.specs.Names.{name_of}
use Rattle.capnp_format.specs.Numbers.{words_for, unpacked}
use Rattle.capnp_pointers.specs.declared.object.Purpose.TheVariants.{Value}
use Rattle.capnp_pointers.specs.Enter.{Shape, nothing, capability, struct, flat, pointers, structs, read}
use Rattle.capnp_pointers.specs.Reading.{Reading, place_past, word_of, words_from}
use Rattle.capnp_messages.specs.Parts.{PathEnd, inside, to_element, to_pointer}
use Rattle.capnp_show.specs.Adding.{max_text}
use Rattle.capnp_show.specs.Line.{data_member, flat_member, in_quotes, member}
use Rattle.capnp_show.specs.declared.show.json.Json.{Json}
use Rattle.capnp_show.specs.declared.show.text.Ended.{Ended}
use Rattle.capnp_show.specs.declared.show.text.Ended.TheVariants.{Full}

-- The line so far, what is left of the traversal limit, and whether each pointer could be read.
pub record Shown : Type 0 where
  pub text : List ℕ
  pub lim : Meter
  pub sound : Bool

-- These bytes are added to the line.
abbrev pub add : List ℕ → Shown → Shown
add xs s = record s { text = s.text ++ xs }

-- What comes before piece i of an array.
abbrev pub comma : ℕ → List ℕ
comma zero = []
comma (suc i) = codes ","

-- What begins the array of what the pointers of a list lead to, or those of a struct.
abbrev pub array_begin : Bool → List ℕ
array_begin true = codes "\"list\":["
array_begin false = codes "\"pointers\":["

-- k pointers from the place r on, the first of them number i. f writes one.
abbrev pub show_each : (Reading → Shown → Shown) → ℕ → ℕ → Reading → Shown → Shown
show_each f i zero r s = s
show_each f i (suc k) r s = show_each f (suc i) k (place_past r 1) (f r (add (comma i) s))

-- The array of n pointers of a list or of a struct, which ends an object.
abbrev pub show_array : (Reading → Shown → Shown) → Bool → ℕ → Reading → Shown → Shown
show_array f are_elements n r s =
    add (codes "]}") (show_each f 0 n r (add (array_begin are_elements) s))

-- The array of n pointers if none may be followed.
abbrev pub cut_text : Bool → ℕ → List ℕ
cut_text are_elements zero = array_begin are_elements ++ codes "]}"
cut_text are_elements (suc n) = codes "\"cut\":\"depth\"}"

-- What writes the array of pointers of an object.
abbrev pub ShowsArray : Type 0
ShowsArray = Bool → ℕ → Reading → Shown → Shown

-- The rest of the object of a struct of d data words and q pointers at the place r.
abbrev pub show_struct : ShowsArray → ℕ → ℕ → Reading → Shown → Shown
show_struct below d q r s =
    below false q (place_past r d) (add (data_member (words_from r d) ++ codes ",") s)

-- k elements of a list of structs from the place r on, the first of them number i.
abbrev pub show_elements : ShowsArray → ℕ → ℕ → ℕ → ℕ → Reading → Shown → Shown
show_elements below d q i zero r s = s
show_elements below d q i (suc k) r s =
    show_elements below d q (suc i) k (place_past r (d + q))
    (show_struct below d q r (add (codes "{") (add (comma i) s)))

-- The sizes of the elements of a list of structs.
abbrev pub sizes_members : ℕ → ℕ → List ℕ
sizes_members d q =
    member (codes "data_words") (decimal d) ++ codes ","
    ++ (member (codes "pointer_count") (decimal q) ++ codes ",")

-- The rest of the object of a list of n structs.
abbrev pub show_structs : ShowsArray → ℕ → ℕ → ℕ → Reading → Shown → Shown
show_structs below d q n r s =
    if nat_eq (d + q) 0 then
    add (member (codes "count") (decimal n) ++ codes "}") (add (sizes_members d q) s)
    else
    add (codes "]}")
    (show_elements below d q 0 n r (add (codes "\"structs\":[") (add (sizes_members d q) s)))

-- The rest of the object of what the pointer at the place r leads to.
abbrev pub show_object : ShowsArray → Reading → Shape → Shown → Shown
show_object below r nothing s = add (codes "}") s
show_object below r (capability i) s = add (member (codes "capability") (decimal i) ++ codes "}") s
show_object below r (struct g p d q) s = show_struct below d q (inside r g p) s
show_object below r (flat g p size n) s =
    add
    (flat_member size (unpacked size n (words_from (inside r g p) (words_for size n))) ++ codes "}") s
show_object below r (pointers g p n) s = below true n (inside r g p) s
show_object below r (structs g p d q n) s = show_structs below d q n (inside r g p) s

-- The rest of the object of a pointer that is refused with this name.
abbrev pub refusal_text : List ℕ → List ℕ
refusal_text name = member (codes "refused") (in_quotes name) ++ codes "}"

abbrev pub show_refusal : List ℕ → Shown → Shown
show_refusal name s = record s { text = s.text ++ refusal_text name; sound = false }

-- The rest of the object of a pointer if its object was read, or its refusal.
abbrev pub show_result : ShowsArray → Reading → Result Shape ErrorKind × Meter → Shown → Shown
show_result below r (Ok o, m) s = show_object below r o (record s { lim = m })
show_result below r (Err k, m) s = show_refusal (name_of k) (record s { lim = m })

-- What the pointer at the place r leads to.
abbrev pub show_place : ShowsArray → Reading → Shown → Shown
show_place below r s =
    if nat_eq (word_of r) 0 then add (codes "null") s
    else show_result below r (read Value r s.lim) (add (codes "{") s)

-- What writes the array of pointers of an object, at most d pointers below the one that leads there.
unfoldable pub array_within : ℕ → ShowsArray
array_within zero = λ are_elements n r s. add (cut_text are_elements n) s
array_within (suc d) = show_array (show_place (array_within d))

-- What the pointer at a place leads to, at most d pointers below it.
abbrev pub show_within : ℕ → Reading → Shown → Shown
show_within d r s = show_place (array_within d) r s

-- What is at the end of a path. An element of a list of structs is a struct.
abbrev pub show_end : ℕ → PathEnd → Shown → Shown
show_end d (to_pointer r) s = show_within d r s
show_end d (to_element r n q) s = show_struct (array_within d) n q r (add (codes "{") s)

-- What a path leads to, or the object of its refusal.
abbrev pub show_path : ℕ → Result PathEnd ErrorKind → Shown → Shown
show_path d (Ok e) s = show_end d e s
show_path d (Err k) s = show_refusal (name_of k) (add (codes "{") s)

-- A line of the program, as far as it is written.
abbrev pub shown_json : Json → Shown
shown_json json = record { text = json.text.bytes.items; lim = json.lim; sound = json.is_sound }

-- The line is without places.
pub record IsPlain (json : Json) : Type 0 where
  pub no_places : json.has_places ≡ false

-- A call has written s, and the line is still plain; or it was refused, as `Full` only if s is too
-- long.
pub record Shows {A : Type 0} (result : Result A Ended) (json : Json) (s : Shown) : Type 0 where
  pub plain : OnOk result (IsPlain json)
  pub written : OnOk result (shown_json json ≡ s)
  pub full : IfErr result (λ e. e ≡ Full → max_text < length s.text)
