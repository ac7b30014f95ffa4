-- What a builder call returns that looks for a list, a text or data ("Lists").
use Rattle.std.specs.Prelude.{◌≡◌, ℕ, List, Option, Some, None, Result, Ok, Err}
use Rattle.std.specs.Borrow.{Bor}
use Rattle.capnp_format.specs.Forest.{target}
use Rattle.capnp_format.specs.Segments.{Target}
use Rattle.capnp_format.specs.Tree.{Tree}
use Rattle.capnp_words.specs.declared.wire_pointer.ElementSize.{ElementSize}
use Rattle.capnp_words.specs.declared.wire_pointer.ElementSize.TheVariants.{Void}
use Rattle.capnp_words.specs.declared.error.ErrorKind.{ErrorKind}
use Rattle.capnp_in_place.specs.Existing.{list_in}
use Rattle.capnp_in_place.specs.declared.existing.ExistingBytes.{ExistingBytes}
use Rattle.capnp_in_place.specs.declared.existing.ExistingList.{ExistingList}
use Rattle.capnp_readers.specs.declared.readers.list_reader.ListPlace.{ListPlace}
use Rattle.capnp_allocation.specs.Makes.{CallAt}
use Rattle.capnp_builders.specs.Defaults.{object_default, blob_default, WithDefault}
use Rattle.capnp_builders.specs.Places.{list_place}

-- An empty list of void, in segment id.
abbrev pub void_list : ℕ → ListPlace
void_list id =
    record {
      segment = id;
      byte = 0;
      size = Void;
      struct_size = record { data_words = 0; pointers = 0 };
      count = 0;
    }

-- What a call returns at a pointer of segment id, by what is found: an empty list, or no bytes, if
-- that is null.
abbrev pub list_given : ℕ → Result (Option ExistingList) ErrorKind → Result ListPlace ErrorKind
list_given id (Ok (Some l)) = Ok (list_place l)
list_given id (Ok None) = Ok (void_list id)
list_given id (Err k) = Err k

abbrev pub bytes_given : ℕ → Result (Option ExistingBytes) ErrorKind → Result ExistingBytes ErrorKind
bytes_given id (Ok (Some b)) = Ok b
bytes_given id (Ok None) = Ok (record { segment = id; start = 0; length = 0 })
bytes_given id (Err k) = Err k

-- The call puts its default in place of null, if it has to. Then it returns the list that is found
-- there, or the bytes of a data or text, and changes nothing.
abbrev pub FindsList : ElementSize → Option (Bor (List ℕ)) → Result ListPlace ErrorKind → CallAt →
    Tree → Type 0
FindsList size default result c t =
    WithDefault (object_default default t) c t
    (λ d u. (result ≡ list_given d.segment (list_in (target d.old.words d.segment d.at) size u)) ×
    (d.new ≡ d.old)) result

abbrev pub FindsBytes :
    (Target → Tree → Result (Option ExistingBytes) ErrorKind) → Option (Bor (List ℕ)) →
    Result ExistingBytes ErrorKind → CallAt → Tree → Type 0
FindsBytes found_in default result c t =
    WithDefault (blob_default default t) c t
    (λ d u. (result ≡ bytes_given d.segment (found_in (target d.old.words d.segment d.at) u)) ×
    (d.new ≡ d.old)) result
