-- A canonical copy as a function: of what is at the end of a path, and of a whole message
-- ("Canonicalization").
use Rattle.std.specs.Prelude.{ℕ, List, Result, nat_le, length}
use Rattle.capnp_words.specs.declared.error.ErrorKind.{ErrorKind}
use Rattle.capnp_words.specs.declared.error.ErrorKind.TheVariants.{MessageTooLarge}
use Rattle.capnp_words.specs.Meter.{Meter, unused}
use Rattle.capnp_format.specs.Canonical.{encoding, trim}
use Rattle.capnp_format.specs.Segments.{Segments}
use Rattle.capnp_format.specs.Tree.{Tree, Struct}
use Rattle.capnp_arena_traits.specs.Allocations.{max_segment_words}
use Rattle.capnp_arena.specs.declared.arena.reader_arena_impl.ReaderOptions.{ReaderOptions}
use Rattle.capnp_pointers.specs.Metered.{Metered, answer, demand, onward, ◌>>>◌}
use Rattle.capnp_pointers.specs.Reading.{place_past, words_from}
use Rattle.capnp_pointers.specs.Source.{levels}
use Rattle.capnp_pointers.specs.Values.{read_values, value}
use Rattle.capnp_pointers.specs.Wanted.{Form, canonical}
use Rattle.capnp_messages.specs.Parts.{PathEnd, to_element, to_pointer}
use Rattle.capnp_messages.specs.Roots.{read_message_root}

-- Reads the value at the end of a path. The words of an element were charged with its list: only
-- its pointers are read.
abbrev pub end_value : Form → PathEnd → Metered Tree
end_value form (to_pointer r) = value form r
end_value form (to_element r d q) =
    read_values (value form) q (place_past r d) >>> λ ts. answer (Struct (words_from r d) ts)

-- Reads the value at the end of a path in canonical form, and makes its canonical words. A segment
-- of `room` words has to hold them.
abbrev pub canonical_words : ℕ → PathEnd → Metered (List ℕ)
canonical_words room e =
    end_value canonical e >>> λ t. let words = encoding (trim t) in
    demand (nat_le (length words) room) (MessageTooLarge room) >>> λ _. answer words

-- The root pointer of S as the end of a path, read within the limits; or the refusal.
abbrev pub root_end : Segments → ReaderOptions → Result PathEnd ErrorKind × Meter
root_end S limits =
    (read_message_root S (levels limits.nesting_limit) >>> λ r. answer (to_pointer r))
    (unused limits.traversal_limit_in_words)

-- The value of S in canonical form within the limits, or the refusal: the root pointer is read, and
-- then the value that it leads to.
abbrev pub canonical_value : Segments → ReaderOptions → Result Tree ErrorKind
canonical_value S limits = (onward (end_value canonical) (root_end S limits)).0

-- The canonical words of S within the limits, or the refusal: as for its value; at the end, the
-- words have to fit in a segment.
abbrev pub canonicalize : Segments → ReaderOptions → Result (List ℕ) ErrorKind
canonicalize S limits = (onward (canonical_words max_segment_words) (root_end S limits)).0
