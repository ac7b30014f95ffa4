-- The reading of a struct or a list that can be read doesn't stop.
use Rattle.std.proofs.Common.{ℕ, List}
use Rattle.capnp_words.specs.Meter.{Meter}
use Rattle.capnp_words.specs.declared.wire_pointer.StructSize.{StructSize}
use Rattle.capnp_words.specs.declared.wire_pointer.ElementSize.{ElementSize}
use Rattle.capnp_words.specs.declared.wire_pointer.ElementSize.TheVariants.{Void, Bit, Byte, TwoBytes, FourBytes, EightBytes, Pointer, InlineComposite}
use Rattle.capnp_pointers.specs.Reading.{Reading}
use Rattle.capnp_pointers.specs.Wanted.{Form}
use Rattle.capnp_pointers.proofs.WholeValue.ChildrenRead.{read_stop, read_element_stop}
use Rattle.capnp_pointers.proofs.WholeValue.UnreadableIfRefused.{unreadable}
use Rattle.capnp_copies.specs.Originals.{sections_original, list_original}
use Rattle.capnp_copies.proofs.Cleared.{StopsOrReads}

pub sections_apart : (ws : List ℕ) (r : Reading) (q : ℕ) (form : Form) (m m' : Meter) → StopsOrReads (sections_original ws r q) form m m'
sections_apart ws r q form m m' k i t refused h = (read_stop _ refused.are_read refused.fewer (unreadable refused.stops)).only h.0 h.3.cost h.2 h.3.means h.3.takes h.3.covers

pub list_apart : (size : ElementSize) (sections : StructSize) (n : ℕ) (r : Reading) (form : Form) (m m' : Meter) → StopsOrReads (list_original size sections n r) form m m'
list_apart Pointer sections n r form m m' k i t refused h = (read_stop _ refused.are_read refused.fewer (unreadable refused.stops)).only h.0 h.3.cost h.2 h.3.means h.3.takes h.3.covers
list_apart InlineComposite sections n r form m m' k i t refused h =
    let row = read_stop _ refused.stops.are_read refused.stops.fewer (unreadable refused.stops.stops) in
    (read_element_stop _ refused.are_read refused.fewer row).only h.0 h.3.cost h.2 h.3.means h.3.takes h.3.covers
list_apart Void sections n r form m m' k i t refused h = refused
list_apart Bit sections n r form m m' k i t refused h = refused
list_apart Byte sections n r form m m' k i t refused h = refused
list_apart TwoBytes sections n r form m m' k i t refused h = refused
list_apart FourBytes sections n r form m m' k i t refused h = refused
list_apart EightBytes sections n r form m m' k i t refused h = refused
