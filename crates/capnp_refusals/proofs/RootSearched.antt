-- The search of a message is that of what its root leads to.
use Rattle.std.proofs.Common.{◌≡◌, Some, Ok, ap, ◌∙◌, subst}
use Rattle.capnp_words.specs.declared.error.ErrorKind.{ErrorKind}
use Rattle.capnp_words.specs.Meter.{Meter, unused}
use Rattle.capnp_format.specs.Segments.{Segments}
use Rattle.capnp_arena.specs.declared.arena.reader_arena_impl.ReaderOptions.{ReaderOptions}
use Rattle.capnp_pointers.specs.Reading.{Reading}
use Rattle.capnp_pointers.specs.Source.{levels}
use Rattle.capnp_messages.specs.Messages.{root_within}
use Rattle.capnp_messages.specs.Roots.{RefusesRoot}
use Rattle.capnp_messages.proofs.MessageLemmas.{AtRoot}
use Rattle.capnp_messages.proofs.SizeLemmas.{root_is, root_stops}
use Rattle.capnp_refusals.specs.RefusedPointers.{finding, message_searched}
use Rattle.capnp_refusals.specs.Search.{Finding, refused_at, search_on, search_place}
use Rattle.capnp_refusals.specs.declared.refusals.search.Demands.{Demands}

-- What a search at the root finds.
pub searched_at_root : (d : Demands) {S : Segments} {limits : ReaderOptions} {r : Reading} {m m' : Meter} {found : Finding} →
    AtRoot S limits r m → search_place d r m ≡ (Ok found, m') → finding (message_searched d S (levels limits.nesting_limit) (unused limits.traversal_limit_in_words)).0 ≡ found
searched_at_root d {S} {limits} {r} {m} {m'} {found} root e =
    let placed = subst (λ (x : Reading). search_place d x m ≡ (Ok found, m')) root.place e in
    let read = subst (λ (x : Meter). search_place d (root_within S limits) x ≡ (Ok found, m')) root.left placed in
    ap (λ o. finding (search_on (root_within S limits) (search_place d) o).0) (root_is S (levels limits.nesting_limit) limits.traversal_limit_in_words root.covers) ∙ ap (λ o. finding o.0) read

-- The root pointer itself is refused.
pub searched_without_root : (d : Demands) (limits : ReaderOptions) {S T : Segments} {before : Meter} {k : ErrorKind} →
    T ≡ S → before ≡ unused limits.traversal_limit_in_words → RefusesRoot T before.left k →
    finding (message_searched d S (levels limits.nesting_limit) (unused limits.traversal_limit_in_words)).0 ≡ Some (refused_at (root_within S limits) k)
searched_without_root d limits {S} {T} {before} {k} same begun refused =
    let there = subst (λ (X : Segments). RefusesRoot X before.left k) same refused in
    let here : RefusesRoot S limits.traversal_limit_in_words k = subst (λ (x : Meter). RefusesRoot S x.left k) begun there in
    ap (λ o. finding (search_on (root_within S limits) (search_place d) o).0) (root_stops S (levels limits.nesting_limit) limits.traversal_limit_in_words k here)
