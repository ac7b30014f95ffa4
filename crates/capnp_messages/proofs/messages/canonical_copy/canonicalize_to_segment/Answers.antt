use Rattle.std.proofs.Common.{◌≡◌, ◌∙◌, false, true, rules, sym}
use Rattle.capnp_arena_traits.proofs.MessageLemmas.{length-message}
use Rattle.capnp_words.specs.Names.{is_allocation_name}
use Rattle.capnp_messages.specs.PathEnds.{end_read}
use Rattle.capnp_messages.proofs.CanonLemmas.{end_copied, end_refused, end_spread, kept_room, root_null, root_there}
use Rattle.capnp_messages.proofs.EndRefusals.{refused_spread, refused_try, refused_unread}
use Rattle.capnp_messages.proofs.messages.canonical_copy.canonicalize_to_segment.Goals as goal

pub returns-then-is_lack_of_room-clause-refused : goal.returns-then-is_lack_of_room-clause-refused
returns-then-is_lack_of_room-clause-refused g c =
    let want : is_allocation_name c.in-Err.kind ≡ true = search rules in
    let e = end_read g.B.ReaderArena c.args.from in
    let (t, stop) = c.in-Err.ensures.refused in
    refused_try e c.args.left c.in-Err.kind _ c.args.room c.canonicalize_to_pointer.ensures.there c.requires.room want
    (end_refused e c.args.left _ _ _ c.canonicalize_to_pointer.new.lim t c.in-Err.kind c.canonicalize_to_pointer.ensures.there c.requires.root c.new-lim.ensures stop)

pub returns-else-is_lack_of_room-clause-refused : goal.returns-else-is_lack_of_room-clause-refused
returns-else-is_lack_of_room-clause-refused g c =
    let other : is_allocation_name c.in-Err.kind ≡ false = search rules in
    let e = end_read g.B.ReaderArena c.args.from in
    let (t, stop) = c.in-Err.ensures.refused in
    refused_unread e c.args.left c.in-Err.kind _ c.args.room other
    (end_refused e c.args.left _ _ _ c.canonicalize_to_pointer.new.lim t c.in-Err.kind c.canonicalize_to_pointer.ensures.there c.requires.root c.new-lim.ensures stop)

pub returns-then-len-eq1-clause-copied : goal.returns-then-len-eq1-clause-copied
returns-then-len-eq1-clause-copied g c =
    let (t, reads, holds) = end_copied (end_read g.B.ReaderArena c.args.from) c.args.left _ _ _ c.canonicalize_to_pointer.new.lim c.canonicalize_to_pointer.ensures.there c.requires.root c.new-lim.ensures c.in-Ok.ensures.copied in
    (t, reads, holds (length-message _ ∙ sym c.len.ensures ∙ c.if-len-eq1.true))

pub returns-then-len-eq1-clause-room : goal.returns-then-len-eq1-clause-room
returns-then-len-eq1-clause-room g c = kept_room _ _ c.requires.root c.in-Ok.ensures.copied.memory

pub returns-else-len-eq1-clause-refused : goal.returns-else-len-eq1-clause-refused
returns-else-len-eq1-clause-refused g c =
    let e = end_read g.B.ReaderArena c.args.from in
    let there = c.canonicalize_to_pointer.ensures.there in
    let (t, reads, holds) = end_copied e c.args.left _ _ _ c.canonicalize_to_pointer.new.lim there c.requires.root c.new-lim.ensures c.in-Ok.ensures.copied in
    refused_spread e c.args.left c.canonicalize_to_pointer.new.lim t _ c.args.room c.requires.room (end_spread e _ _ _ c.canonicalize_to_pointer.new.lim there c.requires.root c.in-Ok.ensures.copied) (λ one. c.if-len-eq1.false (c.len.ensures ∙ sym (length-message _) ∙ one)) reads

pub canonicalize_to_pointer-requires : goal.canonicalize_to_pointer-requires
canonicalize_to_pointer-requires g c = record { place = root_there _ c.requires.root; null = root_null _ c.requires.root }
