use Rattle.std.proofs.Common.{◌≢◌, ℕ, suc, ◌+◌, ◌*◌, ◌-◌, ◌≤◌, ◌++◌, true, false, length, refl, ap, sym, ◌∙◌, subst, arith, Ok, Err}
use Rattle.std.specs.Prelude.{codes}
use Rattle.hex.specs.Hex.{encode_lower}
use Rattle.capnp_pointers.specs.declared.object.Purpose.TheVariants.{Value}
use Rattle.capnp_pointers.specs.Enter.{object_shape}
use Rattle.capnp_pointers.specs.Objects.{IsObjectRead}
use Rattle.capnp_pointers.specs.Reading.{Reading, place_past, segment_read, word_of, words_from}
use Rattle.capnp_pointers.specs.Pointers.{reading}
use Rattle.capnp_messages.specs.Parts.{inside}
use Rattle.capnp_messages.proofs.PathLemmas.{inside_at, row_inside}
use Rattle.capnp_show.specs.Line.{data_member, in_quotes, member}
use Rattle.capnp_show.specs.Shown.{add, array_begin, array_within, show_elements, show_struct, show_structs, show_within, shown_json}
use Rattle.capnp_show.proofs.Adds.{adds_as}
use Rattle.capnp_show.proofs.Elements.{struct_data}
use Rattle.capnp_show.proofs.Grows.{elements_opened, elements_rest, structs_longer, within_longer}
use Rattle.capnp_show.proofs.ObjectLemmas.{flat_room, flat_same}
use Rattle.capnp_show.proofs.Steps.{array_begun, array_cut, array_opens, each_after, each_first, each_next, each_rest, each_whole, elements_first, elements_next, elements_whole, lim_plain, place_begun, place_null, place_written, push_after, push_shows, push_stops, push_then, rows_begun, rows_blank, rows_longer, rows_opened, shows_after, shows_as, shows_stops, shows_then}
use Rattle.capnp_show.proofs.show.json.+json.Goals as goal

-- ---- a pointer

pub write_pointed_value-returns-in_err-write_null_or_object : goal.write_pointed_value-returns-in_err-write_null_or_object
write_pointed_value-returns-in_err-write_null_or_object g t c =
    λ plain. shows_stops c.from_residual.result _ _ c.from_residual.ensures.1 (c.in_err-write_null_or_object.ensures plain) (omega arith)

pub write_pointed_value-returns : goal.write_pointed_value-returns
write_pointed_value-returns g t c =
    λ plain.
    let h = c.in_ok-write_null_or_object.ensures plain in
    shows_as h.written (c.stop_if_found.ensures h.plain)

pub write_null_or_object-returns-then-is_null : goal.write_null_or_object-returns-then-is_null
write_null_or_object-returns-then-is_null g t c =
    let r : Reading = reading g.A.ReaderArena c.args.from in
    λ plain. shows_as (sym (place_null (array_within c.args.depth) r (shown_json c.args.json.now) (c.if-is_null.ensures.0 refl))) (push_shows c.args.json.now c.push.new.self plain c.push.ensures)

pub write_null_or_object-returns-in_err-write_pointer : goal.write_null_or_object-returns-in_err-write_pointer
write_null_or_object-returns-in_err-write_pointer g t c =
    let r : Reading = reading g.A.ReaderArena c.args.from in
    let some : word_of r ≢ 0 = λ e. absurd (cc (c.if-is_null.ensures.1 e)) in
    λ plain. shows_stops c.from_residual.result _ _ c.from_residual.ensures.1 (c.in_err-write_pointer.ensures plain) (place_begun c.args.depth r (shown_json c.args.json.now) some)

pub write_null_or_object-returns-in-Ok : goal.write_null_or_object-returns-in-Ok
write_null_or_object-returns-in-Ok g t c =
    let r : Reading = reading g.A.ReaderArena c.args.from in
    let some : word_of r ≢ 0 = λ e. absurd (cc (c.if-is_null.ensures.1 e)) in
    λ plain.
    let begun = c.in_ok-write_pointer.ensures plain in
    place_written c.args.depth r (shown_json c.args.json.now) (Ok (object_shape c.in-Ok.object)) c.read.new.lim some begun c.in-Ok.ensures.computed (c.write_object.ensures (lim_plain c.read.new.lim begun.plain))

pub write_null_or_object-returns-in-Err : goal.write_null_or_object-returns-in-Err
write_null_or_object-returns-in-Err g t c =
    let r : Reading = reading g.A.ReaderArena c.args.from in
    let some : word_of r ≢ 0 = λ e. absurd (cc (c.if-is_null.ensures.1 e)) in
    λ plain.
    let begun = c.in_ok-write_pointer.ensures plain in
    place_written c.args.depth r (shown_json c.args.json.now) (Err c.in-Err.kind) c.read.new.lim some begun c.in-Err.ensures.computed
    (rw c.name.ensures at (c.write_refusal.ensures (lim_plain c.read.new.lim begun.plain)))

-- ---- an object

pub write_object-returns-in_err-write_start_of : goal.write_object-returns-in_err-write_start_of
write_object-returns-in_err-write_start_of g t c = λ plain. absurd (cc ((c.in_err-write_start_of.ensures plain).0))

pub write_object-returns-in-Null : goal.write_object-returns-in-Null
write_object-returns-in-Null g t c =
    λ plain. rw c.in-Null.is (push_after c.args.json.now c.write_start_of.new.self c.push.new.self ((c.in_ok-write_start_of.ensures plain).1) plain c.push.ensures)

pub write_object-returns-in-Capability : goal.write_object-returns-in-Capability
write_object-returns-in-Capability g t c =
    λ plain. rw c.in-Capability.is (push_after c.args.json.now c.write_start_of.new.self c.push_capability.new.self ((c.in_ok-write_start_of.ensures plain).1) plain c.push_capability.ensures)

pub write_object-returns-in-Flat : goal.write_object-returns-in-Flat
write_object-returns-in-Flat g t c =
    let r : Reading = reading g.A.ReaderArena c.args.from in
    let room = flat_room r c.in-Flat.start c.in-Flat.size c.in-Flat.count (subst (IsObjectRead Value r) c.in-Flat.is c.requires) in
    λ plain. rw c.in-Flat.is (push_after c.args.json.now c.write_start_of.new.self c.push_primitive_list.new.self ((c.in_ok-write_start_of.ensures plain).1) plain (rw (flat_same r c.in-Flat.start c.in-Flat.size c.in-Flat.count room.held) at c.push_primitive_list.ensures))

pub write_object-returns-in-Struct : goal.write_object-returns-in-Struct
write_object-returns-in-Struct g t c =
    let r : Reading = reading g.A.ReaderArena c.args.from in
    let at = inside_at g.A.ReaderArena c.args.from c.inside.result c.in-Struct.start c.inside.ensures.source c.inside.ensures.place c.inside.ensures.levels in
    λ plain. rw c.in-Struct.is (shows_after (show_struct (array_within c.args.depth) c.in-Struct.size.data_words c.in-Struct.size.pointers) (inside r c.in-Struct.start.segment c.in-Struct.start.at) _ c.args.json.now c.write_start_of.new.self at ((c.in_ok-write_start_of.ensures plain).1) plain c.write_sections.ensures)

pub write_object-returns-in-Pointers : goal.write_object-returns-in-Pointers
write_object-returns-in-Pointers g t c =
    let r : Reading = reading g.A.ReaderArena c.args.from in
    let at = inside_at g.A.ReaderArena c.args.from c.inside-in-Pointers.result c.in-Pointers.start c.inside-in-Pointers.ensures.source c.inside-in-Pointers.ensures.place c.inside-in-Pointers.ensures.levels in
    λ plain. rw c.in-Pointers.is (shows_after (array_within c.args.depth true c.in-Pointers.count) (inside r c.in-Pointers.start.segment c.in-Pointers.start.at) _ c.args.json.now c.write_start_of.new.self at ((c.in_ok-write_start_of.ensures plain).1) plain c.write_pointer_array.ensures)

pub write_object-returns-in-Structs : goal.write_object-returns-in-Structs
write_object-returns-in-Structs g t c =
    let r : Reading = reading g.A.ReaderArena c.args.from in
    let at = inside_at g.A.ReaderArena c.args.from c.inside-in-Structs.result c.in-Structs.start c.inside-in-Structs.ensures.source c.inside-in-Structs.ensures.place c.inside-in-Structs.ensures.levels in
    λ plain. rw c.in-Structs.is (shows_after (show_structs (array_within c.args.depth) c.in-Structs.size.data_words c.in-Structs.size.pointers c.in-Structs.count) (inside r c.in-Structs.start.segment c.in-Structs.start.at) _ c.args.json.now c.write_start_of.new.self at ((c.in_ok-write_start_of.ensures plain).1) plain c.write_struct_list.ensures)

-- ---- a struct

pub write_sections-returns-in_err-push_data_member : goal.write_sections-returns-in_err-push_data_member
write_sections-returns-in_err-push_data_member g t c =
    let r : Reading = reading g.A.ReaderArena c.args.start in
    let d : ℕ = c.args.size.data_words in
    let bytes = struct_data r c.args.start.place d c.from-words.result c.bytes_at-data.result.now c.args.start.held (omega (arith, c.requires.inside)) c.from-words.ensures c.bytes_at-data.ensures c.bytes_are_below_256.ensures in
    λ plain.
    push_stops c.args.json.now _ _ _ c.from_residual.ensures.1 (adds_as (ap (λ bs. member (codes "data") (in_quotes (encode_lower bs)) ++ codes ",") bytes) c.in_err-push_data_member.ensures)
    (within_longer c.args.depth false c.args.size.pointers (place_past r d) (add (data_member (words_from r d) ++ codes ",") (shown_json c.args.json.now)))

pub write_sections-returns : goal.write_sections-returns
write_sections-returns g t c =
    let r : Reading = reading g.A.ReaderArena c.args.start in
    let d : ℕ = c.args.size.data_words in
    let bytes = struct_data r c.args.start.place d c.from-words.result c.bytes_at-data.result.now c.args.start.held (omega (arith, c.requires.inside)) c.from-words.ensures c.bytes_at-data.ensures c.bytes_are_below_256.ensures in
    let at = c.past-first.ensures (omega (arith, c.from-words.ensures, c.requires.inside, c.args.start.held.1, c.args.start.held.2)) ∙ ap (place_past r) c.from-words.ensures in
    λ plain.
    let begun = push_shows c.args.json.now c.push_data_member.new.self plain (adds_as (ap (λ bs. member (codes "data") (in_quotes (encode_lower bs)) ++ codes ",") bytes) c.in_ok-push_data_member.ensures) in
    shows_then (array_within c.args.depth false c.args.size.pointers) (place_past r d) _ _ at begun (rw c.from.ensures at c.write_pointer_array.ensures)

-- ---- pointers

pub write_pointer_array-returns-then-depth-eq0 : goal.write_pointer_array-returns-then-depth-eq0
write_pointer_array-returns-then-depth-eq0 g t c =
    let r : Reading = reading g.A.ReaderArena c.args.first in
    λ plain. shows_as (sym (array_cut c.args.depth c.args.count c.args.are_elements r (shown_json c.args.json.now) c.if-depth-eq0.true)) (push_shows c.args.json.now c.push_unfollowed_pointers.new.self plain c.push_unfollowed_pointers.ensures)

pub write_pointer_array-returns-in_err-push_array_start : goal.write_pointer_array-returns-in_err-push_array_start
write_pointer_array-returns-in_err-push_array_start g t c =
    let r : Reading = reading g.A.ReaderArena c.args.first in
    λ plain. push_stops c.args.json.now _ _ _ c.from_residual.ensures.1 c.in_err-push_array_start.ensures (array_begun c.args.depth c.args.count c.args.are_elements r (shown_json c.args.json.now) (omega (arith, c.if-depth-eq0.false)))

pub write_pointer_array-loop-i-init : goal.write_pointer_array-loop-i-init
write_pointer_array-loop-i-init g t c =
    let r : Reading = reading g.A.ReaderArena c.args.first in
    λ plain.
    let begun = push_shows c.args.json.now c.push_array_start.new.self plain c.in_ok-push_array_start.ensures in
    (begun.plain, λ k e. each_first (show_within (c.args.depth - 1)) c.args.count k r (add (array_begin c.args.are_elements) (shown_json c.args.json.now)) _ e begun.written)

pub write_pointer_array-returns-in_err-begin_piece : goal.write_pointer_array-returns-in_err-begin_piece
write_pointer_array-returns-in_err-begin_piece g t c =
    let r : Reading = reading g.A.ReaderArena c.args.first in
    let i : ℕ = c.loop-i.i in
    λ plain.
    let (kept, so_far) = c.loop-i.invariant plain in
    let whole = each_whole c.args.depth c.args.count i c.args.are_elements r (shown_json c.args.json.now) (shown_json c.loop-i.json) (omega (arith, c.if-depth-eq0.false)) c.loop-i-test.true so_far in
    shows_stops c.from_residual-in_err-begin_piece.result _ _ c.from_residual-in_err-begin_piece.ensures.1 (c.in_err-begin_piece.ensures kept) (each_rest (c.args.depth - 1) i (c.args.count - suc i) (place_past r i) (shown_json c.loop-i.json) _ whole)

pub write_pointer_array-returns-in_err-write_pointed_value : goal.write_pointer_array-returns-in_err-write_pointed_value
write_pointer_array-returns-in_err-write_pointed_value g t c =
    let r : Reading = reading g.A.ReaderArena c.args.first in
    let i : ℕ = c.loop-i.i in
    let at = c.past.ensures (omega (arith, c.loop-i-test.true, c.requires.inside, c.args.first.held.1, c.args.first.held.2)) in
    λ plain.
    let (kept, so_far) = c.loop-i.invariant plain in
    let whole = each_whole c.args.depth c.args.count i c.args.are_elements r (shown_json c.args.json.now) (shown_json c.loop-i.json) (omega (arith, c.if-depth-eq0.false)) c.loop-i-test.true so_far in
    let one = shows_then (show_within (c.args.depth - 1)) (place_past r i) _ _ at (c.in_ok-begin_piece.ensures kept) c.in_err-write_pointed_value.ensures in
    shows_stops c.from_residual-in_err-write_pointed_value.result _ _ c.from_residual-in_err-write_pointed_value.ensures.1 one (each_after (c.args.depth - 1) i (c.args.count - suc i) (place_past r i) (shown_json c.loop-i.json) _ whole)

pub write_pointer_array-loop-i-preserved : goal.write_pointer_array-loop-i-preserved
write_pointer_array-loop-i-preserved g t c =
    let r : Reading = reading g.A.ReaderArena c.args.first in
    let i : ℕ = c.loop-i.i in
    let at = c.past.ensures (omega (arith, c.loop-i-test.true, c.requires.inside, c.args.first.held.1, c.args.first.held.2)) in
    λ plain.
    let (kept, so_far) = c.loop-i.invariant plain in
    let one = shows_then (show_within (c.args.depth - 1)) (place_past r i) _ _ at (c.in_ok-begin_piece.ensures kept) c.in_ok-write_pointed_value.ensures in
    (c.leave.ensures.plain one.plain, λ k e. each_next (show_within (c.args.depth - 1)) i c.args.count k r (shown_json c.loop-i.json) (shown_json c.leave.new.self) _ so_far e (c.leave.ensures.same ∙ one.written))

pub write_pointer_array-returns : goal.write_pointer_array-returns
write_pointer_array-returns g t c =
    let r : Reading = reading g.A.ReaderArena c.args.first in
    λ plain.
    let (kept, so_far) = c.loop-i.invariant plain in
    let last = so_far 0 (omega (arith, c.loop-i-test.false, c.loop-i.auto.i-end)) in
    shows_as (ap (add (codes "]}")) (sym last) ∙ sym (array_opens c.args.depth c.args.count c.args.are_elements r (shown_json c.args.json.now) (omega (arith, c.if-depth-eq0.false))))
    (push_shows c.loop-i.json c.push.new.self kept c.push.ensures)

-- ---- a list of structs

pub write_struct_list-returns-in_err-push_sizes : goal.write_struct_list-returns-in_err-push_sizes
write_struct_list-returns-in_err-push_sizes g t c =
    let r : Reading = reading g.A.ReaderArena c.args.first in
    λ plain. push_stops c.args.json.now _ _ _ c.from_residual.ensures.1 c.in_err-push_sizes.ensures (structs_longer (array_within c.args.depth) (within_longer c.args.depth) c.args.size.data_words c.args.size.pointers c.args.count r (shown_json c.args.json.now))

pub write_struct_list-returns-then-total-eq0 : goal.write_struct_list-returns-then-total-eq0
write_struct_list-returns-then-total-eq0 g t c =
    let r : Reading = reading g.A.ReaderArena c.args.first in
    let none = sym c.total.ensures ∙ c.if-total-eq0.true in
    λ plain.
    let sizes = push_shows c.args.json.now c.push_sizes.new.self plain c.in_ok-push_sizes.ensures in
    shows_as (sym (rows_blank (array_within c.args.depth) c.args.size.data_words c.args.size.pointers c.args.count r (shown_json c.args.json.now) none)) (push_then _ c.push_count.new.self _ sizes c.push_count.ensures)

pub write_struct_list-returns-in_err-push : goal.write_struct_list-returns-in_err-push
write_struct_list-returns-in_err-push g t c =
    let r : Reading = reading g.A.ReaderArena c.args.first in
    let some : c.args.size.data_words + c.args.size.pointers ≢ 0 = λ e. c.if-total-eq0.false (c.total.ensures ∙ e) in
    λ plain.
    let sizes = push_shows c.args.json.now c.push_sizes.new.self plain c.in_ok-push_sizes.ensures in
    shows_stops c.from_residual-in_err-push.result _ _ c.from_residual-in_err-push.ensures.1 (push_then _ c.push.new.self _ sizes c.in_err-push.ensures) (rows_begun c.args.depth c.args.size.data_words c.args.size.pointers c.args.count r (shown_json c.args.json.now) some)

pub write_struct_list-returns-in_err-write_struct_elements : goal.write_struct_list-returns-in_err-write_struct_elements
write_struct_list-returns-in_err-write_struct_elements g t c =
    let r : Reading = reading g.A.ReaderArena c.args.first in
    let d : ℕ = c.args.size.data_words in
    let q : ℕ = c.args.size.pointers in
    let some : d + q ≢ 0 = λ e. c.if-total-eq0.false (c.total.ensures ∙ e) in
    λ plain.
    let sizes = push_shows c.args.json.now c.push_sizes.new.self plain c.in_ok-push_sizes.ensures in
    let begun = push_then _ c.push.new.self _ sizes c.in_ok-push.ensures in
    let rows = shows_then (show_elements (array_within c.args.depth) d q 0 c.args.count) r r _ refl begun c.in_err-write_struct_elements.ensures in
    shows_stops c.from_residual-in_err-write_struct_elements.result _ _ c.from_residual-in_err-write_struct_elements.ensures.1 rows (rows_longer c.args.depth d q c.args.count r (shown_json c.args.json.now) some)

pub write_struct_list-returns : goal.write_struct_list-returns
write_struct_list-returns g t c =
    let r : Reading = reading g.A.ReaderArena c.args.first in
    let d : ℕ = c.args.size.data_words in
    let q : ℕ = c.args.size.pointers in
    let some : d + q ≢ 0 = λ e. c.if-total-eq0.false (c.total.ensures ∙ e) in
    λ plain.
    let sizes = push_shows c.args.json.now c.push_sizes.new.self plain c.in_ok-push_sizes.ensures in
    let begun = push_then _ c.push.new.self _ sizes c.in_ok-push.ensures in
    let rows = shows_then (show_elements (array_within c.args.depth) d q 0 c.args.count) r r _ refl begun c.in_ok-write_struct_elements.ensures in
    shows_as (sym (rows_opened c.args.depth d q c.args.count r (shown_json c.args.json.now) some)) (push_then _ c.push-2.new.self _ rows c.push-2.ensures)

-- ---- elements

pub write_struct_elements-loop-i-init : goal.write_struct_elements-loop-i-init
write_struct_elements-loop-i-init g t c =
    let r : Reading = reading g.A.ReaderArena c.args.first in
    λ plain. (plain, λ k e. elements_first (array_within c.args.depth) c.args.size.data_words c.args.size.pointers c.args.count k r (shown_json c.args.json.now) e)

pub write_struct_elements-returns-in_err-start : goal.write_struct_elements-returns-in_err-start
write_struct_elements-returns-in_err-start g t c =
    let r : Reading = reading g.A.ReaderArena c.args.first in
    let d : ℕ = c.args.size.data_words in
    let q : ℕ = c.args.size.pointers in
    let i : ℕ = c.loop-i.i in
    let below = array_within c.args.depth in
    λ plain.
    let (kept, so_far) = c.loop-i.invariant plain in
    let whole = elements_whole below d q c.args.count i r (shown_json c.args.json.now) (shown_json c.loop-i.json) c.loop-i-test.true so_far in
    shows_stops c.from_residual.result _ _ c.from_residual.ensures.1 (c.in_err-start.ensures kept) (elements_opened below (within_longer c.args.depth) d q i (c.args.count - suc i) (place_past r (i * (d + q))) (shown_json c.loop-i.json) _ whole)

pub write_struct_elements-returns-in_err-write_sections : goal.write_struct_elements-returns-in_err-write_sections
write_struct_elements-returns-in_err-write_sections g t c =
    let r : Reading = reading g.A.ReaderArena c.args.first in
    let d : ℕ = c.args.size.data_words in
    let q : ℕ = c.args.size.pointers in
    let i : ℕ = c.loop-i.i in
    let below = array_within c.args.depth in
    let room = row_inside c.args.first.place.at c.args.count i c.total.result d q _ c.requires.inside c.loop-i-test.true c.total.ensures in
    let at = c.past-element.ensures (omega (arith, room, c.args.first.held.1, c.args.first.held.2)) ∙ ap (λ w. place_past r (i * w)) c.total.ensures in
    λ plain.
    let (kept, so_far) = c.loop-i.invariant plain in
    let whole = elements_whole below d q c.args.count i r (shown_json c.args.json.now) (shown_json c.loop-i.json) c.loop-i-test.true so_far in
    let one = shows_then (show_struct below d q) (place_past r (i * (d + q))) _ _ at (c.in_ok-start.ensures kept) c.in_err-write_sections.ensures in
    shows_stops c.from_residual-in_err-write_sections.result _ _ c.from_residual-in_err-write_sections.ensures.1 one (elements_rest below (within_longer c.args.depth) d q i (c.args.count - suc i) (place_past r (i * (d + q))) (shown_json c.loop-i.json) _ whole)

pub write_struct_elements-returns-in_err-end_element : goal.write_struct_elements-returns-in_err-end_element
write_struct_elements-returns-in_err-end_element g t c =
    let r : Reading = reading g.A.ReaderArena c.args.first in
    let d : ℕ = c.args.size.data_words in
    let q : ℕ = c.args.size.pointers in
    let i : ℕ = c.loop-i.i in
    let below = array_within c.args.depth in
    let room = row_inside c.args.first.place.at c.args.count i c.total.result d q _ c.requires.inside c.loop-i-test.true c.total.ensures in
    let at = c.past-element.ensures (omega (arith, room, c.args.first.held.1, c.args.first.held.2)) ∙ ap (λ w. place_past r (i * w)) c.total.ensures in
    λ plain.
    let (kept, so_far) = c.loop-i.invariant plain in
    let whole = elements_whole below d q c.args.count i r (shown_json c.args.json.now) (shown_json c.loop-i.json) c.loop-i-test.true so_far in
    let one = shows_then (show_struct below d q) (place_past r (i * (d + q))) _ _ at (c.in_ok-start.ensures kept) c.in_ok-write_sections.ensures in
    shows_stops c.from_residual-in_err-end_element.result _ _ c.from_residual-in_err-end_element.ensures.1 (shows_as one.written (c.in_err-end_element.ensures one.plain)) (elements_rest below (within_longer c.args.depth) d q i (c.args.count - suc i) (place_past r (i * (d + q))) (shown_json c.loop-i.json) _ whole)

pub write_struct_elements-loop-i-preserved : goal.write_struct_elements-loop-i-preserved
write_struct_elements-loop-i-preserved g t c =
    let r : Reading = reading g.A.ReaderArena c.args.first in
    let d : ℕ = c.args.size.data_words in
    let q : ℕ = c.args.size.pointers in
    let i : ℕ = c.loop-i.i in
    let below = array_within c.args.depth in
    let room = row_inside c.args.first.place.at c.args.count i c.total.result d q _ c.requires.inside c.loop-i-test.true c.total.ensures in
    let at = c.past-element.ensures (omega (arith, room, c.args.first.held.1, c.args.first.held.2)) ∙ ap (λ w. place_past r (i * w)) c.total.ensures in
    λ plain.
    let (kept, so_far) = c.loop-i.invariant plain in
    let one = shows_then (show_struct below d q) (place_past r (i * (d + q))) _ _ at (c.in_ok-start.ensures kept) c.in_ok-write_sections.ensures in
    let ended = shows_as one.written (c.in_ok-end_element.ensures one.plain) in
    (ended.plain, λ k e. elements_next below d q i c.args.count k r (shown_json c.loop-i.json) (shown_json c.end_element.new.self) _ so_far e ended.written)

pub write_struct_elements-write_sections-requires : goal.write_struct_elements-write_sections-requires
write_struct_elements-write_sections-requires g t c κs within =
    let r : Reading = reading g.A.ReaderArena c.args.first in
    let d : ℕ = c.args.size.data_words in
    let q : ℕ = c.args.size.pointers in
    let i : ℕ = c.loop-i.i in
    let room = row_inside c.args.first.place.at c.args.count i c.total.result d q _ c.requires.inside c.loop-i-test.true c.total.ensures in
    let at = c.past-element.ensures (omega (arith, room, c.args.first.held.1, c.args.first.held.2)) ∙ ap (λ w. place_past r (i * w)) c.total.ensures in
    let there = row_inside c.args.first.place.at c.args.count i (d + q) d q _ c.requires.inside c.loop-i-test.true refl in
    (omega (arith, c.decreases), (within, subst (λ (z : Reading). z.at + (d + q) ≤ length (segment_read z)) (sym at) there))

pub write_struct_elements-returns : goal.write_struct_elements-returns
write_struct_elements-returns g t c =
    λ plain.
    let (kept, so_far) = c.loop-i.invariant plain in
    let last = so_far 0 (omega (arith, c.loop-i-test.false, c.loop-i.auto.i-end)) in
    record { plain = kept; written = sym last; full = tt }
