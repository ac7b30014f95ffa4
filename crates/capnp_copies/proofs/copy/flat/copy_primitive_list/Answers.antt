use Rattle.std.proofs.Common.{◌≡◌, ◌+◌, ◌<◌, ◌*◌, ◌%◌, ◌^◌, ◌≤◌, ℕ, List, length, replicate, cond, sym, ap, ap₂, ◌∙◌, subst, arith, ne_eqb, pow_pos}
use Rattle.capnp_format.specs.Bytes.{words_of}
use Rattle.std.proofs.lemmas.Bool.{false≢true}
use Rattle.capnp_format.specs.Numbers.{unpacked, packed, words_for, from_digits, digits, element_bits}
use Rattle.capnp_format.specs.Segments.{Segments, segment}
use Rattle.capnp_format.specs.Tree.{Null, Pointers, Flat}
use Rattle.capnp_format.proofs.Bounds.{digits_below}
use Rattle.capnp_format.proofs.Digits.{length-digits}
use Rattle.capnp_arena_traits.specs.View.{View}
use Rattle.capnp_arena_traits.specs.Written.{with_words}
use Rattle.capnp_allocation.specs.Made.{words_of_zero, nulls, list_words}
use Rattle.capnp_allocation.specs.Memory.{RefusesWords}
use Rattle.capnp_allocation.specs.Stored.{IsReplaced}
use Rattle.capnp_allocation.proofs.FillingMade.{IsBegun, flat_whole}
use Rattle.capnp_allocation.proofs.Memory.{words_in, made_refused}
use Rattle.capnp_allocation.proofs.WordsPut.{words_put}
use Rattle.capnp_words.specs.Sizes.{size_number}
use Rattle.capnp_format.specs.Word.{list_word}
use Rattle.capnp_allocation.specs.Near.{HasOwnRoom, offset_to_end, with_object}
use Rattle.std.proofs.lemmas.Result.{err_from_is_err_and}
use Rattle.capnp_copies.proofs.Copying.{there}
use Rattle.capnp_copies.proofs.ObjectsMade.{Begins}
use Rattle.capnp_copies.proofs.Growth.{none_written, none_refused, made_none, made_more, made_object}
use Rattle.capnp_copies.proofs.StayingNear.{stay_fewer, own_room}
use Rattle.capnp_copies.proofs.TightFlat.{flat_near}
use Rattle.capnp_copies.proofs.Padding.{packed_again}
use Rattle.capnp_copies.proofs.copy.flat.copy_primitive_list.Goals as goal

-- The list is made, all zero, and its elements are written.
pub returns-clause-copied : goal.returns-clause-copied
returns-clause-copied g c =
    let S : Segments = (g.A.BuilderArena.view c.args.arena.now).words in
    let M : Segments = (g.A.BuilderArena.view c.make_list.new.arena).words in
    let R : Segments = (g.A.BuilderArena.view c.put_elements.new.arena).words in
    let size : ℕ = size_number c.args.size in
    let n : ℕ = c.args.count in
    let b : ℕ = element_bits size in
    let ws : List ℕ = words_of c.args.elements.now in
    let ns : List ℕ = unpacked size n ws in
    let bits : ℕ = c.from.result * c.from-2.result in
    let f : ℕ = from_digits (2 ^ 64) ws in
    let all : bits ≡ n * b = ap₂ (λ i j. i * j) c.from.ensures (c.from-2.ensures ∙ c.data_bits_per_element.ensures) in
    let packs : digits (2 ^ 64) (length ws) (f % 2 ^ bits) ≡ packed size ns = ap₂ (λ i j. digits (2 ^ 64) i (f % 2 ^ j)) c.requires.all all ∙ sym (packed_again size n ws) in
    let other = ne_eqb size 6 (λ e. omega (arith, c.requires.flat)) in
    let made = subst (λ x. IsReplaced S M c.args.to.segment c.args.to.at Null (cond x (Pointers (nulls n)) (Flat size (words_of_zero n)))) other c.in_ok-start.ensures.made in
    let inside = subst (λ x. (c.in_ok-start.start.segment < length M) × (c.in_ok-start.start.at + cond x n (words_for size n) ≤ length (segment M c.in_ok-start.start.segment))) other c.in_ok-start.ensures.start.inside in
    let begun : IsBegun S M c.args.to.segment c.args.to.at (words_for size n) c.in_ok-start.start (Flat size (words_of_zero n)) = record { made = made; start = c.in_ok-start.ensures.start.leads; inside = inside } in
    flat_whole S M R c.args.to.segment c.args.to.at size n c.in_ok-start.start ns begun (length-digits (2 ^ b) n f) (digits_below (2 ^ b) n f (pow_pos b))
    (ap words_in c.put_elements.ensures ∙ ap (with_words M c.in_ok-start.start.segment c.in_ok-start.start.at) packs)

-- If the list fits, it is made near its pointer.
pub returns-clause-stands : goal.returns-clause-stands
returns-clause-stands g c = λ fits.
    (let S : Segments = (g.A.BuilderArena.view c.args.arena.now).words in
    let id : ℕ = c.args.to.segment in
    let size : ℕ = size_number c.args.size in
    let n : ℕ = c.args.count in
    let b : ℕ = element_bits size in
    let ws : List ℕ = words_of c.args.elements.now in
    let ns : List ℕ = unpacked size n ws in
    let bits : ℕ = c.from.result * c.from-2.result in
    let f : ℕ = from_digits (2 ^ 64) ws in
    let D : List ℕ = digits (2 ^ 64) (length ws) (f % 2 ^ bits) in
    let all : bits ≡ n * b = ap₂ (λ i j. i * j) c.from.ensures (c.from-2.ensures ∙ c.data_bits_per_element.ensures) in
    let packs : D ≡ packed size ns = ap₂ (λ i j. digits (2 ^ 64) i (f % 2 ^ j)) c.requires.all all ∙ sym (packed_again size n ws) in
    let counts : length ns ≡ n = length-digits (2 ^ b) n f in
    let other = ne_eqb size 6 (λ e. omega (arith, c.requires.flat)) in
    let list : list_words size n ≡ words_for size n = ap (λ x. cond x n (words_for size n)) other in
    let old : View = g.A.BuilderArena.view c.args.arena.now in
    let mid : View = g.A.BuilderArena.view c.make_list.new.arena in
    let new : View = g.A.BuilderArena.view c.put_elements.new.arena in
    let laid = words_put mid.words new.words c.in_ok-start.start.segment c.in_ok-start.start.at D (omega (arith, c.in_ok-start.ensures.start.inside.1, length-digits (2 ^ 64) (length ws) (f % 2 ^ bits), c.requires.all, list)) (ap words_in c.put_elements.ensures) in
    let longer : length mid.words ≤ length new.words = omega (arith, laid.long.segments) in
    let room : HasOwnRoom old id (list_words size n) =
    own_room old mid new id c.args.to.at (list_words size n) c.requires.place c.in_ok-start.ensures.memory.taken longer (stay_fewer old new id (words_for size (length ns)) (list_words size n) (omega (arith, ap (words_for size) counts, list)) fits) in
    flat_near S id c.args.to.at size ns D c.requires.place (length-digits (2 ^ 64) (length ws) (f % 2 ^ bits) ∙ c.requires.all ∙ ap (words_for size) (sym counts)) packs
    (ap words_in c.put_elements.ensures
    ∙ ap₂ (λ i k. with_words (g.A.BuilderArena.view c.make_list.new.arena).words i k D) (c.in_ok-start.ensures.at_end room).0 (c.in_ok-start.ensures.at_end room).1
    ∙ ap (λ T. with_words T id (length (segment S id)) D)
    (c.in_ok-start.ensures.near room ∙ ap₂ (λ i k. with_object S id c.args.to.at (list_word (offset_to_end S id c.args.to.at) size i) (replicate k 0)) (sym counts) (list ∙ ap (words_for size) (sym counts)))))

pub returns-clause-taken : goal.returns-clause-taken
returns-clause-taken g c =
    let old : View = g.A.BuilderArena.view c.args.arena.now in
    let mid : View = g.A.BuilderArena.view c.make_list.new.arena in
    let new : View = g.A.BuilderArena.view c.put_elements.new.arena in
    let size : ℕ = size_number c.args.size in
    let n : ℕ = c.args.count in
    let ws : List ℕ = words_of c.args.elements.now in
    let D : List ℕ = digits (2 ^ 64) (length ws) (from_digits (2 ^ 64) ws % 2 ^ (c.from.result * c.from-2.result)) in
    let other = ne_eqb size 6 (λ e. omega (arith, c.requires.flat)) in
    let list : list_words size n ≡ words_for size n = ap (λ x. cond x n (words_for size n)) other in
    let start = c.in_ok-start.start in
    let e = c.in_ok-start.ensures in
    let over = none_written mid new start.segment start.at D (omega (arith, e.start.inside.1, length-digits (2 ^ 64) (length ws) (from_digits (2 ^ 64) ws % 2 ^ (c.from.result * c.from-2.result)), c.requires.all, list)) c.put_elements.ensures in
    let begun : Begins c.args.to.segment start.segment (list_words size n) old mid = record { there = there old.words c.args.to.segment c.args.to.at c.requires.place; taken = e.memory.taken; memory = e.memory.granted; near = λ room. (e.at_end room).0; far = λ full. (e.start.behind.far full).0 } in
    made_more (omega (arith, list)) (omega arith) (made_object begun (made_none over))

pub returns-in_err-start-clause-taken : goal.returns-in_err-start-clause-taken
returns-in_err-start-clause-taken g c =
    let p = err_from_is_err_and c.from_residual.result c.from_residual.ensures.1 in
    rw p.1 (none_refused (g.A.BuilderArena.view c.args.arena.now) (g.A.BuilderArena.view c.make_list.new.arena) (list_words (size_number c.args.size) c.args.count) c.in_err-start.field-0.0 c.in_err-start.ensures.memory.named c.in_err-start.ensures.refused)

pub returns-in_err-start-clause-refused : goal.returns-in_err-start-clause-refused
returns-in_err-start-clause-refused g c =
    let old : View = g.A.BuilderArena.view c.args.arena.now in
    let new : View = g.A.BuilderArena.view c.make_list.new.arena in
    let size : ℕ = size_number c.args.size in
    let n : ℕ = c.args.count in
    let other = ne_eqb size 6 (λ e. omega (arith, c.requires.flat)) in
    let list : list_words size n ≡ words_for size n = ap (λ x. cond x n (words_for size n)) other in
    let p = err_from_is_err_and c.from_residual.result c.from_residual.ensures.1 in
    rw (p.1, p.2) (subst (λ i. RefusesWords old new i c.in_err-start.field-0.0) list
    (made_refused old new c.args.to.segment (list_words size n) c.in_err-start.field-0.0 c.in_err-start.ensures.memory.named c.in_err-start.ensures.refused (λ room. absurd (false≢true (c.in_err-start.ensures.memory.fits room)))).0)
