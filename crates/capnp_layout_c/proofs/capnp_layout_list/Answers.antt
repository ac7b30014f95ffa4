use Rattle.std.proofs.Common.{Some, ◌-◌, ap, arith, refl, w32}
use Rattle.capnp_pointers.specs.Reading.{Reading}
use Rattle.std.proofs.lemmas.Int.{to_z-of_z}
use Rattle.std.proofs.lemmas.Bool.{false≢true}
use Rattle.capnp_layout_c.specs.Lent.{lent, lent_pointer, words_left}
use Rattle.capnp_layout_c.proofs.Insides.{list_inside}
use Rattle.capnp_layout_c.proofs.OwnPlace.{expected_at, expected_there, refused_at}
use Rattle.capnp_layout_c.proofs.Unlimited.{stays}
use Rattle.capnp_layout_c.proofs.Shown.{list_answer}
use Rattle.capnp_layout_c.proofs.capnp_layout_list.Goals as goal

pub returns-in-Ok-clause-exactly : goal.returns-in-Ok-clause-exactly
returns-in-Ok-clause-exactly c = λ size is. let same = c.size_of.ensures size is in rw (← same) ((λ zero. expected_at _ (rw (to_z-of_z w32 c.args.nesting c.ranges.nesting) at c.pointer-pointer.ensures.place) c.new-lim.ensures (c.in-Ok.ensures.exactly.0 refl)), (λ can. refl))

pub returns-in-Ok-clause-value : goal.returns-in-Ok-clause-value
returns-in-Ok-clause-value c = λ t k means zero.
    let x = lent_pointer c.args.segments.now.list.now c.args.segment c.args.word c.args.nesting in
    let (k', found, spent) = list_answer _ x c.size_of.result c.found_list.result c.pointer-pointer.result c.in-Ok.r t k (Some c.args.left.now) (words_left c.get_list-found.new.lim.left) c.new-lim.result c.get_list-found.new.lim (rw (to_z-of_z w32 c.args.nesting c.ranges.nesting) at c.pointer-pointer.ensures.place) refl c.new-lim.ensures
    (record { data_is = c.found_list.ensures.data; segment_is = c.found_list.ensures.segment; start_is = c.found_list.ensures.at; counts = c.found_list.ensures.count; bits_are = c.found_list.ensures.data_bits; pointers_are = c.found_list.ensures.pointers; nesting_is = c.found_list.ensures.nesting })
    c.in-Ok.ensures.read c.in-Ok.ensures.value c.in-Ok.ensures.spent refl means in
    (k', found, stays c.args.left.now c.store_left.new.left (k - k') c.get_list-found.new.lim.left c.store_left.ensures spent)

pub returns-in-Err-clause-exactly : goal.returns-in-Err-clause-exactly
returns-in-Err-clause-exactly c = λ size is. let same = c.size_of.ensures size is in rw (← same) (
  (λ zero. absurd (omega (arith, zero, c.layout_number.ensures.some))),
  (λ can. absurd (false≢true (c.in-Err.ensures.exactly.1 (expected_there _ (rw (to_z-of_z w32 c.args.nesting c.ranges.nesting) at c.pointer-pointer.ensures.place) c.new-lim.ensures can)))),
)

pub returns-in-Err-clause-refused : goal.returns-in-Err-clause-refused
returns-in-Err-clause-refused c = λ size is. let same = c.size_of.ensures size is in rw (← same) (λ some. (c.in-Err.kind, c.get_list-found.new.lim, c.layout_number.ensures.number, c.store_left-in-Err.ensures, refused_at _ (rw (to_z-of_z w32 c.args.nesting c.ranges.nesting) at c.pointer-pointer.ensures.place) c.new-lim.ensures c.in-Err.ensures.refused))

pub returns-in-Ok-clause-inside : goal.returns-in-Ok-clause-inside
returns-in-Ok-clause-inside c = λ zero.
    list_inside _ (lent c.args.segments.now.list.now) c.size_of.result c.found_list.result c.pointer-pointer.result c.in-Ok.r c.new-lim.result c.get_list-found.new.lim (ap (λ (y : Reading). y.segments) c.pointer-pointer.ensures.place)
    (record { data_is = c.found_list.ensures.data; segment_is = c.found_list.ensures.segment; start_is = c.found_list.ensures.at; counts = c.found_list.ensures.count; bits_are = c.found_list.ensures.data_bits; pointers_are = c.found_list.ensures.pointers; nesting_is = c.found_list.ensures.nesting })
    c.in-Ok.ensures.read
