-- Whether a canonical copy outgrows a segment, as a function: reading with one more demand at each
-- object.
use Rattle.std.specs.Prelude.{ℕ, zero, suc, ◌+◌, ◌*◌, nat_le}
use Rattle.std.specs.Option.{option_map_or}
use Rattle.std.specs.Result.{result_ok}
use Rattle.capnp_words.specs.declared.error.ErrorKind.TheVariants.{MessageTooLarge}
use Rattle.capnp_format.specs.Canonical.{used_words}
use Rattle.capnp_format.specs.Numbers.{words_for}
use Rattle.capnp_format.specs.Segments.{Segments, segment, words_at}
use Rattle.capnp_pointers.specs.declared.object.Purpose.TheVariants.{Value}
use Rattle.capnp_pointers.specs.Demands.{own_charge}
use Rattle.capnp_pointers.specs.Enter.{Shape, nothing, struct, flat, pointers, structs, read}
use Rattle.capnp_pointers.specs.Measure.{fold_children, fold_pointers}
use Rattle.capnp_pointers.specs.Metered.{Metered, answer, ◌>>>◌, demand}
use Rattle.capnp_pointers.specs.Reading.{Reading, place_past}
use Rattle.capnp_pointers.specs.Values.{permit}
use Rattle.capnp_pointers.specs.Wanted.{canonical, follow_at}
use Rattle.capnp_copies.specs.Widths.{most_used}
use Rattle.capnp_messages.specs.Parts.{PathEnd, to_element, to_pointer}

-- The number of words that a canonical copy makes of an object, without its children.
abbrev pub made_words : Segments → Shape → ℕ
made_words S (struct s p d q) = used_words (words_at S s p d) + used_words (words_at S s (p + d) q)
made_words S (flat s p size n) = words_for size n
made_words S (pointers s p n) = n
made_words S (structs s p d q n) =
    1 + n * (most_used (segment S s) p d (d + q) n + most_used (segment S s) (p + d) q (d + q) n)
made_words S o = 0

-- Adds what the object at the place r charges to z. The words that the copy makes of it, and the z
-- words charged before, have to fit in `room` words.
abbrev pub fit_object : ℕ → Reading → Shape → ℕ → Metered ℕ
fit_object room r nothing z = answer z
fit_object room r o z =
    demand (nat_le (z + made_words r.segments o) room) (MessageTooLarge room) >>> λ _.
    answer (z + option_map_or (own_charge Value r.segments) (result_ok (follow_at r)) 0)

-- Adds what reading the value at the place r charges to z, within n levels. Each object has to fit.
unfoldable pub fit_within : ℕ → ℕ → Reading → ℕ → Metered ℕ
fit_within room zero r z =
    read Value (record r { levels = zero }) >>> permit canonical >>> λ o. answer z
fit_within room (suc n) r z =
    read Value (record r { levels = suc n }) >>> permit canonical >>> λ o.
    fit_object room r o z >>> fold_children (fit_within room n) (record r { levels = n }) o

-- The same for the value at the end of a path. The words of an element come first, and were charged
-- with its list.
abbrev pub fit_end : ℕ → PathEnd → ℕ → Metered ℕ
fit_end room (to_pointer r) z = fit_within room r.levels r z
fit_end room (to_element r d q) z =
    demand (nat_le (z + made_words r.segments (struct r.segment r.at d q)) room)
    (MessageTooLarge room) >>> λ _.
    fold_pointers (fit_within room r.levels) q (place_past r d) (z + (d + q))
