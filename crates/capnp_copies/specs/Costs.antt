-- What reading costs until it breaks off: the words granted and the pointers followed, for the
-- objects that were read before the one where it stops, and for those on the way to it. That one
-- itself isn't counted.
use Rattle.std.specs.Prelude.{ℕ, ◌+◌}
use Rattle.capnp_words.specs.declared.wire_pointer.StructSize.{StructSize}
use Rattle.capnp_words.specs.Meter.{Meter}
use Rattle.capnp_format.specs.Segments.{Target}
use Rattle.capnp_pointers.specs.Demands.{own_charge}
use Rattle.capnp_pointers.specs.Reading.{Reading}
use Rattle.capnp_pointers.specs.Outcomes.{ReadsAll, ReadsElements}
use Rattle.capnp_pointers.specs.Refusals.{GoesBefore, in_struct, in_pointers, in_element}
use Rattle.capnp_pointers.specs.Refusals.{StopsWithin, here, below, StopsAmong, StopsAmongElements}
use Rattle.capnp_pointers.specs.Spending.{pointers_in_all, pointers_in_elements}
use Rattle.capnp_pointers.specs.Wanted.{Form}
use Rattle.capnp_pointers.specs.declared.object.Purpose.TheVariants.{Value}

-- What is spent: words that are granted, and pointers that are followed.
pub record Spent : Type 0 where
  pub words : ℕ
  pub pointers : ℕ

-- What is spent on the pointers of an object before one of them.
abbrev pub spent_before : {form : Form} {r : Reading} {a : Target} {q : ℕ} {m m' : Meter} →
    GoesBefore (ReadsAll form) (ReadsElements form) r a q m m' → Spent
spent_before (in_struct ts is fewer at reads) =
    record { words = reads.cost; pointers = pointers_in_all ts }
spent_before (in_pointers ts is six fewer at reads) =
    record { words = reads.cost; pointers = pointers_in_all ts }
spent_before (in_element es ts mid is fewer few at rows reads) =
    record {
      words = rows.cost + reads.cost;
      pointers = pointers_in_elements es + pointers_in_all ts;
    }

-- What is spent on each object on the way, and on what its pointers mean that come before the next
-- one on the way.
abbrev pub spent_until : {form : Form} {P : Reading → Meter → Meter → Type 0} {r : Reading}
    {m m' : Meter} → StopsWithin form P r m m' → Spent
spent_until (here stops) = record { words = 0; pointers = 0 }
spent_until {r = r} (below a q entered before rest) = record {
  words = own_charge Value r.segments a + ((spent_before before).words + (spent_until rest).words);
  pointers = 1 + ((spent_before before).pointers + (spent_until rest).pointers);
}

-- What is spent on reading consecutive pointers, or the pointers of elements, up to the object
-- where reading stops.
abbrev pub spent_among : {form : Form} {P : Reading → Meter → Meter → Type 0} {r : Reading} {i : ℕ}
    {m m' : Meter} → StopsAmong form P r i m m' → Spent
spent_among x =
    record {
      words = x.are_read.cost + (spent_until x.stops).words;
      pointers = pointers_in_all x.first + (spent_until x.stops).pointers;
    }

abbrev pub spent_among_elements : {form : Form} {P : Reading → Meter → Meter → Type 0} {r : Reading}
    {size : StructSize} {i : ℕ} {m m' : Meter} → StopsAmongElements form P r size i m m' → Spent
spent_among_elements x =
    record {
      words = x.are_read.cost + (spent_among x.stops).words;
      pointers = pointers_in_elements x.first + (spent_among x.stops).pointers;
    }

-- What is spent after an object of n words, and on the object itself, for one pointer.
abbrev pub spent_past : ℕ → Spent → Spent
spent_past n rest = record { words = n + rest.words; pointers = 1 + rest.pointers }
