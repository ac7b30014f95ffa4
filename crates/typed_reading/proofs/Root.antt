-- What is read from the root pointer: what a limiter affords after it, and where it stays.
use Rattle.std.proofs.Common.{◌≡◌, ℕ, ◌+◌, Bool, true, false, Option, Some, None, arith}
use Rattle.capnp_words.specs.Meter.{Meter, FitsIn, less, Affords, charged}
use Rattle.capnp_arena_traits.specs.declared.arena.reader_arena.ReaderArena.{Ghosts}
use Rattle.capnp_pointers.specs.Reading.{source_start}
use Rattle.capnp_pointers.specs.declared.source.Source.{Source}
use Rattle.capnp_readers.specs.Readers.{read_by}
use Rattle.capnp_readers.specs.Values.{StaysIn}
use Rattle.capnp_readers.specs.declared.readers.PointerReader.{PointerReader}

root_fits : (left : Option ℕ) (c : ℕ) → FitsIn left (1 + c) → FitsIn left 1 × FitsIn (less left 1) c
root_fits None c h = (tt, tt)
root_fits (Some left) c h = (omega (arith, h), omega (arith, h))

-- a limiter that affords c words more than the root pointer affords both
pub root_affords : (charging : Bool) (m : Meter) (c : ℕ) → Affords charging m (1 + c) → Affords charging m 1 × Affords charging (charged charging m 1) c
root_affords true m c h = root_fits m.left c h
root_affords false m c h = (tt, tt)

-- a pointer is in the message of its source
pub stays_in_source : {A : Type 0} (g : Ghosts A) (pointer : PointerReader A g) (source : Source A) → pointer.source ≡ source → StaysIn (source_start g source) (read_by g pointer)
stays_in_source g pointer source e = rw e (record { words = λ all. all; affords = λ m k h. h })
