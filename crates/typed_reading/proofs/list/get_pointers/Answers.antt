use Rattle.typed_reading.proofs.Elements.{pointers_whole}
use Rattle.typed_reading.proofs.Lists.{gets_none, gets_part}
use Rattle.typed_reading.proofs.list.get_pointers.Goals as goal

pub invariant_of-result : goal.invariant_of-result
invariant_of-result g c = record { whole = pointers_whole g.A.ReaderArena c.in-Ok.reader c.in-Ok.ensures.fits }

pub returns-in-Ok : goal.returns-in-Ok
returns-in-Ok g c = gets_part g.A.ReaderArena _ _ _ _ c.in-Ok.ensures.gets

pub returns-in-Err : goal.returns-in-Err
returns-in-Err g c = gets_none g.A.ReaderArena _ _ c.in-Err.kind _ c.in-Err.ensures.gets
