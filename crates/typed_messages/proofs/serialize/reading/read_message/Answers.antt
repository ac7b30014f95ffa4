use Rattle.std.proofs.Common.{inl, inr, Ok, ap, refl}
use Rattle.typed_messages.proofs.serialize.reading.read_message.Goals as goal

pub try_read_message-requires : goal.try_read_message-requires
try_read_message-requires g c = c.requires

pub returns-in-Ok-Some : goal.returns-in-Ok-Some
returns-in-Ok-Some g c = record {
  read = rw c.in-Ok-Some.field-0-is at c.in-Ok-Some.ensures.read;
  input = record { whole = c.in-Ok-Some.ensures.input.whole; works = c.in-Ok-Some.ensures.input.works };
  refused = tt;
}

pub returns-in-Ok-None : goal.returns-in-Ok-None
returns-in-Ok-None g c =
    let ends = c.in-Ok-None.ensures.end (ap Ok c.in-Ok-None.field-0-is) in
    record {
      read = tt;
      input = record { whole = tt; works = tt };
      refused = inl (record { named = refl; started = ends.0; ended = ends.1; works = c.in-Ok-None.ensures.input.works });
    }

pub returns-in-Err : goal.returns-in-Err
returns-in-Err g c = record {
  read = tt;
  input = record { whole = tt; works = tt };
  refused = inr c.in-Err.ensures.refused;
}
