use Rattle.std.proofs.Common.{◌≡◌, ℕ, List, inl, inr, Ok, ap, refl, subst, sym}
use Rattle.capnp_format.specs.Segments.{Segments}
use Rattle.capnp_framing.specs.Flat.{BeginsWithFrame}
use Rattle.capnp_framing.specs.Reading.{NoFrame}
use Rattle.typed_messages.proofs.serialize.reading.read_message_from_flat_slice.Goals as goal

begins : (bytes : List ℕ) (n m : ℕ) (V W : Segments) → n ≡ m → V ≡ W → BeginsWithFrame bytes n W → BeginsWithFrame bytes m V
begins bytes n m V W most words h = subst (λ k. BeginsWithFrame bytes k V) most (subst (BeginsWithFrame bytes n) (sym words) h)

pub new-requires : goal.new-requires
new-requires c = rw c.in-Ok-Some.field-0-is at c.in-Ok-Some.ensures.small

pub returns-in-Ok-Some : goal.returns-in-Ok-Some
returns-in-Ok-Some c = record {
  read = begins c.args.bytes.now _ _ _ _ c.most_words.ensures c.new.ensures.words (rw c.in-Ok-Some.field-0-is at c.in-Ok-Some.ensures.read);
  limits = c.new.ensures.limits;
  refused = tt;
}

pub returns-in-Ok-None : goal.returns-in-Ok-None
returns-in-Ok-None c = record {
  read = tt;
  limits = tt;
  refused = inl (refl, c.in-Ok-None.ensures.end (ap Ok c.in-Ok-None.field-0-is));
}

pub returns-in-Err : goal.returns-in-Err
returns-in-Err c = record {
  read = tt;
  limits = tt;
  refused = inr (subst (λ n. NoFrame c.args.bytes.now n c.in-Err.error) c.most_words.ensures c.in-Err.ensures.refused);
}
