-- Lists that calls read as a part of what they return.
use Rattle.std.proofs.Common.{ℕ, List, Ok, Err, refl}
use Rattle.capnp_words.specs.declared.error.ErrorKind.{ErrorKind}
use Rattle.capnp_words.specs.declared.wire_pointer.ElementSize.{ElementSize}
use Rattle.capnp_arena_traits.specs.declared.arena.reader_arena.ReaderArena.{Ghosts}
use Rattle.capnp_readers.specs.declared.readers.list_reader.ListReader.{ListReader}
use Rattle.typed_reading.specs.Lists.{FieldCall, GetsList, GetsListOr}

module _ {A : Type 0} (g : Ghosts A) where
  -- a call that returns the list inside of r, if one that returns the list itself was answered
  pub gets_part : {R : Type 0} (c : FieldCall g) (size : ElementSize) (r : R) (list_of : R → ListReader A g) → GetsList g {R = ListReader A g} c size (Ok (list_of r)) (λ list. list) → GetsList g c size (Ok r) list_of
  gets_part c size r list_of h = record { value = h.value; answered = λ t shows fits covers. refl; spent = h.spent; stays = h.stays; left = h.left; exactly = h.exactly }

  -- and if it was refused
  pub gets_none : {R : Type 0} (c : FieldCall g) (size : ElementSize) (k : ErrorKind) (list_of : R → ListReader A g) → GetsList g {R = ListReader A g} c size (Err k) (λ list. list) → GetsList g c size (Err k) list_of
  gets_none c size k list_of h = record {
    value = λ t shows. tt;
    answered = h.answered;
    spent = λ t shows other. tt;
    stays = tt;
    left = λ t shows covers. tt;
    exactly = h.exactly;
  }

  -- likewise with a default
  pub gets_part_or : {R : Type 0} (c : FieldCall g) (bytes : List ℕ) (size : ElementSize) (r : R) (list_of : R → ListReader A g) → GetsListOr g {R = ListReader A g} c bytes size (Ok (list_of r)) (λ list. list) → GetsListOr g c bytes size (Ok r) list_of
  gets_part_or c bytes size r list_of h = record {
    value = h.value;
    default = h.default;
    answered = λ t shows other fits covers. refl;
    default_answered = λ t d shows null is fits. refl;
    exactly = h.exactly;
  }

  pub gets_none_or : {R : Type 0} (c : FieldCall g) (bytes : List ℕ) (size : ElementSize) (k : ErrorKind) (list_of : R → ListReader A g) → GetsListOr g {R = ListReader A g} c bytes size (Err k) (λ list. list) → GetsListOr g c bytes size (Err k) list_of
  gets_none_or c bytes size k list_of h = record {
    value = λ t shows other. tt;
    default = λ t d shows null is. tt;
    answered = h.answered;
    default_answered = h.default_answered;
    exactly = h.exactly;
  }
