-- A reader stays in the message that it was read from, and its elements fit what was expected.
use Rattle.std.proofs.Common.{◌≡◌, inl, inr, ℕ, Bool, refl, sym, subst, arith}
use Rattle.std.specs.Prelude.{◌↔◌, IsTrue}
use Rattle.capnp_words.specs.Meter.{Meter}
use Rattle.capnp_words.specs.declared.wire_pointer.ElementSize.{ElementSize}
use Rattle.capnp_arena_traits.specs.declared.arena.reader_arena.ReaderArena.{Ghosts}
use Rattle.capnp_format.specs.Tree.{Tree, Null, Capability, Struct, Flat, Pointers, Structs}
use Rattle.capnp_pointers.specs.Outcomes.{MeansThere}
use Rattle.capnp_pointers.specs.Reading.{Reading, source_start, word_of}
use Rattle.capnp_pointers.specs.declared.source.Source.{Source}
use Rattle.capnp_pointers.specs.declared.source.Source.TheVariants.{Nothing}
use Rattle.capnp_readers.specs.Calls.{Call, WhereRead, IsStructRead, IsListRead}
use Rattle.capnp_readers.specs.Readers.{read_by}
use Rattle.capnp_readers.specs.Values.{StaysIn, FitsElements, place_read}
use Rattle.capnp_readers.specs.declared.readers.PointerReader.{PointerReader}
use Rattle.capnp_readers.specs.declared.readers.struct_reader.StructReader.{StructReader}
use Rattle.capnp_readers.specs.declared.readers.list_reader.ListReader.{ListReader}
use Rattle.capnp_readers.proofs.Answering.{read_at}

-- the value of a null pointer is null, and no other pointer's
pub null_value : (b : Bool) (r : Reading) (t : Tree) (c : ℕ) → (IsTrue b ↔ (word_of r ≡ 0)) → MeansThere r t c → IsTrue b ↔ (t ≡ Null)
null_value b r t c is means = ((λ yes. null r t c (is.0 yes) means), (λ e. is.1 (subst (λ u. MeansThere r u c) e means).0))
  where
    null : (r : Reading) (t : Tree) (c : ℕ) → word_of r ≡ 0 → MeansThere r t c → t ≡ Null
    null r Null c z means = refl
    null r (Capability i) c z (a, leads, is, cost) = absurd (leads.0 z)
    null r (Struct ws ts) c z (a, k, some, at, claim, has, all, cost) = absurd (at.leads_to.0 z)
    null r (Flat size ns) c z (a, some, small, at, claims, numbers, cost) = absurd (at.leads_to.0 z)
    null r (Pointers ts) c z (a, k, some, at, claims, all, cost) = absurd (at.leads_to.0 z)
    null r (Structs d q es) c z (a, n, k, some, at, claims, is_tag, fits, all, cost) = absurd (at.leads_to.0 z)

module _ {A : Type 0} (g : Ghosts A) where
  -- nothing is in any message
  pub nowhere : (from : Reading) (source : Source A) → source ≡ Nothing → StaysIn from (source_start g source)
  nowhere from source e = rw e (record { words = λ all s p. omega arith; affords = λ m c h. tt })

  -- what was read from a pointer is in the pointer's message
  from_pointer : (c : Call g) (p : PointerReader A g) (source : Source A) (from : Reading) → read_by g p ≡ place_read g c.from c.default → source ≡ p.source → StaysIn from (place_read g c.from c.default) → StaysIn from (source_start g source)
  from_pointer c p source from at e stays =
      let here : StaysIn from (read_by g p) = subst (StaysIn from) (sym at) stays in
      rw e (record { words = here.words; affords = here.affords })

  pub struct_stays : {c : Call g} {m m' : Meter} (r : StructReader A g) → WhereRead g c (λ p. IsStructRead g p m m' r) → (from : Reading) → StaysIn from (place_read g c.from c.default) → StaysIn from (source_start g r.source)
  struct_stays r (p, is, inl h) from stays = nowhere from r.source h.2
  struct_stays {c} r (p, is, inr h) from stays = from_pointer c p r.source from (read_at g is) h.4 stays

  pub list_stays : {c : Call g} (expected : ElementSize) {m m' : Meter} (r : ListReader A g) → WhereRead g c (λ p. IsListRead g expected p m m' r) → (from : Reading) → StaysIn from (place_read g c.from c.default) → StaysIn from (source_start g r.source)
  list_stays expected r (p, is, inl h) from stays = nowhere from r.source h.2
  list_stays {c} expected r (p, is, inr h) from stays = from_pointer c p r.source from (read_at g is) h.0.4 stays

  pub list_fits : {c : Call g} (expected : ElementSize) {m m' : Meter} (r : ListReader A g) → WhereRead g c (λ p. IsListRead g expected p m m' r) → FitsElements g expected r
  list_fits expected r (p, is, inl h) = record {
    wide = λ some. absurd (omega (arith, some, h.4));
    pointers = λ some. absurd (omega (arith, some, h.4));
    whole = λ one. (let size = h.3 in absurd (omega (arith, rw size at one)));
  }
  list_fits expected r (p, is, inr h) = record { wide = λ some. h.1.0; pointers = λ some. h.1.1; whole = h.1.2 }
