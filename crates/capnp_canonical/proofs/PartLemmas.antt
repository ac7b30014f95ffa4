-- The copy of a part isn't refused if there is one, but for lack of room or memory.
use Rattle.std.proofs.Common.{◌≡◌, ◌≢◌, inl, inr, ℕ, ◌+◌, ◌*◌, ◌≤◌, List, length, ap, ◌∙◌, subst, arith, Result, IsOk}
use Rattle.std.proofs.lemmas.Bool.{false≢true}
use Rattle.capnp_format.specs.Canonical.{encoding, trim}
use Rattle.capnp_format.specs.Segments.{AreWords, Segments}
use Rattle.capnp_arena.specs.declared.arena.reader_arena_impl.ReaderOptions.{ReaderOptions}
use Rattle.capnp_framing.proofs.ReadingLemmas.{bytes-length}
use Rattle.capnp_words.specs.declared.error.ErrorKind.{ErrorKind}
use Rattle.capnp_pointers.specs.declared.pointers.sizes.MessageSize.{MessageSize}
use Rattle.capnp_messages.proofs.MessagePartLemmas.{part_granted}
use Rattle.capnp_canonical.specs.Calls.{IsGranted}
use Rattle.capnp_canonical.specs.Numbers.{answer_number}
use Rattle.capnp_canonical.specs.Parts.{HasPart, HasPartSize, HasPartSizeWithin, RefusesPartOf, RefusesPartRoom, RefusesPartSize}
use Rattle.capnp_canonical.specs.declared.refusal.Refusal.{Refusal}
use Rattle.capnp_canonical.specs.declared.refusal.Refusal.TheVariants.{Layout}
use Rattle.capnp_canonical.proofs.NumberLemmas.{error_number_above}
use Rattle.capnp_canonical.proofs.PartSizeLemmas.{part_words}

pub part_out_of_memory : (limits : ReaderOptions) (path : List ℕ) {r : Refusal} (S : Segments) → RefusesPartOf limits path S r → HasPart limits path S → answer_number r ≡ 32
part_out_of_memory limits path S (k, named, inl memory) has = ap answer_number (named ∙ ap Layout memory)
part_out_of_memory limits path S (k, named, inr refused) (t, value, fits) = absurd (part_granted S limits path t k value fits refused)

pub part_room_granted : (limits : ReaderOptions) (path : List ℕ) (room : ℕ) {r : Refusal} (S : Segments) → RefusesPartRoom limits path room S r → HasPart limits path S → IsGranted (answer_number r)
part_room_granted limits path room S (inl refused) has = inr (inr (part_out_of_memory limits path S refused has))
part_room_granted limits path room S (inr (bytes, copy, named, less)) has = inr (inl (ap answer_number named))

-- Nor for lack of room if the size says that there is enough.
pub part_room_enough : (limits : ReaderOptions) (path : List ℕ) (room n caps : ℕ) {r : Refusal} → 8 + 8 * n ≤ room → (S : Segments) → AreWords S →
    RefusesPartRoom limits path room S r → HasPartSize limits path S n caps → answer_number r ≢ 1
part_room_enough limits path room n caps wide S words (inl (k, named, refused)) size = λ is. omega (arith, is, ap answer_number named, error_number_above k)
part_room_enough limits path room n caps wide S words (inr (bytes, (t, value, few, made), named, less)) size =
    let z : MessageSize = record { word_count = n; cap_count = caps } in
    λ is. omega (arith, less, wide, ap length made, bytes-length (encoding (trim t)), part_words S limits path t z words size value)

-- A size that exists isn't refused.
pub part_size_granted : (limits : ReaderOptions) (path : List ℕ) {r : Refusal} (S : Segments) → RefusesPartSize limits path S r → HasPartSizeWithin limits path S → ⊥
part_size_granted limits path S (k, named, refused) has = false≢true (subst (λ (x : Result MessageSize ErrorKind). IsOk x) refused has)
