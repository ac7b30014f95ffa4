-- The bytes of a text or data, in place.
use Rattle.std.proofs.Common.{◌≡◌, inl, inr, ℕ, zero, suc, ◌+◌, ◌-◌, ◌*◌, ◌/◌, ◌%◌, ◌<◌, ◌≤◌, List, [], ◌∷◌, take, take_all, drop, length, get_or, refl, sym, ap, ap₂, ◌∙◌, subst, arith, length-take, length-drop}
use Rattle.std.proofs.lemmas.List.{take-take}
use Rattle.capnp_words.specs.Meter.{Meter}
use Rattle.capnp_arena_traits.specs.declared.arena.reader_arena.ReaderArena.{Ghosts}
use Rattle.capnp_format.specs.Bytes.{words_of}
use Rattle.capnp_format.specs.Numbers.{from_digits, digits, unpacked, words_for}
use Rattle.capnp_format.specs.Segments.{Segments, Target, segment, words_at}
use Rattle.capnp_format.specs.Tree.{Tree, Null, Capability, Struct, Flat, Pointers, Structs}
use Rattle.capnp_format.specs.Value.{AreBelow}
use Rattle.capnp_format.specs.Word.{kind, element_size, list_count}
use Rattle.capnp_format.proofs.Bounds.{below_each}
use Rattle.capnp_format.proofs.BytesLemmas.{words_are_bytes}
use Rattle.capnp_format.proofs.WordsOf.{words_of-part}
use Rattle.capnp_format.proofs.Digits.{low, high}
use Rattle.capnp_words.specs.declared.wire_pointer.ElementSize.TheVariants.{Byte}
use Rattle.capnp_pointers.specs.Demands.{claimed_words}
use Rattle.capnp_pointers.specs.Faults.{LeadsTo}
use Rattle.capnp_pointers.specs.declared.object.Object.TheVariants.{Flat as ObjectFlat}
use Rattle.capnp_pointers.specs.declared.object.Place.{Place}
use Rattle.capnp_pointers.specs.Outcomes.{Entered, MeansThere}
use Rattle.capnp_pointers.specs.Reading.{Reading}
use Rattle.capnp_pointers.specs.declared.object.Purpose.TheVariants.{Value}
use Rattle.capnp_pointers.proofs.OneObject.ExpectedBySteps.{one_level, IsReadAt}
use Rattle.capnp_pointers.proofs.Following.FaultlessWhereMeant.{same_target}
use Rattle.capnp_pointers.proofs.Following.LeadsWhereFollowed.{entered_leads}
use Rattle.capnp_pointers.proofs.OneObject.PartsMeant.{claim_list, claim_flat}
use Rattle.capnp_readers.specs.Calls.{Call, WhereRead, AreBytesRead}
use Rattle.capnp_readers.specs.Readers.{read_by}
use Rattle.capnp_readers.specs.Values.{HasValue, list_numbers, place_read}
use Rattle.capnp_readers.specs.declared.readers.PointerReader.{PointerReader}
use Rattle.capnp_readers.proofs.Answering.{read_at}

-- the lowest digits of a number, if these digits are known to be small
low_digits : (n : ℕ) (ds : List ℕ) → n ≤ length ds → AreBelow 256 (take n ds) → digits 256 n (from_digits 256 ds) ≡ take n ds
low_digits zero ds l h = refl
low_digits (suc n) [] l h = absurd (omega arith)
low_digits (suc n) (d ∷ ds) l h =
    ap₂ (λ x xs. x ∷ xs) (low 256 d (from_digits 256 ds) h.0) (ap (digits 256 n) (high 256 d (from_digits 256 ds) h.0) ∙ low_digits n ds (omega arith) h.1)

take-digits : (n m x : ℕ) → n ≤ m → take n (digits 256 m x) ≡ digits 256 n x
take-digits zero m x l = refl
take-digits (suc n) zero x l = absurd (omega arith)
take-digits (suc n) (suc m) x l = ap (λ ds. x % 256 ∷ ds) (take-digits n m (x / 256) (omega arith))

-- the first n of the bytes of whole words
first_bytes : (n count k : ℕ) (all : List ℕ) → n ≤ count → n ≤ length all → length all ≡ 8 * k → AreBelow 256 (take n all) → take n all ≡ take n (unpacked 2 count (words_of all))
first_bytes n count k all few there long small =
    sym (low_digits n all there small) ∙ sym (take-digits n count (from_digits 256 all) few) ∙ ap (λ x. take n (digits 256 count x)) (sym (words_are_bytes k all long))

-- A list of bytes is entered, and these are its bytes without the last `but`.
abbrev AreBytesOf : ℕ → Reading → Meter → Meter → List ℕ → Type 0
AreBytesOf but r m m' bytes =
    (a : Target) × Entered Value (one_level r) m m' a × (kind a.word ≡ 1) × (element_size a.word ≡ 2) ×
    (bytes ≡ take (list_count a.word - but) (unpacked 2 (list_count a.word) (words_at r.segments a.segment a.start (words_for 2 (list_count a.word)))))

-- the first n of an object's bytes
shown : (n : ℕ) {r : Reading} {m m' : Meter} {start : Place} {count : ℕ} {bytes : List ℕ} → n ≤ count → ((i : ℕ) → get_or bytes i 0 < 256) → bytes ≡ take n (drop (8 * start.at) start.bytes.now) → IsReadAt r m m' (ObjectFlat start Byte count) →
    (a : Target) × Entered Value (one_level r) m m' a × (kind a.word ≡ 1) × (element_size a.word ≡ 2) × (count ≡ list_count a.word) ×
    (bytes ≡ take n (unpacked 2 (list_count a.word) (words_at r.segments a.segment a.start (words_for 2 (list_count a.word)))))
shown n {r} {m} {m'} {start} {count} {bytes} few small is h =
    let a : Target = h.object.0 in
    let o : Entered Value (one_level r) m m' a = h.object.1 in
    let z = h.object.2 in
    let held = h.object.4.0 in
    let segment_is = h.object.4.1 in
    let at = h.object.4.2 in
    let wide = h.object.5 in
    let counted : count ≡ list_count a.word = h.object.6 in
    let words : ℕ = words_for 2 count in
    let own : claimed_words a.word ≡ words_for 2 (list_count a.word) = claim_list a.word 2 z (sym wide) ∙ claim_flat 2 (list_count a.word) (omega arith) in
    let claims : a.start + words ≤ length (segment r.segments a.segment) = (let there = o.meets.claims in rw counted (omega (arith, own, there))) in
    let room : 8 * (start.at + words) ≤ length start.bytes.now = (let there = rw (← segment_is) at claims in omega (arith, there, held.1, at)) in
    let all : List ℕ = take (8 * words) (drop (8 * start.at) start.bytes.now) in
    let starts : start.at ≡ a.start = omega (arith, at) in
    let shows : words_of all ≡ words_at r.segments a.segment a.start (words_for 2 (list_count a.word)) =
    words_of-part start.at words (8 * start.at) (8 * words) start.bytes.now refl refl room ∙ rw (held.0, segment_is, starts, ← counted) refl in
    let part : bytes ≡ take n all = is ∙ sym (take-take n (8 * words) (drop (8 * start.at) start.bytes.now) (omega (arith, few))) in
    let long : length all ≡ 8 * words = omega (arith, length-take (8 * words) (drop (8 * start.at) start.bytes.now), length-drop (8 * start.at) start.bytes.now, room) in
    let below : AreBelow 256 (take n all) = subst (AreBelow 256) part (below_each 256 bytes small) in
    let first : bytes ≡ take n (unpacked 2 count (words_of all)) = part ∙ first_bytes n count words all few (omega (arith, few, long)) long below in
    (a, o, z, sym wide, counted, first ∙ ap₂ (λ (i : ℕ) (ws : List ℕ). take n (unpacked 2 i ws)) counted shows)

pub text_shown : {r : Reading} {m m' : Meter} {start : Place} {count : ℕ} {bytes : List ℕ} → ((i : ℕ) → get_or bytes i 0 < 256) → bytes ≡ take (count - 1) (drop (8 * start.at) start.bytes.now) → IsReadAt r m m' (ObjectFlat start Byte count) →
    AreBytesOf 1 r m m' bytes
text_shown {r} {count = count} small is read =
    let (a, o, one, two, counted, are) = shown (count - 1) (omega arith) small is read in
    (a, o, one, two, are ∙ ap (λ k. take (k - 1) (unpacked 2 (list_count a.word) (words_at r.segments a.segment a.start (words_for 2 (list_count a.word))))) counted)

pub data_shown : {r : Reading} {m m' : Meter} {start : Place} {count : ℕ} {bytes : List ℕ} → ((i : ℕ) → get_or bytes i 0 < 256) → bytes ≡ take count (drop (8 * start.at) start.bytes.now) → IsReadAt r m m' (ObjectFlat start Byte count) →
    AreBytesOf 0 r m m' bytes
data_shown {r} {count = count} small is read =
    let (a, o, one, two, counted, are) = shown count (omega arith) small is read in
    let all : count ≡ list_count a.word - 0 = omega (arith, counted) in
    (a, o, one, two, are ∙ ap (λ k. take k (unpacked 2 (list_count a.word) (words_at r.segments a.segment a.start (words_for 2 (list_count a.word))))) all)

-- there is nothing to take
take-none : (n : ℕ) → take {A = ℕ} n [] ≡ []
take-none zero = refl
take-none (suc n) = refl

module _ {A : Type 0} (g : Ghosts A) where
  -- The target a is a list of bytes, and these are its bytes without the last `but`.
  pub record AreBytesAt (but : ℕ) (p : PointerReader A g) (bytes : List ℕ) (a : Target) : Type 0 where
    pub is_list : kind a.word ≡ 1
    pub of_bytes : element_size a.word ≡ 2
    pub bytes_are : bytes ≡ take (list_count a.word - but) (unpacked 2 (list_count a.word) (words_at (read_by g p).segments a.segment a.start (words_for 2 (list_count a.word))))

  -- a pointer whose bytes were read, or that is null, leads to no other object
  pub bytes_from : (but : ℕ) (p : PointerReader A g) {m m' : Meter} {bytes : List ℕ} (a : Target) → AreBytesRead g but p m m' bytes → LeadsTo (read_by g p) a → AreBytesAt but p bytes a
  bytes_from but p a (inl h) leads = absurd (leads.0 h.0)
  bytes_from but p {bytes = bytes} a (inr (b, o, one, two, are)) leads =
      let same : b ≡ a = same_target (read_by g p).segments (read_by g p).segment (read_by g p).at (entered_leads o).1 leads.1 in
      subst (AreBytesAt but p bytes) same (record { is_list = one; of_bytes = two; bytes_are = are })

  -- the bytes that were read are those of the value that the pointer means
  bytes_shown : (but : ℕ) (p : PointerReader A g) (m m' : Meter) (bytes : List ℕ) (t : Tree) (c : ℕ) → AreBytesRead g but p m m' bytes → MeansThere (read_by g p) t c → bytes ≡ take (length (list_numbers t) - but) (list_numbers t)
  bytes_shown but p m m' bytes Null c (inl (null, same, none)) means = none ∙ sym (take-none (0 - but))
  bytes_shown but p m m' bytes Null c (inr (b, o, one, two, are)) means = absurd ((entered_leads o).0 means.0)
  bytes_shown but p m m' bytes (Flat size ns) c read (a, some, small, at, claims, numbers, cost) =
      let S : Segments = (read_by g p).segments in
      let from = bytes_from but p a read at.leads_to in
      let two : size ≡ 2 = sym at.is_size ∙ from.of_bytes in
      let is : ns ≡ unpacked 2 (length ns) (words_at S a.segment a.start (words_for 2 (length ns))) = rw two at numbers in
      from.bytes_are ∙ ap (λ n. take (n - but) (unpacked 2 n (words_at S a.segment a.start (words_for 2 n)))) at.counts ∙ ap (take (length ns - but)) (sym is)
  bytes_shown but p m m' bytes (Capability i) c read (a, leads, is, cost) = (let one = (bytes_from but p a read leads).is_list in absurd (omega (arith, one, is)))
  bytes_shown but p m m' bytes (Struct ws ts) c read (a, k, some, at, claimed_words, has, all, cost) = (let one = (bytes_from but p a read at.leads_to).is_list in absurd (omega (arith, one, at.is_struct)))
  bytes_shown but p m m' bytes (Pointers ts) c read (a, k, some, at, claims, all, cost) = (let two = (bytes_from but p a read at.leads_to).of_bytes in absurd (omega (arith, two, at.is_size)))
  bytes_shown but p m m' bytes (Structs d q es) c read (a, n, k, some, at, claims, is_tag, fits, all, cost) = (let two = (bytes_from but p a read at.leads_to).of_bytes in absurd (omega (arith, two, at.is_size)))

  pub bytes_value : (but : ℕ) {c : Call g} {m m' : Meter} (bytes : List ℕ) → WhereRead g c (λ p. AreBytesRead g but p m m' bytes) → (t : Tree) → HasValue (place_read g c.from c.default) t → bytes ≡ take (length (list_numbers t) - but) (list_numbers t)
  bytes_value but {c} {m} {m'} bytes (p, is, read) t has = bytes_shown but p m m' bytes t has.cost read (subst (λ x. MeansThere x t has.cost) (sym (read_at g is)) has.means)

  pub data_value : {c : Call g} {m m' : Meter} (bytes : List ℕ) → WhereRead g c (λ p. AreBytesRead g 0 p m m' bytes) → (t : Tree) → HasValue (place_read g c.from c.default) t → bytes ≡ list_numbers t
  data_value {c} {m} {m'} bytes (p, is, read) t has =
      bytes_shown 0 p m m' bytes t has.cost read (subst (λ x. MeansThere x t has.cost) (sym (read_at g is)) has.means)
      ∙ take_all (length (list_numbers t) - 0) (list_numbers t) (omega arith)
