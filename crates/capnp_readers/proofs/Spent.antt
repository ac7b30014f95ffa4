-- What reading a value leaves of the limiter: its cost is charged, except for that of its children.
use Rattle.std.proofs.Common.{◌≡◌, ◌≢◌, inl, inr, ℕ, ◌+◌, ◌-◌, List, length, refl, sym, ap₂, ◌∙◌, subst, arith}
use Rattle.capnp_words.specs.Meter.{Meter}
use Rattle.capnp_words.specs.declared.wire_pointer.ElementSize.{ElementSize}
use Rattle.capnp_arena_traits.specs.declared.arena.reader_arena.ReaderArena.{Ghosts}
use Rattle.capnp_format.specs.Means.{MeansElements, count_cost}
use Rattle.capnp_format.specs.Numbers.{words_for}
use Rattle.capnp_format.specs.Segments.{Target}
use Rattle.capnp_format.specs.Tree.{Tree, Null, Capability, Struct, Flat, Pointers, Structs, Trees, no_trees, tree, Elements, no_elements, element}
use Rattle.capnp_format.specs.Word.{list_count}
use Rattle.capnp_format.proofs.Levels.{one_value}
use Rattle.capnp_pointers.specs.Demands.{own_charge}
use Rattle.capnp_pointers.specs.Faults.{LeadsTo}
use Rattle.capnp_pointers.specs.Outcomes.{MeansThere, Entered}
use Rattle.capnp_pointers.specs.Reading.{Reading, place_past}
use Rattle.capnp_pointers.specs.Spending.{Paid}
use Rattle.capnp_pointers.specs.declared.object.Purpose.TheVariants.{Value}
use Rattle.capnp_pointers.proofs.Budget.PaidAndLeft.{paid_own}
use Rattle.capnp_pointers.proofs.OneObject.ExpectedBySteps.{one_level}
use Rattle.capnp_pointers.proofs.Following.FaultlessWhereMeant.{same_target}
use Rattle.capnp_pointers.proofs.Following.LeadsWhereFollowed.{entered_leads}
use Rattle.capnp_pointers.proofs.WholeValue.ObjectsRead.{own_struct, own_flat, own_pointers, own_structs}
use Rattle.capnp_pointers.proofs.WholeValue.Shorthands.{MeanThere}
use Rattle.capnp_readers.specs.Calls.{Call, WhereRead, IsStructRead, IsListRead, AreBytesRead}
use Rattle.capnp_readers.specs.Readers.{read_by}
use Rattle.capnp_readers.specs.Sizes.{pointers_read}
use Rattle.capnp_readers.specs.Values.{place_read, first_element, ShowsStructOf, ShowsListOf}
use Rattle.capnp_readers.specs.declared.readers.PointerReader.{PointerReader}
use Rattle.capnp_readers.specs.declared.readers.struct_reader.StructReader.{StructReader}
use Rattle.capnp_readers.specs.declared.readers.list_reader.ListReader.{ListReader}
use Rattle.capnp_readers.proofs.Answering.{read_at}
use Rattle.capnp_readers.proofs.Bytes.{bytes_from}
use Rattle.capnp_readers.proofs.ListValues.{pointers_at, structs_at}
use Rattle.capnp_readers.proofs.Values.{first_pointer}

-- children have one cost
same_cost : (r : Reading) (ts : Trees) (c d : ℕ) → MeanThere r ts c → MeanThere r ts d → c ≡ d
same_cost r no_trees c d h k = h ∙ sym k
same_cost r (tree t ts) c d (a, b, one, rest, e) (x, y, first, others, f) =
    let same : a ≡ x = (one_value r.segments r.levels r.levels r.segment r.at t t a x one first).1 in
    let rest_same : b ≡ y = same_cost (place_past r 1) ts b y rest others in
    omega (arith, e, f, same, rest_same)

same_elements_cost : (r : Reading) (d q : ℕ) (es : Elements) (c e : ℕ) → MeansElements r.segments r.levels r.segment r.at d q es c → MeansElements r.segments r.levels r.segment r.at d q es e → c ≡ e
same_elements_cost r d q no_elements c e h k = h ∙ sym k
same_elements_cost r d q (element ws ts es) c e (a, b, long, many, here, one, rest, g) (x, y, wide, len, there, first, others, f) =
    let same : a ≡ x = same_cost (place_past r d) ts a x one first in
    let rest_same : b ≡ y = same_elements_cost (place_past (place_past r d) q) d q es b y rest others in
    omega (arith, g, f, same, rest_same)

-- what is paid for an object is the cost of its value without that of its children
paid_for : {r : Reading} {m m' : Meter} (a : Target) (c k : ℕ) → own_charge Value r.segments a + k ≡ c → Entered Value r m m' a → Paid r.charging m m' (c - k) 1
paid_for {r} {m} {m'} a c k e o = subst (λ n. Paid r.charging m m' n 1) (let q : own_charge Value r.segments a ≡ c - k = omega (arith, e) in q) (paid_own o)

module _ {A : Type 0} (g : Ghosts A) where
  entered_struct : (p : PointerReader A g) {m m' : Meter} {r : StructReader A g} (a : Target) → IsStructRead g p m m' r → LeadsTo (read_by g p) a → Entered Value (read_by g p) m m' a
  entered_struct p a (inl h) leads = absurd (leads.0 h.0)
  entered_struct p {m} {m'} a (inr (b, o, z, shows, source, nesting)) leads =
      subst (Entered Value (read_by g p) m m') (same_target (read_by g p).segments (read_by g p).segment (read_by g p).at (entered_leads o).1 leads.1) o

  struct_paid : (p : PointerReader A g) (m m' : Meter) (r : StructReader A g) (t : Tree) (c : ℕ) → t ≢ Null → IsStructRead g p m m' r → MeansThere (read_by g p) t c → (shows : ShowsStructOf g r t) → Paid (read_by g p).charging m m' (c - shows.cost) 1
  struct_paid p m m' r Null c other read means shows = absurd (other refl)
  struct_paid p m m' r (Struct ws ts) c other read (a, k, some, at, claim, has, all, cost) shows =
      let x : Reading = read_by g p in
      let o : Entered Value x m m' a = entered_struct p a read at.leads_to in
      let first = first_pointer g p r a (length ws) some read at.leads_to at.data_of in
      let same : shows.cost ≡ k = same_cost (pointers_read g r) ts shows.cost k shows.children_are (subst (λ y. MeanThere y ts k) (sym first) all) in
      paid_for a c shows.cost (omega (arith, own_struct x.segments a at.is_struct, at.data_of, at.pointers, cost, same)) o
  struct_paid p m m' r (Capability i) c other read means shows = absurd shows.is_struct
  struct_paid p m m' r (Flat size ns) c other read means shows = absurd shows.is_struct
  struct_paid p m m' r (Pointers ts) c other read means shows = absurd shows.is_struct
  struct_paid p m m' r (Structs d q es) c other read means shows = absurd shows.is_struct

  pub struct_spent : {c : Call g} {m m' : Meter} (r : StructReader A g) → WhereRead g c (λ p. IsStructRead g p m m' r) → (t : Tree) (k : ℕ) → t ≢ Null → MeansThere (place_read g c.from c.default) t k →
      (shows : ShowsStructOf g r t) → Paid (place_read g c.from c.default).charging m m' (k - shows.cost) 1
  struct_spent {c} {m} {m'} r (p, is, read) t k other means shows =
      subst (λ x. Paid x.charging m m' (k - shows.cost) 1) (read_at g is) (struct_paid p m m' r t k other read (subst (λ x. MeansThere x t k) (sym (read_at g is)) means) shows)

  entered_list : (p : PointerReader A g) (expected : ElementSize) {m m' : Meter} (r : ListReader A g) (a : Target) → IsListRead g expected p m m' r → LeadsTo (read_by g p) a → Entered Value (read_by g p) m m' a
  entered_list p expected r a (inl h) leads = absurd (leads.0 h.0)
  entered_list p expected {m} {m'} r a (inr ((b, o, one, shows, source, nesting), wide)) leads =
      subst (Entered Value (read_by g p) m m') (same_target (read_by g p).segments (read_by g p).segment (read_by g p).at (entered_leads o).1 leads.1) o

  list_paid : (p : PointerReader A g) (expected : ElementSize) (m m' : Meter) (r : ListReader A g) (t : Tree) (c : ℕ) → t ≢ Null → IsListRead g expected p m m' r → MeansThere (read_by g p) t c → (shows : ShowsListOf g r t) → Paid (read_by g p).charging m m' (c - shows.cost) 1
  list_paid p expected m m' r Null c other read means shows = absurd (other refl)
  list_paid p expected m m' r (Flat size ns) c other read (a, some, small, at, claims, numbers, cost) shows =
      let x : Reading = read_by g p in
      let own_is : own_charge Value x.segments a ≡ a.pads + words_for size (length ns) + count_cost size (length ns) =
      own_flat x.segments a at.is_list (omega (arith, at.is_size, small)) ∙ ap₂ (λ i n. a.pads + words_for i n + count_cost i n) at.is_size at.counts in
      paid_for a c shows.cost (omega (arith, own_is, cost, shows.shown.3)) (entered_list p expected r a read at.leads_to)
  list_paid p expected m m' r (Pointers ts) c other read (a, k, some, at, claims, all, cost) shows =
      let x : Reading = read_by g p in
      let first = pointers_at g p expected r a some read at in
      let same : shows.cost ≡ k = same_cost (first_element g r) ts shows.cost k shows.shown.2 (subst (λ y. MeanThere y ts k) (sym first) all) in
      paid_for a c shows.cost (omega (arith, own_pointers x.segments a at.is_list at.is_size, at.counts, cost, same)) (entered_list p expected r a read at.leads_to)
  list_paid p expected m m' r (Structs d q es) c other read (a, n, k, some, at, claims, is_tag, fits, all, cost) shows =
      let x : Reading = read_by g p in
      let first = structs_at g p expected r a some read at in
      let same : shows.cost ≡ k = same_elements_cost (first_element g r) d q es shows.cost k shows.shown.3 (subst (λ y. MeansElements y.segments y.levels y.segment y.at d q es k) (sym first) all) in
      let own_is = own_structs x.segments a at.is_list at.is_size ∙ ap₂ (λ w i. a.pads + (list_count a.word + 1) + count_cost w i) (ap₂ (λ i j. i + j) is_tag.data_of is_tag.pointers) is_tag.counts in
      paid_for a c shows.cost (omega (arith, own_is, at.counts, cost, same)) (entered_list p expected r a read at.leads_to)
  list_paid p expected m m' r (Capability i) c other read means shows = absurd shows.shown
  list_paid p expected m m' r (Struct ws ts) c other read means shows = absurd shows.shown

  pub list_spent : {c : Call g} (expected : ElementSize) {m m' : Meter} (r : ListReader A g) → WhereRead g c (λ p. IsListRead g expected p m m' r) → (t : Tree) (k : ℕ) → t ≢ Null → MeansThere (place_read g c.from c.default) t k →
      (shows : ShowsListOf g r t) → Paid (place_read g c.from c.default).charging m m' (k - shows.cost) 1
  list_spent {c} expected {m} {m'} r (p, is, read) t k other means shows =
      subst (λ x. Paid x.charging m m' (k - shows.cost) 1) (read_at g is) (list_paid p expected m m' r t k other read (subst (λ x. MeansThere x t k) (sym (read_at g is)) means) shows)

  entered_bytes : (but : ℕ) (p : PointerReader A g) {m m' : Meter} {bytes : List ℕ} (a : Target) → AreBytesRead g but p m m' bytes → LeadsTo (read_by g p) a → Entered Value (one_level (read_by g p)) m m' a
  entered_bytes but p a (inl h) leads = absurd (leads.0 h.0)
  entered_bytes but p {m} {m'} a (inr (b, o, one, two, are)) leads =
      subst (Entered Value (one_level (read_by g p)) m m') (same_target (read_by g p).segments (read_by g p).segment (read_by g p).at (entered_leads o).1 leads.1) o

  bytes_paid : (but : ℕ) (p : PointerReader A g) (m m' : Meter) (bytes : List ℕ) (t : Tree) (c : ℕ) → t ≢ Null → AreBytesRead g but p m m' bytes → MeansThere (read_by g p) t c → Paid (read_by g p).charging m m' c 1
  bytes_paid but p m m' bytes Null c other read means = absurd (other refl)
  bytes_paid but p m m' bytes (Flat size ns) c other read (a, some, small, at, claims, numbers, cost) =
      let x : Reading = read_by g p in
      let own_is : own_charge Value x.segments a ≡ a.pads + words_for size (length ns) + count_cost size (length ns) =
      own_flat x.segments a at.is_list (omega (arith, at.is_size, small)) ∙ ap₂ (λ i n. a.pads + words_for i n + count_cost i n) at.is_size at.counts in
      subst (λ n. Paid x.charging m m' n 1) (let e : own_charge Value x.segments a ≡ c = omega (arith, own_is, cost) in e) (paid_own (entered_bytes but p a read at.leads_to))
  bytes_paid but p m m' bytes (Capability i) c other read (a, leads, is, cost) = (let one = (bytes_from g but p a read leads).is_list in absurd (omega (arith, one, is)))
  bytes_paid but p m m' bytes (Struct ws ts) c other read (a, k, some, at, claim, has, all, cost) = (let one = (bytes_from g but p a read at.leads_to).is_list in absurd (omega (arith, one, at.is_struct)))
  bytes_paid but p m m' bytes (Pointers ts) c other read (a, k, some, at, claims, all, cost) = (let two = (bytes_from g but p a read at.leads_to).of_bytes in absurd (omega (arith, two, at.is_size)))
  bytes_paid but p m m' bytes (Structs d q es) c other read (a, n, k, some, at, claims, is_tag, fits, all, cost) = (let two = (bytes_from g but p a read at.leads_to).of_bytes in absurd (omega (arith, two, at.is_size)))

  pub bytes_spent : (but : ℕ) {c : Call g} {m m' : Meter} (bytes : List ℕ) → WhereRead g c (λ p. AreBytesRead g but p m m' bytes) → (t : Tree) (k : ℕ) → t ≢ Null → MeansThere (place_read g c.from c.default) t k → Paid (place_read g c.from c.default).charging m m' k 1
  bytes_spent but {c} {m} {m'} bytes (p, is, read) t k other means =
      subst (λ x. Paid x.charging m m' k 1) (read_at g is) (bytes_paid but p m m' bytes t k other read (subst (λ x. MeansThere x t k) (sym (read_at g is)) means))
