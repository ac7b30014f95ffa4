-- What the limiter affords after a struct or a list was read: what is still to be read of it.
use Rattle.std.proofs.Common.{◌≡◌, inl, inr, ℕ, ◌≤◌, ◌≢◌, length, Result, Ok, Err, IfOk, sym, ◌∙◌, subst, arith}
use Rattle.capnp_words.specs.declared.error.ErrorKind.{ErrorKind}
use Rattle.capnp_words.specs.Meter.{Meter, Affords}
use Rattle.capnp_words.specs.declared.wire_pointer.ElementSize.{ElementSize}
use Rattle.capnp_format.proofs.Levels.{one_value}
use Rattle.capnp_format.specs.Means.{MeansElements}
use Rattle.capnp_format.specs.Tree.{Tree, Null, Capability, Struct, Flat, Pointers, Structs, Trees, no_trees, tree, Elements, no_elements, element}
use Rattle.capnp_arena_traits.specs.declared.arena.reader_arena.ReaderArena.{Ghosts}
use Rattle.capnp_pointers.specs.Expected.{list_expected, struct_expected}
use Rattle.capnp_pointers.specs.Outcomes.{MeansThere}
use Rattle.capnp_pointers.specs.Reading.{Reading, place_past, source_start}
use Rattle.capnp_pointers.proofs.Budget.PaidAndLeft.{affords_rest, affords_none}
use Rattle.capnp_pointers.proofs.WholeValue.UnreadableIfRefused.{affords_less}
use Rattle.capnp_pointers.proofs.WholeValue.Shorthands.{MeanThere}
use Rattle.capnp_readers.specs.Calls.{WhereRead, IsListRead, IsStructRead}
use Rattle.capnp_readers.specs.Readers.{read_by}
use Rattle.capnp_readers.specs.Sizes.{pointers_read}
use Rattle.capnp_readers.specs.Values.{ShowsListOf, ShowsStructOf, StaysIn, child_cost, first_element}
use Rattle.capnp_readers.specs.declared.readers.PointerReader.{PointerReader}
use Rattle.capnp_readers.specs.declared.readers.list_reader.ListReader.{ListReader}
use Rattle.capnp_readers.specs.declared.readers.struct_reader.StructReader.{StructReader}
use Rattle.capnp_readers.proofs.Answering.{read_at}
use Rattle.capnp_readers.proofs.ListValues.{pointers_at, structs_at}
use Rattle.capnp_readers.proofs.Spent.{list_spent, struct_spent}
use Rattle.capnp_readers.proofs.Values.{child_within, first_pointer}
use Rattle.typed_reading.proofs.Outcomes.{plain_call}

-- children have one cost
same_cost : (r : Reading) (ts : Trees) (c d : ℕ) → MeanThere r ts c → MeanThere r ts d → c ≡ d
same_cost r no_trees c d h k = h ∙ sym k
same_cost r (tree t ts) c d (a, b, one, rest, e) (x, y, first, others, f) =
    let same : a ≡ x = (one_value r.segments r.levels r.levels r.segment r.at t t a x one first).1 in
    let rest_same : b ≡ y = same_cost (place_past r 1) ts b y rest others in
    omega (arith, e, f, same, rest_same)

same_elements_cost : (r : Reading) (d q : ℕ) (es : Elements) (c e : ℕ) → MeansElements r.segments r.levels r.segment r.at d q es c → MeansElements r.segments r.levels r.segment r.at d q es e → c ≡ e
same_elements_cost r d q no_elements c e h k = h ∙ sym k
same_elements_cost r d q (element ws ts es) c e (a, b, long, many, here, one, rest, g) (x, y, wide, len, there, first, others, f) =
    let same : a ≡ x = same_cost (place_past r d) ts a x one first in
    let rest_same : b ≡ y = same_elements_cost (place_past (place_past r d) q) d q es b y rest others in
    omega (arith, g, f, same, rest_same)

-- a place is in its own message
pub stays_itself : (r : Reading) → StaysIn r r
stays_itself r = record { words = λ all. all; affords = λ m k h. h }

module _ {A : Type 0} (g : Ghosts A) where
  -- the children of a struct cost at most what the struct does
  struct_cost : (p : PointerReader A g) (m m' : Meter) (r : StructReader A g) (t : Tree) (c : ℕ) → IsStructRead g p m m' r → MeansThere (read_by g p) t c → (shows : ShowsStructOf g r t) → shows.cost ≤ c
  struct_cost p m m' r Null c read means shows = omega (arith, shows.children_are)
  struct_cost p m m' r (Struct ws ts) c (inl h) (a, k, some, at, claim, has, all, cost) shows = absurd (at.leads_to.0 h.0)
  struct_cost p m m' r (Struct ws ts) c (inr h) (a, k, some, at, claim, has, all, cost) shows =
      let first = first_pointer g p r a (length ws) some (inr h) at.leads_to at.data_of in
      let same : shows.cost ≡ k = same_cost (pointers_read g r) ts shows.cost k shows.children_are (subst (λ y. MeanThere y ts k) (sym first) all) in
      omega (arith, same, cost)
  struct_cost p m m' r (Capability i) c read means shows = absurd shows.is_struct
  struct_cost p m m' r (Flat size ns) c read means shows = absurd shows.is_struct
  struct_cost p m m' r (Pointers ts) c read means shows = absurd shows.is_struct
  struct_cost p m m' r (Structs d q es) c read means shows = absurd shows.is_struct

  left_for_all : (p : PointerReader A g) (m m' : Meter) (r : StructReader A g) (t : Tree) (c : ℕ) → WhereRead g (plain_call g p struct_expected) (λ q. IsStructRead g q m m' r) → MeansThere (read_by g p) t c → Affords (read_by g p).charging m c → (shows : ShowsStructOf g r t) → Affords (read_by g p).charging m' shows.cost
  left_for_all p m m' r Null c read means covers shows = subst (Affords (read_by g p).charging m') (sym shows.children_are) (affords_none (read_by g p).charging m')
  left_for_all p m m' r (Struct ws ts) c (q, is, read) means covers shows =
      let paid = struct_spent g r (q, is, read) (Struct ws ts) c (λ e. absurd (cc e)) means shows in
      let within = struct_cost q m m' r (Struct ws ts) c read (subst (λ x. MeansThere x (Struct ws ts) c) (sym (read_at g is)) means) shows in
      affords_rest shows.cost c paid (omega (arith, within)) covers
  left_for_all p m m' r (Capability i) c read means covers shows = absurd shows.is_struct
  left_for_all p m m' r (Flat size ns) c read means covers shows = absurd shows.is_struct
  left_for_all p m m' r (Pointers ts) c read means covers shows = absurd shows.is_struct
  left_for_all p m m' r (Structs d q es) c read means covers shows = absurd shows.is_struct

  -- after a struct was read, what one of its pointers means can be read
  pub struct_left : (p : PointerReader A g) (m m' : Meter) (result : Result (StructReader A g) ErrorKind) → IfOk result (λ r. WhereRead g (plain_call g p struct_expected) (λ q. IsStructRead g q m m' r)) → IfOk result (λ r. StaysIn (read_by g p) (source_start g r.source)) →
      (t : Tree) (c : ℕ) → MeansThere (read_by g p) t c → Affords (read_by g p).charging m c → IfOk result (λ r. (shows : ShowsStructOf g r t) (i : ℕ) → Affords (source_start g r.source).charging m' (child_cost g shows i))
  struct_left p m m' (Ok r) read stays t c means covers = λ shows i.
      affords_less (source_start g r.source).charging m' (child_cost g shows i) shows.cost (child_within g r i t shows) (stays.affords m' shows.cost (left_for_all p m m' r t c read means covers shows))
  struct_left p m m' (Err k) read stays t c means covers = tt

  -- the same of a list
  list_cost : (p : PointerReader A g) (size : ElementSize) (m m' : Meter) (r : ListReader A g) (t : Tree) (c : ℕ) → IsListRead g size p m m' r → MeansThere (read_by g p) t c → (shows : ShowsListOf g r t) → shows.cost ≤ c
  list_cost p size m m' r Null c read means shows = omega (arith, shows.shown.1)
  list_cost p size m m' r (Flat k ns) c read means shows = omega (arith, shows.shown.3)
  list_cost p size m m' r (Pointers ts) c read (a, k, some, at, claims, all, cost) shows =
      let first = pointers_at g p size r a some read at in
      let same : shows.cost ≡ k = same_cost (first_element g r) ts shows.cost k shows.shown.2 (subst (λ y. MeanThere y ts k) (sym first) all) in
      omega (arith, same, cost)
  list_cost p size m m' r (Structs d q es) c read (a, n, k, some, at, claims, is_tag, fits, all, cost) shows =
      let first = structs_at g p size r a some read at in
      let same : shows.cost ≡ k = same_elements_cost (first_element g r) d q es shows.cost k shows.shown.3 (subst (λ y. MeansElements y.segments y.levels y.segment y.at d q es k) (sym first) all) in
      omega (arith, same, cost)
  list_cost p size m m' r (Capability i) c read means shows = absurd shows.shown
  list_cost p size m m' r (Struct ws ts) c read means shows = absurd shows.shown

  left_for_elements : (p : PointerReader A g) (size : ElementSize) (m m' : Meter) (r : ListReader A g) (t : Tree) (c : ℕ) → t ≢ Null → WhereRead g (plain_call g p (list_expected size)) (λ q. IsListRead g size q m m' r) → MeansThere (read_by g p) t c →
      Affords (read_by g p).charging m c → (shows : ShowsListOf g r t) → Affords (read_by g p).charging m' shows.cost
  left_for_elements p size m m' r t c other (q, is, read) means covers shows =
      let paid = list_spent g size r (q, is, read) t c other means shows in
      let within = list_cost q size m m' r t c read (subst (λ x. MeansThere x t c) (sym (read_at g is)) means) shows in
      affords_rest shows.cost c paid (omega (arith, within)) covers

  left_for_list : (p : PointerReader A g) (size : ElementSize) (m m' : Meter) (r : ListReader A g) (t : Tree) (c : ℕ) → WhereRead g (plain_call g p (list_expected size)) (λ q. IsListRead g size q m m' r) → MeansThere (read_by g p) t c → Affords (read_by g p).charging m c →
      (shows : ShowsListOf g r t) → Affords (read_by g p).charging m' shows.cost
  left_for_list p size m m' r Null c read means covers shows = subst (Affords (read_by g p).charging m') (sym shows.shown.1) (affords_none (read_by g p).charging m')
  left_for_list p size m m' r (Flat k ns) c read means covers shows = left_for_elements p size m m' r (Flat k ns) c (λ e. absurd (cc e)) read means covers shows
  left_for_list p size m m' r (Pointers ts) c read means covers shows = left_for_elements p size m m' r (Pointers ts) c (λ e. absurd (cc e)) read means covers shows
  left_for_list p size m m' r (Structs d q es) c read means covers shows = left_for_elements p size m m' r (Structs d q es) c (λ e. absurd (cc e)) read means covers shows
  left_for_list p size m m' r (Capability i) c read means covers shows = absurd shows.shown
  left_for_list p size m m' r (Struct ws ts) c read means covers shows = absurd shows.shown

  -- after a list was read, what all of its pointers mean can be read
  pub list_left : (p : PointerReader A g) (size : ElementSize) (m m' : Meter) (result : Result (ListReader A g) ErrorKind) → IfOk result (λ r. WhereRead g (plain_call g p (list_expected size)) (λ q. IsListRead g size q m m' r)) → IfOk result (λ r. StaysIn (read_by g p) (source_start g r.source)) →
      (t : Tree) (c : ℕ) → MeansThere (read_by g p) t c → Affords (read_by g p).charging m c → IfOk result (λ r. (shows : ShowsListOf g r t) → Affords (source_start g r.source).charging m' shows.cost)
  list_left p size m m' (Ok r) read stays t c means covers = λ shows. stays.affords m' shows.cost (left_for_list p size m m' r t c read means covers shows)
  list_left p size m m' (Err k) read stays t c means covers = tt
