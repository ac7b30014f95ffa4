-- Where a reading stops, with which error, and what it was granted before: the order of checks and
-- charges of one object, and of a whole value in the order of its pointers (docs/FORMAT.md,
-- "Charges and refusals").
use Rattle.std.specs.Prelude.{◌≡◌, ◌≢◌, ◌⊎◌, ℕ, pred, ◌+◌, ◌%◌, ◌^◌, ◌<◌, if◌then◌else◌, ◌&&◌}
use Rattle.std.specs.Prelude.{nat_eq, is_some, Err}
use Rattle.capnp_words.specs.declared.error.ErrorKind.{ErrorKind}
use Rattle.capnp_words.specs.declared.error.ErrorKind.TheVariants.{CantHandleNonStructInlineComposite}
use Rattle.capnp_words.specs.declared.error.ErrorKind.TheVariants.{InlineCompositeListsElementsOverrunItsWordCount}
use Rattle.capnp_words.specs.declared.error.ErrorKind.TheVariants.{InlineCompositeListsOfNonStructTypeAreNotSupported}
use Rattle.capnp_words.specs.declared.error.ErrorKind.TheVariants.{ReadLimitExceeded}
use Rattle.capnp_words.specs.declared.wire_pointer.StructSize.{StructSize}
use Rattle.capnp_words.specs.Meter.{Meter, Affords}
use Rattle.capnp_format.specs.Word.{kind, offset_bits, data_words, pointer_count, element_size}
use Rattle.capnp_format.specs.Word.{list_count, is_double}
use Rattle.capnp_format.specs.Segments.{Segments, Target, pad}
use Rattle.capnp_format.specs.Tree.{Trees, Elements, count, element_count}
use Rattle.capnp_format.specs.Means.{Claims}
use Rattle.capnp_pointers.specs.declared.object.Purpose.{Purpose}
use Rattle.capnp_pointers.specs.declared.object.Purpose.TheVariants.{Value}
use Rattle.capnp_pointers.specs.Demands.{claimed_words, tag, own_charge, IsStructList, Meets}
use Rattle.capnp_pointers.specs.Faults.{child_at}
use Rattle.capnp_pointers.specs.Outcomes.{Entered, ReadsAll, ReadsElements}
use Rattle.capnp_pointers.specs.Reading.{Reading, word_of, place_past, pointers_of, tag_size}
use Rattle.capnp_pointers.specs.Spending.{Paid}
use Rattle.capnp_pointers.specs.Wanted.{Form, plain, BreaksObject, follow_at, FollowsTo, FollowsFor}

-- The number of words of the landing pads of a pointer word, if they are inside their segment;
-- otherwise, and for a near pointer, 0.
abbrev pub landing_words : Segments → ℕ → ℕ
landing_words S x = if nat_eq (kind x) 2 && is_some (pad S x (is_double x)) then 1 + is_double x else 0

-- The number of words that an object was granted before the demand with this error is checked: what
-- it claims, for a demand on the tag of a list of structs; otherwise 0.
abbrev pub granted_before : Target → ErrorKind → ℕ
granted_before a InlineCompositeListsOfNonStructTypeAreNotSupported = claimed_words a.word
granted_before a CantHandleNonStructInlineComposite = claimed_words a.word
granted_before a InlineCompositeListsElementsOverrunItsWordCount = claimed_words a.word
granted_before a k = 0

-- The pointer at a place isn't followed, which is refused with k and takes the limiter from m to
-- m'. The pointer is counted. If the limiter doesn't cover its landing pads, nothing is granted;
-- otherwise it leads nowhere, and these are granted, if they are there.
pub data Unfollowed (r : Reading) (m m' : Meter) (k : ErrorKind) : Type 0 where
  exceeding : word_of r ≢ 0 → (Affords r.charging m (landing_words r.segments (word_of r)) → ⊥) →
      Paid r.charging m m' 0 1 → k ≡ ReadLimitExceeded → Unfollowed r m m' k
  leading_nowhere : word_of r ≢ 0 → follow_at r ≡ Err k →
      Paid r.charging m m' (landing_words r.segments (word_of r)) 1 → Unfollowed r m m' k

-- The reading of one object stops with k, and takes the limiter from m to m'. Either its pointer
-- isn't followed. Or the pointer is counted, and this is granted: if the object breaks a demand,
-- its landing pads, and what it claims if its tag is wrong; if its claim isn't covered, only its
-- landing pads; if the number of elements without width isn't covered, the pads and the claim.
pub data Stopped (purpose : Purpose) (form : Form) (r : Reading) (m m' : Meter) (k : ErrorKind)
    : Type 0 where
  no_target : Unfollowed r m m' k → Stopped purpose form r m m' k
  broken : (a : Target) → FollowsTo r a → BreaksObject purpose form r.segments r.levels a k →
      Paid r.charging m m' (a.pads + granted_before a k) 1 → Stopped purpose form r m m' k
  claim_exceeds :
      (a : Target) →
      FollowsTo r a →
      0 < r.levels →
      kind a.word < 2 →
      Claims r.segments a (claimed_words a.word) →
      (Affords r.charging m (a.pads + claimed_words a.word) → ⊥) →
      Paid r.charging m m' a.pads 1 →
      k ≡ ReadLimitExceeded →
      Stopped purpose form r m m' k
  count_exceeds :
      (a : Target) →
      FollowsTo r a →
      Meets purpose r.segments r.levels a →
      (Affords r.charging m (own_charge purpose r.segments a) → ⊥) →
      Paid r.charging m m' (a.pads + claimed_words a.word) 1 →
      k ≡ ReadLimitExceeded →
      Stopped purpose form r m m' k

-- Reading the object at the place as a plain value stops with k, and takes the limiter from m to
-- m'.
abbrev pub NotRead : Purpose → Reading → Meter → Meter → ErrorKind → Type 0
NotRead purpose r m m' k = Stopped purpose plain r m m' k

-- One object can be read: the demands at the place itself hold, and m covers what the call charges.
unfoldable pub CanBeRead : Purpose → Reading → Meter → Type 0
CanBeRead purpose r m =
    (word_of r ≡ 0)
    ⊎ ((a : Target) × FollowsFor purpose r a × (a.word % 2 ^ 32 ≡ 3) × Affords r.charging m a.pads)
    ⊎ ((a : Target) × FollowsTo r a × Meets purpose r.segments r.levels a ×
    Affords r.charging m (own_charge purpose r.segments a))

-- The pointers of the object a before its pointer at position q are visited, from one state to
-- another. `Run` states that for consecutive pointers, from a place on, and `Rows` for the pointers
-- of elements of a size.
pub data GoesBefore {X : Type 0} (Run : Reading → X → X → Trees → Type 0)
    (Rows : Reading → StructSize → X → X → Elements → Type 0) (r : Reading) (a : Target) (q : ℕ)
    (from to : X) : Type 0 where
  in_struct :
      (ts : Trees) →
      kind a.word ≡ 0 →
      count ts < pointer_count a.word →
      q ≡ a.start + data_words a.word + count ts →
      Run (child_at r a (pred r.levels) (a.start + data_words a.word)) from to ts →
      GoesBefore Run Rows r a q from to
  in_pointers :
      (ts : Trees) →
      kind a.word ≡ 1 →
      element_size a.word ≡ 6 →
      count ts < list_count a.word →
      q ≡ a.start + count ts →
      Run (child_at r a (pred r.levels) a.start) from to ts →
      GoesBefore Run Rows r a q from to
  in_element :
      (es : Elements) (ts : Trees) (mid : X) →
      IsStructList a.word →
      element_count es < offset_bits (tag r.segments a) →
      count ts < pointer_count (tag r.segments a) →
      q ≡ (pointers_of (child_at r a (pred r.levels) (a.start + 1)) (tag_size r.segments a)
      (element_count es)).at + count ts →
      Rows (child_at r a (pred r.levels) (a.start + 1)) (tag_size r.segments a) from mid es →
      Run (pointers_of (child_at r a (pred r.levels) (a.start + 1)) (tag_size r.segments a)
      (element_count es)) mid to ts →
      GoesBefore Run Rows r a q from to

-- The reading of a whole value stops, from m to m', where P holds for one object: at its own
-- object, or at that of one of its pointers, after the object and the pointers before that one were
-- read.
pub data StopsWithin (form : Form) (P : Reading → Meter → Meter → Type 0) : Reading → Meter →
    Meter → Type 0 where
  here : {r : Reading} {m m' : Meter} → P r m m' → StopsWithin form P r m m'
  below :
      {r : Reading} {m first mid m' : Meter} (a : Target) (q : ℕ) →
      Entered Value r m first a →
      GoesBefore (ReadsAll form) (ReadsElements form) r a q first mid →
      StopsWithin form P (child_at r a (pred r.levels) q) mid m' →
      StopsWithin form P r m m'

-- The reading of i pointers from the place on stops at one of them, after those before it were
-- read.
pub record StopsAmong (form : Form) (P : Reading → Meter → Meter → Type 0) (r : Reading) (i : ℕ)
    (m m' : Meter) : Type 0 where
  pub first : Trees
  pub fewer : count first < i
  pub mid : Meter
  pub are_read : ReadsAll form r m mid first
  pub stops : StopsWithin form P (place_past r (count first)) mid m'

-- The reading of i elements stops at a pointer of one of them, after the elements before it were
-- read.
pub record StopsAmongElements (form : Form) (P : Reading → Meter → Meter → Type 0) (r : Reading)
    (size : StructSize) (i : ℕ) (m m' : Meter) : Type 0 where
  pub first : Elements
  pub fewer : element_count first < i
  pub mid : Meter
  pub are_read : ReadsElements form r size m mid first
  pub stops : StopsAmong form P (pointers_of r size (element_count first)) size.pointers mid m'

-- The reading of a whole value is refused with k: that of one object is.
abbrev pub Refused : Form → Reading → Meter → Meter → ErrorKind → Type 0
Refused form r m m' k = StopsWithin form (λ s i j. Stopped Value form s i j k) r m m'

-- The reading of one object stops; or the object was read, and what is made of it finds no room. A
-- reading that stops here is broken off: all before the object was read, and it was granted at most
-- its own charges.
abbrev pub IsTried : Form → Reading → Meter → Meter → Type 0
IsTried form r m m' =
    ((k : ErrorKind) × Stopped Value form r m m' k) ⊎ ((a : Target) × Entered Value r m m' a)
