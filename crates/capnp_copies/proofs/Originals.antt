-- What is copied: what can be read of it, when it is too large, and a copy of it that is refused
-- halfway.
use Rattle.std.proofs.Common.{◌≡◌, ◌≢◌, ◌⊎◌, inl, inr, ℕ, ◌+◌, ◌-◌, ◌^◌, ◌<◌, Bool, true, false, None, List, length, refl, sym, subst, arith}
use Rattle.capnp_words.specs.declared.error.ErrorKind.{ErrorKind}
use Rattle.capnp_words.specs.declared.error.ErrorKind.TheVariants.{MessageTooLarge}
use Rattle.capnp_words.specs.declared.wire_pointer.ElementSize.{ElementSize}
use Rattle.capnp_words.specs.declared.wire_pointer.ElementSize.TheVariants.{Void, Bit, Byte, TwoBytes, FourBytes, EightBytes, Pointer, InlineComposite}
use Rattle.capnp_words.specs.declared.wire_pointer.StructSize.{StructSize}
use Rattle.capnp_words.specs.Meter.{Meter, Affords, unused}
use Rattle.capnp_format.specs.Tree.{Tree, Null, Struct, Pointers, Structs, Trees, Elements, count, element_count}
use Rattle.capnp_format.specs.Canonical.{cut_to, word_count, word_count_all, word_count_elements}
use Rattle.capnp_format.specs.Segments.{segment}
use Rattle.capnp_arena_traits.specs.View.{View}
use Rattle.capnp_allocation.specs.Memory.{SpendsMemory, RefusesWords}
use Rattle.capnp_allocation.specs.Stored.{IsReplaced}
use Rattle.capnp_pointers.specs.Outcomes.{MeansThere, Reads, ReadsAll, ReadsElements}
use Rattle.capnp_pointers.specs.Reading.{Reading, place_past, words_from}
use Rattle.capnp_pointers.specs.Refusals.{Stopped}
use Rattle.capnp_pointers.specs.Spending.{after_charge, pointers_in, pointers_in_all, pointers_in_elements}
use Rattle.capnp_pointers.specs.Wanted.{Form, plain}
use Rattle.capnp_pointers.specs.declared.object.Purpose.TheVariants.{Value}
use Rattle.capnp_copies.specs.Changes.{CopyCall, ComesToObject, FindsNoRoom, LacksRoom, RefusesToCopy, StopsCopy}
use Rattle.capnp_copies.proofs.Copying.{StopsHalfway}
use Rattle.capnp_copies.specs.Forms.{kept, kept_each, kept_elements}
use Rattle.capnp_copies.specs.Originals.{Original, value_original, children_original, elements_original, sections_original, numbers_original, pointers_original, structs_original, list_original, FitsListPointer}
use Rattle.capnp_copies.specs.Rooms.{CanBeCopied}
use Rattle.capnp_copies.specs.declared.widths.ElementSizes.{ElementSizes}
use Rattle.capnp_pointers.proofs.WholeValue.Shorthands.{MeanThere, ElementsMean, RefusedAll}

-- A limiter without a budget allows all reading.

affords_all : (charging : Bool) (n : ℕ) → Affords charging (unused None) n
affords_all true n = tt
affords_all false n = tt

-- Whatever value can be read of it, the words that are kept of that value don't fit after the
-- `used` words of a segment with this room.
abbrev pub ExceedsRoom : {V : Type 0} → Form → Original V → ℕ → ℕ → Type 0
ExceedsRoom {V} form o used room = (any : Form) (m m' : Meter) (value : V) → o.reads any m m' value → room < used + o.words form value

-- What a place means is too large.

pub value_large : (b : Form) (r : Reading) (used room : ℕ) → ((t : Tree) (c : ℕ) → MeansThere r t c → room < used + word_count (kept b t)) → ExceedsRoom b (value_original r) used room
value_large b r used room large any m m' t read = large t read.cost read.means

pub value_beyond : (b : Form) (r : Reading) (used room : ℕ) → ExceedsRoom b (value_original r) used room → (t : Tree) (c : ℕ) → MeansThere r t c → room < used + word_count (kept b t)
value_beyond b r used room large t c means =
    let read : Reads plain r (unused None) (after_charge r.charging (unused None) c (pointers_in t)) t = record { cost = c; means = means; takes = λ f. absurd (f refl); covers = affords_all r.charging c; spent = refl } in
    large plain (unused None) (after_charge r.charging (unused None) c (pointers_in t)) t read

-- A struct of these data words with q pointers from r on.

abbrev pub AreTooLargeSections : Form → List ℕ → Reading → ℕ → ℕ → ℕ → Type 0
AreTooLargeSections b ws r q used room = (ts : Trees) (c : ℕ) → count ts ≡ q → MeanThere r ts c → room < used + word_count (kept b (Struct ws ts))

abbrev pub IsTooLargeStruct : Form → Reading → StructSize → ℕ → ℕ → Type 0
IsTooLargeStruct b r size used room = AreTooLargeSections b (words_from r size.data_words) (place_past r size.data_words) size.pointers used room

all_read : (r : Reading) (ts : Trees) (c : ℕ) → MeanThere r ts c → ReadsAll plain r (unused None) (after_charge r.charging (unused None) c (pointers_in_all ts)) ts
all_read r ts c means = record { cost = c; means = means; takes = λ f. absurd (f refl); covers = affords_all r.charging c; spent = refl }

pub sections_large : (b : Form) (ws : List ℕ) (r : Reading) (q used room : ℕ) → AreTooLargeSections b ws r q used room → ExceedsRoom b (sections_original ws r q) used room
sections_large b ws r q used room large any m m' t (ts, is, counts, read) = subst (λ u. room < used + word_count (kept b u)) (sym is) (large ts read.cost counts read.means)

pub sections_beyond : (b : Form) (ws : List ℕ) (r : Reading) (q used room : ℕ) → ExceedsRoom b (sections_original ws r q) used room → AreTooLargeSections b ws r q used room
sections_beyond b ws r q used room large ts c counts means = large plain (unused None) (after_charge r.charging (unused None) c (pointers_in_all ts)) (Struct ws ts) (ts, refl, counts, all_read r ts c means)

-- i pointers from a place on.

abbrev pub AreTooLarge : Form → Reading → ℕ → ℕ → ℕ → Type 0
AreTooLarge b r i used room = (ts : Trees) (c : ℕ) → count ts ≡ i → MeanThere r ts c → room < used + word_count_all (kept_each b ts)

pub children_large : (b : Form) (r : Reading) (i used room : ℕ) → AreTooLarge b r i used room → ExceedsRoom b (children_original r i) used room
children_large b r i used room large any m m' ts (counts, read) = large ts read.cost counts read.means

pub children_beyond : (b : Form) (r : Reading) (i used room : ℕ) → ExceedsRoom b (children_original r i) used room → AreTooLarge b r i used room
children_beyond b r i used room large ts c counts means = large plain (unused None) (after_charge r.charging (unused None) c (pointers_in_all ts)) ts (counts, all_read r ts c means)

-- If there is no room, a request for some n words is refused.
pub refused_words : {V : Type 0} (o : Original V) (c : CopyCall) (k : ErrorKind) → LacksRoom o c k → (n : ℕ) × RefusesWords c.old c.new n k
refused_words o c k (inl (n, same, makes, (refused, full))) = (n, refused)
refused_words o c k (inr (n, stops, (refused, full))) = (n, refused)

-- If there is no room in a message, there is none in the one before, if the same objects find none
-- there.
pub lacks_before : {V : Type 0} (o : Original V) (c : CopyCall) (v : View) (k : ErrorKind) → ((n all : ℕ) → FindsNoRoom c k n all → FindsNoRoom (record c { old = v }) k n all) → LacksRoom o c k → LacksRoom o (record c { old = v }) k
lacks_before o c v k f (inl (n, same, makes, found)) = inl (n, same, makes, f n n found)
lacks_before o c v k f (inr (n, stops, found)) = inr (n, stops, f n ((o.spent stops).words + n) found)

-- And there is none in the one afterwards, if the same words are refused.
pub lacks_after : {V : Type 0} (o : Original V) (c : CopyCall) (v : View) (k : ErrorKind) → ((n : ℕ) → RefusesWords c.old c.new n k → RefusesWords c.old v n k) → LacksRoom o c k → LacksRoom o (record c { new = v }) k
lacks_after o c v k f (inl (n, same, makes, (refused, full))) = inl (n, same, makes, (f n refused, full))
lacks_after o c v k f (inr (n, stops, (refused, full))) = inr (n, stops, (f n refused, full))

-- The reason why the copy of children is refused.
abbrev pub ChildrenRefused : Reading → ℕ → CopyCall → ErrorKind → Type 0
ChildrenRefused r i c k =
    (ComesToObject (children_original r i) c.form c.before c.after (FindsNoRoom c k) × AreTooLarge c.form r i (length (segment c.old.words c.segment)) (c.old.room c.segment)) ⊎ RefusedAll c.form r i c.before c.after k

pub children_refused : (r : Reading) (i : ℕ) (c : CopyCall) (k : ErrorKind) → RefusesToCopy (children_original r i) c k → ChildrenRefused r i c k
children_refused r i c k why = elim why [
  | inl x ↦ inl (
    (let comes : ComesToObject (children_original r i) c.form c.before c.after (FindsNoRoom c k) = elim x.0 [ inl none ↦ absurd none.2 | inr y ↦ y ] in comes),
    children_beyond c.form r i (length (segment c.old.words c.segment)) (c.old.room c.segment) x.1,
  )
  | inr y ↦ elim y [ inl refused ↦ inr refused | inr none ↦ absurd none ]
]

pub refuses_children : (r : Reading) (i : ℕ) (c : CopyCall) (k : ErrorKind) → ChildrenRefused r i c k → RefusesToCopy (children_original r i) c k
refuses_children r i c k why = elim why [
  | inl x ↦ inl (inr x.0, children_large c.form r i (length (segment c.old.words c.segment)) (c.old.room c.segment) x.1)
  | inr refused ↦ inr (inl refused)
]

-- A list of i pointers.

abbrev pub IsTooLargePointers : Form → Reading → ℕ → ℕ → ℕ → Type 0
IsTooLargePointers b r i used room = (ts : Trees) (c : ℕ) → count ts ≡ i → MeanThere r ts c → room < used + word_count (kept b (Pointers ts))

pub pointers_large : (b : Form) (r : Reading) (i used room : ℕ) → IsTooLargePointers b r i used room → ExceedsRoom b (pointers_original i r) used room
pointers_large b r i used room large any m m' t (ts, is, counts, read) = subst (λ u. room < used + word_count (kept b u)) (sym is) (large ts read.cost counts read.means)

pub pointers_beyond : (b : Form) (r : Reading) (i used room : ℕ) → ExceedsRoom b (pointers_original i r) used room → IsTooLargePointers b r i used room
pointers_beyond b r i used room large ts c counts means = large plain (unused None) (after_charge r.charging (unused None) c (pointers_in_all ts)) (Pointers ts) (ts, refl, counts, all_read r ts c means)

-- i elements, cut to the sections of the copy.

abbrev pub AreTooLargeElements : Form → Reading → ElementSizes → ℕ → ℕ → ℕ → Type 0
AreTooLargeElements b r sizes i used room =
    (es : Elements) (c : ℕ) → element_count es ≡ i → ElementsMean r sizes.source es c → room < used + word_count_elements (cut_to sizes.kept.data_words sizes.kept.pointers (kept_elements b es))

elements_read : (r : Reading) (size : StructSize) (es : Elements) (c : ℕ) → ElementsMean r size es c → ReadsElements plain r size (unused None) (after_charge r.charging (unused None) c (pointers_in_elements es)) es
elements_read r size es c means = record { cost = c; means = means; takes = λ f. absurd (f refl); covers = affords_all r.charging c; spent = refl }

pub elements_large : (b : Form) (r : Reading) (sizes : ElementSizes) (i used room : ℕ) → AreTooLargeElements b r sizes i used room → ExceedsRoom b (elements_original r sizes i) used room
elements_large b r sizes i used room large any m m' es (counts, read) = large es read.cost counts read.means

pub elements_beyond : (b : Form) (r : Reading) (sizes : ElementSizes) (i used room : ℕ) → ExceedsRoom b (elements_original r sizes i) used room → AreTooLargeElements b r sizes i used room
elements_beyond b r sizes i used room large es c counts means = large plain (unused None) (after_charge r.charging (unused None) c (pointers_in_elements es)) es (counts, elements_read r sizes.source es c means)

-- A list of i structs of this size.

abbrev pub IsTooLargeList : Form → Reading → StructSize → ℕ → ℕ → ℕ → Type 0
IsTooLargeList b r size i used room =
    (es : Elements) (c : ℕ) → element_count es ≡ i → ElementsMean r size es c → room < used + word_count (kept b (Structs size.data_words size.pointers es))

pub structs_large : (b : Form) (r : Reading) (size : StructSize) (i used room : ℕ) → IsTooLargeList b r size i used room → ExceedsRoom b (structs_original size i r) used room
structs_large b r size i used room large any m m' t (es, is, counts, read) = subst (λ u. room < used + word_count (kept b u)) (sym is) (large es read.cost counts read.means)

pub structs_beyond : (b : Form) (r : Reading) (size : StructSize) (i used room : ℕ) → ExceedsRoom b (structs_original size i r) used room → IsTooLargeList b r size i used room
structs_beyond b r size i used room large es c counts means =
    large plain (unused None) (after_charge r.charging (unused None) c (pointers_in_elements es)) (Structs size.data_words size.pointers es) (es, refl, counts, elements_read r size es c means)

-- A list by its size.

pub pointers_listed : (size : ElementSize) (sections : StructSize) (n : ℕ) (r : Reading) (P : Original Tree → Type 0) → size ≡ Pointer → P (pointers_original n r) → P (list_original size sections n r)
pointers_listed size sections n r P is h = subst (λ size. P (list_original size sections n r)) (sym is) h

pub structs_listed : (size : ElementSize) (sections : StructSize) (n : ℕ) (r : Reading) (P : Original Tree → Type 0) → size ≡ InlineComposite → P (structs_original sections n r) → P (list_original size sections n r)
structs_listed size sections n r P is h = subst (λ size. P (list_original size sections n r)) (sym is) h

pub numbers_listed : (size : ElementSize) (sections : StructSize) (n : ℕ) (r : Reading) (P : Original Tree → Type 0) → size ≢ Pointer → size ≢ InlineComposite → P (numbers_original size n r) → P (list_original size sections n r)
numbers_listed Pointer sections n r P pointer struct h = absurd (pointer refl)
numbers_listed InlineComposite sections n r P pointer struct h = absurd (struct refl)
numbers_listed Void sections n r P pointer struct h = h
numbers_listed Bit sections n r P pointer struct h = h
numbers_listed Byte sections n r P pointer struct h = h
numbers_listed TwoBytes sections n r P pointer struct h = h
numbers_listed FourBytes sections n r P pointer struct h = h
numbers_listed EightBytes sections n r P pointer struct h = h

-- The number of words of a list that a copy has.

pub list_words : (size : ElementSize) (sections : StructSize) (n : ℕ) (r : Reading) (b : Form) (t : Tree) → (list_original size sections n r).words b t ≡ word_count (kept b t)
list_words Pointer sections n r b t = refl
list_words InlineComposite sections n r b t = refl
list_words Void sections n r b t = refl
list_words Bit sections n r b t = refl
list_words Byte sections n r b t = refl
list_words TwoBytes sections n r b t = refl
list_words FourBytes sections n r b t = refl
list_words EightBytes sections n r b t = refl

-- A list that is larger than a list pointer can say.

pub list_exceeds : (size : ElementSize) (sections : StructSize) (n : ℕ) (r : Reading) (b : Form) → (FitsListPointer size n (sections.data_words + sections.pointers) → ⊥) → (list_original size sections n r).exceeds b (MessageTooLarge (2 ^ 64 - 1))
list_exceeds Pointer sections n r b long = (long, refl)
list_exceeds InlineComposite sections n r b long = (long, refl)
list_exceeds Void sections n r b long = (long, refl)
list_exceeds Bit sections n r b long = (long, refl)
list_exceeds Byte sections n r b long = (long, refl)
list_exceeds TwoBytes sections n r b long = (long, refl)
list_exceeds FourBytes sections n r b long = (long, refl)
list_exceeds EightBytes sections n r b long = (long, refl)

pub exceeding : (size : ElementSize) (sections : StructSize) (n : ℕ) (r : Reading) (b : Form) (k : ErrorKind) → (list_original size sections n r).exceeds b k → (FitsListPointer size n (sections.data_words + sections.pointers) → ⊥) × (k ≡ MessageTooLarge (2 ^ 64 - 1))
exceeding Pointer sections n r b k h = h
exceeding InlineComposite sections n r b k h = h
exceeding Void sections n r b k h = h
exceeding Bit sections n r b k h = h
exceeding Byte sections n r b k h = h
exceeding TwoBytes sections n r b k h = h
exceeding FourBytes sections n r b k h = h
exceeding EightBytes sections n r b k h = h

-- A copy that is refused halfway.

abbrev pub LeavesSomeValue : CopyCall → ErrorKind → Type 0
LeavesSomeValue c k = ((t : Tree) × IsReplaced c.old.words c.new.words c.segment c.at Null t) × SpendsMemory c.old c.new k

pub halfway : {o : Original Tree} {c : CopyCall} {k : ErrorKind} → RefusesToCopy o c k → LeavesSomeValue c k → StopsHalfway o c k
halfway why left = (left.0.0, record { why = why; left = left.0.1; memory = left.1 })

-- A copy that can be made isn't refused.
pub refused_rightly : {o : Original Tree} {c : CopyCall} {t : Tree} {k : ErrorKind} → ((m : Meter) (u : Tree) → o.stops c.form (λ r i j. Stopped Value c.form r i j k) c.before c.after → o.reads c.form c.before m u → ⊥) → StopsCopy o c t k →
    CanBeCopied o c.form c.before c.old c.segment → ⊥
refused_rightly {c = c} {k = k} apart stop can = elim stop.why [
  | inl x ↦ (let beyond = x.1 c.form c.before can.after can.value can.is_read in omega (arith, beyond, can.room))
  | inr y ↦ elim y [ inl refused ↦ apart can.after can.value refused can.is_read | inr large ↦ can.small k large ]
]
