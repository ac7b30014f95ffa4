-- What is copied: what a place means, children, elements, a struct, or a list; how each is read,
-- and what a copy makes of its own words.
use Rattle.std.specs.Prelude.{◌≡◌, ◌⊎◌, ℕ, ◌-◌, ◌*◌, ◌+◌, ◌^◌, ◌<◌, List, length}
use Rattle.capnp_words.specs.declared.error.ErrorKind.{ErrorKind}
use Rattle.capnp_words.specs.declared.error.ErrorKind.TheVariants.{MessageTooLarge}
use Rattle.capnp_words.specs.declared.wire_pointer.ElementSize.{ElementSize}
use Rattle.capnp_words.specs.declared.wire_pointer.ElementSize.TheVariants.{Pointer, InlineComposite}
use Rattle.capnp_words.specs.declared.wire_pointer.StructSize.{StructSize}
use Rattle.capnp_words.specs.Meter.{Meter}
use Rattle.capnp_words.specs.Sizes.{size_number}
use Rattle.capnp_format.specs.Canonical.{cut_to, used_words, word_count, word_count_all, word_count_elements}
use Rattle.capnp_format.specs.Numbers.{words_for, unpacked}
use Rattle.capnp_format.specs.Tree.{Tree, Struct, Flat, Pointers, Structs, Trees, Elements, count}
use Rattle.capnp_format.specs.Tree.{element_count}
use Rattle.capnp_allocation.specs.Made.{structs_words}
use Rattle.capnp_pointers.specs.Outcomes.{Reads, ReadsAll, ReadsElements}
use Rattle.capnp_pointers.specs.Reading.{Reading, words_from}
use Rattle.capnp_pointers.specs.Refusals.{StopsWithin, StopsAmong, StopsAmongElements, IsTried}
use Rattle.capnp_pointers.specs.Spending.{pointers_in, pointers_in_all, pointers_in_elements}
use Rattle.capnp_pointers.specs.Wanted.{Form, canonical}
use Rattle.capnp_copies.specs.Costs.{Spent, spent_until, spent_among, spent_among_elements, spent_past}
use Rattle.capnp_copies.specs.Forms.{kept, kept_each, kept_elements}
use Rattle.capnp_copies.specs.Widths.{widths_kept}
use Rattle.capnp_copies.specs.declared.widths.ElementSizes.{ElementSizes}

-- What is copied, with a tree, children, or elements as its value: how it is read, what a copy
-- makes of it before anything of it is read, how many words a copy has, and how many it takes at
-- most, with its landing pads.
pub record Original (V : Type 0) : Type 1 where
  -- Reading it in a form takes the limiter from one state to another, and returns this value.
  pub reads : Form → Meter → Meter → V → Type 0
  -- Reading it in a form takes the limiter from one state to another, and stops at an object that
  -- satisfies a predicate.
  pub stops : Form → (Reading → Meter → Meter → Type 0) → Meter → Meter → Type 0
  -- What was spent before that object.
  pub spent : {form : Form} {P : Reading → Meter → Meter → Type 0} {m m' : Meter} →
      stops form P m m' → Spent
  -- A copy in a form makes an object of this many words, from words that were read before.
  pub makes : Form → ℕ → Type 0
  -- The object is too large for a pointer to it in this form. Its copy is refused with this error.
  pub exceeds : Form → ErrorKind → Type 0
  -- How many words of it a copy in a form has, in addition to those that are at the place already.
  pub words : Form → V → ℕ
  -- Reading it in a form takes the limiter from one state to another, and a predicate holds for the
  -- words and pads that its copy takes for that.
  pub takes : Form → Meter → Meter → (ℕ → ℕ → Type 0) → Type 0
  -- Reading it in a form takes the limiter from one state to another and stops at one object; or
  -- its words were read before, and nothing is read. A predicate holds for the words and pads that
  -- its copy takes until then.
  pub takes_until : Form → Meter → Meter → (ℕ → ℕ → Type 0) → Type 0

-- What a place means. Nothing of it was read before. Its copy takes what reading it costs, and a
-- pad for each pointer that is followed.
abbrev pub value_original : Reading → Original Tree
value_original r = record {
  reads = λ form m m' t. Reads form r m m' t;
  stops = λ form P m m'. StopsWithin form P r m m';
  spent = λ x. spent_until x;
  makes = λ form n. ⊥;
  exceeds = λ form k. ⊥;
  words = λ form t. word_count (kept form t);
  takes = λ form m m' P. (t : Tree) × (x : Reads form r m m' t) × P x.cost (pointers_in t);
  takes_until = λ form m m' P. (x : StopsWithin form (IsTried form) r m m') ×
      P (spent_until x).words (spent_until x).pointers;
}

-- What n consecutive pointers from a place on mean. Nothing of it was read before.
abbrev pub children_original : Reading → ℕ → Original Trees
children_original r n = record {
  reads = λ form m m' ts. (count ts ≡ n) × ReadsAll form r m m' ts;
  stops = λ form P m m'. StopsAmong form P r n m m';
  spent = λ x. spent_among x;
  makes = λ form i. ⊥;
  exceeds = λ form k. ⊥;
  words = λ form ts. word_count_all (kept_each form ts);
  takes = λ form m m' P. (ts : Trees) × (count ts ≡ n) × (x : ReadsAll form r m m' ts) ×
      P x.cost (pointers_in_all ts);
  takes_until = λ form m m' P. (x : StopsAmong form (IsTried form) r n m m') ×
      P (spent_among x).words (spent_among x).pointers;
}

-- What the pointers of n elements mean. The elements have one size in the source and another in the
-- copy.
abbrev pub elements_original : Reading → ElementSizes → ℕ → Original Elements
elements_original r sizes n = record {
  reads = λ form m m' es. (element_count es ≡ n) × ReadsElements form r sizes.source m m' es;
  stops = λ form P m m'. StopsAmongElements form P r sizes.source n m m';
  spent = λ x. spent_among_elements x;
  makes = λ form i. ⊥;
  exceeds = λ form k. ⊥;
  words = λ form es. word_count_elements
      (cut_to sizes.kept.data_words sizes.kept.pointers (kept_elements form es));
  takes = λ form m m' P. (es : Elements) × (element_count es ≡ n) ×
      (x : ReadsElements form r sizes.source m m' es) × P x.cost (pointers_in_elements es);
  takes_until = λ form m m' P. (x : StopsAmongElements form (IsTried form) r sizes.source n m m') ×
      P (spent_among_elements x).words (spent_among_elements x).pointers;
}

-- How many words of a section a copy keeps: in canonical form those up to the last that isn't zero.
abbrev pub kept_count : Form → List ℕ → ℕ
kept_count canonical ws = used_words ws
kept_count _ ws = length ws

-- The struct of the data words ws, with q pointers from a place on. Reading costs nothing for its
-- own words, so these and its pad are added to what its copy takes. If more data words are kept
-- than a struct can have, the error says how many.
abbrev pub sections_original : List ℕ → Reading → ℕ → Original Tree
sections_original ws r q = record {
  reads = λ form m m' t. (ts : Trees) × (t ≡ Struct ws ts) × (count ts ≡ q) × ReadsAll form r m m' ts;
  stops = λ form P m m'. StopsAmong form P r q m m';
  spent = λ x. spent_past (length ws + q) (spent_among x);
  makes = λ form n. n ≡ kept_count form ws + kept_count form (words_from r q);
  exceeds = λ form k. (2 ^ 16 - 1 < kept_count form ws) × (k ≡ MessageTooLarge (kept_count form ws));
  words = λ form t. word_count (kept form t);
  takes = λ form m m' P. (ts : Trees) × (count ts ≡ q) × (x : ReadsAll form r m m' ts) ×
      P (length ws + q + x.cost) (1 + pointers_in_all ts);
  takes_until = λ form m m' P. ((m' ≡ m) × P 0 0) ⊎
      ((x : StopsAmong form (IsTried form) r q m m') ×
      P (length ws + q + (spent_among x).words) (1 + (spent_among x).pointers));
}

-- A list pointer and its tag can express n elements of this size; for structs, of `width` words
-- each.
abbrev pub FitsListPointer : ElementSize → ℕ → ℕ → Type 0
FitsListPointer InlineComposite n width = (n < 2 ^ 30) × (n * width < 2 ^ 29)
FitsListPointer size n width = n < 2 ^ 29

-- A list pointer and its tag can't express n elements of this size and width; k is
-- `MessageTooLarge(2^64 - 1)`, which states no number of words.
abbrev pub IsTooLong : ElementSize → ℕ → ℕ → ErrorKind → Type 0
IsTooLong size n width k = (FitsListPointer size n width → ⊥) × (k ≡ MessageTooLarge (2 ^ 64 - 1))

-- The list of n elements from a place on: of numbers, which cost nothing to read; of pointers; and
-- of structs of a size.
abbrev pub numbers_original : ElementSize → ℕ → Reading → Original Tree
numbers_original size n r = record {
  reads = λ form m m' t. (t ≡ Flat (size_number size)
      (unpacked (size_number size) n (words_from r (words_for (size_number size) n)))) × (m' ≡ m);
  stops = λ form P m m'. ⊥;
  spent = λ none. absurd none;
  makes = λ form i. i ≡ words_for (size_number size) n;
  exceeds = λ form k. IsTooLong size n 0 k;
  words = λ form t. word_count (kept form t);
  takes = λ form m m' P. (m' ≡ m) × P (words_for (size_number size) n) 1;
  takes_until = λ form m m' P. (m' ≡ m) × P 0 0;
}

abbrev pub pointers_original : ℕ → Reading → Original Tree
pointers_original n r = record {
  reads = λ form m m' t. (ts : Trees) × (t ≡ Pointers ts) × (count ts ≡ n) × ReadsAll form r m m' ts;
  stops = λ form P m m'. StopsAmong form P r n m m';
  spent = λ x. spent_past n (spent_among x);
  makes = λ form i. i ≡ n;
  exceeds = λ form k. IsTooLong Pointer n 0 k;
  words = λ form t. word_count (kept form t);
  takes = λ form m m' P. (ts : Trees) × (count ts ≡ n) × (x : ReadsAll form r m m' ts) ×
      P (n + x.cost) (1 + pointers_in_all ts);
  takes_until = λ form m m' P. ((m' ≡ m) × P 0 0) ⊎
      ((x : StopsAmong form (IsTried form) r n m m') ×
      P (n + (spent_among x).words) (1 + (spent_among x).pointers));
}

abbrev pub structs_original : StructSize → ℕ → Reading → Original Tree
structs_original size n r = record {
  reads = λ form m m' t. (es : Elements) × (t ≡ Structs size.data_words size.pointers es) ×
      (element_count es ≡ n) × ReadsElements form r size m m' es;
  stops = λ form P m m'. StopsAmongElements form P r size n m m';
  spent = λ x. spent_past (structs_words n size) (spent_among_elements x);
  makes = λ form i. i ≡ structs_words n (widths_kept form r size n);
  exceeds = λ form k. IsTooLong InlineComposite n (size.data_words + size.pointers) k;
  words = λ form t. word_count (kept form t);
  takes = λ form m m' P. (es : Elements) × (element_count es ≡ n) ×
      (x : ReadsElements form r size m m' es) ×
      P (structs_words n size + x.cost) (1 + pointers_in_elements es);
  takes_until = λ form m m' P. ((m' ≡ m) × P 0 0) ⊎
      ((x : StopsAmongElements form (IsTried form) r size n m m') ×
      P (structs_words n size + (spent_among_elements x).words)
      (1 + (spent_among_elements x).pointers));
}

-- The list of n elements of a size, from a place on; structs have these sections.
abbrev pub list_original : ElementSize → StructSize → ℕ → Reading → Original Tree
list_original Pointer sections n r = pointers_original n r
list_original InlineComposite sections n r = structs_original sections n r
list_original size sections n r = numbers_original size n r
