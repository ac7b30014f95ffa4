-- Facts about reading messages, and what the reading functions result in for these messages.
use Rattle.std.specs.Prelude.{◌≡◌, ℕ, ◌-◌, List, map, Option, Some, Result, Ok, Err}
use Rattle.capnp_words.specs.declared.error.ErrorKind.{ErrorKind}
use Rattle.capnp_words.specs.declared.error.ErrorKind.TheVariants.{CannotCreateACanonicalMessageWithACapability}
use Rattle.capnp_words.specs.Meter.{Meter, unused}
use Rattle.capnp_format.specs.Canonical.{trim, encoding, word_count}
use Rattle.capnp_format.specs.Segments.{Segments}
use Rattle.capnp_format.specs.Tree.{Tree, capabilities, depth}
use Rattle.capnp_pointers.specs.Examples.{root_reading, root_value}
use Rattle.capnp_pointers.specs.Wanted.{plain, canonical}
use Rattle.capnp_pointers.specs.declared.pointers.sizes.MessageSize.{MessageSize}
use Rattle.capnp_pointers.specs.Measure.{measure, only_words}

-- What a reading results in, and what it leaves of the traversal limit.
abbrev pub Ended : Type 0 → Type 0
Ended A = Result A ErrorKind × Option ℕ

-- What is known of a value: its levels, its words and its capabilities.
pub record Extent : Type 0 where
  pub levels : ℕ
  pub words : ℕ
  pub capabilities : ℕ

-- What three readings of one message result in: of its value, of its value for a canonical copy, with
-- the words of the copy, and of its size.
pub record Readings : Type 0 where
  pub value : Ended Extent
  pub copy : Ended (List ℕ)
  pub size : Ended MessageSize

-- A message, with what is known of its readings.
pub record Fact : Type 0 where
  pub message : Segments
  pub known : Readings

-- The limits of each reading, which are the defaults of `ReaderOptions`: a nesting limit and a
-- traversal limit, without the word of the root pointer.
abbrev pub nesting : ℕ
nesting = 64

abbrev pub traversal : ℕ
traversal = 8388607

-- The result of f on what was read, and what is left.
abbrev pub ended : {A B : Type 0} → (A → B) → Result A ErrorKind × Meter → Ended B
ended f (Ok x, m) = (Ok (f x), m.left)
ended f (Err k, m) = (Err k, m.left)

-- The extent of a value.
abbrev pub extent_of : Tree → Extent
extent_of t = record { levels = depth t; words = word_count t; capabilities = capabilities t }

-- The readings of the message S, computed.
abbrev pub readings : Segments → Readings
readings S =
    record {
      value = ended extent_of (root_value plain S nesting traversal);
      copy = ended (λ t. encoding (trim t)) (root_value canonical S nesting traversal);
      size =
          ended (λ z. z) (measure (root_reading S nesting) (only_words 0) (unused (Some traversal)));
    }

-- The readings of these messages result in what is known.
abbrev pub AreTrue : List Fact → Type 0
AreTrue facts = map (λ x. readings x.message) facts ≡ map (λ x. x.known) facts

-- The end of a reading that charges n words: a result, or a refusal.
abbrev pub reads : {A : Type 0} → A → ℕ → Ended A
reads x n = (Ok x, Some (traversal - n))

abbrev pub refuses : {A : Type 0} → ErrorKind → ℕ → Ended A
refuses k n = (Err k, Some (traversal - n))

-- S means a value without capabilities of this many levels and words. Reading it charges n words,
-- and reading its size charges m. Its canonical words are ws.
abbrev pub means : Segments → (levels words n m : ℕ) → List ℕ → Fact
means S levels words n m ws =
    record {
      message = S;
      known =
          record {
            value = reads (record { levels = levels; words = words; capabilities = 0 }) n;
            copy = reads ws n;
            size = reads (record { word_count = words; cap_count = 0 }) m;
          };
    }

-- S means a value with capabilities. Reading it charges n words, reading its size m words, and the
-- refused copy charges l.
abbrev pub has : Segments → (levels words capabilities n m l : ℕ) → Fact
has S levels words capabilities n m l =
    record {
      message = S;
      known =
          record {
            value =
                reads (record { levels = levels; words = words; capabilities = capabilities }) n;
            copy = refuses CannotCreateACanonicalMessageWithACapability l;
            size = reads (record { word_count = words; cap_count = capabilities }) m;
          };
    }

-- S means nothing: its three readings are refused with these names after n words.
abbrev pub lacks : Segments → (value copy size : ErrorKind) → ℕ → Fact
lacks S value copy size n =
    record {
      message = S;
      known =
          record {
            value = refuses value n;
            copy = refuses copy n;
            size = refuses size n;
          };
    }

-- The same if the three names are one.
abbrev pub refused : Segments → ErrorKind → ℕ → Fact
refused S k n = lacks S k k k n
