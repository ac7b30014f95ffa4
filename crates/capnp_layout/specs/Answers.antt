-- What the program says about a message, and why it refuses one.
use Rattle.std.specs.Prelude.{◌≡◌, ◌⊎◌, ℕ, ◌+◌, ◌-◌, ◌^◌, ◌≤◌, List, [], ◌∷◌, ◌++◌, Bool, true}
use Rattle.std.specs.Prelude.{false, Err}
use Rattle.std.specs.Int.{to_le_bytes, w64}
use Rattle.hex.specs.Hex.{encode_lower}
use Rattle.capnp_words.specs.declared.error.ErrorKind.{ErrorKind}
use Rattle.capnp_words.specs.declared.error.ErrorKind.TheVariants.{MessageTooLarge}
use Rattle.capnp_format.specs.Segments.{Segments}
use Rattle.capnp_format.specs.Bytes.{message}
use Rattle.capnp_format.specs.Tree.{Tree, depth}
use Rattle.capnp_format.specs.Canonical.{charge, HasCanonicalAt}
use Rattle.capnp_words.specs.Meter.{Meter, FitsIn, unused}
use Rattle.capnp_arena_traits.specs.Limits.{IsSmall}
use Rattle.capnp_arena.specs.declared.arena.reader_arena_impl.ReaderOptions.{ReaderOptions}
use Rattle.capnp_layout.specs.declared.tool.args.Args.{Args}
use Rattle.capnp_layout.specs.declared.tool.args.Args.TheVariants.{Canon, Check, Size, FramedCanon}
use Rattle.capnp_pointers.specs.Source.{levels}
use Rattle.capnp_pointers.specs.Testing.{test_value}
use Rattle.capnp_messages.specs.Roots.{CoversRoot}
use Rattle.capnp_messages.specs.Messages.{RefusesAt, RefusesCanon, RefusesSize, left_of, root_within}

-- The lower case hex digits of a word's bytes, the lowest byte first.
abbrev pub word_digits : ℕ → List ℕ
word_digits w = encode_lower (to_le_bytes w64 w)

-- The digits of consecutive words.
unfoldable pub digits_of : List ℕ → List ℕ
digits_of [] = []
digits_of (w ∷ ws) = word_digits w ++ digits_of ws

-- The answer of the test of S. `true`: canonical words of a value are at its root, with the first
-- object directly after the root pointer, and the value is within the limits, which also cover one
-- word for the root pointer. `false`: there are no such words, and the limits cover the word of the
-- root pointer.
abbrev pub CheckOf : Segments → ReaderOptions → Bool → Type 0
CheckOf S options true =
    (t : Tree) × HasCanonicalAt S 0 0 1 t × (depth t ≤ levels options.nesting_limit)
    × FitsIn options.traversal_limit_in_words (1 + charge t)
CheckOf S options false =
    CoversRoot S options.traversal_limit_in_words × ((t : Tree) → HasCanonicalAt S 0 0 1 t → ⊥)

-- A command refuses the message S with k: its canonical copy, the test for canonical form at its
-- root, or its size is refused.
abbrev pub RefusesCommand : Args → Segments → ErrorKind → Type 0
RefusesCommand (Canon options) S k = RefusesCanon S options k
RefusesCommand (Check options) S k =
    RefusesAt S options k ((m : Meter)
    × (test_value (root_within S options) 1 (unused (left_of options)) ≡ (Err k, m)))
RefusesCommand (Size options) S k = RefusesSize S options k
RefusesCommand (FramedCanon options) S k = RefusesCanon S options k
RefusesCommand _ S k = ⊥

-- A command refuses segments with k: there are too many, or one is too large, for a reader; or it
-- refuses their message.
abbrev pub RefusesMessage : List (List ℕ) → Args → ErrorKind → Type 0
RefusesMessage segments args k =
    ((k ≡ MessageTooLarge (2 ^ 64 - 1)) × (IsSmall segments → ⊥))
    ⊎ RefusesCommand args (message segments) k
