-- A part of a message that is shown, and what is written of its value.
use Rattle.std.specs.Prelude.{◌≡◌, ℕ, ◌+◌, ◌≤◌, ◌++◌, List, [], codes, length, nat_le, if◌then◌else◌, Bool, true, Ok}
use Rattle.capnp_words.specs.Meter.{Affords, Meter, unused}
use Rattle.capnp_format.specs.Segments.{Segments}
use Rattle.capnp_format.specs.Tree.{Tree, depth}
use Rattle.capnp_arena.specs.declared.arena.reader_arena_impl.ReaderOptions.{ReaderOptions}
use Rattle.capnp_pointers.specs.Source.{levels}
use Rattle.capnp_messages.specs.EndValues.{EndMeans, end_place}
use Rattle.capnp_messages.specs.MessageParts.{part_within}
use Rattle.capnp_messages.specs.Parts.{PathEnd, part}
use Rattle.capnp_show.specs.Adding.{max_text}
use Rattle.capnp_show.specs.Line.{value_line}
use Rattle.capnp_show.specs.Shown.{Shown, add, show_path}
use Rattle.capnp_show.specs.declared.show.message.Showing.{Showing}

-- The path leads from the root pointer of S to a pointer or an element that means t within the
-- limits. What the traversal limit has left there covers what reading t costs. No more than d
-- structs and lists are nested in each other in t.
pub record IsShownPart (S : Segments) (limits : ReaderOptions) (path : List ℕ) (d : ℕ) (t : Tree)
    : Type 0 where
  pub path_end : PathEnd
  pub left : Meter
  pub leads : part_within S limits path ≡ (Ok path_end, left)
  pub cost : ℕ
  pub means : EndMeans path_end t cost
  pub covered : Affords (end_place path_end).charging left cost
  pub deep : depth t ≤ d

-- The line of t is short enough to be written.
abbrev pub HasShortLine : Tree → Type 0
HasShortLine t = length (value_line t) + 1 ≤ max_text

-- What is written of the value t: its line, or if that is too long, one that says so.
abbrev pub shown_line : Tree → List ℕ
shown_line t =
    if nat_le (length (value_line t) + 1) max_text then value_line t ++ codes "\n"
    else codes "{\"cut\":\"length\"}\n"

-- What is written after s of the part of S to which the path leads within n levels: a line of JSON
-- without places, with at most d pointers followed below the part; or why the path is refused.
unfoldable pub path_line : ℕ → Segments → ℕ → List ℕ → Shown → Shown
path_line d S n path s =
    add (codes "\n")
    (show_path d (part S n path s.lim).0 (record s { lim = (part S n path s.lim).1 }))

-- The line of a message that is shown within the limits, what is left of the traversal limit, and
-- whether each pointer could be read.
abbrev pub message_shown : ReaderOptions → List ℕ → ℕ → Segments → Shown
message_shown limits path d S =
    path_line d S (levels limits.nesting_limit) path
    (record { text = []; lim = unused limits.traversal_limit_in_words; sound = true })

-- The line s, or if it is too long, one that says so.
abbrev pub line_text : Shown → List ℕ
line_text s =
    if nat_le (length s.text) max_text then s.text else codes "{\"cut\":\"length\"}\n"

-- The text is short enough. If it is one of JSON without places, it is the line s; and if that isn't
-- too long, the result says whether each pointer could be read.
pub record IsShownText (showing : Showing) (s : Shown) (is_sound : Bool) (text : List ℕ) : Type 0 where
  pub short : length text ≤ 67108864
  pub line : showing.json ≡ true → showing.values ≡ true → text ≡ line_text s
  pub sound : showing.json ≡ true → showing.values ≡ true → length s.text ≤ max_text → is_sound ≡ s.sound
