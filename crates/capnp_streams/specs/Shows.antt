-- What is written of a message that is shown.
use Rattle.std.specs.Prelude.{ℕ, List, Bool}
use Rattle.capnp_format.specs.Segments.{Segments}
use Rattle.capnp_pointers.specs.Source.{levels}
use Rattle.capnp_show.specs.ShownParts.{IsShownText, message_shown}
use Rattle.capnp_show.specs.declared.show.message.Showing.{Showing}
use Rattle.capnp_streams.specs.Paths.{path_indexes}
use Rattle.capnp_streams.specs.declared.streams.task.ShowTask.{ShowTask}

-- How a task shows messages.
abbrev pub showing_of : ShowTask → Showing
showing_of task = record {
  json = task.json;
  values = task.values;
  colors = task.colors;
  depth = levels task.depth;
}

-- The text that a task writes of S: `is_sound` says whether each pointer that was followed could be
-- read.
abbrev pub IsShown : ShowTask → Segments → Bool → List ℕ → Type 0
IsShown task S is_sound text =
    IsShownText (showing_of task)
    (message_shown task.limits (path_indexes task.path) (levels task.depth) S) is_sound text
