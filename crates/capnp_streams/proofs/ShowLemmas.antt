-- A message is shown.
use Rattle.std.proofs.Common.{◌≡◌, ℕ, List, Bool, subst}
use Rattle.capnp_format.specs.Segments.{Segments}
use Rattle.capnp_pointers.specs.Source.{levels}
use Rattle.capnp_show.specs.ShownParts.{IsShownText, message_shown}
use Rattle.capnp_streams.specs.Paths.{path_indexes}
use Rattle.capnp_streams.specs.Shows.{IsShown, showing_of}
use Rattle.capnp_streams.specs.declared.streams.task.ShowTask.{ShowTask}

-- a message is shown as its task says
pub shown_by : (task : ShowTask) (d : ℕ) (path : List ℕ) (S : Segments) (is_sound : Bool) (text : List ℕ) → d ≡ levels task.depth → path ≡ path_indexes task.path →
    IsShownText (record { json = task.json; values = task.values; colors = task.colors; depth = d }) (message_shown task.limits path d S) is_sound text →
    IsShown task S is_sound text
shown_by task d path S is_sound text deep there shown =
    subst (λ (p : List ℕ). IsShownText (showing_of task) (message_shown task.limits p (levels task.depth) S) is_sound text) there
    (subst (λ (e : ℕ). IsShownText (record { json = task.json; values = task.values; colors = task.colors; depth = e }) (message_shown task.limits path e S) is_sound text) deep shown)
