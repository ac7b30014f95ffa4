-- The names of the program's refusals, and the lines that name them.
use Rattle.std.specs.Prelude.{ℕ, List, [], ◌∷◌, ◌++◌, codes}
use Rattle.capnp_words.specs.Names.{name_of}
use Rattle.capnp_framing.specs.Names.{frame_error_name as frame_name}
use Rattle.capnp_layout.specs.declared.tool.refusal.Refusal.{Refusal}
use Rattle.capnp_layout.specs.declared.tool.refusal.Refusal.TheVariants.{Layout, Frame, NoMessage}

-- The name of a refusal.
abbrev pub refusal_name : Refusal → List ℕ
refusal_name (Layout k) = name_of k
refusal_name (Frame e) = frame_name e
refusal_name NoMessage = codes "NoMessage"

-- The line that names a refusal.
abbrev pub refusal_line : Refusal → List ℕ
refusal_line r = codes "refused " ++ refusal_name r ++ 10 ∷ []
