-- What a command asks of a whole message, when it has an answer, and why it is refused.
use Rattle.std.specs.Prelude.{◌≡◌, ◌⊎◌, ℕ, List, [], ◌∷◌, Err, length}
use Rattle.capnp_words.specs.declared.error.ErrorKind.{ErrorKind}
use Rattle.capnp_words.specs.declared.error.ErrorKind.TheVariants.{AllocationFailed}
use Rattle.capnp_format.specs.Segments.{Segments}
use Rattle.capnp_arena.specs.declared.arena.reader_arena_impl.ReaderOptions.{ReaderOptions}
use Rattle.capnp_framing.specs.Frames.{bytes_of_words, frame}
use Rattle.capnp_messages.specs.Extents.{validate}
use Rattle.capnp_messages.specs.Messages.{HasCanonicalCopy, HasSizeWithin, IsReadable, RefusesCanon, RefusesCheck, RefusesSize}
use Rattle.capnp_messages.specs.declared.messages.command.Command.{Command}
use Rattle.capnp_messages.specs.declared.messages.command.Command.TheVariants.{Canon, Check, Size, Digest, Validate}
use Rattle.capnp_messages.specs.declared.messages.command.Form.{Form}
use Rattle.capnp_messages.specs.declared.messages.command.Form.TheVariants.{Framed, Flat}

-- The bytes of a canonical message with these words, framed or flat.
abbrev pub form_bytes : Form → List ℕ → List ℕ
form_bytes Framed words = frame (words ∷ [])
form_bytes Flat words = bytes_of_words words

-- A command on S, within these limits, is refused with k.
abbrev pub RefusesAnswer : Command → ReaderOptions → Segments → ErrorKind → Type 0
RefusesAnswer (Canon form) limits S k = (k ≡ AllocationFailed) ⊎ RefusesCanon S limits k
RefusesAnswer Check limits S k = RefusesCheck S limits k
RefusesAnswer Size limits S k = RefusesSize S limits k
RefusesAnswer Digest limits S k = (k ≡ AllocationFailed) ⊎ RefusesCanon S limits k
RefusesAnswer Validate limits S k = validate S limits ≡ Err k

-- A command on S, within these limits, has an answer if this holds. `Canon`, `Digest`: S has a
-- canonical copy. `Check`: S doesn't have exactly one segment, or it means a value. `Size`: S has a size.
-- `Validate`: S means a value.
abbrev pub HasAnswerWithin : Command → ReaderOptions → Segments → Type 0
HasAnswerWithin (Canon form) limits S = HasCanonicalCopy S limits
HasAnswerWithin Check limits S = length S ≡ 1 → IsReadable S limits
HasAnswerWithin Size limits S = HasSizeWithin S limits
HasAnswerWithin Digest limits S = HasCanonicalCopy S limits
HasAnswerWithin Validate limits S = IsReadable S limits
