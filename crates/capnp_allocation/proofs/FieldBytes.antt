-- Bytes written over some of a segment: its words have their bits in place of the old ones.
use Rattle.std.proofs.Common.{◌≡◌, ℕ, List, set, Some, slice_get, sym, ap, ◌∙◌}
use Rattle.std.proofs.lemmas.List.{map-set}
use Rattle.capnp_format.specs.Bytes.{words_of, message}
use Rattle.capnp_format.specs.Fields.{put_field}
use Rattle.capnp_format.specs.Segments.{segment}
use Rattle.capnp_allocation.specs.Fields.{with_field}
use Rattle.capnp_arena_traits.proofs.MessageLemmas.{segment-message}

-- A message after some bytes of a segment were replaced.
pub message_written : (B : List (List ℕ)) (s : ℕ) (bs ws : List ℕ) (b w v : ℕ) → slice_get B s ≡ Some bs → words_of ws ≡ put_field (words_of bs) b w v → message (set B s ws) ≡ with_field (message B) s b w v
message_written B s bs ws b w v e f =
    map-set words_of B s ws ∙ ap (set (message B) s) (f ∙ ap (λ xs. put_field xs b w v) (sym (segment-message B s bs e)))
