-- How deep the value of a message is, how much it holds, and what reading it costs.
use Rattle.std.specs.Prelude.{◌≡◌, ℕ, ◌+◌, ◌-◌, Option, Some, None, Result, Ok, Err, option_map}
use Rattle.capnp_words.specs.declared.error.ErrorKind.{ErrorKind}
use Rattle.capnp_words.specs.Meter.{FitsIn, Meter, unused}
use Rattle.capnp_format.specs.Means.{Means}
use Rattle.capnp_format.specs.Segments.{Segments}
use Rattle.capnp_format.specs.Tree.{Tree}
use Rattle.capnp_arena.specs.declared.arena.reader_arena_impl.ReaderOptions.{ReaderOptions}
use Rattle.capnp_pointers.specs.Metered.{Metered, ◌>>>◌}
use Rattle.capnp_pointers.specs.Source.{levels}
use Rattle.capnp_pointers.specs.Extents.{value_extent, read_extent}
use Rattle.capnp_pointers.specs.declared.pointers.validate.Extent.{Extent}
use Rattle.capnp_messages.specs.Roots.{read_message_root}
use Rattle.capnp_messages.specs.declared.messages.validation.MessageExtent.{MessageExtent}

-- Reads the root pointer of S, and then the whole value that it leads to, within n levels. Returns
-- the value's extent.
abbrev pub root_extent : Segments → ℕ → Metered Extent
root_extent S n = read_message_root S n >>> read_extent

-- The number of words that a reading took from this limit, if it has left `left`; None if there is
-- no limit.
abbrev pub words_taken : (limit left : Option ℕ) → Option ℕ
words_taken (Some limit) (Some left) = Some (limit - left)
words_taken limit left = None

-- What a reading returns for a whole message, with the words that it took from this limit.
abbrev pub with_cost : Option ℕ → Result Extent ErrorKind × Meter → Result MessageExtent ErrorKind
with_cost limit (Ok x, m) = Ok (record { value = x; cost = words_taken limit m.left })
with_cost limit (Err k, m) = Err k

-- The extent of S within the limits, with the cost of reading it, or the refusal.
abbrev pub validate : Segments → ReaderOptions → Result MessageExtent ErrorKind
validate S limits =
    let limit = limits.traversal_limit_in_words in
    with_cost limit (root_extent S (levels limits.nesting_limit) (unused limit))

-- The root of S means a value within the limits, and x has that value's extent, and the cost of
-- reading it. The cost counts one word for the root pointer ("Messages", "Security
-- Considerations").
pub record HasExtent (S : Segments) (limits : ReaderOptions) (x : MessageExtent) : Type 0 where
  pub value : Tree
  pub cost : ℕ
  pub means : Means S (levels limits.nesting_limit) 0 0 value cost
  pub covered : FitsIn limits.traversal_limit_in_words (1 + cost)
  pub extent : x.value ≡ value_extent value
  pub costs : x.cost ≡ option_map (λ _. 1 + cost) limits.traversal_limit_in_words
