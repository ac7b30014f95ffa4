-- The limits of a reader, for messages that come in frames.
use Rattle.std.specs.Prelude.{ℕ, ◌-◌, ◌^◌, unwrap_or}
use Rattle.capnp_arena.specs.declared.arena.reader_arena_impl.ReaderOptions.{ReaderOptions}

-- The largest number of words that a message may have whose frame is read: the traversal limit.
abbrev pub most_words : ReaderOptions → ℕ
most_words options = unwrap_or options.traversal_limit_in_words (2 ^ 64 - 1)
