-- What a text in memory has after a call that adds to it.
use Rattle.std.specs.Prelude.{◌≡◌, ℕ, ◌<◌, List, ◌++◌, length, Result, OnOk, IfErr}
use Rattle.capnp_show.specs.declared.show.text.Ended.{Ended}
use Rattle.capnp_show.specs.declared.show.text.Ended.TheVariants.{Full}

-- The most bytes that a text may have, if none of the last 64 are used.
abbrev pub max_text : ℕ
max_text = 67108800

-- The call has added these bytes to the text `from`, which is now `to`. If it was refused because the
-- text is full, the text would have more bytes than it may.
pub record Adds {A : Type 0} (result : Result A Ended) (from to bytes : List ℕ) : Type 0 where
  pub added : OnOk result (to ≡ from ++ bytes)
  pub full : IfErr result (λ e. e ≡ Full → max_text < length (from ++ bytes))
