-- Words that are packed and unpacked in memory, from the front of one slice to the front of
-- another.
use Rattle.std.specs.Prelude.{◌≡◌, ◌≢◌, ◌<◌, ◌≤◌, ◌%◌, ℕ, List, length, take}
use Rattle.capnp_packing.specs.Packing.{GivesAndLeads, Packs}
use Rattle.capnp_packing.specs.Pieces.{taken_of}
use Rattle.capnp_packing.specs.declared.packing.place.Place.TheVariants.{Tag}
use Rattle.capnp_packing.specs.declared.packing.unpacking.Progress.{Progress}
use Rattle.capnp_packing.specs.declared.packing.words.Packed.{Packed}

-- There is a word, and room for what is packed at once.
pub record CanPack (to from : List ℕ) : Type 0 where
  pub room : 2050 ≤ length to
  pub word : 8 ≤ length from

-- Some whole words were packed.
pub record PacksFront (to from : List ℕ) (done : Packed) : Type 0 where
  pub some : 0 < done.taken
  pub words : done.taken % 8 ≡ 0
  pub taken : done.taken ≤ length from
  pub within : done.given ≤ length to
  pub packed : Packs (take done.given to) (take done.taken from)

-- There are as many packed bytes as a tag may need, and there is room for a word.
pub record CanUnpack (packed to : List ℕ) : Type 0 where
  pub unit : 10 ≤ length packed
  pub room : 8 ≤ length to

-- A word or more was unpacked from packed bytes that begin with a tag.
pub record UnpacksFront (packed to : List ℕ) (done : Progress) : Type 0 where
  pub taken : done.taken ≤ length packed
  pub some : 8 ≤ done.given
  pub within : done.given ≤ length to
  pub full : done.zeros ≢ 0 → done.given ≡ length to
  pub exact : taken_of (length to) 0 Tag (take done.taken packed) ≡ done.taken
  pub leads : GivesAndLeads Tag (take done.taken packed) (take done.given to) done.zeros done.place
