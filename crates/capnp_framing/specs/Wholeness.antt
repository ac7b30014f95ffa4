-- Whether the bytes of an input end where they may.
use Rattle.std.specs.Prelude.{◌≡◌, ⊤, Bool, Option, Some, None}

-- What was known of this is still known and the same.
abbrev pub KeepsWhole : Option Bool → Option Bool → Type 0
KeepsWhole None new = ⊤
KeepsWhole (Some whole) new = new ≡ Some whole
