-- What is known about where bytes end still holds after one or several reads.
use Rattle.std.proofs.Common.{Bool, Option, Some, None, refl, subst}
use Rattle.capnp_framing.specs.Wholeness.{KeepsWhole}

pub keeps_whole : (a : Option Bool) → KeepsWhole a a
keeps_whole None = tt
keeps_whole (Some b) = refl

pub keeps_whole_both : (a b c : Option Bool) → KeepsWhole a b → KeepsWhole b c → KeepsWhole a c
keeps_whole_both None b c first more = tt
keeps_whole_both (Some x) b c first more = subst (λ (o : Option Bool). KeepsWhole o c) first more
