-- A word of zero means Null.
use Rattle.std.proofs.Common.{◌≡◌, ℕ, refl}
use Rattle.capnp_format.specs.Segments.{Segments, word_at}
use Rattle.capnp_format.specs.Tree.{Tree, Null, Capability, Struct, Flat, Pointers, Structs}
use Rattle.capnp_format.specs.Means.{Means}

pub zero_is_null : (S : Segments) (s p : ℕ) (u : Tree) (n c : ℕ) → word_at S s p ≡ 0 → Means S n s p u c → u ≡ Null
zero_is_null S s p Null n c e m = refl
zero_is_null S s p (Capability i) n c e m = absurd (m.1.0 e)
zero_is_null S s p (Struct ws ts) n c e m = absurd (m.3.leads_to.0 e)
zero_is_null S s p (Flat size ns) n c e m = absurd (m.3.leads_to.0 e)
zero_is_null S s p (Pointers ts) n c e m = absurd (m.3.leads_to.0 e)
zero_is_null S s p (Structs d q es) n c e m = absurd (m.4.leads_to.0 e)
