-- Texts and data that are found in a message are inside it.
use Rattle.std.proofs.Common.{◌≡◌, ℕ, ◌+◌, ◌-◌, ◌<◌, ◌≤◌, Bool, true, false, cond, nat_eq, length, Option, Some, None, IfSome, IfOk, Result, Ok, Err, refl, ap, subst, arith}
use Rattle.std.proofs.lemmas.Bool.{eqb-true}
use Rattle.capnp_words.specs.declared.error.ErrorKind.{ErrorKind}
use Rattle.capnp_words.specs.declared.error.ErrorKind.TheVariants.{ExistingListPointerIsNotByteSized, TextBlobMissingNULTerminator}
use Rattle.capnp_format.specs.Numbers.{words_for}
use Rattle.capnp_format.specs.Segments.{Segments, segment, Target}
use Rattle.capnp_format.specs.Tree.{Tree, Null, Capability, Struct, Flat, Pointers, Structs}
use Rattle.capnp_format.specs.Means.{Means}
use Rattle.capnp_format.specs.Forest.{target, target_in}
use Rattle.capnp_in_place.specs.declared.existing.ExistingBytes.{ExistingBytes}
use Rattle.capnp_in_place.specs.Existing.{AreBytesInside, bytes_at, data_in, text_in, ends_in_zero}
use Rattle.capnp_allocation.specs.Makes.{CallAt}
use Rattle.capnp_allocation.specs.Stored.{IsStored}
use Rattle.capnp_allocation.proofs.Leading.{leads_segment}
use Rattle.capnp_builders.specs.Found.{bytes_given}

-- The call returns the bytes that are found where t is, and nothing is changed.
abbrev pub GivesFoundBytes : (Target → Tree → Result (Option ExistingBytes) ErrorKind) → Result ExistingBytes ErrorKind → CallAt → Tree → Type 0
GivesFoundBytes found_in result c t = (result ≡ bytes_given c.segment (found_in (target c.old.words c.segment c.at) t)) × (c.new ≡ c.old)

abbrev pub Found : Type 0
Found = Result (Option ExistingBytes) ErrorKind

-- if a choice between the bytes b and a refusal has found bytes, it has found b
picked : (x : Bool) (b found : ExistingBytes) (k : ErrorKind) → ◌≡◌ {A = Found} (cond x (Ok (Some b)) (Err k)) (Ok (Some found)) → (x ≡ true) × (b ≡ found)
picked true b found k e = (refl, cc)
picked false b found k e = cc

picked_first : (x : Bool) (r : Found) (found : ExistingBytes) (k : ErrorKind) → ◌≡◌ {A = Found} (cond x r (Err k)) (Ok (Some found)) → (x ≡ true) × (r ≡ Ok (Some found))
picked_first true r found k e = (refl, e)
picked_first false r found k e = cc

-- the bytes of a list that a pointer leads to, or fewer of them, are inside the message
inside : (S : Segments) (s p n m : ℕ) (a : Target) → a.segment < length S → a.start + words_for 2 n ≤ length (segment S a.segment) → m ≤ n → AreBytesInside S (bytes_at a m)
inside S s p n m a there claim few = (there, omega (arith, claim))

pub data_inside : (S : Segments) (s p : ℕ) (t : Tree) (b : ExistingBytes) → s < length S → IsStored S s p t → data_in (target S s p) t ≡ Ok (Some b) → AreBytesInside S b
data_inside S s p t b there stored e = let m = stored.means in meant m.0 m.1 t m.2 e
  where
    meant : (n c : ℕ) (t : Tree) → Means S n s p t c → data_in (target S s p) t ≡ Ok (Some b) → AreBytesInside S b
    meant n c Null m e = cc
    meant n c (Capability i) m e = cc
    meant n c (Struct ws ts) m e = cc
    meant n c (Flat size ns) (a, some, small, o, claim, g, k) e =
        let is_a : target S s p ≡ a = ap target_in o.leads_to.1 in
        let (x, is_b) = picked (nat_eq size 2) (bytes_at (target S s p) (length ns)) b ExistingListPointerIsNotByteSized e in
        let bytes : size ≡ 2 = eqb-true size 2 x in
        subst (AreBytesInside S) is_b (rw is_a (inside S s p (length ns) (length ns) a (leads_segment S s p a there o.leads_to.1) (rw bytes at claim) (omega arith)))
    meant n c (Pointers ts) m e = cc
    meant n c (Structs d q es) m e = cc

pub text_inside : (S : Segments) (s p : ℕ) (t : Tree) (b : ExistingBytes) → s < length S → IsStored S s p t → text_in (target S s p) t ≡ Ok (Some b) → AreBytesInside S b
text_inside S s p t b there stored e = let m = stored.means in meant m.0 m.1 t m.2 e
  where
    meant : (n c : ℕ) (t : Tree) → Means S n s p t c → text_in (target S s p) t ≡ Ok (Some b) → AreBytesInside S b
    meant n c Null m e = cc
    meant n c (Capability i) m e = cc
    meant n c (Struct ws ts) m e = cc
    meant n c (Flat size ns) (a, some, small, o, claim, g, k) e =
        let is_a : target S s p ≡ a = ap target_in o.leads_to.1 in
        let (x, text) = picked_first (nat_eq size 2) (cond (ends_in_zero ns) (Ok (Some (bytes_at (target S s p) (length ns - 1)))) (Err TextBlobMissingNULTerminator)) b ExistingListPointerIsNotByteSized e in
        let (y, is_b) = picked (ends_in_zero ns) (bytes_at (target S s p) (length ns - 1)) b TextBlobMissingNULTerminator text in
        let bytes : size ≡ 2 = eqb-true size 2 x in
        subst (AreBytesInside S) is_b (rw is_a (inside S s p (length ns) (length ns - 1) a (leads_segment S s p a there o.leads_to.1) (rw bytes at claim) (omega arith)))
    meant n c (Pointers ts) m e = cc
    meant n c (Structs d q es) m e = cc

-- if bytes that are found are inside the message, all that is found is
all_inside : (S : Segments) (q : Found) → ((b : ExistingBytes) → q ≡ Ok (Some b) → AreBytesInside S b) → IfOk q (λ there. IfSome there (AreBytesInside S))
all_inside S (Ok (Some b)) inside = inside b refl
all_inside S (Ok None) inside = tt
all_inside S (Err k) inside = tt

-- and then they are what the call returns
pub found_given : (S : Segments) (s : ℕ) (q found : Found) (r : Result ExistingBytes ErrorKind) → found ≡ q → ((b : ExistingBytes) → q ≡ Ok (Some b) → AreBytesInside S b) →
    (IfOk found (λ there. IfSome there (AreBytesInside S)) → r ≡ bytes_given s found) → r ≡ bytes_given s q
found_given S s q found r same inside given =
    subst (λ (f : Found). IfOk f (λ there. IfSome there (AreBytesInside S)) → r ≡ bytes_given s f) same given (all_inside S q inside)
