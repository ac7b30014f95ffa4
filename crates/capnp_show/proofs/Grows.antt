-- What is written of an object only makes a line longer.
use Rattle.std.proofs.Common.{◌≡◌, ap, inl, inr, ℕ, zero, suc, ◌+◌, ◌≤◌, Bool, true, false, nat_eq, List, ◌++◌, length, Result, Ok, Err, arith, length-append, eq-eqb, subst, sym}
use Rattle.std.specs.Prelude.{codes, if◌then◌else◌}
use Rattle.std.specs.Fmt.{decimal}
use Rattle.std.proofs.lemmas.Bool.{ne_eqb}
use Rattle.capnp_words.specs.declared.error.ErrorKind.{ErrorKind}
use Rattle.capnp_words.specs.Meter.{Meter}
use Rattle.capnp_words.specs.Names.{name_of}
use Rattle.capnp_format.specs.Numbers.{words_for, unpacked}
use Rattle.capnp_pointers.specs.declared.object.Purpose.TheVariants.{Value}
use Rattle.capnp_pointers.specs.Enter.{Shape, nothing, capability, struct, flat, pointers, structs, read}
use Rattle.capnp_pointers.specs.Reading.{Reading, place_past, word_of, words_from}
use Rattle.capnp_pointers.proofs.Decided.{same_or_not}
use Rattle.capnp_messages.specs.Parts.{inside}
use Rattle.capnp_show.specs.Line.{data_member, flat_member, member}
use Rattle.capnp_show.specs.Shown.{Shown, ShowsArray, add, array_begin, array_within, comma, cut_text, refusal_text, show_array, show_each, show_elements, show_object, show_place, show_result, show_struct, show_structs, sizes_members}

-- The text of the second is at least as long.
abbrev pub Longer : Shown → Shown → Type 0
Longer s t = length s.text ≤ length t.text

pub added_longer : (xs : List ℕ) (s : Shown) → Longer s (add xs s)
added_longer xs s = omega (arith, length-append s.text xs)

-- What f writes of a place, and what writes an array.
abbrev pub Lengthens : (Reading → Shown → Shown) → Type 0
Lengthens f = (r : Reading) (s : Shown) → Longer s (f r s)

abbrev pub ArrayLengthens : ShowsArray → Type 0
ArrayLengthens below = (b : Bool) (n : ℕ) (r : Reading) (s : Shown) → Longer s (below b n r s)

pub each_longer : (f : Reading → Shown → Shown) → Lengthens f → (i k : ℕ) (r : Reading) (s : Shown) → Longer s (show_each f i k r s)
each_longer f h i zero r s = omega arith
each_longer f h i (suc k) r s =
    let t : Shown = add (comma i) s in
    omega (arith, added_longer (comma i) s, h r t, each_longer f h (suc i) k (place_past r 1) (f r t))

pub array_longer : (f : Reading → Shown → Shown) → Lengthens f → ArrayLengthens (show_array f)
array_longer f h b n r s =
    let t : Shown = add (array_begin b) s in
    omega (arith, added_longer (array_begin b) s, each_longer f h 0 n r t, added_longer (codes "]}") (show_each f 0 n r t))

pub struct_longer : (below : ShowsArray) → ArrayLengthens below → (d q : ℕ) (r : Reading) (s : Shown) → Longer s (show_struct below d q r s)
struct_longer below h d q r s =
    let t : Shown = add (data_member (words_from r d) ++ codes ",") s in
    omega (arith, added_longer (data_member (words_from r d) ++ codes ",") s, h false q (place_past r d) t)

pub elements_longer : (below : ShowsArray) → ArrayLengthens below → (d q i k : ℕ) (r : Reading) (s : Shown) → Longer s (show_elements below d q i k r s)
elements_longer below h d q i zero r s = omega arith
elements_longer below h d q i (suc k) r s =
    let t : Shown = add (comma i) s in
    let u : Shown = add (codes "{") t in
    omega (arith, added_longer (comma i) s, added_longer (codes "{") t, struct_longer below h d q r u, elements_longer below h d q (suc i) k (place_past r (d + q)) (show_struct below d q r u))

pub structs_longer : (below : ShowsArray) → ArrayLengthens below → (d q n : ℕ) (r : Reading) (s : Shown) → Longer (add (sizes_members d q) s) (show_structs below d q n r s)
structs_longer below h d q n r s = elim (same_or_not (d + q) 0) [
  | inl none ↦ let b : nat_eq (d + q) 0 ≡ true = eq-eqb _ _ none in rw b (added_longer (member (codes "count") (decimal n) ++ codes "}") (add (sizes_members d q) s))
  | inr some ↦
      let b : nat_eq (d + q) 0 ≡ false = ne_eqb _ _ some in
      let t : Shown = add (codes "\"structs\":[") (add (sizes_members d q) s) in
      let last = show_elements below d q 0 n r t in
      let whole : Longer (add (sizes_members d q) s) (add (codes "]}") last) = omega (arith, added_longer (codes "\"structs\":[") (add (sizes_members d q) s), elements_longer below h d q 0 n r t, added_longer (codes "]}") last) in
      rw b whole
]

pub object_longer : (below : ShowsArray) → ArrayLengthens below → (r : Reading) (o : Shape) (s : Shown) → Longer s (show_object below r o s)
object_longer below h r nothing s = added_longer (codes "}") s
object_longer below h r (capability i) s = added_longer (member (codes "capability") (decimal i) ++ codes "}") s
object_longer below h r (struct g p d q) s = struct_longer below h d q (inside r g p) s
object_longer below h r (flat g p size n) s = added_longer (flat_member size (unpacked size n (words_from (inside r g p) (words_for size n))) ++ codes "}") s
object_longer below h r (pointers g p n) s = h true n (inside r g p) s
object_longer below h r (structs g p d q n) s = omega (arith, added_longer (sizes_members d q) s, structs_longer below h d q n (inside r g p) s)

pub result_longer : (below : ShowsArray) → ArrayLengthens below → (r : Reading) (o : Result Shape ErrorKind) (m : Meter) (s : Shown) → Longer s (show_result below r (o, m) s)
result_longer below h r (Ok o) m s = object_longer below h r o (record s { lim = m })
result_longer below h r (Err k) m s = added_longer (refusal_text (name_of k)) s

place_longer : (below : ShowsArray) → ArrayLengthens below → Lengthens (show_place below)
place_longer below h r s = elim (same_or_not (word_of r) 0) [
  | inl none ↦ let b : nat_eq (word_of r) 0 ≡ true = eq-eqb _ _ none in subst (λ (c : Bool). Longer s (if c then add (codes "null") s else show_result below r (read Value r s.lim) (add (codes "{") s))) (sym b) (added_longer (codes "null") s)
  | inr some ↦
      let b : nat_eq (word_of r) 0 ≡ false = ne_eqb _ _ some in
      let t : Shown = add (codes "{") s in
      let whole : Longer s (show_result below r (read Value r s.lim) t) = omega (arith, added_longer (codes "{") s, result_longer below h r (read Value r s.lim).0 (read Value r s.lim).1 t) in
      subst (λ (c : Bool). Longer s (if c then add (codes "null") s else show_result below r (read Value r s.lim) t)) (sym b) whole
]

pub within_longer : (d : ℕ) → ArrayLengthens (array_within d)
unfolding array_within
within_longer zero = λ b n r s. added_longer (cut_text b n) s
within_longer (suc d) = array_longer (show_place (array_within d)) (place_longer (array_within d) (within_longer d))

pub shown_longer : (d : ℕ) → Lengthens (show_place (array_within d))
shown_longer d = place_longer (array_within d) (within_longer d)

-- What is written of the rest of a list of structs, from the element on that is written.
pub elements_rest : (below : ShowsArray) → ArrayLengthens below → (d q i k : ℕ) (r : Reading) (s whole : Shown) → whole ≡ show_elements below d q i (suc k) r s → Longer (show_struct below d q r (add (codes "{") (add (comma i) s))) whole
elements_rest below h d q i k r s whole e =
    let t : Shown = show_struct below d q r (add (codes "{") (add (comma i) s)) in
    omega (arith, ap (λ z. length z.text) e, elements_longer below h d q (suc i) k (place_past r (d + q)) t)

pub elements_opened : (below : ShowsArray) → ArrayLengthens below → (d q i k : ℕ) (r : Reading) (s whole : Shown) → whole ≡ show_elements below d q i (suc k) r s → Longer (add (codes "{") (add (comma i) s)) whole
elements_opened below h d q i k r s whole e =
    let t : Shown = add (codes "{") (add (comma i) s) in
    omega (arith, elements_rest below h d q i k r s whole e, struct_longer below h d q r t)
