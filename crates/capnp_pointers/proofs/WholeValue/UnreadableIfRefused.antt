-- What follows from a refusal: the place can't be read.
use Rattle.std.proofs.Common.{◌≡◌, ◌⊎◌, inl, inr, ℕ, pred, ◌+◌, ◌*◌, ◌≤◌, Bool, true, false, ◌&&◌, cond, nat_eq, is_some, Option, Some, None, refl, sym, subst, arith, eqb-true}
use Rattle.capnp_words.specs.declared.error.ErrorKind.{ErrorKind}
use Rattle.capnp_words.specs.Meter.{Meter, FitsIn, Affords}
use Rattle.capnp_format.specs.Word.{kind, offset_bits, data_words, pointer_count, element_size, list_count, is_double}
use Rattle.capnp_format.specs.Segments.{Segments, Target, pad}
use Rattle.capnp_format.specs.Tree.{count, element_count}
use Rattle.capnp_pointers.specs.Demands.{claimed_words, tag, amplified_charge, own_charge}
use Rattle.capnp_pointers.specs.Faults.{LeadsTo, child_at}
use Rattle.capnp_pointers.specs.Outcomes.{Entered}
use Rattle.capnp_pointers.specs.Reading.{Reading, word_of, pointers_of, tag_size}
use Rattle.capnp_pointers.specs.Refusals.{landing_words, exceeding, leading_nowhere, Stopped, no_target, broken, claim_exceeds, count_exceeds, in_struct, in_pointers, in_element, StopsWithin, here, below, StopsAmong, StopsAmongElements, Refused, IsTried}
use Rattle.capnp_pointers.specs.Spending.{Paid}
use Rattle.capnp_pointers.specs.Wanted.{Form}
use Rattle.capnp_pointers.specs.declared.object.Purpose.TheVariants.{Value}
use Rattle.capnp_pointers.proofs.Budget.PaidAndLeft.{fewer_than_words, one_element_more, affords_none, affords_both, paid_own, paid_all, paid_elements, pointers_within_all, pointers_within_elements}
use Rattle.capnp_pointers.proofs.WholeValue.ChildrenRead.{read_stop, read_element_stop, spends_on}
use Rattle.capnp_pointers.proofs.Following.LeadsWhereFollowed.{leads_there}
use Rattle.capnp_pointers.proofs.WholeValue.ObjectsRefused.{object_spends, Reached, stopped_struct, stopped_pointers, stopped_structs, refused_here, refused_pads, refused_claim, refused_elements}
use Rattle.capnp_pointers.proofs.WholeValue.ObjectsRead.{own_struct, own_pointers, own_structs}
use Rattle.capnp_pointers.proofs.WholeValue.Unreadable.{Unreadable, Spends}
use Rattle.capnp_pointers.proofs.WholeValue.Shorthands.{ReadsBefore}

-- what is granted in one charge
spends_once : {charging : Bool} {m m' : Meter} {g : ℕ} → Paid charging m m' g 1 → Spends charging m m' 1
spends_once {g = g} paid = (g, 1, paid.covers, paid.spent, omega arith)

-- the words of landing pads: none, or those of pads that are there
pub landing_cases : (S : Segments) (x : ℕ) → (landing_words S x ≡ 0) ⊎ ((kind x ≡ 2) × (f : ℕ) × (pad S x (is_double x) ≡ Some f) × (landing_words S x ≡ 1 + is_double x))
landing_cases S x = go (nat_eq (kind x) 2) (pad S x (is_double x)) (eqb-true (kind x) 2) refl
  where
    go : (b : Bool) (o : Option ℕ) → (b ≡ true → kind x ≡ 2) → pad S x (is_double x) ≡ o → (cond (b && is_some o) (1 + is_double x) 0 ≡ 0) ⊎ ((kind x ≡ 2) × (f : ℕ) × (o ≡ Some f) × (cond (b && is_some o) (1 + is_double x) 0 ≡ 1 + is_double x))
    go true (Some f) two e = inr (two refl, f, refl, refl)
    go true None two e = inl refl
    go false o two e = inl refl

-- what a reading that stops spends
pub stopped_spends : {form : Form} {r : Reading} {m m' : Meter} {k : ErrorKind} → Stopped Value form r m m' k → Spends r.charging m m' 1
stopped_spends (no_target (exceeding some short paid named)) = spends_once paid
stopped_spends (no_target (leading_nowhere some h paid)) = spends_once paid
stopped_spends (broken a f h paid) = spends_once paid
stopped_spends (claim_exceeds a f level object claims short paid named) = spends_once paid
stopped_spends (count_exceeds a f meets short paid named) = spends_once paid

-- at one object
stopped_here : {form : Form} {r : Reading} {m m' : Meter} {k : ErrorKind} → Stopped Value form r m m' k → Unreadable form r m m' k
stopped_here {form} {r} {m} {m'} {k} (no_target (exceeding some short paid named)) = elim (landing_cases r.segments (word_of r)) [
  | inl none ↦ absurd (short (subst (Affords r.charging m) (sym none) (affords_none r.charging m)))
  | inr (two, f, there, words) ↦
      let all : 0 + (1 + is_double (word_of r)) ≡ landing_words r.segments (word_of r) = omega (arith, words) in
      subst (Unreadable form r m m') (sym named) (refused_pads two there paid (λ h. short (subst (Affords r.charging m) all (affords_both (1 + is_double (word_of r)) paid h))))
]
stopped_here {form} {r} {m} {m'} {k} (no_target (leading_nowhere some h paid)) = refused_here m m' (some, inl h) (spends_once paid)
stopped_here {form} {r} {m} {m'} {k} (broken a f h paid) = refused_here m m' (f.0, inr (a, f.1, h)) (spends_once paid)
stopped_here {form} {r} {m} {m'} {k} (claim_exceeds a f level object claims short paid named) =
    let reached : Reached r m m' a = record { follows = f; paid = paid } in
    subst (Unreadable form r m m') (sym named) (refused_claim reached level object claims (λ h. short (affords_both (claimed_words a.word) paid h)))
stopped_here {form} {r} {m} {m'} {k} (count_exceeds a f meets short paid named) =
    let l : LeadsTo r a = leads_there r a f (λ e. let i = meets.is_object in omega (arith, e, i)) in
    let all : a.pads + claimed_words a.word + amplified_charge Value r.segments a ≡ own_charge Value r.segments a = refl in
    subst (Unreadable form r m m') (sym named) (refused_elements l meets paid (λ h. short (subst (Affords r.charging m) all (affords_both (amplified_charge Value r.segments a) paid h))))

-- at one of its pointers
stopped_below : {form : Form} {r : Reading} {m first mid m' : Meter} {q : ℕ} {a : Target} {k : ErrorKind} → Entered Value r m first a → ReadsBefore form r a q first mid → Unreadable form (child_at r a (pred r.levels) q) mid m' k → Unreadable form r m m' k
stopped_below {form} {r} {m} {first} {mid} {m'} {q} {a} {k} o (in_struct ts z fewer e all) child =
    stopped_struct o z (read_stop _ all fewer (subst (λ y. Unreadable form (child_at r a (pred r.levels) y) mid m' k) e child))
stopped_below {form} {r} {m} {first} {mid} {m'} {q} {a} {k} o (in_pointers ts z six fewer e all) child =
    stopped_pointers o z six (read_stop _ all fewer (subst (λ y. Unreadable form (child_at r a (pred r.levels) y) mid m' k) e child))
stopped_below {form} {r} {m} {first} {mid} {m'} {q} {a} {k} o (in_element es ts between (z, seven) fewer less e rows all) child =
    stopped_structs o z seven (read_element_stop _ rows fewer (read_stop _ all less (subst (λ y. Unreadable form (child_at r a (pred r.levels) y) mid m' k) e child)))

-- if the reading of one of an object's pointers stops, so does that of the object
unfoldable pub stops_struct : {form : Form} {P : Reading → Meter → Meter → Type 0} {r : Reading} {m m' m'' : Meter} {a : Target} → Entered Value r m m' a → kind a.word ≡ 0 →
    StopsAmong form P (child_at r a (pred r.levels) (a.start + data_words a.word)) (pointer_count a.word) m' m'' → StopsWithin form P r m m''
stops_struct {a = a} o z h = below a (a.start + data_words a.word + count h.first) o (in_struct h.first z h.fewer refl h.are_read) h.stops

unfoldable pub stops_pointers : {form : Form} {P : Reading → Meter → Meter → Type 0} {r : Reading} {m m' m'' : Meter} {a : Target} → Entered Value r m m' a → kind a.word ≡ 1 → element_size a.word ≡ 6 →
    StopsAmong form P (child_at r a (pred r.levels) a.start) (list_count a.word) m' m'' → StopsWithin form P r m m''
stops_pointers {a = a} o z six h = below a (a.start + count h.first) o (in_pointers h.first z six h.fewer refl h.are_read) h.stops

unfoldable pub stops_structs : {form : Form} {P : Reading → Meter → Meter → Type 0} {r : Reading} {m m' m'' : Meter} {a : Target} → Entered Value r m m' a → kind a.word ≡ 1 → element_size a.word ≡ 7 →
    StopsAmongElements form P (child_at r a (pred r.levels) (a.start + 1)) (tag_size r.segments a) (offset_bits (tag r.segments a)) m' m'' → StopsWithin form P r m m''
stops_structs {r = r} {a = a} o z seven h =
    below a ((pointers_of (child_at r a (pred r.levels) (a.start + 1)) (tag_size r.segments a) (element_count h.first)).at + count h.stops.first) o
    (in_element h.first h.stops.first h.mid (z, seven) h.fewer h.stops.fewer refl h.are_read h.stops.are_read) h.stops.stops

pub unreadable : {form : Form} {k : ErrorKind} {r : Reading} {m m' : Meter} → Refused form r m m' k → Unreadable form r m m' k
unreadable (here stopped) = stopped_here stopped
unreadable (below a q o before rest) = stopped_below o before (unreadable rest)

-- what was spent when the reading of a value stops below the object a
spends_below : {form : Form} {r : Reading} {m first mid m' : Meter} {q : ℕ} {a : Target} → Entered Value r m first a → ReadsBefore form r a q first mid → Spends r.charging mid m' 1 → Spends r.charging m m' 1
spends_below {r = r} {a = a} o (in_struct ts z fewer e all) rest =
    object_spends (pointer_count a.word) (paid_own o) (omega (arith, own_struct r.segments a z)) (spends_on (count ts) 1 (paid_all all) (pointers_within_all (child_at r a (pred r.levels) (a.start + data_words a.word)) ts all.cost all.means) (omega (arith, fewer)) rest)
spends_below {r = r} {a = a} o (in_pointers ts z six fewer e all) rest =
    object_spends (list_count a.word) (paid_own o) (omega (arith, own_pointers r.segments a z six)) (spends_on (count ts) 1 (paid_all all) (pointers_within_all (child_at r a (pred r.levels) a.start) ts all.cost all.means) (omega (arith, fewer)) rest)
spends_below {r = r} {a = a} o (in_element es ts between (z, seven) fewer less e rows all) rest =
    let S : Segments = r.segments in
    let n : ℕ = offset_bits (tag S a) in
    let q : ℕ = pointer_count (tag S a) in
    let fits = (o.meets.tagged (z, seven)).1 in
    object_spends (n * q) (paid_own o) (omega (arith, own_structs S a z seven, fits, fewer_than_words n (data_words (tag S a)) q))
    (spends_on (element_count es * q) q (paid_elements rows) (pointers_within_elements (child_at r a (pred r.levels) (a.start + 1)) (tag_size S a) es rows.cost rows.means) (one_element_more (element_count es) n q fewer)
    (spends_on (count ts) 1 (paid_all all) (pointers_within_all (pointers_of (child_at r a (pred r.levels) (a.start + 1)) (tag_size S a) (element_count es)) ts all.cost all.means) (omega (arith, less)) rest))

pub breaks_off_spends : {form : Form} {r : Reading} {m m' : Meter} → StopsWithin form (IsTried form) r m m' → Spends r.charging m m' 1
breaks_off_spends (here (inl stopped)) = stopped_spends stopped.1
breaks_off_spends (here (inr (a, o))) = spends_once (paid_own o)
breaks_off_spends (below a q o before rest) = spends_below o before (breaks_off_spends rest)

-- a limiter that affords c words affords h of them
pub affords_less : (charging : Bool) (m : Meter) (h c : ℕ) → h ≤ c → Affords charging m c → Affords charging m h
affords_less false m h c le covers = tt
affords_less true m h c le covers = go m.left covers
  where
    go : (o : Option ℕ) → FitsIn o c → FitsIn o h
    go None f = tt
    go (Some x) f = omega (arith, le, f)
