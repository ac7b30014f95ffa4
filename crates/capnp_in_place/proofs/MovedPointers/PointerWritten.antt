-- Pointers written to objects that are there: near, by one landing pad, by two.
use Rattle.std.proofs.Common.{[], ap, arith, inl, inr, le_of_eq, length, refl, subst, sym, ℕ, ◌+◌, ◌-◌, ◌<◌, ◌^◌, ◌∙◌, ◌∷◌, ◌≡◌, ◌≢◌, ◌≤◌, ◌⊎◌}
use Rattle.std.proofs.lemmas.Bool.Decides.{nat_tests}
use Rattle.std.proofs.lemmas.Bool.{cases_eq}
use Rattle.std.proofs.lemmas.List.{get_or_past}
use Rattle.capnp_format.specs.Word.{far_position, is_double, kind, offset_bits, struct_word, upper_half}
use Rattle.capnp_format.specs.Segments.{Segments, segment, word_at}
use Rattle.capnp_format.specs.Means.{Leads}
use Rattle.capnp_format.specs.Forest.{pads_of, times}
use Rattle.capnp_format.proofs.Lies.{near_leads}
use Rattle.capnp_format.proofs.Following.{IsOffsetTo}
use Rattle.capnp_arena_traits.specs.Written.{with_word}
use Rattle.capnp_format.specs.Path.{word_interval}
use Rattle.capnp_allocation.specs.Zeroed.{row}
use Rattle.capnp_allocation.specs.Made.{IsGrown, IsShape}
use Rattle.capnp_allocation.proofs.Leading.{single_far_leads}
use Rattle.capnp_allocation.proofs.MadeWords.{is_far, not_far, outside, word_put}
use Rattle.capnp_allocation.proofs.Zeros.{in_row}
use Rattle.capnp_in_place.specs.Pointed.{HasPlainPads}
use Rattle.capnp_in_place.proofs.MovedPointers.SameObjectSameValue.{double_far_leads}
use Rattle.capnp_in_place.proofs.WiderObjects.Statements.{IsPointed, WritesPointer, a_move}
use Rattle.capnp_arena_traits.specs.View.{View}
use Rattle.capnp_allocation.specs.Makes.{call_at}
use Rattle.capnp_allocation.specs.Memory.{TakesWords}
use Rattle.capnp_allocation.specs.declared.making.Shape.{Shape}
use Rattle.capnp_allocation.specs.declared.making.Shape.TheVariants.{List as ListShape, Struct as StructShape}
use Rattle.capnp_allocation.proofs.Memory.{keeps_itself, words_in}
use Rattle.capnp_in_place.specs.Anew.{IsWrittenAnew, OnlyWrites, WritesAnew, pad_words}
use Rattle.capnp_in_place.proofs.MovedPointers.OneMoved.{same_shape}
use Rattle.capnp_in_place.proofs.Room.WordsTaken.{put_writes}
use Rattle.capnp_in_place.proofs.MovedPointers.RewrittenInTurn.{keeps_writes, taken_after, takes_none, writes_nothing, writes_one}

-- A near pointer.
pub pointed_near : (S R : Segments) (s p b x : ℕ) → p < length (segment S s) → b ≤ length (segment S s) → R ≡ with_word S s p x → x ≢ 0 → kind x ≢ 2 → IsOffsetTo p (offset_bits x) b →
    IsPointed S R s p (record { word = x; segment = s; start = b; pads = 0 })
pointed_near S R s p b x place fits e some near offset =
    let put = word_put S R s p x place e in
    let none : pads_of (word_at R s p) ≡ [] = ap pads_of put.here ∙ not_far x near in
    record {
      grows = record { segments = le_of_eq (sym put.segments); words = λ v. le_of_eq (sym (put.words v)) };
      leads_there = near_leads {S = R} {s = s} {p = p} {x = x} {h = b} put.here near some (record { inside = omega (arith, fits, put.words s); offset = offset });
      inside = omega (arith, fits, put.words s);
      kept = λ v r h l. put.kept v r h;
      fresh = λ v r l. absurd (omega (arith, ap (λ js. times js v r) none));
      zero = λ v r h l. get_or_past (segment R v) r 0 (omega (arith, put.words v));
    }

-- A far pointer to a pad in the object's segment.
pub pointed_single : (S T U R : Segments) (s p v q b x f : ℕ) → p < length (segment S s) → b ≤ length (segment S v) → IsGrown S T v q 1 → U ≡ with_word T v q x → R ≡ with_word U s p f → kind x ≢ 2 → IsOffsetTo q (offset_bits x) b →
    kind f ≡ 2 → is_double f ≡ 0 → far_position f ≡ q → upper_half f ≡ v → IsPointed S R s p (record { word = x; segment = v; start = b; pads = 1 })
pointed_single S T U R s p v q b x f place fits g e h near offset far single at to =
    let pad = word_put T U v q x (omega (arith, g.room)) e in
    let put = word_put U R s p f (omega (arith, place, g.grows.words s, pad.words s)) h in
    let other : times (word_interval s p ∷ []) v q ≡ 0 = outside s p v q (λ u w. omega (arith, g.behind, subst (λ z. p < length (segment S z)) (sym u) place)) in
    let there_x : word_at R v q ≡ x = put.kept v q other ∙ pad.here in
    let one : pads_of (word_at R s p) ≡ row v q 1 ∷ [] = ap pads_of put.here ∙ is_far f far ∙ rw (at, to, single) refl in
    let long : b ≤ length (segment R v) = omega (arith, fits, g.grows.words v, pad.words v, put.words v) in
    let leads_there = single_far_leads R s p f v q b put.here far single to at (omega (arith, g.room, pad.words v, put.words v)) (λ z. near (ap kind (sym there_x) ∙ z)) long (subst (λ y. IsOffsetTo q (offset_bits y) b) (sym there_x) offset) in
    record {
      grows = record { segments = omega (arith, g.grows.segments, pad.segments, put.segments); words = λ u. omega (arith, g.grows.words u, pad.words u, put.words u) };
      leads_there = subst (λ y. Leads R s p (record { word = y; segment = v; start = b; pads = 1 })) there_x leads_there;
      inside = long;
      kept = λ u r w l. put.kept u r w ∙ pad.kept u r (outside v q u r (λ y z. omega (arith, g.behind, subst (λ k. r < length (segment S k)) y l))) ∙ g.kept u r l;
      fresh = λ u r l. let i = in_row v q 1 u r (omega (arith, ap (λ js. times js u r) one)) in
          (subst (λ k. length (segment S k) ≤ r) (sym i.0) (omega (arith, i.1, g.behind)), subst (λ k. r < length (segment R k)) (sym i.0) (omega (arith, i.2, g.room, pad.words v, put.words v)));
      zero = λ u r w l. put.kept u r (outside s p u r (λ y z. omega (arith, place, subst (λ k. length (segment S k) ≤ r) y l))) ∙ pad.kept u r (let j = ap (λ js. times js u r) one in omega (arith, j)) ∙ g.zero u r l;
    }

-- A far pointer to two pads: where the object starts, and what it is.
pub pointed_double : (S T U V R : Segments) (s p v b k q f x h : ℕ) → p < length (segment S s) → v < length S → b ≤ length (segment S v) → IsGrown S T k q 2 → U ≡ with_word T k q f → V ≡ with_word U k (q + 1) x → R ≡ with_word V s p h →
    upper_half f ≡ v → far_position f ≡ b → kind x ≢ 2 → kind h ≡ 2 → is_double h ≡ 1 → far_position h ≡ q → upper_half h ≡ k → IsPointed S R s p (record { word = x; segment = v; start = b; pads = 2 })
pointed_double S T U V R s p v b k q f x h place exists fits g e e' e'' object start near far double at to =
    let first = word_put T U k q f (omega (arith, g.room)) e in
    let second = word_put U V k (q + 1) x (omega (arith, g.room, first.words k)) e' in
    let put = word_put V R s p h (omega (arith, place, g.grows.words s, first.words s, second.words s)) e'' in
    let not_there = λ (r : ℕ) (l : q ≤ r). outside s p k r (λ u w. omega (arith, g.behind, subst (λ z. p < length (segment S z)) (sym u) place)) in
    let there_f : word_at R k q ≡ f = put.kept k q (not_there q (omega arith)) ∙ second.kept k q (outside k (q + 1) k q (λ u w. omega arith)) ∙ first.here in
    let there_x : word_at R k (q + 1) ≡ x = put.kept k (q + 1) (not_there (q + 1) (omega arith)) ∙ second.here in
    let two : pads_of (word_at R s p) ≡ row k q 2 ∷ [] = ap pads_of put.here ∙ is_far h far ∙ rw (at, to, double) refl in
    let long : q + 2 ≤ length (segment R k) = omega (arith, g.room, first.words k, second.words k, put.words k) in
    let leads_there = double_far_leads R s p h k q put.here far double to at (omega (arith, long)) (λ z. near (ap kind (sym there_x) ∙ z)) (omega (arith, ap upper_half there_f, object, exists, g.grows.segments, first.segments, second.segments, put.segments)) in
    let where_from : upper_half (word_at R k q) ≡ v = ap upper_half there_f ∙ object in
    let where_at : far_position (word_at R k q) ≡ b = ap far_position there_f ∙ start in
    let beside = λ (u r : ℕ) (n : times (row k q 2 ∷ []) u r ≡ 0). (let both = two_rows k q u r in second.kept u r (omega (arith, n, both)) ∙ first.kept u r (omega (arith, n, both))) in
    record {
      grows = record { segments = omega (arith, g.grows.segments, first.segments, second.segments, put.segments); words = λ u. omega (arith, g.grows.words u, first.words u, second.words u, put.words u) };
      leads_there = subst (λ y. Leads R s p (record { word = y; segment = v; start = b; pads = 2 })) there_x
          (subst (λ y. Leads R s p (record { word = word_at R k (q + 1); segment = v; start = y; pads = 2 })) where_at (subst (λ y. Leads R s p (record { word = word_at R k (q + 1); segment = y; start = far_position (word_at R k q); pads = 2 })) where_from leads_there));
      inside = omega (arith, fits, g.grows.words v, first.words v, second.words v, put.words v);
      kept = λ u r w l. put.kept u r w ∙ beside u r (no_pads u r (λ y z. omega (arith, g.behind, subst (λ i. r < length (segment S i)) y l))) ∙ g.kept u r l;
      fresh = λ u r l. let i = in_row k q 2 u r (omega (arith, ap (λ js. times js u r) two)) in
          (subst (λ j. length (segment S j) ≤ r) (sym i.0) (omega (arith, i.1, g.behind)), subst (λ j. r < length (segment R j)) (sym i.0) (omega (arith, i.2, long)));
      zero = λ u r w l. put.kept u r (outside s p u r (λ y z. omega (arith, place, subst (λ j. length (segment S j) ≤ r) y l))) ∙ beside u r (let j = ap (λ js. times js u r) two in omega (arith, j)) ∙ g.zero u r l;
    }
  where
    two_rows : (k q u r : ℕ) → times (row k q 2 ∷ []) u r ≡ times (word_interval k q ∷ []) u r + times (word_interval k (q + 1) ∷ []) u r
    two_rows k q u r = grind (arith, nat_tests)

    no_pads : (u r : ℕ) → (u ≡ k → q ≤ r → ⊥) → times (row k q 2 ∷ []) u r ≡ 0
    no_pads u r other = elim (cases_eq (times (row k q 2 ∷ []) u r) 0) [
      | inl none ↦ none
      | inr some ↦ (let i = in_row k q 2 u r (omega arith) in absurd (other i.0 i.1))
    ]

-- The two pads are there.
pub pads_stand : (S T U V R : Segments) (s p k q f x h : ℕ) → p < length (segment S s) → IsGrown S T k q 2 → U ≡ with_word T k q f → V ≡ with_word U k (q + 1) x → R ≡ with_word V s p h →
    (word_at R s p ≡ h) × (word_at R k q ≡ f) × (word_at R k (q + 1) ≡ x)
pads_stand S T U V R s p k q f x h place g e e' e'' =
    let first = word_put T U k q f (omega (arith, g.room)) e in
    let second = word_put U V k (q + 1) x (omega (arith, g.room, first.words k)) e' in
    let put = word_put V R s p h (omega (arith, place, g.grows.words s, first.words s, second.words s)) e'' in
    let not_there = λ (r : ℕ) (l : q ≤ r). outside s p k r (λ u w. omega (arith, g.behind, subst (λ z. p < length (segment S z)) (sym u) place)) in (
      put.here,
      put.kept k q (not_there q (omega arith)) ∙ second.kept k q (outside k (q + 1) k q (λ u w. omega arith)) ∙ first.here,
      put.kept k (q + 1) (not_there (q + 1) (omega arith)) ∙ second.here,
    )

-- A word that isn't a far pointer, or is one to a single pad, doesn't have two pads.
pub no_two_pads : (R : Segments) (x y : ℕ) → y ≡ x → (kind x ≡ 2 → is_double x ≡ 1 → ⊥) → HasPlainPads R y
no_two_pads R x y e none = λ far double. absurd (none (ap kind (sym e) ∙ far) (ap is_double (sym e) ∙ double))

-- A word that leads to two pads, which are these.
pub two_pads : (R : Segments) (y h k q f x : ℕ) → y ≡ h → upper_half h ≡ k → far_position h ≡ q → word_at R k q ≡ f → word_at R k (q + 1) ≡ x → (kind f ≡ 2) × (is_double f ≡ 0) × (offset_bits x ≡ 0) → HasPlainPads R y
two_pads R y h k q f x e at to first second plain = λ far double.
    subst (λ z. (kind (word_at R (upper_half z) (far_position z)) ≡ 2) × (is_double (word_at R (upper_half z) (far_position z)) ≡ 0) × (offset_bits (word_at R (upper_half z) (far_position z + 1)) ≡ 0)) (sym e)
    (rw (at, to) (rw (first, second) plain))

-- The words of its landing pad.

pad_here : (s v x : ℕ) → s ≡ v → pad_words s v x ≡ 0
pad_here s v x e = grind (arith, nat_tests)

pad_null : (s v x : ℕ) → x ≡ 0 → pad_words s v x ≡ 0
pad_null s v x e = grind (arith, nat_tests)

pad_copied : (s v x : ℕ) → 2 ≤ kind x → pad_words s v x ≡ 0
pad_copied s v x l = grind (arith, nat_tests)

pub pad_far : (s v x : ℕ) → s ≢ v → x ≢ 0 → kind x < 2 → pad_words s v x ≡ 1
pad_far s v x other some l = grind (arith, nat_tests)

-- A pointer that is copied.
form_copied : (s v x : ℕ) → (x ≡ 0) ⊎ (2 ≤ kind x) → IsWrittenAnew s v x x
form_copied s v x c = record {
  copied = λ d. refl;
  near = λ some l e. absurd (never some l);
  empty = λ some k n e. absurd (never some (omega (arith, k)));
  far = λ some l e. absurd (never some l);
}
  where
    never : x ≢ 0 → kind x < 2 → ⊥
    never some l = elim c [ inl e ↦ some e | inr m ↦ omega (arith, l, m) ]

pub null_written : (v : View) (s p u r : ℕ) → s < length v.words → length (segment v.words s) ≤ v.room s → word_at v.words s p ≡ 0 → WritesAnew v v (a_move s p u r ∷ [])
null_written v s p u r there within e =
    let x = word_at v.words s p in
    writes_one v v s p u r (keeps_itself v) (λ none. record {
      form = subst (IsWrittenAnew s u x) (e ∙ sym none) (form_copied s u x (inl e));
      taken = subst (TakesWords v v s) (sym (pad_null s u x e)) (takes_none v v s there within (writes_nothing v));
    })

pub copied_written : (a b : View) (s p u r : ℕ) → s < length a.words → length (segment a.words s) ≤ a.room s → r < length (segment a.words u) → 2 ≤ kind (word_at a.words s p) →
    b ≡ record a { words = with_word a.words u r (word_at a.words s p) } → WritesAnew a b (a_move s p u r ∷ [])
copied_written a b s p u r there within place other e =
    let x = word_at a.words s p in
    let put = word_put a.words b.words u r x place (ap words_in e) in
    let only = put_writes a b u r x place e in
    writes_one a b s p u r (keeps_writes a b only) (λ none. record {
      form = subst (IsWrittenAnew s u x) (sym put.here) (form_copied s u x (inr other));
      taken = subst (TakesWords a b s) (sym (pad_copied s u x other)) (takes_none a b s there within only);
    })

-- The shape of a struct without sections.
empty_shaped : (shape : Shape) (x : ℕ) → IsShape shape x → kind x ≡ 0 → upper_half x ≡ 0 → IsShape shape (struct_word (2 ^ 30 - 1) 0 0)
empty_shaped (StructShape size) x (a, b, c) k none = (omega arith, omega arith, omega arith)
empty_shaped (ListShape size n) x (a, b, c) k none = absurd (omega arith)

-- Near, in the object's segment.
pub near_written : (a b : View) (shape : Shape) (s u r y : ℕ) → s ≡ u → s < length a.words → length (segment a.words s) ≤ a.room s → r < length (segment a.words u) → b ≡ record a { words = with_word a.words u r y } →
    IsShape shape y → (IsShape shape (struct_word (2 ^ 30 - 1) 0 0) → y ≡ struct_word (2 ^ 30 - 1) 0 0) → (x : ℕ) → IsShape shape x → x ≢ 0 → WritesPointer s x (call_at u r a b)
near_written a b shape s u r y here there within place e shaped empty x its some =
    let put = word_put a.words b.words u r y place (ap words_in e) in
    let same = same_shape shape x y its shaped in
    record {
      form = subst (IsWrittenAnew s u x) (sym put.here) (record {
        copied = λ c. absurd (elim c [ inl z ↦ some z | inr l ↦ omega (arith, l, same.2) ]);
        near = λ n l h. omega (arith, same.0, same.2);
        empty = λ n k h i. empty (empty_shaped shape x its k h);
        far = λ n l other. absurd (other here);
      });
      taken = subst (TakesWords a b s) (sym (pad_here s u x here)) (takes_none a b s there within (put_writes a b u r y place e));
    }

-- Far, from another segment.
pub far_written : (a t b : View) (s u r f x : ℕ) → s ≢ u → TakesWords a t s 1 → OnlyWrites t b → word_at b.words u r ≡ f → kind f ≡ 2 → ((is_double f ≡ 0) × (upper_half f ≡ s)) ⊎ (is_double f ≡ 1) →
    x ≢ 0 → kind x < 2 → WritesPointer s x (call_at u r a b)
far_written a t b s u r f x other taken only here far pads some near = record {
  form = subst (IsWrittenAnew s u x) (sym here) (record {
    copied = λ c. absurd (elim c [ inl z ↦ some z | inr l ↦ omega (arith, l, near) ]);
    near = λ n l h. absurd (other h);
    empty = λ n k h i. absurd (other i);
    far = λ n l o. (far, pads);
  });
  taken = subst (TakesWords a b s) (sym (pad_far s u x other some near)) (taken_after a t b s 1 taken only);
}
