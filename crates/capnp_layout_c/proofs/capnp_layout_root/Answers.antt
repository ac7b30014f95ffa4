use Rattle.std.proofs.Common.{◌≡◌, ◌≤◌, ◌-◌, inl, inr, ℕ, true, Some, length, arith, refl, sym, ap, ◌∙◌, subst, w32}
use Rattle.std.proofs.lemmas.Int.{to_z-of_z}
use Rattle.std.proofs.lemmas.Bool.{cases_lt, false≢true}
use Rattle.capnp_words.specs.Meter.{Affords, Meter, charged, unused}
use Rattle.capnp_format.specs.Segments.{Segments, segment}
use Rattle.capnp_arena_traits.specs.Checks.{Holds}
use Rattle.capnp_pointers.specs.Expected.{struct_expected, HasExpected}
use Rattle.capnp_numbers.specs.Numbers.{error_number}
use Rattle.capnp_layout_c.specs.Found.{RefusesNumber}
use Rattle.capnp_layout_c.specs.Found.RefusesRootNumber.{no_root, no_struct, no_words}
use Rattle.capnp_layout_c.specs.Lent.{Leaves, left_over, lent, lent_pointer, root_left}
use Rattle.capnp_layout_c.proofs.Unlimited.{fits_more, leaves_more}
use Rattle.capnp_layout_c.proofs.capnp_layout_root.Goals as goal

pub returns-in-Ok-clause-exactly : goal.returns-in-Ok-clause-exactly
returns-in-Ok-clause-exactly c =
    let old : ℕ = c.args.left.now in
    let both = c.in-Ok.ensures.exactly.0 refl in
    let some : 1 ≤ old = subst (λ (m : Meter). Affords true m 1) c.new-lim.ensures both.1 in
    let left : c.store_left.new.left ≡ root_left old =
    c.store_left.ensures ∙ ap (λ (m : Meter). left_over old m.left) (c.in-Ok.ensures.granted ∙ ap (λ (m : Meter). charged true m 1) c.new-lim.ensures) in
    let exactly = rw (to_z-of_z w32 c.args.nesting c.ranges.nesting) at c.capnp_layout_struct.ensures.exactly in
    let x = lent_pointer c.args.segments.now.list.now 0 0 c.args.nesting in (
      (λ zero. (both.0, some, subst (λ n. HasExpected struct_expected x (unused (Some n))) left (exactly.0 zero))),
      (λ can. exactly.1 (subst (λ n. HasExpected struct_expected x (unused (Some n))) (sym left) can.2)),
    )

pub returns-in-Ok-clause-value : goal.returns-in-Ok-clause-value
returns-in-Ok-clause-value c = λ t k means zero.
    let old : ℕ = c.args.left.now in
    let some : 1 ≤ old = subst (λ (m : Meter). Affords true m 1) c.new-lim.ensures (c.in-Ok.ensures.exactly.0 refl).1 in
    let left : c.store_left.new.left ≡ root_left old =
    c.store_left.ensures ∙ ap (λ (m : Meter). left_over old m.left) (c.in-Ok.ensures.granted ∙ ap (λ (m : Meter). charged true m 1) c.new-lim.ensures) in
    let value = rw (to_z-of_z w32 c.args.nesting c.ranges.nesting) at c.capnp_layout_struct.ensures.value in
    let (x, found, spent) = value t k means zero in
    (x, found, leaves_more old c.capnp_layout_struct.new.left (k - x) some (subst (λ n. Leaves n c.capnp_layout_struct.new.left (k - x)) left spent))

pub returns-in-Ok-clause-refused : goal.returns-in-Ok-clause-refused
returns-in-Ok-clause-refused c = λ bad.
    let old : ℕ = c.args.left.now in
    let both = c.in-Ok.ensures.exactly.0 refl in
    let some : 1 ≤ old = subst (λ (m : Meter). Affords true m 1) c.new-lim.ensures both.1 in
    let left : c.store_left.new.left ≡ root_left old =
    c.store_left.ensures ∙ ap (λ (m : Meter). left_over old m.left) (c.in-Ok.ensures.granted ∙ ap (λ (m : Meter). charged true m 1) c.new-lim.ensures) in
    let refused = rw (to_z-of_z w32 c.args.nesting c.ranges.nesting) at c.capnp_layout_struct.ensures.refused in
    no_struct both.0 some (subst (λ n. RefusesNumber struct_expected (lent_pointer c.args.segments.now.list.now 0 0 c.args.nesting) n c.capnp_layout_struct.new.left c.capnp_layout_struct.result) left (refused bad))

pub returns-in-Ok-clause-answered : goal.returns-in-Ok-clause-answered
returns-in-Ok-clause-answered c = λ t k holds is means covers.
    let old : ℕ = c.args.left.now in
    let left : c.store_left.new.left ≡ root_left old =
    c.store_left.ensures ∙ ap (λ (m : Meter). left_over old m.left) (c.in-Ok.ensures.granted ∙ ap (λ (m : Meter). charged true m 1) c.new-lim.ensures) in
    let answered = rw (to_z-of_z w32 c.args.nesting c.ranges.nesting) at c.capnp_layout_struct.ensures.answered in
    answered t k is means (subst (λ n. k ≤ n) (sym left) (fits_more old k covers))

pub returns-in-Err-clause-refused : goal.returns-in-Err-clause-refused
returns-in-Err-clause-refused c = λ some. elim (cases_lt 0 (length S)) [
  | inl exists ↦ elim (cases_lt 0 (length (segment S 0))) [
    | inl there ↦
        let holds : Holds S 0 0 1 = (exists, omega (arith, there)) in
        let less_than : 1 ≤ c.args.left.now → ⊥ = λ fits. false≢true (c.in-Err.ensures.exactly.1 (holds, subst (λ (m : Meter). Affords true m 1) (sym c.new-lim.ensures) fits)) in
        no_words holds (omega (arith, less_than)) (c.layout_number.ensures.number ∙ ap error_number (c.in-Err.ensures.budget holds)) refl
    | inr empty ↦
        let nothing : Holds S 0 0 1 → ⊥ = λ holds. omega (arith, holds.1, empty) in
        no_root nothing (c.layout_number.ensures.number ∙ ap error_number (c.in-Err.ensures.outside nothing)) refl
  ]
  | inr absent ↦
      let nothing : Holds S 0 0 1 → ⊥ = λ holds. omega (arith, holds.0, absent) in
      no_root nothing (c.layout_number.ensures.number ∙ ap error_number (c.in-Err.ensures.outside nothing)) refl
]
  where
    S : Segments
    S = lent c.args.segments.now.list.now
