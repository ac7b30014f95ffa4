use Rattle.std.proofs.lemmas.Result.{err_from_is_err_and}
use Rattle.std.proofs.Common.{◌≡◌, inl, inr, refl, sym, ap, ◌∙◌, Ok, arith, ◌⊎◌, ◌≤◌, ℕ, Some, subst, rules}
use Rattle.capnp_format.specs.Tree.{Tree, Null, Structs, element_count, Elements}
use Rattle.capnp_words.specs.Sizes.{size_number}
use Rattle.capnp_in_place.specs.declared.existing.ExistingList.{ExistingList}
use Rattle.capnp_in_place.specs.Existing.{struct_list, list_in}
use Rattle.capnp_format.specs.Segments.{Segments}
use Rattle.capnp_format.specs.Forest.{target}
use Rattle.capnp_arena_traits.specs.View.{View}
use Rattle.capnp_allocation.specs.Stored.{IsStored}
use Rattle.capnp_allocation.proofs.Memory.{keeps_itself}
use Rattle.capnp_in_place.proofs.WiderObjects.AnyValue.{list_leads, list_widens, none_is_null, null_leads, null_stays, structs_kept, structs_not_anew, unfound_refused}
use Rattle.capnp_in_place.proofs.WiderObjects.WhichList.{same_list, not_a_list, never_refused, same_refusal}
use Rattle.capnp_in_place.proofs.WiderObjects.WordsOfList.{not_refused, null_found, found_none}
use Rattle.capnp_in_place.proofs.WiderObjects.StructBySteps.{nothing_grown}
use Rattle.capnp_in_place.proofs.Room.GrowthRefused.{unfound_spent}
use Rattle.capnp_in_place.specs.Widened.{list_widened}
use Rattle.capnp_words.specs.declared.wire_pointer.StructSize.{StructSize}
use Rattle.capnp_words.specs.declared.wire_pointer.ElementSize.{ElementSize}
use Rattle.capnp_words.specs.declared.wire_pointer.ElementSize.TheVariants.{Void, Bit, Byte, TwoBytes, FourBytes, EightBytes, Pointer, InlineComposite}
use Rattle.capnp_in_place.proofs.OpenedForWriting.StructsOpened.{no_truth}
use Rattle.capnp_in_place.proofs.lists.get_struct_list.Goals as goal

is_composite : (size : ElementSize) → size_number size ≡ 7 → size ≡ InlineComposite
is_composite Void e = absurd (omega arith)
is_composite Bit e = absurd (omega arith)
is_composite Byte e = absurd (omega arith)
is_composite TwoBytes e = absurd (omega arith)
is_composite FourBytes e = absurd (omega arith)
is_composite EightBytes e = absurd (omega arith)
is_composite Pointer e = absurd (omega arith)
is_composite InlineComposite e = refl

-- Null stays.
pub returns-in-None-clause-widened : goal.returns-in-None-clause-widened
returns-in-None-clause-widened g c =
    let S : Segments = (g.A.BuilderArena.view c.args.arena.now).words in
    let found = λ (t : Tree) (x : IsStored S c.args.id c.args.at t). sym (ap Ok c.in-None.is) ∙ c.in_ok-old.ensures.found t x in
    λ t x.
    (let (u, e, same) = null_stays S c.args.id c.args.at c.args.size found t x in
    (u, e, same, null_leads S c.args.id c.args.at c.args.size found t u x e))

-- A list is found, and remade or returned unchanged.
pub returns-in_ok-list-in-Some-clause-widened : goal.returns-in_ok-list-in-Some-clause-widened
returns-in_ok-list-in-Some-clause-widened g c =
    let S : Segments = (g.A.BuilderArena.view c.args.arena.now).words in
    let R : Segments = (g.A.BuilderArena.view c.widen_list.new.arena).words in
    let found = λ (t : Tree) (x : IsStored S c.args.id c.args.at t). sym (ap Ok c.in-Some.is) ∙ c.in_ok-old.ensures.found t x in
    let widens = c.in_ok-list-in-Some.ensures.widens.widened in
    λ t x.
    (let (u, e, made) = list_widens S R c.args.id c.args.at c.args.size c.in-Some.old c.in_ok-list-in-Some.list found widens t x in
    (u, e, made, list_leads S R c.args.id c.args.at c.args.size c.in-Some.old c.in_ok-list-in-Some.list found widens t u x e))

-- A list of large enough structs is returned unchanged.
pub returns-then-is_wide_enough_list-clause-widened : goal.returns-then-is_wide_enough_list-clause-widened
returns-then-is_wide_enough_list-clause-widened g c =
    let S : Segments = (g.A.BuilderArena.view c.args.arena.now).words in
    let found = λ (t : Tree) (x : IsStored S c.args.id c.args.at t). sym (ap Ok c.in-Some.is) ∙ c.in_ok-old.ensures.found t x in
    let wide = c.is_wide_enough_list.ensures.0 (search rules) in
    let widens = structs_kept S c.args.id c.args.at c.in-Some.old c.args.size (ap size_number wide.0) wide.1 wide.2 in
    λ t x.
    (let (u, e, made) = list_widens S S c.args.id c.args.at c.args.size c.in-Some.old c.in-Some.old found widens t x in
    (u, e, made, list_leads S S c.args.id c.args.at c.args.size c.in-Some.old c.in-Some.old found widens t u x e))

pub returns-then-is_wide_enough_list-clause-wider : goal.returns-then-is_wide_enough_list-clause-wider
returns-then-is_wide_enough_list-clause-wider g c =
    let v : View = g.A.BuilderArena.view c.args.arena.now in
    let found = λ (t : Tree) (x : IsStored v.words c.args.id c.args.at t). sym (ap Ok c.in-Some.is) ∙ c.in_ok-old.ensures.found t x in
    let wide = c.is_wide_enough_list.ensures.0 (search rules) in
    let kind = ap size_number wide.0 in
    record {
      anew = λ t u x some becomes narrow. structs_not_anew v c.args.id c.args.at c.in-Some.old c.args.size kind wide.1 wide.2 t u (x, sym (found t x)) some becomes narrow;
      granted = keeps_itself v;
      memory = tt;
      refused = tt;
      named = tt;
      exact = λ t k x refused.
          (let (u, e, made) = structs_kept v.words c.args.id c.args.at c.in-Some.old c.args.size kind wide.1 wide.2 t (x, sym (found t x)) in
          absurd (never_refused u k (list_widened c.args.size.data_words c.args.size.pointers t) e refused));
      fits = λ h. refl;
      few = λ t u x e. omega arith;
    }

-- No list is found.
pub returns-in_err-old-clause-wider : goal.returns-in_err-old-clause-wider
returns-in_err-old-clause-wider g c =
    let p = err_from_is_err_and c.from_residual.result c.from_residual.ensures.1 in
    let v : View = g.A.BuilderArena.view c.args.arena.now in
    let e = c.in_err-old.ensures in
    rw (p.1, p.2) (record {
      anew = tt;
      granted = tt;
      memory = unfound_spent v _ e.named;
      refused = λ t x. nothing_grown v.words _ refl;
      named = inl (refl, λ t x. unfound_refused (target v.words c.args.id c.args.at) t c.args.size.data_words c.args.size.pointers _ (sym (e.found t x)));
      exact = λ t k x refused. (refl, same_refusal _ k _ (unfound_refused (target v.words c.args.id c.args.at) t c.args.size.data_words c.args.size.pointers _ (sym (e.found t x))) refused);
      fits = λ h.
          (let (t, u, x, becomes, fits) = h in
          absurd (not_refused _ _ u (unfound_refused (target v.words c.args.id c.args.at) t c.args.size.data_words c.args.size.pointers _ (sym (e.found t x))) becomes));
      few = λ t u x becomes. omega arith;
    })

-- The place has Null, which stays.
pub returns-in-None-clause-wider : goal.returns-in-None-clause-wider
returns-in-None-clause-wider g c =
    let v : View = g.A.BuilderArena.view c.args.arena.now in
    record {
      anew = λ t u x some e narrow. absurd (some (none_is_null (target v.words c.args.id c.args.at) t (sym (sym (ap Ok c.in-None.is) ∙ c.in_ok-old.ensures.found t x))));
      granted = keeps_itself v;
      memory = tt;
      refused = tt;
      named = tt;
      exact = λ t k x refused.
          (let null = none_is_null (target v.words c.args.id c.args.at) t (sym (sym (ap Ok c.in-None.is) ∙ c.in_ok-old.ensures.found t x)) in
          absurd (never_refused Null k (list_widened c.args.size.data_words c.args.size.pointers t) (ap (list_widened c.args.size.data_words c.args.size.pointers) null) refused));
      fits = λ h. refl;
      few = λ t u x e. omega arith;
    }

-- A list is found, and remade or returned unchanged.
pub returns-in_ok-list-in-Some-clause-wider : goal.returns-in_ok-list-in-Some-clause-wider
returns-in_ok-list-in-Some-clause-wider g c =
    let e = c.in_ok-list-in-Some.ensures.widens.wider in
    record {
      anew = λ t u x some becomes narrow. e.anew t u (x, sym (sym (ap Ok c.in-Some.is) ∙ c.in_ok-old.ensures.found t x)) some becomes narrow;
      granted = e.granted;
      memory = tt;
      refused = tt;
      named = tt;
      exact = λ t k x refused. e.exact t k (x, sym (sym (ap Ok c.in-Some.is) ∙ c.in_ok-old.ensures.found t x)) refused;
      fits = λ h. refl;
      few = λ t u x becomes. e.few t u (x, sym (sym (ap Ok c.in-Some.is) ∙ c.in_ok-old.ensures.found t x)) becomes;
    }

pub returns-in_err-list-in-Some-clause-wider : goal.returns-in_err-list-in-Some-clause-wider
returns-in_err-list-in-Some-clause-wider g c =
    let p = err_from_is_err_and c.from_residual-in_err-list-in-Some.result c.from_residual-in_err-list-in-Some.ensures.1 in
    let e = c.in_err-list-in-Some.ensures.widens.wider in
    rw (p.1, p.2) (record {
      anew = tt;
      granted = tt;
      memory = e.memory;
      refused = λ t x. e.refused t (x, sym (sym (ap Ok c.in-Some.is) ∙ c.in_ok-old.ensures.found t x));
      named = elim e.named [
        | inl (same, named) ↦ inl (same, λ t x. named t (x, sym (sym (ap Ok c.in-Some.is) ∙ c.in_ok-old.ensures.found t x)))
        | inr growth ↦ inr (record {
          name = growth.name;
          memory = growth.memory;
          full = λ t u x becomes. growth.full t u (x, sym (sym (ap Ok c.in-Some.is) ∙ c.in_ok-old.ensures.found t x)) becomes;
        })
      ];
      exact = λ t k x refused. e.exact t k (x, sym (sym (ap Ok c.in-Some.is) ∙ c.in_ok-old.ensures.found t x)) refused;
      fits = λ h. (let (t, u, x, becomes, fits) = h in e.fits (t, u, (x, sym (sym (ap Ok c.in-Some.is) ∙ c.in_ok-old.ensures.found t x)), becomes, fits));
      few = λ t u x becomes. e.few t u (x, sym (sym (ap Ok c.in-Some.is) ∙ c.in_ok-old.ensures.found t x)) becomes;
    })

-- Null and structs are found, so this case can't occur.
pub returns-in_err-old-clause-stays : goal.returns-in_err-old-clause-stays
returns-in_err-old-clause-stays g c =
    let p = err_from_is_err_and c.from_residual.result c.from_residual.ensures.1 in rw p.1 (λ h. absurd (elim h [
      | inl x ↦ null_found _ (c.in_err-old.ensures.found Null x)
      | inr (d, q, es, x, l, m) ↦ not_a_list _ _ (c.in_err-old.ensures.found (Structs d q es) x)
    ]))

-- A list whose structs are large enough is returned unchanged.
wide_stays : (S : Segments) (s p : ℕ) (l : ExistingList) (size : StructSize) → ((t : Tree) → IsStored S s p t → Ok (Some l) ≡ list_in (target S s p) Void t) → ((l.size ≡ InlineComposite) × (size.data_words ≤ l.struct_size.data_words) × (size.pointers ≤ l.struct_size.pointers) → ⊥) →
    IsStored S s p Null ⊎ ((d : ℕ) × (q : ℕ) × (es : Elements) × IsStored S s p (Structs d q es) × (size.data_words ≤ d) × (size.pointers ≤ q)) → ⊥
wide_stays S s p l size found narrow (inl x) = found_none l (found Null x)
wide_stays S s p l size found narrow (inr (d, q, es, x, m, n)) =
    let same : struct_list (target S s p) d q (element_count es) ≡ l = same_list _ _ (sym (found (Structs d q es) x)) in
    narrow (subst (λ (o : ExistingList). (o.size ≡ InlineComposite) × (size.data_words ≤ o.struct_size.data_words) × (size.pointers ≤ o.struct_size.pointers)) same (refl, m, n))

pub returns-in_ok-list-in-Some-clause-stays : goal.returns-in_ok-list-in-Some-clause-stays
returns-in_ok-list-in-Some-clause-stays g c = λ h.
    absurd (wide_stays (g.A.BuilderArena.view c.args.arena.now).words c.args.id c.args.at c.in-Some.old c.args.size (λ t x. sym (ap Ok c.in-Some.is) ∙ c.in_ok-old.ensures.found t x)
    (λ wide. no_truth c.is_wide_enough_list.result c.if-is_wide_enough_list.false (c.is_wide_enough_list.ensures.1 wide)) h)

pub returns-in_err-list-in-Some-clause-stays : goal.returns-in_err-list-in-Some-clause-stays
returns-in_err-list-in-Some-clause-stays g c =
    let p = err_from_is_err_and c.from_residual-in_err-list-in-Some.result c.from_residual-in_err-list-in-Some.ensures.1 in rw p.1 (λ h.
    absurd (wide_stays (g.A.BuilderArena.view c.args.arena.now).words c.args.id c.args.at c.in-Some.old c.args.size (λ t x. sym (ap Ok c.in-Some.is) ∙ c.in_ok-old.ensures.found t x)
    (λ wide. no_truth c.is_wide_enough_list.result c.if-is_wide_enough_list.false (c.is_wide_enough_list.ensures.1 wide)) h))

pub widen_list-requires-clause-narrow : goal.widen_list-requires-clause-narrow
widen_list-requires-clause-narrow g c = λ is wide many.
    no_truth c.is_wide_enough_list.result c.if-is_wide_enough_list.false (c.is_wide_enough_list.ensures.1 (is_composite c.in-Some.old.size is, wide, many))
