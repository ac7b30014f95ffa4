use Rattle.std.proofs.Common.{◌≡◌, ◌∙◌, ◌*◌, ◌+◌, ◌<◌, ◌≤◌, ◌^◌, ℕ, Err, max, refl, sym, ap, ap₂, subst, arith, rules}
use Rattle.capnp_words.specs.declared.error.ErrorKind.TheVariants.{MessageTooLarge}
use Rattle.capnp_words.specs.declared.wire_pointer.ElementSize.{ElementSize}
use Rattle.capnp_words.specs.declared.wire_pointer.ElementSize.TheVariants.{Void, Bit, Byte, TwoBytes, FourBytes, EightBytes, Pointer, InlineComposite}
use Rattle.capnp_words.specs.declared.wire_pointer.StructSize.{StructSize}
use Rattle.capnp_words.specs.Sizes.{size_number}
use Rattle.capnp_arena_traits.specs.View.{View}
use Rattle.capnp_in_place.specs.declared.existing.ExistingList.{ExistingList}
use Rattle.capnp_allocation.specs.Makes.{call_at}
use Rattle.capnp_in_place.specs.RowsRemade.{IsList, StoresRows, as_structs, struct_for}
use Rattle.capnp_in_place.specs.Widened.{limited}
use Rattle.capnp_in_place.proofs.WiderObjects.AnyValue.{bits_refused}
use Rattle.capnp_in_place.proofs.WiderObjects.WhichList.{few_enough, too_many}
use Rattle.capnp_in_place.proofs.WiderObjects.WhatListBecomes.{Widens, becomes, in_rows, unwidened, widens}
use Rattle.capnp_in_place.proofs.Room.GrowthRefused.{bits_spent, too_large_spent}
use Rattle.capnp_in_place.proofs.lists.widen_list.Goals as goal

is_bit : (size : ElementSize) → size_number size ≡ 1 → size ≡ Bit
is_bit Void e = absurd (omega arith)
is_bit Bit e = refl
is_bit Byte e = absurd (omega arith)
is_bit TwoBytes e = absurd (omega arith)
is_bit FourBytes e = absurd (omega arith)
is_bit EightBytes e = absurd (omega arith)
is_bit Pointer e = absurd (omega arith)
is_bit InlineComposite e = absurd (omega arith)

-- Elements that aren't numbers are whole words, or nothing.
is_whole : (size : ElementSize) → (size ≡ Bit → ⊥) → (size ≡ Byte → ⊥) → (size ≡ TwoBytes → ⊥) → (size ≡ FourBytes → ⊥) → (size ≡ EightBytes → ⊥) → 0 < size_number size → 6 ≤ size_number size
is_whole Void n1 n2 n3 n4 n5 some = absurd (omega arith)
is_whole Bit n1 n2 n3 n4 n5 some = absurd (n1 refl)
is_whole Byte n1 n2 n3 n4 n5 some = absurd (n2 refl)
is_whole TwoBytes n1 n2 n3 n4 n5 some = absurd (n3 refl)
is_whole FourBytes n1 n2 n3 n4 n5 some = absurd (n4 refl)
is_whole EightBytes n1 n2 n3 n4 n5 some = absurd (n5 refl)
is_whole Pointer n1 n2 n3 n4 n5 some = omega arith
is_whole InlineComposite n1 n2 n3 n4 n5 some = omega arith

-- The size of the structs that it becomes.
is_wider : (l : ExistingList) (size element wide : StructSize) → (l.size ≡ Bit → ⊥) → (size_number l.size ≡ 7 → size.data_words ≤ l.struct_size.data_words → size.pointers ≤ l.struct_size.pointers → ⊥) → element ≡ struct_for l.size l.struct_size →
    wide.data_words ≡ max element.data_words size.data_words → wide.pointers ≡ max element.pointers size.pointers → Widens l size wide
is_wider l size element wide no_bit narrow same wd wp = record {
  kind = λ e. no_bit (is_bit l.size e);
  narrow = narrow;
  data_words = wd ∙ ap (λ (o : StructSize). max o.data_words size.data_words) same;
  pointers = wp ∙ ap (λ (o : StructSize). max o.pointers size.pointers) same;
}

pub returns-then-eq-clause-widens : goal.returns-then-eq-clause-widens
returns-then-eq-clause-widens g c =
    let v : View = g.A.BuilderArena.view c.args.arena.now in
    let bit : c.args.old.size ≡ Bit = search rules in
    unwidened _ c.args.old c.args.size v c.args.id c.args.at (bits_spent v)
    (λ t i. bits_refused v.words c.args.id c.args.at t c.args.old c.args.size.data_words c.args.size.pointers (ap size_number bit) i)

-- Structs that take too many words are refused with the number of these words.
pub returns-then-words-ge536870912-clause-widens : goal.returns-then-words-ge536870912-clause-widens
returns-then-words-ge536870912-clause-widens g c =
    let v : View = g.A.BuilderArena.view c.args.arena.now in
    let wide = c.greater_size-wide.result in
    let no_bit : c.args.old.size ≡ Bit → ⊥ = search rules in
    let w = is_wider c.args.old c.args.size c.struct_for.result wide no_bit c.requires.narrow c.struct_for.ensures c.greater_size-wide.ensures.data_words c.greater_size-wide.ensures.pointers in
    let n : ℕ = c.args.old.count * (wide.data_words + wide.pointers) in
    let same : c.from.result * c.from-2.result ≡ n = ap₂ (λ x y. x * y) c.from.ensures (c.from-2.ensures ∙ c.total.ensures) in
    let many : 2 ^ 29 ≤ n = subst (λ x. 2 ^ 29 ≤ x) same (omega arith) in
    unwidened _ c.args.old c.args.size v c.args.id c.args.at (too_large_spent v (c.from.result * c.from-2.result))
    (λ t i. becomes v.words c.args.id c.args.at t c.args.old c.args.size wide w i ∙ subst (λ x. limited n (as_structs wide t) ≡ Err (MessageTooLarge x)) (sym same) (too_many n (as_structs wide t) many))

pub returns-in-Byte-clause-widens : goal.returns-in-Byte-clause-widens
returns-in-Byte-clause-widens g c =
    let a : View = g.A.BuilderArena.view c.args.arena.now in
    let b : View = g.A.BuilderArena.view c.widen_numbers.new.arena in
    let wide = c.greater_size-wide.result in
    let no_bit : c.args.old.size ≡ Bit → ⊥ = search rules in
    let w = is_wider c.args.old c.args.size c.struct_for.result wide no_bit c.requires.narrow c.struct_for.ensures c.greater_size-wide.ensures.data_words c.greater_size-wide.ensures.pointers in
    let n : ℕ = c.args.old.count * (wide.data_words + wide.pointers) in
    let same : c.from.result * c.from-2.result ≡ n = ap₂ (λ x y. x * y) c.from.ensures (c.from-2.ensures ∙ c.total.ensures) in
    let few : n < 2 ^ 29 = subst (λ x. x < 2 ^ 29) same (omega arith) in
    widens c.widen_numbers.result (IsList a.words c.args.id c.args.at c.args.old) c.args.old c.args.size wide (call_at c.args.id c.args.at a b) (λ t i. i)
    (λ t i. becomes a.words c.args.id c.args.at t c.args.old c.args.size wide w i ∙ few_enough n (as_structs wide t) few) c.widen_numbers.ensures.makes

pub returns-in_default-clause-widens : goal.returns-in_default-clause-widens
returns-in_default-clause-widens g c =
    let a : View = g.A.BuilderArena.view c.args.arena.now in
    let b : View = g.A.BuilderArena.view c.widen_rows.new.arena in
    let wide = c.greater_size-wide.result in
    let no_bit : c.args.old.size ≡ Bit → ⊥ = search rules in
    let w = is_wider c.args.old c.args.size c.struct_for.result wide no_bit c.requires.narrow c.struct_for.ensures c.greater_size-wide.ensures.data_words c.greater_size-wide.ensures.pointers in
    let n : ℕ = c.args.old.count * (wide.data_words + wide.pointers) in
    let same : c.from.result * c.from-2.result ≡ n = ap₂ (λ x y. x * y) c.from.ensures (c.from-2.ensures ∙ c.total.ensures) in
    let few : n < 2 ^ 29 = subst (λ x. x < 2 ^ 29) same (omega arith) in
    let no = c.in_default in
    let whole = is_whole c.args.old.size no_bit no.not-Byte no.not-TwoBytes no.not-FourBytes no.not-EightBytes in
    widens c.widen_rows.result (StoresRows a.words c.args.id c.args.at c.element_rows.result) c.args.old c.args.size wide (call_at c.args.id c.args.at a b)
    (λ t i. subst (λ rows. StoresRows a.words c.args.id c.args.at rows t) (sym c.element_rows.ensures) (in_rows a.words c.args.id c.args.at t c.args.old whole i))
    (λ t i. becomes a.words c.args.id c.args.at t c.args.old c.args.size wide w i ∙ few_enough n (as_structs wide t) few) c.widen_rows.ensures.makes
