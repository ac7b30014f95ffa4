-- A copy that is charged doesn't outgrow more words than its limit has.
use Rattle.std.proofs.Common.{◌≡◌, ◌↔◌, inl, inr, ℕ, ◌+◌, ◌-◌, ◌<◌, ◌≤◌, Bool, true, false, nat_le, Option, Some, Ok, Err, drop, length, length-take, ap, ◌∙◌, subst, arith, le-leb}
use Rattle.capnp_words.specs.declared.error.ErrorKind.{ErrorKind}
use Rattle.capnp_words.specs.declared.error.ErrorKind.TheVariants.{MessageTooLarge}
use Rattle.capnp_words.specs.Meter.{Meter, less, unused}
use Rattle.capnp_arena_traits.specs.Allocations.{max_segment_words}
use Rattle.capnp_format.specs.Tree.{count}
use Rattle.capnp_format.proofs.Trimming.{used_words-le}
use Rattle.capnp_pointers.specs.Enter.{struct}
use Rattle.capnp_pointers.specs.Measure.{fold_pointers}
use Rattle.capnp_pointers.specs.Reading.{Reading, place_past, segment_read, words_from}
use Rattle.capnp_pointers.specs.Refusals.{Refused}
use Rattle.capnp_pointers.specs.Spending.{after_charge, pointers_in_all}
use Rattle.capnp_pointers.specs.Wanted.{canonical}
use Rattle.capnp_pointers.proofs.WholeValue.RefusalsNamed.{not_for_size}
use Rattle.capnp_copies.proofs.Growth.{covered_by}
use Rattle.capnp_copies.proofs.WithinBudget.{covered_wanted}
use Rattle.capnp_messages.specs.Canonicalize.{canonical_words}
use Rattle.capnp_messages.specs.Copies.{OutgrowsRoom, RefusesCopy}
use Rattle.capnp_messages.specs.EndValues.{end_place, end_words}
use Rattle.capnp_messages.specs.Fitting.{fit_end, fit_within, made_words}
use Rattle.capnp_messages.specs.Parts.{PathEnd, to_element, to_pointer}
use Rattle.capnp_messages.proofs.FittingLemmas.{AllFit, Outcome, fits, trees_fit}
use Rattle.capnp_messages.proofs.OutgrownLemmas.{outgrown_if}

pointer_fits : (r : Reading) (n room : ℕ) (m : Meter) → r.charging ≡ true → m.left ≡ Some n → n < room → (fit_end room (to_pointer r) 1 m).0 ≡ Err (MessageTooLarge room) → ⊥
pointer_fits r n room m charged budget few e =
    let after : Meter = (fit_end room (to_pointer r) 1 m).1 in
    let (i, stops, full) = outgrown_if room r 1 m after (ap (λ x. (x, after)) e) in
    let paid = covered_by r.charging m _ n charged budget (covered_wanted i stops) in
    omega (arith, paid, full, few)

-- what is left after a charge
left_after : (charging : Bool) (m mid : Meter) (c p n : ℕ) → charging ≡ true → m.left ≡ Some n → mid ≡ after_charge charging m c p → mid.left ≡ Some (n - c)
left_after true m mid c p n charged budget spent = ap (λ (x : Meter). x.left) spent ∙ ap (λ (b : Option ℕ). less b c) budget
left_after false m mid c p n charged budget spent = absurd (cc charged)

children_fit : (r : Reading) (q z n room : ℕ) (m : Meter) → r.charging ≡ true → m.left ≡ Some n → z + n ≤ room → (fold_pointers (fit_within room r.levels) q r z m).0 ≡ Err (MessageTooLarge room) → ⊥
children_fit r q z n room m charged budget few e =
    go (fold_pointers (fit_within room r.levels) q r z m) (trees_fit room (fit_within room r.levels) r (λ p y l. fits room (record r { at = p }) y l) q r.at z m) e
  where
    go : (o : Outcome) → AllFit room z r q m o → o.0 ≡ Err (MessageTooLarge room) → ⊥
    go (Ok y, m1) all e = absurd (cc e)
    go (Err k, m1) (inl h) e =
        let same : k ≡ MessageTooLarge room = cc e in
        absurd (not_for_size room (subst (λ (x : ErrorKind). Refused canonical (place_past r (count h.first)) h.mid m1 x) same h.child.stops))
    go (Err k, m1) (inr (named, (i, h))) e =
        let before = covered_by r.charging m h.are_read.cost n charged budget h.are_read.covers in
        let left = left_after r.charging m h.mid h.are_read.cost (pointers_in_all h.first) n charged budget h.are_read.spent in
        let rest = covered_by r.charging h.mid _ (n - h.are_read.cost) charged left (covered_wanted i h.child.stops) in
        omega (arith, before, rest, h.child.spends, few)

element_fits : (r : Reading) (d q n room : ℕ) (m : Meter) → r.charging ≡ true → m.left ≡ Some n → n + (d + q) < room → (fit_end room (to_element r d q) 1 m).0 ≡ Err (MessageTooLarge room) → ⊥
element_fits r d q n room m charged budget few e =
    let own : length (words_from r d) ≤ d = omega (arith, length-take d (drop r.at (segment_read r))) in
    let others : length (words_from (place_past r d) q) ≤ q = omega (arith, length-take q (drop (r.at + d) (segment_read r))) in
    let short : nat_le (1 + made_words r.segments (struct r.segment r.at d q)) room ≡ true = le-leb _ _ (omega (arith, used_words-le (words_from r d), used_words-le (words_from (place_past r d) q), own, others, few)) in
    children_fit (place_past r d) q (1 + (d + q)) n room m charged budget (omega (arith, few)) (rw short at e)

pub none_outgrown : (e : PathEnd) (left : Option ℕ) (n room : ℕ) → (end_place e).charging ≡ true → left ≡ Some n → n + end_words e < room → OutgrowsRoom e left room → ⊥
none_outgrown (to_pointer r) left n room charged budget few out = pointer_fits r n room (unused left) charged budget (omega (arith, few)) out.outgrown
none_outgrown (to_element r d q) left n room charged budget few out = element_fits r d q n room (unused left) charged budget few out.outgrown

-- So then the refusal of a copy has one name.
pub end_refusals_within : (e : PathEnd) (m : Meter) (n : ℕ) (k : ErrorKind) → (end_place e).charging ≡ true → m.left ≡ Some n → n + end_words e < max_segment_words →
    RefusesCopy (Ok e, m) max_segment_words k ↔ ((canonical_words max_segment_words e (unused m.left)).0 ≡ Err k)
end_refusals_within e m n k charged budget few = (
  λ why. elim why [ inl refused ↦ refused | inr (named, out) ↦ absurd (none_outgrown e m.left n max_segment_words charged budget few out) ],
  λ refused. inl refused,
)
