use Rattle.std.proofs.lemmas.Result.{err_from_is_err_and}
use Rattle.capnp_messages.proofs.CheckedLemmas.{none_paid, none_within, other_count, some_exactly, unread_tested, whole_err, whole_more, whole_none, whole_some}
use Rattle.std.proofs.Common.{◌∙◌, true, refl, sym, rules}
use Rattle.capnp_arena_traits.proofs.MessageLemmas.{length-message}
use Rattle.capnp_messages.proofs.CanonicalMessageLemmas.{IsRootRead, head_ends, head_stays}
use Rattle.capnp_messages.proofs.messages.message_fault.canonical_fault.Goals as goal

pub returns-in-Some-clause-exactly : goal.returns-in-Some-clause-exactly
returns-in-Some-clause-exactly g c =
    let one = c.segment_count_fault-of_count.ensures.one.0 (search rules) in
    let root : IsRootRead _ _ _ _ _ = record { place = c.in_ok-root.ensures.place; left = c.in_ok-root.ensures.charged; covers = c.in_ok-root.ensures.exactly.0 (refl {a = true}) } in
    some_exactly root c.in_ok-fault.ensures.small (whole_some c.canonical_fault.new.head c.in_ok-fault.field-0 (length-message _ ∙ one) root c.in-Some.is c.in_ok-fault.ensures.computed)

pub returns-then-head-size_in_words-clause-exactly : goal.returns-then-head-size_in_words-clause-exactly
returns-then-head-size_in_words-clause-exactly g c =
    let one = c.segment_count_fault-of_count.ensures.one.0 (search rules) in
    let root : IsRootRead _ _ _ _ _ = record { place = c.in_ok-root.ensures.place; left = c.in_ok-root.ensures.charged; covers = c.in_ok-root.ensures.exactly.0 (refl {a = true}) } in
    let paid = none_paid root c.in_ok-fault.ensures.small (whole_none c.in_ok-fault.field-0 (length-message _ ∙ one) root c.in_default.is c.in_ok-fault.ensures.computed (head_ends _ c.canonical_fault.new.head c.size_in_words.result one c.size_in_words.ensures c.if-head-size_in_words.true)) in
    (λ none. (paid.0, paid.1), λ canonical. refl)

pub returns-then-head-size_in_words-clause-paid : goal.returns-then-head-size_in_words-clause-paid
returns-then-head-size_in_words-clause-paid g c =
    let one = c.segment_count_fault-of_count.ensures.one.0 (search rules) in
    let root : IsRootRead _ _ _ _ _ = record { place = c.in_ok-root.ensures.place; left = c.in_ok-root.ensures.charged; covers = c.in_ok-root.ensures.exactly.0 (refl {a = true}) } in
    none_paid root c.in_ok-fault.ensures.small (whole_none c.in_ok-fault.field-0 (length-message _ ∙ one) root c.in_default.is c.in_ok-fault.ensures.computed (head_ends _ c.canonical_fault.new.head c.size_in_words.result one c.size_in_words.ensures c.if-head-size_in_words.true))

pub returns-then-head-size_in_words-clause-within : goal.returns-then-head-size_in_words-clause-within
returns-then-head-size_in_words-clause-within g c =
    let one = c.segment_count_fault-of_count.ensures.one.0 (search rules) in
    let root : IsRootRead _ _ _ _ _ = record { place = c.in_ok-root.ensures.place; left = c.in_ok-root.ensures.charged; covers = c.in_ok-root.ensures.exactly.0 (refl {a = true}) } in
    none_within root c.in_ok-fault.ensures.small (whole_none c.in_ok-fault.field-0 (length-message _ ∙ one) root c.in_default.is c.in_ok-fault.ensures.computed (head_ends _ c.canonical_fault.new.head c.size_in_words.result one c.size_in_words.ensures c.if-head-size_in_words.true))

pub returns-clause-exactly : goal.returns-clause-exactly
returns-clause-exactly g c =
    let one = c.segment_count_fault-of_count.ensures.one.0 (search rules) in
    let root : IsRootRead _ _ _ _ _ = record { place = c.in_ok-root.ensures.place; left = c.in_ok-root.ensures.charged; covers = c.in_ok-root.ensures.exactly.0 (refl {a = true}) } in
    some_exactly root c.in_ok-fault.ensures.small (whole_more c.in_ok-fault.field-0 (length-message _ ∙ one) root c.in_default.is c.in_ok-fault.ensures.computed (head_stays _ c.canonical_fault.new.head c.size_in_words.result one c.size_in_words.ensures c.if-head-size_in_words.false))

pub returns-in_err-fault-clause-computed : goal.returns-in_err-fault-clause-computed
returns-in_err-fault-clause-computed g c =
    let root : IsRootRead _ _ _ _ _ = record { place = c.in_ok-root.ensures.place; left = c.in_ok-root.ensures.charged; covers = c.in_ok-root.ensures.exactly.0 (refl {a = true}) } in
    let one = length-message _ ∙ c.segment_count_fault-of_count.ensures.one.0 (search rules) in
    let p = err_from_is_err_and c.from_residual-in_err-fault.result c.from_residual-in_err-fault.ensures.1 in
    rw (p.1, p.2) (whole_err c.in_err-fault.field-0.0 one root c.in_err-fault.ensures.computed)

pub returns-in-Some-clause-computed : goal.returns-in-Some-clause-computed
returns-in-Some-clause-computed g c =
    let root : IsRootRead _ _ _ _ _ = record { place = c.in_ok-root.ensures.place; left = c.in_ok-root.ensures.charged; covers = c.in_ok-root.ensures.exactly.0 (refl {a = true}) } in
    let one = length-message _ ∙ c.segment_count_fault-of_count.ensures.one.0 (search rules) in
    whole_some c.canonical_fault.new.head c.in_ok-fault.field-0 one root c.in-Some.is c.in_ok-fault.ensures.computed

pub returns-then-head-size_in_words-clause-computed : goal.returns-then-head-size_in_words-clause-computed
returns-then-head-size_in_words-clause-computed g c =
    let alone = c.segment_count_fault-of_count.ensures.one.0 (search rules) in
    let root : IsRootRead _ _ _ _ _ = record { place = c.in_ok-root.ensures.place; left = c.in_ok-root.ensures.charged; covers = c.in_ok-root.ensures.exactly.0 (refl {a = true}) } in
    whole_none c.in_ok-fault.field-0 (length-message _ ∙ alone) root c.in_default.is c.in_ok-fault.ensures.computed (head_ends _ c.canonical_fault.new.head c.size_in_words.result alone c.size_in_words.ensures c.if-head-size_in_words.true)

pub returns-clause-computed : goal.returns-clause-computed
returns-clause-computed g c =
    let alone = c.segment_count_fault-of_count.ensures.one.0 (search rules) in
    let root : IsRootRead _ _ _ _ _ = record { place = c.in_ok-root.ensures.place; left = c.in_ok-root.ensures.charged; covers = c.in_ok-root.ensures.exactly.0 (refl {a = true}) } in
    whole_more c.in_ok-fault.field-0 (length-message _ ∙ alone) root c.in_default.is c.in_ok-fault.ensures.computed (head_stays _ c.canonical_fault.new.head c.size_in_words.result alone c.size_in_words.ensures c.if-head-size_in_words.false)

pub returns-in_err-root-clause-computed : goal.returns-in_err-root-clause-computed
returns-in_err-root-clause-computed g c =
    let one = length-message _ ∙ c.segment_count_fault-of_count.ensures.one.0 (search rules) in
    let p = err_from_is_err_and c.from_residual.result c.from_residual.ensures.1 in
    rw (p.1, p.2, c.in_err-root.ensures.unread) (unread_tested _ _ c.args.lim.now _ one c.in_err-root.ensures.refused)

pub returns-then-is_some-clause-computed : goal.returns-then-is_some-clause-computed
returns-then-is_some-clause-computed g c =
    other_count _ _ _ c.args.lim.now c.segment_count_fault-of_count.result (length-message _) c.segment_count_fault-of_count.ensures.other (sym c.is_some.ensures ∙ c.if-is_some.true)
