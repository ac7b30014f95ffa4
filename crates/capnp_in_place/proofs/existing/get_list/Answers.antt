use Rattle.std.proofs.Common.{◌≡◌, Option, Some, None, Result, Bool, true, false, if◌then◌else◌, IfErr, sym, subst, refl, rules}
use Rattle.capnp_words.specs.declared.error.ErrorKind.{ErrorKind}
use Rattle.capnp_words.specs.declared.error.ErrorKind.TheVariants.{ExistingListValueIsIncompatibleWithExpectedType}
use Rattle.capnp_words.specs.declared.wire_pointer.ElementSize.{ElementSize}
use Rattle.capnp_in_place.specs.Existing.{is_unfound, plain_list, plain_misfit, unless}
use Rattle.capnp_format.specs.Word.{list_count}
use Rattle.capnp_allocation.specs.Landings.{target_of}
use Rattle.capnp_in_place.specs.declared.existing.ExistingList.{ExistingList}
use Rattle.capnp_in_place.proofs.existing.get_list.Goals as goal

-- Elements that are too narrow are refused with a name that says so.
misfit_named : (r : Result (Option ExistingList) ErrorKind) (expected size : ElementSize) (l : ExistingList) → r ≡ unless (plain_misfit expected size) l → IfErr r (λ k. is_unfound k ≡ true)
misfit_named r expected size l e = subst (λ x. IfErr x (λ k. is_unfound k ≡ true)) (sym e) (either _)
  where
    either : (b : Bool) → IfErr (unless (if b then None else Some ExistingListValueIsIncompatibleWithExpectedType) l) (λ k. is_unfound k ≡ true)
    either true = tt
    either false = refl

pub returns-else-eq : goal.returns-else-eq
returns-else-eq g c = record {
  found = search rules;
  named = misfit_named _ c.args.expected c.list_element_size-size.result (plain_list (target_of c.in-Some.landing) c.list_element_size-size.result (list_count c.in-Some.landing.word.0)) c.plain_list_at.ensures.found;
  few = c.plain_list_at.ensures.few;
}
