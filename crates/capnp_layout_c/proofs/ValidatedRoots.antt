-- A message is validated exactly if its root means a value within the limits; otherwise the search finds the pointer.
use Rattle.std.proofs.Common.{◌≡◌, inl, inr, ℕ, ◌+◌, ◌-◌, true, Option, Some, None, Result, Ok, Err, refl, sym, ap, ap₂, ◌∙◌, subst, arith}
use Rattle.std.proofs.lemmas.Bool.{false≢true}
use Rattle.capnp_words.specs.declared.error.ErrorKind.{ErrorKind}
use Rattle.capnp_words.specs.Meter.{FitsIn, Meter, less, unused}
use Rattle.capnp_format.specs.Means.{Means}
use Rattle.capnp_format.specs.Segments.{Segments}
use Rattle.capnp_format.specs.Tree.{Tree}
use Rattle.capnp_format.proofs.Levels.{one_value}
use Rattle.capnp_arena.specs.declared.arena.reader_arena_impl.ReaderOptions.{ReaderOptions}
use Rattle.capnp_pointers.specs.Extents.{read_extent, value_extent}
use Rattle.capnp_pointers.specs.Metered.{answer, onward}
use Rattle.capnp_pointers.specs.Outcomes.{Reads}
use Rattle.capnp_pointers.specs.Reading.{Reading}
use Rattle.capnp_pointers.specs.Source.{levels}
use Rattle.capnp_pointers.specs.Spending.{after_charge, pointers_in}
use Rattle.capnp_pointers.specs.Values.{value}
use Rattle.capnp_pointers.specs.Wanted.{plain}
use Rattle.capnp_pointers.specs.declared.pointers.validate.Extent.{Extent}
use Rattle.capnp_pointers.proofs.WholeValue.ValueAsStated.{reads_is}
use Rattle.capnp_messages.specs.Extents.{root_extent}
use Rattle.capnp_messages.specs.Messages.{IsReadable, left_of, root_within}
use Rattle.capnp_messages.proofs.CanonLemmas.{covers_rest}
use Rattle.capnp_messages.proofs.ExtentLemmas.{from_root, readable_if}
use Rattle.capnp_messages.proofs.SizeLemmas.{root_is, root_or_not, root_stops}
use Rattle.capnp_refusals.specs.RefusedPointers.{message_searched}
use Rattle.capnp_refusals.specs.Search.{of_values, refused_at, search_on, search_place}
use Rattle.capnp_refusals.specs.declared.refusals.search.RefusedPointer.{RefusedPointer}
use Rattle.capnp_refusals.proofs.Named.{refused_so, search_ends}

module _ (S : Segments) (limits : ReaderOptions) where
  pub readable : {x : Extent} {m : Meter} → root_extent S (levels limits.nesting_limit) (unused limits.traversal_limit_in_words) ≡ (Ok x, m) → IsReadable S limits
  readable e = (readable_if S limits _ (from_root S limits refl e)).0 refl

  pub unreadable : {k : ErrorKind} {m : Meter} → root_extent S (levels limits.nesting_limit) (unused limits.traversal_limit_in_words) ≡ (Err k, m) → IsReadable S limits → ⊥
  unreadable e is = false≢true ((readable_if S limits _ (from_root S limits refl e)).1 is)

  -- what a message takes
  pub taken : {x : Extent} {m : Meter} (t : Tree) (c : ℕ) → root_extent S (levels limits.nesting_limit) (unused limits.traversal_limit_in_words) ≡ (Ok x, m) → Means S (levels limits.nesting_limit) 0 0 t c → FitsIn limits.traversal_limit_in_words (1 + c) × (m.left ≡ less (less limits.traversal_limit_in_words 1) c)
  taken {m = m} t c e means =
      let limit : Option ℕ = limits.traversal_limit_in_words in
      let r : Reading = root_within S limits in
      let is : IsReadable S limits = readable e in
      let same : is.cost ≡ c = (one_value S (levels limits.nesting_limit) (levels limits.nesting_limit) 0 0 is.value t is.cost c is.means means).1 in
      let covered : FitsIn limit (1 + c) = subst (λ n. FitsIn limit (1 + n)) same is.covered in
      let reads : Reads plain r (unused (left_of limits)) (after_charge true (unused (left_of limits)) c (pointers_in t)) t = record { cost = c; means = means; takes = λ other. absurd (other refl); covers = covers_rest limit c covered; spent = refl } in
      let found : root_extent S (levels limits.nesting_limit) (unused limit) ≡ (Ok (value_extent t), after_charge true (unused (left_of limits)) c (pointers_in t)) =
      ap (onward read_extent) (root_is S (levels limits.nesting_limit) limit is.root) ∙ ap (onward (λ u. answer (value_extent u))) (reads_is plain r (unused (left_of limits)) _ t reads) in
      let rest : m.left ≡ less (less limit 1) c = ap (λ o. o.1.left) (sym e ∙ found) in
      (covered, rest)

  -- the pointer that a search of the message finds
  pub searched : (k : ErrorKind) (m : Meter) → root_extent S (levels limits.nesting_limit) (unused limits.traversal_limit_in_words) ≡ (Err k, m) →
      (p : RefusedPointer) × (p.refusal ≡ k) × (message_searched (of_values true) S (levels limits.nesting_limit) (unused limits.traversal_limit_in_words) ≡ (Ok (Some p), m))
  searched k m e = elim (root_or_not S limits.traversal_limit_in_words) [
    | inr (j, refused) ↦
        let stops = root_stops S (levels limits.nesting_limit) limits.traversal_limit_in_words j refused in
        let same : (Err j, unused limits.traversal_limit_in_words) ≡ (Err k, m) = sym (ap (onward read_extent) stops) ∙ e in (
          refused_at r j,
          (let both : Err j ≡ Err k = ap (λ o. o.0) same in cc both),
          ap (search_on r (search_place (of_values true))) stops ∙ ap (λ y. (Ok (Some (refused_at r j)), y)) (ap (λ o. o.1) same),
        )
    | inl covers ↦
        let begins = root_is S (levels limits.nesting_limit) limits.traversal_limit_in_words covers in
        let there = go (value plain r (unused (left_of limits))) refl (sym (ap (onward read_extent) begins) ∙ e) in
        let (p, named, found) = (refused_so _ _ (search_ends true (levels limits.nesting_limit) r (unused (left_of limits))) k m).0 there in
        (p, named, ap (search_on r (search_place (of_values true))) begins ∙ found)
  ]
    where
      r : Reading
      r = root_within S limits

      go : (o : Result Tree ErrorKind × Meter) → value plain r (unused (left_of limits)) ≡ o → read_extent r (unused (left_of limits)) ≡ (Err k, m) → value plain r (unused (left_of limits)) ≡ (Err k, m)
      go (Ok t, n) is f = absurd (let wrong : Ok (value_extent t) ≡ Err k = ap (λ o. o.0) (sym (ap (onward (λ u. answer (value_extent u))) is) ∙ f) in cc wrong)
      go (Err j, n) is f =
          let same : (Err j, n) ≡ (Err k, m) = sym (ap (onward (λ u. answer (value_extent u))) is) ∙ f in
          is ∙ ap₂ (λ x y. (Err x, y)) (let named : Err j ≡ Err k = ap (λ o. o.0) same in cc named) (ap (λ o. o.1) same)

  -- and as the program has it
  pub told : (k : ErrorKind) (m m' : Meter) (o : Option RefusedPointer) → root_extent S (levels limits.nesting_limit) (unused limits.traversal_limit_in_words) ≡ (Err k, m) →
      message_searched (of_values true) S (levels limits.nesting_limit) (unused limits.traversal_limit_in_words) ≡ (Ok o, m') →
      (p : RefusedPointer) × (o ≡ Some p)
      × (message_searched (of_values true) S (levels limits.nesting_limit) (unused limits.traversal_limit_in_words) ≡ (Ok (Some (record { segment = p.segment; word = p.word; refusal = k })), m))
  told k m m' o e f =
      let (p, named, found) = searched k m e in
      let same : Ok o ≡ Ok (Some p) = ap (λ x. x.0) (sym f ∙ found) in
      (p, (let is : o ≡ Some p = cc same in is), found ∙ ap (λ (j : ErrorKind). (Ok (Some (record { segment = p.segment; word = p.word; refusal = j })), m)) named)
