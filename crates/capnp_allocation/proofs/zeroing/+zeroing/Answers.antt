use Rattle.std.proofs.Common.{◌≡◌, ◌≢◌, ℕ, suc, ◌+◌, ◌*◌, ◌≤◌, length, None, Some, sym, ap₂, ◌∙◌, le_refl, le_antisymm, refl, [], rules, ap}
use Rattle.capnp_format.specs.Word.{kind}
use Rattle.capnp_format.specs.Segments.{Segments, segment, word_at, Target, leads}
use Rattle.capnp_allocation.specs.Landings.{target_of}
use Rattle.capnp_allocation.proofs.Memory.{words_in, limits_written, limits_again}
use Rattle.capnp_allocation.proofs.Zeros.{nonzeros, word_zeroed, fewer, falls_below, falls_first, nothing_zeroed, pruned_itself, pruned_again, zero_stays, here_once}
use Rattle.capnp_allocation.proofs.Below.{none_done, next_done, all_done, struct_done}
use Rattle.capnp_allocation.proofs.BelowElements.{next_element_done, elements_done, no_pointers, structs_zeroed, list_outside}
use Rattle.capnp_allocation.proofs.WordsInside.{place_in, start_fits, too_many, too_short, row_place, row_end, row_wide, row_after, less_as, none_above, first_place, none_before, product_small, product_fits, tag_fits, end_fits, behind_tag, list_inside, list_beyond}
use Rattle.capnp_allocation.proofs.Objects.{object_done, nowhere_apart, null_done, landed_struct, landed_pointers, landed_structs}
use Rattle.capnp_allocation.proofs.zeroing.+zeroing.Goals as goal

-- A zero word means Null.
pub zero_object-returns-then-is_null-clause-zeroes : goal.zero_object-returns-then-is_null-clause-zeroes
zero_object-returns-then-is_null-clause-zeroes g t c =
    let S : Segments = (g.A.BuilderArena.view c.args.arena.now).words in
    let none : word_at S c.args.id c.args.at ≡ 0 = search rules in
    record { zeroed = λ u a. null_done S c.args.id c.args.at u none a; pruned = pruned_itself S; limits = refl }

-- There is one nonzero word fewer.
pub zero_object-zero_target-requires : goal.zero_object-zero_target-requires
zero_object-zero_target-requires g t c κs within =
    let S : Segments = (g.A.BuilderArena.view c.args.arena.now).words in
    let R : Segments = (g.A.BuilderArena.view c.set_word.new.arena).words in
    let some : word_at S c.args.id c.args.at ≢ 0 = search rules in
    let w = word_zeroed S R c.args.id c.args.at c.requires (ap words_in c.set_word.ensures) in
    let less : suc (nonzeros R) ≡ nonzeros S = w.2 some in
    search rules

pub zero_object-returns-in-Some-clause-zeroes : goal.zero_object-returns-in-Some-clause-zeroes
zero_object-returns-in-Some-clause-zeroes g t c =
    let S : Segments = (g.A.BuilderArena.view c.args.arena.now).words in
    let R : Segments = (g.A.BuilderArena.view c.set_word.new.arena).words in
    let some : word_at S c.args.id c.args.at ≢ 0 = search rules in
    let goes : (a : Target) → leads S c.args.id c.args.at ≡ Some a → Some (target_of c.in-Some.landing) ≡ Some a = λ a e. rw c.in-Some.is at (c.follow-landing.ensures a e) in
    let first = word_zeroed S R c.args.id c.args.at c.requires (ap words_in c.set_word.ensures) in
    record {
      zeroed = λ u a. object_done S R (g.A.BuilderArena.view c.zero_target.new.arena).words (g.A.BuilderArena.view c.zero_pads.new.arena).words c.args.id c.args.at u (target_of c.in-Some.landing) some goes
          first.0 c.zero_target.ensures.zeroed (rw c.get_word.ensures at c.zero_pads.ensures.zeroed) a;
      pruned = pruned_again _ _ _ first.1 (pruned_again _ _ _ c.zero_target.ensures.pruned c.zero_pads.ensures.pruned);
      limits = limits_again (g.A.BuilderArena.view c.args.arena.now) (g.A.BuilderArena.view c.set_word.new.arena) (g.A.BuilderArena.view c.zero_pads.new.arena) (limits_written (g.A.BuilderArena.view c.args.arena.now) (g.A.BuilderArena.view c.set_word.new.arena) _ c.set_word.ensures)
          (limits_again (g.A.BuilderArena.view c.set_word.new.arena) (g.A.BuilderArena.view c.zero_target.new.arena) (g.A.BuilderArena.view c.zero_pads.new.arena) c.zero_target.ensures.limits c.zero_pads.ensures.limits);
    }

pub zero_object-returns-in-None-clause-zeroes : goal.zero_object-returns-in-None-clause-zeroes
zero_object-returns-in-None-clause-zeroes g t c =
    let S : Segments = (g.A.BuilderArena.view c.args.arena.now).words in
    let some : word_at S c.args.id c.args.at ≢ 0 = search rules in
    let goes : (a : Target) → leads S c.args.id c.args.at ≡ Some a → None ≡ Some a = λ a e. rw c.in-None.is at (c.follow-landing.ensures a e) in
    record {
      zeroed = λ u a. absurd (nowhere_apart S c.args.id c.args.at u some goes a);
      pruned = (word_zeroed S (g.A.BuilderArena.view c.set_word.new.arena).words c.args.id c.args.at c.requires (ap words_in c.set_word.ensures)).1;
      limits = limits_written (g.A.BuilderArena.view c.args.arena.now) (g.A.BuilderArena.view c.set_word.new.arena) _ c.set_word.ensures;
    }

-- The pointer is zero once it was written, and stays zero.
pub zero_object-returns-in-Some-clause-null : goal.zero_object-returns-in-Some-clause-null
zero_object-returns-in-Some-clause-null g t c =
    let S : Segments = (g.A.BuilderArena.view c.args.arena.now).words in
    let R : Segments = (g.A.BuilderArena.view c.set_word.new.arena).words in
    let first : word_at R c.args.id c.args.at ≡ 0 = (word_zeroed S R c.args.id c.args.at c.requires (ap words_in c.set_word.ensures)).0.zero c.args.id c.args.at (here_once c.args.id c.args.at) in
    zero_stays R _ c.args.id c.args.at (pruned_again _ _ _ c.zero_target.ensures.pruned c.zero_pads.ensures.pruned) first

pub zero_object-returns-in-None-clause-null : goal.zero_object-returns-in-None-clause-null
zero_object-returns-in-None-clause-null g t c =
    let S : Segments = (g.A.BuilderArena.view c.args.arena.now).words in
    let R : Segments = (g.A.BuilderArena.view c.set_word.new.arena).words in
    (word_zeroed S R c.args.id c.args.at c.requires (ap words_in c.set_word.ensures)).0.zero c.args.id c.args.at (here_once c.args.id c.args.at)

pub zero_target-returns-in-Struct : goal.zero_target-returns-in-Struct
zero_target-returns-in-Struct g t c =
    let S : Segments = (g.A.BuilderArena.view c.args.arena.now).words in
    let a : Target = target_of c.args.landing in
    let is_struct : kind a.word ≡ 0 = search rules in
    record { zeroed = λ u o. landed_struct S _ a c.struct_size.result.data_words c.struct_size.result.pointers u is_struct c.struct_size.ensures.data_of c.struct_size.ensures.pointers_of c.zero_struct.ensures.zeroed o; pruned = c.zero_struct.ensures.pruned; limits = c.zero_struct.ensures.limits }

pub zero_target-returns-in-InlineComposite : goal.zero_target-returns-in-InlineComposite
zero_target-returns-in-InlineComposite g t c =
    let S : Segments = (g.A.BuilderArena.view c.args.arena.now).words in
    let a : Target = target_of c.args.landing in
    let is_list : kind a.word ≡ 1 = search rules in
    record { zeroed = λ u o. landed_structs S _ a u is_list (search rules) c.zero_struct_list.ensures.zeroed o; pruned = c.zero_struct_list.ensures.pruned; limits = c.zero_struct_list.ensures.limits }

pub zero_target-returns-in-Pointer : goal.zero_target-returns-in-Pointer
zero_target-returns-in-Pointer g t c =
    let S : Segments = (g.A.BuilderArena.view c.args.arena.now).words in
    let a : Target = target_of c.args.landing in
    let is_list : kind a.word ≡ 1 = search rules in
    record { zeroed = λ u o. landed_pointers S _ a c.list_element_count-count.result u is_list (search rules) c.list_element_count-count.ensures.value c.zero_pointers.ensures.zeroed o; pruned = c.zero_pointers.ensures.pruned; limits = c.zero_pointers.ensures.limits }

pub zero_pointers-loop-i-preserved : goal.zero_pointers-loop-i-preserved
zero_pointers-loop-i-preserved g t c =
    let S : Segments = (g.A.BuilderArena.view c.args.arena.now).words in
    record {
      zeroed = λ ts n a. next_done S (g.A.BuilderArena.view c.loop-i.arena).words _ c.args.id c.args.start c.loop-i.i ts (less_as n c.loop-i-test.true) a (c.loop-i.invariant.zeroed ts n a) c.zero_object.ensures.zeroes.zeroed;
      pruned = pruned_again _ _ _ c.loop-i.invariant.pruned c.zero_object.ensures.zeroes.pruned;
      limits = limits_again (g.A.BuilderArena.view c.args.arena.now) (g.A.BuilderArena.view c.loop-i.arena) (g.A.BuilderArena.view c.zero_object.new.arena) c.loop-i.invariant.limits c.zero_object.ensures.zeroes.limits;
    }

pub zero_pointers-returns-after-loop-i : goal.zero_pointers-returns-after-loop-i
zero_pointers-returns-after-loop-i g t c =
    let all : c.loop-i.i ≡ c.args.count = le_antisymm c.loop-i.auto.i-end c.loop-i-test.false in
    record {
      zeroed = λ ts (n, fits, a). rw n at (all_done (g.A.BuilderArena.view c.args.arena.now).words (g.A.BuilderArena.view c.loop-i.arena).words c.args.id c.args.start ts (rw (all, sym n) at (c.loop-i.invariant.zeroed ts n a)));
      pruned = c.loop-i.invariant.pruned;
      limits = c.loop-i.invariant.limits;
    }

pub zero_elements-loop-i-preserved : goal.zero_elements-loop-i-preserved
zero_elements-loop-i-preserved g t c =
    let S : Segments = (g.A.BuilderArena.view c.args.arena.now).words in
    let K : Segments = (g.A.BuilderArena.view c.loop-i.arena).words in
    let d : ℕ = c.args.size.data_words in
    let q : ℕ = c.args.size.pointers in
    let wide : c.loop-i.at + d + q ≤ length (segment K c.args.id) = row_wide c.args.start d q c.loop-i.invariant.place c.requires c.loop-i-test.true (c.loop-i.invariant.pruned.words c.args.id) in
    let is_d : c.from-at.result ≡ d = c.from-at.ensures in
    let is_q : c.from-at-in-loop-i.result ≡ q = c.from-at-in-loop-i.ensures in
    let pointers = rw (is_d, c.from.ensures) at c.zero_pointers.ensures.zeroed in
    record {
      zeroed = λ es n a. rw (is_d, is_q) (next_element_done S K _ c.args.id c.args.start d q c.loop-i.at c.loop-i.i es (less_as n c.loop-i-test.true) c.loop-i.invariant.place a (c.loop-i.invariant.zeroed es n a) (λ ts m b. pointers ts (m, wide, b)));
      place = row_after c.args.start c.loop-i.i c.loop-i.invariant.place is_d is_q;
      pruned = pruned_again _ _ _ c.loop-i.invariant.pruned c.zero_pointers.ensures.pruned;
      limits = limits_again (g.A.BuilderArena.view c.args.arena.now) (g.A.BuilderArena.view c.loop-i.arena) (g.A.BuilderArena.view c.zero_pointers.new.arena) c.loop-i.invariant.limits c.zero_pointers.ensures.limits;
    }

pub zero_elements-returns-after-loop-i : goal.zero_elements-returns-after-loop-i
zero_elements-returns-after-loop-i g t c =
    let all : c.loop-i.i ≡ c.args.count = le_antisymm c.loop-i.auto.i-end c.loop-i-test.false in
    record {
      zeroed = λ es (n, a). elements_done _ _ _ _ _ _ _ es (rw (all, sym n) at (c.loop-i.invariant.zeroed es n a));
      pruned = c.loop-i.invariant.pruned;
      limits = c.loop-i.invariant.limits;
    }

pub zero_elements-returns-else-size-gt0 : goal.zero_elements-returns-else-size-gt0
zero_elements-returns-else-size-gt0 g t c =
    let none : c.args.size.pointers ≡ 0 = none_above c.if-size-gt0.false in
    record {
      zeroed = λ es (n, a). rw none (let m = a.mean in no_pointers _ m.0 _ _ _ es m.1 (rw none at m.2));
      pruned = pruned_itself (g.A.BuilderArena.view c.args.arena.now).words;
      limits = refl;
    }

pub zero_struct_list-returns-then-from-words : goal.zero_struct_list-returns-then-from-words
zero_struct_list-returns-then-from-words g t c =
    let S : Segments = (g.A.BuilderArena.view c.args.arena.now).words in
    let K : Segments = (g.A.BuilderArena.view c.zero_elements.new.arena).words in
    let n : ℕ = c.inline_composite_list_element_count-count.result in
    let wide : 1 + c.from.result * c.from-2.result ≡ 1 + n * (c.struct_size-size.result.data_words + c.struct_size-size.result.pointers) = ap₂ (λ x y. 1 + x * y) c.from.ensures (c.from-2.ensures ∙ c.total.ensures) in
    record {
      zeroed = structs_zeroed S K _ c.args.id c.args.start c.pointer_word-tag.result.0 n c.struct_size-size.result.data_words c.struct_size-size.result.pointers _ c.inline_composite_list_element_count-count.ensures.value
          c.struct_size-size.ensures.data_of c.struct_size-size.ensures.pointers_of wide (c.zero_elements.ensures.pruned.words c.args.id) c.zero_elements.ensures.zeroed c.zero_if_inside.ensures.zeroed c.pointer_word-tag.ensures;
      pruned = pruned_again _ _ _ c.zero_elements.ensures.pruned c.zero_if_inside.ensures.pruned;
      limits = limits_again (g.A.BuilderArena.view c.args.arena.now) (g.A.BuilderArena.view c.zero_elements.new.arena) (g.A.BuilderArena.view c.zero_if_inside.new.arena) c.zero_elements.ensures.limits c.zero_if_inside.ensures.limits;
    }

-- A call for a pointer, or for fewer words, is below the call that makes it, since there are no
-- more nonzero words.

pub zero_elements-zero_pointers-requires : goal.zero_elements-zero_pointers-requires
zero_elements-zero_pointers-requires g t c κs within = (falls_below 1 0 (fewer _ _ c.loop-i.invariant.pruned) c.decreases, within)

pub zero_pointers-zero_object-requires : goal.zero_pointers-zero_object-requires
zero_pointers-zero_object-requires g t c κs within =
    (falls_first 0 (fewer _ _ c.loop-i.invariant.pruned) c.decreases, (within, place_in c.from.ensures c.from-2.ensures (c.from-3.ensures ∙ c.segment_length.ensures) c.if-from.true c.loop-i-test.true (c.loop-i.invariant.pruned.words c.args.id)))

pub zero_struct-zero_pointers-requires : goal.zero_struct-zero_pointers-requires
zero_struct-zero_pointers-requires g t c κs within = (falls_below 1 1 (le_refl _) c.decreases, within)

pub zero_struct_list-zero_elements-requires : goal.zero_struct_list-zero_elements-requires
zero_struct_list-zero_elements-requires g t c κs within =
    let n : ℕ = c.inline_composite_list_element_count-count.result in
    let wide : 1 + c.from.result * c.from-2.result ≡ 1 + n * (c.struct_size-size.result.data_words + c.struct_size-size.result.pointers) = ap₂ (λ x y. 1 + x * y) c.from.ensures (c.from-2.ensures ∙ c.total.ensures) in
    (falls_below 2 0 (le_refl _) c.decreases, (within, list_inside _ c.from-3.ensures wide (c.from-4.ensures ∙ c.segment_length.ensures) c.if-from-words.true))

-- Counts and positions fit their numbers.

pub zero_elements-overflow_add-at : goal.zero_elements-overflow_add-at
zero_elements-overflow_add-at g t c =
    let now = c.args.arena.now in
    record { fits = row_place c.args.start c.args.size.pointers c.loop-i.invariant.place c.requires c.loop-i-test.true (g.met.A.BuilderArena.within now c.args.id) (g.met.A.BuilderArena.small now c.args.id) c.from-at.ensures }

pub zero_elements-overflow_add-at-in-loop-i : goal.zero_elements-overflow_add-at-in-loop-i
zero_elements-overflow_add-at-in-loop-i g t c =
    let now = c.args.arena.now in
    record { fits = row_end c.args.start c.loop-i.invariant.place c.requires c.loop-i-test.true (g.met.A.BuilderArena.within now c.args.id) (g.met.A.BuilderArena.small now c.args.id) c.from-at.ensures c.from-at-in-loop-i.ensures }

pub zero_pointers-overflow_add-start : goal.zero_pointers-overflow_add-start
zero_pointers-overflow_add-start g t c = record { fits = start_fits c.from.ensures c.from-2.ensures c.from-3.ensures c.segment_length.type_inv c.if-from.true c.loop-i-test.true }

pub zero_struct_list-overflow_mul-words : goal.zero_struct_list-overflow_mul-words
zero_struct_list-overflow_mul-words g t c = record { fits = product_fits _ (product_small c.from.ensures c.inline_composite_list_element_count-count.ensures.few c.from-2.ensures c.total.type_inv) }

pub zero_struct_list-overflow_add-words : goal.zero_struct_list-overflow_add-words
zero_struct_list-overflow_add-words g t c = record { fits = tag_fits _ (product_small c.from.ensures c.inline_composite_list_element_count-count.ensures.few c.from-2.ensures c.total.type_inv) }

pub zero_struct_list-overflow_add-from : goal.zero_struct_list-overflow_add-from
zero_struct_list-overflow_add-from g t c = record { fits = end_fits _ c.from-3.ensures c.ranges.start.fits (product_small c.from.ensures c.inline_composite_list_element_count-count.ensures.few c.from-2.ensures c.total.type_inv) }

pub zero_struct_list-overflow_add-start : goal.zero_struct_list-overflow_add-start
zero_struct_list-overflow_add-start g t c = record { fits = behind_tag _ c.from-3.ensures c.from-4.ensures c.segment_length.type_inv c.if-from-words.true }

-- At first nothing below is zeroed yet.

pub zero_pointers-loop-i-init : goal.zero_pointers-loop-i-init
zero_pointers-loop-i-init g t c = record {
  zeroed = λ ts _ _. none_done (g.A.BuilderArena.view c.args.arena.now).words c.args.id c.args.start ts;
  pruned = pruned_itself (g.A.BuilderArena.view c.args.arena.now).words;
  limits = refl;
}

pub zero_elements-loop-i-init : goal.zero_elements-loop-i-init
zero_elements-loop-i-init g t c = record {
  zeroed = λ es _ _. ([], nothing_zeroed (g.A.BuilderArena.view c.args.arena.now).words, λ v r. none_before _);
  place = first_place c.args.start _;
  pruned = pruned_itself (g.A.BuilderArena.view c.args.arena.now).words;
  limits = refl;
}

-- If the words aren't inside their segment, there is no object.

pub zero_pointers-returns-else-from : goal.zero_pointers-returns-else-from
zero_pointers-returns-else-from g t c = record {
  zeroed = λ ts (n, fits, a). absurd (too_many c.from.ensures c.from-2.ensures (c.from-3.ensures ∙ c.segment_length.ensures) c.if-from.false fits);
  pruned = pruned_itself (g.A.BuilderArena.view c.args.arena.now).words;
  limits = refl;
}

pub zero_struct-returns-else-pointers-from : goal.zero_struct-returns-else-pointers-from
zero_struct-returns-else-pointers-from g t c = record {
  zeroed = λ ts (n, fits, a). absurd (too_short c.from.ensures c.from-2.ensures c.from-3.ensures (c.from-4.ensures ∙ c.segment_length.ensures) c.if-pointers-from.false fits);
  pruned = pruned_itself (g.A.BuilderArena.view c.args.arena.now).words;
  limits = refl;
}

pub zero_struct-returns-then-pointers-from : goal.zero_struct-returns-then-pointers-from
zero_struct-returns-then-pointers-from g t c =
    let S : Segments = (g.A.BuilderArena.view c.args.arena.now).words in
    let K : Segments = (g.A.BuilderArena.view c.zero_pointers.new.arena).words in
    record {
      zeroed = λ ts (n, fits, a). struct_done S K _ c.args.id c.args.start c.args.size.data_words c.args.size.pointers ts (ap₂ (λ x y. x + y) c.from.ensures c.from-2.ensures) c.from-then-pointers-from.ensures (c.from-then-pointers-from-2.ensures ∙ c.total.ensures) n fits a
          (c.zero_pointers.ensures.pruned.words c.args.id) c.zero_pointers.ensures.zeroed c.zero_if_inside.ensures.zeroed;
      pruned = pruned_again _ _ _ c.zero_pointers.ensures.pruned c.zero_if_inside.ensures.pruned;
      limits = limits_again (g.A.BuilderArena.view c.args.arena.now) (g.A.BuilderArena.view c.zero_pointers.new.arena) (g.A.BuilderArena.view c.zero_if_inside.new.arena) c.zero_pointers.ensures.limits c.zero_if_inside.ensures.limits;
    }

pub zero_struct_list-returns-else-from-words : goal.zero_struct_list-returns-else-from-words
zero_struct_list-returns-else-from-words g t c =
    let S : Segments = (g.A.BuilderArena.view c.args.arena.now).words in
    let n : ℕ = c.inline_composite_list_element_count-count.result in
    let wide : 1 + c.from.result * c.from-2.result ≡ 1 + n * (c.struct_size-size.result.data_words + c.struct_size-size.result.pointers) = ap₂ (λ x y. 1 + x * y) c.from.ensures (c.from-2.ensures ∙ c.total.ensures) in
    let out = list_beyond _ c.from-3.ensures (c.from-4.ensures ∙ c.segment_length.ensures) c.if-from-words.false in
    record {
      zeroed = λ u a. absurd (list_outside S c.args.id c.args.start c.pointer_word-tag.result.0 n c.struct_size-size.result.data_words c.struct_size-size.result.pointers _ c.inline_composite_list_element_count-count.ensures.value
          c.struct_size-size.ensures.data_of c.struct_size-size.ensures.pointers_of wide out c.pointer_word-tag.ensures u a);
      pruned = pruned_itself S;
      limits = refl;
    }
