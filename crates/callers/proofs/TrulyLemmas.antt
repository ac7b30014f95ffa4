-- What the steps of edits state about memory.
use Rattle.std.proofs.Common.{◌≡◌, ◌⊎◌, ◌++◌, inl, inr, sym, ℕ, ◌+◌, ◌*◌, ◌-◌, ◌^◌, ◌&&◌, nat_le, nat_lt, ◌<◌, ◌≤◌, Bool, true, false, if◌then◌else◌, List, [], ◌∷◌, length, Option, Some, None, IfSome, IsSomeAnd, refl, ap, ◌∙◌, subst, arith, map}
use Rattle.capnp_words.specs.declared.error.ErrorKind.{ErrorKind}
use Rattle.capnp_words.specs.declared.error.ErrorKind.TheVariants.{AllocationFailed, MessageTooLarge, NoSuchPlace}
use Rattle.capnp_format.specs.Canonical.{word_count}
use Rattle.capnp_format.specs.Forest.{IsForest}
use Rattle.capnp_format.specs.Segments.{segment}
use Rattle.capnp_format.specs.Tree.{Tree, Flat}
use Rattle.capnp_words.specs.Sizes.{size_number}
use Rattle.capnp_allocation.specs.Made.{zero_list, zero_struct, zero_structs}
use Rattle.capnp_arena_traits.specs.Allocations.{max_segment_words}
use Rattle.capnp_arena_traits.specs.Taking.{IsAllocationRefusal}
use Rattle.capnp_arena_traits.specs.View.{View}
use Rattle.capnp_allocation.specs.Memory.{HasRoom, IsRefusedFor}
use Rattle.capnp_format.specs.Path.{node, PathLeads}
use Rattle.capnp_words.specs.Names.{is_allocation_name}
use Rattle.capnp_edits.specs.declared.edit.Edit.{Edit}
use Rattle.capnp_edits.specs.declared.edit.Op.{Op}
use Rattle.capnp_edits.specs.declared.edit.Op.TheVariants.{InitData, InitList, InitStruct, InitStructList, InitText, SetData, SetText}
use Rattle.capnp_edits.specs.Edits.{InTurn, is_of_path, refusals_after}
use Rattle.capnp_edits.specs.Paths.{step_of}
use Rattle.capnp_edits.specs.Steps.{EndsAt, FitsAt, IsStep}
use Rattle.capnp_edits.specs.Tasks.{task_of}
use Rattle.capnp_edits.proofs.Stepped.{step_is_there}
use Rattle.callers.specs.Truly.{AreRefusedTruly, IsRefusedTruly, object_made}

-- only a lack of memory is counted
uncounted : (r : Option ErrorKind) (n : ℕ) → (r ≡ Some AllocationFailed → ⊥) → refusals_after r n ≡ n
uncounted None n other = refl
uncounted (Some AllocationFailed) n other = absurd (other refl)
uncounted (Some _) n other = refl

-- an error of a path isn't an error of memory
no_memory : (k : ErrorKind) → is_of_path k ≡ true → is_allocation_name k ≡ false
no_memory AllocationFailed of_path = absurd (cc)
no_memory (MessageTooLarge n) of_path = absurd (cc)
no_memory _ of_path = refl

-- the number in an error says how much was requested
number : (old new : View) (segments amount n : ℕ) → IsAllocationRefusal old new segments amount (MessageTooLarge n) →
    ((n ≡ amount) × (max_segment_words < n)) ⊎ ((n ≡ 2 ^ 64 - 1) × (segments ≡ 2 ^ 32 - 1))
number old new segments amount n (inl memory) = absurd (let wrong = memory.0 in cc)
number old new segments amount n (inr (inl large)) = inl (let same = large.0 in let is : n ≡ amount = cc in (is, omega (arith, is, large.1)))
number old new segments amount n (inr (inr many)) = inr (let same = many.0 in cc, many.1)

-- what holds for the value of a choice, if its test holds
where_some : {T : Type 0} (b : Bool) (x : T) (P : T → Type 0) → IsSomeAnd (if b then Some x else None) P → P x
where_some true x P h = h
where_some false x P h = absurd h

if_some : {T : Type 0} (b : Bool) (x : T) (P : T → Type 0) → P x → IfSome (if b then Some x else None) P
if_some true x P h = h
if_some false x P h = tt

same_tree : (x y : Tree) → Some x ≡ Some y → x ≡ y
same_tree x y e = cc

no_tree : (y : Tree) → None ≡ Some y → ⊥
no_tree y e = cc

-- an object that an edit makes is refused in the same way as its words
asked_by : (old new : View) (e : Edit) (r : Option ErrorKind) (step : IsStep e r old new) (op : Op) → e.op ≡ op → (object t x : Tree) (s p : ℕ) (k : ErrorKind) → object_made op ≡ Some object → IsForest old.words t →
    PathLeads old.words (node 0 0 t) (map step_of e.path.now) (node s p x) → IsSomeAnd step.path_end (λ place. IsSomeAnd (task_of e.op) (λ task. EndsAt old new task (Some k) place)) → IsRefusedFor old new (word_count object) k
asked_by old new e r step (InitStruct size) same object t x s p k is forest leads named =
    let there = step_is_there old new e r t x s p step forest leads in
    let by = subst (λ (o : Op). IsSomeAnd step.path_end (λ place. IsSomeAnd (task_of o) (λ task. EndsAt old new task (Some k) place))) same named in
    let h = subst (λ o. IsSomeAnd o (λ place. IsSomeAnd (task_of (InitStruct size)) (λ task. EndsAt old new task (Some k) place))) there by in
    subst (λ (o : Tree). IsRefusedFor old new (word_count o) k) (same_tree (zero_struct size) object is) (h.0, h.1)
asked_by old new e r step (InitList size n) same object t x s p k is forest leads named =
    let there = step_is_there old new e r t x s p step forest leads in
    let by = subst (λ (o : Op). IsSomeAnd step.path_end (λ place. IsSomeAnd (task_of o) (λ task. EndsAt old new task (Some k) place))) same named in
    let h = subst (λ o. IsSomeAnd o (λ place. IsSomeAnd (task_of (InitList size n)) (λ task. EndsAt old new task (Some k) place))) there by in
    let v = where_some (nat_le (size_number size) 6 && nat_lt n (2 ^ 29)) _ _ h in
    subst (λ (o : Tree). IsRefusedFor old new (word_count o) k) (same_tree (zero_list (size_number size) n) object is) (v.0, v.1)
asked_by old new e r step (InitStructList n size) same object t x s p k is forest leads named =
    let there = step_is_there old new e r t x s p step forest leads in
    let by = subst (λ (o : Op). IsSomeAnd step.path_end (λ place. IsSomeAnd (task_of o) (λ task. EndsAt old new task (Some k) place))) same named in
    let h = subst (λ o. IsSomeAnd o (λ place. IsSomeAnd (task_of (InitStructList n size)) (λ task. EndsAt old new task (Some k) place))) there by in
    let v = where_some (nat_lt n (2 ^ 30) && nat_lt (n * (size.data_words + size.pointers)) (2 ^ 29)) _ _ h in
    subst (λ (o : Tree). IsRefusedFor old new (word_count o) k) (same_tree (zero_structs n size) object is) (v.0, v.1)
asked_by old new e r step (InitText n) same object t x s p k is forest leads named =
    let there = step_is_there old new e r t x s p step forest leads in
    let by = subst (λ (o : Op). IsSomeAnd step.path_end (λ place. IsSomeAnd (task_of o) (λ task. EndsAt old new task (Some k) place))) same named in
    let h = subst (λ o. IsSomeAnd o (λ place. IsSomeAnd (task_of (InitText n)) (λ task. EndsAt old new task (Some k) place))) there by in
    let v = where_some (nat_lt (n + 1) (2 ^ 29)) _ _ h in
    subst (λ (o : Tree). IsRefusedFor old new (word_count o) k) (same_tree (zero_list 2 (n + 1)) object is) (v.0, v.1)
asked_by old new e r step (InitData n) same object t x s p k is forest leads named =
    let there = step_is_there old new e r t x s p step forest leads in
    let by = subst (λ (o : Op). IsSomeAnd step.path_end (λ place. IsSomeAnd (task_of o) (λ task. EndsAt old new task (Some k) place))) same named in
    let h = subst (λ o. IsSomeAnd o (λ place. IsSomeAnd (task_of (InitData n)) (λ task. EndsAt old new task (Some k) place))) there by in
    let v = where_some (nat_lt n (2 ^ 29)) _ _ h in
    subst (λ (o : Tree). IsRefusedFor old new (word_count o) k) (same_tree (zero_list 2 n) object is) (v.0, v.1)
asked_by old new e r step (SetText bytes) same object t x s p k is forest leads named =
    let there = step_is_there old new e r t x s p step forest leads in
    let by = subst (λ (o : Op). IsSomeAnd step.path_end (λ place. IsSomeAnd (task_of o) (λ task. EndsAt old new task (Some k) place))) same named in
    let h = subst (λ o. IsSomeAnd o (λ place. IsSomeAnd (task_of (SetText bytes)) (λ task. EndsAt old new task (Some k) place))) there by in
    let v = where_some (nat_lt (length bytes.now + 1) (2 ^ 29)) _ _ h in
    subst (λ (o : Tree). IsRefusedFor old new (word_count o) k) (same_tree (Flat 2 (bytes.now ++ 0 ∷ [])) object is) (v.0, v.1)
asked_by old new e r step (SetData bytes) same object t x s p k is forest leads named =
    let there = step_is_there old new e r t x s p step forest leads in
    let by = subst (λ (o : Op). IsSomeAnd step.path_end (λ place. IsSomeAnd (task_of o) (λ task. EndsAt old new task (Some k) place))) same named in
    let h = subst (λ o. IsSomeAnd o (λ place. IsSomeAnd (task_of (SetData bytes)) (λ task. EndsAt old new task (Some k) place))) there by in
    let v = where_some (nat_lt (length bytes.now) (2 ^ 29)) _ _ h in
    subst (λ (o : Tree). IsRefusedFor old new (word_count o) k) (same_tree (Flat 2 bytes.now) object is) (v.0, v.1)
asked_by old new e r step _ same object t x s p k is forest leads named = absurd (no_tree object is)

-- and has room if its words have
fits_by : (old new : View) (e : Edit) (r : Option ErrorKind) (step : IsStep e r old new) (op : Op) → e.op ≡ op → (object t x : Tree) (s p : ℕ) → object_made op ≡ Some object → IsForest old.words t →
    PathLeads old.words (node 0 0 t) (map step_of e.path.now) (node s p x) → length (segment old.words s) + word_count object ≤ old.room s →
    IfSome step.path_end (λ place. IfSome (task_of e.op) (λ task. FitsAt old task place))
fits_by old new e r step (InitStruct size) same object t x s p is forest leads fits =
    let there = step_is_there old new e r t x s p step forest leads in
    let near = subst (λ (o : Tree). length (segment old.words s) + word_count o ≤ old.room s) (sym (same_tree (zero_struct size) object is)) fits in
    subst (λ (o : Op). IfSome step.path_end (λ place. IfSome (task_of o) (λ task. FitsAt old task place))) (sym same)
    (subst (λ o. IfSome o (λ place. IfSome (task_of (InitStruct size)) (λ task. FitsAt old task place))) (sym there) (inl near))
fits_by old new e r step (InitList size n) same object t x s p is forest leads fits =
    let there = step_is_there old new e r t x s p step forest leads in
    let near = subst (λ (o : Tree). length (segment old.words s) + word_count o ≤ old.room s) (sym (same_tree (zero_list (size_number size) n) object is)) fits in
    let room : HasRoom old s (word_count (zero_list (size_number size) n)) = inl near in
    subst (λ (o : Op). IfSome step.path_end (λ place. IfSome (task_of o) (λ task. FitsAt old task place))) (sym same)
    (subst (λ o. IfSome o (λ place. IfSome (task_of (InitList size n)) (λ task. FitsAt old task place))) (sym there) (if_some (nat_le (size_number size) 6 && nat_lt n (2 ^ 29)) _ _ room))
fits_by old new e r step (InitStructList n size) same object t x s p is forest leads fits =
    let there = step_is_there old new e r t x s p step forest leads in
    let near = subst (λ (o : Tree). length (segment old.words s) + word_count o ≤ old.room s) (sym (same_tree (zero_structs n size) object is)) fits in
    let room : HasRoom old s (word_count (zero_structs n size)) = inl near in
    subst (λ (o : Op). IfSome step.path_end (λ place. IfSome (task_of o) (λ task. FitsAt old task place))) (sym same)
    (subst (λ o. IfSome o (λ place. IfSome (task_of (InitStructList n size)) (λ task. FitsAt old task place))) (sym there) (if_some (nat_lt n (2 ^ 30) && nat_lt (n * (size.data_words + size.pointers)) (2 ^ 29)) _ _ room))
fits_by old new e r step (InitText n) same object t x s p is forest leads fits =
    let there = step_is_there old new e r t x s p step forest leads in
    let near = subst (λ (o : Tree). length (segment old.words s) + word_count o ≤ old.room s) (sym (same_tree (zero_list 2 (n + 1)) object is)) fits in
    let room : HasRoom old s (word_count (zero_list 2 (n + 1))) = inl near in
    subst (λ (o : Op). IfSome step.path_end (λ place. IfSome (task_of o) (λ task. FitsAt old task place))) (sym same)
    (subst (λ o. IfSome o (λ place. IfSome (task_of (InitText n)) (λ task. FitsAt old task place))) (sym there) (if_some (nat_lt (n + 1) (2 ^ 29)) _ _ room))
fits_by old new e r step (InitData n) same object t x s p is forest leads fits =
    let there = step_is_there old new e r t x s p step forest leads in
    let near = subst (λ (o : Tree). length (segment old.words s) + word_count o ≤ old.room s) (sym (same_tree (zero_list 2 n) object is)) fits in
    let room : HasRoom old s (word_count (zero_list 2 n)) = inl near in
    subst (λ (o : Op). IfSome step.path_end (λ place. IfSome (task_of o) (λ task. FitsAt old task place))) (sym same)
    (subst (λ o. IfSome o (λ place. IfSome (task_of (InitData n)) (λ task. FitsAt old task place))) (sym there) (if_some (nat_lt n (2 ^ 29)) _ _ room))
fits_by old new e r step (SetText bytes) same object t x s p is forest leads fits =
    let there = step_is_there old new e r t x s p step forest leads in
    let near = subst (λ (o : Tree). length (segment old.words s) + word_count o ≤ old.room s) (sym (same_tree (Flat 2 (bytes.now ++ 0 ∷ [])) object is)) fits in
    let room : HasRoom old s (word_count (Flat 2 (bytes.now ++ 0 ∷ []))) = inl near in
    subst (λ (o : Op). IfSome step.path_end (λ place. IfSome (task_of o) (λ task. FitsAt old task place))) (sym same)
    (subst (λ o. IfSome o (λ place. IfSome (task_of (SetText bytes)) (λ task. FitsAt old task place))) (sym there) (if_some (nat_lt (length bytes.now + 1) (2 ^ 29)) _ _ room))
fits_by old new e r step (SetData bytes) same object t x s p is forest leads fits =
    let there = step_is_there old new e r t x s p step forest leads in
    let near = subst (λ (o : Tree). length (segment old.words s) + word_count o ≤ old.room s) (sym (same_tree (Flat 2 bytes.now) object is)) fits in
    let room : HasRoom old s (word_count (Flat 2 bytes.now)) = inl near in
    subst (λ (o : Op). IfSome step.path_end (λ place. IfSome (task_of o) (λ task. FitsAt old task place))) (sym same)
    (subst (λ o. IfSome o (λ place. IfSome (task_of (SetData bytes)) (λ task. FitsAt old task place))) (sym there) (if_some (nat_lt (length bytes.now) (2 ^ 29)) _ _ room))
fits_by old new e r step _ same object t x s p is forest leads fits = absurd (no_tree object is)

-- a step that isn't refused with NoSuchPlace has a place and a task
both_some : {A B : Type 0} (o : Option A) (w : Option B) (P : A → B → Type 0) → (o ≡ None → ⊥) → (w ≡ None → ⊥) → IfSome o (λ x. IfSome w (P x)) → IsSomeAnd o (λ x. IsSomeAnd w (P x))
both_some (Some x) (Some y) P some has h = h
both_some (Some x) None P some has h = absurd (has refl)
both_some None w P some has h = absurd (some refl)

other_name : (n : ℕ) → Some (MessageTooLarge n) ≡ Some NoSuchPlace → ⊥
other_name n e = cc

step_truly : (old new : View) (e : Edit) (r : Option ErrorKind) → IsStep e r old new → IsRefusedTruly old new e r
step_truly old new e r step = record {
  counted = λ is. step.counted ∙ ap (λ (o : Option ErrorKind). refusals_after o old.refusals) is;
  others = λ other. step.counted ∙ uncounted r old.refusals other;
  fits = λ object t x s p is forest leads fits k refused. no_memory k (step.fits (fits_by old new e r step e.op refl object t x s p is forest leads fits) k refused);
  asked = λ object t x s p n is forest leads refused.
      (let wrong : r ≡ Some NoSuchPlace → ⊥ = λ e. other_name n (sym refused ∙ e) in
      let ends = subst (λ q. IfSome step.path_end (λ place. IfSome (task_of e.op) (λ task. EndsAt old new task q place))) refused (step.ends wrong) in
      let there = both_some step.path_end (task_of e.op) (λ place task. EndsAt old new task (Some (MessageTooLarge n)) place) (λ none. wrong (step.missing none)) (λ none. wrong (step.out_of_range none)) ends in
      number old new (length old.words) (word_count object + 1) n
      (asked_by old new e r step e.op refl object t x s p (MessageTooLarge n) is forest leads there).0);
}

pub steps_truly : (old new : View) (es : List Edit) (rs : List (Option ErrorKind)) → InTurn IsStep es rs old new → AreRefusedTruly old new es rs
steps_truly old new [] [] steps = steps
steps_truly old new [] (r ∷ rs) steps = absurd steps
steps_truly old new (e ∷ es) [] steps = absurd steps
steps_truly old new (e ∷ es) (r ∷ rs) (mid, first, rest) = (mid, step_truly old mid e r first, steps_truly mid new es rs rest)
