-- The count of the words that a copy makes has those of the value that a reading returns, or they
-- are more than the room; and it is refused as that reading is.
use Rattle.std.proofs.Common.{◌≡◌, ◌⊎◌, inl, inr, ℕ, zero, suc, pred, ◌+◌, ◌*◌, ◌<◌, ◌≤◌, max, Bool, true, false, nat_eq, nat_le, List, Option, Result, Ok, Err, length, refl, sym, ap, ap₂, ◌∙◌, subst, arith, add-zero, eq-eqb, le-leb, length-take}
use Rattle.std.proofs.lemmas.Bool.{ne_eqb, cases_lt}
use Rattle.capnp_words.specs.declared.error.ErrorKind.{ErrorKind}
use Rattle.capnp_words.specs.declared.error.ErrorKind.TheVariants.{CannotCreateACanonicalMessageWithACapability, MessageTooLarge}
use Rattle.capnp_words.specs.Meter.{Meter, unused}
use Rattle.capnp_format.specs.Numbers.{words_for, unpacked}
use Rattle.capnp_format.specs.Word.{kind, data_words, pointer_count, element_size, list_count, offset_bits, upper_half}
use Rattle.capnp_format.specs.Segments.{Segments, Target, segment}
use Rattle.capnp_format.specs.Tree.{Tree, Null, Capability, Struct, Flat, Pointers, Structs, Trees, no_trees, tree, Elements, no_elements, element, count, element_count}
use Rattle.capnp_format.specs.Canonical.{used_from, used_words, used_trees, is_null, take_trees, data_width, pointer_width, cut_to, trim, trim_each, trim_elements, word_count, word_count_all, word_count_elements}
use Rattle.capnp_format.proofs.Trimming.{used_from-rest, used_from-past, used_words-le, used_trees-le, trim_each-take, trim_each-count, take_trees-count}
use Rattle.capnp_pointers.specs.declared.object.Purpose.TheVariants.{Value}
use Rattle.capnp_pointers.specs.Demands.{tag}
use Rattle.capnp_pointers.specs.Enter.{Shape, nothing, capability, struct, flat, pointers, structs, shape}
use Rattle.capnp_pointers.specs.Measure.{fold_children, fold_elements, fold_pointers}
use Rattle.capnp_pointers.specs.Metered.{Metered, answer, onward}
use Rattle.capnp_pointers.specs.Outcomes.{Entered}
use Rattle.capnp_pointers.specs.Reading.{Reading, word_of, words_from, segment_read, place_past}
use Rattle.capnp_pointers.specs.Spending.{after_charge}
use Rattle.capnp_pointers.specs.Values.{read_values, read_element_values, object_value, value_within, value}
use Rattle.capnp_pointers.specs.Wanted.{canonical}
use Rattle.capnp_pointers.proofs.OneObject.ReadAsStated.{null_is, capability_is, entering_is, stopped_is}
use Rattle.capnp_pointers.proofs.Decided.{same_or_not}
use Rattle.capnp_pointers.proofs.OneObject.ReadInOneWay.{Ends, at_capability, at_object, refused, ends}
use Rattle.capnp_pointers.proofs.WholeValue.ValueAsStated.{reads_if}
use Rattle.capnp_pointers.proofs.OneObject.PartsMeant.{claim_struct, claim_list}
use Rattle.capnp_pointers.proofs.CanonicalForm.UsedWords.{words_at-more}
use Rattle.capnp_pointers.proofs.WholeValue.ValueAgrees.{leaf_is, permits, refusal_is, value_is}
use Rattle.capnp_copies.specs.Widths.{most_used}
use Rattle.capnp_copies.proofs.FlatRead.{word_count-flat}
use Rattle.capnp_copies.proofs.LeastWidths.{means_is_null}
use Rattle.capnp_copies.proofs.Scanning.{next_used}
use Rattle.capnp_copies.proofs.UsedChildren.{trim-struct, trim-structs}
use Rattle.capnp_messages.specs.Canonicalize.{end_value}
use Rattle.capnp_messages.specs.EndValues.{IsEndThere}
use Rattle.capnp_messages.specs.Fitting.{made_words}
use Rattle.capnp_messages.specs.MadeWords.{has_copy, made_end, made_place, made_pointers, made_within, sum_within}
use Rattle.capnp_messages.specs.Parts.{PathEnd, to_element, to_pointer}
use Rattle.capnp_messages.proofs.MadeSteps.{leaf, no_copy, opened, too_many, unread}

-- The words of a trimmed value, by those of its parts: what is cut has none.

null_words : (t : Tree) → is_null t ≡ true → word_count (trim t) ≡ 0
null_words Null e = refl
null_words (Capability i) e = absurd (cc e)
null_words (Struct ws ts) e = absurd (cc e)
null_words (Flat size ns) e = absurd (cc e)
null_words (Pointers ts) e = absurd (cc e)
null_words (Structs d q es) e = absurd (cc e)

none_used : (ts : Trees) → used_trees ts ≤ 0 → word_count_all (trim_each ts) ≡ 0
none_used no_trees l = refl
none_used (tree t ts) l = let e = used_from-past (is_null t) (used_trees ts) l in omega (arith, null_words t e.0, none_used ts (omega (arith, e.1)))

all_used : (n : ℕ) (ts : Trees) → used_trees ts ≤ n → word_count_all (trim_each (take_trees n ts)) ≡ word_count_all (trim_each ts)
all_used zero ts l = sym (none_used ts l)
all_used (suc n) no_trees l = refl
all_used (suc n) (tree t ts) l = ap (λ k. word_count (trim t) + k) (all_used n ts (used_from-rest (is_null t) (used_trees ts) n l))

taken : (n : ℕ) (ts : Trees) → used_trees ts ≤ n → word_count_all (take_trees n (trim_each ts)) ≡ word_count_all (trim_each ts)
taken n ts l = ap word_count_all (sym (trim_each-take n ts)) ∙ all_used n ts l

struct_words : (ws : List ℕ) (ts : Trees) → word_count (trim (Struct ws ts)) ≡ used_words ws + used_trees ts + word_count_all (trim_each ts)
struct_words ws ts =
    let most : used_trees ts ≤ used_trees ts = omega arith in
    ap word_count (trim-struct ws ts)
    ∙ omega (arith, length-take (used_words ws) ws, used_words-le ws, trim_each-count (take_trees (used_trees ts) ts), take_trees-count (used_trees ts) ts (used_trees-le ts), all_used (used_trees ts) ts most)

cut_words : (d q : ℕ) (es : Elements) → pointer_width es ≤ q → word_count_elements (cut_to d q (trim_elements es)) ≡ word_count_elements (trim_elements es)
cut_words d q no_elements l = refl
cut_words d q (element ws ts es) l = omega (arith, taken q ts (omega (arith, l)), cut_words d q es (omega (arith, l)))

cut-count : (d q : ℕ) (es : Elements) → element_count (cut_to d q (trim_elements es)) ≡ element_count es
cut-count d q no_elements = refl
cut-count d q (element ws ts es) = ap suc (cut-count d q es)

structs_words : (d q : ℕ) (es : Elements) → word_count (trim (Structs d q es)) ≡ 1 + element_count es * (data_width es + pointer_width es) + word_count_elements (trim_elements es)
structs_words d q es =
    let most : pointer_width es ≤ pointer_width es = omega arith in
    ap word_count (trim-structs d q es)
    ∙ ap₂ (λ n w. 1 + n * (data_width es + pointer_width es) + w) (cut-count (data_width es) (pointer_width es) es) (cut_words (data_width es) (pointer_width es) es most)

-- What a count makes of what is read: a value, consecutive ones, and elements.

abbrev Outcome : Type 0 → Type 0
Outcome A = Result A ErrorKind × Meter

-- The count is more than the room.
abbrev pub IsOver : ℕ → Outcome ℕ → Type 0
IsOver room o = (m : Meter) × (o ≡ (Err (MessageTooLarge room), m))

-- The count is this sum; or the sum is more than the room.
abbrev pub Sums : ℕ → ℕ → Meter → Outcome ℕ → Type 0
Sums room total m o = (o ≡ (Ok total, m)) ⊎ (IsOver room o × (room < total))

abbrev pub Stops : ℕ → ErrorKind → Meter → Outcome ℕ → Type 0
Stops room k m o = (o ≡ (Err k, m)) ⊎ IsOver room o

abbrev pub Follows : ℕ → ℕ → Outcome Tree → Outcome ℕ → Type 0
Follows room z (Ok t, m) o = Sums room (z + word_count (trim t)) m o
Follows room z (Err k, m) o = Stops room k m o

abbrev AllFollow : Reading → ℕ → ℕ → ℕ → Outcome Trees → Outcome ℕ → Type 0
AllFollow r room i z (Ok ts, m) o = (count ts ≡ i) × (used_trees ts ≡ used_words (words_from r i)) × Sums room (z + word_count_all (trim_each ts)) m o
AllFollow r room i z (Err k, m) o = Stops room k m o

abbrev ElementsFollow : Reading → ℕ → ℕ → ℕ → ℕ → ℕ → Outcome Elements → Outcome ℕ → Type 0
ElementsFollow r room d q n z (Ok es, m) o =
    (element_count es ≡ n) × (data_width es ≡ most_used (segment_read r) r.at d (d + q) n) × (pointer_width es ≡ most_used (segment_read r) (r.at + d) q (d + q) n)
    × Sums room (z + word_count_elements (trim_elements es)) m o
ElementsFollow r room d q n z (Err k, m) o = Stops room k m o

same_sum : (room a b : ℕ) (m : Meter) (o : Outcome ℕ) → Sums room a m o → a ≡ b → Sums room b m o
same_sum room a b m o h e = subst (λ n. Sums room n m o) e h

-- First one count, and then another.
sums_on : (room y total : ℕ) (g : ℕ → Metered ℕ) (x : Outcome ℕ) (m1 m2 : Meter) → y ≤ total → Sums room y m1 x → Sums room total m2 (g y m1) → Sums room total m2 (onward g x)
sums_on room y total g x m1 m2 less (inl e) rest = subst (λ (o : Outcome ℕ). Sums room total m2 (onward g o)) (sym e) rest
sums_on room y total g x m1 m2 less (inr ((m, e), over)) rest = inr ((m, ap (onward g) e), omega (arith, over, less))

stops_on : (room y : ℕ) (k : ErrorKind) (g : ℕ → Metered ℕ) (x : Outcome ℕ) (m1 m2 : Meter) → Sums room y m1 x → Stops room k m2 (g y m1) → Stops room k m2 (onward g x)
stops_on room y k g x m1 m2 (inl e) rest = subst (λ (o : Outcome ℕ). Stops room k m2 (onward g o)) (sym e) rest
stops_on room y k g x m1 m2 (inr ((m, e), over)) rest = inr (m, ap (onward g) e)

stops_now : (room : ℕ) (k : ErrorKind) (g : ℕ → Metered ℕ) (x : Outcome ℕ) (m : Meter) → Stops room k m x → Stops room k m (onward g x)
stops_now room k g x m (inl e) = inl (ap (onward g) e)
stops_now room k g x m (inr (l, e)) = inr (l, ap (onward g) e)

abbrev EachFollows : ℕ → (Reading → Metered Tree) → (Reading → ℕ → Metered ℕ) → Reading → Type 0
EachFollows room f w r = (p z : ℕ) (m : Meter) → Follows room z (f (record r { at = p }) m) (w (record r { at = p }) z m)

abbrev NullsAgree : (Reading → Metered Tree) → Reading → Type 0
NullsAgree f r = (p : ℕ) (m m' : Meter) (t : Tree) → f (record r { at = p }) m ≡ (Ok t, m') → nat_eq (word_of (record r { at = p })) 0 ≡ is_null t

trees_follow : (room : ℕ) (f : Reading → Metered Tree) (w : Reading → ℕ → Metered ℕ) (r : Reading) → EachFollows room f w r → NullsAgree f r →
    (i p z : ℕ) (m : Meter) → p + i ≤ length (segment_read r) → AllFollow (record r { at = p }) room i z (read_values f i (record r { at = p }) m) (fold_pointers w i (record r { at = p }) z m)
trees_follow room f w r h nulls zero p z m inside = (refl, refl, inl (ap (λ n. (Ok n, m)) (sym (add-zero z))))
trees_follow room f w r h nulls (suc i) p z m inside = go (f (record r { at = p }) m) refl (h p z m) (λ y m1. trees_follow room f w r h nulls i (p + 1) y m1 (omega (arith, inside)))
  where
    next : (t : Tree) (m1 : Meter) → f (record r { at = p }) m ≡ (Ok t, m1) → Sums room (z + word_count (trim t)) m1 (w (record r { at = p }) z m) → (o : Outcome Trees) →
        AllFollow (record r { at = p + 1 }) room i (z + word_count (trim t)) o (fold_pointers w i (record r { at = p + 1 }) (z + word_count (trim t)) m1) →
        AllFollow (record r { at = p }) room (suc i) z (onward (λ ts. answer (tree t ts)) o) (onward (fold_pointers w i (record r { at = p + 1 })) (w (record r { at = p }) z m))
    next t m1 e one (Ok ts, m2) (len, used, sums) = (
      ap suc len,
      sym (ap used_words (words_at-more r.segments r.segment p i (omega (arith, inside))) ∙ ap₂ used_from (nulls p m m1 t e) (sym used)),
      same_sum room (z + word_count (trim t) + word_count_all (trim_each ts)) (z + (word_count (trim t) + word_count_all (trim_each ts))) m2 (onward (fold_pointers w i (record r { at = p + 1 })) (w (record r { at = p }) z m))
          (sums_on room (z + word_count (trim t)) (z + word_count (trim t) + word_count_all (trim_each ts)) (fold_pointers w i (record r { at = p + 1 })) (w (record r { at = p }) z m) m1 m2 (omega arith) one sums)
          (omega arith),
    )
    next t m1 e one (Err k, m2) rest = stops_on room (z + word_count (trim t)) k (fold_pointers w i (record r { at = p + 1 })) (w (record r { at = p }) z m) m1 m2 one rest

    go : (o : Outcome Tree) → f (record r { at = p }) m ≡ o → Follows room z o (w (record r { at = p }) z m) →
        ((y : ℕ) (m1 : Meter) → AllFollow (record r { at = p + 1 }) room i y (read_values f i (record r { at = p + 1 }) m1) (fold_pointers w i (record r { at = p + 1 }) y m1)) →
        AllFollow (record r { at = p }) room (suc i) z (onward (λ t m1. onward (λ ts. answer (tree t ts)) (read_values f i (record r { at = p + 1 }) m1)) o) (onward (fold_pointers w i (record r { at = p + 1 })) (w (record r { at = p }) z m))
    go (Ok t, m1) e one later = next t m1 e one (read_values f i (record r { at = p + 1 }) m1) (later (z + word_count (trim t)) m1)
    go (Err k, m1) e one later = stops_now room k (fold_pointers w i (record r { at = p + 1 })) (w (record r { at = p }) z m) m1 one

elements_follow : (room : ℕ) (f : Reading → Metered Tree) (w : Reading → ℕ → Metered ℕ) (r : Reading) → EachFollows room f w r → NullsAgree f r →
    (d q n p z : ℕ) (m : Meter) → p + n * (d + q) ≤ length (segment_read r) → ElementsFollow (record r { at = p }) room d q n z (read_element_values f d q n (record r { at = p }) m) (fold_elements w d q n (record r { at = p }) z m)
elements_follow room f w r h nulls d q zero p z m inside = (refl, refl, refl, inl (ap (λ n. (Ok n, m)) (sym (add-zero z))))
elements_follow room f w r h nulls d q (suc n) p z m inside =
    go (read_values f q (record r { at = p + d }) m) (trees_follow room f w r h nulls q (p + d) z m (omega (arith, inside))) (λ y m1. elements_follow room f w r h nulls d q n (p + (d + q)) y m1 (omega (arith, inside)))
  where
    next : (ts : Trees) (m1 : Meter) → used_trees ts ≡ used_words (words_from (record r { at = p + d }) q) → Sums room (z + word_count_all (trim_each ts)) m1 (fold_pointers w q (record r { at = p + d }) z m) → (o : Outcome Elements) →
        ElementsFollow (record r { at = p + (d + q) }) room d q n (z + word_count_all (trim_each ts)) o (fold_elements w d q n (record r { at = p + (d + q) }) (z + word_count_all (trim_each ts)) m1) →
        ElementsFollow (record r { at = p }) room d q (suc n) z (onward (λ es. answer (element (words_from (record r { at = p }) d) ts es)) o) (onward (fold_elements w d q n (record r { at = p + (d + q) })) (fold_pointers w q (record r { at = p + d }) z m))
    next ts m1 used one (Ok es, m2) (len, wide, refs, sums) = (
      ap suc len,
      ap (max (used_words (words_from (record r { at = p }) d))) wide,
      ap₂ max used (refs ∙ sym (next_used (segment_read r) p d q n)),
      same_sum room (z + word_count_all (trim_each ts) + word_count_elements (trim_elements es)) (z + (word_count_all (trim_each ts) + word_count_elements (trim_elements es))) m2 (onward (fold_elements w d q n (record r { at = p + (d + q) })) (fold_pointers w q (record r { at = p + d }) z m))
          (sums_on room (z + word_count_all (trim_each ts)) (z + word_count_all (trim_each ts) + word_count_elements (trim_elements es)) (fold_elements w d q n (record r { at = p + (d + q) })) (fold_pointers w q (record r { at = p + d }) z m) m1 m2 (omega arith) one sums)
          (omega arith),
    )
    next ts m1 used one (Err k, m2) rest = stops_on room (z + word_count_all (trim_each ts)) k (fold_elements w d q n (record r { at = p + (d + q) })) (fold_pointers w q (record r { at = p + d }) z m) m1 m2 one rest

    go : (o : Outcome Trees) → AllFollow (record r { at = p + d }) room q z o (fold_pointers w q (record r { at = p + d }) z m) →
        ((y : ℕ) (m1 : Meter) → ElementsFollow (record r { at = p + (d + q) }) room d q n y (read_element_values f d q n (record r { at = p + (d + q) }) m1) (fold_elements w d q n (record r { at = p + (d + q) }) y m1)) →
        ElementsFollow (record r { at = p }) room d q (suc n) z (onward (λ ts m1. onward (λ es. answer (element (words_from (record r { at = p }) d) ts es)) (read_element_values f d q n (record r { at = p + (d + q) }) m1)) o)
        (onward (fold_elements w d q n (record r { at = p + (d + q) })) (fold_pointers w q (record r { at = p + d }) z m))
    go (Ok ts, m1) (len, used, one) later = next ts m1 used one (read_element_values f d q n (record r { at = p + (d + q) }) m1) (later (z + word_count_all (trim_each ts)) m1)
    go (Err k, m1) one later = stops_now room k (fold_elements w d q n (record r { at = p + (d + q) })) (fold_pointers w q (record r { at = p + d }) z m) m1 one

-- The sum with the words of one object.
pub sum_is : (room z n : ℕ) (m : Meter) → (sum_within room z n m ≡ (Ok (z + n), m)) ⊎ ((sum_within room z n m ≡ (Err (MessageTooLarge room), m)) × (room < z + n))
sum_is room z n m = elim (cases_lt room (z + n)) [
  | inl over ↦ inr ((let e : nat_le (z + n) room ≡ false = grind (arith, over) in rw e refl), over)
  | inr fits ↦ inl (let e : nat_le (z + n) room ≡ true = le-leb _ _ fits in rw e refl)
]

pub sums_own : (room z n : ℕ) (m : Meter) → Sums room (z + n) m (sum_within room z n m)
sums_own room z n m = elim (sum_is room z n m) [ inl e ↦ inl e | inr (e, over) ↦ inr ((m, e), over) ]

-- An object that is entered, by its kind.
pub null_or_not : (r : Reading) (m m' : Meter) (t : Tree) → value canonical r m ≡ (Ok t, m') → nat_eq (word_of r) 0 ≡ is_null t
null_or_not r m m' t e = (let x = reads_if canonical r m m' t e in means_is_null r t x.cost x.means)

abbrev Below : ℕ → Reading → Type 0
Below room r = (s p z : ℕ) (m : Meter) → Follows room z (value_within canonical (pred r.levels) (record r { levels = pred r.levels; segment = s; at = p }) m) (made_within room (pred r.levels) (record r { levels = pred r.levels; segment = s; at = p }) z m)

abbrev contents : Reading → Shape → Metered Tree
contents r = object_value (value_within canonical (pred r.levels)) (λ s p. record r { levels = pred r.levels; segment = s; at = p })

abbrev counted : ℕ → Reading → ℕ → Shape → Meter → Outcome ℕ
counted room r z o m = onward (fold_children (made_within room (pred r.levels)) (record r { levels = pred r.levels }) o) (sum_within room z (made_words r.segments o) m)

struct_follows : (room : ℕ) (r : Reading) (z : ℕ) (m : Meter) (s p d q : ℕ) → p + (d + q) ≤ length (segment r.segments s) → Below room r → Follows room z (contents r (struct s p d q) m) (counted room r z (struct s p d q) m)
struct_follows room r z m s p d q inside h =
    go (read_values (value_within canonical (pred r.levels)) q c m)
    (trees_follow room (value_within canonical (pred r.levels)) (made_within room (pred r.levels)) (record r { levels = pred r.levels; segment = s }) (λ p1 z1 m1. h s p1 z1 m1) (λ p1 m1 m2 t e. null_or_not (record r { levels = pred r.levels; segment = s; at = p1 }) m1 m2 t e) q (p + d) (z + own) m (omega (arith, inside)))
  where
    c : Reading
    c = record r { levels = pred r.levels; segment = s; at = p + d }

    own : ℕ
    own = made_words r.segments (struct s p d q)

    go : (o : Outcome Trees) → AllFollow (record r { levels = pred r.levels; segment = s; at = p + d }) room q (z + made_words r.segments (struct s p d q)) o (fold_pointers (made_within room (pred r.levels)) q (record r { levels = pred r.levels; segment = s; at = p + d }) (z + made_words r.segments (struct s p d q)) m) →
        Follows room z (onward (λ ts. answer (Struct (words_from (record r { levels = pred r.levels; segment = s; at = p }) d) ts)) o) (counted room r z (struct s p d q) m)
    go (Ok ts, m1) (len, used, sums) =
        same_sum room (z + made_words r.segments (struct s p d q) + word_count_all (trim_each ts)) (z + word_count (trim (Struct (words_from (record r { levels = pred r.levels; segment = s; at = p }) d) ts))) m1 (counted room r z (struct s p d q) m)
        (sums_on room (z + made_words r.segments (struct s p d q)) (z + made_words r.segments (struct s p d q) + word_count_all (trim_each ts)) (fold_pointers (made_within room (pred r.levels)) q (record r { levels = pred r.levels; segment = s; at = p + d })) (sum_within room z (made_words r.segments (struct s p d q)) m) m m1 (omega arith) (sums_own room z (made_words r.segments (struct s p d q)) m) sums)
        (omega (arith, used, struct_words (words_from (record r { levels = pred r.levels; segment = s; at = p }) d) ts))
    go (Err k, m1) rest =
        stops_on room (z + made_words r.segments (struct s p d q)) k (fold_pointers (made_within room (pred r.levels)) q (record r { levels = pred r.levels; segment = s; at = p + d })) (sum_within room z (made_words r.segments (struct s p d q)) m) m m1 (sums_own room z (made_words r.segments (struct s p d q)) m) rest

pointers_follow : (room : ℕ) (r : Reading) (z : ℕ) (m : Meter) (s p n : ℕ) → p + n ≤ length (segment r.segments s) → Below room r → Follows room z (contents r (pointers s p n) m) (counted room r z (pointers s p n) m)
pointers_follow room r z m s p n inside h =
    go (read_values (value_within canonical (pred r.levels)) n (record r { levels = pred r.levels; segment = s; at = p }) m)
    (trees_follow room (value_within canonical (pred r.levels)) (made_within room (pred r.levels)) (record r { levels = pred r.levels; segment = s }) (λ p1 z1 m1. h s p1 z1 m1) (λ p1 m1 m2 t e. null_or_not (record r { levels = pred r.levels; segment = s; at = p1 }) m1 m2 t e) n p (z + n) m inside)
  where
    go : (o : Outcome Trees) → AllFollow (record r { levels = pred r.levels; segment = s; at = p }) room n (z + n) o (fold_pointers (made_within room (pred r.levels)) n (record r { levels = pred r.levels; segment = s; at = p }) (z + n) m) →
        Follows room z (onward (λ ts. answer (Pointers ts)) o) (counted room r z (pointers s p n) m)
    go (Ok ts, m1) (len, used, sums) =
        same_sum room (z + n + word_count_all (trim_each ts)) (z + (count (trim_each ts) + word_count_all (trim_each ts))) m1 (counted room r z (pointers s p n) m)
        (sums_on room (z + n) (z + n + word_count_all (trim_each ts)) (fold_pointers (made_within room (pred r.levels)) n (record r { levels = pred r.levels; segment = s; at = p })) (sum_within room z n m) m m1 (omega arith) (sums_own room z n m) sums)
        (omega (arith, len, trim_each-count ts))
    go (Err k, m1) rest = stops_on room (z + n) k (fold_pointers (made_within room (pred r.levels)) n (record r { levels = pred r.levels; segment = s; at = p })) (sum_within room z n m) m m1 (sums_own room z n m) rest

structs_follow : (room : ℕ) (r : Reading) (z : ℕ) (m : Meter) (s p d q n : ℕ) → p + n * (d + q) ≤ length (segment r.segments s) → Below room r → Follows room z (contents r (structs s p d q n) m) (counted room r z (structs s p d q n) m)
structs_follow room r z m s p d q n inside h =
    go (read_element_values (value_within canonical (pred r.levels)) d q n (record r { levels = pred r.levels; segment = s; at = p }) m)
    (elements_follow room (value_within canonical (pred r.levels)) (made_within room (pred r.levels)) (record r { levels = pred r.levels; segment = s }) (λ p1 z1 m1. h s p1 z1 m1) (λ p1 m1 m2 t e. null_or_not (record r { levels = pred r.levels; segment = s; at = p1 }) m1 m2 t e) d q n p (z + made_words r.segments (structs s p d q n)) m inside)
  where
    go : (o : Outcome Elements) → ElementsFollow (record r { levels = pred r.levels; segment = s; at = p }) room d q n (z + made_words r.segments (structs s p d q n)) o (fold_elements (made_within room (pred r.levels)) d q n (record r { levels = pred r.levels; segment = s; at = p }) (z + made_words r.segments (structs s p d q n)) m) →
        Follows room z (onward (λ es. answer (Structs d q es)) o) (counted room r z (structs s p d q n) m)
    go (Ok es, m1) (len, wide, refs, sums) =
        let own : made_words r.segments (structs s p d q n) ≡ 1 + element_count es * (data_width es + pointer_width es) = ap₂ (λ i w. 1 + i * w) (sym len) (ap₂ (λ x y. x + y) (sym wide) (sym refs)) in
        same_sum room (z + made_words r.segments (structs s p d q n) + word_count_elements (trim_elements es)) (z + word_count (trim (Structs d q es))) m1 (counted room r z (structs s p d q n) m)
        (sums_on room (z + made_words r.segments (structs s p d q n)) (z + made_words r.segments (structs s p d q n) + word_count_elements (trim_elements es)) (fold_elements (made_within room (pred r.levels)) d q n (record r { levels = pred r.levels; segment = s; at = p })) (sum_within room z (made_words r.segments (structs s p d q n)) m) m m1 (omega arith) (sums_own room z (made_words r.segments (structs s p d q n)) m) sums)
        (omega (arith, own, structs_words d q es))
    go (Err k, m1) rest =
        stops_on room (z + made_words r.segments (structs s p d q n)) k (fold_elements (made_within room (pred r.levels)) d q n (record r { levels = pred r.levels; segment = s; at = p })) (sum_within room z (made_words r.segments (structs s p d q n)) m) m m1 (sums_own room z (made_words r.segments (structs s p d q n)) m) rest

flat_follows : (room : ℕ) (r : Reading) (z : ℕ) (m : Meter) (s p size n : ℕ) → Follows room z (contents r (flat s p size n) m) (counted room r z (flat s p size n) m)
flat_follows room r z m s p size n =
    let own : ℕ = words_for size n in
    let ws : List ℕ = words_from (record r { levels = pred r.levels; segment = s; at = p }) (words_for size n) in
    same_sum room (z + own) (z + word_count (trim (Flat size (unpacked size n ws)))) m (onward answer (sum_within room z own m))
    (sums_on room (z + own) (z + own) answer (sum_within room z own m) m m (omega arith) (sums_own room z own m) (inl refl))
    (ap (λ w. z + w) (sym (word_count-flat size n ws)))

object_follows : (room : ℕ) (r : Reading) (z : ℕ) (m m' : Meter) (a : Target) → Entered Value r m m' a → Below room r → Follows room z (contents r (shape r.segments a) m') (counted room r z (shape r.segments a) m')
object_follows room r z m m' a o h = elim (same_or_not (kind a.word) 0) [
  | inl k ↦
      let is_struct : nat_eq (kind a.word) 0 ≡ true = eq-eqb _ _ k in
      let claims = o.meets.claims in
      rw is_struct (struct_follows room r z m' a.segment a.start (data_words a.word) (pointer_count a.word) (omega (arith, claims, claim_struct a.word k)) h)
  | inr other ↦
      let list : nat_eq (kind a.word) 0 ≡ false = ne_eqb _ _ other in
      let claims = o.meets.claims in
      let k : kind a.word ≡ 1 = let object = o.meets.is_object in omega (arith, object, other) in
      elim (same_or_not (element_size a.word) 7) [
        | inl seven ↦
            let is_seven : nat_eq (element_size a.word) 7 ≡ true = eq-eqb _ _ seven in
            let inside : a.start + 1 + offset_bits (tag r.segments a) * (data_words (tag r.segments a) + pointer_count (tag r.segments a)) ≤ length (segment r.segments a.segment) = omega (arith, claims, (o.meets.tagged (k, seven)).1, claim_list a.word 7 k seven) in
            rw (list, is_seven) (structs_follow room r z m' a.segment (a.start + 1) (data_words (tag r.segments a)) (pointer_count (tag r.segments a)) (offset_bits (tag r.segments a)) inside h)
        | inr no_structs ↦
            let not_seven : nat_eq (element_size a.word) 7 ≡ false = ne_eqb _ _ no_structs in
            elim (same_or_not (element_size a.word) 6) [
              | inl six ↦
                  let is_six : nat_eq (element_size a.word) 6 ≡ true = eq-eqb _ _ six in
                  rw (list, not_seven, is_six) (pointers_follow room r z m' a.segment a.start (list_count a.word) (omega (arith, claims, claim_list a.word 6 k six)) h)
              | inr no_pointers ↦ let not_six : nat_eq (element_size a.word) 6 ≡ false = ne_eqb _ _ no_pointers in rw (list, not_seven, not_six) (flat_follows room r z m' a.segment a.start (element_size a.word) (list_count a.word))
            ]
      ]
]

has_copy_shape : (S : Segments) (a : Target) → has_copy (shape S a) ≡ Ok tt
has_copy_shape S a = go (nat_eq (kind a.word) 0) (nat_eq (element_size a.word) 7) (nat_eq (element_size a.word) 6) refl refl refl
  where
    go : (b c d : Bool) → nat_eq (kind a.word) 0 ≡ b → nat_eq (element_size a.word) 7 ≡ c → nat_eq (element_size a.word) 6 ≡ d → has_copy (shape S a) ≡ Ok tt
    go true c d e f g = rw e refl
    go false true d e f g = rw (e, f) refl
    go false false true e f g = rw (e, f, g) refl
    go false false false e f g = rw (e, f, g) refl

null_counted : (room : ℕ) (r : Reading) (z : ℕ) (m : Meter) → word_of r ≡ 0 → Sums room (z + 0) m (made_place room r z m)
null_counted room r z m none = elim (sum_is room z 0 m) [
  | inl e ↦ inl (leaf room r z (z + 0) m m nothing (λ f s y. refl) (null_is Value r m none) refl e)
  | inr (e, over) ↦ inr ((m, too_many room r z m m nothing (MessageTooLarge room) (null_is Value r m none) refl e), over)
]

place_follows : (room : ℕ) (r : Reading) (z : ℕ) (m : Meter) → (0 < r.levels → Below room r) → Follows room z (value canonical r m) (made_place room r z m)
place_follows room r z m h = elim (same_or_not (word_of r) 0) [
  | inl none ↦ rw (leaf_is canonical r.levels r m m nothing (Ok Null, m) (null_is Value r m none) (λ f at. refl)) (null_counted room r z m none)
  | inr some ↦ go (ends Value r m some)
]
  where
    go : Ends Value r m → Follows room z (value canonical r m) (made_place room r z m)
    go (at_capability a f low covered) =
        let o : Shape = capability (upper_half a.word) in
        let after : Meter = after_charge r.charging m a.pads 1 in
        let e = capability_is Value r a m (λ e. absurd (cc e)) f low covered in
        rw (leaf_is canonical r.levels r m after o (Err CannotCreateACanonicalMessageWithACapability, after) e (λ f at. refl))
        (inl (no_copy room r z m after o CannotCreateACanonicalMessageWithACapability e refl))
    go (at_object a m' o) =
        let e = entering_is Value r m m' a o in
        rw (value_is canonical r.levels r m m' (shape r.segments a) e o.meets.levels, permits canonical r.segments a m', opened room r z m m' (shape r.segments a) o.meets.levels e (has_copy_shape r.segments a)) (object_follows room r z m m' a o (h o.meets.levels))
    go (refused k m' stopped) =
        let e = stopped_is Value r m m' k (λ e. absurd (cc e)) stopped in
        rw (refusal_is canonical r.levels r m m' k e) (inl (unread room r z m m' k e))

follows : (room n : ℕ) (r : Reading) (z : ℕ) (m : Meter) → r.levels ≡ n → Follows room z (value canonical r m) (made_place room r z m)
follows room zero r z m e = place_follows room r z m (λ some. absurd (omega (arith, some, e)))
follows room (suc n) r z m e = place_follows room r z m (λ some s p z1 m1. follows room n (record r { levels = pred r.levels; segment = s; at = p }) z1 m1 (omega (arith, e)))

pub place_counted : (room : ℕ) (r : Reading) (z : ℕ) (m : Meter) → Follows room z (value canonical r m) (made_place room r z m)
place_counted room r z m = follows room r.levels r z m refl

-- The end of a path.
pub end_counted : (room : ℕ) (e : PathEnd) (z : ℕ) (m : Meter) → IsEndThere e → Follows room z (end_value canonical e m) (made_end room e z m)
end_counted room (to_pointer r) z m there = place_counted room r z m
end_counted room (to_element r d q) z m there =
    go (read_values (value canonical) q (place_past r d) m) (trees_follow room (value canonical) (made_within room r.levels) r (λ p z1 m1. place_counted room (record r { at = p }) z1 m1) (λ p m1 m2 t e. null_or_not (record r { at = p }) m1 m2 t e) q (r.at + d) (z + own) m (let inside = there.inside in omega (arith, inside)))
  where
    own : ℕ
    own = made_words r.segments (struct r.segment r.at d q)

    go : (o : Outcome Trees) → AllFollow (place_past r d) room q (z + made_words r.segments (struct r.segment r.at d q)) o (made_pointers room q (place_past r d) (z + made_words r.segments (struct r.segment r.at d q)) m) →
        Follows room z (onward (λ ts. answer (Struct (words_from r d) ts)) o) (made_end room (to_element r d q) z m)
    go (Ok ts, m1) (len, used, sums) =
        same_sum room (z + made_words r.segments (struct r.segment r.at d q) + word_count_all (trim_each ts)) (z + word_count (trim (Struct (words_from r d) ts))) m1 (made_end room (to_element r d q) z m)
        (sums_on room (z + made_words r.segments (struct r.segment r.at d q)) (z + made_words r.segments (struct r.segment r.at d q) + word_count_all (trim_each ts)) (made_pointers room q (place_past r d)) (sum_within room z (made_words r.segments (struct r.segment r.at d q)) m) m m1 (omega arith) (sums_own room z (made_words r.segments (struct r.segment r.at d q)) m) sums)
        (omega (arith, used, struct_words (words_from r d) ts))
    go (Err k, m1) rest = stops_on room (z + made_words r.segments (struct r.segment r.at d q)) k (made_pointers room q (place_past r d)) (sum_within room z (made_words r.segments (struct r.segment r.at d q)) m) m m1 (sums_own room z (made_words r.segments (struct r.segment r.at d q)) m) rest

-- So a count that ends has the words of the value that is read.
pub counted_is : (room : ℕ) (e : PathEnd) (left : Option ℕ) (n : ℕ) → IsEndThere e → (made_end room e 1 (unused left)).0 ≡ Ok n → (t : Tree) × ((end_value canonical e (unused left)).0 ≡ Ok t) × (n ≡ 1 + word_count (trim t))
counted_is room e left n there is = go (end_value canonical e (unused left)) refl (end_counted room e 1 (unused left) there)
  where
    go : (o : Outcome Tree) → end_value canonical e (unused left) ≡ o → Follows room 1 o (made_end room e 1 (unused left)) → (t : Tree) × ((end_value canonical e (unused left)).0 ≡ Ok t) × (n ≡ 1 + word_count (trim t))
    go (Ok t, m) f (inl g) = (t, ap (λ x. x.0) f, (let same : Ok n ≡ Ok (1 + word_count (trim t)) = sym is ∙ ap (λ x. x.0) g in cc same))
    go (Ok t, m) f (inr ((l, g), over)) = absurd (let wrong : Ok n ≡ Err (MessageTooLarge room) = sym is ∙ ap (λ x. x.0) g in cc wrong)
    go (Err k, m) f (inl g) = absurd (let wrong : Ok n ≡ Err k = sym is ∙ ap (λ x. x.0) g in cc wrong)
    go (Err k, m) f (inr (l, g)) = absurd (let wrong : Ok n ≡ Err (MessageTooLarge room) = sym is ∙ ap (λ x. x.0) g in cc wrong)

-- One that is refused is refused as the reading is; or the value has more words than the room.
pub counted_refused : (room : ℕ) (e : PathEnd) (left : Option ℕ) (k : ErrorKind) → IsEndThere e → (made_end room e 1 (unused left)).0 ≡ Err k →
    ((end_value canonical e (unused left)).0 ≡ Err k) ⊎ ((k ≡ MessageTooLarge room) × ((t : Tree) → (end_value canonical e (unused left)).0 ≡ Ok t → room < 1 + word_count (trim t)))
counted_refused room e left k there is = go (end_value canonical e (unused left)) refl (end_counted room e 1 (unused left) there)
  where
    go : (o : Outcome Tree) → end_value canonical e (unused left) ≡ o → Follows room 1 o (made_end room e 1 (unused left)) →
        ((end_value canonical e (unused left)).0 ≡ Err k) ⊎ ((k ≡ MessageTooLarge room) × ((t : Tree) → (end_value canonical e (unused left)).0 ≡ Ok t → room < 1 + word_count (trim t)))
    go (Ok t, m) f (inl g) = absurd (let wrong : Err k ≡ Ok (1 + word_count (trim t)) = sym is ∙ ap (λ x. x.0) g in cc wrong)
    go (Ok t, m) f (inr ((l, g), over)) = inr (
      (let same : Err k ≡ Err (MessageTooLarge room) = sym is ∙ ap (λ x. x.0) g in cc same),
      λ u h. let one : t ≡ u = (let same : Ok t ≡ Ok u = sym (ap (λ x. x.0) f) ∙ h in cc same) in subst (λ (v : Tree). room < 1 + word_count (trim v)) one over,
    )
    go (Err l, m) f (inl g) = inl (ap (λ x. x.0) f ∙ (let same : Err l ≡ Err k = sym (ap (λ x. x.0) g) ∙ is in let one : l ≡ k = cc same in ap Err one))
    go (Err l, m) f (inr (l', g)) = inr (
      (let same : Err k ≡ Err (MessageTooLarge room) = sym is ∙ ap (λ x. x.0) g in cc same),
      λ u h. absurd (let wrong : Err l ≡ Ok u = sym (ap (λ x. x.0) f) ∙ h in cc wrong),
    )
