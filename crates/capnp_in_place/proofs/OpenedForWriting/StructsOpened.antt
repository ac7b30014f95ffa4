-- Structs that are opened for writing.
use Rattle.std.proofs.Common.{Bool, Err, IfErr, IfOk, List, None, Ok, Result, Some, [], ap, ap₂, arith, false, inl, length, max, refl, subst, sym, true, ℕ, ◌*◌, ◌+◌, ◌∙◌, ◌≡◌, ◌≤◌}
use Rattle.std.proofs.lemmas.Grind.{common_steps}
use Rattle.capnp_words.specs.declared.error.ErrorKind.{ErrorKind}
use Rattle.capnp_words.specs.declared.error.ErrorKind.TheVariants.{AllocationFailed}
use Rattle.capnp_format.specs.Segments.{IsPlace, Segments, word_at}
use Rattle.capnp_format.specs.Tree.{Null, Struct, Tree, Trees, count}
use Rattle.capnp_format.specs.Forest.{target}
use Rattle.capnp_words.specs.declared.wire_pointer.StructSize.{StructSize}
use Rattle.capnp_arena_traits.specs.View.{View}
use Rattle.capnp_in_place.specs.declared.existing.ExistingStruct.{ExistingStruct}
use Rattle.capnp_arena_traits.specs.declared.arena.WordPlace.{WordPlace}
use Rattle.capnp_in_place.specs.Existing.{IsStructInside, struct_in}
use Rattle.capnp_allocation.specs.Made.{LeadsToStart, nulls, words_of_zero, zero_struct}
use Rattle.capnp_allocation.specs.Memory.{ComesAfter, HasRoom, IsRefusedFor, KeepsMemory, RefusesWords, SpendsMemory, TakesWords, start_of}
use Rattle.capnp_allocation.specs.Stored.{IsReplaced, IsStored}
use Rattle.capnp_allocation.proofs.Filling.{unchanged}
use Rattle.capnp_allocation.proofs.FillingMade.{null_stored}
use Rattle.capnp_allocation.proofs.Memory.{keeps_itself, made_refused, not_the_allocator, spends_nothing}
use Rattle.capnp_allocation.proofs.Placed.{count-nulls}
use Rattle.capnp_allocation.proofs.Replaced.{grown}
use Rattle.capnp_allocation.specs.Makes.{call_at}
use Rattle.capnp_in_place.specs.Anew.{MakesStructWider, StandsAnew}
use Rattle.capnp_in_place.specs.Opening.{LeadsToOne, OpensStruct, struct_opened}
use Rattle.capnp_in_place.specs.Rooms.{GrowsByAtMost, RefusesGrowth, RefusesToBecome, direct_pointers, widened_words}
use Rattle.capnp_in_place.specs.Widened.{GrowsByZeros, fill_trees, fill_words, widened}
use Rattle.capnp_in_place.proofs.WiderObjects.FilledToSize.{already_wide, wide_trees, wide_words}
use Rattle.capnp_in_place.proofs.WiderObjects.WhichList.{same_tree}
use Rattle.capnp_in_place.proofs.Room.GrowthRefused.{growth_named}
use Rattle.capnp_in_place.proofs.Room.RoomLeft.{all_words}
use Rattle.capnp_in_place.proofs.WiderObjects.StructBySteps.{by_struct, same_struct, struct_inside, the_struct}
use Rattle.capnp_in_place.proofs.WiderObjects.WidenedIsFilledUp.{count-fill_trees, length-fill_words}
use Rattle.capnp_in_place.proofs.MovedPointers.RewrittenInTurn.{writes_nothing}

-- What a refused call leaves.
abbrev pub GrowsForStruct : Segments → Segments → ℕ → ℕ → StructSize → Type 0
GrowsForStruct S R s p size = (ws : List ℕ) (ts : Trees) → IsStored S s p (Struct ws ts) → GrowsByAtMost S R (widened_words (widened size ws ts) + 1 + 2 * count ts)

abbrev pub LeavesAll : (Tree → Type 0) → Segments → Segments → Type 0
LeavesAll Stands S R = (t : Tree) → Stands t → GrowsByZeros S R

-- A refusal that spends nothing.
pub nothing_spent : (v : View) (k : ErrorKind) → (k ≡ AllocationFailed → ⊥) → SpendsMemory v v k
nothing_spent v k other = spends_nothing v v k (not_the_allocator k other) (keeps_itself v)

pub no_truth : (b : Bool) → b ≡ false → b ≡ true → ⊥
no_truth b x y = cc

-- What was stored is still stored if only zeros are new.
pub stands_grown : (S R : Segments) (s p : ℕ) (t : Tree) → IsStored S s p t → GrowsByZeros S R → IsReplaced S R s p t t
stands_grown S R s p t stored g = grown S R s p t g.grows stored g.kept g.zero

-- A struct that is large enough.
struct_wide_at : (v : View) (s p : ℕ) (ws : List ℕ) (ts : Trees) (e : ExistingStruct) (size : StructSize) → IsStored v.words s p (Struct ws ts) → the_struct v.words s p ws ts ≡ e →
    size.data_words ≤ e.size.data_words → size.pointers ≤ e.size.pointers → OpensStruct LeadsToOne size (Ok e) (call_at s p v v) (Struct ws ts)
struct_wide_at v s p ws ts e size stored is l m =
    let d : length ws ≡ e.size.data_words = ap (λ (x : ExistingStruct). x.size.data_words) is in
    let q : count ts ≡ e.size.pointers = ap (λ (x : ExistingStruct). x.size.pointers) is in
    let wide : size.data_words ≤ length ws = omega (arith, l, d) in
    let many : size.pointers ≤ count ts = omega (arith, m, q) in
    let found : struct_in (target v.words s p) (Struct (fill_words size.data_words ws) (fill_trees size.pointers ts)) ≡ Some e =
    ap₂ (λ vs us. struct_in (target v.words s p) (Struct vs us)) (wide_words size.data_words ws wide) (wide_trees size.pointers ts many) ∙ ap (λ x. Some x) is in
    record {
      replaced = already_wide v.words s p size.data_words size.pointers ws ts stored wide many;
      leads = (found, subst (IsStructInside v.words) is (struct_inside v.words s p ws ts stored));
      memory = keeps_itself v;
      unchanged = λ h. refl;
      anew = λ narrow. absurd (narrow (wide, many));
    }

pub struct_wide : (v : View) (s p : ℕ) (t : Tree) (e : ExistingStruct) (size : StructSize) → IsStored v.words s p t → struct_in (target v.words s p) t ≡ Some e →
    size.data_words ≤ e.size.data_words → size.pointers ≤ e.size.pointers → OpensStruct LeadsToOne size (Ok e) (call_at s p v v) t
struct_wide v s p t e size stored found l m =
    by_struct v.words s p e (λ u. OpensStruct LeadsToOne size (Ok e) (call_at s p v v) u) (λ ws ts i. struct_wide_at v s p ws ts e size i.0 (same_struct _ e i.1) l m) t (stored, found)

-- A struct at a place, with its numbers of data words and pointers.
abbrev struct_at : ℕ → ℕ → ℕ → ℕ → ExistingStruct
struct_at s p d q = record { segment = s; start = p; size = record { data_words = d; pointers = q } }

same_place : (s p d q t r e k : ℕ) → s ≡ t → p ≡ r → d ≡ e → q ≡ k → struct_at s p d q ≡ struct_at t r e k
same_place s p d q t r e k a b c f = ap₂ (λ x y. struct_at x y d q) a b ∙ ap₂ (λ x y. struct_at t r x y) c f

-- A struct that is widened.
struct_wider_at : (a b : View) (s p : ℕ) (ws : List ℕ) (ts : Trees) (e f : ExistingStruct) (size greater : StructSize) → IsStored a.words s p (Struct ws ts) → the_struct a.words s p ws ts ≡ e → MakesStructWider (Ok f) (IsStored a.words s p) size (call_at s p a b) → (size.data_words ≤ e.size.data_words → size.pointers ≤ e.size.pointers → ⊥) →
    greater.data_words ≡ max e.size.data_words size.data_words → greater.pointers ≡ max e.size.pointers size.pointers →
    OpensStruct LeadsToOne size (Ok (struct_at f.segment f.start greater.data_words greater.pointers)) (call_at s p a b) (Struct ws ts)
struct_wider_at a b s p ws ts e f size greater stored is w narrow l m =
    let made = w.replaced ws ts stored in
    let leads = w.leads ws ts stored in
    let d : length ws ≡ e.size.data_words = ap (λ (x : ExistingStruct). x.size.data_words) is in
    let q : count ts ≡ e.size.pointers = ap (λ (x : ExistingStruct). x.size.pointers) is in
    let vs : List ℕ = fill_words size.data_words ws in
    let us : Trees = fill_trees size.pointers ts in
    let words : length vs ≡ greater.data_words = length-fill_words size.data_words ws ∙ ap (λ n. max n size.data_words) d ∙ sym l in
    let pointers : count us ≡ greater.pointers = count-fill_trees size.pointers ts ∙ ap (λ n. max n size.pointers) q ∙ sym m in
    let same : the_struct b.words s p vs us ≡ struct_at f.segment f.start greater.data_words greater.pointers =
    same_place (target b.words s p).segment (target b.words s p).start (length vs) (count us) f.segment f.start greater.data_words greater.pointers (sym leads.0) (sym leads.1) words pointers in
    record {
      replaced = made;
      leads = (ap (λ x. Some x) same, subst (IsStructInside b.words) same (struct_inside b.words s p vs us made.stored));
      memory = w.granted;
      unchanged = λ h. absurd (narrow (omega (arith, h.0, d)) (omega (arith, h.1, q)));
      anew = λ h. w.anew ws ts stored;
    }

pub struct_wider : (a b : View) (s p : ℕ) (t : Tree) (e f : ExistingStruct) (size greater : StructSize) → IsStored a.words s p t → struct_in (target a.words s p) t ≡ Some e → MakesStructWider (Ok f) (IsStored a.words s p) size (call_at s p a b) → (size.data_words ≤ e.size.data_words → size.pointers ≤ e.size.pointers → ⊥) →
    greater.data_words ≡ max e.size.data_words size.data_words → greater.pointers ≡ max e.size.pointers size.pointers →
    OpensStruct LeadsToOne size (Ok (struct_at f.segment f.start greater.data_words greater.pointers)) (call_at s p a b) t
struct_wider a b s p t e f size greater stored found w narrow l m =
    by_struct a.words s p e (λ u. OpensStruct LeadsToOne size (Ok (struct_at f.segment f.start greater.data_words greater.pointers)) (call_at s p a b) u)
    (λ ws ts i. struct_wider_at a b s p ws ts e f size greater i.0 (same_struct _ e i.1) w narrow l m) t (stored, found)

-- Or there is no memory for it.
pub struct_unwidened : (a b : View) (s p : ℕ) (e : ExistingStruct) (size : StructSize) (k : ErrorKind) → ((t : Tree) → IsStored a.words s p t → struct_in (target a.words s p) t ≡ Some e) → SpendsMemory a b k →
    RefusesGrowth a b (max e.size.data_words size.data_words + max e.size.pointers size.pointers) e.size.pointers k → RefusesToBecome (IsStored a.words s p) (struct_opened size) a b k
struct_unwidened a b s p e size k known memory full = record {
  name = growth_named a b _ _ k full;
  memory = memory;
  full = λ t u stored opened. by_struct a.words s p e (λ v. struct_opened size v ≡ Ok u → RefusesGrowth a b (widened_words u) (direct_pointers v) k) (λ ws ts i opens.
      (let is = same_struct (the_struct a.words s p ws ts) e i.1 in
      let d : length ws ≡ e.size.data_words = ap (λ (x : ExistingStruct). x.size.data_words) is in
      let q : count ts ≡ e.size.pointers = ap (λ (x : ExistingStruct). x.size.pointers) is in
      let words : max e.size.data_words size.data_words + max e.size.pointers size.pointers ≡ widened_words (widened size ws ts) =
      omega (arith, d, q, length-fill_words size.data_words ws, count-fill_trees size.pointers ts) in
      subst (λ x. RefusesGrowth a b (widened_words x) (count ts) k) (same_tree (widened size ws ts) u opens)
      (subst (λ n. RefusesGrowth a b n (count ts) k) words (subst (λ n. RefusesGrowth a b (max e.size.data_words size.data_words + max e.size.pointers size.pointers) n k) (sym q) full)))) t (stored, known t stored) opened;
}

pub struct_kept : (a b : View) (s p : ℕ) (t : Tree) (e : ExistingStruct) (size : StructSize) (k : ErrorKind) → IsStored a.words s p t → struct_in (target a.words s p) t ≡ Some e →
    (size.data_words ≤ e.size.data_words → size.pointers ≤ e.size.pointers → ⊥) → LeavesAll (IsStored a.words s p) a.words b.words → RefusesToBecome (IsStored a.words s p) (struct_opened size) a b k → GrowsForStruct a.words b.words s p size → OpensStruct LeadsToOne size (Err k) (call_at s p a b) t
struct_kept a b s p t e size k stored found narrow leaves named few =
    by_struct a.words s p e (λ u. OpensStruct LeadsToOne size (Err k) (call_at s p a b) u) (λ ws ts i.
    (let is = same_struct (the_struct a.words s p ws ts) e i.1 in
    let d : length ws ≡ e.size.data_words = ap (λ (x : ExistingStruct). x.size.data_words) is in
    let q : count ts ≡ e.size.pointers = ap (λ (x : ExistingStruct). x.size.pointers) is in
    record {
      stands = stands_grown a.words b.words s p (Struct ws ts) i.0 (leaves (Struct ws ts) i.0);
      narrow = λ h. narrow (omega (arith, h.0, d)) (omega (arith, h.1, q));
      memory = named.memory;
      taken = few ws ts i.0;
      full = named.full (Struct ws ts) (widened size ws ts) i.0 refl;
    })) t (stored, found)

-- A value that isn't a struct, and isn't null.
pub some_struct : (e : ExistingStruct) → Some e ≡ None → ⊥
some_struct e x = cc

-- A new struct in place of null.
zero_count : (n : ℕ) → length (words_of_zero n) ≡ n
zero_count n = grind (arith, common_steps)

pub struct_made : (a b : View) (s p : ℕ) (size : StructSize) (h : WordPlace) → IsReplaced a.words b.words s p Null (zero_struct size) → KeepsMemory a b → TakesWords a b s (size.data_words + size.pointers) →
    ComesAfter a s (size.data_words + size.pointers) (start_of (target b.words s p)) → LeadsToStart b.words s p h →
    OpensStruct LeadsToOne size (Ok (struct_at h.segment h.at size.data_words size.pointers)) (call_at s p a b) Null
struct_made a b s p size h made memory taken behind leads =
    let vs : List ℕ = words_of_zero size.data_words in
    let us : Trees = nulls size.pointers in
    let long : size.data_words + size.pointers ≡ widened_words (zero_struct size) = ap₂ (λ x y. x + y) (sym (zero_count size.data_words)) (sym (count-nulls size.pointers)) in
    let same : the_struct b.words s p vs us ≡ struct_at h.segment h.at size.data_words size.pointers =
    same_place (target b.words s p).segment (target b.words s p).start (length vs) (count us) h.segment h.at size.data_words size.pointers (sym leads.0) (sym leads.1) (zero_count size.data_words) (count-nulls size.pointers) in
    record {
      replaced = made;
      leads = (ap (λ x. Some x) same, subst (IsStructInside b.words) same (struct_inside b.words s p vs us made.stored));
      memory = memory;
      unchanged = λ h. absurd h;
      anew = λ narrow. subst (λ n. StandsAnew (call_at s p a b) n []) long (record {
        behind = behind;
        forms = tt;
        begun = b;
        kept = memory;
        object = taken;
        pads = writes_nothing b;
      });
    }

pub struct_unmade : (a b : View) (s p : ℕ) (size : StructSize) (k : ErrorKind) → IsPlace a.words s p → word_at a.words s p ≡ 0 → b.words ≡ a.words → IsRefusedFor a b (size.data_words + size.pointers) k →
    (HasRoom a s (size.data_words + size.pointers) → ⊥) → OpensStruct LeadsToOne size (Err k) (call_at s p a b) Null
struct_unmade a b s p size k place null same named full =
    let refused = made_refused a b s (size.data_words + size.pointers) k named same full in
    let words : size.data_words + size.pointers ≡ widened_words (zero_struct size) = ap₂ (λ x y. x + y) (sym (zero_count size.data_words)) (sym (count-nulls size.pointers)) in
    record {
      stands = subst (λ R. IsReplaced a.words R s p Null Null) (sym same) (unchanged a.words s p Null (null_stored a.words s p place null));
      narrow = λ h. h;
      memory = refused.1;
      taken = omega (arith, ap all_words same);
      full = inl (subst (λ n. RefusesWords a b n k) words refused.0, same);
    }

-- A known struct is widened, or memory is refused.
pub known_opened : (a b : View) (s p : ℕ) (t : Tree) (old : ExistingStruct) (size : StructSize) (r : Result ExistingStruct ErrorKind) → IsStored a.words s p t → struct_in (target a.words s p) t ≡ Some old →
    ((u : Tree) → IsStored a.words s p u → struct_in (target a.words s p) u ≡ Some old) → (size.data_words ≤ old.size.data_words → size.pointers ≤ old.size.pointers → ⊥) → MakesStructWider r (IsStored a.words s p) size (call_at s p a b) →
    IfOk r (λ e. (e.size.data_words ≡ max old.size.data_words size.data_words) × (e.size.pointers ≡ max old.size.pointers size.pointers)) →
    IfErr r (RefusesGrowth a b (max old.size.data_words size.data_words + max old.size.pointers size.pointers) old.size.pointers) → GrowsForStruct a.words b.words s p size → OpensStruct LeadsToOne size r (call_at s p a b) t
known_opened a b s p t old size (Ok f) stored found known narrow w sizes full few =
    struct_wider a b s p t old f size f.size stored found w narrow sizes.0 sizes.1
known_opened a b s p t old size (Err k) stored found known narrow w sizes full few =
    struct_kept a b s p t old size k stored found narrow w.refused (struct_unwidened a b s p old size k known w.memory full) few
