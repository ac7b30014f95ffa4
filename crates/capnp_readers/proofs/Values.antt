-- The structs and lists that readers show, and what their pointers mean.
use Rattle.std.proofs.Common.{◌≡◌, inl, inr, ℕ, zero, suc, pred, ◌+◌, ◌*◌, ◌<◌, ◌≤◌, List, [], ◌∷◌, length, refl, sym, ap, ap₂, ◌∙◌, subst, arith}
use Rattle.capnp_words.specs.Meter.{Meter}
use Rattle.capnp_arena_traits.specs.declared.arena.reader_arena.ReaderArena.{Ghosts}
use Rattle.capnp_format.specs.Bytes.{words_of}
use Rattle.capnp_format.specs.Segments.{Target, words_at}
use Rattle.capnp_format.specs.Tree.{Tree, Null, Capability, Struct, Flat, Pointers, Structs, Trees, no_trees, tree, count}
use Rattle.capnp_format.specs.Word.{kind, data_words, pointer_count}
use Rattle.capnp_format.specs.Path.{tree_at, next, Child}
use Rattle.capnp_format.proofs.Children.{means_child}
use Rattle.capnp_pointers.specs.Faults.{LeadsTo, child_at}
use Rattle.capnp_pointers.specs.Outcomes.{MeansThere}
use Rattle.capnp_pointers.specs.Reading.{Reading, place_past, word_of}
use Rattle.capnp_pointers.specs.Source.{levels}
use Rattle.capnp_pointers.proofs.Decided.{within_or_not}
use Rattle.capnp_pointers.proofs.Following.FaultlessWhereMeant.{same_target}
use Rattle.capnp_pointers.proofs.Following.LeadsWhereFollowed.{entered_leads}
use Rattle.capnp_pointers.proofs.WholeValue.Shorthands.{MeanThere}
use Rattle.capnp_readers.specs.Calls.{Call, WhereRead, IsStructRead}
use Rattle.capnp_readers.specs.Readers.{read_by}
use Rattle.capnp_readers.specs.Sizes.{pointers_read}
use Rattle.capnp_readers.specs.Values.{HasValue, place_read, struct_children, tree_cost, child_cost, ShowsStructOf}
use Rattle.capnp_readers.specs.declared.readers.PointerReader.{PointerReader}
use Rattle.capnp_readers.specs.declared.readers.struct_reader.StructReader.{StructReader}
use Rattle.capnp_readers.proofs.Answering.{read_at}
use Rattle.capnp_pointers.proofs.Budget.LevelsLeft.{level_less}

-- there are no children after the last
tree_past : (ts : Trees) (i : ℕ) → count ts ≤ i → tree_at ts i ≡ Null
tree_past no_trees i l = refl
tree_past (tree t ts) zero l = absurd (omega arith)
tree_past (tree t ts) (suc i) l = tree_past ts i (omega arith)

-- no bytes have no words
no_words : (bytes : List ℕ) → length bytes ≡ 0 → words_of bytes ≡ []
no_words [] e = refl
no_words (b ∷ bytes) e = absurd (omega arith)

-- child i of a struct, at its cost
pub tree_means : (ts : Trees) (r : Reading) (c i : ℕ) → i < count ts → (all : MeanThere r ts c) → MeansThere (place_past r i) (tree_at ts i) (tree_cost r ts c all i)
tree_means no_trees r c i l all = absurd (omega arith)
tree_means (tree t ts) r c zero l all = subst (λ q. MeansThere (record r { at = q }) t all.0) (let e : r.at ≡ r.at + 0 = omega arith in e) all.2
tree_means (tree t ts) r c (suc i) l all =
    subst (λ q. MeansThere (record r { at = q }) (tree_at ts i) (tree_cost (place_past r 1) ts all.1 all.3 i)) (let e : r.at + 1 + i ≡ r.at + suc i = omega arith in e) (tree_means ts (place_past r 1) all.1 i (omega arith) all.3)

tree_within : (ts : Trees) (r : Reading) (c i : ℕ) (all : MeanThere r ts c) → tree_cost r ts c all i ≤ c
tree_within no_trees r c i all = omega arith
tree_within (tree t ts) r c zero all = omega (arith, all.4)
tree_within (tree t ts) r c (suc i) all = omega (arith, all.4, tree_within ts (place_past r 1) all.1 i all.3)

no_cost : (ts : Trees) (r : Reading) (c i : ℕ) → count ts ≤ i → (all : MeanThere r ts c) → tree_cost r ts c all i ≡ 0
no_cost no_trees r c i l all = refl
no_cost (tree t ts) r c zero l all = absurd (omega arith)
no_cost (tree t ts) r c (suc i) l all = no_cost ts (place_past r 1) all.1 i (omega arith) all.3

module _ {A : Type 0} (g : Ghosts A) where
  -- a pointer that was read as a struct, or is null, leads to no other object
  pub leads_to_struct : (p : PointerReader A g) {m m' : Meter} {r : StructReader A g} (a : Target) → IsStructRead g p m m' r → LeadsTo (read_by g p) a → kind a.word ≡ 0
  leads_to_struct p a (inl h) leads = absurd (leads.0 h.0)
  leads_to_struct p a (inr h) leads =
      let same : a ≡ h.0 = same_target (read_by g p).segments (read_by g p).segment (read_by g p).at leads.1 (entered_leads h.1).1 in
      ap (λ (x : Target). kind x.word) same ∙ h.2

  -- where the pointers of the struct that was read are, if its data section has n words
  pub first_pointer : (p : PointerReader A g) {m m' : Meter} (r : StructReader A g) (a : Target) (n : ℕ) → 0 < (read_by g p).levels → IsStructRead g p m m' r → LeadsTo (read_by g p) a → data_words a.word ≡ n →
      pointers_read g r ≡ child_at (read_by g p) a (pred (read_by g p).levels) (a.start + n)
  first_pointer p r a n some (inl h) leads wide = absurd (leads.0 h.0)
  first_pointer p r a n some (inr (b, o, z, shows, source, nesting)) leads wide =
      let x : Reading = read_by g p in
      let same : b ≡ a = same_target x.segments x.segment x.at (entered_leads o).1 leads.1 in
      let level : levels r.nesting_limit ≡ pred (levels p.nesting_limit) = ap levels nesting ∙ level_less p.nesting_limit some in
      let first : pointers_read g r ≡ child_at x b (pred x.levels) (b.start + data_words b.word) = rw (source, shows.segment_is, shows.pointers_start, level) refl in
      first ∙ ap₂ (λ (y : Target) (i : ℕ). child_at x y (pred x.levels) (y.start + i)) same (ap (λ (y : Target). data_words y.word) same ∙ wide)

  -- the struct that was read is the value that the pointer means
  struct_shown : (p : PointerReader A g) (m m' : Meter) (r : StructReader A g) (t : Tree) (c : ℕ) → IsStructRead g p m m' r → MeansThere (read_by g p) t c → ShowsStructOf g r t
  struct_shown p m m' r Null c (inl (null, same, nothing, bits, none, nesting)) means = record {
    is_struct = tt;
    bits_are = bits;
    words_are = no_words r.content.now (omega (arith, bits, r.content_is.1));
    pointers_are = none;
    cost = 0;
    children_are = refl;
  }
  struct_shown p m m' r Null c (inr (b, o, z, shows, source, nesting)) means = absurd ((entered_leads o).0 means.0)
  struct_shown p m m' r (Struct ws ts) c (inl (null, same, nothing, bits, none, nesting)) (a, k, some, at, claim, has, all, cost) = absurd (at.leads_to.0 null)
  struct_shown p m m' r (Struct ws ts) c (inr (b, o, z, shows, source, nesting)) (a, k, some, at, claim, has, all, cost) =
      let x : Reading = read_by g p in
      let same : b ≡ a = same_target x.segments x.segment x.at (entered_leads o).1 at.leads_to.1 in
      let wide : data_words b.word ≡ length ws = ap (λ (y : Target). data_words y.word) same ∙ at.data_of in
      let many : pointer_count b.word ≡ count ts = ap (λ (y : Target). pointer_count y.word) same ∙ at.pointers in
      let there = first_pointer p r a (length ws) some (inr (b, o, z, shows, source, nesting)) at.leads_to at.data_of in
      record {
        is_struct = tt;
        bits_are = shows.bits_are ∙ ap (λ i. 64 * i) wide;
        words_are = shows.words_are ∙ ap₂ (λ (y : Target) (i : ℕ). words_at x.segments y.segment y.start i) same wide ∙ has;
        pointers_are = shows.pointers_are ∙ many;
        cost = k;
        children_are = subst (λ y. MeanThere y ts k) (sym there) all;
      }
  struct_shown p m m' r (Capability i) c read (a, leads, is, cost) = (let z : kind a.word ≡ 0 = leads_to_struct p a read leads in absurd (omega (arith, z, is)))
  struct_shown p m m' r (Flat size ns) c read (a, some, small, at, claims, numbers, cost) = (let z : kind a.word ≡ 0 = leads_to_struct p a read at.leads_to in absurd (omega (arith, z, at.is_list)))
  struct_shown p m m' r (Pointers ts) c read (a, k, some, at, claims, all, cost) = (let z : kind a.word ≡ 0 = leads_to_struct p a read at.leads_to in absurd (omega (arith, z, at.is_list)))
  struct_shown p m m' r (Structs d q es) c read (a, n, k, some, at, claims, is_tag, fits, all, cost) = (let z : kind a.word ≡ 0 = leads_to_struct p a read at.leads_to in absurd (omega (arith, z, at.is_list)))

  pub struct_value : {c : Call g} {m m' : Meter} (r : StructReader A g) → WhereRead g c (λ p. IsStructRead g p m m' r) → (t : Tree) → HasValue (place_read g c.from c.default) t → ShowsStructOf g r t
  struct_value {c} {m} {m'} r (p, is, read) t has = struct_shown p m m' r t has.cost read (subst (λ x. MeansThere x t has.cost) (sym (read_at g is)) has.means)

  -- The place x is that of pointer i of the struct reader r; a null word if there is no such pointer.
  pub record IsField (r : StructReader A g) (i : ℕ) (x : Reading) : Type 0 where
    pub there : i < r.pointer_count → x ≡ place_past (pointers_read g r) i
    pub beyond : r.pointer_count ≤ i → word_of x ≡ 0

  pub child_means : (r : StructReader A g) (i : ℕ) (x : Reading) (t : Tree) → IsField r i x → (shows : ShowsStructOf g r t) → MeansThere x (next t (Child i)) (child_cost g shows i)
  child_means r i x Null field shows = (field.beyond (omega (arith, shows.pointers_are)), refl)
  child_means r i x (Struct ws ts) field shows = elim (within_or_not (count ts) i) [
    | inl past ↦ subst (λ u. MeansThere x u (child_cost g shows i)) (sym (tree_past ts i past)) (field.beyond (omega (arith, shows.pointers_are, past)), no_cost ts (pointers_read g r) shows.cost i past shows.children_are)
    | inr inside ↦ subst (λ y. MeansThere y (tree_at ts i) (child_cost g shows i)) (sym (field.there (omega (arith, shows.pointers_are, inside)))) (tree_means ts (pointers_read g r) shows.cost i inside shows.children_are)
  ]
  child_means r i x (Capability j) field shows = absurd shows.is_struct
  child_means r i x (Flat size ns) field shows = absurd shows.is_struct
  child_means r i x (Pointers ts) field shows = absurd shows.is_struct
  child_means r i x (Structs d q es) field shows = absurd shows.is_struct

  pub child_within : (r : StructReader A g) (i : ℕ) (t : Tree) (shows : ShowsStructOf g r t) → child_cost g shows i ≤ shows.cost
  child_within r i t shows = tree_within (struct_children t) (pointers_read g r) shows.cost i shows.children_are

  -- a struct has no child where it has no pointer
  pub child_beyond : (r : StructReader A g) (i : ℕ) (t : Tree) → ShowsStructOf g r t → r.pointer_count ≤ i → next t (Child i) ≡ Null
  child_beyond r i Null shows past = refl
  child_beyond r i (Struct ws ts) shows past = tree_past ts i (omega (arith, shows.pointers_are, past))
  child_beyond r i (Capability j) shows past = refl
  child_beyond r i (Flat size ns) shows past = refl
  child_beyond r i (Pointers ts) shows past = refl
  child_beyond r i (Structs d q es) shows past = refl
