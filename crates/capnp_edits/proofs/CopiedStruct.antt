-- The copy of the struct that a root leads to.
use Rattle.std.proofs.Common.{◌≡◌, inl, inr, ◌⊎◌, ℕ, pred, ◌+◌, ◌*◌, ◌/◌, ◌%◌, ◌^◌, ◌<◌, ◌≤◌, Bool, true, nat_eq, cond, List, [], length, Some, None, refl, sym, ap, ap₂, ◌∙◌, subst, arith}
use Rattle.std.proofs.lemmas.Bool.{ne_eqb}
use Rattle.capnp_words.specs.Meter.{Meter, Affords}
use Rattle.capnp_words.specs.declared.error.ErrorKind.{ErrorKind}
use Rattle.capnp_words.specs.declared.error.ErrorKind.TheVariants.{MessageContainsNonStructPointerWhereStructPointerWasExpected, MessageIsTooDeeplyNestedOrContainsCycles}
use Rattle.capnp_arena_traits.specs.View.{View}
use Rattle.capnp_arena_traits.specs.declared.arena.reader_arena.ReaderArena.{Ghosts}
use Rattle.capnp_format.specs.Canonical.{word_count}
use Rattle.capnp_format.specs.Means.{Leads, Means, Claims}
use Rattle.capnp_format.specs.Segments.{Segments, Target, segment, words_at}
use Rattle.capnp_format.specs.Tree.{Tree, Null, Capability, Struct, Flat, Pointers, Structs, Trees, no_trees, tree, count, capabilities}
use Rattle.capnp_format.specs.Word.{kind, data_words, pointer_count}
use Rattle.capnp_pointers.specs.Demands.{claimed_words, own_charge}
use Rattle.capnp_pointers.specs.Expected.{struct_expected, HasExpected, null_pointer, fitting}
use Rattle.capnp_pointers.specs.Faults.{child_at, LeadsTo}
use Rattle.capnp_pointers.specs.Outcomes.{Reads, ReadsAll, MeansThere}
use Rattle.capnp_pointers.specs.Reading.{Reading}
use Rattle.capnp_pointers.specs.Refusals.{Refused}
use Rattle.capnp_pointers.specs.Source.{levels}
use Rattle.capnp_pointers.specs.Spending.{after_charge, pointers_in_all}
use Rattle.capnp_pointers.specs.Wanted.{Form, AllowsCapabilities}
use Rattle.capnp_pointers.proofs.Budget.PaidAndLeft.{after_none, affords_rest, paid_own}
use Rattle.capnp_pointers.proofs.WholeValue.ChildrenRead.{read_none}
use Rattle.capnp_pointers.proofs.Following.FaultlessWhereMeant.{same_target}
use Rattle.capnp_pointers.proofs.WholeValue.ObjectsRead.{read_null, read_struct, own_struct}
use Rattle.capnp_pointers.proofs.OneObject.PartsMeant.{claim_struct}
use Rattle.capnp_pointers.proofs.WholeValue.UnreadableIfRefused.{stops_struct, unreadable, affords_less}
use Rattle.capnp_readers.specs.Calls.{IsStructRead}
use Rattle.capnp_readers.specs.Readers.{read_by}
use Rattle.capnp_readers.specs.Sections.{bytes_for}
use Rattle.capnp_readers.specs.Sizes.{pointers_read}
use Rattle.capnp_readers.specs.declared.readers.PointerReader.{PointerReader}
use Rattle.capnp_readers.specs.declared.readers.struct_reader.StructReader.{StructReader}
use Rattle.capnp_copies.specs.Forms.{form_of, kept}
use Rattle.capnp_copies.specs.Changes.{RefusesToCopy, copy_call}
use Rattle.capnp_copies.specs.Originals.{sections_original}
use Rattle.capnp_builders.specs.StructValues.{section_words, data_of}
use Rattle.capnp_format.specs.Bytes.{words_of}
use Rattle.capnp_pointers.specs.declared.object.Purpose.TheVariants.{Value}
use Rattle.capnp_format.proofs.WordsOf.{words}
use Rattle.capnp_copies.proofs.Originals.{refused_words}
use Rattle.capnp_builders.proofs.DataSections.{whole_section}
use Rattle.capnp_copies.proofs.KeptForms.{kept_count-le}
use Rattle.capnp_edits.specs.declared.edit.copying.Copying.{Copying}
use Rattle.capnp_edits.specs.declared.edit.copying.Wanted.TheVariants.{Struct as AStruct}
use Rattle.capnp_words.specs.Names.{is_allocation_name}
use Rattle.capnp_edits.specs.Sources.{as_wanted, Sections, LeadsToStruct, no_struct, a_struct}
use Rattle.capnp_edits.proofs.Applied.{of_allocation}
use Rattle.capnp_edits.proofs.Steps.{same_some}
use Rattle.capnp_pointers.proofs.Following.LeadsWhereFollowed.{leads_to, entered_leads}
use Rattle.capnp_pointers.proofs.WholeValue.Shorthands.{RefusedAll}
use Rattle.capnp_allocation.specs.Makes.{call_at}
use Rattle.capnp_copies.proofs.TightObjects.{no_trees_left}
use Rattle.capnp_pointers.proofs.Budget.LevelsLeft.{level_less}

-- The place r means a value that is as wanted, and without capabilities if the copy is canonical,
-- at a cost within the limiter m. The words that the copy keeps of it fit after `used` words of a
-- segment with this room.
pub record CanBeCopiedAs (c : Copying) (r : Reading) (m : Meter) (used room : ℕ) : Type 0 where
  pub value : Tree
  pub cost : ℕ
  pub means : MeansThere r value cost
  pub takes : AllowsCapabilities (form_of c.canonicalize) (capabilities value)
  pub covers : Affords r.charging m cost
  pub copied : Tree
  pub is_wanted : as_wanted c.wanted value ≡ Some copied
  pub fits : used + word_count (kept (form_of c.canonicalize) copied) ≤ room

-- what a struct reader shows is the struct that the place leads to
pub struct_at : {A : Type 0} (g : Ghosts A) (p : PointerReader A g) (m m' : Meter) (v : StructReader A g) → length v.content.now ≡ bytes_for v.bits → IsStructRead g p m m' v →
    LeadsToStruct (read_by g p) m (record { words = data_of g v; first = pointers_read g v; pointers = v.pointer_count; limiter = m' })
struct_at g p m m' v long (inl (null, same, nothing, no_bits, none, nesting)) = no_struct null (rw no_bits refl) none same
struct_at g p m m' v long (inr (a, o, z, shows, source, nesting)) =
    let bits = shows.bits_are in
    let whole : length v.content.now ≡ 8 * data_words a.word = omega (arith, long, bits) in
    let level : levels v.nesting_limit ≡ pred (levels p.nesting_limit) = ap levels nesting ∙ level_less p.nesting_limit o.meets.levels in
    a_struct a o z (rw bits (whole_section (data_words a.word) v.content.now whole ∙ shows.words_are)) (rw (source, shows.segment_is, shows.pointers_start, level) refl) shows.pointers_are

-- the struct that `get_struct` returned has whole words
pub whole_words : (bytes : List ℕ) (bits : ℕ) → length bytes ≡ bytes_for bits → bits % 64 ≡ 0 → (section_words bits bytes ≡ words_of bytes) × (bits ≡ 64 * length (words_of bytes))
whole_words bytes bits long whole =
    let d : ℕ = bits / 64 in
    let is : bits ≡ 64 * d = omega (arith, whole) in
    let all : length bytes ≡ 8 * d = omega (arith, long, is) in
    let many : d ≡ length (words_of bytes) = omega (arith, words bytes, all) in
    (ap (λ b. section_words b bytes) is ∙ whole_section d bytes all, is ∙ ap (λ n. 64 * n) many)

pub whole_bits : {A : Type 0} (g : Ghosts A) (p : PointerReader A g) (m n : Meter) (v : StructReader A g) → IsStructRead g p m n v → v.bits % 64 ≡ 0
whole_bits g p m n v (inl (null, same, nothing, no_bits, none, nesting)) = omega (arith, no_bits)
whole_bits g p m n v (inr (a, o, z, shows, source, nesting)) = omega (arith, shows.bits_are)

none_read : (form : Form) (r : Reading) (m m' : Meter) (ts : Trees) → ReadsAll form r m m' ts → ts ≡ no_trees → m' ≡ m
none_read form r m m' no_trees all e = all.spent ∙ ap (λ c. after_charge r.charging m c 0) all.means ∙ after_none r.charging m
none_read form r m m' (tree t ts) all e = absurd (cc)

pub struct_reads : (form : Form) (r : Reading) (m m' : Meter) (s : Sections) (ts : Trees) → LeadsToStruct r m s → count ts ≡ s.pointers → ReadsAll form s.first s.limiter m' ts →
    (t : Tree) × Reads form r m m' t × (as_wanted AStruct t ≡ Some (Struct s.words ts))
struct_reads form r m m' s ts (no_struct null ws none same) counts all =
    let empty : ts ≡ no_trees = no_trees_left ts (counts ∙ none) in
    let still : m ≡ m' = sym (none_read form s.first s.limiter m' ts all empty ∙ same) in
    (Null, subst (λ y. Reads form r m y Null) still (read_null m null), ap₂ (λ w u. Some (Struct w u)) (sym ws) (sym empty))
struct_reads form r m m' s ts (a_struct a o z ws first q) counts all =
    (Struct (words_at r.segments a.segment a.start (data_words a.word)) ts, read_struct o z (counts ∙ q) (subst (λ x. ReadsAll form x s.limiter m' ts) first all), ap (λ w. Some (Struct w ts)) (sym ws))

-- if that is refused, so is reading the value
struct_stops : (form : Form) (r : Reading) (m m' : Meter) (s : Sections) (k : ErrorKind) → LeadsToStruct r m s → RefusedAll form s.first s.pointers s.limiter m' k → Refused form r m m' k
struct_stops form r m m' s k (no_struct null ws none same) refused = absurd (omega (arith, refused.fewer, none))
struct_stops form r m m' s k (a_struct a o z ws first q) refused =
    stops_struct o z (subst (λ i. RefusedAll form (child_at r a (pred r.levels) (a.start + data_words a.word)) i s.limiter m' k) q (subst (λ x. RefusedAll form x s.pointers s.limiter m' k) first refused))

-- the copy of a struct is refused for room, or because its value can't be read
pub struct_refused : (b : Bool) (id at : ℕ) (old new : View) (r : Reading) (m m' : Meter) (s : Sections) (k : ErrorKind) → LeadsToStruct r m s → RefusesToCopy (sections_original s.words s.first s.pointers) (copy_call (form_of b) (call_at id at old new) s.limiter m') k →
    (is_allocation_name k ≡ true) ⊎ Refused (form_of b) r m m' k
struct_refused b id at old new r m m' s k leads (inl (lacks, exceeds)) =
    let x = refused_words (sections_original s.words s.first s.pointers) (copy_call (form_of b) (call_at id at old new) s.limiter m') k lacks in
    inl (of_allocation old new (length new.words) (x.0 + 1) k x.1.0)
struct_refused b id at old new r m m' s k leads (inr (inl refused)) = inr (struct_stops (form_of b) r m m' s k leads refused)
struct_refused b id at old new r m m' s k leads (inr (inr (wide, named))) = inl (ap is_allocation_name named)

-- a struct that can be copied is found
struct_meets : (S : Segments) (n s p : ℕ) (ws : List ℕ) (ts : Trees) (c : ℕ) → Means S n s p (Struct ws ts) c → (a : Target) × Leads S s p a × (kind a.word ≡ 0) × (0 < n) × Claims S a (claimed_words a.word) × (own_charge Value S a ≤ c)
struct_meets S n s p ws ts c (a, k, some, o, claims, words, all, g) =
    (a, o.leads_to, o.is_struct, some, omega (arith, claims, claim_struct a.word o.is_struct, o.data_of, o.pointers), omega (arith, own_struct S a o.is_struct, o.data_of, o.pointers, g))

level_there : (n : ℕ) → 0 < n → struct_expected.too_deep n ≡ None
level_there n l = ap (λ b. cond b (Some MessageIsTooDeeplyNestedOrContainsCycles) None) (ne_eqb n 0 (λ e. omega (arith, e, l)))

pub struct_suits : (r : Reading) (m : Meter) (a : Target) → LeadsTo r a → kind a.word ≡ 0 → 0 < r.levels → Claims r.segments a (claimed_words a.word) → Affords r.charging m (own_charge Value r.segments a) → HasExpected struct_expected r m
struct_suits r m a leads z some claims covers =
    fitting {m' = after_charge r.charging m (own_charge Value r.segments a) 1} a (level_there r.levels some)
    (ap (λ i. cond (nat_eq i 0) None (Some MessageContainsNonStructPointerWhereStructPointerWasExpected)) z)
    (record {
      follows = leads_to r a leads;
      meets = record { levels = omega arith; is_object = omega (arith, z); claims = claims; tagged = λ tagged. absurd (omega (arith, z, tagged.0)) };
      covers = covers;
      spent = refl;
    })
    refl

struct_suited : (r : Reading) (m : Meter) (t : Tree) (c : ℕ) (copied : Tree) → MeansThere r t c → Affords r.charging m c → as_wanted AStruct t ≡ Some copied → HasExpected struct_expected r m
struct_suited r m Null c copied means covers e = null_pointer means.0
struct_suited r m (Struct ws ts) c copied means covers e =
    let (a, leads, z, some, claims, paid) = struct_meets r.segments r.levels r.segment r.at ws ts c means in
    struct_suits r m a leads z some claims (affords_less r.charging m (own_charge Value r.segments a) c paid covers)
struct_suited r m (Capability i) c copied means covers e = absurd (cc)
struct_suited r m (Flat size ns) c copied means covers e = absurd (cc)
struct_suited r m (Pointers ts) c copied means covers e = absurd (cc)
struct_suited r m (Structs d q es) c copied means covers e = absurd (cc)

pub struct_given : (c : Copying) (r : Reading) (m : Meter) (used room : ℕ) → c.wanted ≡ AStruct → CanBeCopiedAs c r m used room → HasExpected struct_expected r m
struct_given c r m used room is can = struct_suited r m can.value can.cost can.copied can.means can.covers (subst (λ w. as_wanted w can.value ≡ Some can.copied) is can.is_wanted)

-- what leads to a struct has an answer
pub struct_there_given : {r : Reading} {m : Meter} {s : Sections} → LeadsToStruct r m s → HasExpected struct_expected r m
struct_there_given (no_struct null ws none same) = null_pointer null
struct_there_given {r} {m} (a_struct a o z ws start n) = struct_suits r m a (entered_leads o) z o.meets.levels o.meets.claims o.covers

-- then its pointers can be read, too
record SectionsMatch (form : Form) (s : Sections) (copied : Tree) : Type 0 where
  children : Trees
  counts : count children ≡ s.pointers
  end : Meter
  are_read : ReadsAll form s.first s.limiter end children
  is_struct : copied ≡ Struct s.words children
  narrow : length s.words < 2 ^ 16

struct_matches : (form : Form) (r : Reading) (m : Meter) (s : Sections) (t : Tree) (c : ℕ) (copied : Tree) → LeadsToStruct r m s → MeansThere r t c → AllowsCapabilities form (capabilities t) → Affords r.charging m c → as_wanted AStruct t ≡ Some copied →
    SectionsMatch form s copied
struct_matches form r m s Null c copied (no_struct null ws none same) means takes covers e = record {
  children = no_trees;
  counts = sym none;
  end = s.limiter;
  are_read = read_none form s.first s.limiter;
  is_struct = sym (same_some (Struct [] no_trees) copied e) ∙ ap (λ w. Struct w no_trees) (sym ws);
  narrow = rw ws (omega arith);
}
struct_matches form r m s Null c copied (a_struct a o z ws first q) means takes covers e = absurd (o.follows.0 means.0)
struct_matches form r m s (Struct vs ts) c copied (no_struct null ws none same) (a, k, some, o, claims, words, all, g) takes covers e = absurd (o.leads_to.0 null)
struct_matches form r m s (Struct vs ts) c copied (a_struct b o z ws first q) (a, k, some, at, claims, words, all, g) takes covers e =
    let S : Segments = r.segments in
    let same : b ≡ a = same_target S r.segment r.at (entered_leads o).1 at.leads_to.1 in
    let long : data_words b.word ≡ length vs = ap (λ (x : Target). data_words x.word) same ∙ at.data_of in
    let are : s.words ≡ vs = ws ∙ ap₂ (λ (x : Target) n. words_at S x.segment x.start n) same long ∙ words in
    let place : s.first ≡ child_at r a (pred r.levels) (a.start + length vs) = first ∙ ap₂ (λ (x : Target) n. child_at r x (pred r.levels) (x.start + n)) same long in
    let enters : own_charge Value S b + k ≤ c = omega (arith, own_struct S b z, long, ap (λ (x : Target). pointer_count x.word) same, at.pointers, ap (λ (x : Target). x.pads) same, g) in
    record {
      children = ts;
      counts = sym (q ∙ ap (λ (x : Target). pointer_count x.word) same ∙ at.pointers);
      end = after_charge r.charging s.limiter k (pointers_in_all ts);
      are_read = subst (λ x. ReadsAll form x s.limiter (after_charge r.charging s.limiter k (pointers_in_all ts)) ts) (sym place) (record { cost = k; means = all; takes = takes; covers = affords_rest k c (paid_own o) enters covers; spent = refl });
      is_struct = sym (same_some (Struct vs ts) copied e) ∙ ap (λ w. Struct w ts) (sym are);
      narrow = omega (arith, ap length are, long);
    }
struct_matches form r m s (Capability i) c copied leads means takes covers e = absurd (cc)
struct_matches form r m s (Flat size ns) c copied leads means takes covers e = absurd (cc)
struct_matches form r m s (Pointers ts) c copied leads means takes covers e = absurd (cc)
struct_matches form r m s (Structs d q es) c copied leads means takes covers e = absurd (cc)

-- the copy of a struct isn't refused if it can be made
pub struct_fits : (c : Copying) (r : Reading) (m m' : Meter) (s : Sections) (id at : ℕ) (old new : View) (k : ErrorKind) → c.wanted ≡ AStruct → LeadsToStruct r m s → CanBeCopiedAs c r m (length (segment old.words id)) (old.room id) →
    RefusesToCopy (sections_original s.words s.first s.pointers) (copy_call (form_of c.canonicalize) (call_at id at old new) s.limiter m') k → ⊥
struct_fits c r m m' s id at old new k is leads can refuses =
    let x = struct_matches (form_of c.canonicalize) r m s can.value can.cost can.copied leads can.means can.takes can.covers (subst (λ w. as_wanted w can.value ≡ Some can.copied) is can.is_wanted) in
    elim refuses [
      | inl (lacks, exceeds) ↦ omega (arith, can.fits, exceeds (form_of c.canonicalize) s.limiter x.end (Struct s.words x.children) (x.children, refl, x.counts, x.are_read), ap (λ t. word_count (kept (form_of c.canonicalize) t)) x.is_struct)
      | inr (inl refused) ↦ (unreadable (struct_stops (form_of c.canonicalize) r m m' s k leads refused)).only can.value can.cost can.means can.takes can.covers
      | inr (inr (wide, named)) ↦ omega (arith, wide, kept_count-le (form_of c.canonicalize) s.words, x.narrow)
    ]
