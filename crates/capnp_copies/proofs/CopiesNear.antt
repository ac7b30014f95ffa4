-- What a copy leaves that stays in the segment of its pointer.
use Rattle.std.specs.Prelude.{◌≡◌, ℕ, ◌+◌, List, length, take}
use Rattle.capnp_words.specs.Meter.{Meter}
use Rattle.capnp_format.specs.Segments.{segment}
use Rattle.capnp_format.specs.Tree.{Tree, Trees, Elements, count, element_count}
use Rattle.capnp_arena_traits.specs.View.{View}
use Rattle.capnp_arena_traits.specs.Written.{with_segment, overwritten, extended}
use Rattle.capnp_pointers.specs.Outcomes.{Reads, ReadsAll, ReadsElements}
use Rattle.capnp_pointers.specs.Reading.{Reading, place_past, words_from}
use Rattle.capnp_pointers.specs.Wanted.{Form}
use Rattle.capnp_format.specs.Canonical.{cut_to}
use Rattle.capnp_copies.specs.Forms.{kept, kept_each, kept_elements}
use Rattle.capnp_copies.specs.Copied.{with_children}
use Rattle.capnp_copies.proofs.Shapes.{rows_laid}
use Rattle.capnp_copies.proofs.InPlace.{IsCopied, AreCopied}
use Rattle.capnp_copies.specs.declared.widths.ElementSizes.{ElementSizes}

-- A copy into segment id: the message and the read limiter, before and after it.
pub record Call : Type 0 where
  pub form : Form
  pub old : View
  pub new : View
  pub id : ℕ
  pub before : Meter
  pub after : Meter

abbrev pub call_of : Form → View → View → ℕ → Meter → Meter → Call
call_of form old new id before after = record { form = form; old = old; new = new; id = id; before = before; after = after }

-- What the place means is read and copied, and the copy's pointer is at position `at`.
pub record CopiesValue (r : Reading) (c : Call) (at : ℕ) : Type 0 where
  pub value : Tree
  pub is_read : Reads c.form r c.before c.after value
  pub made : IsCopied c.old.words c.new.words c.id at (kept c.form value)

-- What i pointers from a place on mean is read and copied, and the pointers of the copies are from
-- position `at` on.
pub record CopiesChildren (r : Reading) (i : ℕ) (c : Call) (at : ℕ) : Type 0 where
  pub children : Trees
  pub counts : count children ≡ i
  pub are_read : ReadsAll c.form r c.before c.after children
  pub made : AreCopied c.old.words c.new.words c.id at (kept_each c.form children)

-- The elements of a list of structs are read and copied, and their rows are from position `at` on,
-- over the last words of the segment.
pub record CopiesElements (r : Reading) (sizes : ElementSizes) (i : ℕ) (c : Call) (at : ℕ) : Type 0 where
  pub elements : Elements
  pub counts : element_count elements ≡ i
  pub are_read : ReadsElements c.form r sizes.source c.before c.after elements
  pub made : c.new.words ≡ with_segment c.old.words c.id
      (rows_laid (take at (segment c.old.words c.id)) sizes.kept.data_words sizes.kept.pointers (cut_to sizes.kept.data_words sizes.kept.pointers (kept_elements c.form elements)) 0)

-- What the kept pointers of one element mean is read and copied. The data words of the element are
-- from position `at` on, and its pointers after them.
pub record CopiesElement (r : Reading) (sizes : ElementSizes) (c : Call) (at : ℕ) : Type 0 where
  pub children : Trees
  pub counts : count children ≡ sizes.kept.pointers
  pub are_read : ReadsAll c.form (place_past r sizes.source.data_words) c.before c.after children
  pub made :
      c.new.words
      ≡ with_segment c.old.words c.id
      (with_children (overwritten (segment c.old.words c.id) at (words_from r sizes.kept.data_words)) (at + sizes.kept.data_words) (kept_each c.form children))

-- The words ws are added at the end of segment id, from position `head` on, and all others stay.
pub record TakesWords (old new : View) (id head : ℕ) (ws : List ℕ) : Type 0 where
  pub starts : head ≡ length (segment old.words id)
  pub extends : new ≡ record old { words = extended old.words id ws }
