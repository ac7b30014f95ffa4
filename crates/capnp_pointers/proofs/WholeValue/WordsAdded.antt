-- Words that consecutive pointers and elements add, and the places of an object's parts.
use Rattle.std.proofs.Common.{◌≡◌, ℕ, suc, pred, ◌+◌, ◌*◌, ◌<◌, ◌≤◌, List, sym, ap₂, arith}
use Rattle.capnp_words.specs.declared.wire_pointer.StructSize.{StructSize}
use Rattle.capnp_words.specs.Meter.{Meter}
use Rattle.capnp_format.specs.Word.{data_words, pointer_count}
use Rattle.capnp_format.specs.Segments.{Segments, Target}
use Rattle.capnp_format.specs.Tree.{Tree, Trees, no_trees, tree, Elements, no_elements, element}
use Rattle.capnp_format.specs.Canonical.{word_count, word_count_all, word_count_elements}
use Rattle.capnp_format.proofs.Children.{with_last}
use Rattle.capnp_pointers.specs.declared.object.Place.{Place}
use Rattle.capnp_pointers.specs.Demands.{tag}
use Rattle.capnp_pointers.specs.Reading.{Reading, tag_size}
use Rattle.capnp_pointers.specs.Spending.{Paid}
use Rattle.capnp_pointers.proofs.Budget.PaidAndLeft.{affords_none, after_none}
use Rattle.capnp_pointers.proofs.WholeValue.ChildrenRead.{with_last_element}

pub words-with_last : (ts : Trees) (u : Tree) → word_count_all (with_last ts u) ≡ word_count_all ts + word_count u
words-with_last no_trees u = omega arith
words-with_last (tree t ts) u = omega (arith, words-with_last ts u)

pub words-with_last_element : (es : Elements) (ws : List ℕ) (ts : Trees) → word_count_elements (with_last_element es ws ts) ≡ word_count_elements es + word_count_all ts
words-with_last_element no_elements ws ts = omega arith
words-with_last_element (element vs us es) ws ts = omega (arith, words-with_last_element es ws ts)

-- Nothing is paid yet.
pub paid_none : (r : Reading) (m : Meter) → Paid r.charging m m 0 0
paid_none r m = record { covers = affords_none r.charging m; spent = sym (after_none r.charging m) }

rows_within : (i j w : ℕ) → i < j → suc i * w ≤ j * w
rows_within i j w l = grind arith

pub row_within : (i j w : ℕ) → i < j → i * w + w ≤ j * w
row_within i j w l = omega (arith, rows_within i j w l)

-- The first word of an object, as the place of its pointers.
abbrev pub beginning : Reading → Place → Reading
beginning r start = record r { levels = pred r.levels; segment = start.segment; at = start.at }

pub same_place : {s t p q : ℕ} (r : Reading) → s ≡ t → p ≡ q → record r { levels = pred r.levels; segment = s; at = p } ≡ record r { levels = pred r.levels; segment = t; at = q }
same_place r e f = ap₂ (λ s p. record r { levels = pred r.levels; segment = s; at = p }) e f

pub same_size : {size : StructSize} (S : Segments) (a : Target) → size.data_words ≡ data_words (tag S a) → size.pointers ≡ pointer_count (tag S a) → size ≡ tag_size S a
same_size S a wide pointers = ap₂ (λ x y. record { data_words = x; pointers = y }) wide pointers
