-- Pointers written to objects that are there ("Inter-Segment Pointers").
use Rattle.std.specs.Prelude.{◌≡◌, ◌⊎◌, ℕ, ◌+◌, ◌<◌, ◌≤◌, [], ◌∷◌, length}
use Rattle.capnp_format.specs.Segments.{Segments, Grows, segment, word_at, Target}
use Rattle.capnp_format.specs.Means.{Leads}
use Rattle.capnp_format.specs.Forest.{times, pads_of}
use Rattle.capnp_format.specs.Word.{kind, far_position, is_double, offset_bits, upper_half}
use Rattle.capnp_format.specs.Path.{word_interval}
use Rattle.capnp_allocation.specs.Made.{IsShape}
use Rattle.capnp_allocation.specs.declared.making.Shape.{Shape}
use Rattle.capnp_arena_traits.specs.declared.arena.WordPlace.{WordPlace}

-- From S to R the pointer at a place is written to the object of this shape that starts at h. Its
-- pads are written into new words, and nothing else is written. A struct without sections may start
-- anywhere.
pub record PointsTo (S R : Segments) (shape : Shape) (h at : WordPlace) : Type 0 where
  pub object : Target
  pub grows : Grows S R
  pub leads_there : Leads R at.segment at.at object
  pub inside : object.start ≤ length (segment R object.segment)
  pub kept : (x y : ℕ) → times (word_interval at.segment at.at ∷ []) x y ≡ 0 →
      y < length (segment S x) → word_at R x y ≡ word_at S x y
  pub fresh : (x y : ℕ) → 0 < times (pads_of (word_at R at.segment at.at)) x y →
      (length (segment S x) ≤ y) × (y < length (segment R x))
  pub zero : (x y : ℕ) → times (pads_of (word_at R at.segment at.at)) x y ≡ 0 →
      length (segment S x) ≤ y → word_at R x y ≡ 0
  pub is_shape : IsShape shape object.word
  pub starts : ((object.segment ≡ h.segment) × (object.start ≡ h.at)) ⊎
      ((kind object.word ≡ 0) × (upper_half object.word ≡ 0))

-- If the word x is a far pointer to a landing pad of two words, the first of these is a far pointer
-- in the form for one word, and the second a tag with offset 0 ("Inter-Segment Pointers").
abbrev pub HasPlainPads : Segments → ℕ → Type 0
HasPlainPads S x =
    kind x ≡ 2 → is_double x ≡ 1 →
    let first : ℕ = word_at S (upper_half x) (far_position x) in
    let second : ℕ = word_at S (upper_half x) (far_position x + 1) in
    (kind first ≡ 2) × (is_double first ≡ 0) × (offset_bits second ≡ 0)
