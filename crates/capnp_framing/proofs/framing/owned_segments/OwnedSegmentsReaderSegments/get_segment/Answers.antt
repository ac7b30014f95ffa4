-- The words of a segment end inside those of all segments.
use Rattle.std.proofs.Common.{◌≡◌, ◌+◌, ◌-◌, ◌*◌, ◌∙◌, ℕ, List, Some, take, drop, ap, ap₂, refl, sym, arith}
use Rattle.std.proofs.lemmas.Bool.{false≢true}
use Rattle.capnp_framing.specs.Flat.{first_told}
use Rattle.capnp_framing.specs.Reading.{words_told}
use Rattle.capnp_framing.proofs.FlatLemmas.{length-parts, parts-get}
use Rattle.capnp_framing.proofs.ReadingLemmas.{told_fewer, told_more}
use Rattle.capnp_framing.proofs.framing.owned_segments.OwnedSegmentsReaderSegments.get_segment.Goals as goal

pub overflow_mul-result : goal.overflow_mul-result
overflow_mul-result c =
    let table = c.args.self.now.table.items in
    omega (arith, c.words_before-start.ensures, told_fewer c.args.id c.args.self.now.count table (omega arith))

pub overflow_mul-result-2 : goal.overflow_mul-result-2
overflow_mul-result-2 c =
    let table = c.args.self.now.table.items in
    omega (arith, c.end_of-end.ensures, told_fewer (c.args.id + 1) c.args.self.now.count table (omega arith))

pub slice_bounds-result-count : goal.slice_bounds-result-count
slice_bounds-result-count c =
    let table = c.args.self.now.table.items in
    omega (arith, c.words_before-start.ensures, c.end_of-end.ensures, told_more c.args.id table)

pub slice_bounds-result-start : goal.slice_bounds-result-start
slice_bounds-result-start c =
    let table = c.args.self.now.table.items in
    omega (arith, c.words_before-start.ensures, c.end_of-end.ensures, c.as_slice.ensures.len, told_more c.args.id table, told_fewer (c.args.id + 1) c.args.self.now.count table (omega arith))

pub slice_bounds-result-end : goal.slice_bounds-result-end
slice_bounds-result-end c =
    let table = c.args.self.now.table.items in
    omega (arith, c.end_of-end.ensures, c.as_slice.ensures.len, told_fewer (c.args.id + 1) c.args.self.now.count table (omega arith))

pub returns-then-id-self-clause-there : goal.returns-then-id-self-clause-there
returns-then-id-self-clause-there c = (λ some. absurd (false≢true some), λ less. absurd (omega (arith, less, length-parts c.args.self.now.count c.args.self.now.table.items c.args.self.now.words.items)))

pub returns-clause-there : goal.returns-clause-there
returns-clause-there c = (λ _. omega (arith, length-parts c.args.self.now.count c.args.self.now.table.items c.args.self.now.words.items), λ _. refl)

pub returns-clause-bytes : goal.returns-clause-bytes
returns-clause-bytes c =
    let table = c.args.self.now.table.items in
    let words = c.args.self.now.words.items in
    let size : 8 * c.end_of-end.result - 8 * c.words_before-start.result ≡ 8 * first_told (drop (4 * c.args.id) table) = omega (arith, c.words_before-start.ensures, c.end_of-end.ensures, told_more c.args.id table) in
    let at : 8 * c.words_before-start.result ≡ 8 * words_told c.args.id table = omega (arith, c.words_before-start.ensures) in
    parts-get c.args.self.now.count c.args.id table words (omega arith)
    ∙ ap (λ (xs : List ℕ). Some xs) (sym (ap₂ (λ (n : ℕ) (bs : List ℕ). take n bs) size (ap₂ (λ (n : ℕ) (bs : List ℕ). drop n bs) at c.as_slice.ensures.value)))
