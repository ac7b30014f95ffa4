-- The words of a segment end inside those of all segments.
use Rattle.std.proofs.Common.{◌≡◌, ◌+◌, ◌-◌, ◌*◌, ◌∙◌, ℕ, List, Some, take, drop, ap, ap₂, refl, sym, arith}
use Rattle.std.proofs.lemmas.Bool.{false≢true}
use Rattle.capnp_framing.specs.Flat.{first_told}
use Rattle.capnp_framing.specs.Reading.{words_told}
use Rattle.capnp_framing.proofs.FlatLemmas.{length-parts, parts-get}
use Rattle.capnp_framing.proofs.ReadingLemmas.{told_fewer, told_more}
use Rattle.capnp_framing.proofs.framing.flat.FrameSegmentsReaderSegments.get_segment.Goals as goal

pub overflow_mul-at : goal.overflow_mul-at
overflow_mul-at c =
    let table = c.args.self.now.table.now in
    omega (arith, c.words_before.ensures, told_more c.args.id table, told_fewer (c.args.id + 1) c.args.self.now.count table (omega arith))

pub overflow_add-result : goal.overflow_add-result
overflow_add-result c =
    let table = c.args.self.now.table.now in
    omega (arith, c.words_before.ensures, c.number_at.ensures, told_more c.args.id table, told_fewer (c.args.id + 1) c.args.self.now.count table (omega arith))

pub slice_bounds-result-end : goal.slice_bounds-result-end
slice_bounds-result-end c =
    let table = c.args.self.now.table.now in
    omega (arith, c.words_before.ensures, c.number_at.ensures, told_more c.args.id table, told_fewer (c.args.id + 1) c.args.self.now.count table (omega arith))

pub returns-then-id-self-clause-there : goal.returns-then-id-self-clause-there
returns-then-id-self-clause-there c = (λ some. absurd (false≢true some), λ less. absurd (omega (arith, less, length-parts c.args.self.now.count c.args.self.now.table.now c.args.self.now.words.now)))

pub returns-clause-there : goal.returns-clause-there
returns-clause-there c = (λ _. omega (arith, length-parts c.args.self.now.count c.args.self.now.table.now c.args.self.now.words.now), λ _. refl)

pub returns-clause-bytes : goal.returns-clause-bytes
returns-clause-bytes c =
    let table = c.args.self.now.table.now in
    let words = c.args.self.now.words.now in
    let at : 8 * c.words_before.result ≡ 8 * words_told c.args.id table = omega (arith, c.words_before.ensures) in
    let size : 8 * c.words_before.result + 8 * c.number_at.result - 8 * c.words_before.result ≡ 8 * first_told (drop (4 * c.args.id) table) = omega (arith, c.number_at.ensures) in
    parts-get c.args.self.now.count c.args.id table words (omega arith)
    ∙ ap (λ (xs : List ℕ). Some xs) (sym (ap₂ (λ (n : ℕ) (bs : List ℕ). take n bs) size (ap (λ (n : ℕ). drop n words) at)))
