use Rattle.std.proofs.Common.{refl, w32, arith, rules}
use Rattle.std.proofs.lemmas.Int.{to_z-of_z}
use Rattle.capnp_pointers.specs.Reading.{place_past}
use Rattle.capnp_readers.specs.Readers.{read_by}
use Rattle.capnp_readers.specs.Sizes.{pointers_read}
use Rattle.capnp_readers.specs.Values.{child_cost}
use Rattle.capnp_readers.proofs.Values.{child_means, child_beyond, child_within}
use Rattle.capnp_readers.proofs.readers.struct_reader.StructReader.get_pointer_field.Goals as goal

pub returns-then-index-from-clause-means : goal.returns-then-index-from-clause-means
returns-then-index-from-clause-means g c =
    let beyond = c.if-index-from.true in
    let made = c.new_default.ensures in
    λ t shows. child_means g.A.ReaderArena c.args.self.now c.args.index (read_by g.A.ReaderArena c.new_default.result) t (record { there = λ l. absurd (omega (arith, l, beyond, c.from.ensures)); beyond = λ l. rw made.source refl }) shows

pub returns-then-index-from-clause-value : goal.returns-then-index-from-clause-value
returns-then-index-from-clause-value g c = λ t shows. record { cost = child_cost g.A.ReaderArena shows c.args.index; means = returns-then-index-from-clause-means g c t shows }

pub returns-then-index-from-clause-stays : goal.returns-then-index-from-clause-stays
returns-then-index-from-clause-stays g c = let made = c.new_default.ensures in rw made.source (record { words = λ all s p. omega arith; affords = λ m n h. tt })

pub returns-then-index-from-clause-charging : goal.returns-then-index-from-clause-charging
returns-then-index-from-clause-charging g c = λ t shows other. absurd (other (child_beyond g.A.ReaderArena c.args.self.now c.args.index t shows (omega (arith, c.if-index-from.true, c.from.ensures))))

pub returns-clause-means : goal.returns-clause-means
returns-clause-means g c =
    let within = c.if-index-from.false in
    let level = to_z-of_z w32 c.args.self.now.nesting_limit (search rules) in
    λ t shows. rw level (child_means g.A.ReaderArena c.args.self.now c.args.index (place_past (pointers_read g.A.ReaderArena c.args.self.now) c.args.index) t (record { there = λ l. refl; beyond = λ l. absurd (omega (arith, l, within, c.from.ensures)) }) shows)

pub returns-clause-value : goal.returns-clause-value
returns-clause-value g c = λ t shows. record { cost = child_cost g.A.ReaderArena shows c.args.index; means = returns-clause-means g c t shows }

pub returns-clause-within : goal.returns-clause-within
returns-clause-within g c = child_within g.A.ReaderArena c.args.self.now c.args.index

pub returns-then-index-from-clause-within : goal.returns-then-index-from-clause-within
returns-then-index-from-clause-within g c = child_within g.A.ReaderArena c.args.self.now c.args.index
