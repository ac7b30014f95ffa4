use Rattle.std.proofs.Common.{ap, rules}
use Rattle.capnp_format.specs.Bytes.{words_of}
use Rattle.capnp_arena_traits.specs.View.{View}
use Rattle.capnp_copies.proofs.Growth.{none_written}
use Rattle.capnp_copies.proofs.SegmentsWritten.{WrittenOver, behind_over}
use Rattle.capnp_copies.proofs.copy.elements.put_words.Goals as goal

pub returns-clause-taken : goal.returns-clause-taken
returns-clause-taken g c =
    none_written (g.A.BuilderArena.view c.args.arena.now) (g.A.BuilderArena.view c.copy_words.new.arena) c.args.id c.args.at (words_of c.args.words.now) c.requires.inside c.copy_words.ensures

pub returns-clause-behind : goal.returns-clause-behind
returns-clause-behind g c = λ i l.
    (let over : WrittenOver (g.A.BuilderArena.view c.args.arena.now).words (g.A.BuilderArena.view c.copy_words.new.arena).words c.args.id c.args.at (words_of c.args.words.now) =
    record { some = search rules; inside = c.requires.inside; written = ap (λ (v : View). v.words) c.copy_words.ensures } in
    behind_over i over l)
