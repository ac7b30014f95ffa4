use Rattle.std.proofs.Common.{◌≡◌, ap, sym, arith, IfOk, subst}
use Rattle.capnp_format.specs.Segments.{Segments}
use Rattle.capnp_allocation.proofs.Memory.{words_in}
use Rattle.capnp_allocation.proofs.MadeWords.{word_put}
use Rattle.capnp_allocation.proofs.Placed.{struct_made, empty_made}
use Rattle.capnp_allocation.proofs.Outcomes.{on_ok_so}
use Rattle.capnp_arena_traits.specs.View.{View}
use Rattle.capnp_allocation.specs.Makes.{Allocates, ObjectStartsAt, call_at}
use Rattle.capnp_allocation.specs.declared.making.Shape.TheVariants.{Struct as StructShape}
use Rattle.capnp_allocation.proofs.Starts.{made_starts}
use Rattle.capnp_allocation.proofs.making.make_struct.Goals as goal

pub returns-then-words-eq0-clause-made : goal.returns-then-words-eq0-clause-made
returns-then-words-eq0-clause-made g c =
    let S : Segments = (g.A.BuilderArena.view c.args.arena.now).words in
    let R : Segments = (g.A.BuilderArena.view c.set_word.new.arena).words in
    let put = word_put S R c.args.id c.args.at c.empty_struct.result.0 c.requires.place (ap words_in c.set_word.ensures) in
    let none_d : 0 ≡ c.args.size.data_words = omega arith in
    let none_q : 0 ≡ c.args.size.pointers = omega arith in
    rw (sym none_d, sym none_q) (struct_made S R c.args.id c.args.at 0 0 _ c.requires.place (empty_made S R c.args.id c.args.at c.empty_struct.result.0 c.requires.place put c.empty_struct.ensures) (omega arith) (omega arith) (omega arith))

pub returns-clause-made : goal.returns-clause-made
returns-clause-made g c =
    let S : Segments = (g.A.BuilderArena.view c.args.arena.now).words in
    let R : Segments = (g.A.BuilderArena.view c.make_object.new.arena).words in
    let total = c.total-words.ensures in
    on_ok_so c.make_object.result _ _ c.make_object.ensures.made (λ h made.
    (let (a, m, shape, is_segment, is_start) = made in struct_made S R c.args.id c.args.at c.args.size.data_words c.args.size.pointers a c.requires.place (rw total at m) shape.0 shape.1 shape.2))

pub returns-clause-start : goal.returns-clause-start
returns-clause-start g c =
    let old : View = g.A.BuilderArena.view c.args.arena.now in
    let new : View = g.A.BuilderArena.view c.make_object.new.arena in
    subst (λ n. IfOk c.make_object.result (ObjectStartsAt (call_at c.args.id c.args.at old new) n)) c.total-words.ensures (made_starts c.make_object.result old new c.args.id c.args.at c.total-words.result (StructShape c.args.size) c.make_object.ensures.made c.make_object.ensures.behind)

pub returns-clause-memory : goal.returns-clause-memory
returns-clause-memory g c =
    subst (Allocates c.make_object.result (call_at c.args.id c.args.at (g.A.BuilderArena.view c.args.arena.now) (g.A.BuilderArena.view c.make_object.new.arena))) c.total-words.ensures c.make_object.ensures.memory
