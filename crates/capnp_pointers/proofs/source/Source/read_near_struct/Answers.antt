use Rattle.std.proofs.Common.{◌≡◌, ◌≢◌, ◌<◌, arith, eq-eqb}
use Rattle.capnp_format.specs.Word.{kind}
use Rattle.capnp_pointers.specs.Demands.{IsStructList}
use Rattle.capnp_pointers.specs.declared.object.Purpose.TheVariants.{Value}
use Rattle.capnp_pointers.specs.Reading.{Reading, pointer_at, word_of}
use Rattle.capnp_pointers.proofs.OneObject.ShapeOfWord.{near_read, near_entered, near_refused}
use Rattle.capnp_pointers.proofs.source.Source.read_near_struct.Goals as goal

pub enter_near-requires-clause-claimed : goal.enter_near-requires-clause-claimed
enter_near-requires-clause-claimed g c = search (c.struct_word_size.ensures, eq-eqb (kind c.args.pointer.word.0) 0 c.requires.is_struct)

pub returns : goal.returns
returns g c =
    let r : Reading = pointer_at g.A.ReaderArena c.args.self c.args.pointer in
    let some : word_of r ≢ 0 = rw c.requires.word.there at c.requires.word.some in
    let is_it : kind (word_of r) ≡ 0 = rw c.requires.word.there at c.requires.is_struct in
    let near : kind (word_of r) < 2 = omega (arith, is_it) in
    let untagged : IsStructList (word_of r) → ⊥ = λ t. omega (arith, t.0, is_it) in
    let computed = near_read Value r c.args.lim.now some near (λ v. omega (arith, v.0, is_it)) untagged (λ e. absurd (cc e)) c.enter_near.ensures in
    record {
      object = near_entered Value r c.args.lim.now c.enter_near.new.lim c.enter_near.result some near untagged (λ e. absurd (cc e)) computed;
      refused = near_refused r c.args.lim.now c.enter_near.new.lim c.enter_near.result computed;
    }
