use Rattle.std.proofs.Common.{◌≡◌, ◌≢◌, ◌<◌, ap, ◌∙◌, w32, arith, rules}
use Rattle.std.proofs.lemmas.Int.{to_z-of_z}
use Rattle.capnp_format.specs.Word.{kind}
use Rattle.capnp_pointers.specs.Demands.{IsVoidList, IsStructList}
use Rattle.capnp_pointers.specs.declared.object.Purpose.TheVariants.{Size}
use Rattle.capnp_pointers.specs.Reading.{Reading, pointer_at, word_of}
use Rattle.capnp_pointers.specs.Source.{levels}
use Rattle.capnp_pointers.proofs.OneObject.ShapeOfWord.{near_read, near_entered}
use Rattle.capnp_pointers.proofs.source.Source.measure_near.Goals as goal

pub returns : goal.returns
returns g c =
    let r : Reading = pointer_at g.A.ReaderArena c.args.self c.args.pointer in
    let depth : c.levels_left.result ≡ r.levels = c.levels_left.ensures ∙ ap levels (to_z-of_z w32 c.args.pointer.nesting_limit (search rules)) in
    let level : 0 < r.levels = rw depth at (let some : 0 < c.levels_left.result = omega (arith, c.if-levels_left-eq0.false) in some) in
    let some : word_of r ≢ 0 = rw c.requires.word.there at c.requires.word.some in
    let near : kind (word_of r) < 2 = rw c.requires.word.there at c.requires.near in
    let bits : IsVoidList (word_of r) → ⊥ = rw c.requires.word.there at c.requires.of_bits in
    let untagged : IsStructList (word_of r) → ⊥ = rw c.requires.word.there at c.requires.untagged in
    let computed = near_read Size r c.args.lim.now some near bits untagged (λ _. level) c.enter_near.ensures in
    record { object = near_entered Size r c.args.lim.now c.enter_near.new.lim c.enter_near.result some near untagged (λ _. level) computed; computed = computed }
