use Rattle.std.proofs.Common.{ℕ, ◌-◌, ◌+◌, ◌*◌, refl, arith}
use Rattle.capnp_arena.proofs.RowPut.{put_clear, put_capacity, put_words}
use Rattle.capnp_arena.proofs.arena.row.Row.put_word.Goals as goal

pub invariant_of-self : goal.invariant_of-self
invariant_of-self g c =
    record {
      clear = put_clear g.S.Segment c.args.self.now (8 * c.args.at) (8 * c.args.at + 8 - 8 * c.args.at) c.bytes_mut-bytes.result.now c.put_word.new.bytes c.bytes_mut-bytes.ensures.now (omega (arith, c.requires)) c.put_word.auto.bytes;
    }

pub returns : goal.returns
returns g c =
    let row = c.args.self.now in
    let at = c.args.at in
    let n : ℕ = 8 * at + 8 - 8 * at in
    let bytes = c.bytes_mut-bytes.result.now in
    let ys = c.put_word.new.bytes in
    let same = c.bytes_mut-bytes.ensures.now in
    record {
      words = put_words g.S.Segment row at c.args.word (8 * at) n bytes ys same c.requires refl (omega arith) c.put_word.auto.bytes c.put_word.ensures;
      used = refl;
      bound = refl;
      capacity = put_capacity g.S.Segment row (8 * at) n bytes ys same (omega (arith, c.requires)) c.put_word.auto.bytes;
    }
