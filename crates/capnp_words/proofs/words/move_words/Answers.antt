use Rattle.std.proofs.Common.{ap, ◌∙◌, ◌+◌, ◌*◌, ◌-◌, take, drop, arith}
use Rattle.capnp_format.specs.Bytes.{words_of}
use Rattle.capnp_words.proofs.WordsPut.{words_of-copied_behind, words_of-copy_within}
use Rattle.capnp_words.proofs.words.move_words.Goals as goal

pub returns-then-from-n : goal.returns-then-from-n
returns-then-from-n c =
    rw (c.split_at_mut-front.ensures.front, c.split_at_mut-front.ensures.back)
    (words_of-copied_behind c.args.from c.args.to c.args.n (8 * (c.args.from + c.args.n) - 8 * c.args.from) c.args.bytes.now c.copy.new.to (c.copy.ensures ∙ ap (λ bs. take (8 * (c.args.from + c.args.n) - 8 * c.args.from) (drop (8 * c.args.from) bs)) c.split_at_mut-front.ensures.front) (omega arith) c.if-from-n.true c.requires.room)

pub returns-else-from-n : goal.returns-else-from-n
returns-else-from-n c =
    ap words_of c.copy_within.ensures.after ∙ words_of-copy_within c.args.from c.args.to c.args.n c.args.bytes.now c.requires.there c.requires.room
