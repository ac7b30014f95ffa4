use Rattle.std.proofs.Common.{arith}
use Rattle.typed_conforming.proofs.Ascii.{ascii_text}
use Rattle.typed_conforming.proofs.conforms.is_utf8_text.Goals as goal

pub returns-then-are_ascii : goal.returns-then-are_ascii
returns-then-are_ascii c = λ S held.
    ascii_text S c.args.start.segment c.args.start.at c.args.count (omega (arith, c.requires, held.1))
    (λ k l. rw held.0 at (c.if-are_ascii.ensures k (omega (arith, l))))
