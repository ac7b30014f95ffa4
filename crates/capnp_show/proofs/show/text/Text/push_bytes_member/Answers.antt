use Rattle.std.proofs.Common.{◌++◌, ap, ◌∙◌}
use Rattle.std.specs.Prelude.{codes}
use Rattle.capnp_show.specs.Line.{escaped, in_quotes, member}
use Rattle.capnp_show.proofs.Adds.{adds_as}
use Rattle.capnp_show.proofs.show.text.Text.push_bytes_member.Goals as goal

pub returns-in-Some : goal.returns-in-Some
returns-in-Some c =
    rw c.in-Some.ensures.0 (adds_as (ap (λ xs. member (codes "text") (in_quotes (escaped xs)) ++ codes "}") (c.as_bytes.ensures.value ∙ c.in-Some.ensures.1)) c.push_text_member.ensures)

pub returns-in-None : goal.returns-in-None
returns-in-None c = rw c.in-None.ensures c.push_hex_member.ensures
