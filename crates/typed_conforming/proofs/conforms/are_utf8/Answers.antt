use Rattle.std.proofs.Common.{◌≡◌, ◌∙◌}
use Rattle.std.specs.Str.{IsUtf8, IsValidUpTo, valid_up_to}
use Rattle.typed_conforming.proofs.TextBytes.{utf8_result}
use Rattle.typed_conforming.proofs.conforms.are_utf8.Goals as goal

pub returns-clause-value : goal.returns-clause-value
returns-clause-value c =
    let bytes = c.args.bytes.now in
    c.is_ok.ensures.value
    ∙ utf8_result bytes (λ s. (s.now ≡ bytes) × IsUtf8 bytes) (λ e. (IsUtf8 bytes → ⊥) × IsValidUpTo bytes (valid_up_to e)) c.from_utf8.result (λ s is. is.1) (λ e no. no.0) c.from_utf8.ensures.cases
