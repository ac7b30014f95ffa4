use Rattle.std.proofs.Common.{◌^◌, ◌<◌, ℕ, List, get_or, subst}
use Rattle.layout_vectors.proofs.vectors.objects.has_zero_padding.Goals as goal

pub returns-in-Ok-clause-small : goal.returns-in-Ok-clause-small
returns-in-Ok-clause-small g c = λ p. subst (λ (ws : List ℕ). get_or ws p 0 < 2 ^ 64) c.in-Ok.ensures.words (c.is_zero_padded.ensures.small p)
