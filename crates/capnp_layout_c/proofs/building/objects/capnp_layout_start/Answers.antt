use Rattle.std.proofs.Common.{◌∷◌, [], ap, refl, arith}
use Rattle.capnp_lent_arena.proofs.LentArenaSteps.{zeroed}
use Rattle.capnp_layout_c.proofs.building.objects.capnp_layout_start.Goals as goal

pub returns-clause-root : goal.returns-clause-root
returns-clause-root c _ =
    ap (λ ws. ws ∷ []) (zeroed 0 1 c.args.bytes.now c.zero_words.new.bytes _ (omega (arith, c.if-bytes-lt8.false)) c.zero_words.auto.bytes c.zero_words.ensures refl)
