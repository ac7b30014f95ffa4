use Rattle.std.proofs.Common.{◌≡◌, ℕ, ◌++◌, refl, sym, ap₂, ◌∙◌, append_assoc}
use Rattle.std.specs.Prelude.{codes}
use Rattle.std.specs.Fmt.{decimal}
use Rattle.capnp_show.specs.Line.{member}
use Rattle.capnp_show.specs.Shown.{sizes_members}
use Rattle.capnp_show.proofs.Adds.{adds_as, adds_stops, adds_then, adds_three}
use Rattle.capnp_show.proofs.show.text.Text.push_sizes.Goals as goal

whole : (d q e p : ℕ) → d ≡ e → q ≡ p → (codes "\"data_words\":" ++ decimal d) ++ ((codes ",\"pointer_count\":" ++ decimal q) ++ codes ",") ≡ sizes_members e p
whole d q e p same other =
    sym (append_assoc (member (codes "data_words") (decimal d)) (codes ",") (member (codes "pointer_count") (decimal q) ++ codes ","))
    ∙ ap₂ sizes_members same other

pub returns-in_err-push_keyed : goal.returns-in_err-push_keyed
returns-in_err-push_keyed c =
    adds_as (whole c.from.result c.args.size.pointers c.args.size.data_words c.args.size.pointers c.from.ensures refl)
    (adds_stops c.from_residual.result _ ((codes ",\"pointer_count\":" ++ decimal c.args.size.pointers) ++ codes ",") c.from_residual.ensures.1 c.in_err-push_keyed.ensures)

pub returns-in_err-push_keyed-2 : goal.returns-in_err-push_keyed-2
returns-in_err-push_keyed-2 c =
    adds_as (whole c.from.result c.from-2.result c.args.size.data_words c.args.size.pointers c.from.ensures c.from-2.ensures)
    (adds_then c.in_ok-push_keyed.ensures (adds_stops c.from_residual-in_err-push_keyed-2.result _ (codes ",") c.from_residual-in_err-push_keyed-2.ensures.1 c.in_err-push_keyed-2.ensures))

pub returns : goal.returns
returns c =
    adds_as (whole c.from.result c.from-2.result c.args.size.data_words c.args.size.pointers c.from.ensures c.from-2.ensures)
    (adds_three c.in_ok-push_keyed.ensures c.in_ok-push_keyed-2.ensures c.push.ensures)
