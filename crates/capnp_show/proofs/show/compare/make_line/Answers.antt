use Rattle.std.proofs.Common.{ap, ◌∙◌, rules}
use Rattle.std.proofs.lemmas.Int.{to_z-of_z}
use mir.Syntax.{w32}
use Rattle.capnp_pointers.specs.Source.{levels}
use Rattle.capnp_show.specs.Shown.{IsPlain, Shown}
use Rattle.capnp_show.proofs.ComparedLines.{to_depth}
use Rattle.capnp_show.proofs.Ends.{end_shown, fresh, line_full, line_written}
use Rattle.capnp_show.proofs.show.compare.make_line.Goals as goal

pub returns-in-Ok-clause-line : goal.returns-in-Ok-clause-line
returns-in-Ok-clause-line g c =
    λ t nest part.
    let plain : IsPlain c.new-json.result = record { no_places = c.new-json.ensures.places } in
    let begins = c.new-json.ensures.shown ∙ ap fresh c.new-lim.ensures in
    let limit = to_z-of_z w32 c.args.limits.nesting_limit (search rules) in
    let there = to_depth (c.levels_left.ensures ∙ ap levels limit) part in
    let (m, shows) = line_written _ c.args.limits _ _ t _ c.new-json.result c.write_json.new.json there nest begins (λ e n is. end_shown _ _ _ _ _ e n is (c.in-Ok.ensures.shows plain)) in
    ap (λ (s : Shown). s.text) shows.written

pub returns-in-Err-Full-clause-line : goal.returns-in-Err-Full-clause-line
returns-in-Err-Full-clause-line g c =
    λ t nest part is small.
    let plain : IsPlain c.new-json.result = record { no_places = c.new-json.ensures.places } in
    let begins = c.new-json.ensures.shown ∙ ap fresh c.new-lim.ensures in
    let limit = to_z-of_z w32 c.args.limits.nesting_limit (search rules) in
    let there = to_depth (c.levels_left.ensures ∙ ap levels limit) part in
    line_full _ c.args.limits _ _ t _ c.new-json.result c.write_json.new.json there nest begins (λ e n is. end_shown _ _ _ _ _ e n is (c.in-Err-Full.ensures.shows plain)) c.in-Err-Full.field-0-is small
