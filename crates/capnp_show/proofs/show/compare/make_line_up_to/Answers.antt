use Rattle.std.proofs.Common.{ap, ◌∙◌, rules}
use Rattle.std.proofs.lemmas.Int.{to_z-of_z}
use mir.Syntax.{w32}
use Rattle.capnp_pointers.specs.Source.{levels}
use Rattle.std.specs.Prelude.{Some}
use Rattle.capnp_show.specs.Shown.{IsPlain}
use Rattle.capnp_show.specs.declared.show.json.Json.{Json}
use Rattle.capnp_show.proofs.ComparedLines.{to_depth}
use Rattle.capnp_show.proofs.Ends.{end_shown, fresh, line_full}
use Rattle.capnp_show.proofs.show.compare.make_line_up_to.Goals as goal

pub returns-in-Err-Full-clause-line : goal.returns-in-Err-Full-clause-line
returns-in-Err-Full-clause-line g c =
    λ t nest part small is.
    let json : Json = record c.new-json.result { search = Some c.args.search } in
    let plain : IsPlain json = record { no_places = c.new-json.ensures.places } in
    let begins = c.new-json.ensures.shown ∙ ap fresh c.new-lim.ensures in
    let limit = to_z-of_z w32 c.args.limits.nesting_limit (search rules) in
    let there = to_depth (c.levels_left.ensures ∙ ap levels limit) part in
    absurd (line_full _ c.args.limits _ _ t _ json c.write_json.new.json there nest begins (λ e n is. end_shown _ _ _ _ _ e n is (c.in-Err-Full.ensures.shows plain)) c.in-Err-Full.field-0-is small)
