use Rattle.std.proofs.Common.{ap, sym, subst, ◌∙◌}
use Rattle.std.specs.Prelude.{List, ℕ, ◌≤◌, length}
use Rattle.capnp_pointers.specs.Source.{levels}
use Rattle.capnp_show.specs.Adding.{max_text}
use Rattle.capnp_show.specs.Shown.{IsPlain, Shown}
use Rattle.capnp_show.proofs.Ends.{end_shown, fresh, line_written, whole_shown}
use Rattle.capnp_show.proofs.ShownLines.{line_not_written, line_written_whole, shown_cut, shown_short}
use Rattle.capnp_show.proofs.show.message.make_json.Goals as goal

pub returns-in-Ok-clause-shown : goal.returns-in-Ok-clause-shown
returns-in-Ok-clause-shown g c =
    λ t values part nest.
    let plain : IsPlain c.new-json.result = record { no_places = rw values at c.new-json.ensures.places } in
    let begins = c.new-json.ensures.shown ∙ ap fresh c.new-lim.ensures in
    let (m, shows) = line_written _ c.args.limits c.args.path.now c.args.showing.depth t _ c.new-json.result c.write_json.new.json part nest begins (λ e n is. end_shown _ _ _ _ _ e n is (c.in-Ok.ensures.shows plain)) in
    let text = ap (λ (s : Shown). s.text) shows.written in
    (text ∙ sym (shown_short t (subst (λ (xs : List ℕ). length xs ≤ max_text) text c.in-Ok.ensures.fits)), λ short. ap (λ (s : Shown). s.sound) shows.written)

pub returns-in-Err-Full-clause-shown : goal.returns-in-Err-Full-clause-shown
returns-in-Err-Full-clause-shown g c =
    λ t values part nest.
    let plain : IsPlain c.new-json.result = record { no_places = rw values at c.new-json.ensures.places } in
    let begins = c.new-json.ensures.shown ∙ ap fresh c.new-lim.ensures in
    let (m, shows) = line_written _ c.args.limits c.args.path.now c.args.showing.depth t _ c.new-json.result c.write_json.new.json part nest begins (λ e n is. end_shown _ _ _ _ _ e n is (c.in-Err-Full.ensures.shows plain)) in
    let long = shows.full c.in-Err-Full.field-0-is in
    shown_cut t long c.cut_line.result c.cut_line.ensures.line

pub returns-in-Ok-clause-line : goal.returns-in-Ok-clause-line
returns-in-Ok-clause-line g c =
    λ values nest.
    let plain : IsPlain c.new-json.result = record { no_places = rw values at c.new-json.ensures.places } in
    let begins = c.new-json.ensures.shown ∙ ap fresh c.new-lim.ensures in
    let shows = whole_shown _ _ _ _ _ c.args.limits (ap levels nest) begins (c.in-Ok.ensures.shows plain) in
    line_written_whole shows c.in-Ok.ensures.fits

pub returns-in-Err-Full-clause-line : goal.returns-in-Err-Full-clause-line
returns-in-Err-Full-clause-line g c =
    λ values nest.
    let plain : IsPlain c.new-json.result = record { no_places = rw values at c.new-json.ensures.places } in
    let begins = c.new-json.ensures.shown ∙ ap fresh c.new-lim.ensures in
    let shows = whole_shown _ _ _ _ _ c.args.limits (ap levels nest) begins (c.in-Err-Full.ensures.shows plain) in
    line_not_written shows c.in-Err-Full.field-0-is c.cut_line.result c.cut_line.ensures.line
