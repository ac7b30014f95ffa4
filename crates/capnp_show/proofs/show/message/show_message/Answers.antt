use Rattle.std.proofs.Common.{ℕ, List, sym, ◌∙◌, subst}
use Rattle.capnp_format.specs.Segments.{Segments}
use Rattle.capnp_framing.specs.Writing.{Prints}
use Rattle.capnp_show.specs.ShownParts.{IsShownPart}
use Rattle.capnp_show.proofs.show.message.show_message.Goals as goal

pub returns-then-showing-clause-value : goal.returns-then-showing-clause-value
returns-then-showing-clause-value g c =
    λ t json values part.
    let there = subst (λ (S : Segments). IsShownPart S c.args.limits c.args.path.now c.args.showing.depth t) (sym c.new-arena.ensures.words) part in
    let line = c.in_ok-json.ensures.shown t values there c.new-arena.ensures.nesting in
    subst (λ (xs : List ℕ). Prints g.W.Output c.args.output.now c.write.new.output xs) line.0 c.in_ok-write.ensures.writes.written

pub returns-then-showing-clause-sound : goal.returns-then-showing-clause-sound
returns-then-showing-clause-sound g c =
    λ t json values part short.
    let there = subst (λ (S : Segments). IsShownPart S c.args.limits c.args.path.now c.args.showing.depth t) (sym c.new-arena.ensures.words) part in
    (c.in_ok-json.ensures.shown t values there c.new-arena.ensures.nesting).1 short

pub returns-clause-value : goal.returns-clause-value
returns-clause-value g c = λ t json. absurd (cc (sym c.if-showing.false ∙ json))

pub returns-clause-sound : goal.returns-clause-sound
returns-clause-sound g c = λ t json. absurd (cc (sym c.if-showing.false ∙ json))

pub returns-then-showing-clause-shown : goal.returns-then-showing-clause-shown
returns-then-showing-clause-shown g c =
    let words = c.new-arena.ensures.words in
    let nest = c.new-arena.ensures.nesting in (
      c.in_ok-json.json.text.bytes.items,
      record {
        short = c.in_ok-write.ensures.short;
        line = λ json values. rw words at ((c.in_ok-json.ensures.line values nest).0);
        sound = λ json values. rw words at ((c.in_ok-json.ensures.line values nest).1);
      },
      c.in_ok-write.ensures.writes.written,
    )

pub returns-clause-shown : goal.returns-clause-shown
returns-clause-shown g c = (
  _,
  record {
    short = c.in_ok-write-2.ensures.short;
    line = λ json. absurd (cc (sym c.if-showing.false ∙ json));
    sound = λ json. absurd (cc (sym c.if-showing.false ∙ json));
  },
  c.in_ok-write-2.ensures.writes.written,
)
