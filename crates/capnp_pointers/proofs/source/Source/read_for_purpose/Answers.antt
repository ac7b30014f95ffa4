use Rattle.std.proofs.Common.{◌≡◌, ◌≢◌, true, false, get_or, nat_eq, sym, ap, ◌∙◌, w32}
use Rattle.std.proofs.lemmas.Bool.{false≢true, ne_eqb}
use Rattle.std.proofs.lemmas.Int.{to_z-of_z}
use Rattle.capnp_pointers.specs.Enter.{has_level, enter}
use Rattle.capnp_pointers.specs.Metered.{onward}
use Rattle.capnp_pointers.specs.Reading.{Reading, reading_at, word_of}
use Rattle.capnp_pointers.specs.Source.{levels}
use Rattle.capnp_pointers.proofs.source.Source.read_for_purpose.Goals as goal

pub returns : goal.returns
returns g c =
    let r : Reading = reading_at g.A.ReaderArena c.args.self c.args.place c.args.nesting_limit in
    let word : c.word-word.result.0 ≡ word_of r = c.word-word.ensures.value ∙ ap (λ ws. get_or ws c.args.place.at 0) c.requires.0 in
    let some : c.word-word.result.0 ≢ 0 = λ e. false≢true (c.if-is_null.ensures.1 e) in
    let there : nat_eq (word_of r) 0 ≡ false = ne_eqb _ _ (rw word at some) in
    let depth : c.levels_left-depth.result ≡ r.levels = c.levels_left-depth.ensures ∙ ap levels (to_z-of_z w32 c.args.nesting_limit c.ranges.nesting_limit) in
    let has : has_level c.args.purpose r.levels ≡ true = rw depth at (sym c.has_level.ensures ∙ c.if-not-has_level.false) in
    let entered = rw depth at c.enter.ensures in
    record {
      computed = rw (there, has) (ap (onward (enter c.args.purpose r)) c.in_ok-found.ensures.computed ∙ entered.computed);
      held = entered.held;
      few = entered.few;
      at_hand = entered.at_hand;
    }
