use Rattle.std.proofs.Common.{◌≡◌, ◌≢◌, false, None, get_or, nat_eq, sym, ap, ◌∙◌, w32}
use Rattle.std.proofs.lemmas.Bool.{false≢true, ne_eqb}
use Rattle.std.proofs.lemmas.Int.{to_z-of_z}
use Rattle.capnp_pointers.specs.Expected.{expectation}
use Rattle.capnp_pointers.specs.Metered.{onward}
use Rattle.capnp_pointers.specs.Reading.{Reading, reading_at, word_of}
use Rattle.capnp_pointers.specs.Source.{levels}
use Rattle.capnp_pointers.specs.Values.{enter_expected}
use Rattle.capnp_pointers.proofs.OneObject.ExpectedBySteps.{one_level}
use Rattle.capnp_pointers.proofs.source.Source.read_as_expected.Goals as goal

pub returns : goal.returns
returns g c =
    let r : Reading = reading_at g.A.ReaderArena c.args.self c.args.place c.args.nesting_limit in
    let word : c.word-word.result.0 ≡ word_of r = c.word-word.ensures.value ∙ ap (λ ws. get_or ws c.args.place.at 0) c.requires.0 in
    let some : c.word-word.result.0 ≢ 0 = λ e. false≢true (c.if-is_null.ensures.1 e) in
    let there : nat_eq (word_of r) 0 ≡ false = ne_eqb _ _ (rw word at some) in
    let depth : c.levels_left.result ≡ r.levels = c.levels_left.ensures ∙ ap levels (to_z-of_z w32 c.args.nesting_limit c.ranges.nesting_limit) in
    let level : (expectation c.args.expected).too_deep r.levels ≡ None = rw depth at (sym c.depth_error.ensures ∙ c.in-None.is) in
    let entered = c.enter_expected.ensures in
    record {
      computed = rw (there, level) (ap (onward (enter_expected (expectation c.args.expected) (one_level r))) c.in_ok-found.ensures.computed ∙ entered.computed);
      held = entered.held;
      few = entered.few;
      at_hand = entered.at_hand;
    }
