use Rattle.std.proofs.Common.{◌≡◌, ◌<◌, Ok, ap, sym, ◌∙◌, w32, rules}
use Rattle.std.proofs.lemmas.Int.{to_z-of_z}
use Rattle.std.proofs.lemmas.Result.{err_from_is_err_and}
use Rattle.capnp_format.specs.Word.{kind}
use Rattle.capnp_pointers.specs.Demands.{claimed_words}
use Rattle.capnp_pointers.specs.Enter.{shape}
use Rattle.capnp_pointers.specs.Entering.{found_target, enter_plain}
use Rattle.capnp_pointers.specs.Metered.{onward, answer}
use Rattle.capnp_pointers.specs.Reading.{Reading, pointer_at, word_of}
use Rattle.capnp_pointers.specs.Source.{levels}
use Rattle.capnp_pointers.proofs.Following.FollowedBySteps.{near_found}
use Rattle.capnp_pointers.proofs.source.Source.enter_near.Goals as goal

pub charge_claim-requires : goal.charge_claim-requires
charge_claim-requires g c =
    let r : Reading = pointer_at g.A.ReaderArena c.args.self c.args.pointer in
    let near : kind (word_of r) < 2 = rw c.requires.word.there at c.requires.near in
    c.requires.claimed ∙ ap claimed_words (c.requires.word.there ∙ sym (ap (λ a. a.word) (near_found r (found_target c.in_ok-found.found) c.args.lim.now c.follow.new.lim near c.in_ok-found.ensures.computed)))

pub returns : goal.returns
returns g c =
    let r : Reading = pointer_at g.A.ReaderArena c.args.self c.args.pointer in
    let near : kind (word_of r) < 2 = rw c.requires.word.there at c.requires.near in
    let depth : c.levels_left.result ≡ r.levels = c.levels_left.ensures ∙ ap levels (to_z-of_z w32 c.args.pointer.nesting_limit (search rules)) in
    ap (onward (enter_plain r)) c.in_ok-found.ensures.computed
    ∙ ap (onward (λ _. answer (shape r.segments (found_target c.in_ok-found.found)))) (rw depth at c.in_ok-charge_claim.ensures)
    ∙ ap (λ a. (Ok (shape r.segments a), c.charge_claim.new.lim)) (near_found r (found_target c.in_ok-found.found) c.args.lim.now c.follow.new.lim near c.in_ok-found.ensures.computed)

pub returns-in_err-charge_claim : goal.returns-in_err-charge_claim
returns-in_err-charge_claim g c =
    let r : Reading = pointer_at g.A.ReaderArena c.args.self c.args.pointer in
    let depth : c.levels_left.result ≡ r.levels = c.levels_left.ensures ∙ ap levels (to_z-of_z w32 c.args.pointer.nesting_limit (search rules)) in
    let p = err_from_is_err_and c.from_residual-in_err-charge_claim.result c.from_residual-in_err-charge_claim.ensures.1 in
    rw (p.1, p.2) (
    ap (onward (enter_plain r)) c.in_ok-found.ensures.computed
    ∙ ap (onward (λ _. answer (shape r.segments (found_target c.in_ok-found.found)))) (rw depth at c.in_err-charge_claim.ensures))
