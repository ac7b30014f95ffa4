-- Each arm states about the place what the segment states: one lemma for each arm, instead of a
-- search among all facts.
use Rattle.std.proofs.Common.{◌∙◌, true, rules, refl, sym, ap, pos, ◌+ℤ◌}
use Rattle.std.proofs.Math.Facts.{to_z-of_z}
use Rattle.std.proofs.lemmas.Bool.{false≢true}
use Rattle.capnp_format.specs.Bytes.{message}
use Rattle.capnp_arena_traits.specs.Checks.{LeadsInside}
use Rattle.capnp_arena_traits.proofs.MessageLemmas.{placing, misplaced-there}
use Rattle.capnp_arena_traits.proofs.Placed.{there-message, eighth, refused_place, no_value, leads_as}
use Rattle.capnp_arena_traits.proofs.arena.reader_arena.ReaderArena.check_offset.Goals as goal

pub returns-in_err-length-clause-exactly : goal.returns-in_err-length-clause-exactly
returns-in_err-length-clause-exactly g c =
    let B = g.Self.ReaderArena.segments c.args.self.now in
    refused_place (LeadsInside (message B) c.args.id c.args.start c.args.offset) B c.args.id c.from_residual.result c.from_residual.ensures.0 (λ h. false≢true (c.in_err-length.ensures.there.1 h)) (λ l. l.0)

pub returns-in_err-length-clause-value : goal.returns-in_err-length-clause-value
returns-in_err-length-clause-value g c = no_value _ c.from_residual.result c.from_residual.ensures.0

pub returns-in_err-length-clause-named : goal.returns-in_err-length-clause-named
returns-in_err-length-clause-named g c = search (rules, placing)

pub returns-in-Some-clause-exactly : goal.returns-in-Some-clause-exactly
returns-in-Some-clause-exactly g c =
    let B = g.Self.ReaderArena.segments c.args.self.now in
    leads_as _ (message B) c.args.id c.args.start _ c.args.offset _ (there-message B c.args.id (c.in_ok-length.ensures.there.0 (refl {a = true}))) (eighth _ _ c.in_ok-length.ensures.whole) (to_z-of_z c.ranges.offset) c.in-Some.ensures.exactly

pub returns-in-Some-clause-value : goal.returns-in-Some-clause-value
returns-in-Some-clause-value g c = c.in-Some.ensures.value ∙ ap (λ k. pos c.args.start +ℤ k) (to_z-of_z c.ranges.offset)

pub returns-in-Some-clause-named : goal.returns-in-Some-clause-named
returns-in-Some-clause-named g c = tt

pub returns-in-None-clause-exactly : goal.returns-in-None-clause-exactly
returns-in-None-clause-exactly g c =
    let B = g.Self.ReaderArena.segments c.args.self.now in
    leads_as _ (message B) c.args.id c.args.start _ c.args.offset _ (there-message B c.args.id (c.in_ok-length.ensures.there.0 (refl {a = true}))) (eighth _ _ c.in_ok-length.ensures.whole) (to_z-of_z c.ranges.offset) c.in-None.ensures.exactly

pub returns-in-None-clause-named : goal.returns-in-None-clause-named
returns-in-None-clause-named g c =
    let B = g.Self.ReaderArena.segments c.args.self.now in
    sym (misplaced-there (message B) c.args.id (g.Self.ReaderArena.absent c.args.self.now c.args.id) (there-message B c.args.id (c.in_ok-length.ensures.there.0 (refl {a = true}))))
