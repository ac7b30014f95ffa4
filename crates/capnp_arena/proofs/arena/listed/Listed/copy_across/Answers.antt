use Rattle.std.proofs.Common.{◌+◌, ◌<◌, ◌≤◌, length, sym, subst}
use Rattle.capnp_format.specs.Bytes.{message}
use Rattle.capnp_format.specs.Segments.{segment, words_at}
use Rattle.capnp_arena_traits.specs.Written.{with_words}
use Rattle.capnp_arena.specs.Row.{shown}
use Rattle.capnp_arena.proofs.ListedLemmas.{others_few, others_bounded}
use Rattle.capnp_arena.proofs.ItemsLemmas.{items_after}
use Rattle.capnp_arena.specs.Rewritten.{RewritesRows}
use Rattle.capnp_arena.proofs.arena.listed.Listed.copy_across.Goals as goal

pub copy_across_in-requires-clause-rows : goal.copy_across_in-requires-clause-rows
copy_across_in-requires-clause-rows g c =
    subst (λ rows. (c.args.from.segment < length rows) × (c.args.to.segment < length rows)) (sym c.deref_mut.ensures.value) c.requires.rows

pub copy_across_in-requires-clause-apart : goal.copy_across_in-requires-clause-apart
copy_across_in-requires-clause-apart g c =
    c.requires.apart

pub copy_across_in-requires-clause-there : goal.copy_across_in-requires-clause-there
copy_across_in-requires-clause-there g c =
    subst (λ rows. c.args.from.at + c.args.n ≤ length (segment (message (shown g.S.Segment rows)) c.args.from.segment)) (sym c.deref_mut.ensures.value) c.requires.there

pub copy_across_in-requires-clause-inside : goal.copy_across_in-requires-clause-inside
copy_across_in-requires-clause-inside g c =
    subst (λ rows. c.args.to.at + c.args.n ≤ length (segment (message (shown g.S.Segment rows)) c.args.to.segment)) (sym c.deref_mut.ensures.value) c.requires.inside

pub invariant_of-self-clause-few : goal.invariant_of-self-clause-few
invariant_of-self-clause-few g c =
    others_few g.S.Segment c.args.self.now.rows _ _ _ c.deref_mut.ensures.value c.copy_across_in.ensures.kept.many c.args.self.now.few

pub invariant_of-self-clause-bounded : goal.invariant_of-self-clause-bounded
invariant_of-self-clause-bounded g c =
    others_bounded g.S.Segment c.args.self.now.rows _ _ c.deref_mut.ensures.value c.copy_across_in.ensures.kept.many c.copy_across_in.ensures.kept.bounded c.args.self.now.bounded

pub returns : goal.returns
returns g c =
    let seg = g.S.Segment in
    let h = c.copy_across_in.ensures in
    items_after seg
    (λ old new. RewritesRows seg old new (with_words (message (shown seg old)) c.args.to.segment c.args.to.at (words_at (message (shown seg old)) c.args.from.segment c.args.from.at c.args.n)))
    c.args.self.now.rows c.deref_mut.result.now c.copy_across_in.new.rows c.deref_mut.ensures.value h.kept.many (record { words = h.words; room = h.kept.room })
