use Rattle.std.proofs.Common.{◌≡◌, ◌∙◌, ap, refl, sym, true}
use Rattle.capnp_format.specs.Bytes.{message}
use Rattle.capnp_messages.proofs.MessageLemmas.{AtRoot, at_root}
use Rattle.capnp_refusals.specs.RefusedPointers.{demands_of}
use Rattle.capnp_refusals.specs.Search.{search_place}
use Rattle.capnp_refusals.proofs.RootSearched.{searched_at_root, searched_without_root}
use Rattle.capnp_refusals.proofs.refusals.refused_pointer.Goals as goal

pub returns-in-Ok : goal.returns-in-Ok
returns-in-Ok g c =
    let at : AtRoot (message (g.S.ReaderSegments.segments c.args.segments)) c.args.limits _ c.read_root.new.lim =
    at_root c.new-arena.ensures.words c.new-arena.ensures.nesting c.new-lim.ensures c.in-Ok.ensures.place
    c.in-Ok.ensures.charged (c.in-Ok.ensures.exactly.0 (refl {a = true})) in
    sym (searched_at_root (demands_of c.args.command) at (rw c.demands_of.ensures at c.search_value.ensures))

pub returns : goal.returns
returns g c = sym (searched_without_root (demands_of c.args.command) c.args.limits c.new-arena.ensures.words c.new-lim.ensures c.in-Err.ensures.refused)
