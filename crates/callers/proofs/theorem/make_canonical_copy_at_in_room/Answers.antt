use Rattle.std.proofs.Common.{rules, IfOk, IfErr, OnOk, OnErr, ◌≡◌, ◌↔◌, ◌+◌, ◌≤◌, ℕ, true, [], ◌∷◌, map, ap, subst}
use Rattle.std.proofs.lemmas.Result.{IfErr-weaker, IfOk-weaker}
use Rattle.capnp_format.specs.Bytes.{message}
use Rattle.capnp_format.specs.Canonical.{HasNoCapabilities, encoding, trim, word_count}
use Rattle.capnp_format.specs.Forest.{IsForest}
use Rattle.capnp_format.specs.Means.{Means}
use Rattle.capnp_format.specs.Segments.{word_at}
use Rattle.capnp_format.specs.Tree.{Tree}
use Rattle.capnp_arena_traits.specs.Limits.{whole}
use Rattle.capnp_copies.specs.Changes.{RefusesToCopy, copy_call}
use Rattle.capnp_copies.specs.Originals.{value_original}
use Rattle.capnp_allocation.specs.Makes.{call_at}
use Rattle.capnp_pointers.specs.Source.{levels}
use Rattle.capnp_pointers.specs.Spending.{Paid, pointers_in}
use Rattle.capnp_pointers.specs.Wanted.{canonical}
use Rattle.callers.specs.Truly.{read_at}
use Rattle.callers.proofs.InRoom.{IsFreshRoot, null_root, on_err, on_ok, unasked_there, zeros_there}
use Rattle.callers.proofs.InRoomAt.{fits_here, made_here, refused_here}
use Rattle.callers.proofs.theorem.make_canonical_copy_at_in_room.Goals as goal

pub returns-clause-fits : goal.returns-clause-fits
returns-clause-fits g c = λ t cost means free covers fits.
    c.copy_from.ensures.fits
    (fits_here (g.A.BuilderArena.view c.args.arena.now) _ _ (rw (← c.from_pointer-from.ensures.source, ← c.from_pointer-from.ensures.place, ← c.from_pointer-from.ensures.nesting) at c.pointer_at.ensures)
    (ap g.A.BuilderArena.view c.get_root.ensures.now) c.get_root.ensures.place.0 c.requires.root t cost means free covers fits)

pub returns-clause-made : goal.returns-clause-made
returns-clause-made g c =
    let view = g.A.BuilderArena.view in
    let S = message (map whole (g.S.ReaderSegments.segments c.args.source.now.segments)) in
    let root : IsFreshRoot (view c.args.arena.now) (view c.get_root.result.arena.now) c.get_root.result.segment c.get_root.result.at =
    record { same = ap view c.get_root.ensures.now; segment = c.get_root.ensures.place.0; at = c.get_root.ensures.place.1; fresh = c.requires.root } in
    let now = c.copy_from.new.self.arena.now in
    let made = IfOk-weaker c.copy_from.result _ _ (λ x. made_here (view now) (rw (← c.from_pointer-from.ensures.source, ← c.from_pointer-from.ensures.place, ← c.from_pointer-from.ensures.nesting) at c.pointer_at.ensures) root (g.met.A.BuilderArena.within now 0)) (c.copy_from.ensures.near (null_root root)) in
    subst (λ (a : g.row.A.Denot). IfOk c.copy_from.result (λ _. (t : Tree) × (cost : ℕ) × Means S (levels c.args.source.now.nesting_limit) c.args.place.segment c.args.place.word t cost × HasNoCapabilities t ×
    Paid true c.args.lim.now c.copy_from.new.lim cost (pointers_in t) ×
    (1 + word_count (trim t) ≤ (view c.args.arena.now).room 0 ↔ ((view a).words ≡ encoding (trim t) ∷ [])) × IsForest (view a).words (trim t))) (search rules) made

pub returns-clause-unasked : goal.returns-clause-unasked
returns-clause-unasked g c =
    let view = g.A.BuilderArena.view in
    let root : IsFreshRoot (view c.args.arena.now) (view c.get_root.result.arena.now) c.get_root.result.segment c.get_root.result.at =
    record { same = ap view c.get_root.ensures.now; segment = c.get_root.ensures.place.0; at = c.get_root.ensures.place.1; fresh = c.requires.root } in
    let now = c.copy_from.new.self.arena.now in
    let kept = on_ok _ c.copy_from.result (IfOk-weaker c.copy_from.result _ _ (λ x. unasked_there (view now) root) (c.copy_from.ensures.near (null_root root))) in
    subst (λ (a : g.row.A.Denot). OnOk c.copy_from.result ((view a).refusals ≡ (view c.args.arena.now).refusals)) (search rules) kept

pub returns-clause-cleared : goal.returns-clause-cleared
returns-clause-cleared g c =
    let view = g.A.BuilderArena.view in
    let root : IsFreshRoot (view c.args.arena.now) (view c.get_root.result.arena.now) c.get_root.result.segment c.get_root.result.at =
    record { same = ap view c.get_root.ensures.now; segment = c.get_root.ensures.place.0; at = c.get_root.ensures.place.1; fresh = c.requires.root } in
    let now = c.copy_from.new.self.arena.now in
    let zero = on_err _ c.copy_from.result (IfErr-weaker c.copy_from.result _ _ (λ k leaves. zeros_there (view now) root leaves.cleared) c.copy_from.ensures.refused) in
    subst (λ (a : g.row.A.Denot). OnErr c.copy_from.result ((s p : ℕ) → word_at (view a).words s p ≡ 0)) (search rules) zero

pub returns-clause-refused : goal.returns-clause-refused
returns-clause-refused g c =
    let view = g.A.BuilderArena.view in
    let S = message (map whole (g.S.ReaderSegments.segments c.args.source.now.segments)) in
    let root : IsFreshRoot (view c.args.arena.now) (view c.get_root.result.arena.now) c.get_root.result.segment c.get_root.result.at =
    record { same = ap view c.get_root.ensures.now; segment = c.get_root.ensures.place.0; at = c.get_root.ensures.place.1; fresh = c.requires.root } in
    let now = c.copy_from.new.self.arena.now in
    let refused = IfErr-weaker c.copy_from.result _ _ (λ k. refused_here (view now) k (rw (← c.from_pointer-from.ensures.source, ← c.from_pointer-from.ensures.place, ← c.from_pointer-from.ensures.nesting) at c.pointer_at.ensures) root) c.copy_from.ensures.refused in
    subst (λ (a : g.row.A.Denot). IfErr c.copy_from.result (RefusesToCopy (value_original (read_at S (levels c.args.source.now.nesting_limit) c.args.place.segment c.args.place.word))
    (copy_call canonical (call_at 0 0 (view c.args.arena.now) (view a)) c.args.lim.now c.copy_from.new.lim))) (search rules) refused
