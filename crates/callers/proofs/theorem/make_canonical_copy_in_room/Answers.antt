use Rattle.capnp_format.specs.Forest.{IsForest}
use Rattle.capnp_format.specs.Segments.{Segments}
use Rattle.capnp_format.specs.Tree.{Null}
use Rattle.capnp_words.specs.Meter.{Meter}
use Rattle.capnp_arena_traits.specs.View.{View}
use Rattle.capnp_arena.specs.declared.arena.reader_arena_impl.ReaderOptions.{ReaderOptions}
use Rattle.capnp_allocation.specs.Makes.{call_at}
use Rattle.capnp_pointers.specs.Reading.{Reading}
use Rattle.capnp_pointers.specs.Wanted.{canonical}
use Rattle.capnp_copies.specs.Changes.{MakesCopy, copy_call}
use Rattle.capnp_copies.specs.Originals.{value_original}
use Rattle.capnp_messages.proofs.MessageLemmas.{value_of}
use Rattle.callers.proofs.AgreedLemmas.{fresh_forest}
use Rattle.capnp_allocation.proofs.Replaced.{forest_updated}
use Rattle.std.proofs.Common.{rules, sym, refl, IsOk, IfOk, OnOk, OnErr, ◌≡◌, ◌↔◌, ◌+◌, ◌≤◌, ℕ, [], ◌∷◌, ap, subst}
use Rattle.std.proofs.lemmas.Result.{IfErr-weaker, IfOk-weaker}
use Rattle.capnp_format.specs.Bytes.{message}
use Rattle.capnp_format.specs.Canonical.{encoding, trim, word_count}
use Rattle.capnp_format.specs.Segments.{word_at}
use Rattle.capnp_format.specs.Tree.{Tree}
use Rattle.capnp_messages.specs.Messages.{IsValueOf}
use Rattle.capnp_messages.proofs.MessageLemmas.{AtRoot, at_root}
use Rattle.callers.proofs.InRoom.{IsFreshRoot, fits_at, made_there, null_root, on_err, on_ok, refused_there, unasked_there, zeros_there}
use Rattle.callers.proofs.theorem.make_canonical_copy_in_room.Goals as goal

pub returns-clause-fits : goal.returns-clause-fits
returns-clause-fits g c = λ t value fits.
    let read : IsOk c.read_root.result = search rules in
    let at : AtRoot (message (g.S.ReaderSegments.segments c.args.segments)) c.args.limits _ c.read_root.new.lim =
    at_root c.new-source.ensures.words c.new-source.ensures.nesting c.new-lim.ensures (rw (← c.from_pointer-from.ensures.source, ← c.from_pointer-from.ensures.place, ← c.from_pointer-from.ensures.nesting) at c.in_ok-root.ensures.place)
    c.in_ok-root.ensures.charged (c.read_root.ensures.exactly.0 read) in
    c.copy_from.ensures.fits
    (fits_at (g.A.BuilderArena.view c.args.arena.now) _ _ at (ap g.A.BuilderArena.view c.get_root.ensures.now)
    c.get_root.ensures.place.0 c.requires.root t value fits)

pub returns-clause-made : goal.returns-clause-made
returns-clause-made g c =
    let view = g.A.BuilderArena.view in
    let read : IsOk c.read_root.result = search rules in
    let at : AtRoot (message (g.S.ReaderSegments.segments c.args.segments)) c.args.limits _ c.read_root.new.lim =
    at_root c.new-source.ensures.words c.new-source.ensures.nesting c.new-lim.ensures (rw (← c.from_pointer-from.ensures.source, ← c.from_pointer-from.ensures.place, ← c.from_pointer-from.ensures.nesting) at c.in_ok-root.ensures.place)
    c.in_ok-root.ensures.charged (c.read_root.ensures.exactly.0 read) in
    let root : IsFreshRoot (view c.args.arena.now) (view c.get_root.result.arena.now) c.get_root.result.segment c.get_root.result.at =
    record { same = ap view c.get_root.ensures.now; segment = c.get_root.ensures.place.0; at = c.get_root.ensures.place.1; fresh = c.requires.root } in
    let now = c.copy_from.new.self.arena.now in
    let made = IfOk-weaker c.copy_from.result _ _ (λ x. made_there (view now) at root (g.met.A.BuilderArena.within now 0)) (c.copy_from.ensures.near (null_root root)) in
    subst (λ (a : g.row.A.Denot). IfOk c.copy_from.result (λ _. (t : Tree) × IsValueOf (message (g.S.ReaderSegments.segments c.args.segments)) c.args.limits t ×
    (1 + word_count (trim t) ≤ (view c.args.arena.now).room 0 ↔ ((view a).words ≡ encoding (trim t) ∷ [])))) (search rules) made

pub returns-clause-unasked : goal.returns-clause-unasked
returns-clause-unasked g c =
    let view = g.A.BuilderArena.view in
    let root : IsFreshRoot (view c.args.arena.now) (view c.get_root.result.arena.now) c.get_root.result.segment c.get_root.result.at =
    record { same = ap view c.get_root.ensures.now; segment = c.get_root.ensures.place.0; at = c.get_root.ensures.place.1; fresh = c.requires.root } in
    let now = c.copy_from.new.self.arena.now in
    let kept = on_ok _ c.copy_from.result (IfOk-weaker c.copy_from.result _ _ (λ x. unasked_there (view now) root) (c.copy_from.ensures.near (null_root root))) in
    subst (λ (a : g.row.A.Denot). OnOk c.copy_from.result ((view a).refusals ≡ (view c.args.arena.now).refusals)) (search rules) kept

pub returns-clause-cleared : goal.returns-clause-cleared
returns-clause-cleared g c =
    let view = g.A.BuilderArena.view in
    let root : IsFreshRoot (view c.args.arena.now) (view c.get_root.result.arena.now) c.get_root.result.segment c.get_root.result.at =
    record { same = ap view c.get_root.ensures.now; segment = c.get_root.ensures.place.0; at = c.get_root.ensures.place.1; fresh = c.requires.root } in
    let now = c.copy_from.new.self.arena.now in
    let zero = on_err _ c.copy_from.result (IfErr-weaker c.copy_from.result _ _ (λ k leaves. zeros_there (view now) root leaves.cleared) c.copy_from.ensures.refused) in
    subst (λ (a : g.row.A.Denot). OnErr c.copy_from.result ((s p : ℕ) → word_at (view a).words s p ≡ 0)) (search rules) zero

pub returns-clause-refused : goal.returns-clause-refused
returns-clause-refused g c =
    let view = g.A.BuilderArena.view in
    let read : IsOk c.read_root.result = search rules in
    let at : AtRoot (message (g.S.ReaderSegments.segments c.args.segments)) c.args.limits _ c.read_root.new.lim =
    at_root c.new-source.ensures.words c.new-source.ensures.nesting c.new-lim.ensures (rw (← c.from_pointer-from.ensures.source, ← c.from_pointer-from.ensures.place, ← c.from_pointer-from.ensures.nesting) at c.in_ok-root.ensures.place)
    c.in_ok-root.ensures.charged (c.read_root.ensures.exactly.0 read) in
    let root : IsFreshRoot (view c.args.arena.now) (view c.get_root.result.arena.now) c.get_root.result.segment c.get_root.result.at =
    record { same = ap view c.get_root.ensures.now; segment = c.get_root.ensures.place.0; at = c.get_root.ensures.place.1; fresh = c.requires.root } in
    IfErr-weaker c.copy_from.result _ _ (λ k. refused_there (view c.copy_from.new.self.arena.now) k at root) c.copy_from.ensures.refused

-- what is made there is all of the message, in however many segments
means_there : {S : Segments} {limits : ReaderOptions} {r : Reading} {m after : Meter} {v w : View} {s p : ℕ} (made : View) → AtRoot S limits r m →
    IsFreshRoot v w s p → MakesCopy (value_original r) (copy_call canonical (call_at s p w made) m after) →
    (t : Tree) × IsValueOf S limits t × IsForest made.words (trim t)
means_there {S} {limits} {r} {m} {after} {v} {w} {s} {p} made at root makes =
    let here : MakesCopy (value_original r) (copy_call canonical (call_at 0 0 v made) m after) =
    subst (λ (x : View). MakesCopy (value_original r) (copy_call canonical (call_at 0 0 x made) m after)) root.same
    (subst (λ (i : ℕ). MakesCopy (value_original r) (copy_call canonical (call_at 0 i w made) m after)) root.at
    (subst (λ (i : ℕ). MakesCopy (value_original r) (copy_call canonical (call_at i p w made) m after)) root.segment makes)) in
    let forest : IsForest v.words Null = subst (λ (X : Segments). IsForest X Null) (sym root.fresh) fresh_forest in
    (here.value, value_of at here.is_read, forest_updated v.words made.words Null [] 0 0 Null (trim here.value) forest refl here.made)

pub returns-clause-means : goal.returns-clause-means
returns-clause-means g c =
    let view = g.A.BuilderArena.view in
    let read : IsOk c.read_root.result = search rules in
    let at : AtRoot (message (g.S.ReaderSegments.segments c.args.segments)) c.args.limits _ c.read_root.new.lim =
    at_root c.new-source.ensures.words c.new-source.ensures.nesting c.new-lim.ensures (rw (← c.from_pointer-from.ensures.source, ← c.from_pointer-from.ensures.place, ← c.from_pointer-from.ensures.nesting) at c.in_ok-root.ensures.place)
    c.in_ok-root.ensures.charged (c.read_root.ensures.exactly.0 read) in
    let root : IsFreshRoot (view c.args.arena.now) (view c.get_root.result.arena.now) c.get_root.result.segment c.get_root.result.at =
    record { same = ap view c.get_root.ensures.now; segment = c.get_root.ensures.place.0; at = c.get_root.ensures.place.1; fresh = c.requires.root } in
    let now = c.copy_from.new.self.arena.now in
    let made = IfOk-weaker c.copy_from.result _ _ (λ x. means_there (view now) at root) (c.copy_from.ensures.near (null_root root)) in
    subst (λ (a : g.row.A.Denot). IfOk c.copy_from.result (λ _. (t : Tree) × IsValueOf (message (g.S.ReaderSegments.segments c.args.segments)) c.args.limits t ×
    IsForest (view a).words (trim t))) (search rules) made
