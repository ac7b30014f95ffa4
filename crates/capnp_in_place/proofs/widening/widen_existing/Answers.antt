use Rattle.std.proofs.Common.{ℕ, length, subst, ◌+◌, ap, arith, ◌∙◌}
use Rattle.capnp_format.specs.Forest.{target}
use Rattle.capnp_format.specs.Tree.{Struct}
use Rattle.capnp_arena_traits.specs.View.{View}
use Rattle.capnp_in_place.specs.declared.existing.ExistingStruct.{ExistingStruct}
use Rattle.capnp_allocation.specs.Memory.{start_of}
use Rattle.capnp_arena_traits.specs.declared.arena.WordPlace.{WordPlace}
use Rattle.capnp_allocation.proofs.Outcomes.{on_err_so, on_made_so, if_ok_so}
use Rattle.capnp_in_place.specs.Moved.{near_pointers}
use Rattle.capnp_in_place.specs.Rooms.{HasRoomAndPads}
use Rattle.capnp_in_place.proofs.WiderObjects.FilledToSize.{greater_size, same_wide}
use Rattle.capnp_in_place.proofs.WiderObjects.StructBySteps.{same_struct, the_struct, wider_words}
use Rattle.capnp_allocation.specs.Makes.{call_at}
use Rattle.capnp_in_place.specs.Anew.{BecomesAnew}
use Rattle.capnp_in_place.proofs.WiderObjects.Statements.{row_moves}
use Rattle.capnp_words.specs.declared.wire_pointer.StructSize.{StructSize}
use Rattle.capnp_in_place.proofs.widening.widen_existing.Goals as goal
use Rattle.capnp_in_place.specs.Widened.{fill_words}

pub returns-clause-wider : goal.returns-clause-wider
returns-clause-wider g c =
    let a : View = g.A.BuilderArena.view c.args.arena.now in
    let b : View = g.A.BuilderArena.view c.widen_struct.new.arena in
    let e = c.widen_struct.ensures.wider in
    record {
      replaced = on_made_so c.widen_struct.result _ _ e.replaced (λ w. λ ws ts x.
          (let found = c.requires.known (Struct ws ts) x in
          let same = same_struct (the_struct a.words c.args.id c.args.at ws ts) c.args.old found in
          let d = ap (λ e. e.size.data_words) same in
          let k = ap (λ e. e.size.pointers) same in
          greater_size a.words b.words c.args.id c.args.at c.args.size.data_words c.args.size.pointers c.greater_size-wide.result.data_words c.greater_size-wide.result.pointers ws ts (omega (arith, c.greater_size-wide.ensures.data_words, d)) (omega (arith, c.greater_size-wide.ensures.pointers, k)) (w ws ts (x, found))));
      leads = if_ok_so c.widen_struct.result _ _ e.leads (λ o w. λ ws ts x. w ws ts (x, c.requires.known (Struct ws ts) x));
      anew = on_made_so c.widen_struct.result _ _ e.anew (λ w. λ ws ts x.
          (let found = c.requires.known (Struct ws ts) x in
          let same = same_struct (the_struct a.words c.args.id c.args.at ws ts) c.args.old found in
          let d = ap (λ e. e.size.data_words) same in
          let k = ap (λ e. e.size.pointers) same in
          subst (λ u. BecomesAnew (call_at c.args.id c.args.at a b) (Struct ws ts) u)
          (same_wide c.args.size.data_words c.args.size.pointers c.greater_size-wide.result.data_words c.greater_size-wide.result.pointers ws ts (omega (arith, c.greater_size-wide.ensures.data_words, d)) (omega (arith, c.greater_size-wide.ensures.pointers, k))) (w ws ts (x, found))));
      granted = e.granted;
      memory = e.memory;
      refused = on_err_so c.widen_struct.result _ _ e.refused (λ left. λ t x. left t (x, c.requires.known t x));
    }

-- The words that it takes are those of the greater of both sizes.
pub returns-clause-fits : goal.returns-clause-fits
returns-clause-fits g c = λ h.
    (let v : View = g.A.BuilderArena.view c.args.arena.now in
    let (ws, ts, x, room) = h in
    let same = same_struct (the_struct v.words c.args.id c.args.at ws ts) c.args.old (c.requires.known (Struct ws ts) x) in
    let d = ap (λ e. e.size.data_words) same in
    let k = ap (λ e. e.size.pointers) same in
    let n = wider_words c.args.size ws ts c.greater_size-wide.result.data_words c.greater_size-wide.result.pointers (omega (arith, c.greater_size-wide.ensures.data_words, d)) (omega (arith, c.greater_size-wide.ensures.pointers, k)) in
    let a : WordPlace = start_of (target v.words c.args.id c.args.at) in
    let to : WordPlace = record { segment = a.segment; at = a.at + length (fill_words c.args.size.data_words ws) } in
    let asks : ℕ → ExistingStruct → Type 0 = λ m e. HasRoomAndPads v c.args.id m e.segment (near_pointers v.words (row_moves e.segment (e.start + e.size.data_words) to.segment to.at e.size.pointers)) in
    c.widen_struct.ensures.fits to (subst (λ e. asks (c.greater_size-wide.result.data_words + c.greater_size-wide.result.pointers) e) same (subst (λ m. asks m (the_struct v.words c.args.id c.args.at ws ts)) n room)))

pub returns-clause-few : goal.returns-clause-few
returns-clause-few g c = λ ws ts x.
    (let v : View = g.A.BuilderArena.view c.args.arena.now in
    let same = same_struct (the_struct v.words c.args.id c.args.at ws ts) c.args.old (c.requires.known (Struct ws ts) x) in
    let d = ap (λ e. e.size.data_words) same in
    let k = ap (λ e. e.size.pointers) same in
    let n = wider_words c.args.size ws ts c.greater_size-wide.result.data_words c.greater_size-wide.result.pointers (omega (arith, c.greater_size-wide.ensures.data_words, d)) (omega (arith, c.greater_size-wide.ensures.pointers, k)) in
    omega (arith, c.widen_struct.ensures.few, n, k))

pub returns-clause-size : goal.returns-clause-size
returns-clause-size g c =
    if_ok_so c.widen_struct.result _ _ c.widen_struct.ensures.size
    (λ e same. (ap (λ (x : StructSize). x.data_words) same ∙ c.greater_size-wide.ensures.data_words, ap (λ (x : StructSize). x.pointers) same ∙ c.greater_size-wide.ensures.pointers))
