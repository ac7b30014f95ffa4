-- A segment lends its bytes, and the first of these are lent in turn: a walk of the function's MIR
-- by hand.
use Rattle.std.proofs.Common.{◌≡◌, ℕ, ◌^◌, ◌<◌, ◌≤◌, List, [], ◌∷◌, length, take, refl, sym, ap, subst, arith, w64, MutBor}
use Rattle.std.proofs.raw_atomic.Walks.{proved}
use base.Logic.{emp, id⊢}
use base.Fml.{GName, ftrue, flft}
use mir.Syntax.{Args, Dict, Fn, a_type, dcons, dnil, named}
use mir.MapTy.{inst_fn}
use mir.Val.{vint}
use types.Kit.{‵, ◌⊛◌, raw, some, later, ◌$◌, ◌∵◌, !, qed, move, keep, drop, use0, use1, use2, split, split3, join, fsplit, fjoin, rewrite, await, pick, suffices, frame, done}
use types.Part.{whole, sub, agg}
use types.Run.{stop, fld, hop, from, addr, and_then, no_more, returns, enter}
use types.ByLocal.{alloc_all, pass_all, free_all, look_at, look_in_at, get, through, sets, lands_as}
use contract.BorrowLft.{◌⊑◌}
use contract.Monad.{fact, fact_i}
use contract.Running.{tables}
use denote.Array.{Array}
use denote.Builtin.{u8, usize}
use denote.Exit.{yes, no}
use denote.Follow.{follows, follows_then}
use denote.Laws.{Is, shows}
use denote.Param.{bounded, param}
use denote.Plain.{uint_vals, uint_Tells}
use denote.RattleType.{RattleType, owns}
use denote.Ref.{MutRef, mut_vals, mut_Tells}
use denote.Signature.{plain, mut_ref_to}
use denote.Slice.{MutSlice, Room, slice_val}
use denote.Steps.{nothing, heard, only, peeks}
use denote.Triple.Call.{calls_at}
use denote.Triple.Clauses.{Ended, lasts}
use denote.Triple.Spec.{triple_of}
use denote.Triple.Table.{framed}
use denote.Triple.Walked.{says, Stays, stay_dropped, walk_of, ends_at, Goes-dropped, Goes-spent_ref}
use borrow.Table.Elements.{length-take-le}
use Rattle.capnp_arena_traits.specs.Written.{with_front}
use Rattle.capnp_arena.specs.declared.arena.allocator.Segment.{Ghosts}
use Rattle.capnp_arena.specs.contracts.arena.allocator.Segment.bytes_mut as B
use Rattle.capnp_lent_arena.specs.contracts.lent_arena.prefix_mut as f
use Rattle.capnp_lent_arena.proofs.lent_arena.prefix_mut.Statement.{statement}
use Rattle.capnp_lent_arena.proofs.lent_arena.prefix_mut.Code as code
use Rattle.capnp_arena.proofs.Fronts.{lends_front}

module _ (S : RattleType) (g : Ghosts S.Denot) (d : Dict) where
  abbrev args : Args
  args = bounded (a_type ∷ []) (S, tt) (dcons d dnil)

  abbrev here : Fn
  here = inst_fn args code.function

  abbrev ended : Ended
  ended = f.ended S g d

  abbrev stayed : Stays ended.signature.params ended.kept
  stayed = (stay_dropped (mut_ref_to (0 ∷ []) tt (plain (λ _. param 0 S))) no, (stay_dropped (plain (λ _. usize)) yes, tt))

pub prefix_mut_spec : {M : Type 1} → statement M
prefix_mut_spec {M} 𝓤 𝓛 𝓜 𝓡 wired S L g d met =
    let c = f.clauses S g d 𝓛 𝓜.mem 𝓡.returns in
    let 𝓣 = tables 𝓤 𝓛.H 𝓜 𝓡 𝓡.env in
    proved 𝓛 (ended S g d) (stayed S g d) c 𝓜 𝓡
    (Goes-spent_ref 𝓛 2 (0 ∷ []) tt (plain (λ _. param 0 S)), (Goes-dropped 𝓛 2 (plain (λ _. usize)) yes (λ κs x w. refl), tt))
    (f.Key.name (args S g d)) (here S g d) (code.unfolded 𝓤 𝓛.H 𝓜 𝓡 wired (S, tt) d)
    (λ κs. (mut_vals, (uint_vals w64, tt))) (λ κs. (mut_Tells (named 0) κs.0 (param 0 S), (uint_Tells w64, tt))) (λ κs qs bounds a _ are.
    let κ = κs.0 in let q = qs.0 in let h = a.0.now in let γ = a.0.ghost_name in let n = a.1.0 in
    let fits : n < 2 ^ 64 = are.1.0.1 in
    let W = walk_of 𝓛 (ended S g d) (stayed S g d) c in
    let y : W.Ghost = ((κs, qs, bounds, a, (mut_vals a.0, (vint w64 n ∷ [], tt))), tt) in
    let lives = κs.1.0 ⊑ S.lives in
    let G = triple_of 𝓛 (B.signature S) (B.spec S g d 𝓛 𝓜.mem 𝓡.returns) in
    let z : G.Ghost = ((κs, qs, bounds, (a.0, tt), (mut_vals a.0, tt)), tt) in
    let tokens = ‵ (flft κs.0 qs.0) ⊛ ‵ (flft κs.1.0 qs.1.0) ⊛ ‵ ftrue in
    let Bytes = MutSlice (named 0) κ u8 in
    qed 𝓛 ((tokens ⊛ ‵ (owns (MutRef (named 0) κ (param 0 S) ∷ usize ∷ []) a (mut_vals a.0, (vint w64 n ∷ [], tt)))) ∷ (raw (fact 𝓤 lives) ⊛ raw (fact 𝓤 (n ≤ length (g.ready h)))) ∷ []) ∵
    move ! (1 ∷ []) $ split ! $ heard ! lives (λ alive. heard ! (n ≤ length (g.ready h)) (λ le.
    split ! $ move ! (1 ∷ []) $ fsplit ! $ move ! (0 ∷ 2 ∷ []) $
    -- [the segment; the tokens; the number]
    enter ! _ _ _ _ _ $ alloc_all ! (λ l. pass_all ! refl ((tt, tt), ((tt, record { fits = fits }), tt)) $
    sets ! (addr ! (through ! refl (stop !))) refl (tt, tt) $
    nothing ! $ move ! (1 ∷ 0 ∷ []) $ join ! $ move ! (1 ∷ 0 ∷ []) $ join ! $
    nothing ! $ use0 𝓛 (raw (fact 𝓤 lives)) (fact_i 𝓤 lives (emp 𝓤) alive) $ join ! $ move ! (1 ∷ 0 ∷ []) $
    use2 𝓛 (raw (G.pre z)) (id⊢ 𝓤 _) $
    calls_at ! (framed 𝓤 𝓛.H 𝓜 (tables 𝓤 𝓛.H 𝓜 𝓡 𝓡.env)) G met.bytes_mut z (and_then ! (get ! refl) (no_more !)) (λ v.
    use1 𝓛 (later (some (λ (r : MutBor (List ℕ)). (tokens ⊛ ‵ (Bytes.own_val r (v ∷ []))) ⊛
    some (λ (ws : Unit {0} × Unit {0}). ‵ (lasts (B.ended S g d) z.0.0 z.0.3 ws) ⊛ (‵ (follows (param 0 S) (Array u8 0) γ r.ghost_name (g.with_ready h)) ⊛ raw (fact 𝓤 (r.now ≡ g.ready h))))))) (id⊢ 𝓤 _) $
    await ! tt $ pick ! (λ r. split ! $ split ! $ move ! (2 ∷ []) $ pick ! (λ ws. split ! $ drop ! $ split ! $ move ! (1 ∷ []) $ heard ! (r.now ≡ g.ready h) (λ same.
    -- [what the segment ends as; the tokens; its bytes]
    move ! (2 ∷ []) $ peeks ! Bytes (Is Bytes) (shows 𝓛 Bytes) r (v ∷ []) (λ is.
    let room : Room u8 (length r.now) = is.0.1 in
    let long : n ≤ length r.now = subst (λ (xs : List ℕ). n ≤ length xs) (sym same) le in
    let count : length (take n r.now) ≡ n = length-take-le n r.now long in
    let less : Room u8 (length (take n r.now)) = (omega (arith, room.0), omega (arith, room.1)) in
    lands_as ! (ap only is.0.0) refl (tt, (tt, (record { fits = room.0 }, tt))) $
    sets ! (addr ! (from ! (fld ! refl (hop ! (look_in_at ! 3 (sub ! 0 refl (whole !))) (stop !))))) refl (tt, tt) $
    sets ! (agg ! (and_then ! (get ! refl) (and_then ! (get ! refl) (no_more !)))) refl (tt, (tt, (record { fits = fits }, tt))) $
    -- [the bytes; what the segment ends as; the tokens]
    move ! (2 ∷ []) $ split ! $ move ! (2 ∷ 0 ∷ []) $
    use2 𝓛 (later (some (λ (δ : GName). ‵ (Bytes.own_val (record { ref_ptr = r.ref_ptr; ghost_name = δ; now = take n r.now }) (slice_val r.ref_ptr (length (take n r.now)) ∷ [])) ⊛ ‵ (flft κ q) ⊛ ‵ (follows (Array u8 0) (Array u8 0) r.ghost_name δ (with_front n r.now)))))
    (lends_front 𝓛 κ q r.ref_ptr.0 r.ref_ptr.1 r.ghost_name n r.now long less (v ∷ [])) $ await ! tt $ pick ! (λ δ.
    -- [the first bytes, κ, what the bytes end as; the other token; what the segment ends as]
    returns ! (look_at ! 0 refl) $ free_all ! refl $ split3 ! $ move ! (4 ∷ 2 ∷ []) $
    use2 𝓛 (‵ (follows (param 0 S) (Array u8 0) γ δ (λ w. g.with_ready h (with_front n r.now w)))) (follows_then 𝓛 (param 0 S) (Array u8 0) (Array u8 0) (g.with_ready h) (with_front n r.now) γ r.ghost_name δ) $
    rewrite ! 0 (λ (xs : List ℕ). ‵ (follows (param 0 S) (Array u8 0) γ δ (λ w. g.with_ready h (with_front n xs w)))) same refl $
    move ! (1 ∷ []) $
    rewrite ! 0 (λ (k : ℕ). ‵ (Bytes.own_val (record { ref_ptr = r.ref_ptr; ghost_name = δ; now = take n r.now }) (slice_val r.ref_ptr k ∷ []))) count refl $
    suffices ! _ (ends_at 𝓛 (ended S g d) (stayed S g d) c y (slice_val r.ref_ptr n) (record { ref_ptr = r.ref_ptr; ghost_name = δ; now = take n r.now }) (tt, (tt, tt)) (tt, (tt, tt))) $ keep ! (0 ∷ 1 ∷ 2 ∷ 3 ∷ []) $
    nothing ! $ nothing ! $ fjoin ! $ nothing ! $ fjoin ! $ join ! $ move ! (2 ∷ 3 ∷ []) $ join ! $ join ! $ frame ! $ says ! (ap (take n) same) $ done !))))))))))
