-- A segment lends its bytes, and then a part of them is lent: a manual walk through the function's
-- MIR.
use Rattle.std.proofs.Common.{◌≡◌, ℕ, ◌+◌, ◌-◌, ◌^◌, ◌<◌, ◌≤◌, List, [], ◌∷◌, length, take, drop as drop_list, get_or, slice_get, slice_index_or, Some, refl, sym, ap, subst, arith, w8, w32, w64, MutBor}
use Rattle.std.proofs.raw_atomic.Walks.{proved}
use base.Logic.{emp, id⊢}
use base.Fml.{GName, ftrue, flft}
use mir.Syntax.{Args, Dict, Fn, a_type, dcons, dnil, named}
use mir.MapTy.{inst_fn}
use mir.Val.{vint}
use types.Kit.{‵, ◌⊛◌, raw, some, later, given, learn, ◌$◌, ◌∵◌, !, qed, move, keep, drop, use0, use1, use2, split, split3, join, fsplit, fjoin, rewrite, await, pick, suffices, frame, done}
use types.Part.{whole, sub, agg}
use types.Run.{stop, fld, addr, bin, and_then, no_more, returns, enter}
use types.ByLocal.{alloc_all, pass_all, free_all, look_at, get, get_in, through, sets, lands_as}
use borrow.Rule.Slice.Know.{AllWt, fit_at}
use borrow.Table.Referent.{f_int}
use contract.BorrowLft.{◌⊑◌}
use contract.Monad.{fact, fact_i}
use contract.Running.{tables}
use denote.Array.{Array}
use denote.Builtin.{u8, u32, usize}
use denote.Exit.{yes, no}
use denote.Follow.{follows, follows_then}
use denote.Laws.{Is, shows}
use denote.Param.{bounded, param}
use denote.Plain.{uint_vals, uint_Tells}
use denote.RattleType.{RattleType, owns}
use denote.Ref.{MutRef, mut_vals, mut_Tells}
use denote.Signature.{plain, mut_ref_to}
use denote.Slice.{MutSlice, Room, slice_val}
use denote.Steps.{nothing, heard, only, peeks}
use denote.Triple.Call.{calls_at}
use denote.Triple.Clauses.{Ended, lasts}
use denote.Triple.Spec.{triple_of}
use denote.Triple.Table.{framed}
use denote.Triple.Walked.{says, Stays, stay_dropped, walk_of, ends_at, Goes-dropped, Goes-spent_ref}
use Rattle.capnp_arena_traits.specs.Written.{overwritten}
use Rattle.capnp_arena_traits.specs.declared.arena.builder_arena.BuilderArena.{Ghosts}
use Rattle.capnp_arena_traits.specs.declared.arena.builder_arena.sealed.Closed.{Ghosts as Closes}
use Rattle.capnp_arena_traits.specs.declared.arena.reader_arena.ReaderArena.{Ghosts as Reads}
use Rattle.capnp_arena_traits.specs.contracts.arena.builder_arena.BuilderArena.segment_mut as B
use Rattle.capnp_in_place.specs.contracts.lent.bytes_between_mut as f
use Rattle.capnp_in_place.proofs.lent.bytes_between_mut.Statement.{statement}
use Rattle.capnp_in_place.proofs.lent.bytes_between_mut.Code as code
use Rattle.capnp_in_place.proofs.ByteLists.BytesWritten.{found}
use Rattle.capnp_in_place.proofs.ByteLists.LentBytes.{lends_part, long}

module _ (A : RattleType) (b : Ghosts A.Denot) (bd : Dict) (r : Reads A.Denot) (rd : Dict) (cl : Closes A.Denot) (cd : Dict) where
  abbrev args : Args
  args = bounded (a_type ∷ []) (A, tt) (dcons bd (dcons rd (dcons cd dnil)))

  abbrev here : Fn
  here = inst_fn args code.function

  abbrev ended : Ended
  ended = f.ended A b bd r rd cl cd

  abbrev stayed : Stays ended.signature.params ended.kept
  stayed = (stay_dropped (mut_ref_to (0 ∷ []) tt (plain (λ _. param 0 A))) no, (stay_dropped (plain (λ _. u32)) yes, (stay_dropped (plain (λ _. usize)) yes, (stay_dropped (plain (λ _. usize)) yes, tt))))

pub bytes_between_mut_spec : {M : Type 1} → statement M
bytes_between_mut_spec {M} 𝓤 𝓛 𝓜 𝓡 wired A L b bd r rd cl cd met _ _ =
    let c = f.clauses A b bd r rd cl cd 𝓛 𝓜.mem 𝓡.returns in
    let 𝓣 = tables 𝓤 𝓛.H 𝓜 𝓡 𝓡.env in
    proved 𝓛 (ended A b bd r rd cl cd) (stayed A b bd r rd cl cd) c 𝓜 𝓡
    (Goes-spent_ref 𝓛 2 (0 ∷ []) tt (plain (λ _. param 0 A)), (Goes-dropped 𝓛 2 (plain (λ _. u32)) yes (λ κs x w. refl), (Goes-dropped 𝓛 2 (plain (λ _. usize)) yes (λ κs x w. refl), (Goes-dropped 𝓛 2 (plain (λ _. usize)) yes (λ κs x w. refl), tt))))
    (f.Key.name (args A b bd r rd cl cd)) (here A b bd r rd cl cd) (code.unfolded 𝓤 𝓛.H 𝓜 𝓡 wired (A, tt) bd rd cd)
    (λ κs. (mut_vals, (uint_vals w32, (uint_vals w64, (uint_vals w64, tt))))) (λ κs. (mut_Tells (named 0) κs.0 (param 0 A), (uint_Tells w32, (uint_Tells w64, (uint_Tells w64, tt))))) (λ κs qs bounds a _ are.
    let κ = κs.0 in let q = qs.0 in let h = a.0.now in let γ = a.0.ghost_name in let id = a.1.0 in let from = a.1.1.0 in let end = a.1.1.1.0 in
    let all : List ℕ = slice_index_or (r.segments h) id [] in
    let W = walk_of 𝓛 (ended A b bd r rd cl cd) (stayed A b bd r rd cl cd) c in
    let y : W.Ghost = ((κs, qs, bounds, a, (mut_vals a.0, (vint w32 id ∷ [], (vint w64 from ∷ [], (vint w64 end ∷ [], tt))))), tt) in
    let lives = κs.1.0 ⊑ A.lives in
    let G = triple_of 𝓛 (B.signature A) (B.spec A b bd r rd cl cd 𝓛 𝓜.mem 𝓡.returns) in
    let z : G.Ghost = ((κs, qs, bounds, (a.0, (id, tt)), (mut_vals a.0, (vint w32 id ∷ [], tt))), tt) in
    let tokens = ‵ (flft κs.0 qs.0) ⊛ ‵ (flft κs.1.0 qs.1.0) ⊛ ‵ ftrue in
    let Bytes = MutSlice (named 0) κ u8 in
    qed 𝓛 ((tokens ⊛ ‵ (owns (MutRef (named 0) κ (param 0 A) ∷ u32 ∷ usize ∷ usize ∷ []) a (mut_vals a.0, (vint w32 id ∷ [], (vint w64 from ∷ [], (vint w64 end ∷ [], tt)))))) ∷ (raw (fact 𝓤 lives) ⊛ raw (fact 𝓤 (id < length (r.segments h))) ⊛ raw (fact 𝓤 (from ≤ end)) ⊛ raw (fact 𝓤 (end ≤ length all))) ∷ []) ∵
    move ! (1 ∷ []) $ split ! $ heard ! lives (λ alive. split ! $ heard ! (id < length (r.segments h)) (λ there. split ! $ heard ! (from ≤ end) (λ order. heard ! (end ≤ length all) (λ le.
    split ! $ move ! (1 ∷ []) $ fsplit ! $ move ! (1 ∷ []) $ fsplit ! $ move ! (2 ∷ 0 ∷ 3 ∷ []) $
    -- [the arena; the segment's number; the tokens; the other numbers]
    enter ! _ _ _ _ _ $ alloc_all ! (λ l. pass_all ! refl ((tt, tt), ((tt, record { fits = are.1.0.1 }), ((tt, record { fits = are.1.1.0.1 }), ((tt, record { fits = are.1.1.1.0.1 }), tt)))) $
    sets ! (addr ! (through ! refl (stop !))) refl (tt, tt) $
    nothing ! $ move ! (2 ∷ 0 ∷ []) $ join ! $ move ! (1 ∷ 0 ∷ []) $ join ! $ move ! (1 ∷ 0 ∷ []) $ join ! $
    use0 𝓛 (raw (fact 𝓤 (id < length (r.segments h)))) (fact_i 𝓤 (id < length (r.segments h)) (emp 𝓤) there) $
    use0 𝓛 (raw (fact 𝓤 lives)) (fact_i 𝓤 lives (emp 𝓤) alive) $ join ! $ move ! (1 ∷ 0 ∷ []) $
    use2 𝓛 (raw (G.pre z)) (id⊢ 𝓤 _) $
    calls_at ! (framed 𝓤 𝓛.H 𝓜 (tables 𝓤 𝓛.H 𝓜 𝓡 𝓡.env)) G met.segment_mut z (and_then ! (get ! refl) (and_then ! (get ! refl) (no_more !))) (λ v.
    use1 𝓛 (later (some (λ (m : MutBor (List ℕ)). (tokens ⊛ ‵ (Bytes.own_val m (v ∷ []))) ⊛
    some (λ (ws : Unit {0} × (Unit {0} × Unit {0})). ‵ (lasts (B.ended A b bd r rd cl cd) z.0.0 z.0.3 ws) ⊛ (‵ (follows (param 0 A) (Array u8 0) γ m.ghost_name (b.with_bytes h id)) ⊛ raw (fact 𝓤 (slice_get (r.segments h) id ≡ Some m.now))))))) (id⊢ 𝓤 _) $
    await ! tt $ pick ! (λ m. split ! $ split ! $ move ! (2 ∷ []) $ pick ! (λ ws. split ! $ drop ! $ split ! $ move ! (1 ∷ []) $ heard ! (slice_get (r.segments h) id ≡ Some m.now) (λ is_there.
    -- [what the arena ends as; the tokens; the segment's bytes]
    move ! (2 ∷ []) $ peeks ! Bytes (Is Bytes) (shows 𝓛 Bytes) m (v ∷ []) (λ is.
    let same : all ≡ m.now = found (r.segments h) id m.now is_there in
    let room : Room u8 (length m.now) = is.0.1 in
    let n : ℕ = end - from in
    let inside : from + n ≤ length m.now = omega (arith, order, le, ap length same) in
    let count : length (take n (drop_list from m.now)) ≡ n = long 𝓛 κ q m.ref_ptr.0 m.ref_ptr.1 m.ghost_name from n m.now inside in
    let less : Room u8 (length (take n (drop_list from m.now))) = (omega (arith, room.0, count, inside), omega (arith, room.1, count, inside)) in
    let few : n < 2 ^ 64 = omega (arith, are.1.1.1.0.1) in
    let p : ℕ × ℕ = (m.ref_ptr.0, from + m.ref_ptr.1) in
    lands_as ! (ap only is.0.0) refl (tt, (tt, (record { fits = room.0 }, tt))) $
    sets ! (bin ! (get_in ! (fld ! refl (stop !)) (sub ! 0 refl (whole !))) (get ! refl) tt) refl (tt, tt) $
    sets ! (bin ! (get ! refl) (get ! refl) order) refl (tt, record { fits = few }) $
    sets ! (addr ! (through ! refl (stop !))) refl (tt, tt) $
    sets ! (agg ! (and_then ! (get ! refl) (and_then ! (get ! refl) (no_more !)))) refl (tt, (tt, (record { fits = few }, tt))) $
    -- [the bytes; what the arena ends as; the tokens]
    move ! (2 ∷ []) $ split ! $ move ! (2 ∷ 0 ∷ []) $
    use2 𝓛 (later (given (AllWt (f_int w8) m.now) (some (λ (δ : GName). ‵ (Bytes.own_val (record { ref_ptr = p; ghost_name = δ; now = take n (drop_list from m.now) }) (slice_val p (length (take n (drop_list from m.now))) ∷ [])) ⊛ ‵ (flft κ q) ⊛ ‵ (follows (Array u8 0) (Array u8 0) m.ghost_name δ (overwritten m.now from))))))
    (lends_part 𝓛 κ q m.ref_ptr.0 m.ref_ptr.1 m.ghost_name from n m.now inside less (v ∷ [])) $ await ! tt $ learn ! (λ fit. pick ! (λ δ.
    let each : (i : ℕ) → get_or all i 0 < 2 ^ 8 = subst (λ (xs : List ℕ). (i : ℕ) → get_or xs i 0 < 2 ^ 8) (sym same) (λ i. (fit_at (f_int w8) 0 (record { fits = omega arith }) m.now fit i).fits) in
    -- [the part, κ, what the bytes end as; the other token; what the arena ends as]
    returns ! (look_at ! 0 refl) $ free_all ! refl $ split3 ! $ move ! (4 ∷ 2 ∷ []) $
    use2 𝓛 (‵ (follows (param 0 A) (Array u8 0) γ δ (λ w. b.with_bytes h id (overwritten m.now from w)))) (follows_then 𝓛 (param 0 A) (Array u8 0) (Array u8 0) (b.with_bytes h id) (overwritten m.now from) γ m.ghost_name δ) $
    rewrite ! 0 (λ (xs : List ℕ). ‵ (follows (param 0 A) (Array u8 0) γ δ (λ w. b.with_bytes h id (overwritten xs from w)))) (sym same) refl $
    move ! (1 ∷ []) $
    rewrite ! 0 (λ (k : ℕ). ‵ (Bytes.own_val (record { ref_ptr = p; ghost_name = δ; now = take n (drop_list from m.now) }) (slice_val p k ∷ []))) count refl $
    suffices ! _ (ends_at 𝓛 (ended A b bd r rd cl cd) (stayed A b bd r rd cl cd) c y (slice_val p n) (record { ref_ptr = p; ghost_name = δ; now = take n (drop_list from m.now) }) (tt, (tt, (tt, (tt, tt)))) (tt, (tt, (tt, (tt, tt))))) $ keep ! (0 ∷ 1 ∷ 2 ∷ 3 ∷ []) $
    nothing ! $ nothing ! $ fjoin ! $ nothing ! $ fjoin ! $ nothing ! $ fjoin ! $ nothing ! $ fjoin ! $ join ! $ move ! (2 ∷ 3 ∷ []) $ join ! $ join ! $ frame ! $
    frame ! $ says ! each $ use0 𝓛 (raw (fact 𝓤 (take n (drop_list from m.now) ≡ take n (drop_list from all)))) (fact_i 𝓤 (take n (drop_list from m.now) ≡ take n (drop_list from all)) (emp 𝓤) (ap (λ (xs : List ℕ). take n (drop_list from xs)) (sym same))) $ done !)))))))))))))
