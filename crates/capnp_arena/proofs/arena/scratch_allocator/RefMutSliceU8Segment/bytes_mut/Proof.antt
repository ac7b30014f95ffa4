-- A slice under a `&mut` is lent for the time of the outer `&mut`: a walk of the function's MIR by
-- hand.
use Rattle.std.proofs.Common.{ℕ, ◌*◌, ◌^◌, List, [], ◌∷◌, length, refl}
use Rattle.std.proofs.raw_atomic.Walks.{proved}
use base.Fraction.{full_share}
use base.Fml.{GName, ftrue, fat, flft}
use mir.Syntax.{Ty, erased, mut, named, ty_int, ty_ref, w8}
use mir.Raw.{raw as bare}
use mir.Val.{Val}
use contract.Running.{tables}
use types.Kit.{‵, ◌⊛◌, some, later, ◌$◌, ◌∵◌, !, qed, move, keep, drop, use1, use3, split, split3, join, fsplit3, fjoin, fjoin3, feq_l, feq_i, flt_l, flt_i, rewrite, await, pick, suffices, frame, done}
use types.Part.{whole, sub, agg, look_in}
use types.Run.{stop, fld, hop, addr, load, of_opd, and_then, no_more, returns, enter}
use types.ByLocal.{alloc_all, pass_all, free_all, look_at, get, through, sets}
use denote.Array.{Array}
use denote.Builtin.{u8}
use denote.Exit.{no}
use denote.Follow.{follows}
use denote.Memory.{cell_at, mem}
use denote.Ref.{MutRef, at_last, mut_vals, mut_Tells}
use denote.RattleType.{RattleType}
use denote.Signature.{plain, mut_ref_to}
use denote.Slice.{MutSlice, slice_ty, slice_val, mut_slice_vals}
use denote.Steps.{nothing, opens, closes}
use denote.Through.{renamed, lends_inner_slice}
use denote.Triple.Walked.{says, Stays, stay_dropped, walk_of, ends_at, Goes-spent_ref}
use Rattle.capnp_arena.specs.contracts.arena.scratch_allocator.RefMutSliceU8Segment.bytes_mut as f
use Rattle.capnp_arena.proofs.arena.scratch_allocator.RefMutSliceU8Segment.bytes_mut.Statement.{statement}
use Rattle.capnp_arena.proofs.arena.scratch_allocator.RefMutSliceU8Segment.bytes_mut.Code as code
use contract.Lifetimes.{Lfts}

abbrev Inner : Lfts 2 → RattleType
Inner κs = MutSlice (named 1) κs.1.0 u8

abbrev written : Ty
written = slice_ty (ty_ref erased mut (ty_int w8))

abbrev stayed : Stays f.ended.signature.params f.ended.kept
stayed = (stay_dropped (mut_ref_to (0 ∷ []) tt (plain Inner)) no, tt)

pub bytes_mut_spec : {M : Type 1} → statement M
bytes_mut_spec {M} 𝓤 𝓛 𝓜 𝓡 wired =
    let c = f.clauses 𝓛 𝓜.mem 𝓡.returns in
    let 𝓣 = tables 𝓤 𝓛.H 𝓜 𝓡 𝓡.env in
    proved 𝓛 f.ended stayed c 𝓜 𝓡 (Goes-spent_ref 𝓛 2 (0 ∷ []) tt (plain Inner), tt)
    f.Key.name code.function (code.unfolded 𝓤 𝓛.H 𝓜 𝓡 wired)
    (λ κs. (mut_vals, tt)) (λ κs. (mut_Tells (named 0) κs.0 (Inner κs), tt)) (λ κs qs bounds a _ are.
    let κ = κs.0 in let q = qs.0 in let s = a.0 in let b = s.ref_ptr.0 in let o = s.ref_ptr.1 in let γ = s.ghost_name in let h = s.now in
    let n : ℕ = length h.now in
    let S : RattleType = Inner κs in
    let W = walk_of 𝓛 f.ended stayed c in
    let y : W.Ghost = ((κs, qs, bounds, a, (mut_vals s, tt)), tt) in
    qed 𝓛 (((‵ (flft κ q) ⊛ ‵ (flft κs.1.0 qs.1.0) ⊛ ‵ ftrue) ⊛ ‵ ((MutRef (named 0) κ S).own_val s (mut_vals s)) ⊛ ‵ ftrue) ∷ ‵ ftrue ∷ []) ∵
    split ! $ split3 ! $ move ! (3 ∷ []) $ split ! $ keep ! (0 ∷ 2 ∷ 3 ∷ []) $
    -- [the outer reference; the token of κ; that of the slice's lifetime]
    enter ! _ _ _ _ _ $ alloc_all ! (λ l. pass_all ! refl ((tt, tt), tt) $
    fsplit3 ! $ drop ! $ move ! (0 ∷ 1 ∷ 2 ∷ []) $ opens ! tt S b o (λ us. move ! (1 ∷ []) $
    fsplit3 ! $ fsplit3 ! $ feq_l ! (λ is. flt_l ! (λ fits. flt_l ! (λ small.
    rewrite ! 2 (λ (vs : List Val). ‵ (cell_at full_share S.mir vs b o)) is refl $ move ! (2 ∷ []) $
    use1 𝓛 (‵ (fat full_share written b o (slice_val h.ref_ptr n))) (𝓛.laws.raw_at full_share written b o (slice_val h.ref_ptr n)) $
    -- [the slice's cell; its name; its borrow; the outer borrow, open, in three entries; the token
    -- of the slice's lifetime]
    sets ! (of_opd ! (load ! (through ! refl (fld ! refl (stop !))) (look_in ! 0 (sub ! 1 refl (whole !))))) refl (tt, record { fits = fits }) $
    sets ! (addr ! (through ! refl (fld ! refl (hop ! (look_in ! 0 (sub ! 0 refl (whole !))) (stop !))))) refl (tt, tt) $
    sets ! (agg ! (and_then ! (get ! refl) (and_then ! (get ! refl) (no_more !)))) refl (tt, (tt, (record { fits = fits }, tt))) $
    use1 𝓛 (‵ (fat full_share (bare written) b o (slice_val h.ref_ptr n))) (𝓛.laws.at_raw full_share written b o (slice_val h.ref_ptr n)) $
    move ! (1 ∷ 2 ∷ []) $ flt_i ! (n * (mem u8).size) (2 ^ 63) small $ flt_i ! n (2 ^ 64) fits $ feq_i ! (List Val) (mut_slice_vals h) (mut_slice_vals h) refl $ fjoin3 ! $ fjoin3 ! $ move ! (1 ∷ 0 ∷ 2 ∷ 3 ∷ 4 ∷ []) $
    closes ! tt S h (mut_slice_vals h) b o $
    use3 𝓛 (later (some (λ (δ : GName). ‵ ((MutSlice (named 0) κ u8).own_val (renamed h δ) (mut_slice_vals h)) ⊛ ‵ (flft κ q) ⊛ ‵ (follows S (Array u8 0) γ δ (at_last h)))))
    (lends_inner_slice 𝓛 u8 (named 0) (named 1) κ κs.1.0 s bounds.0 (fits, small) q) $ await ! tt $ pick ! (λ δ. split3 ! $
    -- [the result; the token of κ; what the slice ends as; the other token]
    returns ! (look_at ! 0 refl) $ free_all ! refl $
    suffices ! _ (ends_at 𝓛 f.ended stayed c y (slice_val h.ref_ptr n) (renamed h δ) (tt, tt) (tt, tt)) $
    nothing ! $ nothing ! $ fjoin ! $ join ! $ nothing ! $ move ! (4 ∷ 0 ∷ []) $ join ! $ move ! (2 ∷ 0 ∷ []) $ join ! $ join ! $ frame ! $ says ! refl $ done !)))))))
