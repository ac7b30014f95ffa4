-- Part of a slice of bytes is lent as a slice, and the whole slice follows it. Each of its bytes is
-- below 256.
use Rattle.std.proofs.Common.{◌≡◌, ℕ, ◌+◌, ◌*◌, ◌≤◌, List, [], ◌∷◌, ◌++◌, length, take, drop as drop_list, sym, ap, refl, ◌∙◌, arith, MutBor, length-drop}
use lib.ListN.{take-append-drop, length-append}
use seplogic.Ra.Ura.{Ura}
use base.Logic.{SProp, ent, sep, ex, guard}
use base.Stored.{coded_list}
use base.Fml.{Lft, GName, Share, flft, fobs, fbor}
use base.Fraction.{full_share}
use mir.Syntax.{named, w8}
use mir.Val.{Val}
use types.Logic.{Logic, sem}
use types.Kit.{‵, ◌⊛◌, some, later, ◌$◌, ◌∵◌, !, qed, move, drop, use1, use2, split, split3, join, fsplit, fsplit3, fjoin, feq_i, feq_l, rewrite, updating, group, await, pick, given, learn, check, now, show, done}
use types.SemTy.{cells, Arr, Body}
use types.Follow.{takes_part}
use types.Mut.{open_ref}
use denote.Array.{Array}
use denote.Builtin.{u8}
use denote.Follow.{follows}
use denote.FollowSlice.{heres_id, slice_of}
use denote.Memory.{mem}
use denote.Slice.{MutSlice, Room, slice_val}
use borrow.Rule.Slice.Know.{AllWt, cells_fit}
use borrow.Rule.Slice.Shared.{Sh}
use borrow.Table.Referent.{f_int, rt_f}
use borrow.Table.Elements.{at, at_mul, cut_app, join_app, length-take-le}
use Rattle.capnp_arena_traits.specs.Written.{overwritten}

module _ {M : Type 1} {𝓤 : Ura M} (𝓛 : Logic 𝓤) (κ : Lft) (q : Share) (b o : ℕ) (γ : GName) (a n : ℕ) (xs : List ℕ) (le : a + n ≤ length xs) where
  open 𝓛 use {H, A}

  abbrev front : List ℕ
  front = take a xs

  abbrev pub part : List ℕ
  part = take n (drop_list a xs)

  abbrev back : List ℕ
  back = drop_list n (drop_list a xs)

  abbrev past : ℕ
  past = at (a + o) (mem u8).size n

  abbrev pub bytes : ℕ → GName → List ℕ → MutBor (List ℕ)
  bytes p δ ws = record { ref_ptr = (b, p); ghost_name = δ; now = ws }

  front_long : length front ≡ a
  front_long = length-take-le a xs (omega (arith, le))

  pub long : length part ≡ n
  long = length-take-le n (drop_list a xs) (omega (arith, le, length-drop a xs))

  cut : xs ≡ front ++ (part ++ back)
  cut = sym (take-append-drop a xs) ∙ ap (λ (l : List ℕ). front ++ l) (sym (take-append-drop n (drop_list a xs)))

  on : at o (mem u8).size (length front) ≡ a + o
  on = at_mul o (mem u8).size (length front) ∙ ap (λ (k : ℕ). k + o) (let e : length front * (mem u8).size ≡ length front = omega arith in e) ∙ ap (λ (k : ℕ). k + o) front_long

  -- The part under a new name, the token, and what the slice ends as.
  abbrev pub PartLent : GName → SProp 𝓤
  PartLent δ = sep 𝓤 (sem 𝓛 ((MutSlice (named 0) κ u8).own_val (bytes (a + o) δ part) (slice_val (b, a + o) (length part) ∷ []))) (sep 𝓤 (A.lft κ q) (sem 𝓛 (follows (Array u8 0) (Array u8 0) γ δ (overwritten xs a))))

  abbrev Others : SProp 𝓤
  Others = sep 𝓤 (sem 𝓛 (cells (mem u8) front b o)) (sem 𝓛 (cells (mem u8) back b past))

  put : (ws : List ℕ) → ent 𝓤 (sep 𝓤 (sem 𝓛 ((Arr (mem u8) (length part)).own_at ws b (a + o))) Others) (sem 𝓛 ((Arr (mem u8) (length xs)).own_at (overwritten xs a ws) b o))
  put ws = qed 𝓛 (‵ ((Arr (mem u8) (length part)).own_at ws b (a + o)) ∷ ‵ (cells (mem u8) front b o) ∷ ‵ (cells (mem u8) back b past) ∷ []) ∵ fsplit ! $ feq_l ! (λ e.
      let count : length ws ≡ n = e ∙ long in
      let same : front ++ (ws ++ back) ≡ overwritten xs a ws = ap (λ (k : ℕ). front ++ (ws ++ drop_list k (drop_list a xs))) (sym count) in
      let whole : length xs ≡ length front + length (part ++ back) = ap length cut ∙ length-append front (part ++ back) in
      let inner : length (part ++ back) ≡ length part + length back = length-append part back in
      let now_whole : length (front ++ (ws ++ back)) ≡ length front + length (ws ++ back) = length-append front (ws ++ back) in
      let now_inner : length (ws ++ back) ≡ length ws + length back = length-append ws back in
      let total : length (front ++ (ws ++ back)) ≡ length xs = omega (arith, e, whole, inner, now_whole, now_inner) in
      rewrite ! 2 (λ (k : ℕ). ‵ (cells (mem u8) back b (at (a + o) (mem u8).size k))) (sym count) refl $ move ! (0 ∷ 2 ∷ []) $
      use2 𝓛 (‵ (cells (mem u8) (ws ++ back) b (a + o))) (join_app 𝓛 (mem u8) ws back b (a + o)) $
      rewrite ! 0 (λ (k : ℕ). ‵ (cells (mem u8) (ws ++ back) b k)) (sym on) refl $ move ! (1 ∷ 0 ∷ []) $
      use2 𝓛 (‵ (cells (mem u8) (front ++ (ws ++ back)) b o)) (join_app 𝓛 (mem u8) front (ws ++ back) b o) $
      rewrite ! 0 (λ (l : List ℕ). ‵ (cells (mem u8) l b o)) same refl $
      feq_i ! ℕ (length (overwritten xs a ws)) (length xs) (ap length (sym same) ∙ total) $ fjoin ! $ done !)

  pub lends_part : Room u8 (length part) → (vs : List Val)
      → ent 𝓤 (sep 𝓤 (sem 𝓛 ((MutSlice (named 0) κ u8).own_val (bytes o γ xs) vs)) (A.lft κ q)) (H.⇛ (guard 𝓤 (AllWt (f_int w8) xs) (ex 𝓤 PartLent)))
  lends_part room vs =
      qed 𝓛 (‵ ((MutSlice (named 0) κ u8).own_val (bytes o γ xs) vs) ∷ ‵ (flft κ q) ∷ []) ∵ updating ! $ fsplit3 ! $ drop ! $
      rewrite ! 0 (λ (l : List ℕ). ‵ (fobs γ ((coded_list u8.coded).code l))) (heres_id u8 xs) refl $ open_ref ! tt (Arr (mem u8) (length xs)) {b = b} {o = o} $ fsplit ! $ drop ! $
      use1 𝓛 (given (AllWt (f_int w8) xs) (‵ (cells (Sh (rt_f (f_int w8)) full_share) xs b o))) (cells_fit 𝓛 (f_int w8) full_share xs b o) $ learn ! (λ fit.
      rewrite ! 0 (λ (l : List ℕ). ‵ (cells (mem u8) l b o)) cut refl $
      use1 𝓛 (‵ (cells (mem u8) front b o) ⊛ ‵ (cells (mem u8) (part ++ back) b (at o (mem u8).size (length front)))) (cut_app 𝓛 (mem u8) front (part ++ back) b o) $ split ! $ move ! (1 ∷ []) $
      rewrite ! 0 (λ (k : ℕ). ‵ (cells (mem u8) (part ++ back) b k)) on refl $
      use1 𝓛 (‵ (cells (mem u8) part b (a + o)) ⊛ ‵ (cells (mem u8) back b (at (a + o) (mem u8).size (length part)))) (cut_app 𝓛 (mem u8) part back b (a + o)) $ split ! $
      rewrite ! 1 (λ (k : ℕ). ‵ (cells (mem u8) back b (at (a + o) (mem u8).size k))) long refl $
      feq_i ! ℕ (length part) (length part) refl $ fjoin ! $
      -- [the part; what comes after it; what comes before it; the open borrow, in three entries]
      move ! (2 ∷ 1 ∷ []) $ join ! $ move ! (2 ∷ 3 ∷ 4 ∷ 1 ∷ 0 ∷ []) $ group ! 5 $
      use1 𝓛 (later (some (λ (δ : GName). ‵ (fobs δ ((coded_list u8.coded).code part)) ⊛ ‵ (fbor κ (Body (Arr (mem u8) (length part)) b (a + o) δ)) ⊛ ‵ (flft κ q) ⊛ ‵ (follows (Array u8 0) (Array u8 0) γ δ (overwritten xs a)))))
      (takes_part 𝓛 (Arr (mem u8) (length xs)) (Arr (mem u8) (length part)) (overwritten xs a) κ q b o b (a + o) γ Others put ((coded_list u8.coded).code xs) ((coded_list u8.coded).code xs) part) $ await ! tt $ pick ! (λ δ. split3 ! $
      use2 𝓛 (‵ ((MutSlice (named 0) κ u8).own_val (bytes (a + o) δ part) (slice_val (b, a + o) (length part) ∷ []))) (slice_of 𝓛 u8 (named 0) κ b (a + o) δ part room) $ now ! $ check ! fit $ show ! PartLent δ $ done !))
