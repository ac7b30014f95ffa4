-- The first elements of a slice of bytes are lent as a slice, and the whole slice follows them.
use Rattle.std.proofs.Common.{◌≡◌, ℕ, ◌+◌, ◌≤◌, List, [], ◌∷◌, ◌++◌, length, take, drop as drop_list, sym, ap, refl, ◌∙◌, MutBor}
use lib.ListN.{take-append-drop, length-append}
use seplogic.Ra.Ura.{Ura}
use base.Logic.{SProp, ent, sep, ex}
use base.Stored.{coded_list}
use base.Fml.{Lft, GName, Share, flft, fobs, fbor}
use mir.Syntax.{named}
use mir.Val.{Val}
use types.Logic.{Logic, sem}
use types.Kit.{‵, ◌⊛◌, some, later, ◌$◌, ◌∵◌, !, qed, move, drop, use1, use2, split, split3, fsplit, fsplit3, fjoin, feq_i, feq_l, rewrite, updating, group, await, pick, now, show, done}
use types.SemTy.{cells, Arr, Body}
use types.Follow.{takes_part}
use types.Mut.{open_ref}
use denote.Array.{Array}
use denote.Builtin.{u8}
use denote.Follow.{follows}
use denote.FollowSlice.{heres_id, slice_of}
use denote.Memory.{mem}
use denote.Slice.{MutSlice, Room, slice_val}
use borrow.Table.Elements.{at, cut_app, join_app, length-take-le}
use Rattle.capnp_arena_traits.specs.Written.{with_front}
use Rattle.capnp_arena.specs.LendingLemmas.{front_written}

module _ {M : Type 1} {𝓤 : Ura M} (𝓛 : Logic 𝓤) (κ : Lft) (q : Share) (b o : ℕ) (γ : GName) (n : ℕ) (xs : List ℕ) (le : n ≤ length xs) where
  open 𝓛 use {H, A}

  abbrev pub first : List ℕ
  first = take n xs

  abbrev rest : List ℕ
  rest = drop_list n xs

  abbrev past : ℕ
  past = at o (mem u8).size (length first)

  abbrev pub bytes : GName → List ℕ → MutBor (List ℕ)
  bytes δ ws = record { ref_ptr = (b, o); ghost_name = δ; now = ws }

  pub long : length first ≡ n
  long = length-take-le n xs le

  -- the first bytes with a new ghost name, the token, and what the slice ends as
  abbrev pub FrontLent : GName → SProp 𝓤
  FrontLent δ = sep 𝓤 (sem 𝓛 ((MutSlice (named 0) κ u8).own_val (bytes δ first) (slice_val (b, o) (length first) ∷ []))) (sep 𝓤 (A.lft κ q) (sem 𝓛 (follows (Array u8 0) (Array u8 0) γ δ (with_front n xs))))

  put : (ws : List ℕ) → ent 𝓤 (sep 𝓤 (sem 𝓛 ((Arr (mem u8) (length first)).own_at ws b o)) (sem 𝓛 (cells (mem u8) rest b past))) (sem 𝓛 ((Arr (mem u8) (length xs)).own_at (with_front n xs ws) b o))
  put ws = qed 𝓛 (‵ ((Arr (mem u8) (length first)).own_at ws b o) ∷ ‵ (cells (mem u8) rest b past) ∷ []) ∵ fsplit ! $ feq_l ! (λ e.
      let same : ws ++ rest ≡ with_front n xs ws = front_written n xs ws (e ∙ long) in
      let count : length (with_front n xs ws) ≡ length xs = ap length (sym same) ∙ length-append ws rest ∙ ap (λ (k : ℕ). k + length rest) e ∙ sym (length-append first rest) ∙ ap length (take-append-drop n xs) in
      rewrite ! 1 (λ (j : ℕ). ‵ (cells (mem u8) rest b (at o (mem u8).size j))) (sym e) refl $
      use2 𝓛 (‵ (cells (mem u8) (ws ++ rest) b o)) (join_app 𝓛 (mem u8) ws rest b o) $
      rewrite ! 0 (λ (l : List ℕ). ‵ (cells (mem u8) l b o)) same refl $
      feq_i ! ℕ (length (with_front n xs ws)) (length xs) count $ fjoin ! $ done !)

  pub lends_front : Room u8 (length first) → (vs : List Val)
      → ent 𝓤 (sep 𝓤 (sem 𝓛 ((MutSlice (named 0) κ u8).own_val (bytes γ xs) vs)) (A.lft κ q)) (H.⇛ (ex 𝓤 FrontLent))
  lends_front room vs =
      qed 𝓛 (‵ ((MutSlice (named 0) κ u8).own_val (bytes γ xs) vs) ∷ ‵ (flft κ q) ∷ []) ∵ updating ! $ fsplit3 ! $ drop ! $
      rewrite ! 0 (λ (l : List ℕ). ‵ (fobs γ ((coded_list u8.coded).code l))) (heres_id u8 xs) refl $ open_ref ! tt (Arr (mem u8) (length xs)) {b = b} {o = o} $ fsplit ! $ drop ! $
      rewrite ! 0 (λ (l : List ℕ). ‵ (cells (mem u8) l b o)) (sym (take-append-drop n xs)) refl $
      use1 𝓛 (‵ (cells (mem u8) first b o) ⊛ ‵ (cells (mem u8) rest b past)) (cut_app 𝓛 (mem u8) first rest b o) $ split ! $
      feq_i ! ℕ (length first) (length first) refl $ fjoin ! $ move ! (2 ∷ 3 ∷ 4 ∷ 0 ∷ 1 ∷ []) $ group ! 5 $
      use1 𝓛 (later (some (λ (δ : GName). ‵ (fobs δ ((coded_list u8.coded).code first)) ⊛ ‵ (fbor κ (Body (Arr (mem u8) (length first)) b o δ)) ⊛ ‵ (flft κ q) ⊛ ‵ (follows (Array u8 0) (Array u8 0) γ δ (with_front n xs)))))
      (takes_part 𝓛 (Arr (mem u8) (length xs)) (Arr (mem u8) (length first)) (with_front n xs) κ q b o b o γ (sem 𝓛 (cells (mem u8) rest b past)) put ((coded_list u8.coded).code xs) ((coded_list u8.coded).code xs) first) $ await ! tt $ pick ! (λ δ. split3 ! $
      use2 𝓛 (‵ ((MutSlice (named 0) κ u8).own_val (bytes δ first) (slice_val (b, o) (length first) ∷ []))) (slice_of 𝓛 u8 (named 0) κ b o δ first room) $ now ! $ show ! FrontLent δ $ done !)
