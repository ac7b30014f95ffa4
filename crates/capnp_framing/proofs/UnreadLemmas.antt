-- Why nothing was read, if several reads follow each other.
use Rattle.std.proofs.Common.{Bool, true, false, ◌≡◌, ◌⊎◌, ℕ, ◌+◌, ◌*◌, ◌<◌, ◌≤◌, inl, inr, Result, Ok, Err, List, [], ◌++◌, length, sym, ap, ◌∙◌, subst, arith, length-append, take_at, take_all, refl, Option, Some, None, IfSome, OnOk, IfErr}
use Rattle.std.specs.Int.{from_le_bytes, w32}
use Rattle.std.specs.Option.{is_some}
use Rattle.std.specs.Io.KnownBytes.{Consumes}
use Rattle.capnp_arena_traits.specs.Limits.{IsSmall}
use Rattle.capnp_framing.specs.Bare.{HasTakenBare, NoSegmentRead}
use Rattle.capnp_framing.specs.Frames.{padding_size}
use Rattle.capnp_framing.specs.Memory.{frame_refusals}
use Rattle.capnp_framing.specs.Reading.{HasTaken, NoFrame, NoFrameRead, WhyUnread, segments_told, table_cut, table_size}
use Rattle.capnp_framing.specs.declared.devices.Input.{Ghosts}
use Rattle.capnp_framing.specs.declared.framing.frame_error.FrameError.{FrameError}
use Rattle.capnp_framing.specs.declared.framing.frame_error.FrameError.TheVariants.{AllocationFailed, ReadFailed, Truncated}
use Rattle.capnp_framing.proofs.ReadingLemmas.{not_failed}

-- what holds after bytes that were read holds for all of them
pub behind_read : (a b : Option (List ℕ)) (first : List ℕ) (Q P : List ℕ → Type 0) → Consumes a b first → IfSome b Q → ((rest : List ℕ) → Q rest → P (first ++ rest)) → IfSome a P
behind_read None b first Q P f q h = tt
behind_read (Some x) None first Q P f q h = absurd f
behind_read (Some x) (Some y) first Q P f q h = subst P (sym f) (h y q)

-- a table is cut short after the number of segments
pub short_table : (first rest : List ℕ) (n most : ℕ) → length first ≡ 4 → n ≡ segments_told first → n ≤ 512 → length rest < 4 * n + padding_size n → NoFrame (first ++ rest) most Truncated
short_table first rest n most four told few short =
    let same : segments_told (first ++ rest) ≡ n = ap (λ (xs : List ℕ). from_le_bytes w32 xs + 1) (take_at first rest 4 four ∙ sym (take_all 4 first (omega (arith, four)))) ∙ sym told in
    let long : length (first ++ rest) ≡ 4 + length rest = omega (arith, length-append first rest, four) in
    table_cut (omega (arith, long)) (omega (arith, same, few)) (subst (λ k. length (first ++ rest) < table_size k) (sym same) (omega (arith, long, short))) refl

-- what was counted after a refusal, if nothing was counted before it
pub counted_later : (e : FrameError) (a b c : ℕ) → b ≡ a → c ≡ frame_refusals e b → c ≡ frame_refusals e a
counted_later e a b c same h = h ∙ ap (frame_refusals e) same

-- what was counted after a refusal that isn't counted
pub counted_none : (e : FrameError) (a b : ℕ) → b ≡ a → ((n : ℕ) → frame_refusals e n ≡ n) → b ≡ frame_refusals e a
counted_none e a b same none = same ∙ sym (none a)

-- a clause on success holds for a refusal that a call forwards
pub on_err : {A E : Type 0} (P : Type 0) (r : Result A E) {e : E} → r ≡ Err e → OnOk r P
on_err P r is = subst (λ r. OnOk r P) (sym is) tt

pub if_err : {A E : Type 0} (P : E → Type 0) (r : Result A E) {a e : E} → r ≡ Err a → a ≡ e → P e → IfErr r P
if_err P r is same h = subst (λ r. IfErr r P) (sym is) (subst P (sym same) h)

-- what holds for a row that was returned, because there was no memory for it
pub row_back : {A Q : Type 0} {b : Bool} (r : Option A) (P : A → Type 0) → b ≡ is_some r → b ≡ true → IfSome r P → ((x : A) → P x → Q) → Q
row_back None P same back h then = absurd (let wrong : ⊥ = cc in wrong)
row_back (Some x) P same back h then = then x h

-- a call that is refused returns no value
pub gives_nothing : {A E P : Type 0} (r : Result A E) (a : A) {e : E} → r ≡ Err e → r ≡ Ok a → P
gives_nothing r a refused given = absurd (let wrong : ⊥ = cc in wrong)

-- an empty list of segments is small
pub none_small : IsSmall []
none_small = (omega arith, λ k s there. absurd (let wrong : ⊥ = cc in wrong))

module _ {R : Type 0} (g : Ghosts R) where
  -- there was no memory for bytes
  pub unread_memory : (from to : R) (n : ℕ) (e : FrameError) → e ≡ AllocationFailed → g.has_failed to ≡ false → WhyUnread g from to n e
  unread_memory from to n e is works = record { why = inl is; failed = not_failed _ works; cut = λ ended. absurd (let wrong : ⊥ = cc in wrong) }

  -- there was no memory for a frame
  pub frame_memory : (from to : R) (most : ℕ) (e : FrameError) → e ≡ AllocationFailed → g.has_failed to ≡ false → NoFrameRead g from to most e
  frame_memory from to most e is works = record { why = inl is; failed = not_failed _ works; taken = subst (HasTaken g from to) (sym is) tt }

  -- not all bytes of a frame came after those that had come
  pub frame_unread : (from mid to : R) (n most : ℕ) (e : FrameError) → (IfSome (g.remaining mid) (λ bytes. length bytes < n) → IfSome (g.remaining from) (λ bytes. NoFrame bytes most Truncated)) →
      WhyUnread g mid to n e → NoFrameRead g from to most e
  frame_unread from mid to n most e short h = record {
    why = elim h.why [
      | inl a ↦ inl a
      | inr u ↦ elim u [
        | inl cut ↦ inr (inr (subst (λ e. IfSome (g.remaining from) (λ bytes. NoFrame bytes most e)) (sym cut.0) (short cut.1)))
        | inr failed ↦ inr (inl failed)
      ]
    ];
    failed = h.failed;
    taken = elim h.why [
      | inl a ↦ subst (HasTaken g from to) (sym a) tt
      | inr u ↦ elim u [
        | inl cut ↦ subst (HasTaken g from to) (sym cut.0) (h.cut cut.0)
        | inr failed ↦ subst (HasTaken g from to) (sym failed.0) tt
      ]
    ];
  }

  -- there was no memory for a segment
  pub segment_memory : (from to : R) (most : ℕ) (e : FrameError) → e ≡ AllocationFailed → g.has_failed to ≡ false → NoSegmentRead g from to most e
  segment_memory from to most e is works = record { why = inl is; failed = not_failed _ works; taken = subst (HasTakenBare g from to) (sym is) tt }

  -- no segment was read, because memory ran out or the input failed
  pub segment_unread : (from to : R) (most : ℕ) (e : FrameError) → (e ≡ AllocationFailed) ⊎ ((e ≡ ReadFailed) × (g.has_failed to ≡ true)) → (g.has_failed to ≡ true → e ≡ ReadFailed) → NoSegmentRead g from to most e
  segment_unread from to most e why failed = record {
    why = elim why [ inl a ↦ inl a | inr u ↦ inr (inl u) ];
    failed = failed;
    taken = elim why [
      | inl a ↦ subst (HasTakenBare g from to) (sym a) tt
      | inr u ↦ subst (HasTakenBare g from to) (sym u.0) tt
    ];
  }
