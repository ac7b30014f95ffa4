-- How often memory was refused, if no message is read.
use Rattle.std.specs.Prelude.{◌≡◌, ℕ, Result, OnOk, IfErr}
use Rattle.capnp_arena_traits.specs.Allocations.{one_more}
use Rattle.capnp_framing.specs.declared.framing.frame_error.FrameError.{FrameError}
use Rattle.capnp_framing.specs.declared.framing.frame_error.FrameError.TheVariants.{AllocationFailed}

-- How often memory was refused after a refusal, if it was n times before: once more after
-- `AllocationFailed`, otherwise n.
abbrev pub frame_refusals : FrameError → ℕ → ℕ
frame_refusals AllocationFailed n = one_more n
frame_refusals _ n = n

-- What an allocator has counted after a call: no more refusals if it succeeds, and what its error
-- says if it is refused.
pub record CountsMemory {A : Type 0} (result : Result A FrameError) (before after : ℕ) : Type 0 where
  pub kept : OnOk result (after ≡ before)
  pub counted : IfErr result (λ e. after ≡ frame_refusals e before)

-- What an allocator has counted after a call that is refused only if memory runs out.
pub record WantsMemory {A : Type 0} (result : Result A FrameError) (before after : ℕ) : Type 0 where
  pub kept : OnOk result (after ≡ before)
  pub refused : IfErr result (λ e. e ≡ AllocationFailed)
  pub counted : IfErr result (λ e. after ≡ frame_refusals e before)
