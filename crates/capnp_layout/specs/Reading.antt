-- How an input is read: what it leaves of its allocator and of the device.
use Rattle.std.specs.Prelude.{◌≡◌, ℕ, Bool, false, Result, OnOk, IfErr}
use Rattle.capnp_arena_traits.specs.Allocations.{one_more}
use Rattle.capnp_layout.specs.declared.tool.lines.InputFault.{InputFault}
use Rattle.capnp_layout.specs.declared.tool.lines.InputFault.TheVariants.{BadInput, NoMemory}

-- An allocator has counted one more refusal, from old to new, if there was no memory, and otherwise
-- none.
pub record CountsRead {A : Type 0} (old new : ℕ) (result : Result A InputFault) : Type 0 where
  pub kept : OnOk result (new ≡ old)
  pub same : IfErr result (λ e. e ≡ BadInput → new ≡ old)
  pub memory : IfErr result (λ e. e ≡ NoMemory → new ≡ one_more old)

-- A device works unless the input is bad; `failed` is whether it has failed.
pub record WorksUnlessBad {A : Type 0} (failed : Bool) (result : Result A InputFault) : Type 0 where
  pub works : OnOk result (failed ≡ false)
  pub unfailed : IfErr result (λ e. e ≡ NoMemory → failed ≡ false)
