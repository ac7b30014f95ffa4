-- When a copy has room in a segment, and what a call makes that copies a value.
use Rattle.std.specs.Prelude.{◌≡◌, ℕ, Result, ⊤, Err, IsOk, IfOk, IfErr, OnOk, OnErr}
use Rattle.capnp_words.specs.declared.error.ErrorKind.{ErrorKind}
use Rattle.capnp_words.specs.Meter.{Meter}
use Rattle.capnp_arena_traits.specs.View.{View, KeepsLimits}
use Rattle.capnp_allocation.specs.Makes.{CallAt}
use Rattle.capnp_allocation.specs.Near.{HasOwnRoom}
use Rattle.capnp_allocation.specs.Stored.{Puts}
use Rattle.capnp_allocation.specs.Zeroed.{IsPruned}
use Rattle.capnp_format.specs.Tree.{Tree, Null}
use Rattle.capnp_pointers.specs.Wanted.{Form}
use Rattle.capnp_copies.specs.Changes.{CopyCall, MakesCopy, StopsCopy}
use Rattle.capnp_copies.specs.Growth.{TakesAtMost}
use Rattle.capnp_copies.specs.Originals.{Original}

-- What is copied isn't larger than an object can be, a limiter lets it be read in this form, and
-- the words kept of it fit after those of segment id.
pub record CanBeCopied {V : Type 0} (o : Original V) (form : Form) (m : Meter) (v : View) (id : ℕ)
    : Type 0 where
  pub small : (k : ErrorKind) → o.exceeds form k → ⊥
  pub value : V
  pub after : Meter
  pub is_read : o.reads form m after value
  pub room : HasOwnRoom v id (o.words form value)

-- A call copies what is read, and never fails if that can be copied; or it is refused and leaves
-- null. Also states what it takes of the message. If what is copied is larger than an object can
-- be, nothing of it is read.
pub record CopiesOrClears (result : Result ⊤ ErrorKind) (o : Original Tree)
    (c : CopyCall) : Type 0 where
  pub copied : IfOk result (λ _. MakesCopy o c)
  pub fits : CanBeCopied o c.form c.before c.old c.segment → IsOk result
  pub refused : IfErr result (StopsCopy o c Null)
  pub taken : TakesAtMost result o c
  pub large : (k : ErrorKind) → o.exceeds c.form k → (result ≡ Err k) × (c.after ≡ c.before)

-- A call ends a copy. If that was refused, the pointer at the place becomes null, and what it led
-- to is zeroed; otherwise nothing changes.
pub record ClearsRefused (copied : Result ⊤ ErrorKind) (c : CallAt) : Type 0 where
  pub kept : OnOk copied (c.new ≡ c.old)
  pub null : OnErr copied (Puts c.old.words c.new.words c.segment c.at Null)
  pub only : OnErr copied (IsPruned c.old.words c.new.words)
  pub limits : OnErr copied (KeepsLimits c.old c.new)
