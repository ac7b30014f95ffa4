use Rattle.std.proofs.Common.{◌≡◌, inr, refl, sym}
use Rattle.std.proofs.lemmas.Bool.{false≢true}
use Rattle.std.proofs.lemmas.Result.{IfErr-weaker}
use Rattle.capnp_format.specs.Bytes.{message}
use Rattle.capnp_format.specs.Canonical.{encoding, trim}
use Rattle.capnp_messages.specs.declared.messages.command.Form.TheVariants.{Flat}
use Rattle.capnp_canonical.specs.Calls.{limits_of}
use Rattle.capnp_canonical.specs.Parts.{IsCopyOfPart}
use Rattle.capnp_canonical.proofs.CallLemmas.{fills_weaker, no_room_for}
use Rattle.capnp_canonical.proofs.parts.copy_at.Goals as goal

pub returns-in-Ok-clause-copied : goal.returns-in-Ok-clause-copied
returns-in-Ok-clause-copied g c =
    let (t, value, few, (same, fills, full)) = c.in-Ok.ensures.taken in
    let back : c.to-1.given.0 ≡ c.lend_part_words.new.taker.to.now = c.to-1.given.1.1 (sym same) in
    rw back (fills_weaker (λ bytes is. (t, value, few, is (encoding (trim t)) refl)) fills)

pub returns-in-Ok-clause-refused : goal.returns-in-Ok-clause-refused
returns-in-Ok-clause-refused g c =
    let (t, value, few, (same, fills, full)) = c.in-Ok.ensures.taken in
    let P = IsCopyOfPart (limits_of c.args.limits.nesting c.args.limits.words) c.args.path.now (message (g.S.ReaderSegments.segments c.args.segments)) in
    IfErr-weaker c.in-Ok.written _ _ (λ r no. inr (no_room_for Flat (encoding (trim t)) P (t, value, few, refl) no)) full

pub returns-in-Ok-clause-lent : goal.returns-in-Ok-clause-lent
returns-in-Ok-clause-lent g c = λ small.
    let (t, value, few, (same, fills, full)) = c.in-Ok.ensures.taken in
    IfErr-weaker c.in-Ok.written _ _ (λ r no. (_, no.0)) full

pub returns-in-Err-clause-lent : goal.returns-in-Err-clause-lent
returns-in-Err-clause-lent g c = λ small. absurd (false≢true (c.in-Err.ensures.lent small))
