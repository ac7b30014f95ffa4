-- A copy into 64 words of stack memory isn't refused for lack of room.
use Rattle.std.proofs.Common.{◌≡◌, ◌+◌, ◌<◌, ◌≤◌, ℕ, List, Result, Ok, ap, arith, length, refl, subst, sym, ◌∙◌}
use Rattle.capnp_words.specs.declared.error.ErrorKind.{ErrorKind}
use Rattle.capnp_words.specs.Meter.{Meter}
use Rattle.capnp_format.specs.Canonical.{encoding, trim, word_count}
use Rattle.capnp_format.specs.Segments.{Segments}
use Rattle.capnp_format.specs.Tree.{Tree}
use Rattle.capnp_arena.specs.declared.arena.reader_arena_impl.ReaderOptions.{ReaderOptions}
use Rattle.capnp_messages.specs.Copies.{NeedsMoreRoom}
use Rattle.capnp_messages.specs.MessageParts.{RefusesPart, part_within}
use Rattle.capnp_messages.specs.Messages.{RefusesCanon, root_within}
use Rattle.capnp_messages.specs.Parts.{PathEnd, to_pointer}
use Rattle.capnp_messages.specs.SmallCopies.{NeedsNoHeap, PartNeedsNoHeap}
use Rattle.capnp_messages.proofs.CanonicalizeLemmas.{canon_refused, value_long}
use Rattle.capnp_messages.proofs.EndRefusals.{meant_long, meant_plainly}
use Rattle.capnp_messages.proofs.MessagePartLemmas.{part_granted}

-- The copy of a message that needs no heap fits.
pub copy_fits : {limits : ReaderOptions} {S : Segments} → NeedsNoHeap limits S → NeedsMoreRoom (to_pointer (root_within S limits)) 64 → ⊥
copy_fits {limits} {S} (few, (t, v, fits)) more =
    let needs = more t (meant_plainly (to_pointer (root_within S limits)) t v.cost v.means) in
    omega (arith, needs, value_long v, fits)

pub copy_is_not_refused : {limits : ReaderOptions} {S : Segments} (k : ErrorKind) → NeedsNoHeap limits S → RefusesCanon S limits k → ⊥
copy_is_not_refused {limits} {S} k (few, (t, v, fits)) refused = canon_refused S limits t k v (omega (arith, fits)) refused

-- So does the copy of such a part.
abbrev pub PartNeedsMore : ReaderOptions → List ℕ → Segments → Type 0
PartNeedsMore limits path S =
    (e : PathEnd) × (m : Meter) × (part_within S limits path ≡ (Ok e, m)) × NeedsMoreRoom e 64

-- A path leads to one end.
same_end : (S : Segments) (limits : ReaderOptions) (path : List ℕ) {e f : PathEnd} {m n : Meter} → part_within S limits path ≡ (Ok e, m) → part_within S limits path ≡ (Ok f, n) → e ≡ f
same_end S limits path {e} {f} one other =
    let same : Ok e ≡ Ok f = ap (λ (x : Result PathEnd ErrorKind × Meter). x.0) (sym one ∙ other) in
    cc same

pub part_fits : {limits : ReaderOptions} {path : List ℕ} {S : Segments} → PartNeedsNoHeap limits path S → PartNeedsMore limits path S → ⊥
part_fits {limits} {path} {S} (t, v, fits) (e, m, leads, more) =
    let same : e ≡ v.path_end = same_end S limits path leads v.leads in
    let needs = subst (λ (x : PathEnd). NeedsMoreRoom x 64) same more t (meant_plainly v.path_end t v.cost v.means) in
    omega (arith, needs, meant_long v.path_end t v.cost v.means, fits)

pub part_is_not_refused : {limits : ReaderOptions} {path : List ℕ} {S : Segments} (k : ErrorKind) → PartNeedsNoHeap limits path S → RefusesPart S limits path k → ⊥
part_is_not_refused {limits} {path} {S} k (t, v, fits) refused = part_granted S limits path t k v (omega (arith, fits)) refused
