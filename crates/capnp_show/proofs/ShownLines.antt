-- What is written of a value, by the length of its line.
use Rattle.std.proofs.Common.{◌≡◌, ◌+◌, ◌≤◌, ◌<◌, true, false, nat_le, ◌++◌, length, Result, Ok, Err, IfOk, refl, sym, ap, ◌∙◌, arith, length-append, le-leb}
use Rattle.std.proofs.lemmas.Bool.{lt-leb}
use Rattle.std.specs.Prelude.{codes}
use Rattle.capnp_format.specs.Tree.{Tree}
use Rattle.capnp_show.specs.Adding.{max_text}
use Rattle.capnp_show.specs.Line.{value_line}
use Rattle.capnp_show.specs.Shown.{Shown, Shows}
use Rattle.capnp_show.specs.declared.show.text.Ended.{Ended}
use Rattle.capnp_show.specs.declared.show.text.Ended.TheVariants.{Full}
use Rattle.capnp_show.specs.ShownParts.{HasShortLine, line_text, shown_line}
use Rattle.capnp_show.specs.declared.show.json.Json.{Json}
use Rattle.capnp_show.specs.declared.show.message.ShowFault.{ShowFault}

pub shown_short : (t : Tree) → length (value_line t ++ codes "\n") ≤ max_text → shown_line t ≡ value_line t ++ codes "\n"
shown_short t short =
    let test : nat_le (length (value_line t) + 1) max_text ≡ true = le-leb _ _ (omega (arith, short, length-append (value_line t) (codes "\n"))) in
    rw test refl

line_cut : (t : Tree) → max_text < length (value_line t ++ codes "\n") → shown_line t ≡ codes "{\"cut\":\"length\"}\n"
line_cut t long =
    let test : nat_le (length (value_line t) + 1) max_text ≡ false = lt-leb _ _ (omega (arith, long, length-append (value_line t) (codes "\n"))) in
    rw test refl

-- A line that says that the line of t is too long, or a refusal.
pub shown_cut : (t : Tree) → max_text < length (value_line t ++ codes "\n") → (result : Result Json ShowFault) → IfOk result (λ json. json.text.bytes.items ≡ codes "{\"cut\":\"length\"}\n") →
    IfOk result (λ json. (json.text.bytes.items ≡ shown_line t) × (HasShortLine t → json.is_sound ≡ true))
shown_cut t long (Ok json) cut = (cut ∙ sym (line_cut t long), λ short. absurd (omega (arith, long, short, length-append (value_line t) (codes "\n"))))
shown_cut t long (Err e) cut = tt

-- A line that is short enough is written.
pub line_written_whole : {A : Type 0} {x : A} {json : Json} {s : Shown} → Shows (Ok x) json s → length json.text.bytes.items ≤ max_text →
    (json.text.bytes.items ≡ line_text s) × (length s.text ≤ max_text → json.is_sound ≡ s.sound)
line_written_whole {json = json} {s} shows fits =
    let text : json.text.bytes.items ≡ s.text = ap (λ (x : Shown). x.text) shows.written in
    let test : nat_le (length s.text) max_text ≡ true = le-leb _ _ (omega (arith, fits, ap length text)) in
    let same : line_text s ≡ s.text = rw test refl in
    (text ∙ sym same, λ short. ap (λ (x : Shown). x.sound) shows.written)

-- Of a longer one it is written that it is too long.
pub line_not_written : {A : Type 0} {k : Ended} {json : Json} {s : Shown} → Shows {A = A} (Err k) json s → k ≡ Full → (result : Result Json ShowFault) → IfOk result (λ cut. cut.text.bytes.items ≡ codes "{\"cut\":\"length\"}\n") →
    IfOk result (λ cut. (cut.text.bytes.items ≡ line_text s) × (length s.text ≤ max_text → cut.is_sound ≡ s.sound))
line_not_written {s = s} shows is (Ok cut) said =
    let long : max_text < length s.text = shows.full is in
    let test : nat_le (length s.text) max_text ≡ false = lt-leb _ _ long in
    let other : line_text s ≡ codes "{\"cut\":\"length\"}\n" = rw test refl in
    (said ∙ sym other, λ short. absurd (omega (arith, long, short)))
line_not_written shows is (Err e) said = tt
