-- A stream is read and answered message by message.
use Rattle.std.proofs.Common.{◌≡◌, ◌⊎◌, inl, inr, ◌≤◌, ◌<◌, ℕ, ◌+◌, ◌-◌, ◌^◌, min, List, [], ◌∷◌, ◌++◌, Bool, true, false, ◌&&◌, Option, Some, None, length}
use Rattle.std.proofs.Common.{IfSome, refl, sym, ap, subst, ◌∙◌, append_assoc, append-nil, arith, length-append}
use Rattle.std.proofs.lemmas.List.{length-replicate}
use Rattle.std.specs.Prelude.{replicate}
use Rattle.std.specs.Io.KnownBytes.{Appends, Consumes, IsAtEnd, Keeps}
use Rattle.capnp_format.specs.Segments.{Segments}
use Rattle.capnp_framing.specs.Flat.{BeginsWithFrame}
use Rattle.capnp_framing.specs.Frames.{IsFrameOf, frame, padding_size}
use Rattle.capnp_framing.specs.Reading.{total}
use Rattle.capnp_framing.proofs.ReadingLemmas.{consumes_both, length-frame_with}
use Rattle.capnp_framing.proofs.WritingLemmas.{appends_both}
use Rattle.capnp_streams.specs.Jobs.{most_of}
use Rattle.capnp_streams.specs.declared.streams.task.Job.{Job}
use Rattle.capnp_streams.specs.Streams.{AreAnswered, AreDone, AreFrames, JobAnswerIs, Stage}
use Rattle.capnp_streams.specs.declared.streams.runs.Summary.{Summary}
use Rattle.capnp_packing.proofs.PackingLemmas.{kept_appends}

-- frames after others
pub frames_both : (most : ℕ) (Ss Ts : List Segments) (bytes others : List ℕ) → AreFrames most Ss bytes →
    AreFrames most Ts others → AreFrames most (Ss ++ Ts) (bytes ++ others)
frames_both most [] Ts bytes others none framed =
    subst (λ (bs : List ℕ). AreFrames most Ts (bs ++ others)) (sym none) framed
frames_both most (S ∷ Ss) Ts bytes others (first, rest, same, is, few, more) framed =
    let whole = ap (λ (bs : List ℕ). bs ++ others) same ∙ append_assoc first rest others in
    (first, rest ++ others, whole, is, few, frames_both most Ss Ts rest others more framed)

pub and_assoc : (a b c : Bool) → (a && b) && c ≡ a && (b && c)
and_assoc true b c = refl
and_assoc false b c = refl

-- answers after others
answers_both : (job : Job) (Ss Ts : List Segments) (all holds : Bool) (bytes others : List ℕ) →
    AreAnswered job Ss all bytes → AreAnswered job Ts holds others →
    AreAnswered job (Ss ++ Ts) (all && holds) (bytes ++ others)
answers_both job [] Ts all holds bytes others (none, nothing) answered =
    subst (λ (b : Bool). AreAnswered job Ts (b && holds) (bytes ++ others)) (sym none)
    (subst (λ (bs : List ℕ). AreAnswered job Ts holds (bs ++ others)) (sym nothing) answered)
answers_both job (T ∷ Ss) Ts all holds bytes others (here, there, first, rest, this, more, both, same) answered =
    let yes_all = ap (λ (b : Bool). b && holds) both ∙ and_assoc here there holds in
    let whole = ap (λ (bs : List ℕ). bs ++ others) same ∙ append_assoc first rest others in
    let behind = answers_both job Ss Ts there holds rest others more answered in
    (here, there && holds, first, rest ++ others, this, behind, yes_all, whole)

-- nothing is done yet
pub consumes_none : (a : Option (List ℕ)) → Consumes a a []
consumes_none None = tt
consumes_none (Some x) = refl

pub appends_none : (a : Option (List ℕ)) → Appends a a []
appends_none None = tt
appends_none (Some x) = sym (append-nil x)

pub none_done : (job : Job) (from : Stage) → AreDone job from from (record { messages = 0; bytes = 0; holds = true })
none_done job from = record {
  messages = [];
  bytes = [];
  answers = [];
  many = refl;
  sized = omega arith;
  framed = refl;
  consumed = consumes_none from.input;
  answered = (refl, refl);
  written = appends_none from.output;
}

-- the length of a frame doesn't depend on the content of its padding
pub length_framed : (S : Segments) (bytes : List ℕ) → IsFrameOf S bytes → length (frame S) ≡ length bytes
length_framed S bytes framed =
    length-frame_with (replicate (padding_size (length S)) 0) S (length-replicate _ _)
    ∙ sym (length-frame_with framed.padding S framed.padded) ∙ sym (ap length framed.is)

pub and_true : (b : Bool) → b ≡ b && true
and_true true = refl
and_true false = refl

-- one message is done
pub one_done : {job : Job} {S : Segments} {holds : Bool} (old new : Stage) (bytes answer : List ℕ) (size : ℕ) →
    size < 2 ^ 64 → size ≡ length (frame S) → IsFrameOf S bytes → total S ≤ most_of job →
    Consumes old.input new.input bytes → JobAnswerIs job S holds answer → Appends old.output new.output answer →
    AreDone job old new (record { messages = 1; bytes = size; holds = holds })
one_done {job} {S} {holds} old new bytes answer size few sized framed short consumed answered written = record {
  messages = S ∷ [];
  bytes = bytes;
  answers = answer;
  many = refl;
  sized = omega (arith, few, sized, length_framed S bytes framed);
  framed = (bytes, [], sym (append-nil bytes), framed, short, refl);
  consumed = consumed;
  answered = (holds, true, answer, [], answered, (refl, refl), and_true holds, sym (append-nil answer));
  written = written;
}

-- more messages are done
pub more_done : {job : Job} {old mid new : Stage} {count size more_count more_size : ℕ} {all holds : Bool} →
    AreDone job old mid (record { messages = count; bytes = size; holds = all }) →
    AreDone job mid new (record { messages = more_count; bytes = more_size; holds = holds }) →
    AreDone job old new
    (record { messages = count + more_count; bytes = min (size + more_size) (2 ^ 64 - 1); holds = all && holds })
more_done {job} {old} {mid} {new} {count} {size} {more_count} {more_size} {all} {holds} done more = record {
  messages = done.messages ++ more.messages;
  bytes = done.bytes ++ more.bytes;
  answers = done.answers ++ more.answers;
  many = omega (arith, length-append done.messages more.messages, done.many, more.many);
  sized = omega (arith, length-append done.bytes more.bytes, done.sized, more.sized);
  framed = frames_both _ done.messages more.messages done.bytes more.bytes done.framed more.framed;
  consumed = consumes_both old.input mid.input new.input done.bytes more.bytes done.consumed more.consumed;
  answered = answers_both job done.messages more.messages all holds done.answers more.answers done.answered more.answered;
  written = appends_both old.output mid.output new.output done.answers more.answers done.written more.written;
}

-- an input from which a frame is read begins with it
pub begins : (from left : Option (List ℕ)) {most : ℕ} {S : Segments} {bytes : List ℕ} →
    Consumes from left bytes → IsFrameOf S bytes → total S ≤ most → IfSome from (λ all. BeginsWithFrame all most S)
begins None left consumed framed short = tt
begins (Some x) None consumed framed short = absurd consumed
begins (Some x) (Some y) {bytes = bytes} consumed framed short =
    record { front = bytes; behind = y; is = consumed; framed = framed; short = short }

-- all messages are done if an input is at its end, and its output keeps what it had
pub appends_keeps : (a b c : Option (List ℕ)) (bytes : List ℕ) → Appends a b bytes → Keeps b c → Appends a c bytes
appends_keeps None b c bytes written kept = tt
appends_keeps (Some x) None c bytes written kept = absurd written
appends_keeps (Some x) (Some y) None bytes written kept = absurd kept
appends_keeps (Some x) (Some y) (Some z) bytes written kept = kept ∙ written

consumes_all : (a b : Option (List ℕ)) (bytes : List ℕ) → Consumes a b bytes → IsAtEnd b → Consumes a (Some []) bytes
consumes_all None b bytes consumed end = tt
consumes_all (Some x) None bytes consumed end = absurd consumed
consumes_all (Some x) (Some y) bytes consumed end = consumed ∙ ap (λ (bs : List ℕ). bytes ++ bs) end

pub all_done : {job : Job} {old : Stage} {summary : Summary} (left between after : Option (List ℕ)) → IsAtEnd left →
    Keeps between after → AreDone job old (record { input = left; output = between }) summary →
    AreDone job old (record { input = Some []; output = after }) summary
all_done {old = old} left between after end kept done = record {
  messages = done.messages;
  bytes = done.bytes;
  answers = done.answers;
  many = done.many;
  sized = done.sized;
  framed = done.framed;
  consumed = consumes_all old.input left done.bytes done.consumed end;
  answered = done.answered;
  written = appends_keeps old.output between after done.answers done.written kept;
}

-- what isn't changed keeps what it had
pub keeps_same : (a : Option (List ℕ)) → Keeps a a
keeps_same None = tt
keeps_same (Some x) = refl

-- what is kept twice is kept
pub keeps_both : (a b c : Option (List ℕ)) → Keeps a b → Keeps b c → Keeps a c
keeps_both None b c first more = tt
keeps_both (Some x) None c first more = absurd first
keeps_both (Some x) (Some y) None first more = absurd more
keeps_both (Some x) (Some y) (Some z) first more = more ∙ first

-- what is done after an output has kept what it had
pub done_after : {job : Job} (input a b : Option (List ℕ)) {new : Stage} {summary : Summary} → Keeps a b →
    AreDone job (record { input = input; output = b }) new summary → AreDone job (record { input = input; output = a }) new summary
done_after input a b {new = new} kept done = record {
  messages = done.messages;
  bytes = done.bytes;
  answers = done.answers;
  many = done.many;
  sized = done.sized;
  framed = done.framed;
  consumed = done.consumed;
  answered = done.answered;
  written = kept_appends a b new.output done.answers kept done.written;
}

-- what is refused after that, with nothing more written
pub refused_after : {P Q : Type 0} (a b c : Option (List ℕ)) → Keeps a b → P ⊎ (Q × Keeps b c) → P ⊎ (Q × Keeps a c)
refused_after a b c kept (inl p) = inl p
refused_after a b c kept (inr (q, more)) = inr (q, keeps_both a b c kept more)
