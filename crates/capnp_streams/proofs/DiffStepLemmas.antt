-- Two messages are read and compared, or aren't.
use Rattle.std.proofs.Common.{◌≡◌, ◌≢◌, ◌↔◌, ◌≤◌, ◌<◌, ℕ, List, [], ◌∷◌, Bool, true, false, Option, Some, None, length}
use Rattle.std.proofs.Common.{Result, Ok, Err, IfErr, IfOk, IfSome, refl, sym, ap, subst, ◌∙◌, arith, length-append}
use Rattle.std.specs.Io.KnownBytes.{Appends, Consumes, IsAtEnd, Keeps}
use Rattle.capnp_format.specs.Segments.{AreWords, Segments}
use Rattle.capnp_arena.specs.declared.arena.reader_arena_impl.ReaderOptions.{ReaderOptions}
use Rattle.capnp_framing.specs.Frames.{IsFrameOf}
use Rattle.capnp_framing.specs.Limits.{most_words}
use Rattle.capnp_framing.specs.Reading.{total}
use Rattle.capnp_framing.specs.Writing.{IsUnwritten, Prints}
use Rattle.capnp_framing.specs.declared.devices.Input.{Ghosts as InputGhosts}
use Rattle.capnp_framing.specs.declared.devices.Output.{Ghosts}
use Rattle.capnp_messages.specs.Messages.{IsReadable}
use Rattle.capnp_show.specs.Show.{PrintsAtMost, PrintsSome}
use Rattle.capnp_format.specs.Bytes.{message}
use Rattle.capnp_framing.specs.Bare.{AreBareWords}
use Rattle.capnp_framing.proofs.BareLemmas.{all_so}
use Rattle.capnp_show.specs.ShownParts.{HasShortLine}
use Rattle.capnp_show.specs.declared.show.compare.CompareFault.{CompareFault}
use Rattle.capnp_show.specs.declared.show.compare.CompareFault.TheVariants.{AllocationFailed as LacksMemory, TooLong as LineTooLong, WriteFailed as OutputFailed}
use Rattle.capnp_streams.specs.Flat.{StopsFlat}
use Rattle.capnp_streams.specs.Diffs.{AreFlatCompared, AreTooLong, DiffStage, HasNext, IsCompared, IsNextRead, IsUnsound, StopsFlatDiff, WhyUncompared, diff_fault, pair_of, validating}
use Rattle.capnp_streams.specs.declared.streams.diffs.DiffFault.{DiffFault}
use Rattle.capnp_streams.specs.declared.streams.diffs.DiffFault.TheVariants.{Refused, TooLong, AllocationFailed as NoMemory, WriteFailed as NotWritten}
use Rattle.capnp_streams.specs.Streams.{JobRefuses, StopsAt}
use Rattle.capnp_streams.specs.declared.streams.stream_error.StreamError.{StreamError}
use Rattle.capnp_streams.specs.declared.streams.stream_error.StreamError.TheVariants.{Frame, Layout, TooManyMessages}
use Rattle.capnp_streams.proofs.StreamLemmas.{appends_none, begins, keeps_same}

-- what is written is some, and not too much
one_text : (a b : Option (List ℕ)) → ((text : List ℕ) × (0 < length text) × Appends a b text) → ((text : List ℕ) × (length text ≤ 67108864) × Appends a b text) →
    (text : List ℕ) × (0 < length text) × (length text ≤ 67108864) × Appends a b text
one_text None b one other = (0 ∷ [], omega arith, omega arith, tt)
one_text (Some x) None (t, some, written) other = absurd written
one_text (Some x) (Some y) (t, some, written) (u, short, same) =
    (t, some, omega (arith, short, ap length (sym written ∙ same), length-append x t, length-append x u), written)

same_kept : (a b : Option (List ℕ)) → b ≡ a → Appends a b []
same_kept a b same = subst (λ (o : Option (List ℕ)). Appends a o []) (sym same) (appends_none a)

-- two sound messages are compared
pub pair_compared : {W E : Type 0} (g : Ghosts W) (from to : W) (limits : ReaderOptions) (S T : Segments) (is_same : Bool) (left : IsReadable S limits) (right : IsReadable T limits) →
    (AreWords S → AreWords T → (is_same ≡ true ↔ left.value ≡ right.value)) →
    (◌≡◌ {A = Result Bool E} (Ok is_same) (Ok true) → IsUnwritten g from to) → (◌≡◌ {A = Result Bool E} (Ok is_same) (Ok false) → PrintsSome g from to) →
    PrintsAtMost g 67108864 from to →
    (text : List ℕ) × IsCompared limits (record { left = S; right = T }) is_same text × Prints g from to text
pair_compared g from to limits S T true left right same unwritten told bounded = (
  [],
  record {
    left = left;
    right = right;
    same = same;
    none = λ is. refl;
    some = λ is. absurd (cc);
    short = omega arith;
  },
  same_kept (g.contents from) (g.contents to) ((unwritten refl).0),
)
pair_compared g from to limits S T false left right same unwritten told bounded =
    let (text, some, short, written) = one_text (g.contents from) (g.contents to) (told refl) bounded in (
      text,
      record {
        left = left;
        right = right;
        same = same;
        none = λ is. absurd (cc);
        some = λ is. some;
        short = short;
      },
      written,
    )

-- or they aren't
pub pair_refused : {W : Type 0} (g : Ghosts W) (from to : W) (limits : ReaderOptions) (number : ℕ) (S T : Segments) (fault : CompareFault) (left : IsReadable S limits) (right : IsReadable T limits) →
    (HasShortLine left.value → HasShortLine right.value → fault ≢ LineTooLong) →
    (◌≡◌ {A = Result Bool CompareFault} (Err fault) (Err OutputFailed) → g.has_failed to ≡ true) →
    (fault ≢ OutputFailed → IsUnwritten g from to) →
    WhyUncompared g limits (record { number = number; pair = record { left = S; right = T } }) from to (diff_fault number fault)
pair_refused g from to limits number S T LacksMemory left right short failed unwritten = unwritten (λ is. cc)
pair_refused g from to limits number S T LineTooLong left right short failed unwritten =
    (refl, record { left = left; right = right; long = λ one other. short one other refl }, unwritten (λ is. cc))
pair_refused g from to limits number S T OutputFailed left right short failed unwritten = failed refl

-- a message that was read isn't sound
pub unsound_stops : (limits : ReaderOptions) (old new : Option (List ℕ)) (failed : Bool) (S : Segments) (bytes : List ℕ) (fault : StreamError) →
    IsFrameOf S bytes → total S ≤ most_words limits → Consumes old new bytes → IsUnsound limits S fault → StopsAt (validating limits) old new failed fault
unsound_stops limits old new failed S bytes (Frame e) framed short consumed unsound = absurd unsound
unsound_stops limits old new failed S bytes (Layout k p) framed short consumed unsound = (S, bytes, framed, short, consumed, unsound)
unsound_stops limits old new failed S bytes TooManyMessages framed short consumed unsound = absurd unsound

pub unsound_stops_flat : (limits : ReaderOptions) (old new : Option (List ℕ)) (failed : Bool) (segments : List (List ℕ)) (bytes : List ℕ) (fault : StreamError) →
    AreBareWords bytes (most_words limits) → Consumes old new bytes → IsAtEnd new → segments ≡ bytes ∷ [] → IsUnsound limits (message segments) fault → StopsFlat (validating limits) old failed fault
unsound_stops_flat limits old new failed segments bytes (Frame e) bare consumed end only unsound = absurd unsound
unsound_stops_flat limits old new failed segments bytes (Layout k p) bare consumed end only unsound =
    let all : IfSome old (λ all. all ≡ bytes) = all_so old new bytes (λ all. all ≡ bytes) consumed end refl in
    (bytes, all, bare, subst (λ (B : List (List ℕ)). JobRefuses (validating limits) (message B) k p) only unsound)
unsound_stops_flat limits old new failed segments bytes TooManyMessages bare consumed end only unsound = absurd unsound

-- an input has a further message
pub has_next : {R : Type 0} (g : InputGhosts R) (limits : ReaderOptions) (from to : R) (S : Segments) → IsNextRead g limits from to true S → HasNext limits (g.remaining from)
has_next g limits from to S next =
    let read = next.read refl in
    (S, next.sound refl, begins (g.remaining from) (g.remaining to) read.consumed read.framed (next.short refl))

-- ---- raw words

kept_same : (a b : Option (List ℕ)) → b ≡ a → Keeps a b
kept_same a b same = subst (λ (o : Option (List ℕ)). Keeps a o) (sym same) (keeps_same a)

-- the messages of raw words are compared
pub flat_compared : {E : Type 0} (limits : ReaderOptions) (result : Result Bool E) (old new : DiffStage) (L R : List (List ℕ)) (left right : List ℕ) →
    AreBareWords left (most_words limits) → Consumes old.left new.left left → IsAtEnd new.left → L ≡ left ∷ [] →
    AreBareWords right (most_words limits) → Consumes old.right new.right right → IsAtEnd new.right → R ≡ right ∷ [] →
    IfOk result (λ is_same. (text : List ℕ) × IsCompared limits (pair_of L R) is_same text × Appends old.output new.output text) →
    IfOk result (AreFlatCompared limits old new)
flat_compared limits (Ok is_same) old new L R left right bare consumed end only bare' consumed' end' only' (text, is, written) =
    let one = subst (λ (B : List (List ℕ)). IsCompared limits (pair_of B R) is_same text) only is in
    let both = subst (λ (B : List (List ℕ)). IsCompared limits (pair_of (left ∷ []) B) is_same text) only' one in
    record {
      left = left;
      right = right;
      text = text;
      left_bare = bare;
      right_bare = bare';
      left_read = consumed;
      right_read = consumed';
      left_ended = end;
      right_ended = end';
      compared = both;
      written = written;
    }
flat_compared limits (Err e) old new L R left right bare consumed end only bare' consumed' end' only' compared = tt

-- or they aren't
pub flat_uncompared : {W : Type 0} (h : Ghosts W) (limits : ReaderOptions) (result : Result Bool DiffFault) (from to : W) (fl tl fr tr : Option (List ℕ)) (lf rf : Bool) (L R : List (List ℕ)) (left right : List ℕ) →
    Consumes fl tl left → IsAtEnd tl → L ≡ left ∷ [] → Consumes fr tr right → IsAtEnd tr → R ≡ right ∷ [] →
    IfErr result (WhyUncompared h limits (record { number = 1; pair = pair_of L R }) from to) →
    IfErr result (StopsFlatDiff limits (record { left = fl; right = fr; output = h.contents from })
    (record { stage = record { left = tl; right = tr; output = h.contents to }; left_failed = lf; right_failed = rf; output_failed = h.has_failed to }))
flat_uncompared h limits (Ok b) from to fl tl fr tr lf rf L R left right consumed end only consumed' end' only' why = tt
flat_uncompared h limits (Err NoMemory) from to fl tl fr tr lf rf L R left right consumed end only consumed' end' only' why = kept_same (h.contents from) (h.contents to) why.0
flat_uncompared h limits (Err (TooLong n)) from to fl tl fr tr lf rf L R left right consumed end only consumed' end' only' (number, long, kept) =
    let one = subst (λ (B : List (List ℕ)). AreTooLong limits (pair_of B R)) only long in
    let both = subst (λ (B : List (List ℕ)). AreTooLong limits (pair_of (left ∷ []) B)) only' one in
    let first : IfSome fl (λ all. all ≡ left) = all_so fl tl left (λ all. all ≡ left) consumed end refl in
    let second : IfSome fr (λ all. all ≡ right) = all_so fr tr right (λ all. all ≡ right) consumed' end' refl in
    (number, kept_same (h.contents from) (h.contents to) kept.0, (left, right, first, second, both))
flat_uncompared h limits (Err NotWritten) from to fl tl fr tr lf rf L R left right consumed end only consumed' end' only' why = why
flat_uncompared h limits (Err (Refused side stop)) from to fl tl fr tr lf rf L R left right consumed end only consumed' end' only' why = absurd why
