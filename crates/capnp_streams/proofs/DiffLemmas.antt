-- Two streams are read and compared, pair by pair.
use Rattle.std.proofs.Common.{◌≡◌, ◌≤◌, ◌<◌, ℕ, ◌+◌, ◌^◌, List, [], ◌∷◌, ◌++◌, Bool, true, false, ◌&&◌, Option, Some, None, length}
use Rattle.std.proofs.Common.{Result, Ok, Err, OnOk, refl, sym, ap, ap₂, subst, ◌∙◌, append_assoc, append-nil, arith, length-append}
use Rattle.std.specs.Prelude.{is_err, is_none}
use Rattle.std.proofs.lemmas.Bool.{and_parts}
use Rattle.std.proofs.lemmas.List.{map-append}
use Rattle.std.specs.Io.KnownBytes.{Appends, Consumes, Keeps}
use Rattle.capnp_format.specs.Segments.{Segments}
use Rattle.capnp_arena.specs.declared.arena.reader_arena_impl.ReaderOptions.{ReaderOptions}
use Rattle.capnp_framing.specs.Frames.{IsFrameOf, frame}
use Rattle.capnp_framing.specs.Limits.{most_words}
use Rattle.capnp_framing.specs.Reading.{total}
use Rattle.capnp_framing.proofs.ReadingLemmas.{consumes_both}
use Rattle.capnp_framing.proofs.WritingLemmas.{appends_both}
use Rattle.capnp_packing.proofs.PackingLemmas.{kept_appends}
use Rattle.capnp_streams.specs.Diffs.{AreAllCompared, AreCompared, ArePairsDone, DiffStage, EndsInputs, IsCompared, Pair, end_line, lefts, no_pairs, one_pair, rights, with_pair}
use Rattle.capnp_streams.specs.Streams.{AreFrames}
use Rattle.capnp_streams.specs.declared.streams.diffs.Compared.{Compared}
use Rattle.capnp_streams.specs.declared.streams.diffs.ComparedPair.{ComparedPair}
use Rattle.capnp_streams.specs.declared.streams.diffs.Side.{Side}
use Rattle.capnp_streams.proofs.StreamLemmas.{and_assoc, and_true, appends_keeps, appends_none, consumes_none, frames_both, length_framed}

-- what holds of a call that succeeded
pub on_ok : {A E P : Type 0} (r : Result A E) → is_err r ≡ false → OnOk r P → P
on_ok (Ok x) is holds = holds
on_ok (Err e) is holds = absurd (cc)

-- pairs after others
compared_both : (limits : ReaderOptions) (ps qs : List Pair) (all is_same : Bool) (text others : List ℕ) →
    AreCompared limits ps all text → AreCompared limits qs is_same others → AreCompared limits (ps ++ qs) (all && is_same) (text ++ others)
compared_both limits [] qs all is_same text others (none, nothing) compared =
    subst (λ (b : Bool). AreCompared limits qs (b && is_same) (text ++ others)) (sym none)
    (subst (λ (bs : List ℕ). AreCompared limits qs is_same (bs ++ others)) (sym nothing) compared)
compared_both limits (p ∷ ps) qs all is_same text others (here, there, first, rest, this, more, both, same) compared =
    let yes_all = ap (λ (b : Bool). b && is_same) both ∙ and_assoc here there is_same in
    let whole = ap (λ (bs : List ℕ). bs ++ others) same ∙ append_assoc first rest others in
    let behind = compared_both limits ps qs there is_same rest others more compared in
    (here, there && is_same, first, rest ++ others, this, behind, yes_all, whole)

-- nothing is compared yet
pub pairs_none : (limits : ReaderOptions) (from : DiffStage) → ArePairsDone limits from from no_pairs
pairs_none limits from = record {
  pairs = [];
  left_bytes = [];
  right_bytes = [];
  text = [];
  many = refl;
  left_sized = omega arith;
  right_sized = omega arith;
  left_framed = refl;
  right_framed = refl;
  left_read = consumes_none from.left;
  right_read = consumes_none from.right;
  compared = (refl, refl);
  written = appends_none from.output;
}

-- one pair is compared
pub pairs_one : {limits : ReaderOptions} {pair : Pair} {is_same : Bool} (old new : DiffStage) (left_bytes right_bytes text : List ℕ) (left_size right_size : ℕ) →
    left_size < 2 ^ 64 → left_size ≡ length (frame pair.left) → IsFrameOf pair.left left_bytes → total pair.left ≤ most_words limits → Consumes old.left new.left left_bytes →
    right_size < 2 ^ 64 → right_size ≡ length (frame pair.right) → IsFrameOf pair.right right_bytes → total pair.right ≤ most_words limits → Consumes old.right new.right right_bytes →
    IsCompared limits pair is_same text → Appends old.output new.output text →
    ArePairsDone limits old new (one_pair (record { is_same = is_same; left_bytes = left_size; right_bytes = right_size }))
pairs_one {limits} {pair} {is_same} old new left_bytes right_bytes text left_size right_size few sized framed short consumed few' sized' framed' short' consumed' compared written = record {
  pairs = pair ∷ [];
  left_bytes = left_bytes;
  right_bytes = right_bytes;
  text = text;
  many = refl;
  left_sized = omega (arith, few, sized, length_framed pair.left left_bytes framed);
  right_sized = omega (arith, few', sized', length_framed pair.right right_bytes framed');
  left_framed = (left_bytes, [], sym (append-nil left_bytes), framed, short, refl);
  right_framed = (right_bytes, [], sym (append-nil right_bytes), framed', short', refl);
  left_read = consumed;
  right_read = consumed';
  compared = (is_same, true, text, [], compared, (refl, refl), and_true is_same, sym (append-nil text));
  written = written;
}

-- one more pair is compared
pub pairs_more : {limits : ReaderOptions} {old mid new : DiffStage} {counts : Compared} {pair : ComparedPair} →
    ArePairsDone limits old mid counts → ArePairsDone limits mid new (one_pair pair) → ArePairsDone limits old new (with_pair counts pair)
pairs_more {limits} {old} {mid} {new} {counts} {pair} done more = record {
  pairs = done.pairs ++ more.pairs;
  left_bytes = done.left_bytes ++ more.left_bytes;
  right_bytes = done.right_bytes ++ more.right_bytes;
  text = done.text ++ more.text;
  many = omega (arith, length-append done.pairs more.pairs, done.many, more.many);
  left_sized = omega (arith, length-append done.left_bytes more.left_bytes, done.left_sized, more.left_sized);
  right_sized = omega (arith, length-append done.right_bytes more.right_bytes, done.right_sized, more.right_sized);
  left_framed = subst (λ (Ss : List Segments). AreFrames (most_words limits) Ss (done.left_bytes ++ more.left_bytes))
      (sym (map-append (λ (p : Pair). p.left) done.pairs more.pairs))
      (frames_both _ (lefts done.pairs) (lefts more.pairs) done.left_bytes more.left_bytes done.left_framed more.left_framed);
  right_framed = subst (λ (Ss : List Segments). AreFrames (most_words limits) Ss (done.right_bytes ++ more.right_bytes))
      (sym (map-append (λ (p : Pair). p.right) done.pairs more.pairs))
      (frames_both _ (rights done.pairs) (rights more.pairs) done.right_bytes more.right_bytes done.right_framed more.right_framed);
  left_read = consumes_both old.left mid.left new.left done.left_bytes more.left_bytes done.left_read more.left_read;
  right_read = consumes_both old.right mid.right new.right done.right_bytes more.right_bytes done.right_read more.right_read;
  compared = compared_both limits done.pairs more.pairs counts.is_same pair.is_same done.text more.text done.compared more.compared;
  written = appends_both old.output mid.output new.output done.text more.text done.written more.written;
}

-- what is compared if an output has kept what it had
pub pairs_kept : {limits : ReaderOptions} {old mid : DiffStage} {counts : Compared} (after : Option (List ℕ)) →
    ArePairsDone limits old mid counts → Keeps mid.output after → ArePairsDone limits old (record mid { output = after }) counts
pairs_kept {old = old} {mid} after done kept = record {
  pairs = done.pairs;
  left_bytes = done.left_bytes;
  right_bytes = done.right_bytes;
  text = done.text;
  many = done.many;
  left_sized = done.left_sized;
  right_sized = done.right_sized;
  left_framed = done.left_framed;
  right_framed = done.right_framed;
  left_read = done.left_read;
  right_read = done.right_read;
  compared = done.compared;
  written = appends_keeps old.output mid.output after done.text done.written kept;
}

-- which input is longer isn't looked at
pub pairs_as : {limits : ReaderOptions} {old new : DiffStage} {counts : Compared} (longer : Option Side) →
    ArePairsDone limits old new counts → ArePairsDone limits old new (record counts { longer = longer })
pairs_as longer done = record {
  pairs = done.pairs;
  left_bytes = done.left_bytes;
  right_bytes = done.right_bytes;
  text = done.text;
  many = done.many;
  left_sized = done.left_sized;
  right_sized = done.right_sized;
  left_framed = done.left_framed;
  right_framed = done.right_framed;
  left_read = done.left_read;
  right_read = done.right_read;
  compared = done.compared;
  written = done.written;
}

-- all pairs are compared
pub all_compared : {limits : ReaderOptions} {old behind : DiffStage} {counts : Compared} (longer : Option Side) (mid after : Option (List ℕ)) (n : ℕ) (compared : Compared) →
    ArePairsDone limits old behind counts → EndsInputs limits behind longer → Keeps behind.output mid → Appends mid after (end_line longer n) → n ≡ counts.messages + 1 →
    compared ≡ record counts { is_same = counts.is_same && is_none longer; longer = longer } →
    AreAllCompared limits old after compared
all_compared {limits} {old} {behind} {counts} longer mid after n compared done ends kept written number is =
    let end : Appends behind.output after (end_line longer (counts.messages + 1)) =
    kept_appends behind.output mid after (end_line longer (counts.messages + 1)) kept
    (subst (λ (k : ℕ). Appends mid after (end_line longer k)) number written) in
    let whole : AreAllCompared limits old after (record counts { is_same = counts.is_same && is_none longer; longer = longer }) = record {
      behind = behind;
      is_same = counts.is_same;
      done = pairs_as longer done;
      ends = ends;
      written = end;
      same = refl;
    } in
    subst (AreAllCompared limits old after) (sym is) whole

-- nothing is written of messages that are the same
unwritten : (limits : ReaderOptions) (pairs : List Pair) (is_same : Bool) (text : List ℕ) → AreCompared limits pairs is_same text → is_same ≡ true → text ≡ []
unwritten limits [] is_same text (same, none) is = none
unwritten limits (pair ∷ more) is_same text (here, there, first, rest, one, others, both, whole) is =
    let parts = and_parts here there (sym both ∙ is) in
    whole ∙ ap₂ (λ (a b : List ℕ). a ++ b) (one.none parts.0) (unwritten limits more there rest others parts.1)

appends_nothing : (a b : Option (List ℕ)) (text : List ℕ) → text ≡ [] → Appends a b text → Keeps a b
appends_nothing None b text none written = tt
appends_nothing (Some x) None text none written = absurd written
appends_nothing (Some x) (Some y) text none written = written ∙ ap (λ (bs : List ℕ). x ++ bs) none ∙ append-nil x

no_line : (longer : Option Side) (n : ℕ) → is_none longer ≡ true → end_line longer n ≡ []
no_line None n none = refl
no_line (Some side) n none = absurd (cc)

pub all_same : {limits : ReaderOptions} {old : DiffStage} {after : Option (List ℕ)} {compared : Compared} → AreAllCompared limits old after compared →
    compared.is_same ≡ true → Keeps old.output after
all_same {limits} {old} {after} {compared} all is =
    let parts = and_parts all.is_same (is_none compared.longer) (sym all.same ∙ is) in
    let none = unwritten limits all.done.pairs all.is_same all.done.text all.done.compared parts.0 in
    let line = no_line compared.longer (compared.messages + 1) parts.1 in
    let both = appends_both old.output all.behind.output after all.done.text (end_line compared.longer (compared.messages + 1)) all.done.written all.written in
    appends_nothing old.output after _ (ap₂ (λ (a b : List ℕ). a ++ b) none line) both
