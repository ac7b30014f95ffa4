use Rattle.std.proofs.Common.{List, ℕ, ◌∙◌, ◌<◌, inl, inr, refl, sym, ap, subst, arith}
use Rattle.capnp_arena_traits.proofs.MessageLemmas.{length-message}
use Rattle.capnp_framing.specs.declared.framing.frame_error.FrameError.TheVariants.{TooManySegments}
use Rattle.capnp_framing.proofs.TableLemmas.{short_segments}
use Rattle.capnp_framing.proofs.WritingLemmas.{many_not_failed, none_not_failed}
use Rattle.capnp_framing.proofs.framing.writing.write.Goals as goal

pub returns-in-Ok-clause-framed : goal.returns-in-Ok-clause-framed
returns-in-Ok-clause-framed g c =
    let bytes : List (List ℕ) = g.S.ReaderSegments.segments c.args.segments.now in
    record {
      some = omega (arith, length-message bytes, c.len-count.ensures, c.if-count-eq0.false);
      few = omega (arith, length-message bytes, c.len-count.ensures, c.if-count-gt-MAX_SEGMENTS.false);
      short = short_segments bytes c.requires.small.1;
      words = c.in-Ok.ensures.words;
    }

pub returns-then-count-eq0 : goal.returns-then-count-eq0
returns-then-count-eq0 g c = record {
  written = tt;
  framed = tt;
  works = tt;
  refused = inr (inl (refl, sym c.len-count.ensures ∙ c.if-count-eq0.true), (refl, refl));
  failed = none_not_failed refl;
}

pub returns-then-count-gt-MAX_SEGMENTS : goal.returns-then-count-gt-MAX_SEGMENTS
returns-then-count-gt-MAX_SEGMENTS g c =
    let same = c.len-count.ensures in
    record {
      written = tt;
      framed = tt;
      works = tt;
      refused = inr (inr (ap TooManySegments same, subst (λ k. 512 < k) same c.if-count-gt-MAX_SEGMENTS.true), (refl, refl));
      failed = many_not_failed refl;
    }

pub returns-in-Err : goal.returns-in-Err
returns-in-Err g c = record { written = tt; framed = tt; works = tt; refused = inl refl; failed = λ _. c.in-Err.ensures.writes.fails }
