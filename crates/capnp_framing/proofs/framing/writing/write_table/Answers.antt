use Rattle.std.proofs.Common.{rules, ◌≡◌, ◌<◌, ◌+◌, ◌-◌, ◌*◌, ◌++◌, ℕ, List, suc, length, drop, sym, ap, ap₂, ◌∙◌, arith}
use Rattle.std.specs.Int.{to_le_bytes, w32}
use Rattle.capnp_format.specs.Bytes.{message}
use Rattle.capnp_format.specs.Segments.{Segments, segment}
use Rattle.capnp_arena_traits.proofs.MessageLemmas.{length-message}
use Rattle.capnp_framing.proofs.TableLemmas.{lengths_left, table_end, table_first, table_next}
use Rattle.capnp_framing.proofs.WritingLemmas.{left_over_all, left_over_end, left_over_less}
use Rattle.capnp_framing.proofs.framing.writing.write_table.Goals as goal

pub loop-k-init : goal.loop-k-init
loop-k-init g c =
    let bytes : List (List ℕ) = g.S.ReaderSegments.segments c.args.segments.now in
    let S : Segments = message bytes in
    let n : ℕ = c.args.count in
    let four : List ℕ = to_le_bytes w32 (n - 1) in
    let counts : n ≡ length S = omega (arith, length-message bytes, c.requires.ready.number) in
    let first : c.as_slice.result.now ≡ four ++ to_le_bytes w32 (length (segment S 0)) = c.as_slice.ensures ∙ c.number_pair_bytes-first.ensures ∙ ap (λ k. four ++ to_le_bytes w32 k) c.segment_length.ensures in
    record {
      left_over = left_over_less (lengths_left (drop 1 S)) (record { left_over = left_over_all _ _; appended = c.in_ok-write_all.ensures.written })
          (table_first S n counts c.requires.some ∙ ap (λ (xs : List ℕ). xs ++ lengths_left (drop 1 S)) (sym first));
      works = search rules;
    }

pub loop-k-preserved : goal.loop-k-preserved
loop-k-preserved g c =
    let bytes : List (List ℕ) = g.S.ReaderSegments.segments c.args.segments.now in
    let S : Segments = message bytes in
    let i : ℕ = 2 * c.loop-k.k + 1 in
    let inside : i < length S = omega (arith, length-message bytes, c.requires.ready.number, c.loop-k-test.true, c.loop-k.auto.k-end) in
    let second = c.segment_length-in-loop-k-2.ensures ∙ ap (λ j. length (segment S j)) (let e : 2 * c.loop-k.k + 2 ≡ suc i = omega arith in e) in
    let next : c.as_slice-in-loop-k.result.now ≡ to_le_bytes w32 (length (segment S i)) ++ to_le_bytes w32 (length (segment S (suc i))) =
    c.as_slice-in-loop-k.ensures ∙ c.number_pair_bytes-next.ensures ∙ ap₂ (λ j k. to_le_bytes w32 j ++ to_le_bytes w32 k) c.segment_length-in-loop-k.ensures second in
    record {
      left_over = left_over_less (lengths_left (drop (2 * (c.loop-k.k + 1) + 1) S)) (record { left_over = c.loop-k.invariant.left_over; appended = c.in_ok-write_all-2.ensures.written })
          (table_next S i inside ∙ ap₂ (λ (xs : List ℕ) k. xs ++ lengths_left (drop k S)) (sym next) (let e : suc (suc i) ≡ 2 * (c.loop-k.k + 1) + 1 = omega arith in e));
      works = search rules;
    }

pub returns : goal.returns
returns g c =
    let bytes : List (List ℕ) = g.S.ReaderSegments.segments c.args.segments.now in
    let S : Segments = message bytes in
    record {
      written = left_over_end _ _ _ _ c.loop-k.invariant.left_over (table_end S (2 * c.loop-k.k + 1) (omega (arith, length-message bytes, c.requires.ready.number, c.loop-k-test.false, c.loop-k.auto.k-end)));
      works = search rules;
      fails = search rules;
    }
