use Rattle.std.proofs.Common.{List, ℕ, arith}
use Rattle.std.proofs.lemmas.Result.{on_ok_weaker}
use Rattle.capnp_format.specs.Bytes.{message}
use Rattle.capnp_arena_traits.proofs.MessageLemmas.{length-message}
use Rattle.capnp_layout.proofs.FrameLines.{frame_written}
use Rattle.capnp_layout.proofs.tool.frames.write_frame.Goals as goal

pub returns : goal.returns
returns g c =
    let bytes : List (List ℕ) = g.S.ReaderSegments.segments c.args.segments.now in
    record {
      written =
          on_ok_weaker c.write_all.result
          (λ feed. frame_written (message bytes) (record {
            counts = omega (arith, length-message bytes, c.len-count.ensures);
            number = c.in_ok-write_hex_u32.ensures.written;
            table = c.in_ok-write_lengths.ensures.written;
            padding = c.in_ok-write_padding.ensures.written;
            words = c.in_ok-write_all_segments.ensures.written;
            feed = feed;
          }))
          c.write_all.ensures.written;
      works = c.write_all.ensures.works;
      fails = c.write_all.ensures.fails;
    }
