use Rattle.std.proofs.Common.{ap, length, rules}
use Rattle.capnp_canonical.proofs.FrameLemmas.{frame_behind, frame_put}
use Rattle.capnp_canonical.proofs.calls.put_frame.Goals as goal

pub returns-clause-put : goal.returns-clause-put
returns-clause-put c = record {
  front = λ words same.
      rw (c.copy_from_slice.ensures.after, c.copy_from_slice-2.ensures.after) (frame_put words c.args.segment.now c.args.to.now c.table.result same c.table.ensures.table);
  within = search rules;
  behind =
      rw (c.copy_from_slice.ensures.after, c.copy_from_slice-2.ensures.after)
      (frame_behind c.args.segment.now c.args.to.now c.table.result (ap length c.table.ensures.table));
  kept = search rules;
}
