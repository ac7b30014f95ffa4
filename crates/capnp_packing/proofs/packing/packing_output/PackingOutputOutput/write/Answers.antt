use Rattle.std.proofs.Common.{rules}
use Rattle.capnp_packing.proofs.PackingLemmas.{packs_behind}
use Rattle.capnp_packing.proofs.packing.packing_output.PackingOutputOutput.write.Goals as goal

pub returns-clause-takes : goal.returns-clause-takes
returns-clause-takes g c = record {
  bound = c.pack_words-done.ensures.taken;
  some = λ _. c.pack_words-done.ensures.some;
  bytes = packs_behind _ _ c.ensure_room.new.self.pending c.pack_words-done.new.to _ c.ensure_room.new.self.sent c.ensure_room.new.self.end c.pack_words-done.result.given _ c.in_ok-ensure_room.ensures.none (search rules) c.pack_words-done.ensures.within c.in_ok-ensure_room.ensures.sends.bytes c.pack_words-done.ensures.packed;
  works = c.in_ok-ensure_room.ensures.sends.works;
  fails = tt;
}
