use Rattle.std.proofs.Common.{ℕ, ◌*◌, ◌≤◌, length, ap, refl, rules, arith}
use Rattle.capnp_format.specs.Numbers.{words_for}
use Rattle.capnp_format.specs.Segments.{Segments}
use Rattle.capnp_format.specs.Tree.{Null}
use Rattle.capnp_arena_traits.specs.View.{View}
use Rattle.capnp_allocation.specs.Made.{LeadsToStart}
use Rattle.capnp_in_place.proofs.ByteLists.BytesWritten.{WritesBytes, bytes_target, bytes_written, written_lengths}
use Rattle.capnp_in_place.proofs.Room.OldWordsStayZero.{old_beside}
use Rattle.capnp_allocation.proofs.Taken.{leads_behind, leads_to_end, takes_written}
use Rattle.capnp_in_place.proofs.bytes.set_bytes.Goals as goal

-- The bytes are written from the start of the list on.
writes : (g : _) (c : goal.After-write_bytes g) → WritesBytes (g.A.BuilderArena.view c.init_list.new.arena).words (g.A.BuilderArena.view c.write_bytes.new.arena).words c.in_ok-start.start c.args.from.now
writes g c = record {
  old = g.A.ReaderArena.segments c.init_list.new.arena;
  new = g.A.ReaderArena.segments c.write_bytes.new.arena;
  old_read = g.met.A.BuilderArena.read c.init_list.new.arena;
  new_read = g.met.A.BuilderArena.read c.write_bytes.new.arena;
  small = λ i. omega (arith, c.type_inv.from i);
  nothing = λ e. ap (λ a. (g.A.BuilderArena.view a).words) (c.write_bytes.ensures.nothing e);
  written = λ some holds. c.write_bytes.ensures.written some;
}

-- The pointer still leads to the list.
leads : (g : _) (c : goal.After-write_bytes g) → LeadsToStart (g.A.BuilderArena.view c.write_bytes.new.arena).words c.args.id c.args.at c.in_ok-start.start
leads g c =
    let M : Segments = (g.A.BuilderArena.view c.init_list.new.arena).words in
    let R : Segments = (g.A.BuilderArena.view c.write_bytes.new.arena).words in
    let (N, pruned, made) = c.in_ok-start.ensures.gives.once_zeroed in
    bytes_target M R c.args.id c.args.at c.args.count c.in_ok-start.start c.args.from.now (writes g c) made.stored c.in_ok-start.ensures.gives.start.leads c.requires.few.0

-- The list is made of zero bytes, and then its first ones are written, which makes no segment
-- longer or shorter.
pub returns-clause-object : goal.returns-clause-object
returns-clause-object g c =
    let old : View = g.A.BuilderArena.view c.args.arena.now in
    let mid : View = g.A.BuilderArena.view c.init_list.new.arena in
    let new : View = g.A.BuilderArena.view c.write_bytes.new.arena in
    let id : ℕ = c.args.id in
    let at : ℕ = c.args.at in
    let k : ℕ = words_for 2 c.args.count in
    let e = c.in_ok-start.ensures.gives in
    let enough : length c.args.from.now ≤ 8 * k = omega (arith, c.requires.few.0) in
    let long = written_lengths mid.words new.words c.in_ok-start.start c.args.from.now k (writes g c) enough e.start.inside.1 in
    record {
      made = λ t stored. bytes_written old.words mid.words new.words id at c.args.count t c.in_ok-start.start c.args.from.now (writes g c) (e.object.made t stored) e.start.leads c.requires.few.0;
      behind = leads_behind old new id at k c.in_ok-start.start (leads g c) e.start.behind;
      zeroed = old_beside old mid.words new.words id at k c.in_ok-start.start c.args.from.now e.object.zeroed e.start.behind (writes g c) enough e.start.inside.1;
      memory = record {
        fits = λ room. refl;
        granted = search rules;
        taken = takes_written old mid new id k e.object.memory.taken long.segments long.words;
        named = tt;
      };
      refused = tt;
      only = tt;
    }

pub returns-clause-once_zeroed : goal.returns-clause-once_zeroed
returns-clause-once_zeroed g c =
    let M : Segments = (g.A.BuilderArena.view c.init_list.new.arena).words in
    let R : Segments = (g.A.BuilderArena.view c.write_bytes.new.arena).words in
    let (N, pruned, made) = c.in_ok-start.ensures.gives.once_zeroed in
    (N, pruned, bytes_written N M R c.args.id c.args.at c.args.count Null c.in_ok-start.start c.args.from.now (writes g c) made c.in_ok-start.ensures.gives.start.leads c.requires.few.0)

pub returns-clause-at_end : goal.returns-clause-at_end
returns-clause-at_end g c =
    leads_to_end (g.A.BuilderArena.view c.args.arena.now) (g.A.BuilderArena.view c.write_bytes.new.arena) c.args.id c.args.at _ c.in_ok-start.start (leads g c) c.in_ok-start.ensures.at_end
