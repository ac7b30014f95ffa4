use Rattle.std.proofs.Common.{◌≡◌, ℕ, length, subst, ap, ◌∙◌, arith, rules}
use Rattle.std.proofs.lemmas.Int.{to_z-of_z}
use mir.Syntax.{w32}
use Rattle.capnp_arena_traits.specs.View.{View}
use Rattle.capnp_format.specs.Segments.{Segments, segment}
use Rattle.capnp_format.specs.Canonical.{word_count_all}
use Rattle.capnp_allocation.specs.Near.{HasOwnRoom}
use Rattle.capnp_allocation.specs.Zeroed.{IsPruned}
use Rattle.capnp_readers.specs.declared.readers.struct_reader.StructPlace.{StructPlace}
use Rattle.capnp_builders.specs.Content.{with_content, AreCleared, TakesData}
use Rattle.capnp_copies.specs.Growth.{TakesNone}
use Rattle.capnp_allocation.proofs.Outcomes.{if_err_so}
use Rattle.capnp_copies.proofs.Growth.{none_itself, none_both, none_pruned, taken_so, all_within, among_within}
use Rattle.capnp_allocation.proofs.Taken.{ends_after}
use Rattle.capnp_builders.proofs.ContentWritten.{content_long, content_many, each_grows, content_grows}
use Rattle.capnp_builders.proofs.builders.struct_builder.StructBuilder.copy_content_from.Goals as goal

pub clear_pointers-requires : goal.clear_pointers-requires
clear_pointers-requires g c =
    let M : Segments = (g.A.BuilderArena.view c.args.self.now.arena.now).words in
    let place : StructPlace = c.args.self.now.place in
    let long : length (segment (g.A.BuilderArena.view c.write_content.new.arena).words place.segment) ≡ length (segment M place.segment) =
    ap (λ (v : View). length (segment v.words place.segment)) c.write_content.ensures ∙ content_long M place c.args.value.now.bits c.args.value.now.content.now place.segment in
    record { room = omega (arith, long, c.requires.inside.2) }

pub copy_each-requires : goal.copy_each-requires
copy_each-requires g c =
    let M : Segments = (g.A.BuilderArena.view c.args.self.now.arena.now).words in
    let place : StructPlace = c.args.self.now.place in
    let long : length (segment (g.A.BuilderArena.view c.write_content.new.arena).words place.segment) ≡ length (segment M place.segment) =
    ap (λ (v : View). length (segment v.words place.segment)) c.write_content.ensures ∙ content_long M place c.args.value.now.bits c.args.value.now.content.now place.segment in
    record {
      nulls = record {
        room = omega (arith, long, c.requires.inside.2, c.clear_pointers.ensures.only.words place.segment, c.min.ensures, c.from-count.ensures);
        null = λ i less. c.clear_pointers.ensures.null i (omega (arith, less, c.min.ensures, c.from-count.ensures));
      };
      inside = search rules;
    }

pub returns-clause-grows : goal.returns-clause-grows
returns-clause-grows g c =
    let M : Segments = (g.A.BuilderArena.view c.args.self.now.arena.now).words in
    let place : StructPlace = c.args.self.now.place in
    let written : (g.A.BuilderArena.view c.write_content.new.arena).words ≡ with_content M place c.args.value.now.bits c.args.value.now.content.now = ap (λ (v : View). v.words) c.write_content.ensures in
    let pruned : IsPruned (with_content M place c.args.value.now.bits c.args.value.now.content.now) (g.A.BuilderArena.view c.clear_pointers.new.arena).words = subst (λ (T : Segments). IsPruned T (g.A.BuilderArena.view c.clear_pointers.new.arena).words) written c.clear_pointers.ensures.only in
    let grows = each_grows _ _ _ c.copy_each.result c.copy_each.ensures.copied c.copy_each.ensures.refused in
    content_grows M (g.A.BuilderArena.view c.clear_pointers.new.arena).words (g.A.BuilderArena.view c.copy_each.new.arena).words place c.args.value.now.bits c.args.value.now.content.now pruned grows

pub returns-clause-builder : goal.returns-clause-builder
returns-clause-builder g c =
    let grows = returns-clause-grows g c in
    let long = grows.words c.args.self.now.place.segment in
    let (there, at_data, at_pointers) = c.requires.inside in
    record { same = search rules; place = search rules; inside = (omega (arith, there, grows.segments), omega (arith, at_data, long), omega (arith, at_pointers, long)) }

pub returns-clause-taken : goal.returns-clause-taken
returns-clause-taken g c =
    let old : View = g.A.BuilderArena.view c.args.self.now.arena.now in
    let put : View = g.A.BuilderArena.view c.write_content.new.arena in
    let mid : View = g.A.BuilderArena.view c.clear_pointers.new.arena in
    let place : StructPlace = c.args.self.now.place in
    let bits : ℕ = c.args.value.now.bits in
    let written : TakesNone old put = record {
      segments = ap (λ (v : View). length v.words) c.write_content.ensures ∙ content_many old.words place bits c.args.value.now.content.now;
      words = λ j. ap (λ (v : View). length (segment v.words j)) c.write_content.ensures ∙ content_long old.words place bits c.args.value.now.content.now j;
      room = λ j l. ap (λ (v : View). v.room j) c.write_content.ensures;
    } in
    let nl = to_z-of_z w32 c.args.value.now.nesting_limit (search rules) in
    let before = none_both written (none_pruned put mid c.clear_pointers.ensures.limits c.clear_pointers.ensures.only) in
    let last = none_itself (g.A.BuilderArena.view c.copy_each.new.arena) in
    taken_so c.copy_each.result _ _ _ _ (λ x. all_within before last x) (λ x. among_within (omega arith) before last x) (rw (nl, c.from-count.ensures, c.min.ensures) at c.copy_each.ensures.taken)

pub returns-clause-refused : goal.returns-clause-refused
returns-clause-refused g c =
    let nl = to_z-of_z w32 c.args.value.now.nesting_limit (search rules) in
    let mid : View = g.A.BuilderArena.view c.clear_pointers.new.arena in
    let place : StructPlace = c.args.self.now.place in
    let written = ap (λ (v : View). v.words) c.write_content.ensures in
    let taking : TakesData g.B.ReaderArena c.args.value.now place (g.A.BuilderArena.view c.args.self.now.arena.now) mid = record {
      cleared = subst (λ (T : Segments). AreCleared T mid.words place.segment place.pointers_at place.pointers) written c.clear_pointers.ensures.cleared;
      null = c.clear_pointers.ensures.null;
      limits = c.clear_pointers.ensures.limits ∙ ap (λ (v : View). record v { words = mid.words }) c.write_content.ensures;
    } in
    if_err_so c.copy_each.result _ _ (rw (nl, c.from-count.ensures, c.min.ensures) at c.copy_each.ensures.refused) (λ k stops. (mid, taking, stops))

pub returns-clause-fits : goal.returns-clause-fits
returns-clause-fits g c = λ fits.
    (let nl = to_z-of_z w32 c.args.value.now.nesting_limit (search rules) in
    let old : View = g.A.BuilderArena.view c.args.self.now.arena.now in
    let put : View = g.A.BuilderArena.view c.write_content.new.arena in
    let mid : View = g.A.BuilderArena.view c.clear_pointers.new.arena in
    let place : StructPlace = c.args.self.now.place in
    let n : ℕ = word_count_all fits.value in
    let same : put.words ≡ with_content old.words place c.args.value.now.bits c.args.value.now.content.now = ap (λ (v : View). v.words) c.write_content.ensures in
    let long : length (segment put.words place.segment) ≡ length (segment old.words place.segment) = ap (λ (T : Segments). length (segment T place.segment)) same ∙ content_long old.words place c.args.value.now.bits c.args.value.now.content.now place.segment in
    let room : put.room place.segment ≡ old.room place.segment = ap (λ (v : View). v.room place.segment) c.write_content.ensures in
    let written : HasOwnRoom put place.segment n = omega (arith, long, room, fits.room) in
    let copied = rw (nl, c.from-count.ensures, c.min.ensures) at c.copy_each.ensures.fits in
    copied (record { small = fits.small; value = fits.value; after = fits.after; is_read = fits.is_read; room = ends_after put mid place.segment n c.clear_pointers.ensures.limits c.clear_pointers.ensures.only written }))
