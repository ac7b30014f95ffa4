use Rattle.std.proofs.Common.{◌≡◌, ◌∙◌, ◌≤◌, ℕ, IsTrue, length, ap, sym, subst}
use Rattle.capnp_arena.specs.Kept.{arena_rows}
use Rattle.capnp_arena.specs.Row.{capacity_at, shown}
use Rattle.capnp_messages.proofs.CanonLemmas.{offers_kept, room_kept}
use Rattle.capnp_messages.proofs.messages.canonical_copy.allocate_root.Goals as goal

pub returns-clause-room : goal.returns-clause-room
returns-clause-room g c =
    let seg = g.A.Segment.Segment in
    let made = c.args.made.now in
    let arena = c.allocate_segment.new.self in
    let there = capacity_at seg (arena_rows seg g.A.Allocator.first_in_arena arena.listed arena.apart) in
    let none : length (shown seg (arena_rows seg g.A.Allocator.first_in_arena made.listed made.apart)) ≡ 0 = ap length c.requires.none in
    let least : c.args.room ≤ there 0 = subst (λ i. c.args.room ≤ there i) none c.in_ok-allocate_segment.ensures.least in
    let same = room_kept c.allocate-root.result _ _ c.allocate-root.ensures.taken c.allocate-root.ensures.none in
    subst (λ (rooms : ℕ → ℕ). c.args.room ≤ rooms 0) (sym same) least

pub returns-clause-asked : goal.returns-clause-asked
returns-clause-asked g c =
    let seg = g.A.Segment.Segment in
    let made = c.args.made.now in
    let arena = c.allocate_segment.new.self in
    let there = capacity_at seg (arena_rows seg g.A.Allocator.first_in_arena arena.listed arena.apart) in
    let none : length (shown seg (arena_rows seg g.A.Allocator.first_in_arena made.listed made.apart)) ≡ 0 = ap length c.requires.none in
    let first : IsTrue (g.A.Allocator.offers made.allocator c.args.room (there 0)) =
    subst (λ i. IsTrue (g.A.Allocator.offers made.allocator c.args.room (there i))) none c.in_ok-allocate_segment.ensures.size in
    let same = room_kept c.allocate-root.result _ _ c.allocate-root.ensures.taken c.allocate-root.ensures.none in
    subst (λ (rooms : ℕ → ℕ). IsTrue (g.A.Allocator.offers made.allocator c.args.room (rooms 0))) (sym same) first

pub returns-clause-offers : goal.returns-clause-offers
returns-clause-offers g c =
    offers_kept c.allocate-root.result _ _ c.allocate-root.ensures.taken c.allocate-root.ensures.none ∙ c.allocate_segment.ensures.offers
