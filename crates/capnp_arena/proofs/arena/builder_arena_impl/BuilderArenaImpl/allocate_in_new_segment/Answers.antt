use Rattle.capnp_arena.proofs.PutLemmas.{behind_there, behind_fits}
use Rattle.std.proofs.lemmas.Result.{err_from_is_err_and}
use Rattle.std.proofs.Common.{◌≡◌, length}
use Rattle.capnp_arena.specs.Kept.{arena_rows}
use Rattle.capnp_arena.specs.Row.{shown, capacity_at}
use Rattle.capnp_arena.proofs.Refused.{ok_not_err, err_as}
use Rattle.capnp_arena.proofs.TakingLemmas.{another_taken, another_refused}
use Rattle.capnp_arena.proofs.arena.builder_arena_impl.BuilderArenaImpl.allocate_in_new_segment.Goals as goal

pub allocate_fitting-at-requires-clause-there : goal.allocate_fitting-at-requires-clause-there
allocate_fitting-at-requires-clause-there g c =
    let seg = g.A.Segment.Segment in
    let n : c.len-id.result ≡ length (shown seg (arena_rows seg g.A.Allocator.first_in_arena c.args.self.now.listed c.args.self.now.apart)) = c.len-id.ensures in
    behind_there (shown seg (arena_rows seg g.A.Allocator.first_in_arena c.args.self.now.listed c.args.self.now.apart)) c.in_ok-allocate_segment.ensures.made n

pub allocate_fitting-at-requires-clause-fits : goal.allocate_fitting-at-requires-clause-fits
allocate_fitting-at-requires-clause-fits g c =
    let seg = g.A.Segment.Segment in
    let n : c.len-id.result ≡ length (shown seg (arena_rows seg g.A.Allocator.first_in_arena c.args.self.now.listed c.args.self.now.apart)) = c.len-id.ensures in
    behind_fits (shown seg (arena_rows seg g.A.Allocator.first_in_arena c.args.self.now.listed c.args.self.now.apart)) (capacity_at seg (arena_rows seg g.A.Allocator.first_in_arena c.allocate_segment.new.self.listed c.allocate_segment.new.self.apart)) c.args.amount c.in_ok-allocate_segment.ensures.made n c.in_ok-allocate_segment.ensures.least

pub returns : goal.returns
returns g c =
    let seg = g.A.Segment.Segment in
    let f = g.A.Allocator.first_in_arena in
    let b = c.args.self.now in
    let h = c.in_ok-allocate_segment.ensures in
    let B = shown seg (arena_rows seg f b.listed b.apart) in
    let n : c.len-id.result ≡ length B = c.len-id.ensures in
    another_taken B c.args.amount h.made n c.allocate_fitting-at.ensures.taken h.least h.size h.granted c.allocate_segment.ensures.room c.allocate_segment.ensures.offers (λ most. ok_not_err (h.many most)) (λ less more. ok_not_err (h.large less more))

pub returns-in_err-allocate_segment : goal.returns-in_err-allocate_segment
returns-in_err-allocate_segment g c =
    let seg = g.A.Segment.Segment in
    let b = c.args.self.now in
    let h = c.in_err-allocate_segment.ensures in
    let B = shown seg (arena_rows seg g.A.Allocator.first_in_arena b.listed b.apart) in
    let p = err_from_is_err_and c.from_residual.result c.from_residual.ensures.1 in
    rw (p.1, p.2) (another_refused B c.args.amount _ h.named (λ most. err_as (h.many most)) (λ less more. err_as (h.large less more)) h.refused h.refused_room c.allocate_segment.ensures.offers)
