use Rattle.std.proofs.Common.{◌≡◌, ◌<◌, ℕ, [], ◌∷◌, None, refl, sym, ◌∙◌, subst, arith, rules}
use Rattle.std.proofs.lemmas.Bool.{false≢true}
use Rattle.capnp_format.specs.Bytes.{message}
use Rattle.capnp_format.specs.Segments.{Segments, word_at}
use Rattle.capnp_format.specs.Forest.{times, cover, root}
use Rattle.std.proofs.lemmas.List.{nil_from_length}
use Rattle.std.specs.Prelude.{Option, IsSome, ◌↔◌, zero, suc}
use Rattle.capnp_arena_traits.specs.declared.arena.WordPlace.{WordPlace}
use Rattle.layout_vectors.specs.Counts.{Counting, Counts}
use Rattle.layout_vectors.specs.Marks.{rows_of}
use Rattle.layout_vectors.specs.Walks.{TakesSpot, walk}
use Rattle.layout_vectors.proofs.Counting.{last_first, first_last}
use Rattle.layout_vectors.proofs.Taken.{fits_kept}
use Rattle.layout_vectors.proofs.Whole.{OnlyRoot, forest_counts, counts_forest}
use Rattle.layout_vectors.proofs.vectors.walk.walk_from_root.Goals as goal

empty_when : (o : Option WordPlace) (n : ℕ) → IsSome o ↔ (0 < n) → o ≡ None → n ≡ 0
empty_when o zero h e = refl
empty_when o (suc n) h e = let some : IsSome o = h.1 (omega arith) in absurd (false≢true (subst (λ (x : Option WordPlace). IsSome x) e some))

pub returns-then-not-branch : goal.returns-then-not-branch
returns-then-not-branch g c =
    let S : Segments = message (g.A.ReaderArena.segments c.args.arena.now) in
    let M0 : Segments = rows_of c.try_mark.new.self in
    let M : Segments = rows_of c.loop-spot.marks in
    let only : OnlyRoot M0 = λ u q. omega (arith, (c.try_mark.ensures.taken c.if-not-try_mark.false).marks u q, c.requires.blank u q) in
    let J = c.pop.new.self.items in (
      λ no. absurd (false≢true no),
      λ (t, f). let F : Counting = times (root ∷ cover S 0 0 t) in
          absurd ((subst (λ b. TakesSpot S c.in-Some.spot (walk c.loop-spot.marks c.pop.new.self) (walk c.walk_pointer.new.marks c.walk_pointer.new.pending) b) c.if-not-branch.true c.in_ok-walk_pointer.ensures) F (last_first S (word_at M) J c.in-Some.spot F (subst (λ K. Counts S (word_at M) K F) c.in-Some.ensures.items ((c.loop-spot.invariant.same F).0 (forest_counts S M0 t only f)))) f.apart),
    )

pub loop-spot-preserved : goal.loop-spot-preserved
loop-spot-preserved g c =
    let S : Segments = message (g.A.ReaderArena.segments c.args.arena.now) in
    let M : Segments = rows_of c.loop-spot.marks in
    let J = c.pop.new.self.items in
    let goes = subst (λ b. TakesSpot S c.in-Some.spot (walk c.loop-spot.marks c.pop.new.self) (walk c.walk_pointer.new.marks c.walk_pointer.new.pending) b) c.if-not-branch.false c.in_ok-walk_pointer.ensures in
    let inv = c.loop-spot.invariant in
    let items = c.in-Some.ensures.items in
    record {
      fits = fits_kept S M (rows_of c.walk_pointer.new.marks) inv.fits goes.proceeds.keeps;
      marks = goes.proceeds.keeps.once inv.marks;
      same = λ F. (λ h. (goes.same F).0 (last_first S (word_at M) J c.in-Some.spot F (subst (λ K. Counts S (word_at M) K F) items ((inv.same F).0 h))), λ h. (inv.same F).1 (subst (λ K. Counts S (word_at M) K F) (sym items) (first_last S (word_at M) J c.in-Some.spot F ((goes.same F).1 h))));
    }

pub returns : goal.returns
returns g c =
    let S : Segments = message (g.A.ReaderArena.segments c.args.arena.now) in
    let M0 : Segments = rows_of c.try_mark.new.self in
    let M : Segments = rows_of c.loop-spot.marks in
    let only : OnlyRoot M0 = λ u q. omega (arith, (c.try_mark.ensures.taken c.if-not-try_mark.false).marks u q, c.requires.blank u q) in
    let is : c.pop.result ≡ None = search rules in
    let none : c.loop-spot.pending.items ≡ [] = nil_from_length c.loop-spot.pending.items (omega (arith, empty_when c.pop.result c.loop-spot.pending.len c.pop.ensures.variant is, c.loop-spot.pending.ok.0)) in
    let inv = c.loop-spot.invariant in
    let rest = c.rest_is_zero.ensures in (
      λ yes. counts_forest S M0 M only ((inv.same (word_at M)).1 (subst (λ K. Counts S (word_at M) K (word_at M)) (sym none) (λ u q. refl))) inv.fits inv.marks (rest.0 yes),
      λ (t, f). let F : Counting = times (root ∷ cover S 0 0 t) in let ends : (u q : ℕ) → F u q ≡ word_at M u q = subst (λ K. Counts S (word_at M) K F) none ((inv.same F).0 (forest_counts S M0 t only f)) in
          rest.1 (λ u q e. f.zero_elsewhere u q (ends u q ∙ e)),
    )
