-- What a list of segments answers by number, when the list was asked.
use Rattle.std.proofs.Common.{◌≡◌, ◌∙◌, ℕ, ◌<◌, ◌≤◌, List, length, map, get_or, slice_get, Some, refl, sym, ap, subst, arith}
use Rattle.std.proofs.lemmas.List.{length-map}
use Rattle.std.proofs.lemmas.Option.{slice_get-map, slice_get_read}
use Rattle.std.specs.Borrow.{Bor}
use Rattle.std.specs.Global.{Vec}
use Rattle.std.specs.Option.{option_map}
use Rattle.capnp_arena.specs.Output.{output_bytes}
use Rattle.capnp_arena.specs.declared.arena.output_segments.OutputSegments.{OutputSegments}
use Rattle.capnp_arena.specs.declared.arena.output_segments.OutputSegments.TheVariants.{MultiSegment}

abbrev pub bytes_of : List (Bor (List ℕ)) → List (List ℕ)
bytes_of B = map (λ s. s.now) B

pub looked_bytes : (B : List (Bor (List ℕ))) (id : ℕ) (s : Bor (List ℕ)) → id < length B → s ≡ get_or B id s → slice_get (bytes_of B) id ≡ Some s.now
looked_bytes B id s there is =
    slice_get-map (λ (b : Bor (List ℕ)). b.now) B id ∙ ap (option_map (λ (b : Bor (List ℕ)). b.now)) (slice_get_read B (length B) id s refl there is)

pub looked_there : (B : List (Bor (List ℕ))) (id : ℕ) → id < length B → id < length (bytes_of B)
looked_there B id there = subst (λ n. id < n) (sym (length-map B (λ (b : Bor (List ℕ)). b.now))) there

pub looked_beyond : (B : List (Bor (List ℕ))) (id : ℕ) → length B ≤ id → id < length (bytes_of B) → ⊥
looked_beyond B id beyond there = omega (arith, length-map B (λ (b : Bor (List ℕ)). b.now))

-- the same for an arena's output, if that is a list
pub of_output : (P : List (List ℕ) → Type 0) (o : OutputSegments) (v : Vec (Bor (List ℕ))) (B : List (Bor (List ℕ))) → o ≡ MultiSegment v → B ≡ v.items → P (bytes_of B) → P (output_bytes o)
of_output P o v B is same p = subst (λ q. P (output_bytes q)) (sym is) (subst (λ items. P (bytes_of items)) same p)
