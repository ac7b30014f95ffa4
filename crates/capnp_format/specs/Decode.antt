-- What a place means, as a function that reads it level by level. `Means` is the definition; the
-- law `decode_agrees` states that both agree, so that worked examples can be computed.
use Rattle.std.specs.Prelude.{ℕ, zero, suc, ◌+◌, ◌*◌, ◌%◌, ◌^◌, Bool, if◌then◌else◌, nat_eq, nat_le}
use Rattle.std.specs.Prelude.{length, Option, Some, None}
use Rattle.capnp_format.specs.Word.{kind, offset_bits, data_words, pointer_count, element_size}
use Rattle.capnp_format.specs.Word.{list_count, upper_half}
use Rattle.capnp_format.specs.Numbers.{words_for, unpacked}
use Rattle.capnp_format.specs.Segments.{Segments, segment, word_at, words_at, Target, leads, given, ◌>>=◌}
use Rattle.capnp_format.specs.Tree.{Tree, Null, Capability, Struct, Flat, Pointers, Structs, Trees}
use Rattle.capnp_format.specs.Tree.{no_trees, tree, Elements, no_elements, element}
use Rattle.capnp_format.specs.Means.{count_cost}

-- A value and its cost, or None.
abbrev pub Read : Type 0 → Type 0
Read A = Option (A × ℕ)

-- Reads n pointers with f, from position p on.
abbrev pub read_all : (ℕ → Read Tree) → ℕ → ℕ → Read Trees
read_all f zero p = Some (no_trees, 0)
read_all f (suc n) p = f p >>= λ x. read_all f n (p + 1) >>= λ y. Some (tree x.0 y.0, x.1 + y.1)

-- Reads n elements of d data words and q pointers, from position p of segment s on.
abbrev pub read_elements : Segments → (ℕ → Read Tree) → ℕ → ℕ → ℕ → ℕ → ℕ → Read Elements
read_elements S f s d q zero p = Some (no_elements, 0)
read_elements S f s d q (suc n) p =
    read_all f q (p + d) >>= λ x. read_elements S f s d q n (p + d + q) >>= λ y.
    Some (element (words_at S s p d) x.0 y.0, x.1 + y.1)

-- Whether the n words from the target a on are inside their segment.
abbrev pub within : Segments → Target → ℕ → Bool
within S a n = nat_le (a.start + n) (length (segment S a.segment))

-- Reads a struct of d data words and q pointers at the target a ("Structs").
abbrev pub struct_of : Segments → (ℕ → ℕ → Read Tree) → Target → ℕ → ℕ → Read Tree
struct_of S f a d q =
    given (within S a (d + q)) (words_at S a.segment a.start d) >>= λ ws.
    read_all (f a.segment) q (a.start + d) >>= λ x. Some (Struct ws x.0, a.pads + (d + q) + x.1)

-- Reads a struct of the sizes in the word of its target a ("Structs").
abbrev pub read_struct : Segments → (ℕ → ℕ → Read Tree) → Target → Read Tree
read_struct S f a = struct_of S f a (data_words a.word) (pointer_count a.word)

-- Reads a list of n numbers at the target a ("Lists").
abbrev pub read_flat : Segments → ℕ → ℕ → Target → Read Tree
read_flat S size n a =
    given (within S a (words_for size n)) (
      Flat size (unpacked size n (words_at S a.segment a.start (words_for size n))),
      a.pads + words_for size n + count_cost size n,
    )

-- Reads a list of n pointers at the target a ("Lists").
abbrev pub read_pointers : Segments → (ℕ → ℕ → Read Tree) → ℕ → Target → Read Tree
read_pointers S f n a =
    given (within S a n) n >>= λ m.
    read_all (f a.segment) m a.start >>= λ x. Some (Pointers x.0, a.pads + n + x.1)

-- Reads a list of structs at the target a, of n words after the tag ("Lists").
abbrev pub read_structs : Segments → (ℕ → ℕ → Read Tree) → ℕ → Target → Read Tree
read_structs S f n a =
    given (within S a (n + 1)) (word_at S a.segment a.start) >>= λ g.
    let m = offset_bits g in
    let d = data_words g in
    let q = pointer_count g in
    given (nat_eq (kind g) 0) m >>= λ _.
    given (nat_le (m * (d + q)) n) m >>= λ k.
    read_elements S (f a.segment) a.segment d q k (a.start + 1) >>= λ x.
    Some (Structs d q x.0, a.pads + (n + 1) + count_cost (d + q) m + x.1)

-- Reads a list, by its element size ("Lists").
abbrev pub read_list : Segments → (ℕ → ℕ → Read Tree) → ℕ → ℕ → Target → Read Tree
read_list S f (suc (suc (suc (suc (suc (suc (suc _))))))) n a = read_structs S f n a
read_list S f (suc (suc (suc (suc (suc (suc zero)))))) n a = read_pointers S f n a
read_list S f size n a = read_flat S size n a

-- Reads a struct or a list, by the kind of the word that describes it.
abbrev pub read_object : Segments → (ℕ → ℕ → Read Tree) → ℕ → Target → Read Tree
read_object S f zero a = read_struct S f a
read_object S f (suc zero) a = read_list S f (element_size a.word) (list_count a.word) a
read_object S f (suc (suc _)) a = None

-- Reads the place (s, p): Null, a capability, or what f reads at its target.
abbrev pub read_place : Segments → (Target → Read Tree) → ℕ → ℕ → Read Tree
read_place S f s p =
    if nat_eq (word_at S s p) 0 then Some (Null, 0) else leads S s p >>= λ a.
    if nat_eq (a.word % 2 ^ 32) 3 then Some (Capability (upper_half a.word), a.pads) else f a

-- What the word at (s, p) means within n levels, and its cost.
unfoldable pub decode : Segments → ℕ → ℕ → ℕ → Read Tree
decode S zero s p = read_place S (λ a. None) s p
decode S (suc n) s p = read_place S (λ a. read_object S (decode S n) (kind a.word) a) s p
