-- Worked examples: the size and the test of a struct of one data word, in a message of two words.
use Rattle.std.proofs.Common.{◌≡◌, true, false, Some, Ok, Err, [], ◌∷◌, refl}
use Rattle.capnp_words.specs.declared.error.ErrorKind.TheVariants.{ReadLimitExceeded}
use Rattle.capnp_pointers.specs.Reading.{Reading}
use Rattle.capnp_pointers.specs.Measure.{measure, measure_within, only_words}
use Rattle.capnp_pointers.specs.Testing.{test_value, test_within}
use Rattle.capnp_pointers.specs.declared.pointers.canonical_fault.CanonicalFaultReason.TheVariants.{DataSection, ObjectPlace}

abbrev root : Reading
root = record { segments = (4294967296 ∷ 5 ∷ []) ∷ []; charging = true; of_default = false; levels = 2; segment = 0; at = 0 }

-- It is one word, which is charged, and one pointer is followed.
struct_has_size : measure root (only_words 0) (record { left = Some 10; followed = 0 }) ≡ (Ok (only_words 1), record { left = Some 9; followed = 1 })
unfolding measure_within
struct_has_size = refl

-- Without a word left it is refused, and the pointer is counted.
struct_is_refused : measure root (only_words 0) (record { left = Some 0; followed = 0 }) ≡ (Err ReadLimitExceeded, record { left = Some 0; followed = 1 })
unfolding measure_within
struct_is_refused = refl

-- With the head at word 1 it is canonical, and the head moves to its end.
struct_is_canonical : test_value root 1 (record { left = Some 10; followed = 0 }) ≡ (Ok (Ok 2), record { left = Some 9; followed = 1 })
unfolding test_within
struct_is_canonical = refl

-- With the head at word 2 it is misplaced. It is charged before that is seen.
struct_is_misplaced : test_value root 2 (record { left = Some 10; followed = 0 }) ≡ (Ok (Err (record { segment = 0; word = 0; reason = ObjectPlace })), record { left = Some 9; followed = 1 })
unfolding test_within
struct_is_misplaced = refl

-- If its word is zero, its data section is too wide.
struct_is_wide :
    test_value (record root { segments = (4294967296 ∷ 0 ∷ []) ∷ [] }) 1 (record { left = Some 10; followed = 0 }) ≡ (Ok (Err (record { segment = 0; word = 1; reason = DataSection })), record { left = Some 9; followed = 1 })
unfolding test_within
struct_is_wide = refl
