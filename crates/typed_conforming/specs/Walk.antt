-- The walk that tests whether a value conforms to a schema: a function of the place and the
-- limiter. It reads the objects of the value in order.
use Rattle.std.specs.Prelude.{◌≡◌, ℕ, zero, suc, ◌+◌, List, Option, Some, None, Result, Ok, Err}
use Rattle.capnp_words.specs.Meter.{Meter}
use Rattle.capnp_words.specs.declared.error.ErrorKind.{ErrorKind}
use Rattle.capnp_pointers.specs.declared.object.Purpose.TheVariants.{Value}
use Rattle.capnp_pointers.specs.Enter.{Shape, struct, pointers, structs, read}
use Rattle.capnp_pointers.specs.Reading.{Reading, place_past, words_from}
use Rattle.typed_conforming.specs.declared.conforms.SchemaPointer.{SchemaPointer}
use Rattle.typed_conforming.specs.declared.conforms.SchemaWalk.{SchemaWalk}
use Rattle.typed_conforming.specs.declared.schema.Kind.{Kind}
use Rattle.typed_conforming.specs.declared.schema.Misfit.{Misfit}
use Rattle.typed_conforming.specs.Tables.{row_below, table_below, wanted, word_kind}
use Rattle.typed_conforming.specs.Misfits.{kind_misfit}

-- The result of a test, and what the limiter has left after it.
abbrev pub TestOutcome : Type 0
TestOutcome = Result (Unit {0}) Misfit × Meter

-- A test of a pointer that the schema has, at a place.
abbrev pub PointerTest : Type 0
PointerTest = SchemaPointer → Reading → Meter → TestOutcome

-- The test f, after a test with this outcome. A refusal stays.
abbrev pub and_then : (Meter → TestOutcome) → TestOutcome → TestOutcome
and_then f (Ok x, m) = f m
and_then f (Err e, m) = (Err e, m)

-- The refusal of the pointer p, at the place r.
abbrev pub misfit_at : SchemaPointer → Reading → ErrorKind → Misfit
misfit_at p r e =
    record { error = e; segment = r.segment; word = r.at; row = p.row; index = p.index }

-- A pointer of this kind that isn't in a struct of the schema, like the root of a message.
abbrev pub rowless_pointer : Kind → SchemaPointer
rowless_pointer k = record { kind = k; row = 0; index = 0 }

-- Pointer i of a struct with the data words ws and this row of the table T.
abbrev pub schema_pointer : List ℕ → ℕ → List ℕ → ℕ → SchemaPointer
schema_pointer T row ws i = record { kind = wanted T row ws i; row = row; index = i }

-- Pointer i of a row, whose kind word in the table is this one.
abbrev pub worded_pointer : ℕ → ℕ → ℕ → SchemaPointer
worded_pointer w row i = record { kind = word_kind w; row = row; index = i }

-- Tests q consecutive pointers from r on: those of a struct whose pointers are ps, from index i on.
-- f tests one.
abbrev pub check_pointers : PointerTest → (ℕ → SchemaPointer) → ℕ → ℕ → Reading → Meter →
    TestOutcome
check_pointers f ps i zero r m = (Ok tt, m)
check_pointers f ps i (suc q) r m =
    and_then (check_pointers f ps (suc i) q (place_past r 1)) (f (ps i) r m)

-- Tests the pointers of n consecutive elements of d data words and q pointers, from r on. For the
-- data words ws, these pointers are ps ws.
abbrev pub check_elements : PointerTest → (List ℕ → ℕ → SchemaPointer) → ℕ → ℕ → ℕ → Reading →
    Meter → TestOutcome
check_elements f ps d q zero r m = (Ok tt, m)
check_elements f ps d q (suc n) r m =
    and_then (check_elements f ps d q n (place_past r (d + q)))
    (check_pointers f (ps (words_from r d)) 0 q (place_past r d) m)

-- The same for the pointers of an object. They are read with the levels of r.
abbrev pub check_children : PointerTest → (List ℕ → ℕ → SchemaPointer) → Reading → Shape → Meter →
    TestOutcome
check_children f ps r (struct s p d q) m =
    check_elements f ps d q 1 (record r { segment = s; at = p }) m
check_children f ps r (pointers s p n) m =
    check_elements f ps 0 1 n (record r { segment = s; at = p }) m
check_children f ps r (structs s p d q n) m =
    check_elements f ps d q n (record r { segment = s; at = p }) m
check_children f ps r o m = (Ok tt, m)

-- The refusal of the pointer p at r with this error, if there is one; otherwise the test f.
abbrev pub unless_misfit : SchemaPointer → Reading → Option ErrorKind → (Meter → TestOutcome) →
    Meter → TestOutcome
unless_misfit p r None f m = f m
unless_misfit p r (Some e) f m = (Err (misfit_at p r e), m)

-- The test f of the object that was read for the pointer p at r, if that is what p may lead to.
abbrev pub check_read : SchemaPointer → Reading → (Shape → Meter → TestOutcome) →
    Result Shape ErrorKind × Meter → TestOutcome
check_read p r f (Ok o, m) = unless_misfit p r (kind_misfit p.kind r.segments o) (f o) m
check_read p r f (Err e, m) = (Err (misfit_at p r e), m)

-- Tests the value at r, of the pointer p. It is read with n levels.
unfoldable pub check_within : List ℕ → ℕ → PointerTest
check_within T zero p r m =
    check_read p r (λ o m. (Ok tt, m)) (read Value (record r { levels = zero }) m)
check_within T (suc n) p r m =
    check_read p r
    (check_children (check_within (table_below T p.kind) n)
    (schema_pointer (table_below T p.kind) (row_below p.kind)) (record r { levels = n }))
    (read Value (record r { levels = suc n }) m)

-- The same with the levels of r.
abbrev pub check_place : List ℕ → PointerTest
check_place T p r m = check_within T r.levels p r m

-- What a call of the program's walk returns: nothing, or the refusal that it has left.
abbrev pub walk_outcome : {A E : Type 0} → Result A E → SchemaWalk → Result (Unit {0}) Misfit
walk_outcome (Ok x) new = Ok tt
walk_outcome (Err k) new = Err new.misfit

-- A call of the program's walk does what the test f does: from its limiter to what it returns and
-- leaves.
abbrev pub Performs :
    {A E : Type 0} → (Meter → TestOutcome) → SchemaWalk → SchemaWalk → Result A E → Type 0
Performs f old new result = f old.lim ≡ (walk_outcome result new, new.lim)
