-- The words of shapes.
use Rattle.std.proofs.Common.{◌≡◌, ◌≢◌, ℕ, arith}
use Rattle.capnp_format.specs.Word.{kind}
use Rattle.capnp_allocation.specs.declared.making.Shape.{Shape}
use Rattle.capnp_allocation.specs.declared.making.Shape.TheVariants.{Struct as StructShape, List as ListShape}
use Rattle.capnp_allocation.specs.Made.{IsShape, AsksWords}

pub shape_some : (shape : Shape) (x : ℕ) → IsShape shape x → AsksWords shape → x ≢ 0
shape_some (StructShape size) x (k, d, q) some e = let none : x ≡ 0 = e in omega arith
shape_some (ListShape size n) x (k, d, q) some e = let none : x ≡ 0 = e in omega arith

pub shape_near : (shape : Shape) (x : ℕ) → IsShape shape x → kind x ≢ 2
shape_near (StructShape size) x (k, d, q) e = omega arith
shape_near (ListShape size n) x (k, d, q) e = omega arith
