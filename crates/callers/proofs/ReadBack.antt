-- What edits lead to can be read back.
use Rattle.std.proofs.Common.{ℕ, List, Option, Result, Ok, Err, IfOk}
use Rattle.capnp_words.specs.declared.error.ErrorKind.{ErrorKind}
use Rattle.capnp_format.specs.Bytes.{message}
use Rattle.capnp_format.specs.Forest.{IsForest}
use Rattle.capnp_format.specs.Means.{Means}
use Rattle.capnp_format.specs.Segments.{Segments}
use Rattle.capnp_format.specs.Tree.{Tree}
use Rattle.capnp_edits.specs.declared.edit.Edit.{Edit}
use Rattle.capnp_edits.specs.Edits.{EditTakes, InTurn, IsApplied}
use Rattle.callers.specs.Meaning.{MeansTheSame}

pub read_after : {A E : Type 0} (result : Result A E) (S M : Segments) (segments : A → List (List ℕ)) (edits : List Edit) (outcomes : List (Option ErrorKind)) → IsApplied (InTurn EditTakes edits outcomes) S M → IfOk result (λ r. MeansTheSame M (message (segments r))) →
    IfOk result (λ r. (t : Tree) → IsForest S t → (u : Tree) × InTurn EditTakes edits outcomes t u × (n : ℕ) × (c : ℕ) × Means (message (segments r)) n 0 0 u c)
read_after (Ok r) S M segments edits outcomes applied same = λ t forest.
    (let (u, after, takes) = applied t forest in
    let (n, c, means) = after.means in
    (u, takes, n, c, same n 0 0 c u means))
read_after (Err k) S M segments edits outcomes applied same = tt
