-- What holds of an outcome, weakened.
use Rattle.std.proofs.Common.{Result, Ok, Err, IfOk, IfErr, OnOk, OnErr}

pub on_ok_so : {A E : Type 0} (r : Result A E) (P : A → Type 0) (Q : Type 0) → IfOk r P → ((x : A) → P x → Q) → OnOk r Q
on_ok_so (Ok x) P Q h f = f x h
on_ok_so (Err k) P Q h f = tt

pub if_ok_so : {A E : Type 0} (r : Result A E) (P Q : A → Type 0) → IfOk r P → ((x : A) → P x → Q x) → IfOk r Q
if_ok_so (Ok x) P Q h f = f x h
if_ok_so (Err k) P Q h f = tt

pub if_err_so : {A E : Type 0} (r : Result A E) (P Q : E → Type 0) → IfErr r P → ((k : E) → P k → Q k) → IfErr r Q
if_err_so (Ok x) P Q h f = tt
if_err_so (Err k) P Q h f = f k h

pub on_err_so : {A E : Type 0} (r : Result A E) (P Q : Type 0) → OnErr r P → (P → Q) → OnErr r Q
on_err_so (Ok x) P Q h f = tt
on_err_so (Err k) P Q h f = f h

pub on_made_so : {A E : Type 0} (r : Result A E) (P Q : Type 0) → OnOk r P → (P → Q) → OnOk r Q
on_made_so (Ok x) P Q h f = f h
on_made_so (Err k) P Q h f = tt
