-- What follows of a result that is there.
use Rattle.std.specs.Prelude.{IfOk, Ok, Err, Result}

pub ok_then : {A E : Type 0} (r : Result A E) (P Q : A → Type 0) → IfOk r P → ((x : A) → P x → Q x) → IfOk r Q
ok_then (Ok x) P Q holds so = so x holds
ok_then (Err e) P Q holds so = tt
