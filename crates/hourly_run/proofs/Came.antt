-- What holds of a value that came.
use Rattle.std.proofs.Common.{Result, Ok, Err, IfOk}

pub ok_so : {A E : Type 0} (r : Result A E) (P Q : A → Type 0) → IfOk r P → ((a : A) → P a → Q a) → IfOk r Q
ok_so (Ok a) P Q p f = f a p
ok_so (Err e) P Q p f = tt
