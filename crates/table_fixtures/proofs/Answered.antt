-- What is shown of an answer that may be refused.
use Rattle.std.specs.Prelude.{Result, Ok, Err, IfOk}

-- what each value that is answered has, if it has that
pub answered : {X E : Type 0} (r : Result X E) (P Q : X → Type 0) → ((x : X) → P x → Q x) → IfOk r P → IfOk r Q
answered (Ok x) P Q f h = f x h
answered (Err e) P Q f h = h
