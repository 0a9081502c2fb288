-- What is said of a call that has no answer.
use Rattle.std.proofs.Common.{ℕ, List, string_bytes}
use Rattle.linkable.specs.Stopping.{Says}
use Rattle.linkable.specs.declared.stopping.Stop.{Stop}
use Rattle.linkable.specs.declared.stopping.Stop.TheVariants as stop

pub says_weaker : (P Q : List ℕ → Type 0) → ((line : List ℕ) → P line → Q line) → (why : Stop) → Says P why → Says Q why
says_weaker P Q weaker (stop.Refused line) says = weaker (string_bytes line) says
says_weaker P Q weaker stop.OutOfMemory says = tt
