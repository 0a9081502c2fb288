-- The program of the echo.
use Rattle.std.specs.Prelude.{[], ◌∷◌}
use Rattle.redgreen_rules.specs.Programs.{Key, Prog, Ret, Ask}
use Rattle.redgreen_rules.specs.Runs.{Run}
use Rattle.redgreen_audit.specs.Right.{EndsAfter}

abbrev pub echo_of : Key → Prog
echo_of [] = Ret []
echo_of (b ∷ rest) = Ask rest (λ v. Ret (b ∷ v))

abbrev pub IsEcho : Run → Type 0
IsEcho run = EndsAfter (echo_of run.key) run.told run.end
