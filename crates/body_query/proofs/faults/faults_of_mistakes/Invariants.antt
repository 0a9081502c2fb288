use Rattle.std.proofs.Common.{◌≡◌, take}
use Rattle.body_query.specs.Body.{faults_of_mistakes}
use Rattle.body_query.proofs.faults.faults_of_mistakes.Given as goal

abbrev pub invariant-loop-mistake : goal.invariant-loop-mistake
invariant-loop-mistake l = l.faults.items ≡ faults_of_mistakes l.method (take l.mistake-index l.mistakes)
