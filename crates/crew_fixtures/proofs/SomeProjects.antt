-- What is made of two projects, or of one, is made of some.
use Rattle.std.proofs.Common.{ℕ}
use Rattle.std.specs.Prelude.{Result, Ok, Err, IfOk}
use Rattle.recorder.specs.Projects.{Project}
use Rattle.answer_fixtures.specs.declared.unfit.Unfit.{Unfit}
use Rattle.crew_fixtures.specs.Made.{AreMade}
use Rattle.crew_fixtures.specs.declared.making.BothTerms.{BothTerms}
use Rattle.crew_fixtures.specs.declared.making.Made.{Made}

pub of_some : (terms : BothTerms) (p q : Project) (workers : ℕ) (r : Result (Made × Made) Unfit) → IfOk r (λ both. AreMade terms p q workers both.0 both.1)
    → IfOk r (λ both. (x : Project) × (y : Project) × AreMade terms x y workers both.0 both.1)
of_some terms p q workers (Ok both) made = (p, q, made)
of_some terms p q workers (Err e) made = tt

pub of_one : (terms : BothTerms) (p : Project) (workers : ℕ) (r : Result (Made × Made) Unfit) → IfOk r (λ both. AreMade terms p p workers both.0 both.1)
    → IfOk r (λ both. (x : Project) × AreMade terms x x workers both.0 both.1)
of_one terms p workers (Ok both) made = (p, made)
of_one terms p workers (Err e) made = tt
