-- Steps of a check that asks.
use Rattle.std.specs.Prelude.{◌≡◌, List}
use Rattle.mj_phrases.specs.declared.verdict.Mistake.{Mistake}
use Rattle.mj_phrases.specs.Inquiries.{Inquiry}

-- a check of a body, which concludes with its mistakes
abbrev pub Check : Type 0
Check = Inquiry (List Mistake)

-- whatever check goes on with the step stands, after the step's value, at what follows it
pub record Proceeds {S X : Type 0} (stands : S → Check → Check → Type 0)
    (step : (X → Check) → Check) (old : S) (x : X) (new : S) : Type 0 where
  pub goes : (start : Check) (k : X → Check) → stands old start (step k) → stands new start (k x)

-- whatever check goes on with the step has ended
pub record Aborts {S X E : Type 0} (stands : S → Check → Check → Type 0)
    (halts : S → Check → E → Type 0) (step : (X → Check) → Check) (old : S) (e : E)
    (new : S) : Type 0 where
  pub ends : (start : Check) (k : X → Check) → stands old start (step k) → halts new start e

-- whatever check goes on with the step, the step asks nothing and has this value
abbrev pub Yields : {X : Type 0} → ((X → Check) → Check) → X → Type 0
Yields {X} step x = (k : X → Check) → step k ≡ k x
