-- A line that is written in parts.
use Rattle.std.proofs.Common.{◌≡◌, ◌∙◌, ℕ, List, ◌++◌, Result, Ok, Err, ap, append_assoc}
use Rattle.std.specs.Prelude.{OnOk, if◌then◌else◌, is_ok}

pub line_ended : {A E : Type 0} (r : Result A E) (new before old first middle last : List ℕ) → before ≡ (old ++ first) ++ middle → new ≡ (if is_ok r then before ++ last else before)
    → OnOk r (new ≡ old ++ (first ++ (middle ++ last)))
line_ended (Ok a) new before old first middle last front e =
    let assoc : ((old ++ first) ++ middle) ++ last ≡ old ++ (first ++ (middle ++ last)) = simp append_assoc in
    e ∙ (ap (λ t. t ++ last) front ∙ assoc)
line_ended (Err x) new before old first middle last front e = tt
