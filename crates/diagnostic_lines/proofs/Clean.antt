-- An answer without diagnostics has no findings.
use Rattle.std.proofs.Common.{◌≡◌, true, ◌==◌, List, [], ◌∷◌, length, map, refl, arith}
use Rattle.std.proofs.lemmas.Bool.Decides.{nat_tests}
use Rattle.std.specs.Prelude.{flat_map}
use Rattle.std.specs.List.{list_all}
use Rattle.std.proofs.lemmas.Bool.{and_parts}
use Rattle.mj_rules.specs.AnswerWords.{Diagnostic, ClassAnswerValue, AnswerValue}
use Rattle.diagnostic_lines.specs.FaultLines.{of_class, findings}
use Rattle.diagnostic_lines.specs.Lines.{is_clean}

nothing : (faults : List Diagnostic) → (length faults == 0) ≡ true → faults ≡ []
nothing [] e = refl
nothing (fault ∷ faults) e =
    let none : length (fault ∷ faults) ≡ 0 = grind (arith, nat_tests) in
    absurd (omega arith)

nothing_in_any : (classes : List ClassAnswerValue) → list_all (λ class. length class.faults == 0) classes ≡ true → flat_map (λ class. map (of_class class.name) class.faults) classes ≡ []
nothing_in_any [] e = refl
nothing_in_any (class ∷ classes) e =
    let both = and_parts (length class.faults == 0) (list_all (λ (k : ClassAnswerValue). length k.faults == 0) classes) e in
    rw (nothing class.faults both.0) (nothing_in_any classes both.1)

pub clean_findings : (answer : AnswerValue) → is_clean answer ≡ true → findings answer ≡ []
clean_findings answer e =
    let both = and_parts (length answer.faults == 0) (list_all (λ (k : ClassAnswerValue). length k.faults == 0) answer.classes) e in
    rw (nothing answer.faults both.0) (nothing_in_any answer.classes both.1)
