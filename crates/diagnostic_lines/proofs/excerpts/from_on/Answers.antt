use Rattle.std.proofs.Common.{◌≡◌, ◌∙◌, ℕ, List, ap, take}
use Rattle.std.specs.List.{take_while}
use Rattle.std.proofs.lemmas.List.{take_min}
use Rattle.mj_lexer.specs.Places.{is_inside_line}
use Rattle.diagnostic_lines.proofs.Near.{near_while}
use Rattle.diagnostic_lines.proofs.excerpts.from_on.Goals as goal

pub returns : goal.returns
returns c =
    let after : List ℕ = c.halves.result.1.now in
    let near : c.split_at.result.0.now ≡ take 201 after = c.split_at.ensures.front ∙ (ap (λ (n : ℕ). take n after) c.min.ensures ∙ take_min 201 after) in
    c.split_at-2.ensures.front
    ∙ (ap (λ (n : ℕ). take n c.split_at.result.0.now) c.line_len.ensures.value
    ∙ (ap (take_while is_inside_line) near
    ∙ (near_while is_inside_line 201 after
    ∙ ap (λ (ys : List ℕ). take 201 (take_while is_inside_line ys)) c.halves.ensures.after)))
