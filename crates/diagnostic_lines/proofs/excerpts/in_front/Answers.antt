use Rattle.std.proofs.Common.{◌≡◌, ◌∙◌, ◌+◌, List, ℕ, ap, sym, arith}
use Rattle.std.specs.List.{suffix_len}
use Rattle.std.proofs.lemmas.List.Sums.{suffix_len-le-length}
use Rattle.mj_lexer.specs.Places.{is_inside_line}
use Rattle.diagnostic_lines.proofs.excerpts.in_front.Goals as goal

pub overflow_sub-before : goal.overflow_sub-before
overflow_sub-before c =
    let within = suffix_len-le-length is_inside_line c.halves.result.0.now in
    let column : c.column.result ≡ suffix_len is_inside_line c.halves.result.0.now + 1 = c.column.ensures ∙ ap (λ (ys : List ℕ). suffix_len is_inside_line ys + 1) (sym c.halves.ensures.before) in
    omega arith
