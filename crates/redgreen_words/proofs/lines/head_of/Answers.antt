use Rattle.std.proofs.Common.{ap, ◌∙◌, map, List, ℕ, Bor}
use Rattle.redgreen_words.proofs.Numbers.{head_line}
use Rattle.redgreen_words.proofs.lines.head_of.Goals as goal

pub returns-in-Ok : goal.returns-in-Ok
returns-in-Ok c = (
  head_line (λ x. x.now) c.as_slice.result.now _ c.args.line.now c.in-Some.word c.in-Ok.numbers.items
      (ap (λ (xs : List (Bor (List ℕ))). map (λ x. x.now) xs) c.as_slice.ensures.value ∙ c.in_ok-items.ensures)
      c.in-len1-up.len_at_least c.in-Some.ensures c.in-Ok.ensures.0,
  c.in-Ok.ensures.1,
)
