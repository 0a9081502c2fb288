use Rattle.std.proofs.Common.{◌≡◌, ◌∙◌, List, ℕ, ◌++◌, codes, decimal, sym, append_assoc}
use Rattle.std.proofs.lemmas.Result.{IfOk-weaker}
use Rattle.linkable.proofs.chains.file_text.Goals as goal

five : (a b c d e : List ℕ) → a ++ (b ++ (c ++ (d ++ e))) ≡ a ++ b ++ c ++ d ++ e
five a b c d e = sym (append_assoc a b (c ++ (d ++ e))) ∙ sym (append_assoc (a ++ b) c (d ++ e)) ∙ sym (append_assoc (a ++ b ++ c) d e)

pub returns : goal.returns
returns c = IfOk-weaker c.format.result _ _ (λ text e.
    e ∙ five (codes "refused: session file ") (decimal c.args.number) (codes ": ") c.args.words.now (codes "\n")) c.format.ensures.ok
