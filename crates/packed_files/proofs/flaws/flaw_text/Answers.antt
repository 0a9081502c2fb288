use Rattle.std.proofs.Common.{◌≡◌, ◌∙◌, List, ℕ, ◌++◌, codes, decimal, sym, ap, append_assoc}
use Rattle.std.proofs.lemmas.Result.{IfOk-weaker}
use Rattle.packed_files.proofs.flaws.flaw_text.Goals as goal

five : (a b c d e : List ℕ) → a ++ (b ++ (c ++ (d ++ e))) ≡ a ++ b ++ c ++ d ++ e
five a b c d e = sym (append_assoc a b (c ++ (d ++ e))) ∙ sym (append_assoc (a ++ b) c (d ++ e)) ∙ sym (append_assoc (a ++ b ++ c) d e)

pub returns : goal.returns
returns c = IfOk-weaker c.format.result _ _ (λ text e.
    e ∙ five (codes "refused: file ") (decimal c.args.number) (codes ": ") c.words-words.result.now (codes "\n")
    ∙ ap (λ (words : List ℕ). codes "refused: file " ++ decimal c.args.number ++ codes ": " ++ words ++ codes "\n") c.words-words.ensures) c.format.ensures.ok
