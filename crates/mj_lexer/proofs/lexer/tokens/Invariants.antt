use Rattle.std.proofs.Common.{ℕ, ◌-◌, ◌≤◌, ◌++◌, List, length, drop}
use Rattle.mj_lexer.specs.declared.token.Token.{Token}
use Rattle.mj_lexer.specs.Lexes.{Cuts}
use Rattle.mj_lexer.proofs.lexer.tokens.Given as goal

-- whatever is cut from here on completes the tokens so far
abbrev pub invariant-loop-tokens : goal.invariant-loop-tokens
invariant-loop-tokens l = record {
  within : l.at ≤ length l.text;
  so_far : (tokens : List Token) (till : ℕ) (rest : List ℕ) → Cuts l.at (drop l.at l.text) tokens till rest → Cuts 0 l.text (l.tokens.items ++ tokens) till rest;
  short : length l.text ≤ 1048576;
}

abbrev pub decreases-loop-tokens : goal.decreases-loop-tokens
decreases-loop-tokens l = length l.text - l.at
