-- A text is cut into tokens, white space and comments, each as long as it can be.
use Rattle.std.specs.Prelude.{ℕ, ◌+◌, ◌<◌, ◌≤◌, List, [], ◌∷◌, length, drop}
use Rattle.mj_lexer.specs.declared.token.TokenKind.{TokenKind}
use Rattle.mj_lexer.specs.declared.token.Token.{Token}
use Rattle.mj_lexer.specs.declared.front.Problem.{Problem}
use Rattle.mj_lexer.specs.declared.front.Problem.TheVariants as problems
use Rattle.mj_lexer.specs.declared.front.Front.TheVariants.{Blank, Word, Wrong}
use Rattle.mj_lexer.specs.declared.lexer.LexFault.{LexFault}
use Rattle.mj_lexer.specs.declared.lexer.LexFault.TheVariants.{BadByte, OpenComment, NameTooLong, FileTooLong, OutOfMemory}
use Rattle.mj_lexer.specs.Pieces.{StandsInFront}

-- From a place on, the text is cut into these tokens up to a later place, where this rest is left:
-- what stands at each place is the longest piece there.
pub data Cuts : ℕ → List ℕ → List Token → ℕ → List ℕ → Type 0 where
  here : {at : ℕ} {text : List ℕ} → Cuts at text [] at text
  blank : {at : ℕ} {text : List ℕ} {tokens : List Token} {till : ℕ} {rest : List ℕ} (n : ℕ)
      → StandsInFront text (Blank n) → Cuts (at + n) (drop n text) tokens till rest
      → Cuts at text tokens till rest
  word : {at : ℕ} {text : List ℕ} {tokens : List Token} {till : ℕ} {rest : List ℕ}
      (kind : TokenKind) (n : ℕ)
      → StandsInFront text (Word kind n) → Cuts (at + n) (drop n text) tokens till rest
      → Cuts at text (record { kind = kind; start = at; end = at + n } ∷ tokens) till rest

abbrev pub limit : ℕ
limit = 1048576

pub record Lexes (text : List ℕ) (tokens : List Token) : Type 0 where
  pub short : length text ≤ limit
  pub till : ℕ
  pub cut : Cuts 0 text tokens till []

-- The text before a place is cut into tokens, and the problem stands there.
pub record BreaksAt (text : List ℕ) (problem : Problem) (at : ℕ) : Type 0 where
  pub short : length text ≤ limit
  pub tokens : List Token
  pub rest : List ℕ
  pub cut : Cuts 0 text tokens at rest
  pub wrong : StandsInFront rest (Wrong problem)

abbrev pub Breaks : List ℕ → LexFault → Type 0
Breaks text (BadByte at) = BreaksAt text problems.Byte at
Breaks text (OpenComment at) = BreaksAt text problems.Comment at
Breaks text (NameTooLong at) = BreaksAt text problems.Name at
Breaks text FileTooLong = limit < length text
Breaks text OutOfMemory = ⊥

abbrev pub fault_at : Problem → ℕ → LexFault
fault_at problems.Byte at = BadByte at
fault_at problems.Comment at = OpenComment at
fault_at problems.Name at = NameTooLong at
