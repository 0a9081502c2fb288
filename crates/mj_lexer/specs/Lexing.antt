-- The tokens of a text, or its error, computed from the left.
use Rattle.std.specs.Prelude.{ℕ, zero, suc, ◌+◌, nat_lt, List, [], ◌∷◌, length, drop, Option, Result, Ok, Err, if◌then◌else◌}
use Rattle.std.specs.Result.{result_ok, result_err}
use Rattle.mj_lexer.specs.declared.token.Token.{Token}
use Rattle.mj_lexer.specs.declared.front.Front.{Front}
use Rattle.mj_lexer.specs.declared.front.Front.TheVariants.{Nothing, Blank, Word, Wrong}
use Rattle.mj_lexer.specs.declared.lexer.LexFault.{LexFault}
use Rattle.mj_lexer.specs.declared.lexer.LexFault.TheVariants.{FileTooLong}
use Rattle.mj_lexer.specs.Fronts.{front_of}
use Rattle.mj_lexer.specs.Lexes.{limit, fault_at}

abbrev pub Lexing : Type 0
Lexing = Result (List Token) LexFault

-- a token before those that come behind it
abbrev pub put_first : Token → Lexing → Lexing
put_first token (Ok tokens) = Ok (token ∷ tokens)
put_first token (Err fault) = Err fault

-- what a place gives if this stands there and `behind n` is given n bytes further on
abbrev pub lexing_at : ℕ → Front → (ℕ → Lexing) → Lexing
lexing_at at Nothing behind = Ok []
lexing_at at (Blank n) behind = behind n
lexing_at at (Word kind n) behind =
    put_first (record { kind = kind; start = at; end = at + n }) (behind n)
lexing_at at (Wrong problem) behind = Err (fault_at problem at)

-- what the text from a place on gives, in at most this many pieces
unfoldable pub lexing_from : ℕ → ℕ → List ℕ → Lexing
lexing_from zero at text = Ok []
lexing_from (suc pieces) at text =
    lexing_at at (front_of text) (λ n. lexing_from pieces (at + n) (drop n text))

-- a text has no more pieces than bytes
unfoldable pub lexing_of : List ℕ → Lexing
lexing_of text =
    if nat_lt limit (length text) then Err FileTooLong else lexing_from (length text) 0 text

abbrev pub tokens_of : List ℕ → Option (List Token)
tokens_of text = result_ok (lexing_of text)

abbrev pub lex_fault_of : List ℕ → Option LexFault
lex_fault_of text = result_err (lexing_of text)
