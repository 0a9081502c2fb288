-- Reserved words and symbols.
use Rattle.std.specs.Prelude.{ℕ, ◌==◌, List, Option, Some, None, codes, if◌then◌else◌}
use Rattle.std.specs.Str.{bytes_eq}
use Rattle.mj_lexer.specs.declared.token.TokenKind.{TokenKind}
use Rattle.mj_lexer.specs.declared.token.TokenKind.TheVariants as kinds
use Rattle.mj_lexer.specs.declared.token.Terminal.{Terminal}
use Rattle.mj_lexer.specs.declared.token.Terminal.TheVariants.{LeftBrace, RightBrace, LeftParenthesis, RightParenthesis, LeftBracket, RightBracket, Semicolon, Comma, Dot, Assign, And, Less, Plus, Minus, Times, Not, Class, Public, Static, Void, Extends, Return, Int, Boolean, If, Else, While, True, False, This, New}

-- what a symbol or a reserved word is written as
abbrev pub text_of : Terminal → List ℕ
text_of LeftBrace = codes "{"
text_of RightBrace = codes "}"
text_of LeftParenthesis = codes "("
text_of RightParenthesis = codes ")"
text_of LeftBracket = codes "["
text_of RightBracket = codes "]"
text_of Semicolon = codes ";"
text_of Comma = codes ","
text_of Dot = codes "."
text_of Assign = codes "="
text_of And = codes "&&"
text_of Less = codes "<"
text_of Plus = codes "+"
text_of Minus = codes "-"
text_of Times = codes "*"
text_of Not = codes "!"
text_of Class = codes "class"
text_of Public = codes "public"
text_of Static = codes "static"
text_of Void = codes "void"
text_of Extends = codes "extends"
text_of Return = codes "return"
text_of Int = codes "int"
text_of Boolean = codes "boolean"
text_of If = codes "if"
text_of Else = codes "else"
text_of While = codes "while"
text_of True = codes "true"
text_of False = codes "false"
text_of This = codes "this"
text_of New = codes "new"

-- the symbols of one byte
abbrev pub symbol_of : ℕ → Option Terminal
symbol_of b =
    if b == 123 then Some LeftBrace else (
    if b == 125 then Some RightBrace else (
    if b == 40 then Some LeftParenthesis else (
    if b == 41 then Some RightParenthesis else (
    if b == 91 then Some LeftBracket else (
    if b == 93 then Some RightBracket else (
    if b == 59 then Some Semicolon else (
    if b == 44 then Some Comma else (
    if b == 46 then Some Dot else (
    if b == 61 then Some Assign else (
    if b == 60 then Some Less else (
    if b == 43 then Some Plus else (
    if b == 45 then Some Minus else (
    if b == 42 then Some Times else (
    if b == 33 then Some Not else None))))))))))))))

-- the reserved words
unfoldable pub reserved_of : List ℕ → Option Terminal
reserved_of text =
    if bytes_eq text (codes "class") then Some Class else (
    if bytes_eq text (codes "public") then Some Public else (
    if bytes_eq text (codes "static") then Some Static else (
    if bytes_eq text (codes "void") then Some Void else (
    if bytes_eq text (codes "extends") then Some Extends else (
    if bytes_eq text (codes "return") then Some Return else (
    if bytes_eq text (codes "int") then Some Int else (
    if bytes_eq text (codes "boolean") then Some Boolean else (
    if bytes_eq text (codes "if") then Some If else (
    if bytes_eq text (codes "else") then Some Else else (
    if bytes_eq text (codes "while") then Some While else (
    if bytes_eq text (codes "true") then Some True else (
    if bytes_eq text (codes "false") then Some False else (
    if bytes_eq text (codes "this") then Some This else (
    if bytes_eq text (codes "new") then Some New else None))))))))))))))

-- a reserved word, or a name
abbrev pub kind_of_word : List ℕ → TokenKind
kind_of_word text = word_of text (reserved_of text)
  where
    word_of : List ℕ → Option Terminal → TokenKind
    word_of text None = kinds.Identifier text
    word_of text (Some terminal) = kinds.Terminal terminal
