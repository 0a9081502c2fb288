-- Tokens by their places.
use Rattle.std.specs.Prelude.{◌≡◌, ◌↔◌, ℕ, ◌+◌, Bool, true, false, ◌==◌, List, [], ◌∷◌, Option, Some, None, slice_get, if◌then◌else◌}
use Rattle.std.specs.Str.{bytes_eq}
use Rattle.mj_lexer.specs.declared.token.Token.{Token}
use Rattle.mj_lexer.specs.declared.token.TokenKind.{TokenKind}
use Rattle.mj_lexer.specs.declared.token.TokenKind.TheVariants as kinds
use Rattle.mj_lexer.specs.declared.token.Terminal.{Terminal}
use Rattle.mj_lexer.specs.declared.token.Terminal.TheVariants.{LeftBrace, RightBrace, LeftParenthesis, RightParenthesis, LeftBracket, RightBracket, Semicolon, Comma, Dot, Assign, And, Less, Plus, Minus, Times, Not, Class, Public, Static, Void, Extends, Return, Int, Boolean, If, Else, While, True, False, This, New}
use Rattle.mj_tree.specs.Trees.{Name}

-- the numbers by which terminals are compared
abbrev pub terminal_number : Terminal → ℕ
terminal_number LeftBrace = 0
terminal_number RightBrace = 1
terminal_number LeftParenthesis = 2
terminal_number RightParenthesis = 3
terminal_number LeftBracket = 4
terminal_number RightBracket = 5
terminal_number Semicolon = 6
terminal_number Comma = 7
terminal_number Dot = 8
terminal_number Assign = 9
terminal_number And = 10
terminal_number Less = 11
terminal_number Plus = 12
terminal_number Minus = 13
terminal_number Times = 14
terminal_number Not = 15
terminal_number Class = 16
terminal_number Public = 17
terminal_number Static = 18
terminal_number Void = 19
terminal_number Extends = 20
terminal_number Return = 21
terminal_number Int = 22
terminal_number Boolean = 23
terminal_number If = 24
terminal_number Else = 25
terminal_number While = 26
terminal_number True = 27
terminal_number False = 28
terminal_number This = 29
terminal_number New = 30

abbrev pub same_terminal : Terminal → Terminal → Bool
same_terminal a b = terminal_number a == terminal_number b

abbrev pub token_kind : Option Token → Option TokenKind
token_kind None = None
token_kind (Some token) = Some token.kind

abbrev pub kind_at : List Token → ℕ → Option TokenKind
kind_at ts i = token_kind (slice_get ts i)

abbrev pub is_terminal : Terminal → Option TokenKind → Bool
is_terminal terminal None = false
is_terminal terminal (Some (kinds.Identifier name)) = false
is_terminal terminal (Some (kinds.Literal value)) = false
is_terminal terminal (Some (kinds.Terminal other)) = same_terminal terminal other

-- whether this symbol or reserved word stands at a place, by its number
unfoldable pub has : List Token → ℕ → Terminal → Bool
has ts i terminal = is_terminal terminal (kind_at ts i)

-- this symbol or reserved word stands at a place
unfoldable pub Stands : List Token → ℕ → Terminal → Type 0
Stands ts i terminal = kind_at ts i ≡ Some (kinds.Terminal terminal)

-- Reading tests what stands at a place.
abbrev pub StandsLaw : Type 0
StandsLaw = (ts : List Token) (i : ℕ) (terminal : Terminal)
    → Stands ts i terminal ↔ (has ts i terminal ≡ true)

abbrev pub name_of : Option TokenKind → Option Name
name_of None = None
name_of (Some (kinds.Identifier name)) = Some name
name_of (Some (kinds.Literal value)) = None
name_of (Some (kinds.Terminal other)) = None

abbrev pub value_of : Option TokenKind → Option ℕ
value_of None = None
value_of (Some (kinds.Identifier name)) = None
value_of (Some (kinds.Literal value)) = Some value
value_of (Some (kinds.Terminal other)) = None

-- the name, or the literal's value, that stands at a place
unfoldable pub name_at : List Token → ℕ → Option Name
name_at ts i = name_of (kind_at ts i)

unfoldable pub value_at : List Token → ℕ → Option ℕ
value_at ts i = value_of (kind_at ts i)

abbrev pub is_word : List ℕ → Option Name → Bool
is_word word None = false
is_word word (Some name) = bytes_eq name word

-- Of what has to stand from a place on, the first place where it doesn't.
abbrev pub first_wrong : ℕ → List Bool → ℕ
first_wrong i [] = i
first_wrong i (stands ∷ others) = if stands then first_wrong (i + 1) others else i

-- the name at a place is this word
unfoldable pub says : List Token → ℕ → List ℕ → Bool
says ts i word = is_word word (name_at ts i)
