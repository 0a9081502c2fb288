-- A symbol or reserved word among tokens, and classes among them.
use Rattle.std.specs.Prelude.{ℕ, Bool, List, Option, length, map, find}
use Rattle.mj_lexer.specs.declared.token.Token.{Token}
use Rattle.mj_lexer.specs.declared.token.Terminal.{Terminal}
use Rattle.mj_lexer.specs.declared.token.Terminal.TheVariants as terminals
use Rattle.mj_tree.specs.Trees.{Name}
use Rattle.mj_expressions.specs.Tokens.{name_at, is_word}
use Rattle.mj_parser.specs.Locations.{numbers, all_of, class_end, method_name, begins_method}

pub record Standing : Type 0 where
  pub tokens : List Token
  pub terminal : Terminal

abbrev pub standing : List Token → Terminal → Standing
standing tokens terminal = record { tokens = tokens; terminal = terminal }

-- behind the `public` at this place a method of this name is declared
abbrev pub is_named : List Token → Name → ℕ → Bool
is_named ts name at = is_word name (name_at ts (method_name ts at))

-- A class, by the place where it begins.
pub record ClassStart : Type 0 where
  pub tokens : List Token
  pub start : ℕ

abbrev pub class_at : List Token → ℕ → ClassStart
class_at tokens start = record { tokens = tokens; start = start }

-- the classes of a file
abbrev pub class_starts : List Token → List ClassStart
class_starts ts = map (class_at ts) (all_of ts terminals.Class 0 (length ts))

-- where the first method of a name begins in the class that begins at a place
abbrev pub first_method : List Token → ℕ → Name → Option ℕ
first_method ts start name = find (begins_method ts name) (numbers start (class_end ts start))
