-- The tokens of places.
use Rattle.std.specs.Prelude.{ℕ, zero, suc, ◌+◌, ◌-◌, ◌&&◌, nat_lt, Bool, List, length, Option, Some, None, if◌then◌else◌, unwrap_or, slice_get, filter, find}
use Rattle.std.specs.List.{range_with_len}
use Rattle.mj_lexer.specs.declared.token.Token.{Token}
use Rattle.mj_lexer.specs.declared.token.Terminal.{Terminal}
use Rattle.mj_lexer.specs.declared.token.Terminal.TheVariants as terminals
use Rattle.mj_tree.specs.declared.place.Place.{Place}
use Rattle.mj_tree.specs.declared.place.Place.TheVariants as place
use Rattle.mj_expressions.specs.Tokens.{has, name_at, is_word}
use Rattle.mj_tree.specs.Trees.{Name}
use Rattle.mj_expressions.specs.Steps.{◌>>=◌}

-- the numbers from `low` to before `high`
abbrev pub numbers : ℕ → ℕ → List ℕ
numbers low high = range_with_len low (high - low)

-- where a terminal stands, from `low` to before `high`
abbrev pub all_of : List Token → Terminal → ℕ → ℕ → List ℕ
all_of ts t low high = filter (λ at. has ts at t) (numbers low high)

-- a place, if a token stands there
abbrev pub existing : List Token → ℕ → Option ℕ
existing ts at = if nat_lt at (length ts) then Some at else None

-- the word `class` of the class with a number
abbrev pub class_start : List Token → ℕ → Option ℕ
class_start ts class = slice_get (all_of ts terminals.Class 0 (length ts)) class

-- the next word `class`, or the end
abbrev pub class_end : List Token → ℕ → ℕ
class_end ts start =
    unwrap_or (slice_get (all_of ts terminals.Class (start + 1) (length ts)) 0) (length ts)

-- where a terminal stands in the class that begins at a place
abbrev pub all_in_class : List Token → Terminal → ℕ → List ℕ
all_in_class ts t start = all_of ts t start (class_end ts start)

-- the name behind `class`
abbrev pub class_name : List Token → ℕ → Option ℕ
class_name ts class = class_start ts class >>= λ start. existing ts (start + 1)

abbrev pub before : ℕ → Option ℕ
before zero = None
before (suc at) = Some at

-- the name before a semicolon of the class
abbrev pub field_name : List Token → ℕ → ℕ → Option ℕ
field_name ts class number =
    class_start ts class >>= λ start. slice_get (all_in_class ts terminals.Semicolon start) number
    >>= before

-- the name of the method, or the word `main`, behind a `public`
abbrev pub method_name : List Token → ℕ → ℕ
method_name ts start =
    if has ts (start + 1) terminals.Static
    then start + 3 else (if has ts (start + 2) terminals.LeftBracket
    then start + 4 else start + 2)

abbrev pub begins_method : List Token → Name → ℕ → Bool
begins_method ts name at =
    has ts at terminals.Public && is_word name (name_at ts (method_name ts at))

-- where the first method of this name begins
abbrev pub method_start : List Token → ℕ → Name → Option ℕ
method_start ts class name =
    class_start ts class >>= λ start. find (begins_method ts name)
    (numbers start (class_end ts start))

-- the name behind a `public` of the class
abbrev pub name_of_method : List Token → ℕ → ℕ → Option ℕ
name_of_method ts class number =
    class_start ts class >>= λ start. slice_get (all_in_class ts terminals.Public start) number
    >>= λ method. existing ts (method_name ts method)

-- the token of a place in a class of a file
abbrev pub token_of : List Token → ℕ → Place → Option ℕ
token_of ts class place.Project = None
token_of ts class (place.File name) = None
token_of ts class (place.ClassOf name number) = class_name ts number
token_of ts class place.Class = class_name ts class
token_of ts class (place.Field number) = field_name ts class number
token_of ts class (place.Method number) = name_of_method ts class number
token_of ts class (place.Inside method token) =
    method_start ts class method >>= λ start. existing ts (start + token)
