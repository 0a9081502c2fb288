-- Skipping trees from left to right: what is left behind an item is answered, and nothing of the item.
use Rattle.std.specs.Prelude.{◌≡◌, ℕ, zero, suc, List, Option, Some, None, Result, Ok, Err}
use Rattle.std.specs.Borrow.{Bor}
use Rattle.mj_tree.specs.Limits.{most_levels}
use Rattle.byte_readers.specs.declared.breach.Breach.{Breach}
use Rattle.byte_readers.specs.declared.breach.ReadError.{ReadError}
use Rattle.byte_readers.specs.Reading.{◌>>=◌, Fails, not_canonical, byte_at, four_at, eight_at, name_at}
use Rattle.tree_spelling.specs.declared.tag.ExpTag.{ExpTag}
use Rattle.tree_spelling.specs.declared.tag.ExpTag.TheVariants as tags
use Rattle.tree_spelling.specs.declared.tag.StmtTag.{StmtTag}
use Rattle.tree_spelling.specs.declared.tag.StmtTag.TheVariants as statements
use Rattle.tree_spelling.specs.Tags.{exp_tag_of, stmt_tag_of}
use Rattle.tree_spelling.specs.Reading.{ty_at, literal_at}

-- what is left behind the item that reading gives, or its breach
abbrev pub behind : {A : Type 0} → Result (A × List ℕ) Breach → Result (List ℕ) Breach
behind (Ok x) = Ok x.1
behind (Err e) = Err e

-- What a skipping function returned is what is left behind the item that reading gives, or its
-- breach, unless memory ran out.
abbrev pub Skips : {A : Type 0} → Result (Bor (List ℕ)) ReadError → Result (A × List ℕ) Breach
    → Type 0
Skips (Ok rest) read = behind read ≡ Ok rest.now
Skips (Err e) read = Fails e read

-- ---- what skipping computes

-- A skipper answers the bytes behind an item, or its breach.
abbrev pub Skipper : Type 0
Skipper = List ℕ → Result (List ℕ) Breach

-- what a skipping function returned is what a skipper leaves, unless memory ran out
abbrev pub Leaves : Result (Bor (List ℕ)) ReadError → Result (List ℕ) Breach → Type 0
Leaves (Ok rest) left = left ≡ Ok rest.now
Leaves (Err e) left = Fails e left

-- so many items, one behind the other
unfoldable pub items_left : Skipper → ℕ → Skipper
items_left part zero bytes = Ok bytes
items_left part (suc n) bytes = part bytes >>= items_left part n

-- the number of items, and the items
unfoldable pub list_left : Skipper → Skipper
list_left part bytes = eight_at bytes >>= λ n. items_left part n.0 n.1

abbrev pub variable_left : Skipper
variable_left bytes = do
  rest ← behind (name_at bytes)
  rest ← behind (ty_at rest)
  behind (four_at rest)

-- two items, one behind the other
abbrev pub two_left : Skipper → Skipper
two_left part bytes = part bytes >>= part

-- what follows a tag and a mark
abbrev pub exp_body_left : Skipper → ExpTag → Skipper
exp_body_left part (tags.Two two) bytes = two_left part bytes
exp_body_left part (tags.One one) bytes = part bytes
exp_body_left part tags.Call bytes = do
  rest ← part bytes
  rest ← behind (name_at rest)
  list_left part rest
exp_body_left part tags.Literal bytes = behind (literal_at bytes)
exp_body_left part (tags.Boolean value) bytes = Ok bytes
exp_body_left part tags.Variable bytes = behind (name_at bytes)
exp_body_left part tags.This bytes = Ok bytes
exp_body_left part tags.NewObject bytes = behind (name_at bytes)

abbrev pub exp_left_behind_tag : Skipper → List ℕ → Option ExpTag → Skipper
exp_left_behind_tag part bytes None rest = not_canonical bytes
exp_left_behind_tag part bytes (Some tag) rest = behind (four_at rest) >>= exp_body_left part tag

-- an expression of at most this many levels
unfoldable pub exp_left : ℕ → Skipper
exp_left zero bytes = byte_at bytes >>= λ tag. not_canonical bytes
exp_left (suc room) bytes =
    byte_at bytes >>= λ tag. exp_left_behind_tag (exp_left room) bytes (exp_tag_of tag.0) tag.1

-- what follows a tag and a mark
abbrev pub stmt_body_left : Skipper → Skipper → StmtTag → Skipper
stmt_body_left value part statements.Block bytes = list_left part bytes
stmt_body_left value part statements.If bytes = do
  rest ← value bytes
  rest ← part rest
  part rest
stmt_body_left value part statements.While bytes = value bytes >>= part
stmt_body_left value part statements.Print bytes = value bytes
stmt_body_left value part statements.Assign bytes = do
  rest ← behind (name_at bytes)
  rest ← behind (four_at rest)
  value rest
stmt_body_left value part statements.Store bytes = do
  rest ← behind (name_at bytes)
  rest ← behind (four_at rest)
  rest ← value rest
  value rest

abbrev pub stmt_left_behind_tag : Skipper → Skipper → List ℕ → Option StmtTag → Skipper
stmt_left_behind_tag value part bytes None rest = not_canonical bytes
stmt_left_behind_tag value part bytes (Some tag) rest =
    behind (four_at rest) >>= stmt_body_left value part tag

-- a statement of at most this many levels
unfoldable pub stmt_left : ℕ → Skipper
stmt_left zero bytes = byte_at bytes >>= λ tag. not_canonical bytes
stmt_left (suc room) bytes =
    byte_at bytes >>= λ tag. stmt_left_behind_tag (exp_left room) (stmt_left room) bytes
    (stmt_tag_of tag.0) tag.1

unfoldable pub method_left : Skipper
method_left bytes = do
  rest ← behind (name_at bytes)
  rest ← behind (ty_at rest)
  rest ← list_left variable_left rest
  rest ← list_left variable_left rest
  rest ← list_left (stmt_left most_levels) rest
  rest ← exp_left most_levels rest
  behind (four_at rest)
