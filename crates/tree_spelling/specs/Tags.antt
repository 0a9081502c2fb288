-- The tags of phrases, one byte each.
use Rattle.std.specs.Prelude.{ℕ, Bool, true, false, List, [], ◌∷◌, Option, find, ◌==◌}
use Rattle.mj_tree.specs.declared.tree.Operator.{Operator}
use Rattle.mj_tree.specs.declared.tree.Operator.TheVariants.{And, Less, Plus, Minus, Times}
use Rattle.tree_spelling.specs.declared.tag.ExpTag.{ExpTag}
use Rattle.tree_spelling.specs.declared.tag.ExpTag.TheVariants.{Two, One, Call, Literal, Boolean, Variable, This, NewObject}
use Rattle.tree_spelling.specs.declared.tag.TwoParts.{TwoParts}
use Rattle.tree_spelling.specs.declared.tag.TwoParts.TheVariants.{Binary, Index}
use Rattle.tree_spelling.specs.declared.tag.OnePart.{OnePart}
use Rattle.tree_spelling.specs.declared.tag.OnePart.TheVariants.{Length, NewArray, Not, Parenthesized}
use Rattle.tree_spelling.specs.declared.tag.StmtTag.{StmtTag}
use Rattle.tree_spelling.specs.declared.tag.StmtTag.TheVariants as statements

abbrev pub operator_byte : Operator → ℕ
operator_byte And = 0x00
operator_byte Less = 0x01
operator_byte Plus = 0x02
operator_byte Minus = 0x03
operator_byte Times = 0x04

abbrev pub boolean_byte : Bool → ℕ
boolean_byte true = 0x09
boolean_byte false = 0x0a

abbrev pub two_byte : TwoParts → ℕ
two_byte (Binary operator) = operator_byte operator
two_byte Index = 0x05

abbrev pub one_byte : OnePart → ℕ
one_byte Length = 0x06
one_byte NewArray = 0x0d
one_byte Not = 0x0f
one_byte Parenthesized = 0x10

abbrev pub exp_byte : ExpTag → ℕ
exp_byte (Two two) = two_byte two
exp_byte (One one) = one_byte one
exp_byte Call = 0x07
exp_byte Literal = 0x08
exp_byte (Boolean value) = boolean_byte value
exp_byte Variable = 0x0b
exp_byte This = 0x0c
exp_byte NewObject = 0x0e

abbrev pub exp_tags : List ExpTag
exp_tags =
    Two (Binary And) ∷ Two (Binary Less) ∷ Two (Binary Plus) ∷ Two (Binary Minus)
    ∷ Two (Binary Times) ∷ Two Index ∷ One Length ∷ Call ∷ Literal
    ∷ Boolean true ∷ Boolean false ∷ Variable ∷ This ∷ One NewArray ∷ NewObject ∷ One Not
    ∷ One Parenthesized ∷ []

-- the tag that has the byte
abbrev pub exp_tag_of : ℕ → Option ExpTag
exp_tag_of byte = find (λ tag. exp_byte tag == byte) exp_tags

abbrev pub stmt_byte : StmtTag → ℕ
stmt_byte statements.Block = 0x00
stmt_byte statements.If = 0x01
stmt_byte statements.While = 0x02
stmt_byte statements.Print = 0x03
stmt_byte statements.Assign = 0x04
stmt_byte statements.Store = 0x05

abbrev pub stmt_tags : List StmtTag
stmt_tags =
    statements.Block ∷ statements.If ∷ statements.While ∷ statements.Print ∷ statements.Assign
    ∷ statements.Store ∷ []

-- the tag that has the byte
abbrev pub stmt_tag_of : ℕ → Option StmtTag
stmt_tag_of byte = find (λ tag. stmt_byte tag == byte) stmt_tags
