-- A tag has the byte that it was found by, and is found by its byte.
use Rattle.std.proofs.Common.{◌≡◌, ℕ, true, false, eqb, Some, refl}
use Rattle.std.proofs.lemmas.Bool.{eqb-true}
use Rattle.byte_readers.specs.Laws.{found_passes}
use Rattle.mj_tree.specs.declared.tree.Operator.TheVariants.{And, Less, Plus, Minus, Times}
use Rattle.tree_spelling.specs.declared.tag.ExpTag.{ExpTag}
use Rattle.tree_spelling.specs.declared.tag.ExpTag.TheVariants.{Two, One, Call, Literal, Boolean, Variable, This, NewObject}
use Rattle.tree_spelling.specs.declared.tag.TwoParts.TheVariants.{Binary, Index}
use Rattle.tree_spelling.specs.declared.tag.OnePart.TheVariants.{Length, NewArray, Not, Parenthesized}
use Rattle.tree_spelling.specs.declared.tag.StmtTag.{StmtTag}
use Rattle.tree_spelling.specs.declared.tag.StmtTag.TheVariants as statements
use Rattle.tree_spelling.specs.Tags.{exp_byte, exp_tags, exp_tag_of, stmt_byte, stmt_tags, stmt_tag_of}

pub exp_byte_is : (b : ℕ) (tag : ExpTag) → exp_tag_of b ≡ Some tag → exp_byte tag ≡ b
exp_byte_is b tag e =
    eqb-true _ _ (found_passes (λ (x : ExpTag). eqb (exp_byte x) b) exp_tags tag e)

pub stmt_byte_is : (b : ℕ) (tag : StmtTag) → stmt_tag_of b ≡ Some tag → stmt_byte tag ≡ b
stmt_byte_is b tag e =
    eqb-true _ _ (found_passes (λ (x : StmtTag). eqb (stmt_byte x) b) stmt_tags tag e)

pub exp_tag_back : (tag : ExpTag) → exp_tag_of (exp_byte tag) ≡ Some tag
exp_tag_back (Two (Binary And)) = refl
exp_tag_back (Two (Binary Less)) = refl
exp_tag_back (Two (Binary Plus)) = refl
exp_tag_back (Two (Binary Minus)) = refl
exp_tag_back (Two (Binary Times)) = refl
exp_tag_back (Two Index) = refl
exp_tag_back (One Length) = refl
exp_tag_back (One NewArray) = refl
exp_tag_back (One Not) = refl
exp_tag_back (One Parenthesized) = refl
exp_tag_back Call = refl
exp_tag_back Literal = refl
exp_tag_back (Boolean true) = refl
exp_tag_back (Boolean false) = refl
exp_tag_back Variable = refl
exp_tag_back This = refl
exp_tag_back NewObject = refl

pub stmt_tag_back : (tag : StmtTag) → stmt_tag_of (stmt_byte tag) ≡ Some tag
stmt_tag_back statements.Block = refl
stmt_tag_back statements.If = refl
stmt_tag_back statements.While = refl
stmt_tag_back statements.Print = refl
stmt_tag_back statements.Assign = refl
stmt_tag_back statements.Store = refl
