-- The tree of the file that declares a class.
use Rattle.std.specs.Prelude.{Option, Some, None}
use Rattle.item_ids.specs.declared.key.Key.TheVariants as keys
use Rattle.mj_tree.specs.Trees.{Name, File}
use Rattle.mj_members.specs.Declarations.{ClassDecl}
use Rattle.mj_classes.specs.Declarations.{classes_of, decl}
use Rattle.recorder.specs.Programs.{Prog, Ask}
use Rattle.result_bytes.specs.Parts.{index_in, tree_in}
use Rattle.text_queries.specs.Index.{first_file}

-- Tree of the file, if there is one
abbrev pub file_step : Option Name → (Option File → Prog) → Prog
file_step None k = k None
file_step (Some f) k = Ask (keys.Tree f) (λ v. k (tree_in v))

-- Index, then Tree of the file that it has for the class
abbrev pub class_tree_step : Name → (Option File → Prog) → Prog
class_tree_step c k = Ask keys.Index (λ v. file_step (first_file (index_in v) c) k)

-- the first class of a name in a tree, as if its file were the only one
abbrev pub class_named : Name → File → Option ClassDecl
class_named c tree = decl (classes_of 0 tree) c
