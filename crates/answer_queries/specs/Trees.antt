-- The files of a project by their names and trees.
use Rattle.std.specs.Prelude.{List, [], ◌∷◌, ◌++◌, map, Option}
use Rattle.std.specs.Arc.{arc_value}
use Rattle.item_ids.specs.declared.key.Key.TheVariants as keys
use Rattle.mj_tree.specs.Trees.{Name, File}
use Rattle.result_bytes.specs.Parts.{tree_in}
use Rattle.recorder.specs.Programs.{Prog, Ask}
use Rattle.answer_queries.specs.declared.trees.ParsedFile.{ParsedFile}

-- a file's name, and its tree if it is a sentence
abbrev pub NamedTree : Type 0
NamedTree = Name × Option File

-- Tree of one more file
abbrev pub tree_step : Name → List NamedTree → (List NamedTree → Prog) → Prog
tree_step file files k = Ask (keys.Tree file) (λ v. k (files ++ (file, tree_in v) ∷ []))

-- what contracts see of files that were read
abbrev pub named_tree : ParsedFile → NamedTree
named_tree file = (file.name, tree_in (arc_value file.tree))

abbrev pub named_trees : List ParsedFile → List NamedTree
named_trees files = map named_tree files
