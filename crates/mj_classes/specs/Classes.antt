-- What contracts see of the files and chains that the code has.
use Rattle.std.specs.Prelude.{List, map, Option, option_map}
use Rattle.mj_tree.specs.Trees.{File}
use Rattle.mj_tree.specs.declared.tree.FileTree.{FileTree}
use Rattle.mj_tree.specs.Views.{file_view}
use Rattle.mj_classes.specs.Chains.{EndOf}
use Rattle.mj_classes.specs.Chains as chains
use Rattle.mj_classes.specs.declared.chain.End.{End}
use Rattle.mj_classes.specs.declared.chain.End.TheVariants.{Top, Undeclared, Repeated}

abbrev pub files_view : List (Option FileTree) → List (Option File)
files_view fs = map (λ f. option_map file_view f) fs

abbrev pub end_view : End → EndOf
end_view Top = chains.Top
end_view (Undeclared u) = chains.Undeclared u.now
end_view (Repeated u) = chains.Repeated u.now
