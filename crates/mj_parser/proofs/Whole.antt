-- The answer of the parser.
use Rattle.std.proofs.Common.{◌≡◌, List, Result, Ok, Err, refl, sym, ◌∙◌}
use Rattle.std.specs.Prelude.{IfOk, MatchResult}
use Rattle.mj_lexer.specs.declared.token.Token.{Token}
use Rattle.mj_expressions.specs.declared.fault.ParseFault.{ParseFault}
use Rattle.mj_expressions.specs.declared.fault.ParseFault.TheVariants.{NotAFile, TooDeep, OutOfMemory}
use Rattle.mj_tree.specs.declared.tree.FileTree.{FileTree}
use Rattle.mj_tree.specs.Trees.{File}
use Rattle.mj_tree.specs.Views.{file_view}
use Rattle.mj_parser.specs.Declarations.{Derives}
use Rattle.mj_expressions.specs.Steps.{Finds}
use Rattle.mj_parser.specs.FileReading.{tree_of}
use Rattle.mj_expressions.proofs.Binds.{some_is}
use Rattle.mj_parser.proofs.FileFound.{file_found}
use Rattle.mj_parser.proofs.FileAgain.{file_again}

pub found_of : (ts : List Token) (r : Result FileTree ParseFault) → Finds file_view r (tree_of ts) → IfOk r (λ t. Derives ts (file_view t))
found_of ts (Ok t) g = file_found ts (file_view t) g
found_of ts (Err e) g = tt

pub only_of : (ts : List Token) (r : Result FileTree ParseFault) → Finds file_view r (tree_of ts) → (f : File) → Derives ts f → MatchResult r (λ t. file_view t ≡ f) (λ e. e ≡ OutOfMemory)
only_of ts (Ok t) g f d = some_is _ _ (sym g ∙ file_again ts f d)
only_of ts (Err OutOfMemory) g f d = refl
only_of ts (Err (NotAFile k)) g f d = absurd (let e = sym g ∙ file_again ts f d in cc)
only_of ts (Err TooDeep) g f d = absurd (let e = sym g ∙ file_again ts f d in cc)
