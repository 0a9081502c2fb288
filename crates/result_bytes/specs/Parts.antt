-- What a result of some kind has, and nothing if the result is of another kind.
use Rattle.std.specs.Prelude.{ℕ, List, [], Option, None}
use Rattle.mj_tree.specs.Trees.{Name}
use Rattle.mj_tree.specs.Trees as trees
use Rattle.mj_answer.specs.declared.diagnostic.Diagnostic.{Diagnostic}
use Rattle.mj_answer.specs.AnswerValues.{ClassTableValue}
use Rattle.tree_bytes.specs.Bodies.{BodyValue}
use Rattle.result_bytes.specs.Payloads.{HeaderValue, SignatureValue, ChainValue}
use Rattle.result_bytes.specs.declared.files.IndexRow.{IndexRow}
use Rattle.result_bytes.specs.declared.value.Value.{Value}
use Rattle.result_bytes.specs.declared.value.Value.TheVariants.{Files, Source, Tree, Index, Header, Method, Sig, Supers, Members, CheckClass, CheckBody, Diags}

-- the names of the files
abbrev pub files_in : Value → List Name
files_in (Files names) = names
files_in _ = []

-- the bytes of a file
abbrev pub source_in : Value → Option (List ℕ)
source_in (Source bytes) = bytes
source_in _ = None

-- the tree of a file
abbrev pub tree_in : Value → Option trees.File
tree_in (Tree tree) = tree
tree_in _ = None

-- each class with its file
abbrev pub index_in : Value → List IndexRow
index_in (Index rows) = rows
index_in _ = []

-- a class without its bodies
abbrev pub header_in : Value → Option HeaderValue
header_in (Header h) = h
header_in _ = None

-- a method, or the statement of main
abbrev pub body_in : Value → Option BodyValue
body_in (Method b) = b
body_in _ = None

-- the types of a method
abbrev pub signature_in : Value → Option SignatureValue
signature_in (Sig s) = s
signature_in _ = None

-- the chain of a class
abbrev pub supers_in : Value → Option ChainValue
supers_in (Supers chain) = chain
supers_in _ = None

-- the fields and methods of a class
abbrev pub members_in : Value → Option ClassTableValue
members_in (Members table) = table
members_in _ = None

-- the diagnostics, of the three kinds that are lists of them
abbrev pub faults_in : Value → List Diagnostic
faults_in (CheckClass faults) = faults
faults_in (CheckBody faults) = faults
faults_in (Diags faults) = faults
faults_in _ = []
