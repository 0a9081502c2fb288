-- What the keys of a project name: trees, classes, methods and bodies.
use Rattle.std.specs.Prelude.{List, [], map, Option, Some, None, option_map, option_and_then, is_some, slice_get, if◌then◌else◌}
use Rattle.std.specs.Str.{bytes_eq}
use Rattle.mj_tree.specs.Trees.{Name, Statement, File}
use Rattle.mj_answer.specs.declared.diagnostic.Diagnostic.{Diagnostic}
use Rattle.mj_members.specs.Declarations.{ClassDecl}
use Rattle.mj_classes.specs.Declarations.{decl}
use Rattle.mj_classes.specs.Chains.{EndOf, Chain}
use Rattle.mj_classes.specs.Chains as chains
use Rattle.mj_classes.specs.Members.{own_method}
use Rattle.mj_phrases.specs.declared.verdict.Mistake.{Mistake}
use Rattle.mj_phrases.specs.Inquiries.{World}
use Rattle.mj_typing.specs.Bodies.{method_faults, main_faults}
use Rattle.named_files.specs.Projects.{SourceFile}
use Rattle.mj_rules.specs.Sentences.{file_of, classes_in}
use Rattle.mj_rules.specs.ClassFaults.{main_word}
use Rattle.mj_rules.specs.FaultLists.{method_names}
use Rattle.mj_rules.specs.Answering.{set_of, fault_order, first_classes}
use Rattle.tree_bytes.specs.Bodies.{BodyValue, OfMain, OfMethod}
use Rattle.result_bytes.specs.declared.files.IndexRow.{IndexRow}
use Rattle.result_bytes.specs.declared.parts.ChainEnd.{ChainEnd}
use Rattle.result_bytes.specs.declared.parts.ChainEnd.TheVariants as ends
use Rattle.result_bytes.specs.Payloads.{HeaderValue, SignatureValue, ChainValue}
use Rattle.recorder.specs.Projects.{Project, bytes_at}

-- the tree of the file of this name, if there is one and it is a sentence
abbrev pub tree_at : Project → Name → Option File
tree_at p file = option_and_then file_of (bytes_at p file)

-- the first class of this name
abbrev pub class_at : Project → Name → Option ClassDecl
class_at p c = decl (classes_in p) c

abbrev pub name_of : Option SourceFile → Name
name_of None = []
name_of (Some f) = f.name

-- the name of the file that declares a class
abbrev pub file_of_class : Project → ClassDecl → Name
file_of_class p k = name_of (slice_get p k.file)

-- ---- classes

abbrev pub index_row : Project → ClassDecl → IndexRow
index_row p k = record { class = k.name; file = file_of_class p k }

-- the first class of each name with its file, in the order of the names
abbrev pub index_of : Project → List IndexRow
index_of p = map (index_row p) (first_classes (classes_in p))

abbrev pub header_of : ClassDecl → HeaderValue
header_of k =
    record {
      is_main = is_some k.main;
      superclass = k.superclass;
      fields = k.fields;
      methods = method_names k;
    }

abbrev pub end_value : EndOf → ChainEnd
end_value chains.Top = ends.Top
end_value (chains.Undeclared u) = ends.Undeclared u
end_value (chains.Repeated u) = ends.Repeated u

abbrev pub chain_value : Chain → ChainValue
chain_value chain = record { classes = chain.0; end = end_value chain.1 }

-- ---- methods

abbrev pub body_by : Option Statement → Name → ClassDecl → Option BodyValue
body_by (Some statement) m k = if bytes_eq m main_word then Some (OfMain statement) else None
body_by None m k = option_map OfMethod (own_method m k)

-- the first method of this name in a class; of a main class, for `main`, its statement
abbrev pub own_body : Name → ClassDecl → Option BodyValue
own_body m k = body_by k.main m k

abbrev pub body_at : Project → Name → Name → Option BodyValue
body_at p c m = option_and_then (own_body m) (class_at p c)

-- the types of a method; the statement of main has none
abbrev pub signature_of : BodyValue → Option SignatureValue
signature_of (OfMain statement) = None
signature_of (OfMethod m) =
    Some (record { formals = map (λ v. v.ty) m.formals; returns = m.returns })

-- the mistakes in a body of a class
abbrev pub mistakes_in : World → Name → Option BodyValue → List Mistake
mistakes_in w c None = []
mistakes_in w c (Some (OfMain statement)) =
    main_faults w (record { name = c; statement = statement })
mistakes_in w c (Some (OfMethod m)) = method_faults w c m

-- ---- diagnostics

-- diagnostics, each once, in ascending order
unfoldable pub fault_set : List Diagnostic → List Diagnostic
fault_set faults = set_of fault_order faults

-- these diagnostics of a class, if it is declared
abbrev pub faults_of : (ClassDecl → List Diagnostic) → Option ClassDecl → List Diagnostic
faults_of faults None = []
faults_of faults (Some k) = fault_set (faults k)
