-- The same diagnostics as lists, in the order in which a checker comes upon them.
use Rattle.std.specs.Prelude.{ℕ, ◌+◌, Bool, true, false, ◌&&◌, ◌||◌, not, is_some, is_none, List, [], ◌∷◌, ◌++◌, map, drop, Option, Some, None, option_map, Contains, slice_get, if◌then◌else◌}
use Rattle.std.specs.Str.{bytes_eq}
use Rattle.std.specs.List.{list_any}
use Rattle.mj_tree.specs.Trees.{Name, Statement, Method, File}
use Rattle.mj_tree.specs.declared.tree.Ty.{Ty}
use Rattle.mj_tree.specs.declared.tree.Ty.TheVariants as types
use Rattle.mj_tree.specs.declared.tree.Field.{Field}
use Rattle.mj_tree.specs.declared.tree.Variable.{Variable}
use Rattle.mj_tree.specs.declared.place.Place.{Place}
use Rattle.mj_tree.specs.declared.place.Place.TheVariants as places
use Rattle.mj_answer.specs.declared.code.Code.{Code}
use Rattle.mj_answer.specs.declared.code.Code.TheVariants.{E101, E102, E103, E104, E201, E202, E203, E204, E205, E206}
use Rattle.mj_answer.specs.declared.diagnostic.Diagnostic.{Diagnostic}
use Rattle.mj_members.specs.Declarations.{ClassDecl}
use Rattle.mj_classes.specs.Declarations.{decl}
use Rattle.mj_classes.specs.Chains.{EndOf, Top, Undeclared, Repeated, Chain, chain_of, ancestry}
use Rattle.mj_classes.specs.Members.{nearest, own_method}
use Rattle.mj_phrases.specs.declared.verdict.Mistake.{Mistake}
use Rattle.mj_phrases.specs.Inquiries.{Sig, conclusion}
use Rattle.mj_phrases.specs.Table.{is_accepted}
use Rattle.mj_typing.specs.Bodies.{NamesFit, method_faults, main_faults}
use Rattle.named_files.specs.Projects.{SourceFile}
use Rattle.named_files.specs.Repeats.{repeats}
use Rattle.profiles.specs.declared.profile.Profile.{Profile}
use Rattle.profiles.specs.declared.profile.Profile.TheVariants.{One, Two}
use Rattle.mj_rules.specs.Sentences.{file_of, classes_in}
use Rattle.mj_rules.specs.Worlds.{sig_of, world_of}
use Rattle.mj_rules.specs.ClassFaults.{main_word, main_of}

abbrev pub fault : Place → Code → Diagnostic
fault place code = record { place = place; code = code }

-- a diagnostic if the test holds
abbrev pub when_fault : Bool → Place → Code → List Diagnostic
when_fault b place code = if b then fault place code ∷ [] else []

-- what is wrong with each of a numbered list; the flag of one says that its name stands before it
abbrev pub each_numbered : {A : Type 0} → (ℕ → Bool → A → List Diagnostic) → ℕ → List A → List Bool
    → List Diagnostic
each_numbered faults n [] flags = []
each_numbered faults n (x ∷ xs) [] = []
each_numbered faults n (x ∷ xs) (flag ∷ flags) =
    faults n flag x ++ each_numbered faults (n + 1) xs flags

-- ---- the project

abbrev pub has_main : Option File → Bool
has_main None = false
has_main (Some tree) = is_some tree.main

-- what is wrong with a file, by whether an earlier one has a main class
abbrev pub file_faults : Bool → Name → Option File → List Diagnostic
file_faults main_before name None = fault (places.File name) E101 ∷ []
file_faults main_before name (Some tree) =
    when_fault (main_before && is_some tree.main) (places.File name) E103

abbrev pub files_faults : Bool → List SourceFile → List Diagnostic
files_faults main_before [] = []
files_faults main_before (f ∷ fs) =
    file_faults main_before f.name (file_of f.bytes)
    ++ files_faults (main_before || has_main (file_of f.bytes)) fs

-- one of the files has a main class
abbrev pub any_main : List SourceFile → Bool
any_main files = list_any (λ f. has_main (file_of f.bytes)) files

abbrev pub repeated_class : Option SourceFile → ℕ → List Diagnostic
repeated_class None number = []
repeated_class (Some f) number = fault (places.ClassOf f.name number) E104 ∷ []

abbrev pub repeated_class_faults : List SourceFile → ℕ → Bool → ClassDecl → List Diagnostic
repeated_class_faults files n repeated d =
    if repeated then repeated_class (slice_get files d.file) d.number else []

abbrev pub class_names : List ClassDecl → List Name
class_names cs = map (λ k. k.name) cs

unfoldable pub project_faults : List SourceFile → List Diagnostic
project_faults files =
    files_faults false files
    ++ (each_numbered (repeated_class_faults files) 0 (classes_in files)
    (repeats (class_names (classes_in files)))
    ++ when_fault (not (any_main files)) places.Project E102)

-- ---- a class

abbrev pub superclass_faults : List ClassDecl → Option Name → List Diagnostic
superclass_faults cs None = []
superclass_faults cs (Some u) = when_fault (is_none (decl cs u)) places.Class E201

abbrev pub is_cycle : EndOf → Bool
is_cycle Top = false
is_cycle (Undeclared u) = false
is_cycle (Repeated u) = true

abbrev pub chain_faults : Option Chain → List Diagnostic
chain_faults None = []
chain_faults (Some chain) = when_fault (is_cycle chain.1) places.Class E202

abbrev pub is_undeclared : List ClassDecl → Ty → Bool
is_undeclared cs (types.Class u) = is_none (decl cs u)
is_undeclared cs types.Int = false
is_undeclared cs types.Boolean = false
is_undeclared cs types.IntArray = false

abbrev pub field_faults : List ClassDecl → ℕ → Bool → Field → List Diagnostic
field_faults cs n repeated f =
    when_fault repeated (places.Field n) E203
    ++ when_fault (is_undeclared cs f.ty) (places.Field n) E206

abbrev pub same_type : Ty → Ty → Bool
same_type types.Int types.Int = true
same_type types.Boolean types.Boolean = true
same_type types.IntArray types.IntArray = true
same_type (types.Class c) (types.Class d) = bytes_eq c d
same_type t u = false

abbrev pub same_types : List Variable → List Ty → Bool
same_types [] [] = true
same_types [] (t ∷ ts) = false
same_types (v ∷ vs) [] = false
same_types (v ∷ vs) (t ∷ ts) = same_type v.ty t && same_types vs ts

-- the same parameter types and the same return type
abbrev pub same_signature : Method → Sig → Bool
same_signature m sig = same_type m.returns sig.returns && same_types m.formals sig.formals

-- a type is accepted by another
abbrev pub accepts : List ClassDecl → Ty → Ty → Bool
accepts cs t u = conclusion (world_of cs) (is_accepted t u)

-- the method may override one with these types
abbrev pub may_override : Profile → List ClassDecl → Method → Sig → Bool
may_override One cs m sig = same_signature m sig
may_override Two cs m sig = same_types m.formals sig.formals && accepts cs m.returns sig.returns

abbrev pub override_faults : Profile → List ClassDecl → ℕ → Method → Option Sig → List Diagnostic
override_faults profile cs n m None = []
override_faults profile cs n m (Some sig) =
    when_fault (not (may_override profile cs m sig)) (places.Method n) E205

-- the chain of a class behind the class itself
abbrev pub rest_of : List ClassDecl → Name → List ClassDecl
rest_of cs c = drop 1 (ancestry cs c)

-- the nearest method of a name in these classes
abbrev pub nearest_sig : List ClassDecl → Name → Option Sig
nearest_sig ks m = option_map (λ found. sig_of found.1) (nearest (own_method m) ks)

-- what is wrong with a method, if these are the methods of the rest of the chain by their names
abbrev pub method_faults_of : Profile → List ClassDecl → (Name → Option Sig) → ℕ → Bool → Method
    → List Diagnostic
method_faults_of profile cs overridden n repeated m =
    if repeated then fault (places.Method n) E204 ∷ []
    else override_faults profile cs n m (overridden m.name)

abbrev pub field_names : ClassDecl → List Name
field_names k = map (λ f. f.name) k.fields

abbrev pub method_names : ClassDecl → List Name
method_names k = map (λ m. m.name) k.methods

unfoldable pub declaration_faults : Profile → List ClassDecl → ClassDecl → List Diagnostic
declaration_faults profile cs k =
    superclass_faults cs k.superclass
    ++ (chain_faults (chain_of cs k.name)
    ++ (each_numbered (field_faults cs) 0 k.fields (repeats (field_names k))
    ++ each_numbered (method_faults_of profile cs (nearest_sig (rest_of cs k.name))) 0 k.methods
    (repeats (method_names k))))

-- ---- bodies

-- the numbers of the names' tokens have 64 bits in each method of the classes
abbrev pub NamesFitIn : List ClassDecl → Type 0
NamesFitIn cs = (k : ClassDecl) → Contains cs k → (m : Method) → Contains k.methods m → NamesFit m

-- mistakes in the body of a method
abbrev pub inside : Name → List Mistake → List Diagnostic
inside m mistakes = map (λ x. fault (places.Inside m x.mark) x.code) mistakes

abbrev pub body_faults_of : List ClassDecl → Name → ℕ → Bool → Method → List Diagnostic
body_faults_of cs c n repeated m =
    if repeated then [] else inside m.name (method_faults (world_of cs) c m)

abbrev pub main_method_faults : List ClassDecl → ClassDecl → Option Statement → List Diagnostic
main_method_faults cs k None = []
main_method_faults cs k (Some statement) =
    inside main_word (main_faults (world_of cs) (main_of k statement))

unfoldable pub body_faults : List ClassDecl → ClassDecl → List Diagnostic
body_faults cs k =
    each_numbered (body_faults_of cs k.name) 0 k.methods (repeats (method_names k))
    ++ main_method_faults cs k k.main

abbrev pub class_faults : Profile → List ClassDecl → ClassDecl → List Diagnostic
class_faults profile cs k = declaration_faults profile cs k ++ body_faults cs k
