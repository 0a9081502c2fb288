-- What the rules give each query of a project.
use Rattle.std.specs.Prelude.{◌≡◌, ◌↔◌, ℕ, ◌<◌, List, map, Option, Some, None, Contains, slice_get, is_some}
use Rattle.mj_tree.specs.Trees.{Name, Statement, Method, File}
use Rattle.mj_tree.specs.declared.place.Place.{Place}
use Rattle.mj_tree.specs.declared.place.Place.TheVariants.{Inside}
use Rattle.mj_answer.specs.declared.code.Code.{Code}
use Rattle.mj_answer.specs.AnswerValues.{ClassTableValue}
use Rattle.ordered_names.specs.Order.{IsAscendingByName}
use Rattle.mj_members.specs.Declarations.{ClassDecl}
use Rattle.mj_classes.specs.Declarations.{classes_of, decl}
use Rattle.mj_classes.specs.Chains.{EndOf, IsChain}
use Rattle.named_files.specs.Projects.{SourceFile}
use Rattle.profiles.specs.declared.profile.Profile.{Profile}
use Rattle.mj_rules.specs.Sentences.{IsSentence, classes_in}
use Rattle.mj_rules.specs.ClassFaults.{FaultOfClass, main_word}
use Rattle.mj_rules.specs.Rules.{IsTableOf}
use Rattle.rule_laws.specs.Typing.{IsMethodIn, IsMainIn}
use Rattle.tree_bytes.specs.Bodies.{BodyValue}
use Rattle.tree_bytes.specs.Bodies as bodies
use Rattle.result_bytes.specs.declared.files.IndexRow.{IndexRow}
use Rattle.result_bytes.specs.Payloads.{HeaderValue, SignatureValue, ChainValue}
use Rattle.recorder.specs.Projects.{Project, bytes_at}
use Rattle.query_rules.specs.Items.{end_value}

-- what is given, or None if nothing is
abbrev pub IsGivenOrNone : {X : Type 0} → (X → Type 0) → Option X → Type 0
IsGivenOrNone {X} Is None = (x : X) → Is x → ⊥
IsGivenOrNone Is (Some x) = Is x

-- ---- files and classes

-- the tree of the file of this name, whose bytes are a sentence
abbrev pub IsTreeAt : Project → Name → File → Type 0
IsTreeAt p file tree = (bytes : List ℕ) × (bytes_at p file ≡ Some bytes) × IsSentence bytes tree

-- The first class of the name in a file that is a sentence, if no earlier file that is one
-- declares the name.
pub record IsDeclaration (p : Project) (c : Name) (k : ClassDecl) : Type 0 where
  pub source : SourceFile
  pub here : slice_get p k.file ≡ Some source
  pub tree : File
  pub sentence : IsSentence source.bytes tree
  pub first : decl (classes_of k.file tree) c ≡ Some k
  pub none_before : (i : ℕ) (earlier : SourceFile) (t : File) → i < k.file
      → slice_get p i ≡ Some earlier → IsSentence earlier.bytes t → decl (classes_of i t) c ≡ None

-- the declaration of the class that counts
abbrev pub IsFirstDeclaration : Project → Name → ClassDecl → Type 0
IsFirstDeclaration p c k = decl (classes_in p) c ≡ Some k

-- a class, and the file of its declaration
pub record IsIndexed (p : Project) (row : IndexRow) : Type 0 where
  pub declaration : ClassDecl
  pub counts : IsFirstDeclaration p row.class declaration
  pub source : SourceFile
  pub here : slice_get p declaration.file ≡ Some source
  pub file : row.file ≡ source.name

-- each class with its file, ascending by name
pub record IsProjectIndex (p : Project) (rows : List IndexRow) : Type 0 where
  pub ascending : IsAscendingByName (λ row. row.class) rows
  pub exactly : (row : IndexRow) → Contains rows row ↔ IsIndexed p row

-- main or not, the superclass, all fields, the names of all methods
pub record IsHeaderOf (p : Project) (c : Name) (header : HeaderValue) : Type 0 where
  pub declaration : ClassDecl
  pub counts : IsFirstDeclaration p c declaration
  pub is_main : header.is_main ≡ is_some declaration.main
  pub superclass : header.superclass ≡ declaration.superclass
  pub fields : header.fields ≡ declaration.fields
  pub methods : header.methods ≡ map (λ m. m.name) declaration.methods

-- the chain of a class, and how it ends
pub record IsClassChain (p : Project) (c : Name) (chain : ChainValue) : Type 0 where
  pub end : EndOf
  pub is_chain : IsChain (classes_in p) c chain.classes end
  pub ends : chain.end ≡ end_value end

-- all members that a class has
pub record AreMembersOf (p : Project) (c : Name) (table : ClassTableValue) : Type 0 where
  pub declaration : ClassDecl
  pub counts : IsFirstDeclaration p c declaration
  pub is_table : IsTableOf (classes_in p) c table

-- ---- methods

-- the first method of this name in a class, or the statement of main
pub data IsBodyOf (p : Project) (c m : Name) : BodyValue → Type 0 where
  OfMethod : (method : Method) → IsMethodIn p c method → method.name ≡ m
      → IsBodyOf p c m (bodies.OfMethod method)
  OfMain : (statement : Statement) → IsMainIn p c statement → main_word ≡ m
      → IsBodyOf p c m (bodies.OfMain statement)

-- the types of the first method of this name in a class
pub record IsSignatureOf (p : Project) (c m : Name) (signature : SignatureValue) : Type 0 where
  pub method : Method
  pub first : IsMethodIn p c method
  pub named : method.name ≡ m
  pub formals : signature.formals ≡ map (λ v. v.ty) method.formals
  pub returns : signature.returns ≡ method.returns

-- ---- diagnostics

-- a diagnostic of a class
pub record IsFaultOf (profile : Profile) (p : Project) (c : Name) (place : Place)
    (code : Code) : Type 0 where
  pub declaration : ClassDecl
  pub counts : IsFirstDeclaration p c declaration
  pub is_fault : FaultOfClass profile (classes_in p) declaration place code

-- the place is in the method
abbrev pub IsInside : Name → Place → Type 0
IsInside m place = (mark : ℕ) × (place ≡ Inside m mark)

-- a diagnostic of a class in this method, and one in none
abbrev pub IsFaultInside : Profile → Project → Name → Name → Place → Code → Type 0
IsFaultInside profile p c m place code = IsFaultOf profile p c place code × IsInside m place

abbrev pub IsFaultOutside : Profile → Project → Name → Place → Code → Type 0
IsFaultOutside profile p c place code =
    IsFaultOf profile p c place code × ((m : Name) → IsInside m place → ⊥)
