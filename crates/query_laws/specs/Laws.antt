-- What each query means in a profile, and in which order it reads.
use Rattle.std.specs.Prelude.{◌≡◌, ◌≢◌, ◌↔◌, ℕ, ◌<◌, List, [], ◌∷◌, Option, Some, Contains, slice_get}
use Rattle.item_ids.specs.declared.key.Key.{Key}
use Rattle.item_ids.specs.declared.key.Key.TheVariants as keys
use Rattle.item_ids.specs.KeyLists.{NoneTwice}
use Rattle.mj_tree.specs.Trees.{Name, File}
use Rattle.mj_answer.specs.declared.diagnostic.Diagnostic.{Diagnostic}
use Rattle.mj_answer.specs.AnswerValues.{ClassTableValue, AnswerValue}
use Rattle.mj_members.specs.Declarations.{ClassDecl}
use Rattle.mj_classes.specs.Declarations.{decl}
use Rattle.profiles.specs.declared.profile.Profile.{Profile}
use Rattle.mj_rules.specs.Sentences.{classes_in}
use Rattle.mj_rules.specs.Rules.{AreTheFaults, Rules}
use Rattle.mj_phrases.specs.declared.verdict.Mistake.{Mistake}
use Rattle.rule_laws.specs.Typing.{IsFaultIn}
use Rattle.rule_laws.specs.ProjectLaws.{fault_inside}
use Rattle.tree_bytes.specs.Bodies.{BodyValue}
use Rattle.result_bytes.specs.declared.value.Value.{Value}
use Rattle.result_bytes.specs.declared.value.Value.TheVariants as values
use Rattle.result_bytes.specs.declared.files.IndexRow.{IndexRow}
use Rattle.result_bytes.specs.Payloads.{HeaderValue, SignatureValue, ChainValue}
use Rattle.recorder.specs.Projects.{Project}
use Rattle.recorder.specs.Programs.{Prog, Ret, Ask, asks}
use Rattle.query_rules.specs.Meaning.{mean}
use Rattle.query_rules.specs.Reads.{asked_keys, reads}
use Rattle.query_laws.specs.Given.{IsGivenOrNone, IsTreeAt, IsDeclaration, IsProjectIndex, IsHeaderOf, IsClassChain, AreMembersOf, IsBodyOf, IsSignatureOf, IsFaultOf, IsFaultInside, IsFaultOutside}

-- the class that counts is the first that is declared
abbrev pub DeclarationLaw : Type 0
DeclarationLaw =
    (p : Project) (c : Name) (o : Option ClassDecl)
    → (decl (classes_in p) c ≡ o) ↔ IsGivenOrNone (IsDeclaration p c) o

-- a query above the inputs means just what the rules of the profile give
pub record MeanLaws (profile : Profile) (p : Project) : Type 0 where
  pub tree : (f : Name) (o : Option File)
      → (mean profile p (keys.Tree f) ≡ values.Tree o) ↔ IsGivenOrNone (IsTreeAt p f) o
  pub index : (rows : List IndexRow)
      → (mean profile p keys.Index ≡ values.Index rows) ↔ IsProjectIndex p rows
  pub header : (c : Name) (o : Option HeaderValue)
      → (mean profile p (keys.Header c) ≡ values.Header o) ↔ IsGivenOrNone (IsHeaderOf p c) o
  pub method : (c m : Name) (o : Option BodyValue)
      → (mean profile p (keys.Method c m) ≡ values.Method o) ↔ IsGivenOrNone (IsBodyOf p c m) o
  pub sig : (c m : Name) (o : Option SignatureValue)
      → (mean profile p (keys.Sig c m) ≡ values.Sig o) ↔ IsGivenOrNone (IsSignatureOf p c m) o
  pub supers : (c : Name) (o : Option ChainValue)
      → (mean profile p (keys.Supers c) ≡ values.Supers o) ↔ IsGivenOrNone (IsClassChain p c) o
  pub members : (c : Name) (o : Option ClassTableValue)
      → (mean profile p (keys.Members c) ≡ values.Members o) ↔ IsGivenOrNone (AreMembersOf p c) o
  pub check_class : (c : Name) (faults : List Diagnostic)
      → (mean profile p (keys.CheckClass c) ≡ values.CheckClass faults)
      ↔ AreTheFaults (IsFaultOutside profile p c) faults
  pub check_body : (c m : Name) (faults : List Diagnostic)
      → (mean profile p (keys.CheckBody c m) ≡ values.CheckBody faults)
      ↔ AreTheFaults (IsFaultInside profile p c m) faults
  pub diags : (c : Name) (faults : List Diagnostic)
      → (mean profile p (keys.Diags c) ≡ values.Diags faults)
      ↔ AreTheFaults (IsFaultOf profile p c) faults
  pub answer : (answer : AnswerValue)
      → (mean profile p keys.Answer ≡ values.Answer answer) ↔ Rules profile p answer

-- the check of a body finds just the diagnostics of its formals, its locals and its return type,
-- and those that the demands of its phrases give
abbrev pub DemandLaw : Type 0
DemandLaw =
    (profile : Profile) (p : Project) (c m : Name) (faults : List Diagnostic)
    → mean profile p (keys.CheckBody c m) ≡ values.CheckBody faults → (x : Mistake)
    → Contains faults (fault_inside m x) ↔ IsFaultIn p c m x

-- the key stands at this place, and at none before it
pub record StandsFirst (ks : List Key) (i : ℕ) (k : Key) : Type 0 where
  pub here : slice_get ks i ≡ Some k
  pub first : (j : ℕ) → j < i → slice_get ks j ≢ Some k

-- the keys that were asked, each once, in the order in which they were asked first
pub record AreFirsts (asked firsts : List Key) : Type 0 where
  pub same : (k : Key) → Contains asked k ↔ Contains firsts k
  pub once : NoneTwice (λ k. k) firsts
  pub order : (a b : Key) (i j m n : ℕ) → i < j
      → slice_get firsts i ≡ Some a → slice_get firsts j ≡ Some b
      → StandsFirst asked m a → StandsFirst asked n b → m < n

-- a run asks these keys, one after the other, if m answers
pub data RunAsks (m : Key → Value) : Prog → List Key → Type 0 where
  Ended : (v : Value) → RunAsks m (Ret v) []
  Asked : (k : Key) (f : Value → Prog) (ks : List Key)
      → RunAsks m (f (m k)) ks → RunAsks m (Ask k f) (k ∷ ks)

pub record QueryReadLaws : Type 0 where
  -- a query reads just these of the keys in its list
  pub query : (profile : Profile) (p : Project) (q : Key) (read : List Key)
      → (read ≡ reads profile p q) ↔ AreFirsts (asked_keys profile p q) read
  -- each run asks some keys, and reads just these of them
  pub every : (m : Key → Value) (prog : Prog) → (asked : List Key) × RunAsks m prog asked
  pub run : (m : Key → Value) (prog : Prog) (asked : List Key) → RunAsks m prog asked
      → (read : List Key) → (read ≡ asks prog m []) ↔ AreFirsts asked read
