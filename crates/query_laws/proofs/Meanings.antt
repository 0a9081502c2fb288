-- Queries mean just what the rules give.
use Rattle.std.proofs.Common.{◌≡◌, ◌↔◌, List, Option, option_map, sym}
use Rattle.std.specs.Prelude.{option_and_then}
use Rattle.mj_tree.specs.Trees.{File}
use Rattle.mj_answer.specs.declared.diagnostic.Diagnostic.{Diagnostic}
use Rattle.mj_answer.specs.AnswerValues.{ClassTableValue, AnswerValue}
use Rattle.mj_members.specs.Declarations.{ClassDecl}
use Rattle.mj_classes.specs.Chains.{chain_of}
use Rattle.profiles.specs.declared.profile.Profile.{Profile}
use Rattle.mj_rules.specs.Sentences.{classes_in}
use Rattle.mj_rules.specs.Worlds.{world_of}
use Rattle.mj_rules.specs.Rules.{Rules}
use Rattle.mj_rules.specs.FaultLists.{declaration_faults, class_faults, inside}
use Rattle.mj_rules.specs.Answering.{rules_of}
use Rattle.mj_rules.specs.Tables.{table_of}
use Rattle.mj_rules.proofs.LowerLaws.{chain_laws, member_laws, sentence_law}
use Rattle.mj_rules.proofs.LowerBodies.{body_laws}
use Rattle.mj_rules.proofs.Answering.{answer_law}
use Rattle.tree_bytes.specs.Bodies.{BodyValue}
use Rattle.result_bytes.specs.declared.value.Value.TheVariants as values
use Rattle.result_bytes.specs.declared.files.IndexRow.{IndexRow}
use Rattle.result_bytes.specs.Payloads.{HeaderValue, SignatureValue, ChainValue}
use Rattle.recorder.specs.Projects.{Project}
use Rattle.query_rules.specs.Items.{tree_at, class_at, index_of, header_of, chain_value, body_at, signature_of, mistakes_in, fault_set, faults_of}
use Rattle.query_rules.specs.Meaning.{mean}
use Rattle.query_laws.specs.Given.{IsTreeAt, IsHeaderOf, IsClassChain, AreMembersOf, IsBodyOf, IsSignatureOf, IsFaultOf, IsFaultInside, IsFaultOutside}
use Rattle.query_laws.specs.Laws.{MeanLaws}
use Rattle.query_laws.proofs.Ones.{through, contents, given}
use Rattle.query_laws.proofs.Classes.{tree_given, index_given, header_given, chain_given, members_given}
use Rattle.query_laws.proofs.Bodies.{body_given, signature_given}
use Rattle.query_laws.proofs.Faults.{faults_given, class_faults_right, declaration_faults_right, body_faults_right}

same_tree : (a b : Option File) → values.Tree a ≡ values.Tree b → a ≡ b
same_tree a b e = cc

same_index : (a b : List IndexRow) → values.Index a ≡ values.Index b → a ≡ b
same_index a b e = cc

same_header : (a b : Option HeaderValue) → values.Header a ≡ values.Header b → a ≡ b
same_header a b e = cc

same_method : (a b : Option BodyValue) → values.Method a ≡ values.Method b → a ≡ b
same_method a b e = cc

same_sig : (a b : Option SignatureValue) → values.Sig a ≡ values.Sig b → a ≡ b
same_sig a b e = cc

same_supers : (a b : Option ChainValue) → values.Supers a ≡ values.Supers b → a ≡ b
same_supers a b e = cc

same_members : (a b : Option ClassTableValue) → values.Members a ≡ values.Members b → a ≡ b
same_members a b e = cc

same_check_class : (a b : List Diagnostic) → values.CheckClass a ≡ values.CheckClass b → a ≡ b
same_check_class a b e = cc

same_check_body : (a b : List Diagnostic) → values.CheckBody a ≡ values.CheckBody b → a ≡ b
same_check_body a b e = cc

same_diags : (a b : List Diagnostic) → values.Diags a ≡ values.Diags b → a ≡ b
same_diags a b e = cc

same_answer : (a b : AnswerValue) → values.Answer a ≡ values.Answer b → a ≡ b
same_answer a b e = cc

answer_given : (profile : Profile) (p : Project) (answer : AnswerValue) → (rules_of profile p ≡ answer) ↔ Rules profile p answer
answer_given profile p answer =
    let law = answer_law chain_laws member_laws body_laws sentence_law profile p answer in
    (λ e. law.1 (sym e), λ r. sym (law.0 r))

pub mean_laws : (profile : Profile) (p : Project) → MeanLaws profile p
unfolding mean
mean_laws profile p = record {
  tree = λ f o. through (contents values.Tree same_tree (tree_at p f) o) (given (IsTreeAt p f) (tree_at p f) (tree_given p f) o);
  index = λ rows. through (contents values.Index same_index (index_of p) rows) (index_given p rows);
  header = λ c o. through (contents values.Header same_header (option_map header_of (class_at p c)) o) (given (IsHeaderOf p c) (option_map header_of (class_at p c)) (header_given p c) o);
  method = λ c m o. through (contents values.Method same_method (body_at p c m) o) (given (IsBodyOf p c m) (body_at p c m) (body_given p c m) o);
  sig = λ c m o. through (contents values.Sig same_sig (option_and_then signature_of (body_at p c m)) o)
      (given (IsSignatureOf p c m) (option_and_then signature_of (body_at p c m)) (signature_given p c m) o);
  supers = λ c o. through (contents values.Supers same_supers (option_map chain_value (chain_of (classes_in p) c)) o)
      (given (IsClassChain p c) (option_map chain_value (chain_of (classes_in p) c)) (chain_given p c) o);
  members = λ c o. through (contents values.Members same_members (option_map (λ (k : ClassDecl). table_of (classes_in p) c) (class_at p c)) o)
      (given (AreMembersOf p c) (option_map (λ (k : ClassDecl). table_of (classes_in p) c) (class_at p c)) (members_given p c) o);
  check_class = λ c faults. through (contents values.CheckClass same_check_class (faults_of (declaration_faults profile (classes_in p)) (class_at p c)) faults)
      (faults_given (IsFaultOutside profile p c) (faults_of (declaration_faults profile (classes_in p)) (class_at p c)) (declaration_faults_right profile p c) faults);
  check_body = λ c m faults. through (contents values.CheckBody same_check_body (fault_set (inside m (mistakes_in (world_of (classes_in p)) c (body_at p c m)))) faults)
      (faults_given (IsFaultInside profile p c m) (fault_set (inside m (mistakes_in (world_of (classes_in p)) c (body_at p c m)))) (body_faults_right profile p c m) faults);
  diags = λ c faults. through (contents values.Diags same_diags (faults_of (class_faults profile (classes_in p)) (class_at p c)) faults)
      (faults_given (IsFaultOf profile p c) (faults_of (class_faults profile (classes_in p)) (class_at p c)) (class_faults_right profile p c) faults);
  answer = λ answer. through (contents values.Answer same_answer (rules_of profile p) answer) (answer_given profile p answer);
}
